-- What follows of placing, whatever is ready, kept and ahead.
use Rattle.std.proofs.Common.{◌≡◌, ℕ, zero, suc, ◌<◌, ◌≤◌, ◌⊎◌, List, Some, None, Option, sym, ap, ◌∙◌, subst, inl, inr, arith}
use Rattle.std.proofs.lemmas.List.{ext_get_or}
use Rattle.std.proofs.lemmas.Bool.{cases_eq, cases_lt, cases_order}
use Rattle.dispatch.specs.declared.spot.Spot.{Spot}
use Rattle.dispatch.specs.Placing.{Waits, MayCome, ComesBefore, Next, Gets, Placed, HasReady, Orderly, SparesNone, EachOnce}
use Rattle.dispatch.specs.Spots.{spot, spot_at}
use Rattle.dispatch.proofs.Alike.{Agree, agree_sym, agree_alike, next_alike}

-- of two nodes only one comes before the other
one_way : (kept : ℕ → ℕ → Type 0) (s n k v : ℕ) → ComesBefore kept s n k v → ComesBefore kept k v s n → ⊥
one_way kept s n k v (inl a) (inl b) = b.not_that a.this
one_way kept s n k v (inl a) (inr b) = a.not_that (b.0.from a.this)
one_way kept s n k v (inr a) (inl b) = b.not_that (a.0.from b.this)
one_way kept s n k v (inr a) (inr b) = turns a.1 b.1
  where
    turns : (s < k) ⊎ ((s ≡ k) × (n < v)) → (k < s) ⊎ ((k ≡ s) × (v < n)) → ⊥
    turns (inl a) (inl b) = omega arith
    turns (inl a) (inr b) = omega (arith, b.0)
    turns (inr a) (inl b) = omega (arith, a.0)
    turns (inr a) (inr b) = omega (arith, a.1, b.1)

next_one : (waits kept ahead : ℕ → ℕ → Type 0) (s n k v : ℕ) → Next waits kept ahead s n → Next waits kept ahead k v → (s ≡ k) × (n ≡ v)
next_one waits kept ahead s n k v x y = go (x.before k v y.may) (y.before s n x.may)
  where
    go : ((k ≡ s) × (v ≡ n)) ⊎ ComesBefore kept s n k v → ((s ≡ k) × (n ≡ v)) ⊎ ComesBefore kept k v s n → (s ≡ k) × (n ≡ v)
    go (inl e) b = (sym e.0, sym e.1)
    go (inr a) (inl e) = e
    go (inr a) (inr b) = absurd (one_way kept s n k v a b)

same_spot : (p q : Spot) → p.slot ≡ q.slot → p.node ≡ q.node → p ≡ q
same_spot p q e f = ap (λ (s : ℕ). spot s p.node) e ∙ ap (λ (n : ℕ). spot q.slot n) f

some_is : {p q : Spot} {x : Option Spot} → x ≡ Some p → x ≡ Some q → p ≡ q
some_is e f = cc

not_both : {p : Spot} {x : Option Spot} → x ≡ Some p → x ≡ None → ⊥
not_both e f = let z : ◌≡◌ {A = ℕ} 0 1 = cc in omega arith

last_or_below : (j n : ℕ) → j < suc n → (j ≡ n → ⊥) → j < n
last_or_below j n l d = grind arith

module _ (ready kept ahead : ℕ → ℕ → Type 0) where
  -- lists on which each core below m got the next node agree
  agree_filled : (spots other : List (Option Spot)) (m : ℕ) → ((c : ℕ) → c < m → Gets ready kept ahead spots c)
      → ((c : ℕ) → c < m → Gets ready kept ahead other c) → Agree spots other m
  agree_filled spots other zero f g = λ b l. absurd (omega arith)
  agree_filled spots other (suc m) f g =
      more (agree_filled spots other m (λ c l. f c (omega arith)) (λ c l. g c (omega arith)))
    where
      more : Agree spots other m → Agree spots other (suc m)
      more a b l = go (cases_eq b m)
        where
          x : Gets ready kept ahead spots m
          x = f m (omega arith)

          y : Gets ready kept ahead other m
          y = g m (omega arith)

          same : x.got ≡ y.got
          same =
              let e = next_one (Waits ready spots m) kept ahead x.got.slot x.got.node y.got.slot y.got.node x.next
              (next_alike (agree_alike ready kept ahead other spots m (agree_sym spots other m a)) y.got.slot y.got.node y.next) in
              same_spot x.got y.got e.0 e.1

          go : (b ≡ m) ⊎ (b ≡ m → ⊥) → spot_at spots b ≡ spot_at other b
          go (inl e) = ap (spot_at spots) e ∙ x.told ∙ ap (λ (p : Spot). Some p) same ∙ sym y.told ∙ ap (spot_at other) (sym e)
          go (inr d) = a b (last_or_below b m l d)

  module _ (cores : ℕ) where
    not_fewer : (spots other : List (Option Spot)) (busy more : ℕ) → Placed ready kept ahead cores spots busy → Placed ready kept ahead cores other more → busy < more → ⊥
    not_fewer spots other busy more p q l =
        let g = q.filled busy l in
        let a = agree_filled other spots busy (λ c lc. q.filled c (omega arith)) p.filled in
        p.no_more (omega (arith, q.few)) g.got.slot g.got.node
        (next_alike (agree_alike ready kept ahead other spots busy a) g.got.slot g.got.node g.next).may

    -- at most one placing is right
    pub one_placing : (spots other : List (Option Spot)) (busy more : ℕ) → Placed ready kept ahead cores spots busy → Placed ready kept ahead cores other more
        → (spots ≡ other) × (busy ≡ more)
    one_placing spots other busy more p q =
        (ext_get_or None spots other (p.sixteen ∙ sym q.sixteen) (λ i _. each i (cases_lt i busy)), same)
      where
        same : busy ≡ more
        same = go (cases_order busy more)
          where
            go : (busy ≡ more) ⊎ ((busy < more) ⊎ (more < busy)) → busy ≡ more
            go (inl e) = e
            go (inr (inl l)) = absurd (not_fewer spots other busy more p q l)
            go (inr (inr l)) = absurd (not_fewer other spots more busy q p l)

        each : (i : ℕ) → (i < busy) ⊎ (busy ≤ i) → spot_at spots i ≡ spot_at other i
        each i (inl l) = agree_filled spots other busy p.filled (λ c lc. q.filled c (let e = same in omega arith)) i l
        each i (inr l) = p.idle_else i l ∙ sym (q.idle_else i (let e = same in omega arith))

    -- the cores run ready nodes, each once
    pub places_once : (spots : List (Option Spot)) (busy : ℕ) → Placed ready kept ahead cores spots busy → EachOnce ready spots
    places_once spots busy p = record { ready_ones = λ c q e. readied c q e (cases_lt c busy); once = λ b c q e f. once b c q e f (cases_order b c) }
      where
        readied : (c : ℕ) (q : Spot) → spot_at spots c ≡ Some q → (c < busy) ⊎ (busy ≤ c) → ready q.slot q.node
        readied c q e (inl l) =
            let g = p.filled c l in
            subst (λ (x : Spot). ready x.slot x.node) (some_is g.told e) g.next.may.waiting.is_ready
        readied c q e (inr l) = absurd (not_both e (p.idle_else c l))

        later : (b c : ℕ) (q : Spot) → spot_at spots b ≡ Some q → spot_at spots c ≡ Some q → b < c → (c < busy) ⊎ (busy ≤ c) → ⊥
        later b c q e f l (inl m) =
            let g = p.filled c m in g.next.may.waiting.not_placed (b, l, e ∙ ap (λ (x : Spot). Some x) (some_is f g.told))
        later b c q e f l (inr m) = not_both f (p.idle_else c m)

        once : (b c : ℕ) (q : Spot) → spot_at spots b ≡ Some q → spot_at spots c ≡ Some q → (b ≡ c) ⊎ ((b < c) ⊎ (c < b)) → b ≡ c
        once b c q e f (inl h) = h
        once b c q e f (inr (inl l)) = absurd (later b c q e f l (cases_lt c busy))
        once b c q e f (inr (inr l)) = absurd (later c b q f e l (cases_lt b busy))

-- of the slots below m in which a node waits, one goes ahead of all
record Leader (waits ahead : ℕ → ℕ → Type 0) (m : ℕ) : Type 0 where
  pub slot : ℕ
  pub node : ℕ
  pub waiting : waits slot node
  pub leads : (k v : ℕ) → k < m → waits k v → ahead slot k

abbrev NoneWaits : (ℕ → ℕ → Type 0) → ℕ → Type 0
NoneWaits waits m = (k v : ℕ) → k < m → waits k v → ⊥

-- a case or its denial is never denied
not_neither : {P : Type 0} → (P ⊎ (P → ⊥) → ⊥) → ⊥
not_neither k = k (inr (λ p. k (inl p)))

module _ (waits ahead : ℕ → ℕ → Type 0) (o : Orderly waits ahead) where
  itself : (s : ℕ) → HasReady waits s → ahead s s
  itself s w = go (o.total s s w w)
    where
      go : ahead s s ⊎ ahead s s → ahead s s
      go (inl a) = a
      go (inr a) = a

  step : (m s n : ℕ) → waits s n → ((k v : ℕ) → k < m → waits k v → ahead s k) → ((v : ℕ) → waits m v → ahead s m) → Leader waits ahead (suc m)
  step m s n w below here = record { slot = s; node = n; waiting = w; leads = λ k v l h. at k v l h (cases_eq k m) }
    where
      at : (k v : ℕ) → k < suc m → waits k v → (k ≡ m) ⊎ (k ≡ m → ⊥) → ahead s k
      at k v l h (inl e) = subst (λ (i : ℕ). ahead s i) (sym e) (here v (subst (λ (i : ℕ). waits i v) e h))
      at k v l h (inr d) = below k v (last_or_below k m l d) h

  versus : (m : ℕ) (f : Leader waits ahead m) (n : ℕ) → waits m n → ahead f.slot m ⊎ ahead m f.slot → Leader waits ahead (suc m)
  versus m f n w (inl a) = step m f.slot f.node f.waiting f.leads (λ v h. a)
  versus m f n w (inr a) =
      step m m n w (λ k v l h. o.passes_on m f.slot k (n, w) (f.node, f.waiting) (v, h) a (f.leads k v l h)) (λ v h. itself m (n, w))

  one_more : (m : ℕ) → Leader waits ahead m ⊎ NoneWaits waits m → HasReady waits m ⊎ (HasReady waits m → ⊥) → Leader waits ahead (suc m) ⊎ NoneWaits waits (suc m)
  one_more m (inl f) (inl w) = inl (versus m f w.0 w.1 (o.total f.slot m (f.node, f.waiting) w))
  one_more m (inl f) (inr h) = inl (step m f.slot f.node f.waiting f.leads (λ v w. absurd (h (v, w))))
  one_more m (inr e) (inl w) = inl (step m m w.0 w.1 (λ k v l h. absurd (e k v l h)) (λ v h. itself m w))
  one_more m (inr e) (inr h) = inr (λ k v l w. at k v l w (cases_eq k m))
    where
      at : (k v : ℕ) → k < suc m → waits k v → (k ≡ m) ⊎ (k ≡ m → ⊥) → ⊥
      at k v l w (inl q) = h (v, subst (λ (i : ℕ). waits i v) q w)
      at k v l w (inr d) = e k v (last_or_below k m l d) w

  -- it is not denied that one of the slots below m leads, or that none waits there
  leader : (m : ℕ) → (Leader waits ahead m ⊎ NoneWaits waits m → ⊥) → ⊥
  leader zero k = k (inr (λ i v l w. omega arith))
  leader (suc m) k = leader m (λ f. not_neither (λ d. k (one_more m f d)))

  -- so someone may come while a node waits, of slots that are bounded
  pub someone_may : (m : ℕ) → ((s n : ℕ) → waits s n → s < m) → (k w : ℕ) → waits k w → ((s n : ℕ) → MayCome waits ahead s n → ⊥) → ⊥
  someone_may m few k w h none = leader m go
    where
      go : Leader waits ahead m ⊎ NoneWaits waits m → ⊥
      go (inl f) = none f.slot f.node (record { waiting = f.waiting; leads = λ i v x. f.leads i v (few i v x) x })
      go (inr e) = e k w (few k w h) h

waited : (ready : ℕ → ℕ → Type 0) (spots : List (Option Spot)) (b c k w : ℕ) → b ≤ c → Waits ready spots c k w → Waits ready spots b k w
waited ready spots b c k w l h = record { is_ready = h.is_ready; not_placed = λ p. h.not_placed (p.0, wide p.0 p.1, p.2) }
  where
    wide : (i : ℕ) → i < b → i < c
    wide i li = omega arith

-- a ready node without a core means that all cores are busy with nodes of jobs that go ahead of its job
pub conserving : (ready kept ahead : ℕ → ℕ → Type 0) (m : ℕ) → ((s n : ℕ) → ready s n → s < m) → Orderly ready ahead
    → (cores : ℕ) (spots : List (Option Spot)) (busy : ℕ) → Placed ready kept ahead cores spots busy → SparesNone ready ahead cores spots busy
conserving ready kept ahead m few o cores spots busy p =
    record { all_busy = all_busy; all_ahead = λ k w h c l q e. all_ahead k w h c l q e (p.filled c (let b = all_busy k w h in omega arith)) }
  where
    order : (c : ℕ) → Orderly (Waits ready spots c) ahead
    order c = record {
      total = λ i k x y. o.total i k (x.0, x.1.is_ready) (y.0, y.1.is_ready);
      passes_on = λ i k l x y z. o.passes_on i k l (x.0, x.1.is_ready) (y.0, y.1.is_ready) (z.0, z.1.is_ready);
    }

    all_busy : (k w : ℕ) → Waits ready spots cores k w → busy ≡ cores
    all_busy k w h = go (cases_lt busy cores)
      where
        go : (busy < cores) ⊎ (cores ≤ busy) → busy ≡ cores
        go (inl l) =
            absurd (someone_may (Waits ready spots busy) ahead (order busy) m (λ s n x. few s n x.is_ready) k w
            (waited ready spots busy cores k w (omega arith) h) (p.no_more l))
        go (inr l) = omega (arith, p.few)

    all_ahead : (k w : ℕ) → Waits ready spots cores k w → (c : ℕ) → c < cores → (q : Spot) → spot_at spots c ≡ Some q → Gets ready kept ahead spots c → ahead q.slot k
    all_ahead k w h c l q e g =
        subst (λ (x : Spot). ahead x.slot k) (some_is g.told e) (g.next.may.leads k w (waited ready spots c cores k w (omega arith) h))
