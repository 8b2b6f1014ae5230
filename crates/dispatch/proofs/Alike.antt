-- Placing under predicates that hold of the same nodes, and on lists of spots that agree.
use Rattle.std.proofs.Common.{◌≡◌, ℕ, ◌+◌, ◌<◌, ◌⊎◌, List, Option, sym, ◌∙◌, inl, inr, arith}
use Rattle.dispatch.specs.declared.spot.Spot.{Spot}
use Rattle.dispatch.specs.Placing.{Waits, MayCome, ComesBefore, Next, NoneMay, Gets, Placed, HasReady}
use Rattle.dispatch.specs.Spots.{spot_at}

-- the same nodes wait, the same of them are kept, and the same of their jobs go ahead
pub record Alike (waits kept ahead waits' kept' ahead' : ℕ → ℕ → Type 0) : Type 0 where
  pub to : (s n : ℕ) → waits s n → waits' s n
  pub from : (s n : ℕ) → waits' s n → waits s n
  pub kept_to : (s n : ℕ) → waits s n → kept s n → kept' s n
  pub kept_from : (s n : ℕ) → waits s n → kept' s n → kept s n
  pub ahead_to : (i k : ℕ) → HasReady waits i → HasReady waits k → ahead i k → ahead' i k
  pub ahead_from : (i k : ℕ) → HasReady waits i → HasReady waits k → ahead' i k → ahead i k

pub alike_back : {waits kept ahead waits' kept' ahead' : ℕ → ℕ → Type 0} → Alike waits kept ahead waits' kept' ahead' → Alike waits' kept' ahead' waits kept ahead
alike_back a = record {
  to = a.from;
  from = a.to;
  kept_to = λ s n w. a.kept_from s n (a.from s n w);
  kept_from = λ s n w. a.kept_to s n (a.from s n w);
  ahead_to = λ i k x y. a.ahead_from i k (x.0, a.from i x.0 x.1) (y.0, a.from k y.0 y.1);
  ahead_from = λ i k x y. a.ahead_to i k (x.0, a.from i x.0 x.1) (y.0, a.from k y.0 y.1);
}

-- the same predicates of nodes that wait alike
pub waits_alike : {waits waits' kept ahead : ℕ → ℕ → Type 0} → ((s n : ℕ) → waits s n → waits' s n) → ((s n : ℕ) → waits' s n → waits s n)
    → Alike waits kept ahead waits' kept ahead
waits_alike to from = record {
  to = to;
  from = from;
  kept_to = λ s n w h. h;
  kept_from = λ s n w h. h;
  ahead_to = λ i k x y h. h;
  ahead_from = λ i k x y h. h;
}

module _ {waits kept ahead waits' kept' ahead' : ℕ → ℕ → Type 0} (a : Alike waits kept ahead waits' kept' ahead') where
  pub may_alike : (s n : ℕ) → MayCome waits ahead s n → MayCome waits' ahead' s n
  may_alike s n m = record {
    waiting = a.to s n m.waiting;
    leads = λ k v w. let h = a.from k v w in a.ahead_to s k (n, m.waiting) (v, h) (m.leads k v h);
  }

  before_alike : (s n k v : ℕ) → waits s n → waits k v → ComesBefore kept s n k v → ComesBefore kept' s n k v
  before_alike s n k v w x (inl b) = inl (record { this = a.kept_to s n w b.this; not_that = λ h. b.not_that (a.kept_from k v x h) })
  before_alike s n k v w x (inr b) =
      inr (record { to = λ h. a.kept_to k v x (b.0.to (a.kept_from s n w h)); from = λ h. a.kept_to s n w (b.0.from (a.kept_from k v x h)) }, b.1)

pub none_alike : {waits kept ahead waits' kept' ahead' : ℕ → ℕ → Type 0} → Alike waits kept ahead waits' kept' ahead' → NoneMay waits ahead → NoneMay waits' ahead'
none_alike a none s n m = none s n (may_alike (alike_back a) s n m)

pub next_alike : {waits kept ahead waits' kept' ahead' : ℕ → ℕ → Type 0} → Alike waits kept ahead waits' kept' ahead' → (s n : ℕ)
    → Next waits kept ahead s n → Next waits' kept' ahead' s n
next_alike {waits} {kept} {ahead} {waits'} {kept'} {ahead'} a s n x =
    record { may = may_alike a s n x.may; before = λ k v m. go k v (may_alike (alike_back a) k v m) (x.before k v (may_alike (alike_back a) k v m)) }
  where
    go : (k v : ℕ) → MayCome waits ahead k v → ((k ≡ s) × (v ≡ n)) ⊎ ComesBefore kept s n k v → ((k ≡ s) × (v ≡ n)) ⊎ ComesBefore kept' s n k v
    go k v m (inl e) = inl e
    go k v m (inr b) = inr (before_alike a s n k v x.may.waiting m.waiting b)

-- ready nodes that are alike wait alike
pub still_alike : {ready kept ahead ready' kept' ahead' : ℕ → ℕ → Type 0} → Alike ready kept ahead ready' kept' ahead' → (spots : List (Option Spot)) (c : ℕ)
    → Alike (Waits ready spots c) kept ahead (Waits ready' spots c) kept' ahead'
still_alike a spots c = record {
  to = λ s n w. record { is_ready = a.to s n w.is_ready; not_placed = w.not_placed };
  from = λ s n w. record { is_ready = a.from s n w.is_ready; not_placed = w.not_placed };
  kept_to = λ s n w. a.kept_to s n w.is_ready;
  kept_from = λ s n w. a.kept_from s n w.is_ready;
  ahead_to = λ i k x y. a.ahead_to i k (x.0, x.1.is_ready) (y.0, y.1.is_ready);
  ahead_from = λ i k x y. a.ahead_from i k (x.0, x.1.is_ready) (y.0, y.1.is_ready);
}

-- a placing under predicates that are alike
pub placed_alike : {ready kept ahead ready' kept' ahead' : ℕ → ℕ → Type 0} → Alike ready kept ahead ready' kept' ahead' → (cores : ℕ) (spots : List (Option Spot)) (busy : ℕ)
    → Placed ready kept ahead cores spots busy → Placed ready' kept' ahead' cores spots busy
placed_alike a cores spots busy p = record {
  sixteen = p.sixteen;
  few = p.few;
  filled = λ c l. let g = p.filled c l in record { got = g.got; told = g.told; next = next_alike (still_alike a spots c) g.got.slot g.got.node g.next };
  no_more = λ l. none_alike (still_alike a spots busy) (p.no_more l);
  idle_else = p.idle_else;
}

-- lists that agree below c
abbrev pub Agree : List (Option Spot) → List (Option Spot) → ℕ → Type 0
Agree spots other c = (b : ℕ) → b < c → spot_at spots b ≡ spot_at other b

pub agree_sym : (spots other : List (Option Spot)) (c : ℕ) → Agree spots other c → Agree other spots c
agree_sym spots other c a b l = sym (a b l)

agree_waits : (ready : ℕ → ℕ → Type 0) (spots other : List (Option Spot)) (c : ℕ) → Agree spots other c
    → (s n : ℕ) → Waits ready spots c s n → Waits ready other c s n
agree_waits ready spots other c a s n w =
    record { is_ready = w.is_ready; not_placed = λ p. w.not_placed (p.0, p.1, a p.0 p.1 ∙ p.2) }

pub agree_alike : (ready kept ahead : ℕ → ℕ → Type 0) (spots other : List (Option Spot)) (c : ℕ) → Agree spots other c
    → Alike (Waits ready spots c) kept ahead (Waits ready other c) kept ahead
agree_alike ready kept ahead spots other c a =
    waits_alike (agree_waits ready spots other c a) (agree_waits ready other spots c (agree_sym spots other c a))

pub gets_agree : (ready kept ahead : ℕ → ℕ → Type 0) (spots other : List (Option Spot)) (c : ℕ) → Agree spots other (c + 1)
    → Gets ready kept ahead spots c → Gets ready kept ahead other c
gets_agree ready kept ahead spots other c a g = record {
  got = g.got;
  told = sym (a c (omega arith)) ∙ g.told;
  next = next_alike (agree_alike ready kept ahead spots other c (λ b l. a b (omega arith))) g.got.slot g.got.node g.next;
}
