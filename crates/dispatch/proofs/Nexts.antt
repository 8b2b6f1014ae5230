-- The search gives the node that comes next.
use Rattle.std.proofs.Common.{◌≡◌, ℕ, ◌/◌, ◌%◌, ◌^◌, ◌<◌, ◌⊎◌, List, Some, None, Option, sym, refl, subst, inl, inr, MatchOption}
use Rattle.std.proofs.lemmas.Bool.{cases_eq, cases_order}
use Rattle.sets.specs.declared.bit_set.BitSet.{BitSet}
use Rattle.sets.specs.Sets.{Has, Marks}
use Rattle.dispatch.specs.declared.spot.Spot.{Spot}
use Rattle.dispatch.specs.Placing.{MayCome, KeptAlike, ComesBefore, Next, NoneMay}
use Rattle.dispatch.specs.Search.{RowHas, HasWaiting, AheadOfAll, NoneAhead, FirstAhead}
use Rattle.dispatch.specs.Tables.{row, AheadIn}

-- a slot and a node that are not behind another's
in_turn : (s n k v : ℕ) → (k < s → ⊥) → (k ≡ s → v < n → ⊥) → ((k ≡ s) × (v ≡ n)) ⊎ ((s < k) ⊎ ((s ≡ k) × (n < v)))
in_turn s n k v a b = go (cases_order s k)
  where
    within : s ≡ k → (n ≡ v) ⊎ ((n < v) ⊎ (v < n)) → ((k ≡ s) × (v ≡ n)) ⊎ ((s < k) ⊎ ((s ≡ k) × (n < v)))
    within e (inl f) = inl (sym e, sym f)
    within e (inr (inl l)) = inr (inr (e, l))
    within e (inr (inr l)) = absurd (b (sym e) l)

    go : (s ≡ k) ⊎ ((s < k) ⊎ (k < s)) → ((k ≡ s) × (v ≡ n)) ⊎ ((s < k) ⊎ ((s ≡ k) × (n < v)))
    go (inl e) = within e (cases_order n v)
    go (inr (inl l)) = inr (inl l)
    go (inr (inr l)) = absurd (a l)

alike : (kept : ℕ → ℕ → Type 0) (s n k v : ℕ) → KeptAlike kept s n k v → ((k ≡ s) × (v ≡ n)) ⊎ ((s < k) ⊎ ((s ≡ k) × (n < v)))
    → ((k ≡ s) × (v ≡ n)) ⊎ ComesBefore kept s n k v
alike kept s n k v a (inl e) = inl e
alike kept s n k v a (inr t) = inr (inr (a, t))

module _ (left kept ahead both : List BitSet) (slots : BitSet) (w : Marks (HasWaiting left) slots)
    (b : (s : ℕ) → s < 16 → Marks (λ n. Has (row left s) n × Has (row kept s) n) (row both s)) where
  -- the set of the slots that wait says who goes ahead of all that wait
  leads_all : (s n : ℕ) → RowHas left s n → AheadOfAll (row ahead s) slots → MayCome (RowHas left) (AheadIn ahead) s n
  leads_all s n r a = record { waiting = r; leads = λ k v h. a k (w.every k (v, h)) }

  all_led : (s n : ℕ) → MayCome (RowHas left) (AheadIn ahead) s n → AheadOfAll (row ahead s) slots
  all_led s n m k h = let o = w.only k h in m.leads k o.0 o.1

  known_kept : (k v : ℕ) → k < 16 → RowHas kept k v ⊎ (RowHas kept k v → ⊥)
  known_kept k v l = go (cases_eq ((row kept k).bits / 2 ^ v % 2) 1)
    where
      go : Has (row kept k) v ⊎ (Has (row kept k) v → ⊥) → RowHas kept k v ⊎ (RowHas kept k v → ⊥)
      go (inl h) = inl (record { slot_below = l; inside = h })
      go (inr h) = inr (λ r. h r.inside)

  in_both : (k v : ℕ) → RowHas left k v → RowHas kept k v → Has (row both k) v
  in_both k v r h = (b k r.slot_below).every v (r.inside, h.inside)

  -- a kept node leads
  pub next_kept : (s n : ℕ) → FirstAhead both slots ahead s n → Next (RowHas left) (RowHas kept) (AheadIn ahead) s n
  next_kept s n f = record { may = leads_all s n here f.leads; before = λ k v m. go k v m (known_kept k v m.waiting.slot_below) }
    where
      here : RowHas left s n
      here = record { slot_below = f.slot_below; inside = ((b s f.slot_below).only n f.least.inside).0 }

      is_kept : RowHas kept s n
      is_kept = record { slot_below = f.slot_below; inside = ((b s f.slot_below).only n f.least.inside).1 }

      go : (k v : ℕ) → MayCome (RowHas left) (AheadIn ahead) k v → RowHas kept k v ⊎ (RowHas kept k v → ⊥)
          → ((k ≡ s) × (v ≡ n)) ⊎ ComesBefore (RowHas kept) s n k v
      go k v m (inr h) = inr (inl (record { this = is_kept; not_that = h }))
      go k v m (inl h) =
          alike (RowHas kept) s n k v (record { to = λ _. h; from = λ _. is_kept })
          (in_turn s n k v
          (λ l. f.none_before k v l (in_both k v m.waiting h) (all_led k v m))
          (λ e l. f.least.none_below v l (subst (λ (x : ℕ). Has (row both x) v) e (in_both k v m.waiting h))))

  -- no kept node leads, and another does
  pub next_any : (s n : ℕ) → NoneAhead both slots ahead 16 → FirstAhead left slots ahead s n → Next (RowHas left) (RowHas kept) (AheadIn ahead) s n
  next_any s n none f =
      record {
        may = come;
        before = λ k v m.
            alike (RowHas kept) s n k v (record { to = λ h. absurd (not_kept s n come h); from = λ h. absurd (not_kept k v m h) })
            (in_turn s n k v
            (λ l. f.none_before k v l m.waiting.inside (all_led k v m))
            (λ e l. f.least.none_below v l (subst (λ (x : ℕ). Has (row left x) v) e m.waiting.inside)));
      }
    where
      come : MayCome (RowHas left) (AheadIn ahead) s n
      come = leads_all s n (record { slot_below = f.slot_below; inside = f.least.inside }) f.leads

      not_kept : (k v : ℕ) → MayCome (RowHas left) (AheadIn ahead) k v → RowHas kept k v → ⊥
      not_kept k v m h = none k v m.waiting.slot_below (in_both k v m.waiting h) (all_led k v m)

  none_next : NoneAhead left slots ahead 16 → NoneMay (RowHas left) (AheadIn ahead)
  none_next none s n m = none s n m.waiting.slot_below m.waiting.inside (all_led s n m)

  pub next_or_none : (found : Option Spot) → NoneAhead both slots ahead 16
      → MatchOption found (NoneAhead left slots ahead 16) (λ p. FirstAhead left slots ahead p.slot p.node)
      → MatchOption found (NoneMay (RowHas left) (AheadIn ahead)) (λ p. Next (RowHas left) (RowHas kept) (AheadIn ahead) p.slot p.node)
  next_or_none None none h = none_next h
  next_or_none (Some p) none h = next_any p.slot p.node none h

  -- a kept node that leads, or else any node that does
  pub next_found : (first result : Option Spot) → MatchOption first (NoneAhead both slots ahead 16) (λ p. FirstAhead both slots ahead p.slot p.node)
      → (first ≡ None → MatchOption result (NoneAhead left slots ahead 16) (λ p. FirstAhead left slots ahead p.slot p.node))
      → ((p : Spot) → first ≡ Some p → result ≡ Some p)
      → MatchOption result (NoneMay (RowHas left) (AheadIn ahead)) (λ p. Next (RowHas left) (RowHas kept) (AheadIn ahead) p.slot p.node)
  next_found None result none again same = next_or_none result none (again refl)
  next_found (Some p) result found again same =
      subst (λ (x : Option Spot). MatchOption x (NoneMay (RowHas left) (AheadIn ahead)) (λ q. Next (RowHas left) (RowHas kept) (AheadIn ahead) q.slot q.node))
      (sym (same p refl)) (next_kept p.slot p.node found)
