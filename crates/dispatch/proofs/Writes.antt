-- Writing a core list.
use Rattle.std.proofs.Common.{◌≡◌, ℕ, ◌+◌, ◌<◌, ◌≢◌, ◌⊎◌, List, length, get_or, set, Option, sym, refl, ap, ◌∙◌, inl, inr, arith}
use Rattle.std.proofs.lemmas.List.{get_or-set_same, get_or-set_other, length-set}
use Rattle.std.proofs.lemmas.Bool.{cases_eq}
use Rattle.dispatch.specs.declared.spot.Spot.{Spot}
use Rattle.dispatch.specs.Spots.{spot_at, told, Written}
use Rattle.dispatch.proofs.Rows.{below_last}

pub written_none : (spots : List (Option Spot)) (list : List ℕ) → Written spots 0 list list
written_none spots list = record { as_long = refl; tells = λ c l. absurd (omega arith); beyond = λ c l. refl }

pub written_more : (spots : List (Option Spot)) (m : ℕ) (before list : List ℕ) (x : ℕ) → m < length list → x ≡ told (spot_at spots m) → Written spots m before list
    → Written spots (m + 1) before (set list m x)
written_more spots m before list x l e w =
    record {
      as_long = length-set list m x ∙ w.as_long;
      tells = λ c lc. tells c lc (cases_eq c m);
      beyond = λ c lc. let d : c ≢ m = λ q. omega arith in get_or-set_other list m c x 0 d ∙ w.beyond c (omega arith);
    }
  where
    tells : (c : ℕ) → c < m + 1 → (c ≡ m) ⊎ (c ≡ m → ⊥) → get_or (set list m x) c 0 ≡ told (spot_at spots c)
    tells c lc (inl q) = ap (λ (i : ℕ). get_or (set list m x) i 0) q ∙ get_or-set_same list m x 0 l ∙ e ∙ ap (λ (i : ℕ). told (spot_at spots i)) (sym q)
    tells c lc (inr d) = get_or-set_other list m c x 0 d ∙ w.tells c (below_last c m lc d)
