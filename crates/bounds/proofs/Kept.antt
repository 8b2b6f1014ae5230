-- The caps that are kept are the order's.
use Rattle.std.proofs.Common.{◌≡◌, ℕ, ◌<◌, List, Some, Option}
use Rattle.bounds.specs.declared.plan.Demand.{Demand}
use Rattle.bounds.specs.declared.plan.Plan.{Plan}
use Rattle.bounds.specs.Equation.{Caps, held, cap_of, side, right_side}
use Rattle.bounds.specs.Steps.{Current, kept}
use Rattle.bounds.proofs.Sides.{side_same}

module _ (most : Caps) (p : Plan) (R : List ℕ) (C : List (List (Option ℕ))) (now : Current most p R C) where
  pub side_kept : (k : ℕ) (d : Demand) → k < 16 → held p k ≡ Some d → side (kept C k) p R k d ≡ right_side most p R k d
  side_kept k d l h = side_same (kept C k) (cap_of most R k d) p R k (λ i e li ne hi. (now.rows i li).asked k e d l ne hi h) d
