-- Paths with one node more at the end.
use Rattle.std.proofs.Common.{◌≡◌, ℕ, ◌+◌, sym, refl, subst, arith}
use Rattle.paths.specs.Paths.{Path, end, step, first, last, Each, Chain}
use Rattle.jobs.specs.Statements.{ran_along}

-- the path goes on to w
abbrev pub onward : Path → ℕ → Path
onward (end v) w = step v (end w)
onward (step v p) w = step v (onward p w)

pub onward_last : (p : Path) (w : ℕ) → last (onward p w) ≡ w
onward_last (end v) w = refl
onward_last (step v p) w = onward_last p w

onward_first : (p : Path) (w : ℕ) → first (onward p w) ≡ first p
onward_first (end v) w = refl
onward_first (step v p) w = refl

pub onward_each : (P : ℕ → Type 0) (p : Path) (w : ℕ) → Each P p → P w → Each P (onward p w)
onward_each P (end v) w each here = (each, here)
onward_each P (step v p) w each here = (each.0, onward_each P p w each.1 here)

pub onward_chain : (Joins : ℕ → ℕ → Type 0) (p : Path) (w : ℕ) → Chain Joins p → Joins (last p) w → Chain Joins (onward p w)
onward_chain Joins (end v) w chain joins = (joins, tt)
onward_chain Joins (step v p) w chain joins = (subst (Joins v) (sym (onward_first p w)) chain.0, onward_chain Joins p w chain.1 joins)

pub onward_ran : (ran : ℕ → ℕ) (p : Path) (w : ℕ) → ran_along ran (onward p w) ≡ ran_along ran p + ran w
onward_ran ran (end v) w = refl
onward_ran ran (step v p) w = omega (arith, onward_ran ran p w)

pub each_implies : (P Q : ℕ → Type 0) → ((v : ℕ) → P v → Q v) → (p : Path) → Each P p → Each Q p
each_implies P Q f (end v) each = f v each
each_implies P Q f (step v p) each = (f v each.0, each_implies P Q f p each.1)
