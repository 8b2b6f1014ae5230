-- The worked plans.
use Rattle.std.proofs.Common.{[], ◌∷◌, refl, rules}
use Rattle.order.specs.Laws.{Orderly}
use Rattle.order.specs.Orders.{smaller_slot, slot_cap, any_job, no_cap}
use Rattle.bounds.specs.Equation.{sum_to}
use Rattle.bounds.specs.Cases.{CasesRight}
use Rattle.bounds.proofs.Climb.{by_climb, by_passing}

pub fixed : Orderly smaller_slot slot_cap
fixed = search rules

pub free : Orderly any_job no_cap
free = search rules

pub cases_right_lem : CasesRight
unfolding sum_to
cases_right_lem = (
  (
    by_climb smaller_slot slot_cap fixed _ (0 ∷ []) _ refl refl,
    (
      by_climb smaller_slot slot_cap fixed _ (0 ∷ []) _ refl refl,
      (
        by_climb smaller_slot slot_cap fixed _ (0 ∷ []) _ refl refl,
        (
          by_climb smaller_slot slot_cap fixed _ (0 ∷ []) _ refl refl,
          (
            by_climb smaller_slot slot_cap fixed _ (0 ∷ 1 ∷ 1 ∷ []) _ refl refl,
            (
              by_climb smaller_slot slot_cap fixed _ (0 ∷ 1 ∷ 1 ∷ []) _ refl refl,
              (
                by_passing smaller_slot slot_cap fixed _ (0 ∷ 1 ∷ []) _ refl,
                (
                  by_passing any_job no_cap free _ (0 ∷ 1 ∷ 1 ∷ []) _ refl,
                  (
                    by_climb any_job no_cap free _ (0 ∷ 1 ∷ 0 ∷ 1 ∷ 0 ∷ 1 ∷ []) _ refl refl,
                    (
                      by_passing any_job no_cap free _ (1 ∷ 1 ∷ []) _ refl,
                      (
                        by_climb smaller_slot slot_cap fixed _ (0 ∷ 1 ∷ 1 ∷ []) _ refl refl,
                        (by_passing smaller_slot slot_cap fixed _ (0 ∷ []) _ refl, tt),
                      ),
                    ),
                  ),
                ),
              ),
            ),
          ),
        ),
      ),
    ),
  ),
  refl,
)
