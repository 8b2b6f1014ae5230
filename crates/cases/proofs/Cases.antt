-- The worked cases hold.
use Rattle.std.proofs.Common.{List, [], ◌∷◌, ◌++◌, map, refl}
use Rattle.std.specs.List.{AllByRecursion}
use Rattle.bounds.specs.Cases.{Case as PlanCase, cases as plans, AllRight, CasesRight}
use Rattle.table.specs.Cases.{CasesStand}
use Rattle.workload.specs.Example.{example, example_arcs, ExampleStands}
use Rattle.cases.specs.Cases.{Case, Measures, Holds, of_plan, other_cases, CasesHold}
use Rattle.cases.proofs.Lamp.{lamp_measures}

-- plans that are all right hold, before other cases
plans_hold : (ps : List PlanCase) (rest : List Case) → AllRight ps → AllByRecursion Holds rest → AllByRecursion Holds (map of_plan ps ++ rest)
plans_hold [] rest right others = others
plans_hold (p ∷ ps) rest right others = (right.0, plans_hold ps rest right.1 others)

pub cases_hold : ExampleStands → CasesRight → CasesStand → CasesHold
cases_hold splice right table =
    let s : Measures example example_arcs 12 22 = (splice.length_is_12, splice.total_is_22) in
    let l = lamp_measures in
    let others : AllByRecursion Holds other_cases =
    (table.longest_time, (table.no_time, (table.too_long_time, ((refl, refl), ((refl, refl), (right.1, tt)))))) in
    (s, (l, (s, (s, (s, (l, (l, (l, plans_hold plans other_cases right.0 others))))))))
