use Rattle.std.proofs.Common.{Some, None, Option, ap, arith, rules}
use Rattle.std.specs.Option.{IsSome}
use Rattle.table.specs.declared.records.Timing.{Timing}
use Rattle.bounds.specs.declared.plan.Demand.{Demand}
use Rattle.task.proofs.Recovered.{lawful_task}
use Rattle.admission.proofs.Asked.{in_demand}
use Rattle.admission.proofs.demand_of.Goals as goal

-- what is there where nothing forbids it
there : (P : Demand → Type 0) (N : Type 0) (r : Option Demand) → elim r as (λ _. Type 0) [ Some d ↦ P d | None ↦ N ] → (N → ⊥) → IsSome r
there P N (Some d) h none = search rules
there P N None h none = absurd (none h)

pub unwrap-requires : goal.unwrap-requires
unwrap-requires c =
    let table = c.args.task.now.table in
    let measured = c.length_and_total-longest in
    let d = in_demand table (lawful_task table c.args.task.now.lawful) measured.result.0 measured.result.1
    measured.ensures.length measured.ensures.total in
    let period = ap (λ (t : Timing). t.period) c.timing-timing.ensures in
    let deadline = ap (λ (t : Timing). t.deadline) c.timing-timing.ensures in
    let deadline-some = d.some_deadline in
    let deadline-within = d.in_period in
    let length_some = d.some_length in
    let length-within = d.in_total in
    there _ _ c.new.result c.new.ensures
    (λ none. none (omega arith) (omega arith) (omega (arith, d.short_period)) (omega arith) (omega arith) (omega (arith, d.small_total)))
