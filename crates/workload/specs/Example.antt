-- A task with one opening, of whose branches one is the longer and the other weighs more.
use Rattle.std.specs.Prelude.{ℕ, List, [], ◌∷◌}
use Rattle.table.specs.declared.records.Arc.{Arc}
use Rattle.table.specs.declared.records.Node.{Node}
use Rattle.table.specs.declared.records.Region.TheVariants.{Top, Branch}
use Rattle.table.specs.declared.records.Role.TheVariants.{Plain, Opening, Closing}
use Rattle.task.specs.Graph.{Ranged}
use Rattle.task.specs.Shape.{Shaped}
use Rattle.workload.specs.Measures.{IsGreatestLength, IsGreatestTotal}

-- a plain node in branch b of the opening 0
abbrev pub plain : ℕ → ℕ → Node
plain b t = record { role = Plain; region = Branch 0 b; time = t }

abbrev pub example : List Node
example =
    record { role = Opening; region = Top; time = 1 } ∷ plain 0 10 ∷ plain 1 1 ∷ plain 1 6 ∷ plain 1 6 ∷ plain 1 6 ∷ plain 1 1
    ∷ record { role = Closing 0; region = Top; time = 1 } ∷ []

abbrev pub arc : ℕ → ℕ → Arc
arc u v = record { from = u; to = v }

abbrev pub example_arcs : List Arc
example_arcs = arc 0 1 ∷ arc 0 2 ∷ arc 2 3 ∷ arc 2 4 ∷ arc 2 5 ∷ arc 3 6 ∷ arc 4 6 ∷ arc 5 6 ∷ arc 1 7 ∷ arc 6 7 ∷ []

-- the longest path goes through the one branch, and the greatest total through the other
pub record ExampleStands : Type 0 where
  pub ranged : Ranged example example_arcs
  pub shaped : Shaped example example_arcs
  pub length_is_12 : IsGreatestLength example example_arcs 12
  pub total_is_22 : IsGreatestTotal example 22
