-- The rules by their numbers, and how a task breaks one.
use Rattle.std.specs.Prelude.{ℕ, ◌<◌, List, length}
use Rattle.table.specs.declared.records.Arc.{Arc}
use Rattle.table.specs.declared.records.Node.{Node}
use Rattle.task.specs.declared.rules.Rule.{Rule}
use Rattle.task.specs.declared.rules.Rule.TheVariants.{HomesAreOpenings, MatesPairUp, BranchesCountUp, ArcsAreLawful, OneFirstOneLast, BlocksAreWired}
use Rattle.task.specs.Shape.{HomeOpens, PairsUp, CountsUp, LawfulArc, HasEndsAt, Wired}
use Rattle.sets.specs.Tests.{FailsFirst}

abbrev pub rule_number : Rule → ℕ
rule_number HomesAreOpenings = 1
rule_number MatesPairUp = 2
rule_number BranchesCountUp = 3
rule_number ArcsAreLawful = 4
rule_number OneFirstOneLast = 5
rule_number BlocksAreWired = 6

-- how many nodes the rule speaks of, or arcs
abbrev pub places : List Node → List Arc → Rule → ℕ
places ns arcs HomesAreOpenings = length ns
places ns arcs MatesPairUp = length ns
places ns arcs BranchesCountUp = length ns
places ns arcs ArcsAreLawful = length arcs
places ns arcs OneFirstOneLast = length ns
places ns arcs BlocksAreWired = length ns

-- what the rule says of the node v, or of the arc at that place
abbrev pub HoldsAt : List Node → List Arc → Rule → ℕ → Type 0
HoldsAt ns arcs HomesAreOpenings v = HomeOpens ns v
HoldsAt ns arcs MatesPairUp v = PairsUp ns v
HoldsAt ns arcs BranchesCountUp v = CountsUp ns v
HoldsAt ns arcs ArcsAreLawful v = LawfulArc ns arcs v
HoldsAt ns arcs OneFirstOneLast v = HasEndsAt ns arcs v
HoldsAt ns arcs BlocksAreWired v = Wired ns arcs v

abbrev pub Holds : List Node → List Arc → Rule → Type 0
Holds ns arcs rule = (v : ℕ) → v < places ns arcs rule → HoldsAt ns arcs rule v

-- the rule is the first that is broken, and is so first at the node or arc `at`
pub record BrokenAt (ns : List Node) (arcs : List Arc) (rule : Rule) (at : ℕ) : Type 0 where
  pub earlier : (r : Rule) → rule_number r < rule_number rule → Holds ns arcs r
  pub here : FailsFirst (HoldsAt ns arcs rule) (places ns arcs rule) at
