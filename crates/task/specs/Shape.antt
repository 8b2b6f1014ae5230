-- The shape of a task: six rules, each a condition of every node or of every arc.
use Rattle.std.specs.Prelude.{◌≡◌, ℕ, suc, ◌<◌, List, length, ◌≢◌}
use Rattle.table.specs.declared.records.Arc.{Arc}
use Rattle.table.specs.declared.records.Node.{Node}
use Rattle.table.specs.declared.records.Region.{Region}
use Rattle.table.specs.declared.records.Role.TheVariants.{Opening, Closing}
use Rattle.sets.specs.Sets.{JustOne}
use Rattle.task.specs.Graph.{role, region, from, to, IsNode, HomeOf, InRegion, HasBranch, ClosingOf, Joined, Entry, Exit, OfAKind, First, Last}

-- the home of v, where it has one, is an opening
abbrev pub HomeOpens : List Node → ℕ → Type 0
HomeOpens ns v = (h : ℕ) → HomeOf ns v h → role ns h ≡ Opening

abbrev pub AllHomesAreOpenings : List Node → Type 0
AllHomesAreOpenings ns = (v : ℕ) → IsNode ns v → HomeOpens ns v

-- o has just one closing, in its own region
pub record ClosedOnce (ns : List Node) (o : ℕ) : Type 0 where
  pub one_closing : JustOne (ClosingOf ns o)
  pub beside : (c : ℕ) → ClosingOf ns o c → region ns c ≡ region ns o

-- a closing's mate is an opening, and an opening is closed once
pub record PairsUp (ns : List Node) (v : ℕ) : Type 0 where
  pub mate_opens : (o : ℕ) → role ns v ≡ Closing o → role ns o ≡ Opening
  pub closed_once : role ns v ≡ Opening → ClosedOnce ns v

abbrev pub AllMatesPairUp : List Node → Type 0
AllMatesPairUp ns = (v : ℕ) → IsNode ns v → PairsUp ns v

-- the branches of o are numbered from 0 and none is skipped
pub record BranchesRun (ns : List Node) (o : ℕ) : Type 0 where
  pub branch_zero : HasBranch ns o 0
  pub none_skipped : (b : ℕ) → HasBranch ns o (suc b) → HasBranch ns o b

abbrev pub CountsUp : List Node → ℕ → Type 0
CountsUp ns v = role ns v ≡ Opening → BranchesRun ns v

abbrev pub AllBranchesCountUp : List Node → Type 0
AllBranchesCountUp ns = (v : ℕ) → IsNode ns v → CountsUp ns v

-- the arc at the place k is of one of the three kinds, and no earlier arc has the same ends
pub record LawfulArc (ns : List Node) (arcs : List Arc) (k : ℕ) : Type 0 where
  pub kind : OfAKind ns (from arcs k) (to arcs k)
  pub not_before : (j : ℕ) → j < k → from arcs j ≡ from arcs k → to arcs j ≢ to arcs k

abbrev pub AllArcsAreLawful : List Node → List Arc → Type 0
AllArcsAreLawful ns arcs = (k : ℕ) → k < length arcs → LawfulArc ns arcs k

-- in the region r just one unit has no inner arc into it, and just one has none out of it
pub record HasEnds (ns : List Node) (arcs : List Arc) (r : Region) : Type 0 where
  pub one_first : JustOne (λ u. InRegion ns r u × First ns arcs u)
  pub one_last : JustOne (λ u. InRegion ns r u × Last ns arcs u)

-- the region of v has its ends
abbrev pub HasEndsAt : List Node → List Arc → ℕ → Type 0
HasEndsAt ns arcs v = HasEnds ns arcs (region ns v)

abbrev pub AllHaveOneFirstOneLast : List Node → List Arc → Type 0
AllHaveOneFirstOneLast ns arcs = (v : ℕ) → IsNode ns v → HasEndsAt ns arcs v

-- In a branch, an entry arc runs from the home to the first unit and to no other, and an exit arc from the last unit and from no other
-- to the closing whose mate is the home
pub record Wired (ns : List Node) (arcs : List Arc) (v : ℕ) : Type 0 where
  pub entry_there : (h : ℕ) → HomeOf ns v h → First ns arcs v → Joined arcs h v
  pub no_other_entry : (u : ℕ) → Joined arcs u v → Entry ns u v → First ns arcs v
  pub exit_there : (h c : ℕ) → HomeOf ns v h → ClosingOf ns h c → Last ns arcs v → Joined arcs v c
  pub no_other_exit : (c : ℕ) → Joined arcs v c → Exit ns v c → Last ns arcs v

abbrev pub AllBlocksAreWired : List Node → List Arc → Type 0
AllBlocksAreWired ns arcs = (v : ℕ) → IsNode ns v → Wired ns arcs v

-- the rules in the sequence in which they are tried
pub record Shaped (ns : List Node) (arcs : List Arc) : Type 0 where
  pub homes_are_openings : AllHomesAreOpenings ns
  pub mates_pair_up : AllMatesPairUp ns
  pub branches_count_up : AllBranchesCountUp ns
  pub arcs_are_lawful : AllArcsAreLawful ns arcs
  pub one_first_one_last : AllHaveOneFirstOneLast ns arcs
  pub blocks_are_wired : AllBlocksAreWired ns arcs
