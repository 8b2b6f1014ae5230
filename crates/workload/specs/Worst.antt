-- The nodes that picks take, and a settlement with the greatest total.
use Rattle.std.specs.Prelude.{◌≡◌, ℕ, ◌≢◌, List, slice_index}
use Rattle.table.specs.declared.records.Node.{Node}
use Rattle.table.specs.declared.records.Region.{Region}
use Rattle.table.specs.declared.records.Region.TheVariants.{Top, Branch}
use Rattle.table.specs.declared.records.Role.TheVariants.{Opening}
use Rattle.sets.specs.declared.bit_set.BitSet.{BitSet}
use Rattle.sets.specs.Sets.{Has}
use Rattle.task.specs.Graph.{role, IsNode}
use Rattle.workload.specs.declared.settlement.Settlement.{Settlement}
use Rattle.workload.specs.Measures.{total, IsGreatestTotal}
use Rattle.workload.specs.Settling.{Settling, Takes}

-- the branch picked at o
abbrev pub pick_of : List ℕ → ℕ → ℕ
pick_of picks o = slice_index picks o

-- the picks lead into the region, where s has the nodes that they take
abbrev pub LeadsInto : (ℕ → ℕ) → BitSet → Region → Type 0
LeadsInto pick s Top = Unit {0}
LeadsInto pick s (Branch h b) = Has s h × (pick h ≡ b)

-- the settling takes the node v
pub record TakenNode (ns : List Node) (pick : ℕ → ℕ) (v : ℕ) : Type 0 where
  pub is_node : IsNode ns v
  pub taken : Takes ns pick v

-- the picks are a settling with the greatest total; where there is no opening the pick is 0
pub record WorstPicks (ns : List Node) (picks : List ℕ) : Type 0 where
  pub settling : Settling ns (pick_of picks)
  pub greatest : IsGreatestTotal ns (total ns (pick_of picks))
  pub none_elsewhere : (v : ℕ) → role ns v ≢ Opening → pick_of picks v ≡ 0

-- the settlement has such picks, and gives their total
pub record Worst (ns : List Node) (s : Settlement) : Type 0 where
  pub picks_worst : WorstPicks ns s.picks
  pub reached : total ns (pick_of s.picks) ≡ s.total
  pub greatest : IsGreatestTotal ns s.total
