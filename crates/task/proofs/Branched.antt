-- Openings and their branches.
use Rattle.std.proofs.Common.{◌≡◌, ℕ, List}
use Rattle.table.specs.declared.records.Node.{Node}
use Rattle.table.specs.declared.records.Region.TheVariants.{Branch}
use Rattle.sets.specs.declared.bit_set.BitSet.{BitSet}
use Rattle.task.specs.Graph.{region, HasBranch}
use Rattle.sets.specs.Sets.{Marks, RunsFromZero}
use Rattle.task.specs.Shape.{BranchesRun}

module _ (ns : List Node) (o : ℕ) where
  -- the node k lies in branch b of o
  abbrev pub LiesInBranch : ℕ → ℕ → Type 0
  LiesInBranch k b = region ns k ≡ Branch o b

  pub run_marked : (s : BitSet) → Marks (HasBranch ns o) s → RunsFromZero s → BranchesRun ns o
  run_marked s m r =
      record { branch_zero = m.only 0 r.has_zero; none_skipped = λ b i. m.only b (r.none_skipped b (m.every _ i)) }

  pub marked_run : (s : BitSet) → Marks (HasBranch ns o) s → BranchesRun ns o → RunsFromZero s
  marked_run s m r =
      record { has_zero = m.every 0 r.branch_zero; none_skipped = λ b h. m.every b (r.none_skipped b (m.only _ h)) }
