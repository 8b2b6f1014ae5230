-- Settlings of a task's branchings, and the nodes that each takes.
use Rattle.std.specs.Prelude.{◌≡◌, ℕ, zero, suc, Bool, true, false, ◌&&◌, List, ◌==◌}
use Rattle.table.specs.declared.records.Node.{Node}
use Rattle.table.specs.declared.records.Region.{Region}
use Rattle.table.specs.declared.records.Region.TheVariants.{Top, Branch}
use Rattle.table.specs.declared.records.Role.TheVariants.{Opening}
use Rattle.task.specs.Graph.{role, region, HasBranch}

-- a settling picks a branch for each opening, one that the opening has
abbrev pub Settling : List Node → (ℕ → ℕ) → Type 0
Settling ns pick = (o : ℕ) → role ns o ≡ Opening → HasBranch ns o (pick o)

-- the top is taken, and a branch where its home is taken and picks it
abbrev pub takes_region : (ℕ → ℕ) → (ℕ → Bool) → Region → Bool
takes_region pick taken Top = true
takes_region pick taken (Branch h b) = pick h == b && taken h

-- A node is taken with its region. n is how many homes up to look: a home has a smaller number, so v + 1 is enough for the node v
abbrev pub takes_within : ℕ → List Node → (ℕ → ℕ) → ℕ → Bool
takes_within zero ns pick v = false
takes_within (suc n) ns pick v = takes_region pick (takes_within n ns pick) (region ns v)

unfoldable pub takes : List Node → (ℕ → ℕ) → ℕ → Bool
takes ns pick v = takes_within (suc v) ns pick v

abbrev pub Takes : List Node → (ℕ → ℕ) → ℕ → Type 0
Takes ns pick v = takes ns pick v ≡ true
