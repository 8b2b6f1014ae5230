-- The ranges of a record's values, where `nodes` nodes came before it. Assumes nothing.
use Rattle.std.specs.Prelude.{ℕ, ◌<◌, ◌≤◌}
use Rattle.table.specs.declared.records.Timing.{Timing}
use Rattle.table.specs.declared.records.Node.{Node}
use Rattle.table.specs.declared.records.Arc.{Arc}
use Rattle.table.specs.declared.records.Role.{Role}
use Rattle.table.specs.declared.records.Role.TheVariants.{Plain, Opening, Closing}
use Rattle.table.specs.declared.records.Region.{Region}
use Rattle.table.specs.declared.records.Region.TheVariants.{Top, Branch}
use Rattle.table.specs.Format.{Record, task, node, arc}

pub record TaskInRange (t : Timing) : Type 0 where
  pub some_period : 1 ≤ t.period
  pub short_period : t.period ≤ 1000000
  pub some_deadline : 1 ≤ t.deadline
  pub deadline_in_period : t.deadline ≤ t.period

-- a closing's mate has a smaller number (that it is an opening belongs to the shape)
abbrev pub RoleInRange : ℕ → Role → Type 0
RoleInRange own Plain = Unit {0}
RoleInRange own Opening = Unit {0}
RoleInRange own (Closing mate) = mate < own

-- a node's home has a smaller number, and an opening has at most 8 branches
abbrev pub RegionInRange : ℕ → Region → Type 0
RegionInRange own Top = Unit {0}
RegionInRange own (Branch home branch) = (home < own) × (branch < 8)

-- of the node whose own number is `own`
pub record NodeInRange (own : ℕ) (n : Node) : Type 0 where
  pub role : RoleInRange own n.role
  pub region : RegionInRange own n.region
  pub some_time : 1 ≤ n.time
  pub short_time : n.time ≤ 65535

pub record ArcInRange (nodes : ℕ) (a : Arc) : Type 0 where
  pub upwards : a.from < a.to
  pub to_a_node : a.to < nodes

abbrev pub InRange : ℕ → Record → Type 0
InRange nodes (task t) = TaskInRange t
InRange nodes (node n) = NodeInRange nodes n
InRange nodes (arc a) = ArcInRange nodes a
