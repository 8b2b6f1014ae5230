-- Nodes and the regions in which they lie.
use Rattle.std.proofs.Common.{◌≡◌, ℕ, List, subst}
use Rattle.table.specs.declared.records.Node.{Node}
use Rattle.table.specs.declared.records.Role.TheVariants.{Opening}
use Rattle.task.specs.Graph.{role, HomeOf}
use Rattle.task.specs.Shape.{HomeOpens}

module _ (ns : List Node) (v : ℕ) where
  -- a node has one home
  pub one_home : (h g : ℕ) → HomeOf ns v h → HomeOf ns v g → h ≡ g
  one_home h g (b, p) (d, q) = cc

  pub home_opens_lem : (h : ℕ) → HomeOf ns v h → role ns h ≡ Opening → HomeOpens ns v
  home_opens_lem h i o g j = subst (λ (x : ℕ). role ns x ≡ Opening) (one_home h g i j) o
