-- The first words of statements tell them apart.
use Rattle.std.proofs.Common.{◌≡◌, ℕ, List, ◌∷◌, codes, arith}
use Rattle.plans.specs.Statements.{Word, Said, cores, order, task, node, arc, ToldTable, GoesOn, Makes}
use Rattle.table.specs.declared.records.Arc.{Arc}
use Rattle.table.specs.declared.records.Node.{Node}
use Rattle.plans.specs.declared.plan.Precedence.{Precedence}

first_byte : (x y : ℕ) (xs ys : Word) → x ∷ xs ≡ y ∷ ys → x ≡ y
first_byte x y xs ys e = cc

pub only_cores : (words : List Word) → ((n : ℕ) → GoesOn words (cores n) → ⊥) → (s : Said) → Makes (codes "cores" ∷ words) s → ⊥
only_cores words nay (cores n) (e, g) = nay n g
only_cores words nay (order o) (e, g) = omega (arith, first_byte _ _ _ _ e)
only_cores words nay (task name slot t) (e, g) = omega (arith, first_byte _ _ _ _ e)
only_cores words nay (node n) (e, g) = omega (arith, first_byte _ _ _ _ e)
only_cores words nay (arc a) (e, g) = omega (arith, first_byte _ _ _ _ e)

pub only_order : (words : List Word) → ((o : Precedence) → GoesOn words (order o) → ⊥) → (s : Said) → Makes (codes "order" ∷ words) s → ⊥
only_order words nay (cores n) (e, g) = omega (arith, first_byte _ _ _ _ e)
only_order words nay (order o) (e, g) = nay o g
only_order words nay (task name slot t) (e, g) = omega (arith, first_byte _ _ _ _ e)
only_order words nay (node n) (e, g) = omega (arith, first_byte _ _ _ _ e)
only_order words nay (arc a) (e, g) = omega (arith, first_byte _ _ _ _ e)

pub only_task : (words : List Word) → ((name : Word) (slot : ℕ) (t : ToldTable) → GoesOn words (task name slot t) → ⊥)
    → (s : Said) → Makes (codes "task" ∷ words) s → ⊥
only_task words nay (cores n) (e, g) = omega (arith, first_byte _ _ _ _ e)
only_task words nay (order o) (e, g) = omega (arith, first_byte _ _ _ _ e)
only_task words nay (task name slot t) (e, g) = nay name slot t g
only_task words nay (node n) (e, g) = omega (arith, first_byte _ _ _ _ e)
only_task words nay (arc a) (e, g) = omega (arith, first_byte _ _ _ _ e)

pub only_node : (words : List Word) → ((n : Node) → GoesOn words (node n) → ⊥) → (s : Said) → Makes (codes "node" ∷ words) s → ⊥
only_node words nay (cores n) (e, g) = omega (arith, first_byte _ _ _ _ e)
only_node words nay (order o) (e, g) = omega (arith, first_byte _ _ _ _ e)
only_node words nay (task name slot t) (e, g) = omega (arith, first_byte _ _ _ _ e)
only_node words nay (node n) (e, g) = nay n g
only_node words nay (arc a) (e, g) = omega (arith, first_byte _ _ _ _ e)

pub only_arc : (words : List Word) → ((a : Arc) → GoesOn words (arc a) → ⊥) → (s : Said) → Makes (codes "arc" ∷ words) s → ⊥
only_arc words nay (cores n) (e, g) = omega (arith, first_byte _ _ _ _ e)
only_arc words nay (order o) (e, g) = omega (arith, first_byte _ _ _ _ e)
only_arc words nay (task name slot t) (e, g) = omega (arith, first_byte _ _ _ _ e)
only_arc words nay (node n) (e, g) = omega (arith, first_byte _ _ _ _ e)
only_arc words nay (arc a) (e, g) = nay a g

-- a first word that is none of these makes no statement
pub no_keyword : (first : Word) (words : List Word) → (first ≡ codes "cores" → ⊥) → (first ≡ codes "order" → ⊥) → (first ≡ codes "task" → ⊥)
    → (first ≡ codes "node" → ⊥) → (first ≡ codes "arc" → ⊥) → (s : Said) → Makes (first ∷ words) s → ⊥
no_keyword first words a b c d e (cores n) (f, g) = a f
no_keyword first words a b c d e (order o) (f, g) = b f
no_keyword first words a b c d e (task name slot t) (f, g) = c f
no_keyword first words a b c d e (node n) (f, g) = d f
no_keyword first words a b c d e (arc x) (f, g) = e f
