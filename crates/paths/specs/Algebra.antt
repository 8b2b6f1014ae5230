-- The laws of a path algebra: the value of a path is extended by the nodes before it, and the value of several paths is chosen from theirs.
use Rattle.std.specs.Prelude.{◌≡◌}

pub record LawfulAlgebra (V : Type 0) (choice extension : V → V → V) : Type 0 where
  pub choice_assoc : (a b c : V) → choice (choice a b) c ≡ choice a (choice b c)
  pub choice_comm : (a b : V) → choice a b ≡ choice b a
  pub choice_self : (a : V) → choice a a ≡ a
  pub extension_assoc : (a b c : V) → extension (extension a b) c ≡ extension a (extension b c)
  pub extension_left : (a b c : V) → extension a (choice b c) ≡ choice (extension a b) (extension a c)
  pub extension_right : (a b c : V) → extension (choice a b) c ≡ choice (extension a c) (extension b c)
