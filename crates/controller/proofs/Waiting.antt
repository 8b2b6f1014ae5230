-- What has been waited, one tick later.
use Rattle.std.proofs.Common.{◌≡◌, ℕ, zero, suc, ◌<◌, List, [], ◌∷◌, map, length, get_or, None, Option, sym, refl, ap, ◌∙◌}
use Rattle.std.proofs.lemmas.List.{ext_get_or}
use Rattle.controller.specs.Effects.{one_more}

pub waited_more : (ws : List (Option ℕ)) (s : ℕ) → get_or (map one_more ws) s None ≡ one_more (get_or ws s None)
waited_more [] s = refl
waited_more (w ∷ ws) zero = refl
waited_more (w ∷ ws) (suc s) = waited_more ws s

pub as_many_wait : (ws : List (Option ℕ)) → length (map one_more ws) ≡ length ws
as_many_wait [] = refl
as_many_wait (w ∷ ws) = ap suc (as_many_wait ws)

pub all_waited : (ws us : List (Option ℕ)) → length us ≡ length ws → ((k : ℕ) → k < length us → get_or us k None ≡ one_more (get_or ws k None)) → us ≡ map one_more ws
all_waited ws us e f = ext_get_or None us (map one_more ws) (e ∙ sym (as_many_wait ws)) (λ k l. f k l ∙ sym (waited_more ws k))
