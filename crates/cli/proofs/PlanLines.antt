-- A command line that asks for a plan, by its parts.
use Rattle.std.proofs.Common.{◌≡◌, ℕ, ◌-◌, ◌≤◌, List, [], ◌∷◌, length, get_or, take, drop, Ok, Err, string_bytes, Result, String, sym, ap, subst, arith}
use Rattle.std.proofs.lemmas.List.{take_all}
use Rattle.std.specs.declared.alloc.Global.{Global}
use Rattle.cli.specs.Lines.{Asked, OneFile, Parsed}
use Rattle.cli.specs.Words.{AsksPlan}
use Rattle.cli.specs.declared.commands.Command.{Command}
use Rattle.cli.specs.declared.commands.Command.TheVariants.{Help, Check, Plan}
use Rattle.cli.specs.declared.commands.Misuse.{Misuse}
use Rattle.cli.specs.declared.commands.Misuse.TheVariants.{NoCommand, Unknown, NoFile, NotOneFile}

-- a list of one
pub one_listed : (xs : List (String Global)) (x : String Global) → length xs ≡ 1 → x ≡ get_or xs 0 x → xs ≡ x ∷ []
one_listed [] x long is = absurd (omega (arith, long))
one_listed (y ∷ []) x long is = ap (λ (z : String Global). z ∷ []) (sym is)
one_listed (y ∷ z ∷ zs) x long is = absurd (omega (arith, long))

asked_plan : (w : List ℕ) (ws : List (String Global)) (r : Result Command Misuse) → AsksPlan w → OneFile ws r → Asked w ws r
asked_plan w ws (Ok Help) asks h = absurd h
asked_plan w ws (Ok (Check files)) asks h = absurd h
asked_plan w ws (Ok (Plan file)) asks h = (asks, h)
asked_plan w ws (Err NoCommand) asks h = absurd h
asked_plan w ws (Err (Unknown word)) asks h = absurd h
asked_plan w ws (Err NoFile) asks h = absurd h
asked_plan w ws (Err NotOneFile) asks h = (asks, h)

-- the first word asks for a plan, and the words after it are judged
pub plan_line : (words : List (String Global)) (first : String Global) (r : Result Command Misuse) → 1 ≤ length words → first ≡ get_or words 0 first
    → AsksPlan (string_bytes first) → OneFile (take (length words - 1) (drop 1 words)) r → Parsed words r
plan_line [] first r some is asks h = absurd (omega (arith, some))
plan_line (w ∷ ws) first r some is asks h =
    asked_plan (string_bytes w) ws r (subst (λ (x : String Global). AsksPlan (string_bytes x)) is asks)
    (subst (λ (l : List (String Global)). OneFile l r) (take_all (length (w ∷ ws) - 1) ws (omega arith)) h)
