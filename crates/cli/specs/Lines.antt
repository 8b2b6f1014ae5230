-- What the words of a command line ask for. Assumes nothing.
use Rattle.std.specs.Prelude.{◌≡◌, ℕ, ◌<◌, List, [], ◌∷◌, length, Ok, Err, string_bytes, Result, String, ◌≢◌}
use Rattle.std.specs.declared.alloc.Global.{Global}
use Rattle.cli.specs.Words.{AsksHelp, AsksCheck, AsksPlan}
use Rattle.cli.specs.declared.commands.Command.{Command}
use Rattle.cli.specs.declared.commands.Command.TheVariants.{Help, Check, Plan}
use Rattle.cli.specs.declared.commands.Misuse.{Misuse}
use Rattle.cli.specs.declared.commands.Misuse.TheVariants.{NoCommand, Unknown, NoFile, NotOneFile}

-- what a plan's words ask for: just one is its file
abbrev pub OneFile : List (String Global) → Result Command Misuse → Type 0
OneFile ws (Ok Help) = ⊥
OneFile ws (Ok (Check files)) = ⊥
OneFile ws (Ok (Plan file)) = (name : String Global) × (ws ≡ name ∷ []) × (file.now ≡ string_bytes name)
OneFile ws (Err NoCommand) = ⊥
OneFile ws (Err (Unknown word)) = ⊥
OneFile ws (Err NoFile) = ⊥
OneFile ws (Err NotOneFile) = length ws ≡ 1 → ⊥

-- r is what the word w and the words ws after it ask for
abbrev pub Asked : List ℕ → List (String Global) → Result Command Misuse → Type 0
Asked w ws (Ok Help) = AsksHelp w
Asked w ws (Ok (Check files)) = AsksCheck w × (files.now ≡ ws) × (0 < length ws)
Asked w ws (Ok (Plan file)) = AsksPlan w × OneFile ws (Ok (Plan file))
Asked w ws (Err NoCommand) = ⊥
Asked w ws (Err (Unknown word)) = (AsksHelp w → ⊥) × (AsksCheck w → ⊥) × (AsksPlan w → ⊥) × (word.now ≡ w)
Asked w ws (Err NoFile) = AsksCheck w × (length ws ≡ 0)
Asked w ws (Err NotOneFile) = AsksPlan w × (length ws ≢ 1)

abbrev pub Parsed : List (String Global) → Result Command Misuse → Type 0
Parsed [] r = r ≡ Err NoCommand
Parsed (w ∷ ws) r = Asked (string_bytes w) ws r
