-- The command that a word names. Assumes nothing.
use Rattle.std.specs.Prelude.{◌≡◌, ℕ, ◌⊎◌, List, Some, None, codes, Option}
use Rattle.cli.specs.declared.commands.Verb.{Verb}
use Rattle.cli.specs.declared.commands.Verb.TheVariants.{Help, Check, Plan}

abbrev pub AsksHelp : List ℕ → Type 0
AsksHelp w = (w ≡ codes "help") ⊎ ((w ≡ codes "--help") ⊎ (w ≡ codes "-h"))

abbrev pub AsksCheck : List ℕ → Type 0
AsksCheck w = w ≡ codes "check"

abbrev pub AsksPlan : List ℕ → Type 0
AsksPlan w = w ≡ codes "plan"

abbrev pub Names : List ℕ → Option Verb → Type 0
Names w (Some Help) = AsksHelp w
Names w (Some Check) = AsksCheck w
Names w (Some Plan) = AsksPlan w
Names w None = (AsksHelp w → ⊥) × (AsksCheck w → ⊥) × (AsksPlan w → ⊥)
