-- Kinds by their numbers.
use Rattle.std.proofs.Common.{◌≡◌, ℕ, cond, eqb, List, sym, refl, ap, ◌∙◌}
use Rattle.table.specs.declared.records.Kind.{Kind}
use Rattle.table.specs.declared.records.Kind.TheVariants.{OfTask, OfNode, OfArc}
use Rattle.table.specs.Format.{number}
use Rattle.table.specs.Layout.{Named}

abbrev pub kind_numbered : ℕ → Kind
kind_numbered n = cond (eqb n 1) OfTask (cond (eqb n 2) OfNode OfArc)

same : (k : Kind) → k ≡ kind_numbered (number k)
same OfTask = refl
same OfNode = refl
same OfArc = refl

pub numbered_back : (k : Kind) (n : ℕ) → n ≡ number k → k ≡ kind_numbered n
numbered_back k n e = same k ∙ ap kind_numbered (sym e)

pub number_apart : (j k : Kind) → number j ≡ number k → j ≡ k
number_apart j k e = numbered_back j (number k) (sym e) ∙ sym (same k)

pub one_kind : (rest : List ℕ) (j k : Kind) → Named rest j → Named rest k → j ≡ k
one_kind rest j k hj hk = number_apart j k (sym hj.names ∙ hk.names)
