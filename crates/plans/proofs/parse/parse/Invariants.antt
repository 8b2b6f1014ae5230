use Rattle.std.specs.Str.Iter.{lines_rest}
use Rattle.std.specs.Iterator.Adapters.{enumerate_source, enumerate_count}
use Rattle.plans.proofs.Texts.{Reading}
use Rattle.plans.proofs.parse.parse.Given as goal

abbrev pub invariant-loop-index : goal.invariant-loop-index
invariant-loop-index l = Reading l.text (lines_rest (enumerate_source l.index-iterator)) (enumerate_count l.index-iterator) l.draft
