-- What the reader gave, as the caller's bytes have it.
use Rattle.std.proofs.Common.{◌≡◌, ℕ, List, drop, Err, Option, Result, sym, ◌∙◌, subst}
use Rattle.table.specs.declared.reader.Part.{Part}
use Rattle.table.specs.declared.reader.Seen.{Seen}
use Rattle.table.specs.declared.records.Table.{Table}
use Rattle.table.specs.declared.fault.Fault.{Fault}
use Rattle.table.specs.declared.fault.Fault.TheVariants.{Layout, Range}
use Rattle.table.specs.Layout.{Laid, Faulty}
use Rattle.table.specs.Reading.{Reads, Answered, behind_header}
use Rattle.table.specs.Fields.{Misfits}
use Rattle.table.specs.Steps.{OutAt, StandsNext, Faults}
use Rattle.table.proofs.Kept.{Kept, kept_faulty, kept_out}
use Rattle.table.proofs.Only.{only}

pub stood : (b bytes : List ℕ) (at : ℕ) (s : Seen) (after : ℕ) (t : Seen) (o w : Option Part) → b ≡ bytes → o ≡ w
    → StandsNext b at s after t o → StandsNext bytes at s after t w
stood b bytes at s after t o w e f h =
    subst (λ (c : List ℕ). StandsNext c at s after t w) e (subst (λ (x : Option Part). StandsNext b at s after t x) f h)

pub answered : (bytes : List ℕ) (a : Result Table Fault) → Reads bytes a → Answered bytes a
answered bytes a h = record { right = h; only = only bytes a h }

pub faulted : (b bytes : List ℕ) (at : ℕ) (s : Seen) (rs : Table) (f : Fault) → b ≡ bytes → Kept bytes at s rs → Faults b at s f
    → Answered bytes (Err f)
faulted b bytes at s rs (Layout offset f) e kept h =
    subst (λ (o : ℕ). Answered bytes (Err (Layout o f))) (sym h.0)
    (answered bytes (Err (Layout at f)) (kept_faulty bytes at s rs f kept (subst (λ (c : List ℕ). Faulty s (drop at c) f) e h.1)))
faulted b bytes at s rs (Range offset m) e kept h = absurd h

pub moved : (bytes : List ℕ) (at after : ℕ) (s t : Seen) (rs qs : Table) → after ≡ at → t ≡ s → qs ≡ rs
    → Kept bytes at s rs → Kept bytes after t qs
moved bytes at after s t rs qs e f g kept =
    subst (λ (x : ℕ). Kept bytes x t qs) (sym e)
    (subst (λ (x : Seen). Kept bytes at x qs) (sym f) (subst (λ (x : Table). Kept bytes at s x) (sym g) kept))

pub refused : (bytes : List ℕ) (at : ℕ) (s : Seen) (rs : Table) (p : Part) (f : Fault) → Kept bytes at s rs → Laid s (drop at bytes) p.kind
    → p.fields.now ≡ behind_header p.kind (drop at bytes) → p.offset ≡ at
    → OutAt p.offset (Misfits rs.nodes.len p.kind p.fields.now) f → Answered bytes (Err f)
refused bytes at s rs p (Layout offset f) kept laid told here h = absurd h
refused bytes at s rs p (Range offset m) kept laid told here h =
    subst (λ (o : ℕ). Answered bytes (Err (Range o m))) (sym here ∙ sym h.0)
    (answered bytes (Err (Range at m)) (kept_out bytes at s rs p.kind p.fields.now m kept laid told h.1))
