-- A record in range has every field in range, so none is the first that is out.
use Rattle.std.proofs.Common.{◌≡◌, ℕ, ◌<◌, ◌≤◌, List, [], ◌∷◌, sym, refl, ◌∙◌, inl, inr, arith}
use Rattle.std.specs.List.{AllByRecursion}
use Rattle.table.specs.declared.records.Role.{Role}
use Rattle.table.specs.declared.records.Role.TheVariants.{Plain, Opening, Closing}
use Rattle.table.specs.declared.records.Region.{Region}
use Rattle.table.specs.declared.records.Region.TheVariants.{Top, Branch}
use Rattle.table.specs.declared.records.Kind.{Kind}
use Rattle.table.specs.declared.records.Kind.TheVariants.{OfTask, OfNode, OfArc}
use Rattle.table.specs.declared.fault.Field.{Field}
use Rattle.table.specs.Format.{Record, task, node, arc, kind, fields, role_byte, mate_byte, home_byte, branch_byte}
use Rattle.table.specs.Range.{InRange, RoleInRange, RegionInRange}
use Rattle.table.specs.Fields.{Fits, FirstOut, fields_of, MateFits, HomeFits, BranchFits}
use Rattle.table.proofs.Bytes.{number_back}

-- few enough nodes that 255 is none of them
abbrev pub Few : ℕ → Kind → Type 0
Few nodes OfTask = Unit {0}
Few nodes OfNode = nodes < 255
Few nodes OfArc = Unit {0}

role_fits : (own : ℕ) (r : Role) → RoleInRange own r → (role_byte r ≤ 2) × MateFits own (role_byte r) (mate_byte r)
role_fits own Plain h = (omega arith, ((λ e. absurd (omega arith)), (λ ne. refl)))
role_fits own Opening h = (omega arith, ((λ e. absurd (omega arith)), (λ ne. refl)))
role_fits own (Closing mate) h = (omega arith, ((λ e. h), (λ ne. absurd (ne refl))))

region_fits : (own : ℕ) (r : Region) → own < 255 → RegionInRange own r
    → HomeFits own (home_byte r) × BranchFits (home_byte r) (branch_byte r)
region_fits own Top few h = (inl refl, (omega arith, (λ e. refl)))
region_fits own (Branch home branch) few h = (inr h.0, (omega (arith, h.1), (λ e. absurd (omega (arith, h.0)))))

all_fit : (nodes : ℕ) (r : Record) → Few nodes (kind r) → InRange nodes r → AllByRecursion (Fits nodes (fields r)) (fields_of (kind r))
all_fit nodes (task t) few h =
    let p = number_back t.period (omega (arith, h.short_period)) in
    let d = number_back t.deadline (omega (arith, h.short_period, h.deadline_in_period)) in (
      (omega (arith, h.some_period), omega (arith, h.short_period)),
      ((omega (arith, h.some_deadline), omega (arith, h.deadline_in_period)), tt),
    )
all_fit nodes (node n) few h =
    let r = role_fits nodes n.role h.role in
    let p = region_fits nodes n.region few h.region in
    let t = number_back n.time (omega (arith, h.short_time)) in
    (r.0, (r.1, (p.0, (p.1, ((omega (arith, h.some_time), omega (arith, h.short_time)), tt)))))
all_fit nodes (arc a) few h = (h.to_a_node, (h.upwards, tt))

none_out : (nodes : ℕ) (bytes : List ℕ) (gs : List Field) (f : Field) → AllByRecursion (Fits nodes bytes) gs → FirstOut nodes bytes gs f → ⊥
none_out nodes bytes [] f all out = out
none_out nodes bytes (g ∷ gs) f all (inl h) = h.1 all.0
none_out nodes bytes (g ∷ gs) f all (inr h) = none_out nodes bytes gs f all.1 h.1

pub no_misfit : (nodes : ℕ) (r : Record) (f : Field) → Few nodes (kind r) → InRange nodes r
    → FirstOut nodes (fields r) (fields_of (kind r)) f → ⊥
no_misfit nodes r f few h out = none_out nodes (fields r) (fields_of (kind r)) f (all_fit nodes r few h) out

pub one_out : (nodes : ℕ) (bytes : List ℕ) (gs : List Field) (e f : Field) → FirstOut nodes bytes gs e → FirstOut nodes bytes gs f → e ≡ f
one_out nodes bytes [] e f he hf = absurd he
one_out nodes bytes (g ∷ gs) e f (inl x) (inl y) = x.0 ∙ sym y.0
one_out nodes bytes (g ∷ gs) e f (inl x) (inr y) = absurd (x.1 y.0)
one_out nodes bytes (g ∷ gs) e f (inr x) (inl y) = absurd (y.1 x.0)
one_out nodes bytes (g ∷ gs) e f (inr x) (inr y) = one_out nodes bytes gs e f x.1 y.1
