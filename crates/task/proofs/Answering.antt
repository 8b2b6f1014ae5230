-- What a table describes, from what reading it and trying the rules say.
use Rattle.std.proofs.Common.{◌≡◌, ℕ, ◌-◌, ◌<◌, ◌≤◌, ◌⊎◌, List, ◌++◌, length, take, replicate, Ok, Err, Result, sym, ap, ◌∙◌, subst, inl, inr, arith}
use lib.Seq.{take-append-le}
use Rattle.std.proofs.lemmas.List.{take_all}
use Rattle.std.proofs.lemmas.Bool.{cases_lt}
use Rattle.table.specs.declared.fault.Fault.{Fault}
use Rattle.table.specs.declared.records.Arc.{Arc}
use Rattle.table.specs.declared.records.Node.{Node}
use Rattle.table.specs.declared.records.Region.{Region}
use Rattle.table.specs.declared.records.Region.TheVariants.{Top, Branch}
use Rattle.table.specs.declared.records.Role.{Role}
use Rattle.table.specs.declared.records.Role.TheVariants.{Plain, Opening, Closing}
use Rattle.table.specs.declared.records.Table.{Table}
use Rattle.table.specs.declared.records.Timing.{Timing}
use Rattle.table.specs.Range.{RoleInRange, RegionInRange}
use Rattle.table.specs.Reading.{Answered}
use Rattle.table.specs.Whole.{Lawful, Encodes, held, no_node, no_arc}
use Rattle.sets.specs.Tests.{FailsFirst}
use Rattle.task.specs.declared.held.Refusal.{Refusal}
use Rattle.task.specs.declared.held.Refusal.TheVariants.{Unsound, Misshapen}
use Rattle.task.specs.declared.rules.Broken.{Broken}
use Rattle.task.specs.declared.rules.Rule.{Rule}
use Rattle.task.specs.declared.rules.Rule.TheVariants.{HomesAreOpenings, MatesPairUp, BranchesCountUp, ArcsAreLawful, OneFirstOneLast, BlocksAreWired}
use Rattle.task.specs.Described.{Describes, Told}
use Rattle.task.specs.Graph.{role, region, Ranged}
use Rattle.task.specs.Held.{nodes_of, arcs_of}
use Rattle.task.specs.Rules.{rule_number, BrokenAt, Holds, HoldsAt, places}
use Rattle.task.specs.Shape.{Shaped}
use Rattle.task.proofs.Sequence.{same_rule}

-- the ranges of a lawful table are those of its graph
smaller_mate : (own o : ℕ) (r : Role) → RoleInRange own r → r ≡ Closing o → o < own
smaller_mate own o Plain h e = let z : ◌≡◌ {A = ℕ} 0 1 = cc in absurd (omega arith)
smaller_mate own o Opening h e = let z : ◌≡◌ {A = ℕ} 0 1 = cc in absurd (omega arith)
smaller_mate own o (Closing m) h e = let same : m ≡ o = cc in omega arith

in_branch : (own h b : ℕ) (r : Region) → RegionInRange own r → r ≡ Branch h b → (h < own) × (b < 8)
in_branch own h b Top i e = let z : ◌≡◌ {A = ℕ} 0 1 = cc in absurd (omega arith)
in_branch own h b (Branch j c) i e = let p : j ≡ h = cc in let q : c ≡ b = cc in (omega (arith, i.0), omega (arith, i.1))

pub ranged : (t : Timing) (ns : List Node) (arcs : List Arc) → Lawful t ns arcs → Ranged ns arcs
ranged t ns arcs l = record {
  some_node = l.some_node;
  few_nodes = l.few_nodes;
  few_arcs = l.few_arcs;
  homes_smaller = λ v h i o. (in_branch v h o.0 (region ns v) (l.nodes_in_range v i).region o.1).0;
  branches_few = λ v h b i e. (in_branch v h b (region ns v) (l.nodes_in_range v i).region e).1;
  mates_smaller = λ v o i e. smaller_mate v o (role ns v) (l.nodes_in_range v i).role e;
  times_positive = λ v i. (l.nodes_in_range v i).some_time;
  times_short = λ v i. (l.nodes_in_range v i).short_time;
  arcs_forward = λ u v j.
      let a = j.1 in
      let r = l.arcs_in_range j.0 a.is_arc in omega (arith, r.upwards, a.starts, a.stops);
  arcs_between_nodes = λ u v j.
      let a = j.1 in
      let r = l.arcs_in_range j.0 a.is_arc in omega (arith, r.to_a_node, a.stops);
}

-- what is in use of a padded array
in_use : {A : Type 0} (xs more : List A) → take (length xs) (xs ++ more) ≡ xs
in_use xs more = take-append-le (length xs) xs more (omega arith) ∙ take_all (length xs) xs (omega arith)

pub encoded_lawful : (bytes : List ℕ) (table : Table) → Encodes bytes table → Lawful table.timing (nodes_of table) (arcs_of table)
encoded_lawful bytes table e =
    let ns = e.nodes in
    let arcs = e.arcs in
    subst (λ (t : Table). Lawful t.timing (nodes_of t) (arcs_of t)) (sym e.holds)
    (subst (λ (l : List Node). Lawful e.timing l (arcs_of (held e.timing ns arcs)))
    (sym (in_use ns (replicate (64 - length ns) no_node)))
    (subst (λ (l : List Arc). Lawful e.timing ns l) (sym (in_use arcs (replicate (256 - length arcs) no_arc))) e.lawful))

same_table : (t u : Table) → ◌≡◌ {A = Result Table Fault} (Ok t) (Ok u) → t ≡ u
same_table t u e = cc

ok_err : {P : Type 0} (t : Table) (f : Fault) → ◌≡◌ {A = Result Table Fault} (Ok t) (Err f) → P
ok_err t f e = let z : ◌≡◌ {A = ℕ} 0 1 = cc in absurd (omega arith)

shaped_holds : (ns : List Node) (arcs : List Arc) → Shaped ns arcs → (r : Rule) → Holds ns arcs r
shaped_holds ns arcs s HomesAreOpenings = s.homes_are_openings
shaped_holds ns arcs s MatesPairUp = s.mates_pair_up
shaped_holds ns arcs s BranchesCountUp = s.branches_count_up
shaped_holds ns arcs s ArcsAreLawful = s.arcs_are_lawful
shaped_holds ns arcs s OneFirstOneLast = s.one_first_one_last
shaped_holds ns arcs s BlocksAreWired = s.blocks_are_wired

-- a task that breaks a rule does not have the shape
not_shaped : (ns : List Node) (arcs : List Arc) (r : Rule) (at : ℕ) → BrokenAt ns arcs r at → Shaped ns arcs → ⊥
not_shaped ns arcs r at b s = b.here.fails (shaped_holds ns arcs s r at b.here.within)

-- nor does it break two first
not_before : (ns : List Node) (arcs : List Arc) (r q : Rule) (at to : ℕ) → BrokenAt ns arcs r at → BrokenAt ns arcs q to
    → rule_number r < rule_number q → ⊥
not_before ns arcs r q at to b c lt = b.here.fails (c.earlier r lt at b.here.within)

first_place : (P : ℕ → Type 0) (n j k : ℕ) → FailsFirst P n j → FailsFirst P n k → j ≡ k
first_place P n j k f g = go (cases_lt j k) (cases_lt k j)
  where
    go : (j < k) ⊎ (k ≤ j) → (k < j) ⊎ (j ≤ k) → j ≡ k
    go (inl lt) q = absurd (f.fails (g.none_before j lt))
    go (inr le) (inl lt) = absurd (g.fails (f.none_before k lt))
    go (inr le) (inr ge) = omega arith

one_break : (ns : List Node) (arcs : List Arc) (b c : Broken) → BrokenAt ns arcs b.rule b.at → BrokenAt ns arcs c.rule c.at → b ≡ c
one_break ns arcs b c hb hc = go (cases_lt (rule_number b.rule) (rule_number c.rule)) (cases_lt (rule_number c.rule) (rule_number b.rule))
  where
    same : b.rule ≡ c.rule → b ≡ c
    same e =
        let here = subst (λ (r : Rule). BrokenAt ns arcs r b.at) e hb in
        let f : b.at ≡ c.at =
        first_place (HoldsAt ns arcs c.rule) (places ns arcs c.rule) b.at c.at here.here hc.here in
        let whole : ◌≡◌ {A = Broken} record { rule = b.rule; at = b.at } record { rule = c.rule; at = c.at } = cc in
        whole

    go : (rule_number b.rule < rule_number c.rule) ⊎ (rule_number c.rule ≤ rule_number b.rule)
        → (rule_number c.rule < rule_number b.rule) ⊎ (rule_number b.rule ≤ rule_number c.rule) → b ≡ c
    go (inl lt) q = absurd (not_before ns arcs b.rule c.rule b.at c.at hb hc lt)
    go (inr le) (inl lt) = absurd (not_before ns arcs c.rule b.rule c.at b.at hc hb lt)
    go (inr le) (inr ge) = same (same_rule b.rule c.rule (omega arith))

-- the three answers
pub told_unsound : (bytes : List ℕ) (f : Fault) → Answered bytes (Err f) → Told bytes (Err (Unsound f))
told_unsound bytes f a = record { right = a.right; only = only }
  where
    only : (other : Result Table Refusal) → Describes bytes other → other ≡ Err (Unsound f)
    only (Ok t) h = ok_err t f (a.only (Ok t) h.encodes)
    only (Err (Unsound g)) h = let e = a.only (Err g) h in cc
    only (Err (Misshapen b)) h = ok_err h.table f (a.only (Ok h.table) h.encodes)

pub told_taken : (bytes : List ℕ) (table : Table) → Answered bytes (Ok table) → Shaped (nodes_of table) (arcs_of table) → Told bytes (Ok table)
told_taken bytes table a s = record { right = record { encodes = a.right; shaped = s }; only = only }
  where
    only : (other : Result Table Refusal) → Describes bytes other → other ≡ Ok table
    only (Ok t) h = ap Ok (same_table t table (a.only (Ok t) h.encodes))
    only (Err (Unsound g)) h = ok_err table g (sym (a.only (Err g) h))
    only (Err (Misshapen b)) h =
        let e = same_table h.table table (a.only (Ok h.table) h.encodes) in
        absurd (not_shaped (nodes_of table) (arcs_of table) b.rule b.at
        (subst (λ (t : Table). BrokenAt (nodes_of t) (arcs_of t) b.rule b.at) e h.broken) s)

pub told_misshapen : (bytes : List ℕ) (table : Table) (b : Broken) → Answered bytes (Ok table)
    → BrokenAt (nodes_of table) (arcs_of table) b.rule b.at → Told bytes (Err (Misshapen b))
told_misshapen bytes table b a broken =
    record { right = record { table = table; encodes = a.right; broken = broken }; only = only }
  where
    only : (other : Result Table Refusal) → Describes bytes other → other ≡ Err (Misshapen b)
    only (Ok t) h =
        let e = same_table t table (a.only (Ok t) h.encodes) in
        absurd (not_shaped (nodes_of table) (arcs_of table) b.rule b.at broken
        (subst (λ (u : Table). Shaped (nodes_of u) (arcs_of u)) e h.shaped))
    only (Err (Unsound g)) h = ok_err table g (sym (a.only (Err g) h))
    only (Err (Misshapen c)) h =
        let e = same_table h.table table (a.only (Ok h.table) h.encodes) in
        ap (λ (x : Broken). Err (Misshapen x))
        (one_break (nodes_of table) (arcs_of table) c b
        (subst (λ (t : Table). BrokenAt (nodes_of t) (arcs_of t) c.rule c.at) e h.broken) broken)
