-- The numbers of a lawful task are in the range of a demand.
use Rattle.std.proofs.Common.{◌≡◌, ℕ, zero, suc, ◌+◌, ◌*◌, ◌≤◌, Bool, true, false, cond, List, length, ap, arith}
use native.Mathlib.Decide.{dec_lt}
use Rattle.table.specs.declared.records.Arc.{Arc}
use Rattle.table.specs.declared.records.Node.{Node}
use Rattle.task.specs.Graph.{time, IsNode, Joined, Ranged}
use Rattle.task.specs.Shape.{Shaped}
use Rattle.paths.specs.Instances.{path_ticks}
use Rattle.paths.specs.Paths.{Path, end, step, first, Each, Chain}
use Rattle.workload.specs.Measures.{sum_below, taken_time, total, IsGreatestLength, IsGreatestTotal}
use Rattle.workload.specs.Settling.{takes, Takes}
use Rattle.workload.proofs.Paths.{paths_settle_lem}

sum_grows : (f : ℕ → ℕ) (m n : ℕ) → m ≤ n → sum_below m f ≤ sum_below n f
sum_grows f m zero l =
    let e : m ≡ 0 = omega arith in
    rw e (omega arith)
sum_grows f m (suc n) l =
    elim (dec_lt n m) [
      | yes past ↦
          let e : m ≡ suc n = omega arith in
          rw e (omega arith)
      | no within ↦ omega (arith, sum_grows f m n (omega arith))
    ]

taken_is_time : (ns : List Node) (pick : ℕ → ℕ) (v : ℕ) → Takes ns pick v → taken_time ns pick v ≡ time ns v
taken_is_time ns pick v t = ap (λ (b : Bool). cond b (time ns v) 0) t

module _ (ns : List Node) (arcs : List Arc) (r : Ranged ns arcs) where
  -- a path passes a node once at most, so its length is part of the total
  within_total : (pick : ℕ → ℕ) (p : Path) → Each (IsNode ns) p → Chain (Joined arcs) p → Each (Takes ns pick) p
      → path_ticks ns p + sum_below (first p) (taken_time ns pick) ≤ total ns pick
  within_total pick (end v) i c t =
      omega (arith, taken_is_time ns pick v t, sum_grows (taken_time ns pick) (suc v) (length ns) i)
  within_total pick (step v p) i c t =
      omega (
        arith,
        taken_is_time ns pick v t.0,
        sum_grows (taken_time ns pick) (suc v) (first p) (r.arcs_forward v (first p) c.0),
        within_total pick p i.1 c.1 t.1,
      )

  pub length_in_total : (l w : ℕ) → IsGreatestLength ns arcs l → IsGreatestTotal ns w → l ≤ w
  length_in_total l w longest most =
      let pick = longest.attained.0 in
      let p = longest.attained.1 in
      let taken = longest.attained.2 in
      omega (
        arith,
        longest.attained.3,
        within_total pick p taken.path.nodes taken.path.joined taken.taken,
        most.not_exceeded pick taken.settling,
      )

  taken_short : (pick : ℕ → ℕ) (v : ℕ) → IsNode ns v → taken_time ns pick v ≤ 65535
  taken_short pick v i = go (takes ns pick v)
    where
      go : (b : Bool) → cond b (time ns v) 0 ≤ 65535
      go true = r.times_short v i
      go false = omega arith

  sum_short : (pick : ℕ → ℕ) (n : ℕ) → n ≤ length ns → sum_below n (taken_time ns pick) ≤ 65535 * n
  sum_short pick zero l = omega arith
  sum_short pick (suc n) l = omega (arith, sum_short pick n (omega arith), taken_short pick n (omega arith))

  pub total_small : (w : ℕ) → IsGreatestTotal ns w → w ≤ 4194240
  total_small w most =
      let pick = most.attained.0 in
      omega (arith, most.attained.2, sum_short pick (length ns) (omega arith), r.few_nodes)

  pub length_positive : Shaped ns arcs → (l : ℕ) → IsGreatestLength ns arcs l → 1 ≤ l
  length_positive s l longest =
      let i : IsNode ns 0 = omega (arith, r.some_node) in
      let t = paths_settle_lem ns arcs r s (end 0) (record { nodes = i; joined = tt }) in
      omega (arith, longest.not_exceeded t.0 (end 0) t.1, r.times_positive 0 i)
