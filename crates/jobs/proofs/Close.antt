-- What a job has run stays below what a settling that keeps its picks has in times.
use Rattle.std.proofs.Common.{◌≡◌, ℕ, zero, suc, ◌<◌, ◌≤◌, Bool, cond, ◌⊎◌, List, length, refl, ap, inl, inr, not-suc-le-zero, arith}
use Rattle.std.proofs.lemmas.Bool.{cases_lt}
use Rattle.table.specs.declared.records.Arc.{Arc}
use Rattle.table.specs.declared.records.Node.{Node}
use Rattle.table.specs.declared.records.Region.{Region}
use Rattle.table.specs.declared.records.Region.TheVariants.{Top, Branch}
use Rattle.task.specs.Graph.{region, time, IsNode, HasBranch, Ranged}
use Rattle.task.specs.Shape.{Shaped}
use Rattle.task.proofs.Follows.{branch_zero}
use Rattle.paths.specs.Paths.{Path, end, step, last, Each}
use Rattle.workload.specs.Measures.{taken_time, IsGreatestTotal}
use Rattle.workload.specs.Settling.{Settling, Takes}
use Rattle.workload.proofs.Sums.{sum_below_le}
use Rattle.workload.proofs.Takes.{takes_top, takes_inside}
use Rattle.jobs.specs.declared.node_state.NodeState.{NodeState}
use Rattle.jobs.specs.declared.node_state.NodeState.TheVariants.{Untouched, Running, Ended}
use Rattle.jobs.specs.Job.{state, Taken, Reached}
use Rattle.jobs.specs.Statements.{PathToReady, ran_in_all, ClosesBelow, Close, BelowGreatest}
use Rattle.jobs.proofs.Counts.{Counted, counted}
use Rattle.jobs.proofs.Entering.{home_ended}
use Rattle.jobs.proofs.Sums.{sum_below_less, ran_along_less}

-- the branch that an opening ended with, and else its branch 0
abbrev pick_of : NodeState → ℕ
pick_of Untouched = 0
pick_of (Running t) = 0
pick_of (Ended b) = b

abbrev pub picks_so_far : List NodeState → ℕ → ℕ
picks_so_far job o = pick_of (state job o)

module _ {places : ℕ} (ns : List Node) (arcs : List Arc) (job : List NodeState) (ran : ℕ → ℕ) (r : Ranged ns arcs) (s : Shaped ns arcs) (c : Counted places ns job ran) where
  pub picks_settle : Settling ns (picks_so_far job)
  picks_settle o op = go (state job o) refl
    where
      go : (x : NodeState) → state job o ≡ x → HasBranch ns o (pick_of x)
      go Untouched e = branch_zero ns arcs s o op
      go (Running t) e = branch_zero ns arcs s o op
      go (Ended b) e = (c.each o).ended_branch b e op

  taken_below : (n v : ℕ) → v < n → IsNode ns v → Taken ns job v → Takes ns (picks_so_far job) v
  taken_below zero v l i t = absurd (not-suc-le-zero l)
  taken_below (suc n) v l i t = go (region ns v) refl (taken_below n)
    where
      go : (q : Region) → region ns v ≡ q → ((w : ℕ) → w < n → IsNode ns w → Taken ns job w → Takes ns (picks_so_far job) w) → Takes ns (picks_so_far job) v
      go Top lies up = takes_top ns (picks_so_far job) v lies
      go (Branch h b) lies up =
          let less = r.homes_smaller v h i (b, lies) in
          let ended = home_ended ns job v h b lies t in
          takes_inside ns (picks_so_far job) r.homes_smaller v h b i lies (ap pick_of ended)
          (up h (omega arith) (omega arith) ((c.each h).ended_taken (b, ended)))

  -- the picks so far take what the job has taken
  pub takes_taken : (v : ℕ) → IsNode ns v → Taken ns job v → Takes ns (picks_so_far job) v
  takes_taken v i t = taken_below (suc v) v (omega arith) i t

  takes_each : (p : Path) → Each (IsNode ns) p → Each (Taken ns job) p → Each (Takes ns (picks_so_far job)) p
  takes_each (end v) i t = takes_taken v i t
  takes_each (step v p) is ts = (takes_taken v is.0 ts.0, takes_each p is.1 ts.1)

  counts_whole : (v : ℕ) → IsNode ns v → Taken ns job v → taken_time ns (picks_so_far job) v ≡ time ns v
  counts_whole v i t = ap (λ (b : Bool). cond b (time ns v) 0) (takes_taken v i t)

  ran_counts : (v : ℕ) → IsNode ns v → ran v ≤ taken_time ns (picks_so_far job) v
  ran_counts v i = go (cases_lt 0 (ran v))
    where
      go : (0 < ran v) ⊎ (ran v ≤ 0) → ran v ≤ taken_time ns (picks_so_far job) v
      go (inl l) = omega (arith, counts_whole v i ((c.each v).ran_taken l), (c.each v).ran_within)
      go (inr l) = omega arith

  closes_below : (p : Path) → PathToReady ns arcs job p → ClosesBelow ns job ran p (picks_so_far job)
  closes_below p to-ready =
      let w = last p in
      let ready = to-ready.ready in
      let below = (c.each w).ran_below ready.is_node ready.not_ended in
      record {
        settling = picks_settle;
        keeps_picks = λ o b e. ap pick_of e;
        takes_path = takes_each p to-ready.path.nodes to-ready.taken;
        path_below = ran_along_less ns ran (λ v. (c.each v).ran_within) p below;
        total_below = sum_below_less ran (taken_time ns (picks_so_far job)) (length ns) ran_counts w ready.is_node
            (omega (arith, counts_whole w ready.is_node ready.taken));
      }

-- what a job has run in all is within the greatest total, whether it has ended or not
pub within_greatest : {places : ℕ} (ns : List Node) (arcs : List Arc) (job : List NodeState) (ran : ℕ → ℕ) → Ranged ns arcs → Shaped ns arcs → Reached places ns arcs job ran
    → (w : ℕ) → IsGreatestTotal ns w → ran_in_all ns ran ≤ w
within_greatest ns arcs job ran r s reached w heaviest =
    let c = counted ns arcs r job ran reached in
    let counts = sum_below_le ran (taken_time ns (picks_so_far job)) (length ns) (ran_counts ns arcs job ran r s c) in
    omega (arith, counts, heaviest.not_exceeded (picks_so_far job) (picks_settle ns arcs job ran r s c))

pub close_holds_lem : Close
close_holds_lem places ns arcs job ran r s reached p to-ready =
    (picks_so_far job, closes_below ns arcs job ran r s (counted ns arcs r job ran reached) p to-ready)

pub below_greatest_holds_lem : BelowGreatest
below_greatest_holds_lem places ns arcs job ran r s reached l w longest heaviest p to-ready =
    let below = closes_below ns arcs job ran r s (counted ns arcs r job ran reached) p to-ready in
    let long = longest.not_exceeded (picks_so_far job) p (record { settling = below.settling; path = to-ready.path; taken = below.takes_path }) in
    let whole = heaviest.not_exceeded (picks_so_far job) below.settling in
    (omega (arith, below.path_below), omega (arith, below.total_below))
