-- The jobs of a lawful graph keep the laws of jobs.
use Rattle.std.proofs.Common.{◌≡◌, ℕ, ◌+◌, ◌<◌, ◌≤◌, true, false, ◌≢◌, ◌⊎◌, List, [], ◌∷◌, length, sym, refl, ap, ◌∙◌, subst, inl, inr, arith}
use Rattle.std.proofs.lemmas.Bool.{cases_lt}
use Rattle.std.proofs.lemmas.Bool.Decides.{not_from_Decides}
use Rattle.std.specs.List.{AllByRecursion}
use Rattle.table.specs.declared.records.Arc.{Arc}
use Rattle.table.specs.declared.records.Node.{Node}
use Rattle.task.specs.Graph.{Joined, Ranged}
use Rattle.task.specs.Shape.{Shaped}
use Rattle.paths.specs.Paths.{Path, end, step, first, last, Each, Chain}
use Rattle.workload.specs.Measures.{IsGreatestLength, IsGreatestTotal}
use Rattle.workload.proofs.Sums.{sum_below_same, sum_below_none}
use Rattle.workload.proofs.Takes.{takes_top}
use Rattle.jobs.specs.declared.node_state.NodeState.{NodeState}
use Rattle.jobs.specs.Job.{HasEnded, Taken, Ready, JobEnded, Outcome, idle, ends_with, Allowed, ran_now, Reached, at_release, by_tick}
use Rattle.jobs.specs.Statements.{ran_along, ran_in_all, LedByEnd}
use Rattle.jobs.proofs.Close.{within_greatest, below_greatest_holds_lem}
use Rattle.jobs.proofs.Counts.{counted}
use Rattle.jobs.proofs.Ended.{t_job_ended}
use Rattle.jobs.proofs.Progress.{first_node_at_top, progress_holds_lem}
use Rattle.jobs.proofs.Started.{Started, ready_started, ended_started, ran_started}
use Rattle.jobs.proofs.Step.{step_holds_lem}
use Rattle.jobs.proofs.Tick.{idle_or_not, taken_kept, ended_now, ends_not_idle}
use Rattle.timing.specs.Jobs.{Turn, turns_of, MayHave, Fair}
use Rattle.timing.proofs.Weights.{weighs, work_weighs}
use Rattle.response.specs.Jobs.{JobState, outcome_in, advance, LeadsTo, ChainTo, graph_jobs}
use Rattle.response.specs.Statements.{EndsDecided, GraphsKeepLaws}
use Rattle.response.proofs.Trails.{onward, onward_last, onward_each, onward_chain, onward_ran, each_implies}
use Rattle.response.proofs.Turns.{ran_turn, ran_turns, all_ran, allowed_by_turns}

pub ends_decided : EndsDecided
ends_decided ns arcs j = (t_job_ended ns arcs j.states).decides

-- the same, either way
pub ended_true : (ns : List Node) (arcs : List Arc) (job : List NodeState) → (t_job_ended ns arcs job).answer ≡ true → JobEnded ns arcs job
ended_true ns arcs job e = (t_job_ended ns arcs job).decides.0 e

pub true_ended : (ns : List Node) (arcs : List Arc) (job : List NodeState) → JobEnded ns arcs job → (t_job_ended ns arcs job).answer ≡ true
true_ended ns arcs job ended = (t_job_ended ns arcs job).decides.1 ended

pub ended_false : (ns : List Node) (arcs : List Arc) (job : List NodeState) → (t_job_ended ns arcs job).answer ≡ false → JobEnded ns arcs job → ⊥
ended_false ns arcs job e ended = not_from_Decides (t_job_ended ns arcs job).answer (t_job_ended ns arcs job).decides e ended

all_map : {X : Type 0} (P Q : X → Type 0) → ((x : X) → P x → Q x) → (xs : List X) → AllByRecursion P xs → AllByRecursion Q xs
all_map P Q f [] all = tt
all_map P Q f (x ∷ xs) all = (f x all.0, all_map P Q f xs all.1)

module _ (ns : List Node) (arcs : List Arc) (j : JobState) (ts : List (Turn Outcome)) (fair : Fair (graph_jobs ns arcs) j ts) where
  -- the turns make an allowed tick
  pub tick_allowed : Allowed ns arcs j.states (outcome_in ts)
  tick_allowed =
      allowed_by_turns ns arcs j.states ts
      (all_map (MayHave (graph_jobs ns arcs) j) (λ t. Allowed ns arcs j.states (outcome_in (t ∷ []))) (λ t h. h.1.1) ts fair.allowed)

  ran_now_turns : (v : ℕ) → ran_now (outcome_in ts v) ≡ turns_of v ts
  ran_now_turns v =
      ran_turns ts (all_map (MayHave (graph_jobs ns arcs) j) (λ t. t.outcome ≢ idle) (λ t h. h.1.0) ts fair.allowed) v (fair.once v)

  own_grows : ran_in_all ns (advance j ts).ran ≡ ran_in_all ns j.ran + length ts
  own_grows =
      sum_below_same (λ v. j.ran v + ran_now (outcome_in ts v)) (λ v. j.ran v + turns_of v ts) (length ns) (λ v l. omega (arith, ran_now_turns v))
      ∙ all_ran (length ns) j.ran ts (all_map (MayHave (graph_jobs ns arcs) j) (λ t. t.node < length ns) (λ t h. h.0.is_node) ts fair.allowed)

  module _ (r : Ranged ns arcs) (reached : Reached 64 ns arcs j.states j.ran) where
    room : length ns ≤ length j.states
    room = (counted ns arcs r j.states j.ran reached).room

    still_taken : (p : Path) → Each (Taken ns j.states) p → Each (Taken ns (advance j ts).states) p
    still_taken p = each_implies (Taken ns j.states) (Taken ns (advance j ts).states) (taken_kept ns arcs j.states (outcome_in ts) room tick_allowed) p

    -- along a path of taken nodes that ends in one that has started, each node has started
    first_started : Shaped ns arcs → (p : Path) → Chain (Joined arcs) p → Each (Taken ns j.states) p → Started ns arcs j.states (last p)
        → Started ns arcs j.states (first p)
    first_started s (end v) chain taken st = st
    first_started s (step v p) chain taken st =
        ended_started ns arcs r s j.states j.ran reached v
        ((first_started s p chain.1 taken.1 st).all_before v chain.0 taken.0)

    ended_idle : (v : ℕ) → HasEnded j.states v → outcome_in ts v ≡ idle
    ended_idle v ended = go (idle_or_not (outcome_in ts v))
      where
        go : (outcome_in ts v ≡ idle) ⊎ (outcome_in ts v ≢ idle) → outcome_in ts v ≡ idle
        go (inl i) = i
        go (inr ran) = absurd ((tick_allowed.only_ready v ran).not_ended ended)

    -- so all but the last have ended, and a tick adds only what the last one runs
    along_grows : Shaped ns arcs → (p : Path) → Chain (Joined arcs) p → Each (Taken ns j.states) p → Started ns arcs j.states (last p)
        → ran_along (advance j ts).ran p ≡ ran_along j.ran p + ran_now (outcome_in ts (last p))
    along_grows s (end v) chain taken st = refl
    along_grows s (step v p) chain taken st =
        let ended = (first_started s p chain.1 taken.1 st).all_before v chain.0 taken.0 in
        omega (arith, ap ran_now (ended_idle v ended), along_grows s p chain.1 taken.1 st)

    -- a path to a ready node w has run the ticks of w's turn more
    has_run_more : Shaped ns arcs → (w c : ℕ) → Ready ns arcs j.states w → (chain : ChainTo ns arcs j w c)
        → ran_along (advance j ts).ran chain.along ≡ c + turns_of w ts
    has_run_more s w c ready chain =
        let st = ready_started ns arcs j.states (last chain.along) (subst (Ready ns arcs j.states) (sym chain.ends) ready) in
        omega (
          arith,
          along_grows s chain.along chain.path.joined chain.taken st,
          chain.has_run,
          ap (λ (v : ℕ). ran_now (outcome_in ts v)) chain.ends,
          ran_now_turns w,
        )

    -- a node with an arc from a ready one has not run, and does not run now
    not_yet_run : Shaped ns arcs → (v w : ℕ) → Ready ns arcs j.states v → Joined arcs v w → (advance j ts).ran w ≡ 0
    not_yet_run s v w ready joined = go (cases_lt 0 (j.ran w)) (idle_or_not (outcome_in ts w))
      where
        go : (0 < j.ran w) ⊎ (j.ran w ≤ 0) → (outcome_in ts w ≡ idle) ⊎ (outcome_in ts w ≢ idle) → (advance j ts).ran w ≡ 0
        go (inl l) o = absurd (ready.not_ended ((ran_started ns arcs r s j.states j.ran reached w l).all_before v joined ready.taken))
        go (inr l) (inr ran) = absurd (ready.not_ended ((tick_allowed.only_ready w ran).all_before v joined ready.taken))
        go (inr l) (inl i) = omega (arith, ap ran_now i)

    chain_stays : Shaped ns arcs → (w c : ℕ) → Ready ns arcs j.states w → ChainTo ns arcs j w c → ChainTo ns arcs (advance j ts) w (c + turns_of w ts)
    chain_stays s w c ready chain =
        record {
          along = chain.along;
          path = chain.path;
          taken = still_taken chain.along chain.taken;
          ends = chain.ends;
          has_run = has_run_more s w c ready chain;
        }

    chain_leads : Shaped ns arcs → (v w c : ℕ) → Ready ns arcs j.states v → 1 ≤ turns_of v ts → LeadsTo arcs (advance j ts) v w → Ready ns arcs (advance j ts).states w
        → ChainTo ns arcs j v c → ChainTo ns arcs (advance j ts) w (c + 1)
    chain_leads s v w c was turn leads ready chain =
        let p = chain.along in
        record {
          along = onward p w;
          path =
              record {
                nodes = onward_each (λ u. u < length ns) p w chain.path.nodes ready.is_node;
                joined = onward_chain (Joined arcs) p w chain.path.joined (subst (λ (u : ℕ). Joined arcs u w) (sym chain.ends) leads.joined);
              };
          taken = onward_each (Taken ns (advance j ts).states) p w (still_taken p chain.taken) ready.taken;
          ends = onward_last p w;
          has_run =
              omega (arith, onward_ran (advance j ts).ran p w, has_run_more s v c was chain, not_yet_run s v w was leads.joined, fair.once v);
        }

    module _ (s : Shaped ns arcs) where
      leads_or_was : (w : ℕ) → Ready ns arcs (advance j ts).states w
          → Ready ns arcs j.states w ⊎ ((v : ℕ) × (1 ≤ turns_of v ts) × LeadsTo arcs (advance j ts) v w)
      leads_or_was w ready = go (step_holds_lem 64 ns arcs j.states j.ran (outcome_in ts) r s reached tick_allowed w ready)
        where
          led : (v b : ℕ) → Joined arcs v w → outcome_in ts v ≡ ends_with b → (u : ℕ) × (1 ≤ turns_of u ts) × LeadsTo arcs (advance j ts) u w
          led v b joined now = (
            v,
            ran_turn ts v (λ i. ends_not_idle b (sym now ∙ i)),
            record { joined = joined; ended = (b, ended_now ns arcs j.states (outcome_in ts) room tick_allowed v b now) },
          )

          go : Ready ns arcs j.states w ⊎ LedByEnd arcs (outcome_in ts) w
              → Ready ns arcs j.states w ⊎ ((v : ℕ) × (1 ≤ turns_of v ts) × LeadsTo arcs (advance j ts) v w)
          go (inl was) = inl was
          go (inr by) = inr (led by.leader by.ends.0 by.joined by.ends.1)

-- a path of one tick at least is taken: node 0 alone
some_length : (ns : List Node) (arcs : List Arc) (L W : ℕ) → Ranged ns arcs → IsGreatestLength ns arcs L → IsGreatestTotal ns W → 1 ≤ L
some_length ns arcs L W r longest heaviest =
    let top = first_node_at_top ns arcs r in
    let pick = heaviest.attained.0 in
    omega (
      arith,
      r.times_positive 0 top.is_node,
      longest.not_exceeded pick (end 0) (record {
        settling = heaviest.attained.1;
        path = record { nodes = top.is_node; joined = tt };
        taken = takes_top ns pick 0 top.lies;
      }),
    )

pub graphs_keep_laws_lem : GraphsKeepLaws
graphs_keep_laws_lem ns arcs m L W r s longest heaviest =
    record {
      fresh_sound = at_release r.few_nodes;
      fresh_own = sum_below_none (λ v. 0) (length ns) (λ v l. refl);
      fresh_chain = λ w ready.
          record { along = end w; path = record { nodes = ready.is_node; joined = tt }; taken = ready.taken; ends = refl; has_run = refl };
      stays_sound = λ j ts h. by_tick h.0 (outcome_in ts) (tick_allowed ns arcs j ts h.1);
      own_grows = λ j ts h. own_grows ns arcs j ts h.1;
      own_in_work = λ j sound. within_greatest ns arcs j.states j.ran r s sound W heaviest;
      progress = λ j sound going. progress_holds_lem ns arcs j.states r s (ended_false ns arcs j.states going);
      step = λ j ts h w ready. leads_or_was ns arcs j ts h.1 r h.0 s w ready;
      chain_stays = λ j ts h w c was is chain. chain_stays ns arcs j ts h.1 r h.0 s w c was chain;
      chain_leads = λ j ts h v w c was turn leads is chain. chain_leads ns arcs j ts h.1 r h.0 s v w c was turn leads is chain;
      close = λ j sound w c ready chain.
          let below = below_greatest_holds_lem 64 ns arcs j.states j.ran r s sound L W longest heaviest chain.along (record {
            path = chain.path;
            taken = chain.taken;
            ready = subst (Ready ns arcs j.states) (sym chain.ends) ready;
          }) in
          weighs m L W c (ran_in_all ns j.ran) (omega (arith, chain.has_run, below.0)) (omega (arith, below.1));
      work_in_weight = work_weighs m L W (some_length ns arcs L W r longest heaviest);
    }
