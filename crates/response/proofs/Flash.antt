-- A task of one node of one tick: it is lawful, its greatest length and total are 1, and how its job goes.
use Rattle.std.proofs.Common.{◌≡◌, ℕ, zero, suc, ◌<◌, Bool, true, false, cond, eqb, ◌≢◌, [], ◌∷◌, get_or, sym, refl, ◌∙◌, subst, arith, lit<, lit≤}
use Rattle.std.proofs.lemmas.Bool.{eqb-true}
use Rattle.table.specs.Cases.{lamp_nodes}
use Rattle.table.specs.Range.{NodeInRange}
use Rattle.table.specs.Whole.{no_node}
use Rattle.task.specs.Held.{LawfulTask}
use Rattle.workload.specs.Measures.{IsGreatestLength, IsGreatestTotal}
use Rattle.workload.proofs.Single.{single_plain, single_shaped, single_length, single_total}
use Rattle.task.specs.Held.{nodes_of, arcs_of}
use Rattle.task.proofs.Apart.{plain_not_opening, plain_not_closing}
use Rattle.jobs.specs.Job.{Ready, Outcome, idle, goes_on, ends_with, Allowed, released}
use Rattle.jobs.proofs.Entering.{untouched_not_ended}
use Rattle.jobs.proofs.Tick.{ends_not_idle}
use Rattle.timing.specs.Jobs.{Turn, MayHave}
use Rattle.response.specs.Jobs.{outcome_in, graph_jobs}
use Rattle.response.specs.Example.{flash}

pub flash_lawful : LawfulTask flash
flash_lawful =
    record {
      in_range =
          record {
            some_node = lit≤ tt;
            few_nodes = lit≤ tt;
            few_arcs = lit≤ tt;
            task_in_range = record { some_period = lit≤ tt; short_period = lit≤ tt; some_deadline = lit≤ tt; deadline_in_period = lit≤ tt };
            nodes_in_range = λ v l. one_node v l;
            arcs_in_range = λ k l. absurd (omega arith);
          };
      shaped = single_shaped 1;
    }
  where
    one_node : (v : ℕ) → v < 1 → NodeInRange v (get_or (lamp_nodes 1) v no_node)
    one_node zero l = record { role = tt; region = tt; some_time = lit≤ tt; short_time = lit≤ tt }
    one_node (suc v) l = absurd (omega arith)

pub flash_length : IsGreatestLength (lamp_nodes 1) [] 1
flash_length = single_length 1 (lit≤ tt) (lit≤ tt)

pub flash_total : IsGreatestTotal (lamp_nodes 1) 1
flash_total = single_total 1

-- ---- its job

-- the node has its one tick
abbrev pub lit : Turn Outcome
lit = record { node = 0; outcome = ends_with 0 }

ready_at_release : Ready (lamp_nodes 1) [] (released 64) 0
ready_at_release =
    record {
      is_node = lit< tt;
      taken = tt;
      not_ended = λ e. untouched_not_ended e.0 e.1;
      all_before = λ u j t. absurd (no_arc_there j.0 j.1.is_arc);
      opening_ended = λ o c. absurd (plain_not_closing o c);
    }
  where
    no_arc_there : (k : ℕ) → k < 0 → ⊥
    no_arc_there k l = omega arith

-- the outcome of a node, by whether it is node 0
ran_zero : (v : ℕ) (b : Bool) → eqb v 0 ≡ b → cond b (ends_with 0) idle ≢ idle → v ≡ 0
ran_zero v true e ran = eqb-true v 0 e
ran_zero v false e ran = absurd (ran refl)

never_goes_on : (b : Bool) → cond b (ends_with 0) idle ≢ goes_on
never_goes_on true e = let z : ◌≡◌ {A = ℕ} 0 1 = cc in omega arith
never_goes_on false e = let z : ◌≡◌ {A = ℕ} 0 1 = cc in omega arith

ends_with_zero : (b : Bool) (c : ℕ) → cond b (ends_with 0) idle ≡ ends_with c → c ≡ 0
ends_with_zero true c e = cc
ends_with_zero false c e = absurd (let z : ◌≡◌ {A = ℕ} 0 1 = cc in omega arith)

tick_allowed : Allowed (lamp_nodes 1) [] (released 64) (outcome_in (lit ∷ []))
tick_allowed =
    record {
      only_ready = λ v ran. subst (Ready (lamp_nodes 1) [] (released 64)) (sym (ran_zero v (eqb v 0) refl ran)) ready_at_release;
      below_time = λ v e. absurd (never_goes_on (eqb v 0) e);
      branch_there = λ v b e op. absurd (plain_not_opening (sym (single_plain 1 v) ∙ op));
      else_zero = λ v b e n. ends_with_zero (eqb v 0) b e;
    }

pub may_flash : MayHave (graph_jobs (nodes_of flash) (arcs_of flash)) (graph_jobs (nodes_of flash) (arcs_of flash)).fresh lit
may_flash = (ready_at_release, (ends_not_idle 0, tick_allowed))
