-- The theorem where outcomes are free, from the theorem at the same jobs with every outcome allowed.
use Rattle.std.proofs.Common.{ℕ, ◌<◌, List}
use Rattle.timing.specs.Jobs.{Jobs, Turn, Fair, LawsIn, JobLaws}
use Rattle.timing.specs.System.{System}
use Rattle.timing.specs.Run.{Slot, idle, busy, State, start, release, Place, ReadyAt, MayHaveAt, MayTick, Run, begun, released, ticked}
use Rattle.timing.specs.Freely.{ReadyOnce, MayTickFreely, RunFreely, begun as begun_freely, released as released_freely, ticked as ticked_freely, RespondsFreely}
use Rattle.timing.proofs.Chains.{turn_ready}
use Rattle.timing.proofs.Invariant.{responds}
use Rattle.timing.proofs.Logs.{all_weaker}

-- ---- jobs

-- the same jobs, where A tells which outcomes are allowed
abbrev pub allowing : {O : Type 0} (J : Jobs O) → (J.State → Turn O → Type 0) → Jobs O
allowing J A =
    record {
      State = J.State;
      fresh = J.fresh;
      advance = J.advance;
      ended = J.ended;
      Sound = J.Sound;
      Ready = J.Ready;
      Allows = A;
      Leads = J.Leads;
      Chain = J.Chain;
      own = J.own;
    }

-- laws that hold whatever the outcomes are hold of the allowed ones
pub laws_allowing : {O : Type 0} (J : Jobs O) (A : J.State → Turn O → Type 0) (m W Z : ℕ) →
    LawsIn J (λ j ts. J.Sound j × ReadyOnce (J.Ready j) ts) m W Z → JobLaws (allowing J A) m W Z
laws_allowing {O} J A m W Z laws =
    record {
      fresh_sound = laws.fresh_sound;
      fresh_own = laws.fresh_own;
      fresh_chain = laws.fresh_chain;
      stays_sound = λ j ts h. laws.stays_sound j ts (freely j ts h);
      own_grows = λ j ts h. laws.own_grows j ts (freely j ts h);
      own_in_work = laws.own_in_work;
      progress = laws.progress;
      step = λ j ts h. laws.step j ts (freely j ts h);
      chain_stays = λ j ts h. laws.chain_stays j ts (freely j ts h);
      chain_leads = λ j ts h. laws.chain_leads j ts (freely j ts h);
      close = laws.close;
      work_in_weight = laws.work_in_weight;
    }
  where
    freely : (j : J.State) (ts : List (Turn O)) → J.Sound j × Fair (allowing J A) j ts → J.Sound j × ReadyOnce (J.Ready j) ts
    freely j ts h = (h.0, λ v. (h.1.once v, turn_ready (allowing J A) j ts h.1 v))

-- ---- runs

-- the system with every outcome allowed, and its states
abbrev allowing_all : System → System
allowing_all y = record { plan = y.plan; Outcome = y.Outcome; jobs = λ k. allowing (y.jobs k) (λ j t. Unit {0}) }

abbrev seen : (y : System) → State y → State (allowing_all y)
seen y s = record { now = s.now; slot = s.slot }

may_seen : (y : System) (s : State y) (cs : List (Place y.Outcome)) → MayTickFreely y s cs → MayTick (allowing_all y) (seen y s) cs
may_seen y s cs may =
    record {
      allowed =
          all_weaker (λ c. (c.slot < y.plan.slots) × ReadyAt (y.jobs c.slot) c.turn.node (s.slot c.slot)) (λ c. (c.slot < y.plan.slots) × MayHaveAt ((allowing_all y).jobs c.slot) c.turn (s.slot c.slot))
          (λ c h. (h.0, has c.slot c.turn (s.slot c.slot) h.1)) cs may.ready;
      once = may.once;
      few = may.few;
      work_conserving = may.work_conserving;
    }
  where
    has : (k : ℕ) (t : Turn y.Outcome) (x : Slot (y.jobs k).State) → ReadyAt (y.jobs k) t.node x → MayHaveAt ((allowing_all y).jobs k) t x
    has k t (idle past) ready = ready
    has k t (busy r sp j past) ready = (ready, tt)

run_seen : (y : System) (s u : State y) → RunFreely y s u → Run (allowing_all y) (seen y s) (seen y u)
run_seen y s u begun_freely = begun
run_seen y s u (released_freely {u = v} k run may) = released k (run_seen y s v run) may
run_seen y s u (ticked_freely {u = v} cs run may) = ticked cs (run_seen y s v run) (may_seen y v cs may)

pub responds_freely : (y : System) → RespondsFreely y
responds_freely y law laws s run =
    let all = responds (allowing_all y) law (λ k h. laws_allowing (y.jobs k) (λ j t. Unit {0}) y.plan.cores (y.plan.work k) (y.plan.weight k) (laws k h)) (seen y s) (run_seen y (start y) s run) in
    (λ k may u on late. all.0 k may (seen y u) (run_seen y (release y k s) u on) late, all.1, all.2)

-- ---- a run is one with free outcomes

may_freely : (y : System) (s : State y) (cs : List (Place y.Outcome)) → MayTick y s cs → MayTickFreely y s cs
may_freely y s cs may =
    record {
      ready =
          all_weaker (λ c. (c.slot < y.plan.slots) × MayHaveAt (y.jobs c.slot) c.turn (s.slot c.slot)) (λ c. (c.slot < y.plan.slots) × ReadyAt (y.jobs c.slot) c.turn.node (s.slot c.slot))
          (λ c h. (h.0, ready c.slot c.turn (s.slot c.slot) h.1)) cs may.allowed;
      once = may.once;
      few = may.few;
      work_conserving = may.work_conserving;
    }
  where
    ready : (k : ℕ) (t : Turn y.Outcome) (x : Slot (y.jobs k).State) → MayHaveAt (y.jobs k) t x → ReadyAt (y.jobs k) t.node x
    ready k t (idle past) h = h
    ready k t (busy r sp j past) h = h.0

pub run_freely : (y : System) (s u : State y) → Run y s u → RunFreely y s u
run_freely y s u begun = begun_freely
run_freely y s u (released {u = v} k run may) = released_freely k (run_freely y s v run) may
run_freely y s u (ticked {u = v} cs run may) = ticked_freely cs (run_freely y s v run) (may_freely y v cs may)
