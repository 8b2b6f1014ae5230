-- What holds in every state of a run, and the response-time theorem.
use Rattle.std.proofs.Common.{◌≡◌, ℕ, suc, ◌+◌, ◌-◌, ◌<◌, ◌≤◌, Bool, true, false, cond, eqb, ◌⊎◌, List, [], ◌∷◌, ◌++◌, length, replicate, sym, refl, ap, subst, inl, inr, arith}
use mathlib.Core.Path.{fun_ext}
use Rattle.std.proofs.lemmas.Bool.{cases_lt, eq-eqb, eqb-true}
use Rattle.std.specs.List.{AllByRecursion}
use Rattle.bounds.specs.Equation.{sum_to, apart_from}
use Rattle.timing.specs.Window.{Job, Fits, ApartBefore, Apart}
use Rattle.timing.specs.Jobs.{Jobs, Turn, Fair}
use Rattle.timing.specs.System.{Held, Bounded, share, System, SoundJobs}
use Rattle.timing.specs.Run.{Done, Slot, idle, busy, State, start, begin, Spaced, MayRelease, release, settle, work, Place, turns_for, OpenAt, MayTick, tick, Run, begun, released, ticked}
use Rattle.timing.specs.Statements.{OnTime, TimelySlot, Timely, Idle, NoOverlap, EndedWithin, past_of, Ends, Responds}
use Rattle.timing.proofs.Counting.{sum_to_split, others_mono, others_grow}
use Rattle.timing.proofs.Interference.{goes_ahead, ahead_in, interference, LogOk, LogFine, interference_bounded}
use Rattle.timing.proofs.Chains.{KeptUp, still_young, chains_keep_up}
use Rattle.timing.proofs.Logs.{logged, all_replicate, all_weaker, fits_more, length_more, used_kept, used_grows, before_now}
use Rattle.timing.proofs.Places.{Turns, running, FairAt, Conserving, Slotwise, slotwise}

abbrev log : {S : Type 0} → Slot S → List Job
log (idle past) = logged past
log (busy r sp j past) = record { released = r; spent = sp } ∷ logged past

-- of an open job of slot k, and the jobs before it
record OpenOk (y : System) (k t r : ℕ) (sp : List ℕ) (j : (y.jobs k).State) (past : List Done) : Type 0 where
  sound : (y.jobs k).Sound j
  counted : length sp ≡ (y.jobs k).own j
  young : t < r + y.plan.bound k
  born : r ≤ t
  earlier : AllByRecursion (λ u. u < t) sp
  spread : ApartBefore (y.plan.party k).period r (logged past)
  fits : Fits y.plan.cores (y.plan.work k) (y.plan.bound k) (record { released = r; spent = sp })
  past_fits : AllByRecursion (Fits y.plan.cores (y.plan.work k) (y.plan.bound k)) (logged past)
  timely : OnTime (y.plan.bound k) past

record IdleOk (y : System) (k : ℕ) (past : List Done) : Type 0 where
  spread : Apart (y.plan.party k).period (logged past)
  past_fits : AllByRecursion (Fits y.plan.cores (y.plan.work k) (y.plan.bound k)) (logged past)
  timely : OnTime (y.plan.bound k) past

abbrev SlotOk : (y : System) (k t : ℕ) → Slot (y.jobs k).State → Type 0
SlotOk y k t (idle past) = IdleOk y k past
SlotOk y k t (busy r sp j past) = OpenOk y k t r sp j past

-- each ready node of the open job has a chain that has kept up with the time
abbrev Progress : (y : System) (logs : ℕ → List Job) (k t : ℕ) → Slot (y.jobs k).State → Type 0
Progress y logs k t (idle past) = Unit {0}
Progress y logs k t (busy r sp j past) = (w : ℕ) → (y.jobs k).Ready j w → KeptUp (y.jobs k) y.plan.cores t r (interference y.plan logs k r) j w

abbrev logs : (y : System) → State y → ℕ → List Job
logs y s i = log (s.slot i)

-- no job was ever released in the slot
abbrev Empty : {S : Type 0} → Slot S → Type 0
Empty (idle past) = past ≡ []
Empty (busy r sp j past) = ⊥

record Inv (y : System) (s : State y) : Type 0 where
  ok : (k : ℕ) → Held y.plan k → SlotOk y k s.now (s.slot k)
  empty : (k : ℕ) → y.plan.holds k ≡ false → Empty (s.slot k)
  progress : (k : ℕ) → Held y.plan k → Progress y (logs y s) k s.now (s.slot k)

timely_slot : (y : System) (k t : ℕ) (x : Slot (y.jobs k).State) → SlotOk y k t x → TimelySlot (y.plan.bound k) t x
timely_slot y k t (idle past) ok = ok.timely
timely_slot y k t (busy r sp j past) ok = (ok.young, ok.timely)

start_inv : (y : System) → Inv y (start y)
start_inv y = record { ok = λ k h. record { spread = tt; past_fits = tt; timely = tt }; empty = λ k e. refl; progress = λ k h. tt }

-- ---- a release

-- a period after its release no job is open
not_spaced : (y : System) → Bounded y.plan → (k t r : ℕ) (sp : List ℕ) (j : (y.jobs k).State) (past : List Done) → Held y.plan k → OpenOk y k t r sp j past → r + (y.plan.party k).period ≤ t → ⊥
not_spaced y law k t r sp j past kn ok h = omega (arith, ok.young, law.in_deadline k kn, (law.lawful k kn).in_period)

module _ (y : System) (laws : SoundJobs y) (law : Bounded y.plan) (k t : ℕ) (kn : Held y.plan k) where
  begin_ok : (b : Bool) (x : Slot (y.jobs k).State) → (b ≡ true → Spaced (y.plan.party k).period t x) → SlotOk y k t x → SlotOk y k t (cond b (begin t (y.jobs k).fresh x) x)
  begin_ok true (idle past) spaced ok =
      record {
        sound = (laws k kn).fresh_sound;
        counted = sym (laws k kn).fresh_own;
        young = omega (arith, law.some_bound k kn);
        born = omega arith;
        earlier = tt;
        spread = before_now (y.plan.party k).period t past (spaced refl) ok.spread;
        fits = record { inside = tt; narrow = λ u. omega arith; short = omega arith };
        past_fits = ok.past_fits;
        timely = ok.timely;
      }
  begin_ok true (busy r sp j past) spaced ok = absurd (not_spaced y law k t r sp j past kn ok (spaced refl).0)
  begin_ok false x spaced ok = ok

  begin_progress : (old new : ℕ → List Job) (b : Bool) (x : Slot (y.jobs k).State) → (b ≡ true → Spaced (y.plan.party k).period t x) → SlotOk y k t x →
      ((r : ℕ) → interference y.plan old k r ≤ interference y.plan new k r) → Progress y old k t x → Progress y new k t (cond b (begin t (y.jobs k).fresh x) x)
  begin_progress old new true (idle past) spaced ok more h = λ w ready. (0, (laws k kn).fresh_chain w ready, omega arith)
  begin_progress old new true (busy r sp j past) spaced ok more h = absurd (not_spaced y law k t r sp j past kn ok (spaced refl).0)
  begin_progress old new false (idle past) spaced ok more h = tt
  begin_progress old new false (busy r sp j past) spaced ok more h = λ w ready. ((h w ready).0, (h w ready).1, omega (arith, (h w ready).2, more r))

begin_log : (y : System) (k r i t : ℕ) (b : Bool) (x : Slot (y.jobs i).State) → ahead_in y.plan k r i (log x) ≤ ahead_in y.plan k r i (log (cond b (begin t (y.jobs i).fresh x) x))
begin_log y k r i t true (idle past) = omega arith
begin_log y k r i t true (busy r' sp j past) = omega arith
begin_log y k r i t false x = omega arith

begin_empty : (y : System) (k t : ℕ) (b : Bool) (x : Slot (y.jobs k).State) → (b ≡ true → ⊥) → Empty x → Empty (cond b (begin t (y.jobs k).fresh x) x)
begin_empty y k t true x not e = absurd (not refl)
begin_empty y k t false x not e = e

release_inv : (y : System) → SoundJobs y → Bounded y.plan → (s : State y) (k : ℕ) → MayRelease y s k → Inv y s → Inv y (release y k s)
release_inv y laws law s k may inv =
    record {
      ok = λ i h. begin_ok y laws law i s.now h (eqb k i) (s.slot i) (spaced i) (inv.ok i h);
      empty = λ i e. begin_empty y i s.now (eqb k i) (s.slot i) (λ same. absurd (vacant i e same)) (inv.empty i e);
      progress = λ i h.
          begin_progress y laws law i s.now h (logs y s) (logs y (release y k s)) (eqb k i) (s.slot i) (spaced i) (inv.ok i h)
          (λ r. others_mono y.plan.slots i (λ q. ahead_in y.plan i r q (logs y s q)) (λ q. ahead_in y.plan i r q (logs y (release y k s) q)) (λ q n ne. begin_log y i r q s.now (eqb k q) (s.slot q)))
          (inv.progress i h);
    }
  where
    spaced : (i : ℕ) → eqb k i ≡ true → Spaced (y.plan.party i).period s.now (s.slot i)
    spaced i e = subst (λ (q : ℕ). Spaced (y.plan.party q).period s.now (s.slot q)) (eqb-true k i e) may.1

    vacant : (i : ℕ) → y.plan.holds i ≡ false → eqb k i ≡ true → ⊥
    vacant i e same =
        let h : y.plan.holds i ≡ true = subst (λ (q : ℕ). y.plan.holds q ≡ true) (eqb-true k i same) may.0.1 in
        grind arith

-- ---- a tick

-- the log of a slot after a tick
abbrev worked_log : {O S : Type 0} → ℕ → List (Turn O) → Slot S → List Job
worked_log t ts (idle past) = logged past
worked_log t ts (busy r sp j past) = record { released = r; spent = replicate (length ts) t ++ sp } ∷ logged past

settle_log : {S : Type 0} (b : Bool) (t r : ℕ) (sp : List ℕ) (j : S) (past : List Done) → log (settle b t r sp j past) ≡ record { released = r; spent = sp } ∷ logged past
settle_log true t r sp j past = refl
settle_log false t r sp j past = refl

work_log : {O : Type 0} (J : Jobs O) (t : ℕ) (ts : List (Turn O)) (x : Slot J.State) → log (work J t ts x) ≡ worked_log t ts x
work_log J t ts (idle past) = refl
work_log J t ts (busy r sp j past) = settle_log (J.ended (J.advance j ts)) (suc t) r (replicate (length ts) t ++ sp) (J.advance j ts) past

worked_none : {O S : Type 0} (t : ℕ) (ts : List (Turn O)) (x : Slot S) → Empty x → worked_log t ts x ≡ []
worked_none t ts (idle past) e = ap logged e
worked_none t ts (busy r sp j past) e = absurd e

work_empty : {O : Type 0} (J : Jobs O) (t : ℕ) (ts : List (Turn O)) (x : Slot J.State) → Empty x → Empty (work J t ts x)
work_empty J t ts (idle past) e = e
work_empty J t ts (busy r sp j past) e = absurd e

-- one slot's turns are some of all
turns_few : (y : System) (turns : Turns y) (k : ℕ) → k < y.plan.slots → length (turns k) ≤ running y turns
turns_few y turns k l = omega (arith, sum_to_split y.plan.slots k (λ i. length (turns i)) l)

module _ (y : System) (laws : SoundJobs y) (k t : ℕ) (kn : Held y.plan k) (ts : List (Turn y.Outcome)) (few : length ts ≤ y.plan.cores) where
  worked_short : (r : ℕ) (sp : List ℕ) (j : (y.jobs k).State) (past : List Done) → OpenOk y k t r sp j past → Fair (y.jobs k) j ts →
      length (replicate (length ts) t ++ sp) ≡ (y.jobs k).own ((y.jobs k).advance j ts)
  worked_short r sp j past ok fair = omega (arith, length_more (length ts) t sp, ok.counted, (laws k kn).own_grows j ts (ok.sound, fair))

  worked_fits : (r : ℕ) (sp : List ℕ) (j : (y.jobs k).State) (past : List Done) → OpenOk y k t r sp j past → Fair (y.jobs k) j ts →
      Fits y.plan.cores (y.plan.work k) (y.plan.bound k) (record { released = r; spent = replicate (length ts) t ++ sp })
  worked_fits r sp j past ok fair =
      fits_more y.plan.cores (y.plan.work k) (y.plan.bound k) (length ts) t r sp few
      (omega (arith, worked_short r sp j past ok fair, length_more (length ts) t sp, (laws k kn).own_in_work ((y.jobs k).advance j ts) ((laws k kn).stays_sound j ts (ok.sound, fair))))
      ok.born ok.young ok.earlier ok.fits

  worked_log_ok : (x : Slot (y.jobs k).State) → SlotOk y k t x → FairAt (y.jobs k) ts x → LogOk y.plan k (worked_log t ts x)
  worked_log_ok (idle past) ok fair = (ok.spread, ok.past_fits)
  worked_log_ok (busy r sp j past) ok fair = (ok.spread, (worked_fits r sp j past ok fair, ok.past_fits))

-- the log of slot i holds no less after a tick, and the turns too of a job that goes ahead
module _ (y : System) (k r i t : ℕ) (ts : List (Turn y.Outcome)) where
  worked_kept : (x : Slot (y.jobs i).State) → ahead_in y.plan k r i (log x) ≤ ahead_in y.plan k r i (worked_log t ts x)
  worked_kept (idle past) = omega arith
  worked_kept (busy r' sp j past) = omega (arith, used_kept r (y.plan.bound k) (goes_ahead y.plan k r i) (length ts) t r' sp)

  worked_grows : (x : Slot (y.jobs i).State) → r ≤ t → t < r + y.plan.bound k → FairAt (y.jobs i) ts x → (1 ≤ length ts → OpenAt (λ q. goes_ahead y.plan k r i q ≡ true) x) →
      ahead_in y.plan k r i (log x) + length ts ≤ ahead_in y.plan k r i (worked_log t ts x)
  worked_grows (idle past) born young fair goes = omega arith
  worked_grows (busy r' sp j past) born young fair goes =
      elim (cases_lt 0 (length ts)) [
        | inl l ↦ omega (arith, used_grows r (y.plan.bound k) (goes_ahead y.plan k r i) (length ts) t r' sp born young (goes l))
        | inr l ↦ omega (arith, worked_kept (busy r' sp j past))
      ]

module _ (y : System) (laws : SoundJobs y) (law : Bounded y.plan) (s : State y) (turns : Turns y) (may : Slotwise y s turns) (inv : Inv y s) where
  abbrev after : ℕ → List Job
  after i = worked_log s.now (turns i) (s.slot i)

  abbrev ticked_slot : (i : ℕ) → Slot (y.jobs i).State
  ticked_slot i = work (y.jobs i) s.now (turns i) (s.slot i)

  logs_after : (λ i. log (ticked_slot i)) ≡ after
  logs_after = fun_ext (λ i. work_log (y.jobs i) s.now (turns i) (s.slot i))

  after_ok : (i : ℕ) → i < y.plan.slots → LogFine y.plan i (after i)
  after_ok i l = (
    λ h. worked_log_ok y laws i s.now (l, h) (turns i) (omega (arith, turns_few y turns i l, may.few)) (s.slot i) (inv.ok i (l, h)) (may.fair i l),
    λ e. worked_none s.now (turns i) (s.slot i) (inv.empty i e),
  )

  after_kept : (k r : ℕ) → interference y.plan (logs y s) k r ≤ interference y.plan after k r
  after_kept k r = others_mono y.plan.slots k (λ i. ahead_in y.plan k r i (logs y s i)) (λ i. ahead_in y.plan k r i (after i)) (λ i n ne. worked_kept y k r i s.now (turns i) (s.slot i))

  -- where all cores run, and none a job behind, the others use all that slot k does not
  after_grows : (k r : ℕ) → k < y.plan.slots → r ≤ s.now → s.now < r + y.plan.bound k → running y turns ≡ y.plan.cores →
      ((i : ℕ) → i < y.plan.slots → (i ≡ k → ⊥) → 1 ≤ length (turns i) → OpenAt (λ q. goes_ahead y.plan k r i q ≡ true) (s.slot i)) →
      interference y.plan (logs y s) k r + y.plan.cores ≤ interference y.plan after k r + length (turns k)
  after_grows k r l born young all ahead =
      omega (
        arith,
        sum_to_split y.plan.slots k (λ i. length (turns i)) l,
        others_grow y.plan.slots k (λ i. ahead_in y.plan k r i (logs y s i)) (λ i. ahead_in y.plan k r i (after i)) (λ i. length (turns i))
            (λ i n ne. worked_grows y k r i s.now (turns i) (s.slot i) born young (may.fair i n) (ahead i n ne)),
      )

  module _ (k : ℕ) (kn : Held y.plan k) where
    -- the open job's chains after the tick
    worked_chains : (r : ℕ) (sp : List ℕ) (j : (y.jobs k).State) (past : List Done) → OpenOk y k s.now r sp j past → Fair (y.jobs k) j (turns k) →
        Conserving y s turns k (busy r sp j past) → Progress y (logs y s) k s.now (busy r sp j past) →
        (w : ℕ) → (y.jobs k).Ready ((y.jobs k).advance j (turns k)) w → KeptUp (y.jobs k) y.plan.cores (suc s.now) r (interference y.plan after k r) ((y.jobs k).advance j (turns k)) w
    worked_chains r sp j past ok fair conserving progress =
        chains_keep_up (y.jobs k) y.plan.cores (y.plan.work k) (y.plan.weight k) (laws k kn) law.some_core s.now r (interference y.plan (logs y s) k r) (interference y.plan after k r) j (turns k) ok.sound fair (after_kept k r)
        (λ w ready none. after_grows k r kn.0 ok.born ok.young (conserving w ready none).0 (conserving w ready none).1)
        progress

    -- a job that is open after the tick is younger than its bound
    worked_young : (r : ℕ) (j : (y.jobs k).State) → (y.jobs k).Sound j → (y.jobs k).ended j ≡ false →
        ((w : ℕ) → (y.jobs k).Ready j w → KeptUp (y.jobs k) y.plan.cores (suc s.now) r (interference y.plan after k r) j w) → suc s.now < r + y.plan.bound k
    worked_young r j sound going chains =
        let w = (laws k kn).progress j sound going in
        let p = chains w.0 w.1 in
        still_young (y.plan.cores - 1) y.plan.cores (suc s.now) r ((y.jobs k).own j) (interference y.plan after k r) p.0 (y.plan.weight k) (sum_to y.plan.slots (apart_from k (share y.plan k))) (y.plan.bound k)
        (omega (arith, law.some_core)) p.2 ((laws k kn).close j sound w.0 p.0 w.1 p.1)
        (interference_bounded y.plan law (λ i h. (laws i h).work_in_weight) after k r kn after_ok) (law.enough k kn)

    settled_ok : (b : Bool) (r : ℕ) (sp : List ℕ) (j : (y.jobs k).State) (past : List Done) → OpenOk y k s.now r sp j past → Fair (y.jobs k) j (turns k) →
        (y.jobs k).ended ((y.jobs k).advance j (turns k)) ≡ b →
        ((w : ℕ) → (y.jobs k).Ready ((y.jobs k).advance j (turns k)) w → KeptUp (y.jobs k) y.plan.cores (suc s.now) r (interference y.plan after k r) ((y.jobs k).advance j (turns k)) w) →
        SlotOk y k (suc s.now) (settle b (suc s.now) r (replicate (length (turns k)) s.now ++ sp) ((y.jobs k).advance j (turns k)) past)
    settled_ok true r sp j past ok fair e chains =
        record {
          spread = ok.spread;
          past_fits = (worked_fits y laws k s.now kn (turns k) (omega (arith, turns_few y turns k kn.0, may.few)) r sp j past ok fair, ok.past_fits);
          timely = (omega (arith, ok.young), ok.timely);
        }
    settled_ok false r sp j past ok fair e chains =
        record {
          sound = (laws k kn).stays_sound j (turns k) (ok.sound, fair);
          counted = worked_short y laws k s.now kn (turns k) (omega (arith, turns_few y turns k kn.0, may.few)) r sp j past ok fair;
          young = worked_young r ((y.jobs k).advance j (turns k)) ((laws k kn).stays_sound j (turns k) (ok.sound, fair)) e chains;
          born = omega (arith, ok.born);
          earlier = all_replicate (λ u. u < suc s.now) (length (turns k)) s.now sp (omega arith) (all_weaker (λ u. u < s.now) (λ u. u < suc s.now) (λ u h. omega arith) sp ok.earlier);
          spread = ok.spread;
          fits = worked_fits y laws k s.now kn (turns k) (omega (arith, turns_few y turns k kn.0, may.few)) r sp j past ok fair;
          past_fits = ok.past_fits;
          timely = ok.timely;
        }

    settled_progress : (b : Bool) (r : ℕ) (sp : List ℕ) (j : (y.jobs k).State) (past : List Done) →
        ((w : ℕ) → (y.jobs k).Ready j w → KeptUp (y.jobs k) y.plan.cores (suc s.now) r (interference y.plan after k r) j w) →
        Progress y after k (suc s.now) (settle b (suc s.now) r sp j past)
    settled_progress true r sp j past chains = tt
    settled_progress false r sp j past chains = chains

    worked_ok : (x : Slot (y.jobs k).State) → SlotOk y k s.now x → FairAt (y.jobs k) (turns k) x → Conserving y s turns k x → Progress y (logs y s) k s.now x →
        SlotOk y k (suc s.now) (work (y.jobs k) s.now (turns k) x)
    worked_ok (idle past) ok fair conserving progress = ok
    worked_ok (busy r sp j past) ok fair conserving progress =
        settled_ok ((y.jobs k).ended ((y.jobs k).advance j (turns k))) r sp j past ok fair refl (worked_chains r sp j past ok fair conserving progress)

    worked_progress : (x : Slot (y.jobs k).State) → SlotOk y k s.now x → FairAt (y.jobs k) (turns k) x → Conserving y s turns k x → Progress y (logs y s) k s.now x →
        Progress y after k (suc s.now) (work (y.jobs k) s.now (turns k) x)
    worked_progress (idle past) ok fair conserving progress = tt
    worked_progress (busy r sp j past) ok fair conserving progress =
        settled_progress ((y.jobs k).ended ((y.jobs k).advance j (turns k))) r (replicate (length (turns k)) s.now ++ sp) ((y.jobs k).advance j (turns k)) past (worked_chains r sp j past ok fair conserving progress)

  tick_ok : (k : ℕ) → Held y.plan k → SlotOk y k (suc s.now) (ticked_slot k)
  tick_ok k h = worked_ok k h (s.slot k) (inv.ok k h) (may.fair k h.0) (may.conserving k h) (inv.progress k h)

  tick_progress : (k : ℕ) → Held y.plan k → Progress y (λ i. log (ticked_slot i)) k (suc s.now) (ticked_slot k)
  tick_progress k h =
      subst (λ (ls : ℕ → List Job). Progress y ls k (suc s.now) (ticked_slot k)) (sym logs_after)
      (worked_progress k h (s.slot k) (inv.ok k h) (may.fair k h.0) (may.conserving k h) (inv.progress k h))

tick_inv : (y : System) → SoundJobs y → Bounded y.plan → (s : State y) (cs : List (Place y.Outcome)) → MayTick y s cs → Inv y s → Inv y (tick y cs s)
tick_inv y laws law s cs may inv =
    record {
      ok = tick_ok y laws law s (λ k. turns_for k cs) (slotwise y s cs may) inv;
      empty = λ k e. work_empty (y.jobs k) s.now (turns_for k cs) (s.slot k) (inv.empty k e);
      progress = tick_progress y laws law s (λ k. turns_for k cs) (slotwise y s cs may) inv;
    }

-- ---- runs

run_inv : (y : System) → SoundJobs y → Bounded y.plan → (s u : State y) → Inv y s → Run y s u → Inv y u
run_inv y laws law s u inv begun = inv
run_inv y laws law s u inv (released {u = v} k run may) = release_inv y laws law v k may (run_inv y laws law s v inv run)
run_inv y laws law s u inv (ticked {u = v} cs run may) = tick_inv y laws law v cs may (run_inv y laws law s v inv run)

idle_then : (y : System) → Bounded y.plan → (k t : ℕ) (x : Slot (y.jobs k).State) → Held y.plan k → SlotOk y k t x → Spaced (y.plan.party k).period t x → Idle x
idle_then y law k t (idle past) kn ok spaced = tt
idle_then y law k t (busy r sp j past) kn ok spaced = not_spaced y law k t r sp j past kn ok spaced.0

-- ---- a job that was released stays in the slot, open or ended

abbrev Ended : ℕ → List Done → Type 0
Ended r [] = ⊥
Ended r (d ∷ past) = (d.released ≡ r) ⊎ Ended r past

abbrev Known : {S : Type 0} → ℕ → Slot S → Type 0
Known r (idle past) = Ended r past
Known r (busy q sp j past) = (q ≡ r) ⊎ Ended r past

begin_known : {S : Type 0} (r t : ℕ) (fresh : S) (b : Bool) (x : Slot S) → Known r x → Known r (cond b (begin t fresh x) x)
begin_known r t fresh true (idle past) h = inr h
begin_known r t fresh true (busy q sp j past) h = h
begin_known r t fresh false x h = h

begin_new : {S : Type 0} (t : ℕ) (fresh : S) (b : Bool) (x : Slot S) → b ≡ true → Idle x → Known t (cond b (begin t fresh x) x)
begin_new t fresh true (idle past) e h = inl refl
begin_new t fresh true (busy q sp j past) e h = absurd h
begin_new t fresh false x e h = absurd (grind arith)

work_known : {O : Type 0} (M : Jobs O) (r t : ℕ) (ts : List (Turn O)) (x : Slot M.State) → Known r x → Known r (work M t ts x)
work_known M r t ts (idle past) h = h
work_known M r t ts (busy q sp j past) h = go (M.ended (M.advance j ts))
  where
    go : (b : Bool) → Known r (settle b (suc t) q (replicate (length ts) t ++ sp) (M.advance j ts) past)
    go true = h
    go false = h

run_known : (y : System) (k r : ℕ) (s u : State y) → Known r (s.slot k) → Run y s u → Known r (u.slot k)
run_known y k r s u h begun = h
run_known y k r s u h (released {u = v} i run may) = begin_known r v.now (y.jobs k).fresh (eqb i k) (v.slot k) (run_known y k r s v h run)
run_known y k r s u h (ticked {u = v} cs run may) = work_known (y.jobs k) r v.now (turns_for k cs) (v.slot k) (run_known y k r s v h run)

ended_within : (R r : ℕ) (past : List Done) → OnTime R past → Ended r past → EndedWithin R r past
ended_within R r [] on h = h
ended_within R r (d ∷ past) on (inl e) = inl (e, omega (arith, on.0))
ended_within R r (d ∷ past) on (inr h) = inr (ended_within R r past on.1 h)

known_ended : (R t r : ℕ) {S : Type 0} (x : Slot S) → r + R ≤ t → TimelySlot R t x → Known r x → EndedWithin R r (past_of x)
known_ended R t r (idle past) late on h = ended_within R r past on h
known_ended R t r (busy q sp j past) late on (inl e) = absurd (omega (arith, on.0))
known_ended R t r (busy q sp j past) late on (inr h) = ended_within R r past on.1 h

-- ---- the theorem, of every system, whatever its jobs are

module _ (y : System) (law : Bounded y.plan) (laws : SoundJobs y) (s : State y) (inv : Inv y s) where
  timely : Timely y s
  timely k h = timely_slot y k s.now (s.slot k) (inv.ok k h)

  no_overlap : NoOverlap y s
  no_overlap k may = idle_then y law k s.now (s.slot k) may.0 (inv.ok k may.0) may.1

  ends : Ends y s
  ends k may u run late =
      known_ended (y.plan.bound k) u.now s.now (u.slot k) late
      (timely_slot y k u.now (u.slot k) ((run_inv y laws law (release y k s) u (release_inv y laws law s k may inv) run).ok k may.0))
      (run_known y k s.now (release y k s) u (begin_new s.now (y.jobs k).fresh (eqb k k) (s.slot k) (eq-eqb k k refl) (no_overlap k may)) run)

pub responds : (y : System) → Responds y
responds y law laws s run =
    let inv = run_inv y laws law (start y) s (start_inv y) run in
    (ends y law laws s inv, timely y law laws s inv, no_overlap y law laws s inv)

-- ---- the open jobs of a run

-- the job's state is one that jobs can reach
abbrev pub SoundSlot : {O : Type 0} (J : Jobs O) → Slot J.State → Type 0
SoundSlot J (idle past) = Unit {0}
SoundSlot J (busy r sp j past) = J.Sound j

sound_slot : (y : System) (k t : ℕ) (x : Slot (y.jobs k).State) → SlotOk y k t x → SoundSlot (y.jobs k) x
sound_slot y k t (idle past) ok = tt
sound_slot y k t (busy r sp j past) ok = ok.sound

pub run_sound : (y : System) → Bounded y.plan → SoundJobs y → (s : State y) → Run y (start y) s → (k : ℕ) → Held y.plan k → SoundSlot (y.jobs k) (s.slot k)
run_sound y law laws s run k h = sound_slot y k s.now (s.slot k) ((run_inv y laws law (start y) s (start_inv y) run).ok k h)
