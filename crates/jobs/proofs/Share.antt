-- Two nodes that are ready at the same time may share a tick. Each node of a path stands for itself if it is taken, and else
-- for the innermost of its homes that is taken; before a node that has started, what the nodes of a path stand for has ended.
use Rattle.std.proofs.Common.{◌≡◌, ℕ, ◌≢◌, ◌⊎◌, List, sym, refl, ◌∙◌, subst, inl, inr}
use Rattle.table.specs.declared.records.Arc.{Arc}
use Rattle.table.specs.declared.records.Node.{Node}
use Rattle.task.specs.Graph.{region, IsNode, HomeOf, Joined, OfAKind, Ranged}
use Rattle.task.specs.Shape.{Shaped}
use Rattle.task.proofs.Follows.{arc_kind, closing_beside}
use Rattle.task.proofs.Regions.{one_home}
use Rattle.paths.specs.Paths.{Path, end, step, first, last, Chain}
use Rattle.jobs.specs.declared.node_state.NodeState.{NodeState}
use Rattle.jobs.specs.Job.{HasEnded, Taken, Ready}
use Rattle.jobs.specs.Sharing.{Connects}
use Rattle.jobs.specs.Statements.{ReadyMayShare}
use Rattle.jobs.proofs.Close.{picks_so_far, picks_settle, takes_taken}
use Rattle.jobs.proofs.Counts.{counted}
use Rattle.jobs.proofs.Entering.{taken_or_not, home_ended, taken_beside}
use Rattle.jobs.proofs.Started.{Started, ready_started, ended_started}

data StandsFor (ns : List Node) (job : List NodeState) (x : ℕ) : ℕ → Type 0 where
  itself : {y : ℕ} → Taken ns job y → y ≡ x → StandsFor ns job x y
  by_home : {y h : ℕ} → (Taken ns job y → ⊥) → HomeOf ns y h → StandsFor ns job x h → StandsFor ns job x y

module _ (ns : List Node) (job : List NodeState) (x : ℕ) where
  stands_itself : (y : ℕ) → Taken ns job y → StandsFor ns job x y → y ≡ x
  stands_itself y t (itself _ e) = e
  stands_itself y t (by_home out i k) = absurd (out t)

  -- a node that is not taken stands for what its home stands for, and so does each other of its region
  stands_beside : (y z : ℕ) → region ns y ≡ region ns z → (Taken ns job z → ⊥) → StandsFor ns job x y → StandsFor ns job x z
  stands_beside y z same out (itself t e) = absurd (out (taken_beside ns job z y (sym same) t))
  stands_beside y z same out (by_home _ i k) = by_home out (i.0, sym same ∙ i.1) k

  stands_at_home : (y h : ℕ) → HomeOf ns y h → (Taken ns job y → ⊥) → StandsFor ns job x y → StandsFor ns job x h
  stands_at_home y h i out (itself t e) = absurd (out t)
  stands_at_home y h i out (by_home {h = g} _ k st) = subst (StandsFor ns job x) (one_home ns y g h k i) st

module _ (ns : List Node) (arcs : List Arc) (job : List NodeState) (r : Ranged ns arcs) (s : Shaped ns arcs)
    (ended_taken : (v : ℕ) → HasEnded job v → Taken ns job v) where
  home_taken : (y h : ℕ) → HomeOf ns y h → Taken ns job y → Taken ns job h
  home_taken y h (b, lies) t = ended_taken h (b, home_ended ns job y h b lies t)

  -- an arc to a node that is not taken: what its tail stands for, its head stands for
  stands_on : (x y z : ℕ) → IsNode ns z → (Taken ns job z → ⊥) → OfAKind ns y z → StandsFor ns job x y → StandsFor ns job x z
  stands_on x y z n out (inl k) st = stands_beside ns job x y z k.within out st
  stands_on x y z n out (inr (inl k)) st = by_home out k.inside st
  stands_on x y z n out (inr (inr k)) st =
      let h = k.home in
      let beside = closing_beside ns arcs s h z (record { is_node = n; closes = k.closes }) in
      let off : Taken ns job h → ⊥ = λ t. out (taken_beside ns job z h beside t) in
      let at_home = stands_at_home ns job x y h k.inside (λ t. off (home_taken y h k.inside t)) st in
      stands_beside ns job x h z (sym beside) out at_home

  -- an arc to a node that has started: what its tail stands for has ended
  ended_before : (x y z : ℕ) → Started ns arcs job z → Joined arcs y z → OfAKind ns y z → Taken ns job y ⊎ (Taken ns job y → ⊥) → StandsFor ns job x y → HasEnded job x
  ended_before x y z st j k (inl t) sf = subst (HasEnded job) (stands_itself ns job x y t sf) (st.all_before y j t)
  ended_before x y z st j (inl k) (inr out) sf = absurd (out (taken_beside ns job y z k.within st.taken))
  ended_before x y z st j (inr (inl k)) (inr out) sf = absurd (out (home_taken z y k.inside st.taken))
  ended_before x y z st j (inr (inr k)) (inr out) sf =
      let h = k.home in
      let ended = st.opening_ended h k.closes in
      subst (HasEnded job) (stands_itself ns job x h (ended_taken h ended) (stands_at_home ns job x y h k.inside out sf)) ended

  module _ (ended-starts : (v : ℕ) → HasEnded job v → Started ns arcs job v) where
    -- what z stands for has ended, so what a node with an arc to z stands for has ended too
    passes_on : (y z : ℕ) → Joined arcs y z → Taken ns job z ⊎ (Taken ns job z → ⊥) → ((x : ℕ) → StandsFor ns job x z → HasEnded job x)
        → (x : ℕ) → StandsFor ns job x y → HasEnded job x
    passes_on y z j (inl t) on x sf = ended_before x y z (ended-starts z (on z (itself t refl))) j (arc_kind ns arcs s y z j) (taken_or_not ns job y) sf
    passes_on y z j (inr out) on x sf = on x (stands_on x y z (r.arcs_between_nodes y z j) out (arc_kind ns arcs s y z j) sf)

    ended_along : (y : ℕ) (p : Path) → Joined arcs y (first p) → Chain (Joined arcs) p → Started ns arcs job (last p) → (x : ℕ) → StandsFor ns job x y → HasEnded job x
    ended_along y (end z) j c st x sf = ended_before x y z st j (arc_kind ns arcs s y z j) (taken_or_not ns job y) sf
    ended_along y (step z p) j c st x sf = passes_on y z j (taken_or_not ns job z) (ended_along z p c.0 c.1 st) x sf

    no_path : (u v : ℕ) → u ≢ v → Ready ns arcs job u → Ready ns arcs job v → (p : Path) → Connects arcs u v p → ⊥
    no_path u v d a b (end w) k = d (sym k.begins ∙ k.ends)
    no_path u v d a b (step w p) k =
        let begun = subst (Ready ns arcs job) (sym k.begins) a in
        let reached = ready_started ns arcs job (last p) (subst (Ready ns arcs job) (sym k.ends) b) in
        begun.not_ended (ended_along w p k.chain.0 k.chain.1 reached w (itself begun.taken refl))

pub ready_may_share_holds_lem : ReadyMayShare
ready_may_share_holds_lem places ns arcs job ran r s reached u v d a b =
    let c = counted ns arcs r job ran reached in
    let ended_taken : (w : ℕ) → HasEnded job w → Taken ns job w = λ w. (c.each w).ended_taken in
    let starts = ended_started ns arcs r s job ran reached in
    record {
      differ = d;
      together = (
        picks_so_far job,
        record {
          settling = picks_settle ns arcs job ran r s c;
          takes_one = takes_taken ns arcs job ran r s c u a.is_node a.taken;
          takes_other = takes_taken ns arcs job ran r s c v b.is_node b.taken;
        },
      );
      no_path_to = no_path ns arcs job r s ended_taken starts u v d a b;
      no_path_from = no_path ns arcs job r s ended_taken starts v u (λ e. d (sym e)) b a;
    }
