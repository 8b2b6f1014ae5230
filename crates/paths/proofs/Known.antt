-- What is known of the nodes from one on.
use Rattle.std.proofs.Common.{◌≡◌, ℕ, ◌+◌, ◌<◌, ◌≤◌, ◌⊎◌, List, length, get_or, set, sym, refl, ap, ◌∙◌, subst, inl, inr, arith, get_or-set_other, get_or-set_same}
use Rattle.std.proofs.lemmas.Bool.{cases_eq}
use Rattle.table.specs.declared.records.Arc.{Arc}
use Rattle.table.specs.declared.records.Node.{Node}
use Rattle.sets.specs.declared.arc_set.ArcSet.{ArcSet}
use Rattle.sets.specs.declared.bit_set.BitSet.{BitSet}
use Rattle.sets.specs.Sets.{Has, HasArc, With}
use Rattle.sets.proofs.Marked.{no_number, none_in_zero}
use Rattle.task.specs.Graph.{from, to, IsNode, Joined, Ranged}
use Rattle.task.proofs.Lawful.{Sees}
use Rattle.paths.specs.Paths.{Path, end, step, first, Chain, Leads, LeadsTo, Upwards, ChoiceOver, path_value}
use Rattle.paths.specs.Walks.{SetOfArcs, Known, Walked}
use Rattle.paths.proofs.Chosen.{chosen_like}

-- a table's ranges make a graph that runs upwards
pub ranged_upwards : (ns : List Node) (arcs : List Arc) → Ranged ns arcs → Upwards ns (Joined arcs)
ranged_upwards ns arcs g = record { few_nodes = g.few_nodes; forward = g.arcs_forward; between_nodes = g.arcs_between_nodes }

module _ (ns : List Node) (arcs : List Arc) (up : Upwards ns (Joined arcs)) where
  -- the ends of an arc are small enough for a set
  pub ends_small : (k : ℕ) → k < length arcs → (from arcs k < 64) × (to arcs k < 64)
  ends_small k l =
      let there : Joined arcs (from arcs k) (to arcs k) = (k, record { is_arc = l; starts = refl; stops = refl }) in
      let small : to arcs k < 64 = omega (arith, up.few_nodes, up.between_nodes (from arcs k) (to arcs k) there) in
      (omega (arith, small, up.forward (from arcs k) (to arcs k) there), small)

pub all_seen : (arcs : List Arc) (m : ℕ) (s : ArcSet) → m ≡ length arcs → Sees arcs m s → SetOfArcs arcs s
all_seen arcs m s e w =
    record {
      only = λ u v h. let b = w.only u v h in (b.0, record { is_arc = omega (arith, b.1); starts = b.2; stops = b.3 });
      every = every;
    }
  where
    every : (u v : ℕ) → Joined arcs u v → HasArc s u v
    every u v (k, a) = subst (λ (x : ℕ). HasArc s x v) a.starts (subst (HasArc s (from arcs k)) a.stops (w.every k (let l = a.is_arc in omega arith)))

module _ (J K : ℕ → ℕ → Type 0) (f : (u v : ℕ) → J u v → K u v) where
  chain_like : (p : Path) → Chain J p → Chain K p
  chain_like (end v) c = tt
  chain_like (step v p) c = (f v (first p) c.0, chain_like p c.1)

  leads_like : (ns : List Node) (goals : BitSet) (v : ℕ) (p : Path) → Leads J ns goals v p → Leads K ns goals v p
  leads_like ns goals v p l = record { from_node = l.from_node; begins = l.begins; chain = chain_like p l.chain; ends = l.ends }

-- the set's arcs run upwards as the list's do
pub set_upwards : (ns : List Node) (arcs : List Arc) (s : ArcSet) → SetOfArcs arcs s → Upwards ns (Joined arcs) → Upwards ns (HasArc s)
set_upwards ns arcs s same up =
    record {
      few_nodes = up.few_nodes;
      forward = λ u v h. up.forward u v (same.only u v h);
      between_nodes = λ u v h. up.between_nodes u v (same.only u v h);
    }

-- the nodes from n on are known, and the other places are as before
pub record Settled {V : Type 0} (choice extension : V → V → V) (weight : ℕ → Node → V) (ns : List Node) (Joins : ℕ → ℕ → Type 0) (goals : BitSet) (before : List V) (n : ℕ) (found : BitSet) (values : List V) : Type 0 where
  pub known : Known choice extension weight ns Joins goals n found values
  pub kept : (v : ℕ) → (Has found v → ⊥) → (d : V) → get_or values v d ≡ get_or before v d

module _ {V : Type 0} (choice extension : V → V → V) (weight : ℕ → Node → V) (ns : List Node) (Joins : ℕ → ℕ → Type 0) (goals : BitSet) (before : List V) where
  pub settled_none : (n : ℕ) → length ns ≤ n → Settled choice extension weight ns Joins goals before n no_number before
  settled_none n past =
      record {
        known = record {
          value = λ v h. absurd (none_in_zero no_number refl v h);
          no_path = λ v l lacks p leads. omega (arith, leads.from_node);
          only_nodes = λ v h. absurd (none_in_zero no_number refl v h);
          none_below = λ v h. absurd (none_in_zero no_number refl v h);
        };
        kept = λ v lacks d. refl;
      }

  module _ (m n : ℕ) (next : m ≡ n + 1) (found : BitSet) (values : List V) (settled : Settled choice extension weight ns Joins goals before m found values) where
    pub settled_next : Known choice extension weight ns Joins goals (n + 1) found values
    settled_next = subst (λ (k : ℕ). Known choice extension weight ns Joins goals k found values) next settled.known

    -- n has no path to a goal
    pub settled_skip : ((p : Path) → Leads Joins ns goals n p → ⊥) → Settled choice extension weight ns Joins goals before n found values
    settled_skip none =
        let known = settled.known in
        record {
          known = record {
            value = known.value;
            no_path = λ v l lacks. no_path v l lacks (cases_eq v n);
            only_nodes = known.only_nodes;
            none_below = λ v h. omega (arith, known.none_below v h);
          };
          kept = settled.kept;
        }
      where
        no_path : (v : ℕ) → n ≤ v → (Has found v → ⊥) → (v ≡ n) ⊎ (v ≡ n → ⊥) → (p : Path) → Leads Joins ns goals v p → ⊥
        no_path v l lacks (inl e) p leads = none p (subst (λ (x : ℕ). Leads Joins ns goals x p) e leads)
        no_path v l lacks (inr d) p leads = settled.known.no_path v (grind arith) lacks p leads

    -- the choice over the paths from n is written
    pub settled_more : (more : BitSet) (x : V) → IsNode ns n → n < length values → With found n more → ChoiceOver choice (path_value extension weight ns) (Leads Joins ns goals n) x → Settled choice extension weight ns Joins goals before n more (set values n x)
    settled_more more x here room new chosen =
        let known = settled.known in
        record {
          known = record {
            value = λ v h d. value v d (new.no_more v h);
            no_path = λ v l lacks p leads. no_path v l lacks p leads (cases_eq v n);
            only_nodes = λ v h. only_nodes v (new.no_more v h);
            none_below = λ v h. none_below v (new.no_more v h);
          };
          kept = λ v lacks d. get_or-set_other values n v x d (λ e. lacks (subst (Has more) (sym e) new.new)) ∙ settled.kept v (λ h. lacks (new.keeps v h)) d;
        }
      where
        value : (v : ℕ) (d : V) → Has found v ⊎ (v ≡ n) → ChoiceOver choice (path_value extension weight ns) (Leads Joins ns goals v) (get_or (set values n x) v d)
        value v d (inl h) =
            chosen_like (Leads Joins ns goals v) (Leads Joins ns goals v) (get_or values v d) (get_or (set values n x) v d) (λ p l. l) (λ p l. l)
            (get_or-set_other values n v x d (λ e. omega (arith, settled.known.none_below v h))) (settled.known.value v h d)
        value v d (inr e) =
            chosen_like (Leads Joins ns goals n) (Leads Joins ns goals v) x (get_or (set values n x) v d)
            (λ p l. subst (λ (k : ℕ). Leads Joins ns goals k p) (sym e) l) (λ p l. subst (λ (k : ℕ). Leads Joins ns goals k p) e l)
            (ap (λ (k : ℕ). get_or (set values n x) k d) e ∙ get_or-set_same values n x d room) chosen

        no_path : (v : ℕ) → n ≤ v → (Has more v → ⊥) → (p : Path) → Leads Joins ns goals v p → (v ≡ n) ⊎ (v ≡ n → ⊥) → ⊥
        no_path v l lacks p leads (inl e) = lacks (subst (Has more) (sym e) new.new)
        no_path v l lacks p leads (inr d) = settled.known.no_path v (grind arith) (λ h. lacks (new.keeps v h)) p leads

        only_nodes : (v : ℕ) → Has found v ⊎ (v ≡ n) → IsNode ns v
        only_nodes v (inl h) = settled.known.only_nodes v h
        only_nodes v (inr e) = subst (IsNode ns) (sym e) here

        none_below : (v : ℕ) → Has found v ⊎ (v ≡ n) → n ≤ v
        none_below v (inl h) = omega (arith, settled.known.none_below v h)
        none_below v (inr e) = omega arith

module _ {V : Type 0} (choice extension : V → V → V) (weight : ℕ → Node → V) (ns : List Node) (arcs : List Arc) (s : ArcSet) (same : SetOfArcs arcs s) (goals : BitSet) where
  pub settled_all : (before values : List V) (n : ℕ) (found : BitSet) → n ≡ 0 → length values ≡ length before → Settled choice extension weight ns (HasArc s) goals before n found values → Walked choice extension weight ns arcs goals before values found
  settled_all before values n found e sized settled =
      record {
        value = λ v h d.
            chosen_like (Leads (HasArc s) ns goals v) (LeadsTo ns arcs goals v) (get_or values v d) (get_or values v d)
            (leads_like (HasArc s) (Joined arcs) same.only ns goals v) (leads_like (Joined arcs) (HasArc s) same.every ns goals v) refl (settled.known.value v h d);
        only_nodes = settled.known.only_nodes;
        no_path = λ v lacks p leads. settled.known.no_path v (omega arith) lacks p (leads_like (Joined arcs) (HasArc s) same.every ns goals v p leads);
        kept = settled.kept;
        same_length = sized;
      }
