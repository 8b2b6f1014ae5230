-- The nodes through which paths pass.
use Rattle.std.proofs.Common.{◌≡◌, ℕ, ◌<◌, ◌⊎◌, List, [], ◌∷◌, get_or, sym, refl, subst, inl, inr, arith}
use Rattle.table.specs.Whole.{no_node}
use Rattle.table.specs.declared.records.Arc.{Arc}
use Rattle.table.specs.declared.records.Node.{Node}
use Rattle.sets.specs.declared.bit_set.BitSet.{BitSet}
use Rattle.sets.specs.Sets.{Has, ◌∪◌}
use Rattle.task.specs.Graph.{IsNode, Joined}
use Rattle.paths.specs.Paths.{Path, end, step, first, Passes, Chain, LeadsTo, Upwards, Listed, choice_of, ChoiceOver, node_weight, path_value}
use Rattle.paths.specs.Instances.{node_alone, Passed}
use Rattle.sets.proofs.Unions.{in_left, in_right, in_either}
use Rattle.paths.specs.Unions.{has_alone, only_alone}

module _ (value : Path → BitSet) (u : ℕ) where
  in_choice : (p q : Path) (qs : List Path) → Listed p (q ∷ qs) → Has (value p) u → Has (choice_of ◌∪◌ value q qs) u
  in_choice p q [] (inl e) h = subst (λ (r : Path). Has (value r) u) e h
  in_choice p q [] (inr l) h = absurd l
  in_choice p q (r ∷ qs) (inl e) h = in_left (value q) (choice_of ◌∪◌ value r qs) u (subst (λ (s : Path). Has (value s) u) e h)
  in_choice p q (r ∷ qs) (inr l) h = in_right (value q) (choice_of ◌∪◌ value r qs) u (in_choice p r qs l h)

  of_one : (q : Path) (qs : List Path) → Has (choice_of ◌∪◌ value q qs) u → (p : Path) × Listed p (q ∷ qs) × Has (value p) u
  of_one q [] h = (q, inl refl, h)
  of_one q (r ∷ qs) h = go (in_either (value q) (choice_of ◌∪◌ value r qs) u h) (of_one r qs)
    where
      go : Has (value q) u ⊎ Has (choice_of ◌∪◌ value r qs) u → (Has (choice_of ◌∪◌ value r qs) u → (p : Path) × Listed p (r ∷ qs) × Has (value p) u)
          → (p : Path) × Listed p (q ∷ (r ∷ qs)) × Has (value p) u
      go (inl k) later = (q, inl refl, k)
      go (inr k) later = let t = later k in (t.0, inr t.1, t.2)

module _ (ns : List Node) (u : ℕ) where
  has_passes : (p : Path) → Has (path_value ◌∪◌ node_alone ns p) u → Passes u p
  has_passes (end v) h = only_alone v (get_or ns v no_node) u h
  has_passes (step v p) h = go (in_either (node_weight node_alone ns v) (path_value ◌∪◌ node_alone ns p) u h) (has_passes p)
    where
      go : Has (node_weight node_alone ns v) u ⊎ Has (path_value ◌∪◌ node_alone ns p) u → (Has (path_value ◌∪◌ node_alone ns p) u → Passes u p) → (u ≡ v) ⊎ Passes u p
      go (inl k) later = inl (only_alone v (get_or ns v no_node) u k)
      go (inr k) later = inr (later k)

  here : (v : ℕ) → u < 64 → u ≡ v → Has (node_weight node_alone ns v) u
  here v l e = subst (λ (x : ℕ). Has (node_weight node_alone ns x) u) e (has_alone u (get_or ns u no_node) l)

  passes_has : (p : Path) → u < 64 → Passes u p → Has (path_value ◌∪◌ node_alone ns p) u
  passes_has (end v) l e = here v l e
  passes_has (step v p) l (inl e) = in_left (node_weight node_alone ns v) (path_value ◌∪◌ node_alone ns p) u (here v l e)
  passes_has (step v p) l (inr h) = in_right (node_weight node_alone ns v) (path_value ◌∪◌ node_alone ns p) u (passes_has p l h)

  module _ (arcs : List Arc) (up : Upwards ns (Joined arcs)) where
    passes_node : (p : Path) → IsNode ns (first p) → Chain (Joined arcs) p → Passes u p → IsNode ns u
    passes_node (end v) n c e = subst (IsNode ns) (sym e) n
    passes_node (step v p) n c (inl e) = subst (IsNode ns) (sym e) n
    passes_node (step v p) n c (inr h) = passes_node p (up.between_nodes v (first p) c.0) c.1 h

    pub passed : (goals : BitSet) (v : ℕ) (s : BitSet) → ChoiceOver ◌∪◌ (path_value ◌∪◌ node_alone ns) (LeadsTo ns arcs goals v) s → Passed (LeadsTo ns arcs goals v) s u
    passed goals v s c = record { only = only; every = every }
      where
        only : Has s u → (p : Path) × LeadsTo ns arcs goals v p × Passes u p
        only h =
            let t = of_one (path_value ◌∪◌ node_alone ns) u c.one c.others (subst (λ (x : BitSet). Has x u) c.chosen h) in
            (t.0, c.only t.0 t.1, has_passes t.0 t.2)

        every : (p : Path) → LeadsTo ns arcs goals v p → Passes u p → Has s u
        every p l h =
            let n : IsNode ns u = passes_node p (subst (IsNode ns) (sym l.begins) l.from_node) l.chain h in
            subst (λ (x : BitSet). Has x u) (sym c.chosen)
            (in_choice (path_value ◌∪◌ node_alone ns) u p c.one c.others (c.every p l) (passes_has p (omega (arith, up.few_nodes)) h))
