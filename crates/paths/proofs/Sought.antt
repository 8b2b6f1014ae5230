-- The paths from one node, by the nodes to which they step first.
use Rattle.std.proofs.Common.{◌≡◌, ℕ, ◌+◌, ◌/◌, ◌^◌, ◌⊎◌, List, get_or, Some, None, Option, sym, refl, ap, subst, inl, inr, arith}
use Rattle.std.proofs.lemmas.Bool.{cases_eq}
use Rattle.table.specs.declared.records.Node.{Node}
use Rattle.sets.specs.declared.bit_set.BitSet.{BitSet}
use Rattle.sets.specs.Sets.{Has, Marks, Without}
use Rattle.sets.proofs.Bits.{bit, zero_or_one}
use Rattle.task.specs.Graph.{IsNode}
use Rattle.paths.specs.Algebra.{LawfulAlgebra}
use Rattle.paths.specs.Paths.{Path, end, step, first, Leads, Upwards, ChoiceOver, node_weight, path_value}
use Rattle.paths.specs.Walks.{BestOver, Known}
use Rattle.paths.proofs.Chosen.{StepsOnto, chosen_like, chosen_one, chosen_step, best_like, best_joined}

-- the path steps first to a number that is not in the set
abbrev pub Past : BitSet → Path → Type 0
Past left (end u) = ⊥
Past left (step u p) = Has left (first p) → ⊥

-- of the paths from n that go on, those are sought that do not step first to a number in the set, which has only found ones
pub record Sought {V : Type 0} (choice : V → V → V) (value : Path → V) (Joins : ℕ → ℕ → Type 0) (ns : List Node) (goals : BitSet) (n : ℕ) (found left : BitSet) (best : Option V) : Type 0 where
  pub joined : (v : ℕ) → Has left v → Joins n v
  pub reached : (v : ℕ) → Has left v → Has found v
  pub so_far : BestOver choice value (λ p. Leads Joins ns goals n p × Past left p) best

module _ (Joins : ℕ → ℕ → Type 0) (ns : List Node) (goals : BitSet) (n : ℕ) where
  module _ (left less : BitSet) (v : ℕ) (without : Without left v less) where
    past_less : (p : Path) → Past left p → Past less p
    past_less (end u) b = absurd b
    past_less (step u p) b = λ h. b (without.no_more (first p) h)

    abbrev Onto : Path → Type 0
    Onto p = StepsOnto n (Leads Joins ns goals v) p

    -- a path that steps first to v, or to none of the numbers left
    split : Upwards ns Joins → (p : Path) → Leads Joins ns goals n p × Past less p → (Leads Joins ns goals n p × Past left p) ⊎ Onto p
    split up (end u) (l, b) = absurd b
    split up (step u p) (l, b) = go (cases_eq (first p) v)
      where
        go : (first p ≡ v) ⊎ (first p ≡ v → ⊥) → (Leads Joins ns goals n (step u p) × Past left (step u p)) ⊎ Onto (step u p)
        go (inl e) =
            inr (
              p,
              ap (λ (x : ℕ). step x p) l.begins,
              record { from_node = subst (IsNode ns) e (up.between_nodes u (first p) l.chain.0); begins = e; chain = l.chain.1; ends = l.ends },
            )
        go (inr d) = inl (l, λ h. later (without.keeps (first p) h))
          where
            later : (first p ≡ v) ⊎ Has less (first p) → ⊥
            later (inl e) = d e
            later (inr h) = b h

    join : IsNode ns n → Joins n v → (p : Path) → (Leads Joins ns goals n p × Past left p) ⊎ Onto p → Leads Joins ns goals n p × Past less p
    join here j p (inl (l, b)) = (l, past_less p b)
    join here j p (inr (q, e, l)) =
        subst (λ (r : Path). Leads Joins ns goals n r × Past less r) (sym e) (
          record { from_node = here; begins = refl; chain = (subst (Joins n) (sym l.begins) j, l.chain); ends = l.ends },
          λ h. without.gone (subst (Has less) l.begins h),
        )

module _ {V : Type 0} {choice extension : V → V → V} (law : LawfulAlgebra V choice extension) (weight : ℕ → Node → V) (Joins : ℕ → ℕ → Type 0) (ns : List Node) (goals : BitSet) (n : ℕ) where
  module _ (up : Upwards ns Joins) (found : BitSet) (values : List V) (known : Known choice extension weight ns Joins goals (n + 1) found values) where
    -- all the found nodes in the row of n, to which n is joined, are left
    pub sought_none : (row both left : BitSet) → ((v : ℕ) → Has row v → Joins n v) → ((v : ℕ) → Joins n v → Has row v) → Marks (λ v. Has row v × Has found v) both → left ≡ both → Sought choice (path_value extension weight ns) Joins ns goals n found left None
    sought_none row both left only all marks is =
        record {
          joined = λ v h. only v (marked v h).0;
          reached = λ v h. (marked v h).1;
          so_far = none;
        }
      where
        marked : (v : ℕ) → Has left v → Has row v × Has found v
        marked v h = marks.only v (subst (λ (s : BitSet). Has s v) is h)

        none : (p : Path) → Leads Joins ns goals n p × Past left p → ⊥
        none (end u) (l, b) = b
        none (step u p) (l, b) = go (zero_or_one (found.bits / 2 ^ first p))
          where
            here : Joins n (first p)
            here = subst (λ (x : ℕ). Joins x (first p)) l.begins l.chain.0

            on : Leads Joins ns goals (first p) p
            on = record { from_node = up.between_nodes n (first p) here; begins = refl; chain = l.chain.1; ends = l.ends }

            go : (bit found.bits (first p) ≡ 0) ⊎ (bit found.bits (first p) ≡ 1) → ⊥
            go (inl e) = known.no_path (first p) (omega (arith, up.forward n (first p) here)) (λ h. omega arith) p on
            go (inr h) = b (subst (λ (s : BitSet). Has s (first p)) (sym is) (marks.every (first p) (all (first p) here, h)))

  module _ (up : Upwards ns Joins) (here : IsNode ns n) (found : BitSet) (values : List V) (known : Known choice extension weight ns Joins goals (n + 1) found values) (left less : BitSet) (best : Option V) (v : ℕ) (inside : Has left v) (without : Without left v less) (sought : Sought choice (path_value extension weight ns) Joins ns goals n found left best) where
    pub sought_found : (x y r : V) → x ≡ get_or values v x → y ≡ extension (node_weight weight ns n) x → r ≡ elim best [ Some b ↦ choice b y | None ↦ y ] → Sought choice (path_value extension weight ns) Joins ns goals n found less (Some r)
    sought_found x y r ex ey er =
        let before : Path → Type 0 = λ p. Leads Joins ns goals n p × Past left p in
        let onto : Path → Type 0 = StepsOnto n (Leads Joins ns goals v) in
        let there : ChoiceOver choice (path_value extension weight ns) (Leads Joins ns goals v) x =
        chosen_like (Leads Joins ns goals v) (Leads Joins ns goals v) (get_or values v x) x (λ p h. h) (λ p h. h) ex (known.value v (sought.reached v inside) x) in
        let stepped : ChoiceOver choice (path_value extension weight ns) onto y =
        chosen_like onto onto (extension (node_weight weight ns n) x) y (λ p h. h) (λ p h. h) ey (chosen_step law weight ns (Leads Joins ns goals v) n x there) in
        record {
          joined = λ w h. sought.joined w (without.no_more w h);
          reached = λ w h. sought.reached w (without.no_more w h);
          so_far =
              chosen_like (λ p. before p ⊎ onto p) (λ p. Leads Joins ns goals n p × Past less p) r r
              (join Joins ns goals n left less v without here (sought.joined v inside)) (split Joins ns goals n left less v without up) refl
              (best_joined law (path_value extension weight ns) before onto best y r sought.so_far stepped er);
        }

  -- no number is left
  module _ (found left : BitSet) (best : Option V) (none : (v : ℕ) → Has left v → ⊥) (sought : Sought choice (path_value extension weight ns) Joins ns goals n found left best) where
    -- a path goes on past what is left, or is that of the goal n alone
    goes_on : (p : Path) → Leads Joins ns goals n p → (Leads Joins ns goals n p × Past left p) ⊎ ((p ≡ end n) × Has goals n)
    goes_on (end u) l = inr (ap end l.begins, subst (Has goals) l.begins l.ends)
    goes_on (step u p) l = inl (l, none (first p))

    pub sought_goal : (x r : V) → IsNode ns n → Has goals n → x ≡ node_weight weight ns n → r ≡ elim best [ Some b ↦ choice b x | None ↦ x ] → ChoiceOver choice (path_value extension weight ns) (Leads Joins ns goals n) r
    sought_goal x r here goal ex er =
        chosen_like (λ p. (Leads Joins ns goals n p × Past left p) ⊎ (p ≡ end n)) (Leads Joins ns goals n) r r either back refl
        (best_joined law (path_value extension weight ns) (λ p. Leads Joins ns goals n p × Past left p) (λ p. p ≡ end n) best x r sought.so_far (chosen_one (λ p. p ≡ end n) (end n) x refl (λ q e. e) ex) er)
      where
        either : (p : Path) → (Leads Joins ns goals n p × Past left p) ⊎ (p ≡ end n) → Leads Joins ns goals n p
        either p (inl h) = h.0
        either p (inr e) = subst (Leads Joins ns goals n) (sym e) (record { from_node = here; begins = refl; chain = tt; ends = goal })

        back : (p : Path) → Leads Joins ns goals n p → (Leads Joins ns goals n p × Past left p) ⊎ (p ≡ end n)
        back p l = go (goes_on p l)
          where
            go : (Leads Joins ns goals n p × Past left p) ⊎ ((p ≡ end n) × Has goals n) → (Leads Joins ns goals n p × Past left p) ⊎ (p ≡ end n)
            go (inl h) = inl h
            go (inr h) = inr h.0

    pub sought_no_goal : (Has goals n → ⊥) → BestOver choice (path_value extension weight ns) (Leads Joins ns goals n) best
    sought_no_goal no-goal =
        best_like choice (path_value extension weight ns) (λ p. Leads Joins ns goals n p × Past left p) (Leads Joins ns goals n) best (λ p h. h.0) (λ p l. go p (goes_on p l)) sought.so_far
      where
        go : (p : Path) → (Leads Joins ns goals n p × Past left p) ⊎ ((p ≡ end n) × Has goals n) → Leads Joins ns goals n p × Past left p
        go p (inl h) = h
        go p (inr h) = absurd (no-goal h.1)
