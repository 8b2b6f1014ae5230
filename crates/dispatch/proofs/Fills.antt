-- Filling one core after the other.
use Rattle.std.proofs.Common.{◌≡◌, ℕ, ◌+◌, ◌<◌, ◌≤◌, ◌≢◌, ◌⊎◌, List, length, set, replicate, Some, None, Option, sym, ap, ◌∙◌, subst, inl, inr, arith}
use lib.ListN.{length-replicate, get_or-replicate}
use Rattle.std.proofs.lemmas.List.{get_or_past, get_or-set_same, get_or-set_other, length-set}
use Rattle.std.proofs.lemmas.Bool.{cases_eq, cases_lt}
use Rattle.sets.specs.declared.bit_set.BitSet.{BitSet}
use Rattle.sets.specs.Sets.{Has, Without}
use Rattle.dispatch.specs.declared.spot.Spot.{Spot}
use Rattle.dispatch.specs.Placing.{Waits, Next, NoneMay, Gets, Placed}
use Rattle.dispatch.specs.Search.{RowHas}
use Rattle.dispatch.specs.Spots.{spot, spot_at}
use Rattle.dispatch.specs.Tables.{no_number, row}
use Rattle.dispatch.proofs.Alike.{waits_alike, none_alike, next_alike, Agree, agree_alike, gets_agree}
use Rattle.dispatch.proofs.Rows.{below_last}

abbrev all_idle : ℕ → List (Option Spot)
all_idle m = replicate m None

idle_all : (m c : ℕ) → spot_at (all_idle m) c ≡ None
idle_all m c = go (cases_lt c m)
  where
    go : (c < m) ⊎ (m ≤ c) → spot_at (all_idle m) c ≡ None
    go (inl l) = get_or-replicate m c None None l
    go (inr l) = get_or_past (all_idle m) c None (omega (arith, length-replicate {A = Option Spot} m None))

some_is : (p q : Spot) (x : Option Spot) → x ≡ Some p → x ≡ Some q → p ≡ q
some_is p q x e f = cc

module _ (ready : List BitSet) (kept ahead : ℕ → ℕ → Type 0) where
  -- the cores below `core` are filled, and the sets have what is left
  pub record Filling (spots : List (Option Spot)) (left : List BitSet) (core : ℕ) : Type 0 where
    pub sixteen : length spots ≡ 16
    pub rows : length left ≡ 16
    pub filled : (c : ℕ) → c < core → Gets (RowHas ready) kept ahead spots c
    pub idle : (c : ℕ) → core ≤ c → spot_at spots c ≡ None
    pub waits : (s n : ℕ) → RowHas left s n → Waits (RowHas ready) spots core s n
    pub marked : (s n : ℕ) → Waits (RowHas ready) spots core s n → RowHas left s n

  pub filling_none : length ready ≡ 16 → Filling (replicate 16 None) ready 0
  filling_none e =
      record {
        sixteen = length-replicate {A = Option Spot} 16 None;
        rows = e;
        filled = λ c l. absurd (omega arith);
        idle = λ c l. idle_all 16 c;
        waits = λ s n r. record { is_ready = r; not_placed = λ p. not_below p.0 p.1 };
        marked = λ s n w. w.is_ready;
      }
    where
      not_below : (b : ℕ) → b < 0 → ⊥
      not_below b l = omega arith

  pub filling_more : (spots : List (Option Spot)) (left : List BitSet) (core : ℕ) (p : Spot) (rest : BitSet) → Filling spots left core → core < 16
      → Next (RowHas left) kept ahead p.slot p.node → Without (row left p.slot) p.node rest
      → Filling (set spots core (Some p)) (set left p.slot rest) (core + 1)
  filling_more spots left core p rest f lc x o =
      record {
        sixteen = length-set spots core (Some p) ∙ f.sixteen;
        rows = length-set left s rest ∙ f.rows;
        filled = λ c l. filled c l (cases_eq c core);
        idle = λ c l. let d : c ≢ core = λ e. omega arith in get_or-set_other spots core c (Some p) None d ∙ f.idle c (omega arith);
        waits = λ k v r. waits k v r (cases_eq k s);
        marked = λ k v w. marked k v w (cases_eq k s);
      }
    where
      s : ℕ
      s = p.slot

      n : ℕ
      n = p.node

      new : List (Option Spot)
      new = set spots core (Some p)

      in_slots : s < length left
      in_slots = let h = x.may.waiting.slot_below in omega (arith, f.rows)

      agree : Agree spots new core
      agree b l = let d : b ≢ core = λ e. omega arith in sym (get_or-set_other spots core b (Some p) None d)

      told : spot_at new core ≡ Some p
      told = get_or-set_same spots core (Some p) None (omega (arith, f.sixteen))

      filled : (c : ℕ) → c < core + 1 → (c ≡ core) ⊎ (c ≡ core → ⊥) → Gets (RowHas ready) kept ahead new c
      filled c l (inl e) =
          subst (λ (i : ℕ). Gets (RowHas ready) kept ahead new i) (sym e)
          (record {
            got = p;
            told = told;
            next = next_alike (agree_alike (RowHas ready) kept ahead spots new core agree) s n (next_alike (waits_alike f.waits f.marked) s n x);
          })
      filled c l (inr d) =
          gets_agree (RowHas ready) kept ahead spots new c (λ b lb. let h = below_last c core l d in agree b (omega arith)) (f.filled c (below_last c core l d))

      still : (k v : ℕ) → RowHas left k v → (s ≡ k → n ≡ v → ⊥) → Waits (RowHas ready) new (core + 1) k v
      still k v r d =
          record { is_ready = (f.waits k v r).is_ready; not_placed = λ q. go q.0 q.1 q.2 (cases_eq q.0 core) }
        where
          go : (b : ℕ) → b < core + 1 → spot_at new b ≡ Some (spot k v) → (b ≡ core) ⊎ (b ≡ core → ⊥) → ⊥
          go b l e (inl h) =
              let same = some_is p (spot k v) (spot_at new core) told (ap (spot_at new) (sym h) ∙ e) in
              d (ap (λ (y : Spot). y.slot) same) (ap (λ (y : Spot). y.node) same)
          go b l e (inr h) = (f.waits k v r).not_placed (b, below_last b core l h, agree b (below_last b core l h) ∙ e)

      waits : (k v : ℕ) → RowHas (set left s rest) k v → (k ≡ s) ⊎ (k ≡ s → ⊥) → Waits (RowHas ready) new (core + 1) k v
      waits k v r (inl e) =
          still k v
          (record { slot_below = r.slot_below; inside = subst (λ (i : ℕ). Has (row left i) v) (sym e) (o.no_more v at) })
          (λ _ same. o.gone (subst (λ (i : ℕ). Has rest i) (sym same) at))
        where
          at : Has rest v
          at = subst (λ (m : BitSet). Has m v) (ap (row (set left s rest)) e ∙ get_or-set_same left s rest no_number in_slots) r.inside
      waits k v r (inr d) =
          still k v
          (record { slot_below = r.slot_below; inside = subst (λ (m : BitSet). Has m v) (get_or-set_other left s k rest no_number d) r.inside })
          (λ e _. d (sym e))

      before_new : (k v : ℕ) → Waits (RowHas ready) new (core + 1) k v → RowHas left k v
      before_new k v w =
          f.marked k v (record { is_ready = w.is_ready; not_placed = λ q. w.not_placed (q.0, wide q.0 q.1, sym (agree q.0 q.1) ∙ q.2) })
        where
          wide : (b : ℕ) → b < core → b < core + 1
          wide b l = omega arith

      marked : (k v : ℕ) → Waits (RowHas ready) new (core + 1) k v → (k ≡ s) ⊎ (k ≡ s → ⊥) → RowHas (set left s rest) k v
      marked k v w (inl e) =
          let r = before_new k v w in
          record {
            slot_below = r.slot_below;
            inside =
                subst (λ (m : BitSet). Has m v) (sym (ap (row (set left s rest)) e ∙ get_or-set_same left s rest no_number in_slots))
                (others (o.keeps v (subst (λ (i : ℕ). Has (row left i) v) e r.inside)));
          }
        where
          others : (v ≡ n) ⊎ Has rest v → Has rest v
          others (inl g) =
              absurd (w.not_placed (core, omega arith, told ∙ ap (λ (i : ℕ). Some (spot i n)) (sym e) ∙ ap (λ (i : ℕ). Some (spot k i)) (sym g)))
          others (inr h) = h
      marked k v w (inr d) =
          let r = before_new k v w in
          record { slot_below = r.slot_below; inside = subst (λ (m : BitSet). Has m v) (sym (get_or-set_other left s k rest no_number d)) r.inside }

  -- no node may come any more, or no core is left
  pub filled_early : (spots : List (Option Spot)) (left : List BitSet) (cores core : ℕ) → Filling spots left core → core ≤ cores
      → NoneMay (RowHas left) ahead → Placed (RowHas ready) kept ahead cores spots core
  filled_early spots left cores core f l x =
      record {
        sixteen = f.sixteen;
        few = l;
        filled = f.filled;
        idle_else = f.idle;
        no_more = λ _. none_alike {kept = kept} {kept' = kept} (waits_alike f.waits f.marked) x;
      }

  pub filled_all : (spots : List (Option Spot)) (left : List BitSet) (cores : ℕ) → Filling spots left cores → Placed (RowHas ready) kept ahead cores spots cores
  filled_all spots left cores f =
      record { sixteen = f.sixteen; few = omega arith; filled = f.filled; idle_else = f.idle; no_more = λ l. absurd (omega arith) }
