-- What words say, and what they do not.
use Rattle.std.proofs.Common.{◌≡◌, ℕ, ◌≤◌, List, [], ◌∷◌, length, get_or, drop, Some, None, Ok, Err, codes, Option, Result, sym, refl, ap, ◌∙◌, subst, arith}
use Rattle.table.specs.declared.records.Node.{Node}
use Rattle.table.specs.declared.records.Region.{Region}
use Rattle.table.specs.declared.records.Region.TheVariants.{Top, Branch}
use Rattle.table.specs.declared.records.Role.{Role}
use Rattle.table.specs.declared.records.Role.TheVariants.{Plain, Opening, Closing}
use Rattle.plans.specs.declared.wanted.Wanted.{Wanted}
use Rattle.std.specs.Option.{IsNone}
use Rattle.std.specs.Result.{IsErr}
use Rattle.std.specs.Str.Parse.{without_leading_plus, digits_value}
use Rattle.plans.specs.Numerals.{Counts, Counted}
use Rattle.plans.specs.Parsed.{NamesSlot}
use Rattle.plans.specs.Statements.{Word, ToldTable, timed, filed, Said, task, greatest_time, role_word, texts}
use Rattle.plans.specs.Statements.{RegionSaid, PlaceSaid, Sits, Closes, NodeSaid, TableSaid, Makes, Heard, Found}
use Rattle.plans.proofs.Keywords.{only_task, only_arc}
use Rattle.plans.proofs.Spelled.{Slice, nth, behind, length_texts, spelled_2, spelled_4, opened_2, opened_3, opened_4}

-- a list of words is as long as the slice that has them
as_long : (ws : Slice) (words : List Word) → texts ws ≡ words → length ws ≡ length words
as_long ws words e = sym (length_texts ws) ∙ ap length e

-- an answer that says what was expected, where the words say nothing of the kind

pub unheard : {A B : Type 0} (view : A → B) (Says : B → Type 0) (r : Result A Wanted) → IsErr r → ((b : B) → Says b → ⊥) → Heard view Says r
unheard view Says (Ok a) e none = absurd cc
unheard view Says (Err what) e none = none

pub unfound : {B : Type 0} (Says : B → Type 0) (r : Option B) → IsNone r → ((b : B) → Says b → ⊥) → Found Says r
unfound Says (Some b) e none = absurd cc
unfound Says None e none = none

module _ (ws : Slice) where
  -- arcs

  pub arc_unsaid_to : length ws ≡ 2 → ((n : ℕ) → Counts 255 (nth ws 1) n → ⊥) → (s : Said) → Makes (codes "arc" ∷ texts ws) s → ⊥
  arc_unsaid_to l nay =
      only_arc (texts ws)
      (λ a g. nay a.to (subst (λ (v : List Word). Counts 255 (get_or v 1 []) a.to) (sym g.2 ∙ spelled_2 ws l) g.4))

  -- regions

  pub home_unsaid : length ws ≡ 4 → ((n : ℕ) → Counts 63 (nth ws 1) n → ⊥) → (r : Region) → RegionSaid (texts ws) r → ⊥
  home_unsaid l nay Top s = omega (arith, as_long ws _ s)
  home_unsaid l nay (Branch h b) s =
      nay h (subst (λ (v : List Word). Counts 63 (get_or v 1 []) h) (sym s.4 ∙ spelled_4 ws l) s.5.2)

  pub branch_unsaid : length ws ≡ 4 → ((n : ℕ) → Counts 255 (nth ws 3) n → ⊥) → (r : Region) → RegionSaid (texts ws) r → ⊥
  branch_unsaid l nay Top s = omega (arith, as_long ws _ s)
  branch_unsaid l nay (Branch h b) s =
      nay b (subst (λ (v : List Word). Counts 255 (get_or v 3 []) b) (sym s.4 ∙ spelled_4 ws l) s.5.3)

  pub branch_said : (h b : ℕ) → length ws ≡ 4 → nth ws 0 ≡ codes "in" → nth ws 2 ≡ codes "branch" → Counts 63 (nth ws 1) h → Counts 255 (nth ws 3) b
      → RegionSaid (texts ws) (Branch h b)
  branch_said h b l first second j k = (nth ws 0, nth ws 1, nth ws 2, nth ws 3, spelled_4 ws l, (first, second, j, k))

  -- closings

  pub closes_said : (mate time : ℕ) (r : Result Node Wanted) → 2 ≤ length ws → nth ws 0 ≡ codes "of"
      → Counts 63 (nth ws 1) mate → Heard (λ (n : Node). n) (Sits (Closing mate) time (behind ws 2)) r → Heard (λ (n : Node). n) (Closes time (texts ws)) r
  closes_said mate time (Ok n) l f counts s = record {
    mate = mate;
    role_is = s.role_is;
    time_is = s.time_is;
    place_said = (nth ws 1, behind ws 2, opened_2 ws l ∙ ap (λ (v : Word). v ∷ nth ws 1 ∷ behind ws 2) f, counts, s.region_said);
  }
  closes_said mate time (Err what) l f counts s =
      λ n k. s n (record {
        role_is = k.role_is ∙ ap Closing (same_number n k);
        time_is = k.time_is;
        region_said = subst (λ (v : List Word). RegionSaid (drop 2 v) n.region) (sym k.place_said.2 ∙ opened_2 ws l) k.place_said.4;
      })
    where
      same_number : (n : Node) (k : Closes time (texts ws) n) → k.mate ≡ mate
      same_number n k =
          k.place_said.3.value
          ∙ ap (λ (v : List Word). digits_value 10 (without_leading_plus (get_or v 1 []))) (sym k.place_said.2 ∙ opened_2 ws l)
          ∙ sym counts.value

  -- nodes

  same_time : (n : Node) (t : ℕ) → 2 ≤ length ws → Counts greatest_time (nth ws 1) t → NodeSaid (texts ws) n → n.time ≡ t
  same_time n t l counts k =
      k.time_said.value
      ∙ ap (λ (v : List Word). digits_value 10 (without_leading_plus (get_or v 1 []))) (sym k.words_are ∙ opened_2 ws l)
      ∙ sym counts.value

  role_told : (n : Node) → 2 ≤ length ws → NodeSaid (texts ws) n → role_word n.role ≡ nth ws 0
  role_told n l k = ap (λ (v : List Word). get_or v 0 []) (sym k.words_are ∙ opened_2 ws l)

  place_told : (n : Node) → 2 ≤ length ws → (k : NodeSaid (texts ws) n) → k.rest ≡ behind ws 2
  place_told n l k = ap (λ (v : List Word). drop 2 v) (sym k.words_are ∙ opened_2 ws l)

  -- a role without a mate
  abbrev Alone : Role → Type 0
  Alone role = (words : List Word) (r : Region) → (PlaceSaid words role r → RegionSaid words r) × (RegionSaid words r → PlaceSaid words role r)

  pub node_alone : (role : Role) (time : ℕ) (r : Result Node Wanted) → Alone role
      → ((other : Role) → role_word other ≡ role_word role → other ≡ role)
      → 2 ≤ length ws → nth ws 0 ≡ role_word role → Counts greatest_time (nth ws 1) time
      → Heard (λ (n : Node). n) (Sits role time (behind ws 2)) r → Heard (λ (n : Node). n) (NodeSaid (texts ws)) r
  node_alone role time (Ok n) alone only l f counts s = record {
    time = nth ws 1;
    rest = behind ws 2;
    words_are = opened_2 ws l ∙ ap (λ (v : Word). v ∷ nth ws 1 ∷ behind ws 2) (f ∙ ap role_word (sym s.role_is));
    time_said = subst (λ (t : ℕ). Counts greatest_time (nth ws 1) t) (sym s.time_is) counts;
    place_said = subst (λ (x : Role). PlaceSaid (behind ws 2) x n.region) (sym s.role_is) ((alone (behind ws 2) n.region).1 s.region_said);
  }
  node_alone role time (Err what) alone only l f counts s =
      λ n k.
      let same = only n.role (role_told n l k ∙ f) in
      s n (record {
        role_is = same;
        time_is = same_time n time l counts k;
        region_said = (alone (behind ws 2) n.region).0 (
            subst (λ (v : List Word). PlaceSaid v role n.region) (place_told n l k) (subst (λ (x : Role). PlaceSaid k.rest x n.region) same k.place_said)
            );
      })

byte_at : (v w : Word) (k : ℕ) → v ≡ w → get_or v k 0 ≡ get_or w k 0
byte_at v w k e = ap (λ (l : Word). get_or l k 0) e

only_plain : (other : Role) → role_word other ≡ codes "plain" → other ≡ Plain
only_plain Plain e = refl
only_plain Opening e = absurd (omega (arith, byte_at _ _ 0 e))
only_plain (Closing m) e = absurd (omega (arith, byte_at _ _ 0 e))

only_opening : (other : Role) → role_word other ≡ codes "opening" → other ≡ Opening
only_opening Plain e = absurd (omega (arith, byte_at _ _ 0 e))
only_opening Opening e = refl
only_opening (Closing m) e = absurd (omega (arith, byte_at _ _ 0 e))

only_closing : (other : Role) → role_word other ≡ codes "closing" → (m : ℕ) × (other ≡ Closing m)
only_closing Plain e = absurd (omega (arith, byte_at _ _ 0 e))
only_closing Opening e = absurd (omega (arith, byte_at _ _ 0 e))
only_closing (Closing m) e = (m, refl)

module _ (ws : Slice) where
  pub node_plain : (time : ℕ) (r : Result Node Wanted) → 2 ≤ length ws → nth ws 0 ≡ codes "plain" → Counts greatest_time (nth ws 1) time
      → Heard (λ (n : Node). n) (Sits Plain time (behind ws 2)) r → Heard (λ (n : Node). n) (NodeSaid (texts ws)) r
  node_plain time r = node_alone ws Plain time r (λ words x. (λ p. p, λ p. p)) only_plain

  pub node_opening : (time : ℕ) (r : Result Node Wanted) → 2 ≤ length ws → nth ws 0 ≡ codes "opening" → Counts greatest_time (nth ws 1) time
      → Heard (λ (n : Node). n) (Sits Opening time (behind ws 2)) r → Heard (λ (n : Node). n) (NodeSaid (texts ws)) r
  node_opening time r = node_alone ws Opening time r (λ words x. (λ p. p, λ p. p)) only_opening

  pub node_closing : (time : ℕ) (r : Result Node Wanted) → 2 ≤ length ws → nth ws 0 ≡ codes "closing" → Counts greatest_time (nth ws 1) time
      → Heard (λ (n : Node). n) (Closes time (behind ws 2)) r → Heard (λ (n : Node). n) (NodeSaid (texts ws)) r
  node_closing time (Ok n) l f counts s = record {
    time = nth ws 1;
    rest = behind ws 2;
    words_are = opened_2 ws l ∙ ap (λ (v : Word). v ∷ nth ws 1 ∷ behind ws 2) (f ∙ ap role_word (sym s.role_is));
    time_said = subst (λ (t : ℕ). Counts greatest_time (nth ws 1) t) (sym s.time_is) counts;
    place_said = subst (λ (x : Role). PlaceSaid (behind ws 2) x n.region) (sym s.role_is) s.place_said;
  }
  node_closing time (Err what) l f counts s =
      λ n k.
      let closes = only_closing n.role (role_told ws n l k ∙ f) in
      s n (record {
        mate = closes.0;
        role_is = closes.1;
        time_is = same_time ws n time l counts k;
        place_said =
            subst (λ (v : List Word). PlaceSaid v (Closing closes.0) n.region) (place_told ws n l k)
            (subst (λ (x : Role). PlaceSaid k.rest x n.region) closes.1 k.place_said);
      })

  -- tables and tasks

  pub times_told : (period deadline : ℕ) → length ws ≡ 4 → nth ws 0 ≡ codes "period" → nth ws 2 ≡ codes "deadline"
      → Counts greatest_time (nth ws 1) period → Counts greatest_time (nth ws 3) deadline
      → TableSaid (texts ws) (timed (record { period = period; deadline = deadline }))
  times_told period deadline l first second j k = (
    nth ws 0,
    nth ws 1,
    nth ws 2,
    nth ws 3,
    spelled_4 ws l,
    record { first = first; second = second; period_said = j; deadline_said = k },
  )

  pub table_untold : (length ws ≡ 2 → nth ws 0 ≡ codes "file" → ⊥) → (length ws ≡ 4 → nth ws 0 ≡ codes "period" → nth ws 2 ≡ codes "deadline" → ⊥)
      → (t : ToldTable) → TableSaid (texts ws) t → ⊥
  table_untold no_file no_times (timed t) s =
      let l = as_long ws _ s.4 in
      let e = sym (spelled_4 ws l) ∙ s.4 in
      no_times l (ap (λ (v : List Word). get_or v 0 []) e ∙ s.5.first) (ap (λ (v : List Word). get_or v 2 []) e ∙ s.5.second)
  table_untold no_file no_times (filed f) s =
      let l = as_long ws _ s.2 in
      no_file l (ap (λ (v : List Word). get_or v 0 []) (sym (spelled_2 ws l) ∙ s.2) ∙ s.3.first)

  pub period_untold : length ws ≡ 4 → ((n : ℕ) → Counts greatest_time (nth ws 1) n → ⊥) → (t : ToldTable) → TableSaid (texts ws) t → ⊥
  period_untold l nay (timed t) s =
      nay t.period (subst (λ (v : List Word). Counts greatest_time (get_or v 1 []) t.period) (sym s.4 ∙ spelled_4 ws l) s.5.period_said)
  period_untold l nay (filed f) s = omega (arith, as_long ws _ s.2)

  pub deadline_untold : length ws ≡ 4 → ((n : ℕ) → Counts greatest_time (nth ws 3) n → ⊥) → (t : ToldTable) → TableSaid (texts ws) t → ⊥
  deadline_untold l nay (timed t) s =
      nay t.deadline (subst (λ (v : List Word). Counts greatest_time (get_or v 3 []) t.deadline) (sym s.4 ∙ spelled_4 ws l) s.5.deadline_said)
  deadline_untold l nay (filed f) s = omega (arith, as_long ws _ s.2)

  pub task_unsaid_slot : 3 ≤ length ws → ((n : ℕ) → Counts 15 (nth ws 2) n → ⊥) → (s : Said) → Makes (codes "task" ∷ texts ws) s → ⊥
  task_unsaid_slot l nay =
      only_task (texts ws)
      (λ name slot t k. nay slot (subst (λ (v : List Word). Counts 15 (get_or v 2 []) slot) (sym k.words_are ∙ opened_3 ws l) k.slot_said))

  pub task_said : (slot : ℕ) (t : ToldTable) → 3 ≤ length ws → nth ws 1 ≡ codes "slot" → Counts 15 (nth ws 2) slot → TableSaid (behind ws 3) t
      → Makes (codes "task" ∷ texts ws) (task (nth ws 0) slot t)
  task_said slot t l e counts s = (
    refl,
    record {
      number = nth ws 2;
      rest = behind ws 3;
      words_are = opened_3 ws l ∙ ap (λ (v : Word). nth ws 0 ∷ v ∷ nth ws 2 ∷ behind ws 3) e;
      slot_said = counts;
      table_said = s;
    },
  )

  pub task_untold : 3 ≤ length ws → ((t : ToldTable) → TableSaid (behind ws 3) t → ⊥) → (s : Said) → Makes (codes "task" ∷ texts ws) s → ⊥
  task_untold l nay =
      only_task (texts ws)
      (λ name slot t k. nay t (subst (λ (v : List Word). TableSaid (drop 3 v) t) (sym k.words_are ∙ opened_3 ws l) k.table_said))

-- the slot of a task that the words begin

pub slot_told : (ws : Slice) (r : Option ℕ) → 4 ≤ length ws → nth ws 0 ≡ codes "task" → nth ws 2 ≡ codes "slot" → Counted 15 (nth ws 3) r
    → Found (NamesSlot (texts ws)) r
slot_told ws (Some n) l t s k = record {
  name = nth ws 1;
  number = nth ws 3;
  rest = behind ws 4;
  words_are = opened_4 ws l ∙ ap (λ (w : Word). w ∷ nth ws 1 ∷ nth ws 2 ∷ nth ws 3 ∷ behind ws 4) t
      ∙ ap (λ (w : Word). codes "task" ∷ nth ws 1 ∷ w ∷ nth ws 3 ∷ behind ws 4) s;
  slot_said = k;
}
slot_told ws None l t s k = λ n m. k n (
    subst (λ (w : Word). Counts 15 w n) (ap (λ (v : List Word). get_or v 3 []) (sym m.words_are ∙ opened_4 ws l)) m.slot_said
    )
