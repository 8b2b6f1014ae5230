-- What holds between the steps by which the bounds rise. Assumes nothing.
use Rattle.std.specs.Prelude.{◌≡◌, ℕ, ◌/◌, ◌%◌, ◌^◌, ◌<◌, ◌≤◌, ◌⊎◌, List, [], length, Some, None, Option, Ok, Err, Result, ◌≢◌, slice_index_or}
use Rattle.sets.specs.Sets.{Has}
use Rattle.sets.specs.declared.bit_set.BitSet.{BitSet}
use Rattle.bounds.specs.declared.plan.Demand.{Demand}
use Rattle.bounds.specs.declared.plan.Plan.{Plan}
use Rattle.bounds.specs.declared.rise.Passed.{Passed}
use Rattle.bounds.specs.Equation.{Caps, sum_to, held, bound, party_of, side, right_side, Reached}

-- the slot holds a task
abbrev pub Holds : Plan → ℕ → Type 0
Holds p k = (k < 16) × ((d : Demand) × (held p k ≡ Some d))

-- the sum of all the bounds, and how many slots are in a set
abbrev pub weight : List ℕ → ℕ
weight R = sum_to 16 (bound R)

abbrev pub count : BitSet → ℕ
count s = sum_to 16 (λ k. s.bits / 2 ^ k % 2)

-- the bound of slot k needs no raising
abbrev pub SettledAt : Caps → Plan → List ℕ → ℕ → Type 0
SettledAt most p R k = (d : Demand) → held p k ≡ Some d → right_side most p R k d ≤ bound R k

-- where the bound of slot k goes, with these caps on the others: it stays, it rises, or it passes the deadline
abbrev pub Moves : (ℕ → Demand → Option ℕ) → Plan → List ℕ → ℕ → Result (Option ℕ) Passed → Type 0
Moves cap p R k (Ok None) = (d : Demand) → held p k ≡ Some d → side cap p R k d ≤ bound R k
Moves cap p R k (Ok (Some v)) = (d : Demand) × (held p k ≡ Some d) × (v ≡ side cap p R k d) × (v ≤ d.deadline) × (bound R k < v)
Moves cap p R k (Err e) = (d : Demand) × (held p k ≡ Some d) × (d.deadline < side cap p R k d) × (e.slot ≡ k)

-- the row has the order's caps on the jobs of slot i ahead of those of each other task, at the bound b of slot i
pub record CapsOf (most : Caps) (p : Plan) (i b : ℕ) (row : List (Option ℕ)) : Type 0 where
  pub sized : length row ≡ 16
  pub asked : (k : ℕ) (e d : Demand) → k < 16 → (i ≢ k) → held p i ≡ Some e → held p k ≡ Some d → slice_index_or row k None ≡ most (party_of i e) (party_of k d) b

-- each row has the order's caps at the present bound
pub record Current (most : Caps) (p : Plan) (R : List ℕ) (C : List (List (Option ℕ))) : Type 0 where
  pub sized : length C ≡ 16
  pub rows : (i : ℕ) → i < 16 → CapsOf most p i (bound R i) (slice_index_or C i [])

-- the cap that is kept on the jobs of slot i ahead of one of slot k
abbrev pub kept : List (List (Option ℕ)) → ℕ → ℕ → Demand → Option ℕ
kept C k i e = slice_index_or (slice_index_or C i []) k None

-- r has what s has, and every slot that jobs may go ahead of by this row of caps
pub record Reopened (s : BitSet) (row : List (Option ℕ)) (r : BitSet) : Type 0 where
  pub keeps : (k : ℕ) → Has s k → Has r k
  pub no_more : (k : ℕ) → Has r k → Has s k ⊎ (k < 16)
  pub shut : (k : ℕ) → k < 16 → (Has r k → ⊥) → slice_index_or row k None ≡ Some 0

-- between two steps: the bounds are reached, the caps are the order's at these bounds, and every slot that is not to be looked at is settled
pub record Sound (most : Caps) (p : Plan) (R : List ℕ) (C : List (List (Option ℕ))) (pending : BitSet) : Type 0 where
  pub reached : Reached most p R
  pub current : Current most p R C
  pub slots : (k : ℕ) → Has pending k → k < 16
  pub settled : (k : ℕ) → k < 16 → (Has pending k → ⊥) → SettledAt most p R k
