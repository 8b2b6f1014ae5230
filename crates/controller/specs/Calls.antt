-- The calls of a controller with their arguments, and what each answers. Assumes nothing.
use Rattle.std.specs.Prelude.{ℕ, Bool, List, Result}
use Rattle.controller.specs.declared.refusal.Refusal.{Refusal}

pub data Call : Type 0 where
  -- the table's bytes into a slot
  Add : (slot : ℕ) → (bytes : List ℕ) → Call
  Remove : (slot : ℕ) → Call
  Retime : (slot node time : ℕ) → Call
  -- into this list of bounds
  Admit : (list : List ℕ) → Call
  Release : (slot : ℕ) → Call
  -- into this list of cores
  OpenTick : (list : List ℕ) → Call
  -- the outcomes of the cores
  CloseTick : (outcomes : List ℕ) → Call
  -- may these two nodes of the slot's task share a tick?
  Share : (slot first other : ℕ) → Call

-- What a call answers: L and W, nothing, the number of tasks, a bound, the busy cores, the slots whose jobs ended, yes or no.
-- A call that is lent a list has it in its answer, as it is after the call.
abbrev pub Answer : Call → Type 0
Answer (Add s bytes) = Result (ℕ × ℕ) Refusal
Answer (Remove s) = Result (Unit {0}) Refusal
Answer (Retime s v x) = Result (ℕ × ℕ) Refusal
Answer (Admit list) = Result ℕ Refusal × List ℕ
Answer (Release s) = Result ℕ Refusal
Answer (OpenTick list) = Result ℕ Refusal × List ℕ
Answer (CloseTick outcomes) = Result ℕ Refusal
Answer (Share s a b) = Result Bool Refusal

-- a call and its answer
abbrev pub Event : Type 0
Event = (c : Call) × Answer c
