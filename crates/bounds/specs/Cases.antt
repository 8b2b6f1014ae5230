-- Worked plans: a lamp of one node of 6, and a splice with longest path 12 and greatest total 22. Assumes nothing.
use Rattle.std.specs.Prelude.{◌≡◌, ℕ, ◌≤◌, List, [], ◌∷◌, replicate, Some, None, Ok, Err, Option, Result, refl}
use Rattle.std.proofs.Common.{lit≤}
use Rattle.order.specs.Orders.{slot_cap, no_cap}
use Rattle.bounds.specs.declared.plan.Demand.{Demand}
use Rattle.bounds.specs.declared.plan.Plan.{Plan}
use Rattle.bounds.specs.declared.rise.Passed.{Passed}
use Rattle.bounds.specs.Equation.{Caps, Told, work_ahead_of}

pub record Case : Type 0 where
  pub most : Caps
  pub plan : Plan
  pub answer : Result (List ℕ) Passed

abbrev pub lamp : (deadline : ℕ) → 1 ≤ deadline → deadline ≤ 20 → Option Demand
lamp deadline lo hi =
    Some (record { period = 20; deadline = deadline; longest = 6; total = 6; timed = (lo, hi, lit≤ tt); sized = (lit≤ tt, lit≤ tt, lit≤ tt) })

abbrev pub splice : (deadline : ℕ) → 1 ≤ deadline → deadline ≤ 40 → Option Demand
splice deadline lo hi =
    Some (record { period = 40; deadline = deadline; longest = 12; total = 22; timed = (lo, hi, lit≤ tt); sized = (lit≤ tt, lit≤ tt, lit≤ tt) })

-- by their deadlines
abbrev pub lamp_10 : Option Demand
lamp_10 = lamp 10 (lit≤ tt) (lit≤ tt)

abbrev pub lamp_16 : Option Demand
lamp_16 = lamp 16 (lit≤ tt) (lit≤ tt)

abbrev pub lamp_17 : Option Demand
lamp_17 = lamp 17 (lit≤ tt) (lit≤ tt)

abbrev pub splice_22 : Option Demand
splice_22 = splice 22 (lit≤ tt) (lit≤ tt)

abbrev pub splice_23 : Option Demand
splice_23 = splice 23 (lit≤ tt) (lit≤ tt)

abbrev pub splice_40 : Option Demand
splice_40 = splice 40 (lit≤ tt) (lit≤ tt)

-- a case with tasks in the first two slots
abbrev pub case : Caps → (cores : ℕ) → 1 ≤ cores → cores ≤ 16 → Option Demand → Option Demand → Result (List ℕ) Passed → Case
case most cores lo hi first second answer =
    record {
      most = most;
      plan = record { cores = cores; slots = first ∷ second ∷ replicate 14 None; manned = (lo, hi); slotted = refl };
      answer = answer;
    }

abbrev pub on_two : Caps → Option Demand → Option Demand → Result (List ℕ) Passed → Case
on_two most = case most 2 (lit≤ tt) (lit≤ tt)

abbrev pub bounds : ℕ → ℕ → Result (List ℕ) Passed
bounds first second = Ok (first ∷ second ∷ replicate 14 0)

abbrev pub passed : ℕ → Result (List ℕ) Passed
passed slot = Err (record { slot = slot })

abbrev pub cases : List Case
cases =
    case slot_cap 1 (lit≤ tt) (lit≤ tt) splice_40 None (bounds 22 0)
    ∷ case slot_cap 2 (lit≤ tt) (lit≤ tt) splice_40 None (bounds 17 0)
    ∷ case slot_cap 3 (lit≤ tt) (lit≤ tt) splice_40 None (bounds 16 0)
    ∷ case slot_cap 16 (lit≤ tt) (lit≤ tt) splice_40 None (bounds 13 0)
    ∷ on_two slot_cap lamp_10 splice_40 (bounds 6 23)
    ∷ on_two slot_cap lamp_10 splice_23 (bounds 6 23)
    ∷ on_two slot_cap lamp_10 splice_22 (passed 1)
    ∷ on_two no_cap lamp_10 splice_40 (passed 0)
    ∷ on_two no_cap lamp_17 splice_40 (bounds 17 23)
    ∷ on_two no_cap lamp_16 splice_40 (passed 0)
    ∷ on_two slot_cap splice_40 lamp_17 (bounds 17 17)
    ∷ on_two slot_cap splice_40 lamp_16 (passed 1)
    ∷ []

abbrev pub AllRight : List Case → Type 0
AllRight [] = Unit {0}
AllRight (c ∷ cs) = Told c.most c.plan c.answer × AllRight cs

-- each worked plan has the answer told, and a task of total 7 and period 10 uses 14 in a window of 14 on two cores
abbrev pub CasesRight : Type 0
CasesRight = AllRight cases × (work_ahead_of 2 7 10 None 14 ≡ 14)
