-- A call that is refused has left the tables as they were.
use Rattle.std.proofs.Common.{◌≡◌, ℕ, List, Ok, Err, Result}
use Rattle.controller.specs.declared.refusal.Refusal.{Refusal}
use Rattle.controller.specs.declared.tables.Tables.{Tables}
use Rattle.controller.specs.Does.{AddDoes, RemoveDoes, RetimeDoes, ReleaseDoes, CloseDoes}
use Rattle.controller.specs.Promise.{OnRefusal}
use Rattle.order.specs.Laws.{Meaning}

pub on_refusal : {A : Type 0} (r : Result A Refusal) {P Q : Type 0} → (P → Q) → OnRefusal r P → OnRefusal r Q
on_refusal (Ok a) f h = tt
on_refusal (Err e) f h = f h

module _ (o : Meaning) (t u : Tables) (s : ℕ) where
  pub add_refused : (bytes : List ℕ) (r : Result (ℕ × ℕ) Refusal) → AddDoes o t s bytes r u → OnRefusal r (u ≡ t)
  add_refused bytes (Ok a) d = tt
  add_refused bytes (Err e) d = d.unchanged

  pub remove_refused : (r : Result (Unit {0}) Refusal) → RemoveDoes o t s r u → OnRefusal r (u ≡ t)
  remove_refused (Ok a) d = tt
  remove_refused (Err e) d = d.unchanged

  pub retime_refused : (v x : ℕ) (r : Result (ℕ × ℕ) Refusal) → RetimeDoes o t s v x r u → OnRefusal r (u ≡ t)
  retime_refused v x (Ok a) d = tt
  retime_refused v x (Err e) d = d.unchanged

  pub release_refused : (r : Result ℕ Refusal) → ReleaseDoes o t s r u → OnRefusal r (u ≡ t)
  release_refused (Ok a) d = tt
  release_refused (Err e) d = d.unchanged

pub close_refused : (o : Meaning) (t u : Tables) (outcomes : List ℕ) (r : Result ℕ Refusal) → CloseDoes o t outcomes r u → OnRefusal r (u ≡ t)
close_refused o t u outcomes (Ok a) d = tt
close_refused o t u outcomes (Err e) d = d.unchanged
