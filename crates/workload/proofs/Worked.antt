-- The worked example.
use Rattle.std.proofs.Common.{◌≡◌, ℕ, [], ◌∷◌, length, get_or, refl, arith}
use Rattle.paths.specs.Paths.{end, step}
use Rattle.table.specs.declared.records.Role.TheVariants.{Opening}
use Rattle.task.specs.Graph.{role, HasBranch, Ranged}
use Rattle.task.specs.Shape.{Shaped}
use Rattle.task.proofs.Mated.{opening_is_node}
use Rattle.workload.specs.Example.{example, example_arcs, ExampleStands}
use Rattle.workload.specs.Measures.{IsLongestPath, IsGreatestTotal, total}
use Rattle.workload.specs.Settling.{Settling, takes}
use Rattle.task.proofs.Judged.{t_has_branch, t_joined, t_shaped, ranged_by}
use Rattle.workload.proofs.Greatest.{total_below}
use Rattle.workload.proofs.Levels.{t_levels, length_below}
use Rattle.workload.proofs.Nesting.{tasks_nest_lem}
use Rattle.workload.proofs.Paths.{longest_path_is_length_lem}
use Rattle.task.proofs.Computed.{holds, t_implies, t_opening, t_all}

ranged : Ranged example example_arcs
ranged = ranged_by example example_arcs refl

shaped : Shaped example example_arcs
shaped = holds (t_shaped example example_arcs) refl

-- the greatest length of a path from each node on
level : ℕ → ℕ
level v = get_or (12 ∷ 11 ∷ 9 ∷ 8 ∷ 8 ∷ 8 ∷ 2 ∷ 1 ∷ []) v 0

longest : IsLongestPath example example_arcs 12
unfolding level
longest =
    let ls = holds (t_levels example example_arcs level 12) refl in
    record {
      attained = (
        step 0 (step 1 (end 7)),
        record {
          nodes = (omega arith, (omega arith, omega arith));
          joined = (holds (t_joined example example_arcs 0 1) refl, (holds (t_joined example example_arcs 1 7) refl, tt));
        },
        refl,
      );
      not_exceeded = λ p h. length_below example example_arcs level 12 ls p h.nodes h.joined;
    }

-- branch 1 for the opening
second : ℕ → ℕ
second o = 1

second_settles : Settling example second
unfolding second
second_settles o op =
    holds (t_all (length example) (λ v. role example v ≡ Opening → HasBranch example v 1) (λ v. t_implies (t_opening (role example v)) (t_has_branch example v 1)))
    refl o (opening_is_node example o op) op

second_total : total example second ≡ 22
unfolding second takes
second_total = refl

heaviest : IsGreatestTotal example 22
heaviest =
    record {
      attained = (second, second_settles, second_total);
      not_exceeded = λ pick s. total_below example (tasks_nest_lem example example_arcs ranged shaped) pick;
    }

pub example_stands_lem : ExampleStands
example_stands_lem =
    record {
      ranged = ranged;
      shaped = shaped;
      length_is_12 = longest_path_is_length_lem example example_arcs 12 ranged shaped longest;
      total_is_22 = heaviest;
    }
