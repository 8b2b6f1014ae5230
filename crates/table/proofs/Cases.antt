use Rattle.std.proofs.Common.{ℕ, zero, suc, ◌<◌, ◌≤◌, List, [], ◌++◌, length, get_or, Err, sym, refl, subst, inl, inr, arith}
use Rattle.table.specs.declared.fault.Fault.TheVariants.{Range}
use Rattle.table.specs.declared.records.Kind.TheVariants.{OfNode}
use Rattle.table.specs.declared.records.Role.TheVariants.{Plain}
use Rattle.table.specs.declared.records.Region.TheVariants.{Top}
use Rattle.table.specs.Format.{Record, task, node, encode}
use Rattle.table.specs.Range.{InRange, TaskInRange, NodeInRange}
use Rattle.table.specs.Run.{begin, ◌then◌}
use Rattle.table.specs.Whole.{no_node}
use Rattle.table.specs.declared.fault.Field.TheVariants.{Time}
use Rattle.table.specs.Reading.{Reads, OutOfRange}
use Rattle.table.specs.Cases.{lamp, lamp_timing, lamp_nodes, CasesStand}
use Rattle.table.proofs.Bytes.{number_back}
use Rattle.table.proofs.Apart.{Written, range_written, encodes_one}

-- a record that is out of range is written as no record in range is
pub out_as_written : (m : ℕ) (x : Record) (more : List ℕ) → m ≤ 64 → Written x → (InRange m x → ⊥) → OutOfRange m (encode x ++ more)
out_as_written m x more few w out r rest in_range e =
    out (subst (λ (y : Record). InRange m y) (sym (encodes_one x r more rest w (range_written m r few in_range) e).0) in_range)

timing_ranged : TaskInRange lamp_timing
timing_ranged = record { some_period = omega arith; short_period = omega arith; some_deadline = omega arith; deadline_in_period = omega arith }

node_ranged : (v : ℕ) → v < length (lamp_nodes 65535) → NodeInRange v (get_or (lamp_nodes 65535) v no_node)
node_ranged zero h = record { role = tt; region = tt; some_time = omega arith; short_time = omega arith }
node_ranged (suc v) h = absurd (omega arith)

refused : (time : ℕ) → time < 4294967296 → ((1 ≤ time) × (time ≤ 65535) → ⊥) → Reads (lamp time) (Err (Range 12 (record { field = Time; value = time })))
refused time fits out =
    let told = number_back time fits in
    record {
      run = begin then task lamp_timing;
      rest = encode (node (record { role = Plain; region = Top; time = time })) ++ [];
      stops = record {
        sound = (tt, record { in_turn = refl; room = tt; in_range = timing_ranged });
        bytes_are = refl;
        offset_is = refl;
      };
      kind = OfNode;
      laid = record {
        roomy = record {
          allowed = record {
            measured = record { named = record { header = omega arith; names = refl }; length_told = refl };
            in_turn = (refl, refl);
          };
          room = omega arith;
        };
        whole = omega arith;
      };
      out_of_range = out_as_written 0 (node (record { role = Plain; region = Top; time = time })) [] (omega arith) (tt, fits)
          (λ h. out (h.some_time, h.short_time));
      misfits = record {
        first = inr (
          omega arith,
          inr (
            ((λ e. absurd (omega arith)), (λ ne. refl)),
            inr (inl refl, inr ((omega arith, (λ e. refl)), inl (refl, (λ h. out (omega (arith, h.0), omega (arith, h.1)))))),
          ),
        );
        value_is = number_back time fits;
      };
    }

pub cases : CasesStand
cases = record {
  lamp_bytes = refl;
  longest_time = record {
    timing = lamp_timing;
    nodes = lamp_nodes 65535;
    arcs = [];
    lawful = record {
      some_node = omega arith;
      few_nodes = omega arith;
      few_arcs = omega arith;
      task_in_range = timing_ranged;
      nodes_in_range = node_ranged;
      arcs_in_range = λ k h. absurd (omega arith);
    };
    bytes_are = refl;
    holds = refl;
  };
  no_time = refused 0 (omega arith) (λ h. omega (arith, h.0));
  too_long_time = refused 65536 (omega arith) (λ h. omega (arith, h.1));
  empty_table = record
      { run = begin; rest = []; stops = record { sound = tt; bytes_are = refl; offset_is = refl }; faulty = (refl, refl) };
}
