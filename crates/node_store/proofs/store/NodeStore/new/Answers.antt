use Rattle.std.proofs.Common.{◌≡◌, Ok, Err, vec_len, sym, rules, arith}
use Rattle.node_store.specs.New.{store_check}
use Rattle.node_store.proofs.Beginning.{passed_range, passed_means, failed_means, passed_words, failed_words}
use Rattle.node_store.proofs.store.NodeStore.new.Goals as goal

pub new-requires : goal.new-requires
new-requires c = omega (arith, passed_range _ _ (sym c.in-Ok.ensures))

pub invariant_of-new : goal.invariant_of-new
invariant_of-new c = record { within = omega (arith, passed_range _ _ (sym c.in-Ok.ensures)) }

pub returns-in-Ok : goal.returns-in-Ok
returns-in-Ok c =
    let e : store_check (vec_len c.args.words) c.args.qubits ≡ Ok tt = search rules in
    record {
      order = record { nodes = c.new.ensures.order; sound = c.new-remembered.ensures.sound _ };
      meaning = passed_means (vec_len c.args.words) c.args.qubits _ _ _ e c.new.ensures.qubits c.new.ensures.limit c.new.ensures.empty;
      words = passed_words _ _ _ e;
    }

pub returns-in-Err : goal.returns-in-Err
returns-in-Err c =
    let e : store_check (vec_len c.args.words) c.args.qubits ≡ Err c.in-Err.field-0 = search rules in
    record {
      order = record { nodes = c.none.ensures.order; sound = c.new-remembered.ensures.sound _ };
      meaning = failed_means (vec_len c.args.words) c.args.qubits _ _ _ _ e c.none.ensures.qubits c.none.ensures.limit c.none.ensures.empty;
      words = failed_words _ _ _ _ e c.none.ensures.words;
    }
