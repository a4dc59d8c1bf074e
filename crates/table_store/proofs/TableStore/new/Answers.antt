use Rattle.std.proofs.Common.{◌≡◌, ℕ, ◌≤◌, length, Ok, Err, vec_items, sym, refl, ap, ◌∙◌, subst, arith}
use Rattle.table_store.specs.Places.{limit_of}
use Rattle.table_store.specs.Stores.{store_check}
use Rattle.table_store.proofs.Fresh.{cleared, passed_range, limit_below, store_refused, store_made}
use Rattle.table_store.proofs.TableStore.new.Goals as goal

pub invariant_of-qubits : goal.invariant_of-qubits
invariant_of-qubits c = record { within = (passed_range c.args.qubits c.len.result (sym (sym c.check.ensures ∙ c.in-Ok.is))).1 }

pub free-requires : goal.free-requires
free-requires c =
    let a : limit_of c.args.qubits c.len-in-Ok.result ≤ c.len-in-Ok.result = limit_below c.args.qubits c.len-in-Ok.result in
    omega (arith, a, c.limit-limit.ensures, c.len-in-Ok.ensures, c.args.words.ok.0)

pub returns-in-Ok : goal.returns-in-Ok
returns-in-Ok c =
    let e : c.len.result ≡ length (vec_items c.args.words) = omega (arith, c.len.ensures, c.args.words.ok.0) in
    let f : c.len-in-Ok.result ≡ length (vec_items c.args.words) = omega (arith, c.len-in-Ok.ensures, c.args.words.ok.0) in
    store_made c.args.qubits (vec_items c.args.words) _ (subst (λ (k : ℕ). store_check c.args.qubits k ≡ Ok tt) e (sym c.check.ensures ∙ c.in-Ok.is)) refl (c.limit-limit.ensures ∙ ap (limit_of c.args.qubits) f)
    (cleared c.args.words.len c.limit-limit.result (vec_items c.args.words) _ c.free.new.words c.args.words.ok.0 (omega (arith, limit_below c.args.qubits c.len-in-Ok.result, c.limit-limit.ensures, c.len-in-Ok.ensures, c.args.words.ok.0)) c.deref_mut.ensures.value c.free.ensures)

pub returns-in-Err : goal.returns-in-Err
returns-in-Err c =
    let e : c.len.result ≡ length (vec_items c.args.words) = omega (arith, c.len.ensures, c.args.words.ok.0) in
    store_refused c.args.qubits (vec_items c.args.words) _ c.in-Err.field-0 (subst (λ (k : ℕ). store_check c.args.qubits k ≡ Err c.in-Err.field-0) e (sym c.check.ensures ∙ c.in-Err.is)) refl refl refl
