use Rattle.std.proofs.Common.{ap, arith, rules}
use Rattle.exact.specs.declared.qubits.QubitCount.{QubitCount}
use Rattle.table_store.specs.Stores.{SomeWith}
use Rattle.table_store.proofs.Adding.{stored, stored_nowhere, stored_already}
use Rattle.table_store.proofs.TableStore.store.Goals as goal

pub overflow_cast-result : goal.overflow_cast-result
unfolding SomeWith
overflow_cast-result c = omega (arith, c.in-Some.ensures.0, c.requires.order.laid_out.few_places)

pub overflow_add-result : goal.overflow_add-result
unfolding SomeWith
overflow_add-result c = omega (arith, c.in-Some.ensures.0, c.requires.order.laid_out.few_places)

pub returns-in-Some : goal.returns-in-Some
returns-in-Some c = record { order = c.requires.order; made = stored_already _ _ _ c.requires.order c.in-Some.ensures }

pub write-requires : goal.write-requires
unfolding SomeWith
write-requires c = record { order = c.requires.order.laid_out; within = c.in-Some-free_place.ensures.0; clean = c.requires.clean }

pub overflow_cast-result-in-Some-free_place : goal.overflow_cast-result-in-Some-free_place
unfolding SomeWith
overflow_cast-result-in-Some-free_place c = omega (arith, c.in-Some-free_place.ensures.0, c.requires.order.laid_out.few_places)

pub overflow_add-result-in-Some-free_place : goal.overflow_add-result-in-Some-free_place
unfolding SomeWith
overflow_add-result-in-Some-free_place c = omega (arith, c.in-Some-free_place.ensures.0, c.requires.order.laid_out.few_places)

pub returns-in-Some-free_place : goal.returns-in-Some-free_place
returns-in-Some-free_place c =
    let x = stored c.args.self.now c.write.new.self c.in-Some-free_place.place c.args.function.table.words (ap (λ (q : QubitCount 8). q.number) c.write.ensures.qubits) c.write.ensures.limit c.requires.order (search rules) c.requires.clean c.requires.varies c.in_default.ensures c.in-Some-free_place.ensures c.write.ensures.written in
    record { order = x.0; made = x.1 }

pub returns-in-None : goal.returns-in-None
returns-in-None c = record { order = c.requires.order; made = stored_nowhere c.args.self.now c.args.function.table.words c.requires.order (search rules) c.requires.clean c.requires.varies c.in_default.ensures c.in-None.ensures }
