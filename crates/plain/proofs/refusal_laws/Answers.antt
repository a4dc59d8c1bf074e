use Rattle.plain.proofs.Refusing.{refused_due, due_refused, accepted, none_applies}
use Rattle.plain.proofs.refusal_laws.Goals as goal

pub returns : goal.returns
returns c = record { refused_due = refused_due; due_refused = due_refused; accepted = accepted; none_applies = none_applies }
