-- The read of call 3 comes after no entry.
use Rattle.std.proofs.Common.{refl, inr, lit<}
use Rattle.vs_types.specs.declared.requests.answer.Answer.TheVariants.{NotMapped}
use Rattle.nr_trace.proofs.examples.stale_read_is_early.Goals as goal

pub returns-clause-early : goal.returns-clause-early
returns-clause-early c = (0, inr (refl, record { call = 3; at = 0; answer = NotMapped }, refl, refl), lit< tt)
