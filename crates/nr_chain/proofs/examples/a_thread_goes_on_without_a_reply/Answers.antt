use Rattle.nr_chain.proofs.GoesOn.{no_history}
use Rattle.nr_chain.proofs.examples.a_thread_goes_on_without_a_reply.Goals as goal

pub returns : goal.returns
returns c = no_history
