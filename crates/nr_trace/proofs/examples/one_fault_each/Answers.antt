use Rattle.nr_trace.proofs.ExamplesOfFaults.{not_an_update, placed_twice, not_placed, past_log, no_such_call, answered_twice, thread_open, wrong_answer}
use Rattle.nr_trace.proofs.ExamplesOfFaults.{prefix_past_log, prefix_short}
use Rattle.nr_trace.proofs.examples.one_fault_each.Goals as goal

pub returns-clause-not_an_update : goal.returns-clause-not_an_update
returns-clause-not_an_update c = not_an_update

pub returns-clause-placed_twice : goal.returns-clause-placed_twice
returns-clause-placed_twice c = placed_twice

pub returns-clause-not_placed : goal.returns-clause-not_placed
returns-clause-not_placed c = not_placed

pub returns-clause-past_log : goal.returns-clause-past_log
returns-clause-past_log c = past_log

pub returns-clause-no_such_call : goal.returns-clause-no_such_call
returns-clause-no_such_call c = no_such_call

pub returns-clause-answered_twice : goal.returns-clause-answered_twice
returns-clause-answered_twice c = answered_twice

pub returns-clause-thread_open : goal.returns-clause-thread_open
returns-clause-thread_open c = thread_open

pub returns-clause-wrong_answer : goal.returns-clause-wrong_answer
returns-clause-wrong_answer c = wrong_answer

pub returns-clause-prefix_past_log : goal.returns-clause-prefix_past_log
returns-clause-prefix_past_log c = prefix_past_log

pub returns-clause-prefix_short : goal.returns-clause-prefix_short
returns-clause-prefix_short c = prefix_short
