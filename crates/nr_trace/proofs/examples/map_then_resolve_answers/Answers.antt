use Rattle.nr_trace.proofs.ExamplesOfAnswers.{map_answer, resolve_answer}
use Rattle.nr_trace.proofs.examples.map_then_resolve_answers.Goals as goal

pub returns-clause-map : goal.returns-clause-map
returns-clause-map c = map_answer

pub returns-clause-resolve : goal.returns-clause-resolve
returns-clause-resolve c = resolve_answer
