use Rattle.nr_trace.proofs.ExamplesOfAnswers.{access_answer}
use Rattle.nr_trace.proofs.ExamplesOfFaults.{refused_wrongly}
use Rattle.nr_trace.proofs.examples.map_then_access_answers.Goals as goal

pub returns-clause-access : goal.returns-clause-access
returns-clause-access c = access_answer

pub returns-clause-refused : goal.returns-clause-refused
returns-clause-refused c = refused_wrongly
