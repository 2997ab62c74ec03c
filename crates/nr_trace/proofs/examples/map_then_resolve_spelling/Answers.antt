use Rattle.nr_trace.proofs.ExamplesOfSpelling.{front, whole}
use Rattle.nr_trace.proofs.examples.map_then_resolve_spelling.Goals as goal

pub returns-clause-front : goal.returns-clause-front
returns-clause-front c = front

pub returns-clause-whole : goal.returns-clause-whole
returns-clause-whole c = whole
