use Rattle.nr_trace.proofs.ExamplesOfSegments as segments
use Rattle.nr_trace.proofs.examples.map_then_touch_is_a_segment.Goals as goal

pub returns-clause-within : goal.returns-clause-within
returns-clause-within c = segments.within

pub returns-clause-first : goal.returns-clause-first
returns-clause-first c = segments.first

pub returns-clause-further : goal.returns-clause-further
returns-clause-further c = segments.further

pub returns-clause-otherwise : goal.returns-clause-otherwise
returns-clause-otherwise c = segments.otherwise

pub returns-clause-no_trace : goal.returns-clause-no_trace
returns-clause-no_trace c = segments.no_trace
