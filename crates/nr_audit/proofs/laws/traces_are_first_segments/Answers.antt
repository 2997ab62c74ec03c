use Rattle.nr_audit.proofs.Traces.{faultless_trace, first_of_trace, first_segment, sound_trace}
use Rattle.nr_audit.proofs.laws.traces_are_first_segments.Goals as goal

pub returns-clause-sound : goal.returns-clause-sound
returns-clause-sound c = λ trace is. (λ sound. faultless_trace trace is sound.faultless, sound_trace trace is)

pub returns-clause-first : goal.returns-clause-first
returns-clause-first c = λ trace fault is. (first_of_trace trace is fault, first_segment trace is fault)
