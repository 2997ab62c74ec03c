use Rattle.std.proofs.Common.{refl}
use Rattle.chain_cuts.proofs.CutVerdicts.{cut_if_whole, segments_sound, whole_if_cut, whole_sound}
use Rattle.chain_cuts.proofs.laws.a_cut_keeps_the_verdict.Goals as goal

pub returns-clause-as_one : goal.returns-clause-as_one
returns-clause-as_one c = λ before first more may cuts recorded.
    whole_sound before first.trace.layout first more may cuts refl recorded.2

pub returns-clause-apart : goal.returns-clause-apart
returns-clause-apart c = λ before first more may cuts recorded starts caught.
    segments_sound before first.trace.layout first more may cuts refl recorded.2 starts caught

pub returns-clause-bytes_as_one : goal.returns-clause-bytes_as_one
returns-clause-bytes_as_one c = λ whole cut run first more one many alike cuts recorded.
    whole_if_cut whole cut run first more one many alike cuts recorded

pub returns-clause-bytes_apart : goal.returns-clause-bytes_apart
returns-clause-bytes_apart c = λ whole cut run first more one many alike cuts recorded starts caught.
    cut_if_whole whole cut run first more one many alike cuts recorded starts caught
