use Rattle.std.proofs.Common.{None}
use Rattle.audit_readers.proofs.chain.pages.judge_first.Goals.{in-Ok, in-Err}
use Rattle.audit_readers.proofs.chain.pages.judge_first.Goals as goal

pub returns-clause-sound : goal.returns-clause-sound
returns-clause-sound c =
    elim c.match-judge_segment.branch [ in-Ok w ↦ rw w.result-is (w.in-Ok.ensures.sound None tt) | in-Err w ↦ rw w.result-is tt ]

pub returns-clause-first : goal.returns-clause-first
returns-clause-first c =
    elim c.match-judge_segment.branch [ in-Ok w ↦ rw w.result-is tt | in-Err w ↦ rw w.result-is (w.in-Err.ensures.first None tt) ]
