use Rattle.std.proofs.Common.{sym, subst}
use Rattle.nr_trace.specs.Calls.{IsWellFormedHistory}
use Rattle.nr_trace.specs.Examples.{answered_again}
use Rattle.nr_trace.proofs.ExamplesOfFaults.{no_history}
use Rattle.nr_trace.proofs.ExamplesOfRanges.{spelled_again}
use Rattle.nr_audit.proofs.examples.answered_again_is_not_right.Goals as goal

pub returns : goal.returns
returns c = λ order right.
    no_history (subst IsWellFormedHistory (sym (right.spelled.no_other answered_again spelled_again)) right.events)
