use Rattle.std.proofs.Common.{subst}
use Rattle.nr_trace.specs.Spelling.{Spells}
use Rattle.nr_trace.specs.Feed.{Reads}
use Rattle.audit_readers.specs.Answers.{HasOverlapping}
use Rattle.audit_readers.proofs.Audits.{if_any_yes}
use Rattle.audit_readers.proofs.audit.find.Goals as goal

pub returns-in_ok-verdict-in-Ok : goal.returns-in_ok-verdict-in-Ok
returns-in_ok-verdict-in-Ok c = λ bytes reads.
    let spelled : Spells bytes c.in-Ok.trace = subst (Reads bytes) c.in-Ok.is reads in
    let verdict = c.in_ok-verdict-in-Ok.verdict in
    record {
      is_verdict = c.in_ok-verdict-in-Ok.ensures.verdict bytes spelled;
      right = c.in_ok-verdict-in-Ok.ensures.right bytes spelled;
      counted = λ counts.
          if_any_yes (HasOverlapping bytes c.in_ok-overlapping-in-Ok.overlapping) verdict (c.in-Ok.trace, spelled, c.in_ok-overlapping-in-Ok.ensures counts);
    }
