use Rattle.std.proofs.Common.{string_bytes}
use Rattle.audit_texts.specs.inside.Taking.{HasJoined}
use Rattle.audit_texts.proofs.pages.printing.ranges_of_space.Given as goal

abbrev pub invariant-loop-page : goal.invariant-loop-page
invariant-loop-page l = HasJoined (string_bytes l.lines.text) l.lines.open l.yielded
