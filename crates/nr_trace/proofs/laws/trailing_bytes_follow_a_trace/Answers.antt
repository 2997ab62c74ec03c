use Rattle.std.proofs.Common.{sym, subst}
use Rattle.nr_trace.specs.FirstFault.{HasFormatFault}
use Rattle.nr_trace.specs.declared.refusals.fault.Format.TheVariants.{Trailing}
use Rattle.nr_trace.proofs.LawsOfFronts.{trailing_after}
use Rattle.nr_trace.proofs.LawsOfBytes.{trailing_has_trace}
use Rattle.nr_trace.proofs.laws.trailing_bytes_follow_a_trace.Goals as goal

pub returns : goal.returns
returns c = λ bytes. (
  trailing_has_trace bytes,
  (λ (front, more, trace, is, some, spells). subst (λ l. HasFormatFault l Trailing) (sym is) (trailing_after front more trace spells some)),
)
