use Rattle.std.proofs.Common.{Option, subst}
use Rattle.nr_explain.specs.Facts.{IsFirstReplyTo}
use Rattle.nr_explain.specs.declared.trace.evidence.RecordedReply.{RecordedReply}
use Rattle.nr_explain.proofs.chain.releases.why_wrong.Goals as goal

pub why_reached-requires-clause-reply : goal.why_reached-requires-clause-reply
why_reached-requires-clause-reply c = c.reply_to-reply.ensures

pub why_reached-requires-clause-done : goal.why_reached-requires-clause-done
why_reached-requires-clause-done c = c.in-None.ensures

pub returns-in-Some : goal.returns-in-Some
returns-in-Some c = (
  subst (λ (o : Option RecordedReply). IsFirstReplyTo c.args.segment.now c.args.index o) c.in-Some.ensures.0 c.reply_to-reply.ensures,
  c.in-Some.ensures.1,
)
