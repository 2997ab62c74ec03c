use Rattle.std.proofs.Common.{length, ap}
use Rattle.nr_explain.proofs.Replies.{first_among_all}
use Rattle.nr_explain.proofs.search.replies.reply_to.Goals as goal

pub returns : goal.returns
returns c =
    first_among_all c.args.trace.now c.args.call (length c.events.result.now) c.first_reply.result (ap length c.events.ensures.reads) c.first_reply.ensures
