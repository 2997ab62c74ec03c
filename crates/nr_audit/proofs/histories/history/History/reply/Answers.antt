use Rattle.std.proofs.Common.{◌<◌, length, None, sym, subst, ◌∙◌, arith}
use Rattle.std.proofs.lemmas.List.{get_or_read}
use Rattle.nr_audit.specs.inside.Tables.{AreReplies, IsReplyBelow}
use Rattle.nr_audit.proofs.histories.history.History.reply.Goals as goal

pub returns-then-call-len : goal.returns-then-call-len
returns-then-call-len c =
    let table = c.self.inside.replies.items in
    let are = subst (λ t. AreReplies t table) c.self.view_is c.self.invariant in
    λ index low. are.no_other c.args.call (omega (arith, c.len.ensures, c.self.inside.replies.ok.0, c.if-call-len.true)) index

pub returns : goal.returns
returns c =
    let trace = c.args.self.now in
    let table = c.self.inside.replies.items in
    let are = subst (λ t. AreReplies t table) c.self.view_is c.self.invariant in
    let low : c.args.call < length table = omega (arith, c.len.ensures, c.self.inside.replies.ok.0, c.if-call-len.false) in
    let read = get_or_read table c.args.call c.index.result.now low c.index.ensures None in
    subst (IsReplyBelow trace (length trace.events) c.args.call) (sym (c.get.ensures ∙ read)) (are.each c.args.call low)
