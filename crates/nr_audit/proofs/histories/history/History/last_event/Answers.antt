use Rattle.std.proofs.Common.{◌<◌, length, None, sym, subst, ◌∙◌, arith}
use Rattle.std.proofs.lemmas.List.{get_or_read}
use Rattle.nr_trace.proofs.LawsOfCalls.{call_within}
use Rattle.nr_audit.specs.inside.Tables.{AreReplies}
use Rattle.nr_audit.proofs.LastEvents.{last_by_reply, last_by_itself}
use Rattle.nr_audit.proofs.histories.history.History.last_event.Goals as goal

pub returns-in-Some : goal.returns-in-Some
returns-in-Some c =
    let trace = c.args.self.now in
    let table = c.self.inside.replies.items in
    let are = subst (λ t. AreReplies t table) c.self.view_is c.self.invariant in
    let within : c.args.call < length table = omega (arith, are.one_each, call_within trace c.args.call c.requires) in
    let read = get_or_read table c.args.call c.index.result.now within c.index.ensures None in
    last_by_reply trace table c.args.call c.in-Some.index are within (sym read ∙ sym c.get.ensures ∙ c.in-Some.is)

pub returns-in-None : goal.returns-in-None
returns-in-None c =
    let trace = c.args.self.now in
    let table = c.self.inside.replies.items in
    let are = subst (λ t. AreReplies t table) c.self.view_is c.self.invariant in
    let within : c.args.call < length table = omega (arith, are.one_each, call_within trace c.args.call c.requires) in
    let read = get_or_read table c.args.call c.index.result.now within c.index.ensures None in
    last_by_itself trace table c.args.call are within c.requires (sym read ∙ sym c.get.ensures ∙ c.in-None.is)
