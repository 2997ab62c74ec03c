use Rattle.std.proofs.Common.{ℕ, ◌<◌, length, Option, Some, None, sym, ap, subst, ◌∙◌}
use Rattle.std.specs.Prelude.{option_map}
use Rattle.nr_trace.specs.Recording.{Recording}
use Rattle.nr_trace.specs.Calls.{Response, reply_of}
use Rattle.nr_audit.specs.inside.Tables.{IsReplyBelow}
use Rattle.nr_audit.proofs.RepliesByTable.{replied}
use Rattle.nr_audit.proofs.histories.history.History.position.Goals as goal

abbrev the_position : Option Response → Option ℕ
the_position reply = option_map (λ (r : Response). r.at) reply

abbrev Replied : Recording → ℕ → Option ℕ → Type 0
Replied trace call reply = IsReplyBelow trace (length trace.events) call reply

pub returns-in_err-index : goal.returns-in_err-index
returns-in_err-index c =
    let trace = c.args.self.now in
    c.from_residual.ensures
    ∙ sym (ap the_position (replied trace c.args.call None (subst (Replied trace c.args.call) c.in_err-index.was c.reply.ensures)))

pub position_at-requires : goal.position_at-requires
position_at-requires c =
    let trace = c.args.self.now in
    subst (λ (t : Recording). c.in_ok-index.index < length t.events) (sym c.self.view_is)
    (subst (Replied trace c.args.call) c.in_ok-index.was c.reply.ensures).0

pub returns : goal.returns
returns c =
    let trace = c.args.self.now in
    c.position_at.ensures ∙ ap (λ (t : Recording). the_position (reply_of t c.in_ok-index.index)) c.self.view_is
    ∙ sym (ap the_position (replied trace c.args.call (Some c.in_ok-index.index) (subst (Replied trace c.args.call) c.in_ok-index.was c.reply.ensures)))
