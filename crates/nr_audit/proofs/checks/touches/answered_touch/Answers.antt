use Rattle.std.proofs.Common.{length, None, Option, Some, ℕ, subst}
use Rattle.nr_trace.specs.Recording.{Recording}
use Rattle.nr_audit.specs.inside.Tables.{IsReplyBelow}
use Rattle.nr_audit.proofs.TouchLists.{made_there, none_made}
use Rattle.nr_audit.proofs.checks.touches.answered_touch.Goals as goal

abbrev Replied : Recording → ℕ → Option ℕ → Type 0
Replied segment made reply = IsReplyBelow segment (length segment.events) made reply

pub returns-in-None : goal.returns-in-None
returns-in-None c =
    none_made c.args.segment.now c.args.made
    (subst (λ segment. Replied segment c.args.made None) c.requires.same
    (subst (Replied c.args.history.now c.args.made) c.in-None.is c.reply.ensures))

pub returns-in-Some : goal.returns-in-Some
returns-in-Some c =
    made_there c.args.segment.now c.args.made c.in-Some.answered c.touch_at.result
    (subst (λ segment. Replied segment c.args.made (Some c.in-Some.answered)) c.requires.same
    (subst (Replied c.args.history.now c.args.made) c.in-Some.is c.reply.ensures))
    c.touch_at.ensures
