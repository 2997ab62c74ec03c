use Rattle.std.proofs.Common.{◌≡◌, length, None, Option, Some, ℕ, refl, subst, sym}
use Rattle.std.specs.Prelude.{IfSome}
use Rattle.vs_types.specs.declared.requests.answer.Answer.{Answer}
use Rattle.vs_types.specs.declared.requests.answer.Answer.TheVariants.{Done}
use Rattle.nr_trace.specs.Recording.{Recording}
use Rattle.nr_audit.specs.inside.Tables.{IsReplyBelow}
use Rattle.nr_audit.proofs.ReleaseLists.{done_so, so_done}
use Rattle.nr_audit.proofs.checks.releases.is_done.Goals as goal

abbrev Replied : Recording → ℕ → Option ℕ → Type 0
Replied segment call reply = IsReplyBelow segment (length segment.events) call reply

pub answer_at-requires : goal.answer_at-requires
answer_at-requires c =
    (subst (λ segment. Replied segment c.args.call (Some c.in-Some.reply)) c.requires
    (subst (Replied c.args.history.now c.args.call) c.in-Some.is c.reply.ensures)).0

pub returns-in-Some : goal.returns-in-Some
returns-in-Some c =
    let segment = c.args.segment.now in
    let below = subst (λ segment. Replied segment c.args.call (Some c.in-Some.reply)) c.requires
    (subst (Replied c.args.history.now c.args.call) c.in-Some.is c.reply.ensures) in (
      λ t. done_so segment c.args.call (Some c.in-Some.reply) below
          (subst (λ (o : Option Answer). IfSome o (λ (answer : Answer). answer ≡ Done)) c.answer_at.ensures (c.agrees.ensures.0 t)),
      λ done. c.agrees.ensures.1 (subst (λ (o : Option Answer). IfSome o (λ (answer : Answer). answer ≡ Done)) (sym c.answer_at.ensures)
          (so_done segment c.args.call c.in-Some.reply below.1 done)),
    )

pub returns-in-None : goal.returns-in-None
returns-in-None c =
    let below = subst (λ segment. Replied segment c.args.call None) c.requires
    (subst (Replied c.args.history.now c.args.call) c.in-None.is c.reply.ensures) in
    (λ t. done_so c.args.segment.now c.args.call None below tt, λ done. refl)
