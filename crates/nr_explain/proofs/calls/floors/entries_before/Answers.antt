use Rattle.std.proofs.Common.{ℕ, length, ap, subst, sym, ◌∙◌, inl, inr}
use Rattle.std.proofs.lemmas.Bool.{true≢false}
use Rattle.nr_trace.proofs.LawsOfOrder.{stands_ordered}
use Rattle.nr_explain.specs.inside.Searches.{IsOpenBelow}
use Rattle.nr_explain.proofs.Replies.{some_reply, stands_by_reply}
use Rattle.nr_explain.proofs.calls.floors.entries_before.Goals as goal

pub unreachable-requires-in-None-first_reply : goal.unreachable-requires-in-None-first_reply
unreachable-requires-in-None-first_reply c =
    let trace = c.args.trace.now in
    let stands = c.requires.stands in
    elim stands.1 [
      | inl update ↦ true≢false (sym update.0 ∙ sym c.is_update.ensures ∙ c.if-is_update.false)
      | inr read ↦ some_reply trace c.args.call read.1 read.2
          (subst (λ (n : ℕ). IsOpenBelow trace c.args.call n) (ap length c.events.ensures.reads) c.in-None-first_reply.ensures)
    ]

pub returns-in-Some-first_reply : goal.returns-in-Some-first_reply
returns-in-Some-first_reply c =
    let is = c.in-Some-first_reply.ensures in
    let stands = c.requires.stands in
    stands_by_reply c.args.trace.now c.args.call c.in-Some-first_reply.reply c.requires.clean (stands_ordered c.args.trace.now c.args.call stands.0 stands.1)
    is.0 is.1
