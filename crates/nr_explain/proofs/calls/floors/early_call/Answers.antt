use Rattle.std.proofs.Common.{◌≡◌, ℕ, ◌<◌, Option, sym, ap, subst, ◌∙◌, arith}
use Rattle.nr_trace.specs.Faults.{StandsAfter}
use Rattle.nr_trace.specs.Orders.{floor}
use Rattle.nr_trace.proofs.LawsOfCalls.{stands_once}
use Rattle.nr_trace.proofs.LawsOfPrecedence.{known_below_floor}
use Rattle.nr_explain.specs.Facts.{IsFirstReplyTo}
use Rattle.nr_explain.specs.inside.Searches.{IsBinding}
use Rattle.nr_explain.specs.declared.trace.evidence.RecordedReply.{RecordedReply}
use Rattle.nr_explain.proofs.FirstFaults.{clean_before_early}
use Rattle.nr_explain.proofs.Replies.{names_earlier}
use Rattle.nr_explain.proofs.calls.floors.early_call.Goals as goal

pub entries_before-entries-requires-clause-clean :
    goal.entries_before-entries-requires-clause-clean
entries_before-entries-requires-clause-clean c = clean_before_early c.args.trace.now c.args.index c.requires

pub call_at-requires-in-Some : goal.call_at-requires-in-Some
call_at-requires-in-Some c =
    let trace = c.args.trace.now in
    let binds = subst (λ (o : Option RecordedReply). IsBinding trace c.args.index c.binding_reply-floor.result.0 o) c.in-Some.is
    c.binding_reply-floor.ensures.reply in
    names_earlier trace c.in-Some.reply (clean_before_early trace c.args.index c.requires) binds.0

pub returns-clause-is : goal.returns-clause-is
returns-clause-is c =
    let trace = c.args.trace.now in
    let index = c.args.index in
    let entries = c.entries_before-entries.result in
    let most = c.binding_reply-floor.result.0 in
    let event = c.call_at.ensures.event in
    let binds = subst (λ (o : Option RecordedReply). IsBinding trace index most o) c.in-Some.is c.binding_reply-floor.ensures.reply in
    let clean = clean_before_early trace index c.requires in
    let holds = c.requires.holds in
    let same : entries ≡ holds.0 = stands_once trace index entries holds.0 clean c.entries_before-entries.ensures holds.1 in
    let low : holds.0 < floor trace index = holds.2 in
    let told : most ≡ floor trace index = c.binding_reply-floor.ensures.floor in
    record {
      call = c.call_at.ensures.is;
      stands = subst (λ (n : ℕ). StandsAfter trace n entries) (sym event) c.entries_before-entries.ensures;
      floor = told ∙ ap (floor trace) (sym event);
      below = omega arith;
      reply = binds.0;
      known = binds.2;
      before = subst (λ (n : ℕ). c.in-Some.reply.event < n) (sym event) binds.1;
      none_before = λ index reply before is.
          let few = known_below_floor trace index c.in-Some.reply.event reply before is in
          let first = binds.3 in
          omega arith;
      answered = c.call_at-in-Some.ensures.is;
      names = sym c.call_at-in-Some.ensures.event;
      own = subst (λ (n : ℕ). IsFirstReplyTo trace n c.reply_to.result) (sym event) c.reply_to.ensures;
    }
