use Rattle.std.proofs.Common.{◌+◌, Option, sym, subst, ◌∙◌}
use Rattle.nr_trace.specs.Orders.{floor, known_by}
use Rattle.nr_trace.proofs.LawsOfSteps.{floor_after_other, floor_after_reply}
use Rattle.nr_explain.specs.Facts.{response}
use Rattle.nr_explain.specs.inside.Searches.{IsBinding}
use Rattle.nr_explain.specs.declared.trace.evidence.RecordedReply.{RecordedReply}
use Rattle.nr_explain.proofs.BindingReplies.{binding_here, binding_stays, reply_there, rises, stays}
use Rattle.nr_explain.proofs.search.replies.binding_reply.Goals as goal
use Rattle.nr_explain.proofs.search.replies.binding_reply.Goals.{in-Some+then-known-floor, in-Some+else-known-floor, in_default}

pub loop-index-preserved : goal.loop-index-preserved
loop-index-preserved c =
    let trace = c.args.trace.now in
    let index = c.loop-index.index in
    let low = c.loop-index.floor in
    let new = c.match-find_reply.floor in
    let old = c.loop-index.invariant in
    elim c.match-find_reply.branch [
      | in-Some+then-known-floor w ↦
          let reply = w.in-Some.reply in
          let known = w.entries_known-known.result in
          let after = floor_after_reply trace index (response reply) (reply_there trace index reply w.in-Some.ensures.0 w.in-Some.ensures.1) in
          record {
            floor = rises low (floor trace index) (floor trace (index + 1)) (known_by trace (response reply)) known new old.floor after
                w.entries_known-known.ensures w.if-known-floor.true w.floor-is;
            binding = subst (λ (o : Option RecordedReply). IsBinding trace (index + 1) new o) (sym w.binding-is)
                (binding_here trace index low known new reply w.in-Some.ensures.0 w.in-Some.ensures.1 old.floor w.if-known-floor.true
                w.entries_known-known.ensures w.floor-is);
          }
      | in-Some+else-known-floor w ↦
          let reply = w.in-Some.reply in
          let known = w.entries_known-known.result in
          let after = floor_after_reply trace index (response reply) (reply_there trace index reply w.in-Some.ensures.0 w.in-Some.ensures.1) in
          record {
            floor = stays low (floor trace index) (floor trace (index + 1)) (known_by trace (response reply)) known new old.floor after
                w.entries_known-known.ensures w.if-known-floor.false w.floor-is;
            binding = subst (λ (o : Option RecordedReply). IsBinding trace (index + 1) new o) (sym w.binding-is)
                (binding_stays trace index low new c.loop-index.binding w.floor-is old.binding);
          }
      | in_default w ↦ record {
        floor = w.floor-is ∙ old.floor ∙ sym (floor_after_other trace index w.in_default.ensures);
        binding = subst (λ (o : Option RecordedReply). IsBinding trace (index + 1) new o) (sym w.binding-is)
            (binding_stays trace index low new c.loop-index.binding w.floor-is old.binding);
      }
    ]
