use Rattle.std.proofs.Common.{◌+◌, Option, sym, subst, ◌∙◌}
use Rattle.nr_audit.specs.Touches.{known_at, known_to}
use Rattle.nr_explain.specs.ChainFacts.{IsShownBy}
use Rattle.nr_explain.specs.Facts.{response}
use Rattle.nr_explain.specs.declared.trace.evidence.RecordedReply.{RecordedReply}
use Rattle.nr_explain.proofs.BindingReplies.{reply_there, rises, stays}
use Rattle.nr_explain.proofs.KnownAt.{known_after_other, known_after_reply, shown_new, shown_stays}
use Rattle.nr_explain.proofs.search.known.known_at.Goals as goal
use Rattle.nr_explain.proofs.search.known.known_at.Goals.{in-Some+then-own-known, in-Some+else-own-known, in_default}

pub loop-index-preserved : goal.loop-index-preserved
loop-index-preserved c =
    let trace = c.args.trace.now in
    let replica = c.args.replica in
    let index = c.loop-index.index in
    let low = c.loop-index.known in
    let new = c.match-find_reply.known in
    let old = c.loop-index.invariant in
    elim c.match-find_reply.branch [
      | in-Some+then-own-known w ↦
          let reply = w.in-Some.reply in
          let own = w.known_to-own.result in
          let after = known_after_reply trace replica index (response reply) (reply_there trace index reply w.in-Some.ensures.0 w.in-Some.ensures.1) in
          record {
            known = rises low (known_at trace replica index) (known_at trace replica (index + 1)) (known_to trace replica (response reply)) own new old.known
                after w.known_to-own.ensures w.if-own-known.true w.known-is;
            shown = subst (λ (o : Option RecordedReply). IsShownBy trace replica (index + 1) new o) (sym w.shown-is)
                (shown_new trace replica index low own new reply w.in-Some.ensures.0 w.in-Some.ensures.1 old.known w.if-own-known.true
                w.known_to-own.ensures w.known-is);
          }
      | in-Some+else-own-known w ↦
          let reply = w.in-Some.reply in
          let own = w.known_to-own.result in
          let after = known_after_reply trace replica index (response reply) (reply_there trace index reply w.in-Some.ensures.0 w.in-Some.ensures.1) in
          record {
            known = stays low (known_at trace replica index) (known_at trace replica (index + 1)) (known_to trace replica (response reply)) own new old.known
                after w.known_to-own.ensures w.if-own-known.false w.known-is;
            shown = subst (λ (o : Option RecordedReply). IsShownBy trace replica (index + 1) new o) (sym w.shown-is)
                (shown_stays trace replica index low new c.loop-index.shown w.known-is old.shown);
          }
      | in_default w ↦ record {
        known = w.known-is ∙ old.known ∙ sym (known_after_other trace replica index w.in_default.ensures);
        shown = subst (λ (o : Option RecordedReply). IsShownBy trace replica (index + 1) new o) (sym w.shown-is)
            (shown_stays trace replica index low new c.loop-index.shown w.known-is old.shown);
      }
    ]
