use Rattle.std.proofs.Common.{◌≡◌, ℕ, ◌<◌, ◌≤◌, Some, slice_get, sym, subst, ◌∙◌, arith}
use Rattle.std.proofs.lemmas.Option.{slice_get_within}
use Rattle.nr_trace.specs.Orders.{known_by}
use Rattle.nr_trace.proofs.LawsOfCalls.{reply_in_event}
use Rattle.nr_explain.proofs.BindingReplies.{no_more_known}
use Rattle.nr_explain.proofs.Dumped.{read_as}
use Rattle.nr_explain.proofs.calls.floors.short_prefix.Goals as goal

pub unreachable-requires : goal.unreachable-requires
unreachable-requires c =
    let trace = c.args.trace.now in
    let dump = c.index-dumps-replica.result in
    let (there, is_there, rests) = read_as trace c.dumps.result.now c.args.replica _ dump c.requires.holds c.dumps.ensures.reads c.index-dumps-replica.is in
    let more : dump.applied < known_by trace rests.reply = rests.more in
    let told : c.applied-applied.result ≡ dump.applied = c.applied-applied.ensures in
    let at = reply_in_event (slice_get trace.events rests.index) rests.reply rests.is_reply in
    c.in-None.ensures rests.index (slice_get_within trace.events rests.index at.0 at.1) (record {
      reply = rests.reply;
      is_reply = rests.is_reply;
      made = rests.made;
      is_made = rests.is_made;
      here = rests.here;
      more = omega arith;
    })

pub returns-clause-is : goal.returns-clause-is
returns-clause-is c =
    let trace = c.args.trace.now in
    let dump = c.index-dumps-replica.result in
    let (there, is_there, rests) = read_as trace c.dumps.result.now c.args.replica _ dump c.requires.holds c.dumps.ensures.reads c.index-dumps-replica.is in
    let found = c.in-Some.ensures.0 in
    record {
      applied = (
        dump,
        subst (λ (r : ℕ). slice_get trace.dumps r ≡ Some dump) (sym found.replica_is) there,
        is_there,
        sym c.applied-applied.ensures ∙ sym found.applied_is,
      );
      reply = found.reply;
      known = found.known;
      more = found.more;
      call = found.call;
      names = found.names;
      here = found.here;
      none_before = λ index reply made before is is_made at.
          subst (λ (n : ℕ). known_by trace reply ≤ n) (sym found.applied_is)
          (no_more_known trace c.args.replica c.applied-applied.result c.in-Some.found.reply.event
          c.in-Some.ensures.1 index reply made before is is_made (at ∙ found.replica_is));
    }
