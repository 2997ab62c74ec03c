use Rattle.std.proofs.Common.{◌≡◌, ◌≢◌, ◌<◌, List, get_or, length, ap, sym, subst, ◌∙◌, arith}
use Rattle.std.proofs.lemmas.Bool.{iff_false}
use Rattle.std.proofs.lemmas.List.{get_or-map, length-map}
use Rattle.vs_types.specs.LogEntry.{IsLogEntry}
use Rattle.vs_types.specs.declared.addresses.depth.Depth.{Depth}
use Rattle.vs_types.specs.declared.log_entry.LogEntry.{LogEntry}
use Rattle.nr_slots.specs.Updates.{Waiting}
use Rattle.nr_node.specs.Calls.{entry_of}
use Rattle.nr_node.specs.inside.Replica.{ReplicaState}
use Rattle.nr_node.proofs.Answering.{applied_more, if_none_on, if_some_on, lacks_more, own_made, own_placed, own_stays}
use Rattle.nr_node.proofs.replica.Replica.apply_batch.Goals as goal
use Rattle.nr_node.proofs.replica.Replica.apply_batch.Goals.{then-thread+then-is, else-thread, else-thread-via-then-thread+else-is, else-thread-via-else-thread}

pub apply-answer-requires-clause-fits : goal.apply-answer-requires-clause-fits
apply-answer-requires-clause-fits g c =
    let batch = c.args.batch.now.items in
    let i = c.loop-waiting.waiting-index in
    let x = c.waiting-item.result in
    let same = c.as_slice-waiting-items.ensures.value in
    let Here : List Waiting → Type 0 = λ l. x ≡ get_or l i x in
    let here : x ≡ get_or batch i x = subst Here same c.waiting-item.is in
    let within : i < length batch = omega (arith, c.loop-waiting-test.true, ap (λ (l : List Waiting). length l) same) in
    let fits = c.requires.fit i (entry_of x) (omega (arith, within, length-map batch entry_of)) in
    let Fits : LogEntry → Type 0 = λ e. IsLogEntry c.args.self.now.depth e in
    let ByDepth : Depth → Type 0 = λ d. IsLogEntry d c.entry-entry.result in
    subst ByDepth (sym (ap (λ (r : ReplicaState). r.depth) c.loop-waiting.invariant.0))
    (subst Fits (get_or-map entry_of batch i x (entry_of x) within ∙ ap entry_of (sym here) ∙ sym c.entry-entry.ensures.entry) fits)

pub loop-waiting-preserved : goal.loop-waiting-preserved
loop-waiting-preserved g c =
    let start = c.args.self.now in
    let now = c.loop-waiting.self in
    let next = c.apply-answer.new.self in
    let batch = c.args.batch.now.items in
    let i = c.loop-waiting.waiting-index in
    let x = c.waiting-item.result in
    let entry = c.entry-entry.result in
    let made = c.apply-answer.ensures.applied in
    let is = c.loop-waiting.invariant in
    let same = c.as_slice-waiting-items.ensures.value in
    let Here : List Waiting → Type 0 = λ l. x ≡ get_or l i x in
    let here : x ≡ get_or batch i x = subst Here same c.waiting-item.is in
    let within : i < length batch = omega (arith, c.loop-waiting-test.true, ap (λ (l : List Waiting). length l) same) in (
      applied_more start now next batch i x entry within here c.entry-entry.ensures.entry is.0 made,
      elim c.if-thread.branch [
        | then-thread+then-is w ↦
            let equal : entry ≡ c.args.wanted = w.is.ensures.0 w.if-is.true in
            rw w.own-is
            (own_made start now next _ entry c.args.wanted _ c.apply-answer.result is.0 made c.applied-place.ensures.counts equal
            c.apply-answer.ensures.answer)
        | else-thread w ↦
            rw w.own-is (if_some_on c.loop-waiting.own _ _ (λ update before. own_stays start now next entry c.args.wanted _ _ made before) is.1)
      ],
      elim c.if-thread.branch [
        | then-thread+then-is w ↦ rw w.own-is tt
        | else-thread w ↦
            let other : x.thread ≡ c.args.thread → entry_of x ≢ c.args.wanted = elim w.else-thread.branch [
              | else-thread-via-then-thread+else-is v ↦
                  λ own same. iff_false v.is.ensures v.if-is.false (c.entry-entry.ensures.entry ∙ same)
              | else-thread-via-else-thread v ↦ λ own same. v.if-thread.false (c.thread.ensures ∙ own)
            ] in
            rw w.own-is (if_none_on c.loop-waiting.own _ _ (lacks_more c.args.thread c.args.wanted batch i x within here other) is.2)
      ],
      elim c.if-thread.branch [
        | then-thread+then-is w ↦
            let equal : entry ≡ c.args.wanted = w.is.ensures.0 w.if-is.true in
            rw w.own-is
            (own_placed start now batch i x c.args.thread entry c.args.wanted _ within here (sym c.thread.ensures ∙ w.if-thread.true)
            c.entry-entry.ensures.entry equal is.0 c.applied-place.ensures.counts)
        | else-thread w ↦ rw w.own-is is.3
      ],
    )
