use Rattle.std.proofs.Common.{◌+◌, inl, inr, drop, sym, ◌∙◌, arith}
use Rattle.std.proofs.lemmas.Bool.{false≢true}
use Rattle.std.proofs.lemmas.List.Elements.{Contains-get_or}
use Rattle.nr_touch.proofs.cuts.Lefts.{far_nothing, hidden_ends, hidden_nothing}
use Rattle.nr_touch.proofs.cuts.Placed.{hidden_in}
use Rattle.nr_touch.proofs.cuts.Thinned.{none_thinned, one_dropped, one_kept, whole_thinned}
use Rattle.nr_touch.proofs.touches.tail.thinned.Goals as goal

pub loop-place-init : goal.loop-place-init
loop-place-init c = none_thinned c.args.changes.now c.new-kept.result.items c.new-numbers.result c.args.are_first c.new-kept.ensures.items

pub is_needless-requires-clause-sound : goal.is_needless-requires-clause-sound
is_needless-requires-clause-sound c = c.requires.each _ (Contains-get_or c.args.changes.now c.loop-place.place _ c.loop-place-test.true)

pub is_needless-requires-clause-few : goal.is_needless-requires-clause-few
is_needless-requires-clause-few c = let most = c.requires.few in omega (arith, most, c.loop-place-test.true)

pub note-requires : goal.note-requires
note-requires c = c.requires.each _ (Contains-get_or c.args.changes.now c.loop-place.place _ c.loop-place-test.true)

pub loop-place-preserved-then-is_needless : goal.loop-place-preserved-then-is_needless
loop-place-preserved-then-is_needless c =
    let changes = c.args.changes.now in
    let place = c.loop-place.place in
    let kept = c.loop-place.kept.items in
    let so = c.loop-place.invariant in
    let less = c.loop-place-test.true in
    let said = c.is_needless.ensures kept so.noted
    (record { few = let low = so.few in let most = c.requires.few in omega (arith, low, most, less); each = so.each }) c.if-is_needless.true in
    elim said [
      | inl far ↦ one_dropped changes kept c.args.are_first place _ less c.loop-place.numbers
          (far_nothing kept _ (drop (place + 1) changes) far.1 far.2) (λ behind. absurd (false≢true (sym behind ∙ far.0))) so
      | inr hidden ↦
          let it = hidden_in changes c.in_ok-placed.field-0.items c.in_ok-placed.ensures.each c.in_ok-history.history.changes.items
          c.in_ok-history.ensures.same _ place hidden in
          one_dropped changes kept c.args.are_first place _ less c.loop-place.numbers (hidden_nothing kept _ (drop (place + 1) changes) it)
          (λ behind. hidden_ends kept _ (drop (place + 1) changes) it) so
    ]

pub loop-place-preserved : goal.loop-place-preserved
loop-place-preserved c =
    let changes = c.args.changes.now in
    let place = c.loop-place.place in
    let less = c.loop-place-test.true in
    let kept = c.loop-place.kept.items in
    rw c.in_ok-push.ensures.items
    (one_kept changes kept c.args.are_first place _ less c.loop-place.numbers c.note.new.numbers (c.requires.each _ (Contains-get_or changes place _ less))
    (c.in_ok-note.ensures kept) c.loop-place.invariant)

pub returns-clause-looks : goal.returns-clause-looks
returns-clause-looks c =
    rw (whole_thinned c.args.changes.now c.loop-place.kept.items c.loop-place.place (omega (arith, c.loop-place-test.false))) at c.loop-place.invariant.looks

pub returns-clause-ends : goal.returns-clause-ends
returns-clause-ends c = λ behind.
    rw (whole_thinned c.args.changes.now c.loop-place.kept.items c.loop-place.place (omega (arith, c.loop-place-test.false)))
    at (c.loop-place.invariant.ends behind)

pub returns-clause-sound : goal.returns-clause-sound
returns-clause-sound c = record {
  few = let low = c.loop-place.invariant.few in let most = c.requires.few in let end = c.loop-place.auto.place-end in omega (arith, low, most, end);
  each = c.loop-place.invariant.each;
}

pub returns-clause-fewer : goal.returns-clause-fewer
returns-clause-fewer c = let low = c.loop-place.invariant.few in let end = c.loop-place.auto.place-end in omega (arith, low, end)
