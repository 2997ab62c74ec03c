use Rattle.std.proofs.Common.{ap, arith, sym, ◌∙◌}
use Rattle.std.specs.FinMap as finite
use Rattle.vs_walk.specs.Dump.{Image}
use Rattle.nr_order.proofs.Copied.{above, in_range, is_found, more, room, whole}
use Rattle.nr_order.proofs.copies.copy.Goals as goal

pub unreachable-requires : goal.unreachable-requires
unreachable-requires c =
    let found = is_found c.args.dump.now c.frames_are_a_dump.ensures c.loop-index.index c.number-number.result
    (omega (arith, c.loop-index-test.true, c.count-index-end.ensures.reads)) c.number-number.ensures in
    let read = c.words.ensures in
    let none = c.in_default.is in
    cc

pub with_frame-requires-clause-above : goal.with_frame-requires-clause-above
with_frame-requires-clause-above c =
    above c.args.dump.now c.frames_are_a_dump.ensures c.loop-index.index c.number-number.result
    (omega (arith, c.loop-index-test.true, c.count-index-end.ensures.reads)) c.number-number.ensures
    c.loop-index.copy.frames c.loop-index.invariant.2

pub with_frame-requires-clause-in_range : goal.with_frame-requires-clause-in_range
with_frame-requires-clause-in_range c =
    in_range c.args.dump.now c.frames_are_a_dump.ensures c.loop-index.index c.number-number.result
    (omega (arith, c.loop-index-test.true, c.count-index-end.ensures.reads)) c.number-number.ensures

pub with_frame-requires-clause-room : goal.with_frame-requires-clause-room
with_frame-requires-clause-room c =
    room c.args.dump.now c.frames_are_a_dump.ensures c.loop-index.index c.number-number.result
    (omega (arith, c.loop-index-test.true, c.count-index-end.ensures.reads)) c.number-number.ensures
    c.loop-index.copy.frames c.loop-index.invariant.2

pub loop-index-preserved : goal.loop-index-preserved
loop-index-preserved c = (
  ap (λ (d : Image). d.applied) c.in_ok-copy.ensures ∙ c.loop-index.invariant.0,
  ap (λ (d : Image). d.root) c.in_ok-copy.ensures ∙ c.loop-index.invariant.1,
  ap (λ (d : Image). finite.entries d.frames) c.in_ok-copy.ensures
      ∙ more c.args.dump.now c.frames_are_a_dump.ensures c.loop-index.index c.number-number.result
      (omega (arith, c.loop-index-test.true, c.count-index-end.ensures.reads)) c.number-number.ensures
      c.loop-index.copy.frames c.loop-index.invariant.2 c.in-Some.words (sym c.words.ensures ∙ c.in-Some.is),
)

pub returns : goal.returns
returns c =
    whole c.args.dump.now c.loop-index.copy c.loop-index.index c.loop-index.invariant.0 c.loop-index.invariant.1 c.loop-index.invariant.2
    (omega (arith, c.loop-index-test.false, c.count-index-end.ensures.reads))
