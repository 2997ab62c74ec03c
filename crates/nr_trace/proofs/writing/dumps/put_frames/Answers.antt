use Rattle.std.proofs.Common.{sym, ◌∙◌, arith}
use Rattle.nr_trace.proofs.Framed.{is_some, frame_put, frames_put}
use Rattle.nr_trace.proofs.writing.dumps.put_frames.Goals as goal

pub unwrap-words-requires : goal.unwrap-words-requires
unwrap-words-requires c =
    is_some c.args.held.now c.loop-k.k c.number-number.result c.words.result c.count-frames.ensures.is_dump
    (omega (arith, c.loop-k-test.true, c.count-frames.ensures.reads)) c.number-number.ensures c.words.ensures

pub loop-k-preserved : goal.loop-k-preserved
loop-k-preserved c =
    frame_put c.args.held.now c.loop-k.k c.number-number.result c.unwrap-words.result _ c.loop-k.out.items _ c.count-frames.ensures.is_dump
    (omega (arith, c.loop-k-test.true, c.count-frames.ensures.reads)) c.number-number.ensures
    (sym c.words.ensures ∙ c.unwrap-words.ensures) c.loop-k.invariant c.in_ok-put_frame.ensures

pub returns : goal.returns
returns c =
    frames_put c.args.held.now c.count-frames.result c.loop-k.k c.args.out.now.items c.loop-k.out.items c.count-frames.ensures.reads c.loop-k-test.false
    c.loop-k.invariant
