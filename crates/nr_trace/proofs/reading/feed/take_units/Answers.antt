use Rattle.std.proofs.Common.{◌++◌, length, rules, arith}
use Rattle.vs_types.specs.Refusal.{IfRefused}
use Rattle.nr_trace.specs.Feed.{IsRefusedAs}
use Rattle.nr_trace.specs.inside.Progress.{form_of, said}
use Rattle.nr_trace.proofs.Feeding.{cut_at_end, cut_short, goes, refuses, starts}
use Rattle.nr_trace.proofs.Whole.{run_some}
use Rattle.nr_trace.proofs.reading.feed.take_units.Goals as goal

pub loop-len-init : goal.loop-len-init
loop-len-init c = starts c.args.reader c.args.bytes.now c.requires

pub loop-len-smaller : goal.loop-len-smaller
loop-len-smaller c =
    let some = run_some c.loop-len.reader c.in-Some.len c.in-Some.ensures.0 in
    omega (arith, some)

pub returns-in_err-reader : goal.returns-in_err-reader
returns-in_err-reader c =
    let refused : IfRefused (IsRefusedAs (form_of c.args.reader) (said c.args.reader ++ c.args.bytes.now) (length c.args.bytes.now)) c.in_err-reader.field-0.0 =
    refuses (form_of c.args.reader) (said c.args.reader) c.args.bytes.now c.loop-len.reader c.loop-len.rest.now c.split_at.result.0.now
    c.split_at.result.1.now c.in_err-reader.field-0.0 c.loop-len.invariant (search rules) c.in_err-reader.ensures in
    search rules

pub loop-len-preserved : goal.loop-len-preserved
loop-len-preserved c =
    goes (form_of c.args.reader) (said c.args.reader) c.args.bytes.now c.loop-len.reader c.in_ok-reader.reader c.loop-len.rest.now
    c.split_at.result.0.now c.split_at.result.1.now c.loop-len.invariant (search rules) c.in_ok-reader.ensures

pub returns-then-rest-len : goal.returns-then-rest-len
returns-then-rest-len c =
    cut_short _ _ _ c.loop-len.reader c.loop-len.rest.now c.in-Some.len c.loop-len.invariant (c.in-Some.ensures.1 (omega arith)) (omega arith)

pub returns : goal.returns
returns c = cut_at_end _ _ _ c.loop-len.reader c.loop-len.rest.now c.loop-len.invariant c.in_default.ensures
