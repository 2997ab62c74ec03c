use Rattle.std.proofs.Common.{take, arith}
use Rattle.std.proofs.lemmas.List.{length-take}
use Rattle.nrvs.proofs.WholeInput.{took_a_block, too_long}
use Rattle.nrvs.proofs.runs.script_input.read_blocks.Goals as goal

pub returns-in_err-extend_from_slice-clause-few : goal.returns-in_err-extend_from_slice-clause-few
returns-in_err-extend_from_slice-clause-few g c =
    let known = g.R.Read.remaining in
    let piece = take c.in_ok-count.count c.read_block.new.block in
    let count = length-take c.in_ok-count.count c.read_block.new.block in
    let least = c.min.ensures in
    let room = length-take c.min.result c.loop-room.block in
    let block = c.read_block.auto.block in
    let bound = c.in_ok-count.ensures.bound in
    took_a_block (known c.args.reader.now) (known c.loop-room.reader)
    (known c.read_block.new.reader) c.loop-room.bytes.items piece c.loop-room.room c.loop-room.invariant c.in_ok-count.ensures.ok (omega arith)

pub returns-clause-err : goal.returns-clause-err
returns-clause-err g c =
    let known = g.R.Read.remaining in
    too_long (known c.args.reader.now) (known c.loop-room.reader) c.loop-room.bytes.items c.loop-room.room c.loop-room.invariant (omega arith)
