use Rattle.std.proofs.Common.{◌≡◌, ◌≢◌, ◌++◌, ◌-◌, ◌^◌, ℕ, [], length, ap, subst, take, arith}
use Rattle.std.proofs.lemmas.List.{length-take}
use Rattle.std.specs.Io.KnownBytes.{IsAtEnd}
use Rattle.audit_readers.proofs.Going.{passed_on}
use Rattle.audit_readers.proofs.Inputs.{one_block}
use Rattle.audit_readers.specs.Ends.{IsUnreadable}
use Rattle.audit_readers.specs.declared.fault.ProgFault.{ProgFault}
use Rattle.audit_readers.specs.declared.fault.ProgFault.TheVariants.{CannotRead, CannotWrite}
use Rattle.nrvs.specs.ServedChain.{HasWrittenSegments, IsChainFault}
use Rattle.nrvs.specs.inside.ChainGoing.{HasFed}
use Rattle.nrvs.specs.declared.runs.served_chain.After.{After}
use Rattle.nrvs.proofs.ServedBlocks.{lasts_unread, lost_with, never_unread, none_written, read_to_end, reading_begins, reads_on, reads_too_much}
use Rattle.nrvs.proofs.ServedBlocks.{still_read, whatever_fault, whole_fault, whole_report, whole_written, written_between}
use Rattle.nrvs.proofs.ServedFaults.{ended_report, lasting_fault, segments_written}
use Rattle.nrvs.proofs.runs.served_chain.chain_named.Goals as goal

-- nothing is read
pub returns-in_err-run-clause-first : goal.returns-in_err-run-clause-first
returns-in_err-run-clause-first g c =
    whatever_fault c.from_residual.result _
    (none_written c.args.setup c.args.chain (g.R.Read.remaining c.args.reader.now) (g.W.Write.contents c.args.writer.now))

pub returns-in_err-portion-clause-first : goal.returns-in_err-portion-clause-first
returns-in_err-portion-clause-first g c =
    whatever_fault c.from_residual-in_err-portion.result _
    (none_written c.args.setup c.args.chain (g.R.Read.remaining c.args.reader.now) (g.W.Write.contents c.args.writer.now))

pub loop-room-init : goal.loop-room-init
loop-room-init g c =
    reading_begins c.args.setup c.args.chain (g.R.Read.remaining c.args.reader.now) (g.W.Write.contents c.args.writer.now) c.args.config c.in_ok-run.run'
    c.in_ok-portion.portion c.in_ok-run.run'.log c.args.chain.in_range.0 c.requires.config c.in_ok-run.ensures c.in_ok-portion.ensures

-- a block is not read
pub returns-in_err-count-clause-first : goal.returns-in_err-count-clause-first
returns-in_err-count-clause-first g c =
    let known = g.R.Read.remaining in
    let here = c.loop-room in
    whatever_fault c.from_residual-in_err-count.result _
    (written_between c.args.setup c.args.chain _ (known c.read_block.new.reader) _ (g.W.Write.contents here.writer) here.run here.portion here.room
    (still_read c.args.setup c.args.chain _ (known here.reader) (known c.read_block.new.reader) _ _ here.run here.portion here.room here.invariant
    c.in_err-count.ensures.kept))

-- the input has ended
pub returns-then-count-eq0-clause-ok : goal.returns-then-count-eq0-clause-ok
returns-then-count-eq0-clause-ok g c =
    let known = g.R.Read.remaining in
    let contents = g.W.Write.contents in
    let here = c.loop-room in
    let piece = take c.in_ok-count.count c.read_block.new.block in
    let nothing : piece ≡ [] = ap (λ (n : ℕ). take n c.read_block.new.block) c.if-count-eq0.true in
    let end : IsAtEnd (known c.read_block.new.reader) = c.in_ok-count.ensures.end c.if-count-eq0.true
    (omega (arith, c.read_block.auto.block, c.loop-room.auto.block, c.requires.block)) in
    let reading = here.invariant in
    whole_report c.args.setup c.args.chain reading.read (known c.args.reader.now) (known c.read_block.new.reader) (contents c.args.writer.now)
    (contents c.end_chain.new.writer) c.end_chain.result
    (read_to_end c.args.setup c.args.chain _ (known here.reader) (known c.read_block.new.reader) _ _ here.run here.portion here.room piece reading
    c.in_ok-count.ensures.ok nothing)
    end (c.end_chain.ensures.ok reading.read (contents c.args.writer.now) reading.come)

pub returns-then-count-eq0-clause-err : goal.returns-then-count-eq0-clause-err
returns-then-count-eq0-clause-err g c =
    let known = g.R.Read.remaining in
    let here = c.loop-room in
    let piece = take c.in_ok-count.count c.read_block.new.block in
    let nothing : piece ≡ [] = ap (λ (n : ℕ). take n c.read_block.new.block) c.if-count-eq0.true in
    let end : IsAtEnd (known c.read_block.new.reader) = c.in_ok-count.ensures.end c.if-count-eq0.true
    (omega (arith, c.read_block.auto.block, c.loop-room.auto.block, c.requires.block)) in
    let reading = here.invariant in
    whole_fault c.args.setup.depth reading.read (known c.args.reader.now) (known c.read_block.new.reader) c.end_chain.result
    (read_to_end c.args.setup c.args.chain _ (known here.reader) (known c.read_block.new.reader) _ _ here.run here.portion here.room piece reading
    c.in_ok-count.ensures.ok nothing)
    end (c.end_chain.ensures.err reading.read (g.W.Write.contents c.args.writer.now) reading.come)

pub returns-then-count-eq0-clause-first : goal.returns-then-count-eq0-clause-first
returns-then-count-eq0-clause-first g c =
    let known = g.R.Read.remaining in
    let contents = g.W.Write.contents in
    let here = c.loop-room in
    let piece = take c.in_ok-count.count c.read_block.new.block in
    let nothing : piece ≡ [] = ap (λ (n : ℕ). take n c.read_block.new.block) c.if-count-eq0.true in
    let reading = here.invariant in
    whole_written c.args.setup c.args.chain reading.read (known c.args.reader.now) (known c.read_block.new.reader) (contents c.args.writer.now)
    (contents c.end_chain.new.writer) c.end_chain.result
    (read_to_end c.args.setup c.args.chain _ (known here.reader) (known c.read_block.new.reader) _ _ here.run here.portion here.room piece reading
    c.in_ok-count.ensures.ok nothing)
    (c.end_chain.ensures.first reading.read (contents c.args.writer.now) reading.come)

pub returns-then-count-eq0-clause-unread : goal.returns-then-count-eq0-clause-unread
returns-then-count-eq0-clause-unread g c =
    let reading = c.loop-room.invariant in
    never_unread c.args.setup.depth reading.read (g.R.Read.remaining c.args.reader.now) (g.R.Read.remaining c.read_block.new.reader)
    (g.R.Source.last_read c.read_block.new.reader) c.end_chain.result
    (c.end_chain.ensures.err reading.read (g.W.Write.contents c.args.writer.now) reading.come)

-- a block is not taken
pub returns-in_err-next-clause-err : goal.returns-in_err-next-clause-err
returns-in_err-next-clause-err g c =
    let known = g.R.Read.remaining in
    let here = c.loop-room in
    let piece = take c.in_ok-count.count c.read_block.new.block in
    let reading = here.invariant in
    let fault = c.in_err-next.field-0.0 in
    passed_on c.from_residual-in_err-next.result fault (IsChainFault c.args.setup.depth (known c.args.reader.now)) c.from_residual-in_err-next.ensures.1
    (lasting_fault c.args.setup.depth (known c.args.reader.now) (known c.read_block.new.reader) (reading.read ++ piece) fault
    (lost_with c.args.setup c.args.chain _ (known here.reader) (known c.read_block.new.reader) _ _ here.run here.portion here.room piece reading
    c.in_ok-count.ensures.ok)
    (c.in_err-next.ensures.err reading.read (g.W.Write.contents c.args.writer.now) reading.come))

pub returns-in_err-next-clause-first : goal.returns-in_err-next-clause-first
returns-in_err-next-clause-first g c =
    let known = g.R.Read.remaining in
    let contents = g.W.Write.contents in
    let here = c.loop-room in
    let piece = take c.in_ok-count.count c.read_block.new.block in
    let full : length c.read_block.new.block ≡ 4096 = omega (arith, c.read_block.auto.block, c.loop-room.auto.block, c.requires.block) in
    let reading = here.invariant in
    passed_on c.from_residual-in_err-next.result c.in_err-next.field-0.0
    (λ (fault : ProgFault). fault ≢ CannotWrite → HasWrittenSegments c.args.setup c.args.chain (known c.args.reader.now)
    (known c.read_block.new.reader) (contents c.args.writer.now) (contents c.feed_piece.new.writer))
    c.from_residual-in_err-next.ensures.1
    (λ written. segments_written c.args.setup c.args.chain (length piece) (reading.read ++ piece) (known c.args.reader.now)
    (known c.read_block.new.reader) (contents c.args.writer.now) (contents c.feed_piece.new.writer)
    (lost_with c.args.setup c.args.chain _ (known here.reader) (known c.read_block.new.reader) _ _ here.run here.portion here.room piece reading
    c.in_ok-count.ensures.ok)
    (c.in_err-next.ensures.first reading.read (contents c.args.writer.now) reading.come written)
    (one_block c.in_ok-count.count c.read_block.new.block full))

pub returns-in_err-next-clause-unread : goal.returns-in_err-next-clause-unread
returns-in_err-next-clause-unread g c =
    let known = g.R.Read.remaining in
    let piece = take c.in_ok-count.count c.read_block.new.block in
    let reading = c.loop-room.invariant in
    let fault = c.in_err-next.field-0.0 in
    let last = g.R.Source.last_read c.read_block.new.reader in
    passed_on c.from_residual-in_err-next.result fault
    (λ (fault : ProgFault). fault ≡ CannotRead → IsUnreadable (2 ^ 52 - 1) (known c.args.reader.now) (known c.read_block.new.reader) last)
    c.from_residual-in_err-next.ensures.1
    (lasts_unread c.args.setup.depth (reading.read ++ piece) (known c.args.reader.now) (known c.read_block.new.reader) last fault
    (c.in_err-next.ensures.err reading.read (g.W.Write.contents c.args.writer.now) reading.come))

-- the run ends with a block, or goes on
pub returns-in-Ends-clause-ok : goal.returns-in-Ends-clause-ok
returns-in-Ends-clause-ok g c =
    let known = g.R.Read.remaining in
    let contents = g.W.Write.contents in
    let here = c.loop-room in
    let piece = take c.in_ok-count.count c.read_block.new.block in
    let full : length c.read_block.new.block ≡ 4096 = omega (arith, c.read_block.auto.block, c.loop-room.auto.block, c.requires.block) in
    let reading = here.invariant in
    ended_report c.args.setup c.args.chain (length piece) (reading.read ++ piece) (known c.args.reader.now) (known c.read_block.new.reader)
    (contents c.args.writer.now)
    (contents c.feed_piece.new.writer) c.in-Ends.status
    (lost_with c.args.setup c.args.chain _ (known here.reader) (known c.read_block.new.reader) _ _ here.run here.portion here.room piece reading
    c.in_ok-count.ensures.ok)
    (subst (λ (after : After _). HasFed c.args.setup c.args.chain (length piece) (reading.read ++ piece) (contents c.args.writer.now)
    (contents c.feed_piece.new.writer) c.feed_piece.new.portion after) c.in-Ends.is
    (c.in_ok-next.ensures.ok reading.read (contents c.args.writer.now) reading.come))
    (one_block c.in_ok-count.count c.read_block.new.block full)

pub loop-room-preserved : goal.loop-room-preserved
loop-room-preserved g c =
    let known = g.R.Read.remaining in
    let contents = g.W.Write.contents in
    let here = c.loop-room in
    let piece = take c.in_ok-count.count c.read_block.new.block in
    let full : length c.read_block.new.block ≡ 4096 = omega (arith, c.read_block.auto.block, c.loop-room.auto.block, c.requires.block) in
    let reading = here.invariant in
    reads_on c.args.setup c.args.chain _ (known here.reader) (known c.read_block.new.reader) _ (contents here.writer) (contents c.feed_piece.new.writer)
    here.run c.in-GoesOn.next here.portion c.feed_piece.new.portion here.room (here.room - 1) piece reading c.in_ok-count.ensures.ok
    (let long = length-take c.in_ok-count.count c.read_block.new.block in
    omega (arith, c.in_ok-count.ensures.bound, c.if-count-eq0.false, full)) (omega arith)
    (subst (λ (after : After _). HasFed c.args.setup c.args.chain (length piece) (reading.read ++ piece) (contents c.args.writer.now)
    (contents c.feed_piece.new.writer) c.feed_piece.new.portion after) c.in-GoesOn.is
    (c.in_ok-next.ensures.ok reading.read (contents c.args.writer.now) reading.come))
    c.in_ok-next.ensures.few

-- no more may be read
pub returns-clause-first : goal.returns-clause-first
returns-clause-first g c =
    let here = c.loop-room in
    λ written. written_between c.args.setup c.args.chain _ (g.R.Read.remaining here.reader) _ (g.W.Write.contents here.writer) here.run here.portion here.room
    here.invariant

pub returns-clause-unread : goal.returns-clause-unread
returns-clause-unread g c =
    let here = c.loop-room in
    λ same. reads_too_much c.args.setup c.args.chain _ (g.R.Read.remaining here.reader) _ (g.W.Write.contents here.writer) here.run here.portion here.room
    (g.R.Source.last_read here.reader) here.invariant (omega arith)
