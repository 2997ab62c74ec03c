use Rattle.std.proofs.Common.{◌≡◌, ◌≢◌, ℕ, ◌-◌, [], length, ap, subst, take, arith}
use Rattle.std.proofs.lemmas.List.{length-take}
use Rattle.std.specs.Io.KnownBytes.{IsAtEnd}
use Rattle.std.proofs.KnownBytes.{Keeps-refl}
use Rattle.audit_readers.proofs.Inputs.{one_block}
use Rattle.audit_readers.proofs.Growing.{grows_nothing}
use Rattle.audit_readers.specs.declared.fault.ProgFault.{ProgFault}
use Rattle.audit_readers.specs.declared.fault.ProgFault.TheVariants.{CannotRead, CannotWrite}
use Rattle.audit_readers.specs.ChainAudit.{HasWrittenFirst}
use Rattle.audit_readers.specs.inside.Going.{TakesBlock}
use Rattle.audit_readers.specs.inside.Judged.{totals_begun}
use Rattle.audit_readers.specs.declared.chain.audit.Taken.{Taken}
use Rattle.audit_readers.proofs.Going.{passed_on}
use Rattle.audit_readers.proofs.Reading.{all_written, block_at_once, block_refused, few_kept, few_read, kept_at_once, next_block, read_nothing}
use Rattle.audit_readers.proofs.Reading.{reading_begins, reads_on, reads_too_much, stayed}
use Rattle.audit_readers.proofs.chain.audit.judge_blocks.Goals as goal

pub loop-room-init : goal.loop-room-init
loop-room-init g c =
    rw c.totals_begun-totals.ensures
    (reading_begins c.args.style (g.R.Read.remaining c.args.reader.now) (g.W.Write.contents c.args.writer.now) (totals_begun c.args.counts)
    c.new-chain.result c.new-chain.ensures)

pub returns-in_err-count-clause-first : goal.returns-in_err-count-clause-first
returns-in_err-count-clause-first g c =
    let known = g.R.Read.remaining in
    let contents = g.W.Write.contents in
    let chain = c.loop-room.chain in
    let reading = c.loop-room.invariant in
    passed_on c.from_residual.result c.in_err-count.field-0.0
    (λ (fault : ProgFault). fault ≢ CannotWrite → HasWrittenFirst c.args.style (known c.args.reader.now) (known c.read_block.new.reader)
    (contents c.args.writer.now) (contents c.loop-room.writer) fault)
    c.from_residual.ensures.1
    (λ written. all_written c.args.style _ _ _ _ reading.last chain.bytes c.loop-room.number c.in_err-count.field-0.0
    (stayed c.args.style _ (known c.loop-room.reader) (known c.read_block.new.reader) _ _ reading.last chain.bytes c.loop-room.number
    c.loop-room.invariant.here c.in_err-count.ensures.kept) c.loop-room.invariant.short)

pub returns-in_err-count-clause-few : goal.returns-in_err-count-clause-few
returns-in_err-count-clause-few g c = few_kept c.loop-room.invariant c.in_err-count.ensures.kept

pub returns-then-count-eq0-clause-ok : goal.returns-then-count-eq0-clause-ok
returns-then-count-eq0-clause-ok g c =
    let known = g.R.Read.remaining in
    let chain = c.loop-room.chain in
    let piece = take c.in_ok-count.count c.read_block.new.block in
    let nothing : piece ≡ [] = ap (λ (n : ℕ). take n c.read_block.new.block) c.if-count-eq0.true in
    let end : IsAtEnd (known c.read_block.new.reader) = c.in_ok-count.ensures.end c.if-count-eq0.true
    (omega (arith, c.read_block.auto.block, c.loop-room.auto.block, c.requires)) in (
      c.loop-room.invariant.last,
      c.loop-room.invariant.kept,
      read_nothing c.args.style _ (known c.loop-room.reader) (known c.read_block.new.reader) _ _ c.loop-room.invariant.last chain.bytes piece c.loop-room.number
          c.loop-room.invariant.here c.in_ok-count.ensures.ok nothing,
      end,
    )

pub returns-then-count-eq0-clause-few : goal.returns-then-count-eq0-clause-few
returns-then-count-eq0-clause-few g c =
    few_read c.in_ok-count.count c.read_block.new.block c.loop-room.invariant c.in_ok-count.ensures.ok
    (omega (arith, c.read_block.auto.block, c.loop-room.auto.block, c.requires))

pub returns-in_err-next-clause-first : goal.returns-in_err-next-clause-first
returns-in_err-next-clause-first g c =
    let known = g.R.Read.remaining in
    let contents = g.W.Write.contents in
    let piece = take c.in_ok-count.count c.read_block.new.block in
    passed_on c.from_residual-in_err-next.result c.in_err-next.field-0.0
    (λ (fault : ProgFault). fault ≢ CannotWrite → HasWrittenFirst c.args.style (known c.args.reader.now) (known c.read_block.new.reader)
    (contents c.args.writer.now) (contents c.take_block.new.writer) fault)
    c.from_residual-in_err-next.ensures.1
    (block_refused c.loop-room.invariant.last c.args.style _ (known c.loop-room.reader) (known c.read_block.new.reader) _ (contents c.loop-room.writer)
    (contents c.take_block.new.writer) c.loop-room.chain piece c.loop-room.number c.in_err-next.field-0.0 c.loop-room.invariant.here
    c.in_ok-count.ensures.ok (c.in_err-next.ensures.err c.loop-room.invariant.last c.loop-room.invariant.kept c.loop-room.invariant.short))

pub returns-in_err-next-clause-few : goal.returns-in_err-next-clause-few
returns-in_err-next-clause-few g c =
    few_read c.in_ok-count.count c.read_block.new.block c.loop-room.invariant c.in_ok-count.ensures.ok
    (omega (arith, c.read_block.auto.block, c.loop-room.auto.block, c.requires))

pub returns-in-Wrong-clause-ok : goal.returns-in-Wrong-clause-ok
returns-in-Wrong-clause-ok g c =
    let known = g.R.Read.remaining in
    let contents = g.W.Write.contents in
    let piece = take c.in_ok-count.count c.read_block.new.block in
    let taken =
    subst (λ (t : Taken). TakesBlock c.loop-room.invariant.last c.args.style c.loop-room.chain c.loop-room.number piece (contents c.loop-room.writer)
    (contents c.take_block.new.writer) c.loop-room.totals t) c.in-Wrong.is
    (c.in_ok-next.ensures.ok c.loop-room.invariant.last c.loop-room.invariant.kept c.loop-room.invariant.short) in
    let here = next_block c.loop-room.invariant.last c.args.style _ (known c.loop-room.reader) (known c.read_block.new.reader) _ (contents c.loop-room.writer)
    (contents c.take_block.new.writer) c.loop-room.chain piece taken.0 taken.1 c.loop-room.number c.in-Wrong.right c.loop-room.invariant.here
    c.in_ok-count.ensures.ok taken.3 in
    (taken.0, taken.1, taken.2, here, taken.4, taken.5)

pub returns-in-Wrong-clause-few : goal.returns-in-Wrong-clause-few
returns-in-Wrong-clause-few g c =
    few_read c.in_ok-count.count c.read_block.new.block c.loop-room.invariant c.in_ok-count.ensures.ok
    (omega (arith, c.read_block.auto.block, c.loop-room.auto.block, c.requires))

pub loop-room-preserved : goal.loop-room-preserved
loop-room-preserved g c =
    let known = g.R.Read.remaining in
    let contents = g.W.Write.contents in
    let piece = take c.in_ok-count.count c.read_block.new.block in
    let full : length c.read_block.new.block ≡ 4096 = omega (arith, c.read_block.auto.block, c.loop-room.auto.block, c.requires) in
    let taken =
    subst (λ (t : Taken). TakesBlock c.loop-room.invariant.last c.args.style c.loop-room.chain c.loop-room.number piece (contents c.loop-room.writer)
    (contents c.take_block.new.writer) c.loop-room.totals t) c.in-More.is
    (c.in_ok-next.ensures.ok c.loop-room.invariant.last c.loop-room.invariant.kept c.loop-room.invariant.short) in
    reads_on c.args.style _ (known c.loop-room.reader) (known c.read_block.new.reader) _ (contents c.loop-room.writer) (contents c.take_block.new.writer)
    c.loop-room.chain c.in-More.next piece c.loop-room.number c.in-More.right c.loop-room.room (c.loop-room.room - 1) c.loop-room.invariant
    c.in_ok-count.ensures.ok (one_block c.in_ok-count.count c.read_block.new.block full)
    (let long = length-take c.in_ok-count.count c.read_block.new.block in
    omega (arith, c.in_ok-count.ensures.bound, c.if-count-eq0.false, full)) (omega arith) taken

pub returns-clause-first : goal.returns-clause-first
returns-clause-first g c =
    let chain = c.loop-room.chain in
    λ written. all_written c.args.style _ _ _ _ c.loop-room.invariant.last chain.bytes c.loop-room.number CannotRead
    c.loop-room.invariant.here c.loop-room.invariant.short

pub returns-clause-few : goal.returns-clause-few
returns-clause-few g c = few_kept c.loop-room.invariant (Keeps-refl (g.R.Read.remaining c.loop-room.reader))

pub returns-in_err-count-clause-at_once : goal.returns-in_err-count-clause-at_once
returns-in_err-count-clause-at_once g c = kept_at_once _ c.loop-room.invariant c.in_err-count.ensures.kept

pub returns-then-count-eq0-clause-at_once : goal.returns-then-count-eq0-clause-at_once
returns-then-count-eq0-clause-at_once g c =
    block_at_once c.in_ok-count.count c.read_block.new.block _ c.loop-room.invariant c.in_ok-count.ensures.ok c.in_ok-count.ensures.last
    (grows_nothing (g.W.Write.contents c.loop-room.writer))

pub returns-in_err-next-clause-at_once : goal.returns-in_err-next-clause-at_once
returns-in_err-next-clause-at_once g c =
    block_at_once c.in_ok-count.count c.read_block.new.block _ c.loop-room.invariant c.in_ok-count.ensures.ok c.in_ok-count.ensures.last
    c.in_err-next.ensures.grown

pub returns-in-Wrong-clause-at_once : goal.returns-in-Wrong-clause-at_once
returns-in-Wrong-clause-at_once g c =
    block_at_once c.in_ok-count.count c.read_block.new.block _ c.loop-room.invariant c.in_ok-count.ensures.ok c.in_ok-count.ensures.last
    c.in_ok-next.ensures.grown

pub returns-clause-at_once : goal.returns-clause-at_once
returns-clause-at_once g c = kept_at_once _ c.loop-room.invariant (Keeps-refl (g.R.Read.remaining c.loop-room.reader))

pub returns-clause-unread : goal.returns-clause-unread
returns-clause-unread g c = λ same. reads_too_much _ c.loop-room.invariant (omega arith)

pub take_block-requires-clause-known : goal.take_block-requires-clause-known
take_block-requires-clause-known g c = (c.loop-room.invariant.last, c.loop-room.invariant.kept, c.loop-room.invariant.short)
