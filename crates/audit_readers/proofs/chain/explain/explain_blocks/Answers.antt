use Rattle.std.proofs.Common.{◌≡◌, ◌≤◌, ℕ, [], length, ap, subst, take, ◌-◌, arith}
use Rattle.std.proofs.lemmas.List.{length-take}
use Rattle.std.specs.Io.KnownBytes.{IsAtEnd}
use Rattle.std.proofs.KnownBytes.{Keeps-refl}
use Rattle.nr_explain.specs.ChainExplanation.{FeedsReader}
use Rattle.audit_readers.proofs.Explaining.{explained_at_end, explained_in_block, explaining_goes_on, explaining_starts, explains_too_late, few_kept, few_read}
use Rattle.audit_readers.proofs.chain.explain.explain_blocks.Goals as goal

pub loop-room-init : goal.loop-room-init
loop-room-init g c = explaining_starts (g.R.Read.remaining c.args.reader.now) c.new-chain.result c.new-chain.ensures

pub returns-then-count-eq0-clause-ok : goal.returns-then-count-eq0-clause-ok
returns-then-count-eq0-clause-ok g c =
    let known = g.R.Read.remaining in
    let piece = take c.in_ok-count.count c.read_block.new.block in
    let nothing : piece ≡ [] = ap (λ (n : ℕ). take n c.read_block.new.block) c.if-count-eq0.true in
    let end : IsAtEnd (known c.read_block.new.reader) = c.in_ok-count.ensures.end c.if-count-eq0.true
    (omega (arith, c.read_block.auto.block, c.loop-room.auto.block, c.requires)) in
    explained_at_end (known c.args.reader.now) (known c.loop-room.reader) (known c.read_block.new.reader) c.loop-room.chain piece c.in_ok-found.found
    c.loop-room.invariant c.in_ok-count.ensures.ok nothing end (c.in_ok-found.ensures c.loop-room.invariant.last c.loop-room.invariant.seen)

pub returns-in-Found-clause-ok : goal.returns-in-Found-clause-ok
returns-in-Found-clause-ok g c =
    let known = g.R.Read.remaining in
    let piece = take c.in_ok-count.count c.read_block.new.block in
    explained_in_block (known c.args.reader.now) (known c.loop-room.reader) (known c.read_block.new.reader) c.loop-room.chain piece c.in-Found.found
    c.loop-room.invariant c.in_ok-count.ensures.ok (subst (FeedsReader c.loop-room.invariant.last c.loop-room.chain piece) c.in-Found.is
    (c.in_ok-next.ensures c.loop-room.invariant.last c.loop-room.invariant.seen))

pub loop-room-preserved : goal.loop-room-preserved
loop-room-preserved g c =
    let known = g.R.Read.remaining in
    let piece = take c.in_ok-count.count c.read_block.new.block in
    let long = length-take c.in_ok-count.count c.read_block.new.block in
    let some : 1 ≤ length piece =
    omega (arith, c.if-count-eq0.false, c.read_block.auto.block, c.loop-room.auto.block, c.requires) in
    explaining_goes_on (known c.args.reader.now) (known c.loop-room.reader) (known c.read_block.new.reader) c.loop-room.chain c.in-More.next piece
    c.loop-room.room (c.loop-room.room - 1) c.loop-room.invariant c.in_ok-count.ensures.ok some (omega arith)
    (λ none. let zero : length piece ≡ 0 = ap length none in omega (arith, some, zero))
    (subst (FeedsReader c.loop-room.invariant.last c.loop-room.chain piece) c.in-More.is
    (c.in_ok-next.ensures c.loop-room.invariant.last c.loop-room.invariant.seen))

pub returns-in_err-count-clause-few : goal.returns-in_err-count-clause-few
returns-in_err-count-clause-few g c = few_kept c.loop-room.invariant c.in_err-count.ensures.kept

pub returns-in_err-found-clause-few : goal.returns-in_err-found-clause-few
returns-in_err-found-clause-few g c =
    few_read c.in_ok-count.count c.read_block.new.block c.loop-room.invariant c.in_ok-count.ensures.ok
    (omega (arith, c.read_block.auto.block, c.loop-room.auto.block, c.requires))

pub returns-then-count-eq0-clause-few : goal.returns-then-count-eq0-clause-few
returns-then-count-eq0-clause-few g c =
    few_read c.in_ok-count.count c.read_block.new.block c.loop-room.invariant c.in_ok-count.ensures.ok
    (omega (arith, c.read_block.auto.block, c.loop-room.auto.block, c.requires))

pub returns-in_err-next-clause-few : goal.returns-in_err-next-clause-few
returns-in_err-next-clause-few g c =
    few_read c.in_ok-count.count c.read_block.new.block c.loop-room.invariant c.in_ok-count.ensures.ok
    (omega (arith, c.read_block.auto.block, c.loop-room.auto.block, c.requires))

pub returns-in-Found-clause-few : goal.returns-in-Found-clause-few
returns-in-Found-clause-few g c =
    few_read c.in_ok-count.count c.read_block.new.block c.loop-room.invariant c.in_ok-count.ensures.ok
    (omega (arith, c.read_block.auto.block, c.loop-room.auto.block, c.requires))

pub returns-clause-few : goal.returns-clause-few
returns-clause-few g c = few_kept c.loop-room.invariant (Keeps-refl (g.R.Read.remaining c.loop-room.reader))

pub returns-clause-unread : goal.returns-clause-unread
returns-clause-unread g c = λ same. explains_too_late _ c.loop-room.invariant (omega arith)
