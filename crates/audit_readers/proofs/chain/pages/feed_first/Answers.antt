use Rattle.std.proofs.Common.{◌≡◌, ℕ, [], ap, take, ◌-◌, arith}
use Rattle.std.proofs.lemmas.List.{length-take}
use Rattle.std.specs.Io.KnownBytes.{IsAtEnd}
use Rattle.std.proofs.KnownBytes.{Keeps-refl}
use Rattle.audit_readers.proofs.Beginning.{begins, begins_too_late, few_begun, few_stayed, first_ended, first_goes_on, first_stopped, first_whole}
use Rattle.audit_readers.proofs.chain.pages.feed_first.Goals as goal

pub loop-room-init : goal.loop-room-init
loop-room-init g c = begins (g.R.Read.remaining c.args.reader.now) c.args.first.now c.requires.empty

pub returns-in_err-count-clause-few : goal.returns-in_err-count-clause-few
returns-in_err-count-clause-few g c = few_stayed c.loop-room.invariant c.in_err-count.ensures.kept

pub returns-then-count-eq0-clause-ok : goal.returns-then-count-eq0-clause-ok
returns-then-count-eq0-clause-ok g c =
    let known = g.R.Read.remaining in
    let piece = take c.in_ok-count.count c.read_block.new.block in
    let nothing : piece ≡ [] = ap (λ (n : ℕ). take n c.read_block.new.block) c.if-count-eq0.true in
    let end : IsAtEnd (known c.read_block.new.reader) = c.in_ok-count.ensures.end c.if-count-eq0.true
    (omega (arith, c.read_block.auto.block, c.loop-room.auto.block, c.requires.block)) in
    λ read_so ends. first_ended _ (known c.loop-room.reader) (known c.read_block.new.reader) c.loop-room.first piece read_so c.loop-room.invariant
    c.in_ok-count.ensures.ok nothing end ends

pub returns-then-count-eq0-clause-few : goal.returns-then-count-eq0-clause-few
returns-then-count-eq0-clause-few g c =
    few_begun c.in_ok-count.count c.read_block.new.block c.loop-room.invariant c.in_ok-count.ensures.ok
    (omega (arith, c.read_block.auto.block, c.loop-room.auto.block, c.requires.block))

pub returns-in-Err-clause-ok : goal.returns-in-Err-clause-ok
returns-in-Err-clause-ok g c =
    let known = g.R.Read.remaining in
    let piece = take c.in_ok-count.count c.read_block.new.block in
    λ read_so ends. first_stopped _ (known c.loop-room.reader) (known c.read_block.new.reader) c.loop-room.first c.feed.new.self piece c.in-Err._fail read_so
    c.loop-room.invariant c.in_ok-count.ensures.ok c.in-Err.ensures ends

pub returns-in-Err-clause-few : goal.returns-in-Err-clause-few
returns-in-Err-clause-few g c =
    few_begun c.in_ok-count.count c.read_block.new.block c.loop-room.invariant c.in_ok-count.ensures.ok
    (omega (arith, c.read_block.auto.block, c.loop-room.auto.block, c.requires.block))

pub returns-then-is_whole-clause-ok : goal.returns-then-is_whole-clause-ok
returns-then-is_whole-clause-ok g c =
    let known = g.R.Read.remaining in
    let piece = take c.in_ok-count.count c.read_block.new.block in
    λ read_so ends. first_whole _ (known c.loop-room.reader) (known c.read_block.new.reader) c.loop-room.first c.feed.new.self piece
    c.in_default.field-0 read_so
    c.loop-room.invariant c.in_ok-count.ensures.ok c.in_default.ensures (c.is_whole.ensures.0 c.if-is_whole.true) ends

pub returns-then-is_whole-clause-few : goal.returns-then-is_whole-clause-few
returns-then-is_whole-clause-few g c =
    few_begun c.in_ok-count.count c.read_block.new.block c.loop-room.invariant c.in_ok-count.ensures.ok
    (omega (arith, c.read_block.auto.block, c.loop-room.auto.block, c.requires.block))

pub loop-room-preserved : goal.loop-room-preserved
loop-room-preserved g c =
    let known = g.R.Read.remaining in
    let piece = take c.in_ok-count.count c.read_block.new.block in
    first_goes_on _ (known c.loop-room.reader) (known c.read_block.new.reader) c.loop-room.first c.feed.new.self piece c.in_default.field-0
    c.loop-room.room (c.loop-room.room - 1) c.loop-room.invariant c.in_ok-count.ensures.ok
    (let long = length-take c.in_ok-count.count c.read_block.new.block in
    omega (arith, c.in_ok-count.ensures.bound, c.if-count-eq0.false)) (omega arith) c.in_default.ensures
    (λ whole. let is = c.is_whole.ensures.1 whole in let other = c.if-is_whole.false in cc)

pub returns-clause-few : goal.returns-clause-few
returns-clause-few g c = few_stayed c.loop-room.invariant (Keeps-refl (g.R.Read.remaining c.loop-room.reader))

pub returns-clause-unread : goal.returns-clause-unread
returns-clause-unread g c = λ same. begins_too_late _ c.loop-room.invariant (omega arith)
