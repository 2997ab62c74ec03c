use Rattle.std.proofs.Common.{◌≡◌, ℕ, [], ap, take, arith}
use Rattle.std.proofs.lemmas.List.{length-take}
use Rattle.std.specs.Io.KnownBytes.{IsAtEnd}
use Rattle.std.proofs.KnownBytes.{Keeps-refl}
use Rattle.audit_readers.proofs.Inputs.{units_go_on, units_stop, units_end, units_read_a_block, units_read_no_more, units_too_long}
use Rattle.audit_readers.proofs.unit_input.feed_units.Goals as goal

pub returns-in_err-count-clause-few : goal.returns-in_err-count-clause-few
returns-in_err-count-clause-few g c = units_read_no_more c.loop-room.invariant c.in_err-count.ensures.kept

pub returns-then-count-eq0-clause-ok : goal.returns-then-count-eq0-clause-ok
returns-then-count-eq0-clause-ok g c =
    let known = g.R.Read.remaining in
    let piece = take c.in_ok-count.count c.read_block.new.block in
    let least = c.min.ensures in
    let room = length-take c.min.result c.loop-room.block in
    let block = c.read_block.auto.block in
    let whole = c.loop-room.auto.block in
    let asked = c.requires.block in
    let nothing : piece ≡ [] = ap (λ (n : ℕ). take n c.read_block.new.block) c.if-count-eq0.true in
    let end : IsAtEnd (known c.read_block.new.reader) = c.in_ok-count.ensures.end c.if-count-eq0.true (omega arith) in
    λ read is. units_end (known c.read_block.new.reader) piece c.loop-room.invariant c.in_ok-count.ensures.ok nothing end is

pub returns-then-count-eq0-clause-few : goal.returns-then-count-eq0-clause-few
returns-then-count-eq0-clause-few g c =
    let cut = length-take c.min.result c.loop-room.block in
    let least = c.min.ensures in
    let block = c.read_block.auto.block in
    units_read_a_block c.in_ok-count.count c.read_block.new.block c.loop-room.invariant c.in_ok-count.ensures.ok (omega arith) (omega arith)

pub returns-in-Err-clause-ok : goal.returns-in-Err-clause-ok
returns-in-Err-clause-ok g c =
    units_stop (g.R.Read.remaining c.read_block.new.reader) (take c.in_ok-count.count c.read_block.new.block) c.loop-room.invariant
    c.in_ok-count.ensures.ok c.in-Err.ensures.bad

pub returns-in-Err-clause-few : goal.returns-in-Err-clause-few
returns-in-Err-clause-few g c =
    let cut = length-take c.min.result c.loop-room.block in
    let least = c.min.ensures in
    let block = c.read_block.auto.block in
    units_read_a_block c.in_ok-count.count c.read_block.new.block c.loop-room.invariant c.in_ok-count.ensures.ok (omega arith) (omega arith)

pub returns-clause-few : goal.returns-clause-few
returns-clause-few g c = units_read_no_more c.loop-room.invariant (Keeps-refl (g.R.Read.remaining c.loop-room.reader))

pub loop-room-preserved : goal.loop-room-preserved
loop-room-preserved g c =
    let count = length-take c.in_ok-count.count c.read_block.new.block in
    let least = c.min.ensures in
    let room = length-take c.min.result c.loop-room.block in
    let block = c.read_block.auto.block in
    let bound = c.in_ok-count.ensures.bound in
    units_go_on (take c.in_ok-count.count c.read_block.new.block) c.loop-room.invariant c.in_ok-count.ensures.ok (omega arith)
    c.in_default.ensures.fed.0 c.in_default.ensures.fed.1

pub returns-clause-unread : goal.returns-clause-unread
returns-clause-unread g c = λ same. units_too_long _ c.loop-room.invariant (omega arith)
