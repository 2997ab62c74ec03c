use Rattle.std.proofs.Common.{ℕ, subst, arith}
use Rattle.std.proofs.lemmas.Result.{err_from_is_err_and}
use Rattle.nr_ring.specs.LogHistory.{AllKeepUp, HasRoom, log_after}
use Rattle.nr_ring.specs.Words.{last_ring}
use Rattle.nr_ring.specs.inside.Batch.{Bars}
use Rattle.nr_ring.proofs.FirstWords.{head_is, head_small}
use Rattle.nr_ring.proofs.ring.ring_log.RingLog.find_room.Goals as goal

pub test_room-requires : goal.test_room-requires
test_room-requires g c =
    let known = c.requires.known in
    let is = c.refresh.ensures.known known.0 known.1 known.2 in
    (head_small _ _ _ _ known.0 known.1 c.refresh.new.pass is c.head-2.result.now c.head-2.ensures, c.requires.count)

pub returns-in_err-test_room-clause-room : goal.returns-in_err-test_room-clause-room
returns-in_err-test_room-clause-room g c =
    let known = c.requires.known in
    let p = c.refresh.new.pass in
    let is = c.refresh.ensures.known known.0 known.1 known.2 in
    let head = head_is _ _ _ _ known.0 known.1 p is c.head-2.result.now c.head-2.ensures in
    let e = err_from_is_err_and c.from_residual.result c.from_residual.ensures.1 in
    let log = log_after g.J.LogName.replicas p.view.seen in
    let Bar : ℕ → Type 0 = λ places. Bars places log c.args.count c.in_err-test_room.field-0.0 in
    rw (e.1, e.2) (subst Bar c.self.invariant.2 (c.in_err-test_room.ensures log (last_ring p.value) head))

pub returns-clause-place : goal.returns-clause-place
returns-clause-place g c =
    let known = c.requires.known in
    let p = c.refresh.new.pass in
    let is = c.refresh.ensures.known known.0 known.1 known.2 in
    (head_is _ _ _ _ known.0 known.1 p is c.head.result.now c.head.ensures).tail_is

pub returns-clause-room : goal.returns-clause-room
returns-clause-room g c =
    let known = c.requires.known in
    let p = c.refresh.new.pass in
    let is = c.refresh.ensures.known known.0 known.1 known.2 in
    let head = head_is _ _ _ _ known.0 known.1 p is c.head-2.result.now c.head-2.ensures in
    let log = log_after g.J.LogName.replicas p.view.seen in
    let Room : ℕ → Type 0 = λ places. HasRoom places log c.args.count × AllKeepUp log c.args.count in
    subst Room c.self.invariant.2 (c.in_ok-test_room.ensures log (last_ring p.value) head)
