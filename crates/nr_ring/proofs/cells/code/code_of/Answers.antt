use Rattle.std.proofs.Common.{◌≡◌, ◌+◌, ◌*◌, Bool, ℕ, List, nat_le, length, get_or, ap, ◌∙◌, sym, arith}
use Rattle.std.proofs.lemmas.List.{take_all}
use Rattle.nr_ring.specs.inside.Codes.{packed, room_of, rooms_of}
use Rattle.nr_ring.proofs.Codes.{low_room, low_start, one_room_more, test_same}
use Rattle.nr_ring.proofs.cells.code.code_of.Goals as goal

-- the room that the loop adds
room_is : (c : goal.After-room_of) → c.room_of.result
    ≡ room_of c.args.tail (get_or c.args.locals c.loop-replica.replica 0) (nat_le (c.loop-replica.replica + 1) c.args.count)
room_is c = c.room_of.ensures
    ∙ ap (λ (b : Bool). room_of c.args.tail (get_or c.args.locals c.loop-replica.replica 0) b) (test_same c.loop-replica.replica c.args.count)

pub overflow_mul-code : goal.overflow_mul-code
overflow_mul-code c =
    let low = low_start c.args.tail c.args.count c.loop-replica.replica c.args.locals c.requires.tail (omega arith) c.requires.locals in
    omega (arith, low, c.loop-replica.invariant)

pub overflow_add-code : goal.overflow_add-code
overflow_add-code c =
    let low = low_start c.args.tail c.args.count c.loop-replica.replica c.args.locals c.requires.tail (omega arith) c.requires.locals in
    omega (arith, low, c.loop-replica.invariant, room_is c, low_room c.args.tail c.args.count c.loop-replica.replica c.args.locals c.requires.locals)

pub loop-replica-preserved : goal.loop-replica-preserved
loop-replica-preserved c =
    let long : length c.args.locals ≡ 4 = omega arith in
    (λ i. c.loop-replica.invariant i * 32 + room_is c i)
    ∙ sym (one_room_more c.args.tail c.args.count c.loop-replica.replica c.args.locals (omega (arith, c.loop-replica-test.true, long)))

pub returns : goal.returns
returns c =
    let long : length c.args.locals ≡ 4 = omega arith in
    let all = take_all c.loop-replica.replica c.args.locals (omega (arith, long, c.loop-replica-test.false)) in
    ap (λ (z : ℕ). z * 8 + c.args.count)
    (c.loop-replica.invariant ∙ ap (λ (l : List ℕ). packed c.args.tail (rooms_of c.args.tail l 0 c.args.count)) all)
