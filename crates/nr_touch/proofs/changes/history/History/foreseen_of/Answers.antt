use Rattle.std.proofs.Common.{◌<◌, length, arith}
use Rattle.std.proofs.lemmas.List.{get_or_read}
use Rattle.nr_touch.proofs.Found.{none_foreseen, first_foreseen}
use Rattle.nr_touch.proofs.changes.history.History.foreseen_of.Goals as goal

pub returns-in-Some : goal.returns-in-Some
returns-in-Some c =
    let h = c.args.self.now in
    let first = rw (c.deref.ensures.value, c.deref-2.ensures.value, c.from.ensures) at c.in-Some.ensures in
    let there = first.within in
    let also : c.in-Some.row < length h.places.items = let many = c.requires.by_place.one_each in omega (arith, many, there) in
    rw (get_or_read h.places.items c.in-Some.row c.index.result.now also c.index.ensures 0)
    (first_foreseen h c.requires c.args.page c.args.event c.args.most c.in-Some.row first)

pub returns-in-None : goal.returns-in-None
returns-in-None c =
    none_foreseen c.args.self.now c.requires c.args.page c.args.event c.args.most
    (rw (c.deref.ensures.value, c.deref-2.ensures.value, c.from.ensures) at c.in-None.ensures)
