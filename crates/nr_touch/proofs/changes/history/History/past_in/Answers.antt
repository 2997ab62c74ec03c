use Rattle.std.proofs.Common.{◌<◌, length, arith}
use Rattle.std.proofs.lemmas.List.{get_or_read}
use Rattle.nr_touch.proofs.Found.{few_at, last_flushed, none_flushed}
use Rattle.nr_touch.proofs.changes.history.History.past_in.Goals as goal

pub overflow_add-result : goal.overflow_add-result
overflow_add-result c =
    let h = c.args.self.now in
    let there = rw c.deref.ensures.value at c.in-Some.ensures.within in
    let also : c.in-Some.row < length h.places.items = let many = c.requires.columns.by_place.one_each in omega (arith, many, there) in
    let value = get_or_read h.places.items c.in-Some.row c.index.result.now also c.index.ensures 0 in
    omega (arith, value, few_at h c.requires.columns c.in-Some.row there)

pub returns-in-Some : goal.returns-in-Some
returns-in-Some c = λ at lowered.
    let h = c.args.self.now in
    let last = rw (c.deref.ensures.value, c.from.ensures) at c.in-Some.ensures in
    let there = last.within in
    let also : c.in-Some.row < length h.places.items = let many = c.requires.columns.by_place.one_each in omega (arith, many, there) in
    rw (get_or_read h.places.items c.in-Some.row c.index.result.now also c.index.ensures 0)
    (last_flushed h c.requires.columns at c.args.column.now lowered c.args.page c.args.event c.in-Some.row last)

pub returns-in-None : goal.returns-in-None
returns-in-None c = λ at lowered.
    none_flushed c.args.self.now c.requires.columns at c.args.column.now lowered c.args.page c.args.event
    (rw (c.deref.ensures.value, c.from.ensures) at c.in-None.ensures)
