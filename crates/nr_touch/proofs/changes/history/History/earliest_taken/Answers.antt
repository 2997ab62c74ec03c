use Rattle.std.proofs.Common.{inl, refl, arith}
use Rattle.std.proofs.lemmas.List.{get_or_read}
use Rattle.nr_touch.proofs.Found.{earliest_behind, taken_there}
use Rattle.nr_touch.proofs.changes.history.History.earliest_taken.Goals as goal

pub index-requires : goal.index-requires
index-requires c =
    let there = taken_there c.args.self.now c.requires c.in-Some.row (rw c.deref.ensures.value at c.in-Some.ensures.within) in
    omega (arith, there, c.args.self.now.taken.ok.0)

pub returns-in-Some : goal.returns-in-Some
returns-in-Some c =
    let h = c.args.self.now in
    let first = rw (c.deref.ensures.value, c.deref-2.ensures.value, c.from.ensures) at c.in-Some.ensures in
    rw (get_or_read h.taken.items c.in-Some.row c.index.result.now (taken_there h c.requires c.in-Some.row first.within) c.index.ensures 0)
    (earliest_behind h c.requires c.args.page c.args.place c.in-Some.row first)

pub returns-in-None : goal.returns-in-None
returns-in-None c = inl refl
