use Rattle.std.proofs.Common.{inl, refl, arith}
use Rattle.std.proofs.lemmas.List.{get_or_read}
use Rattle.nr_touch.proofs.Found.{latest_before, made_there}
use Rattle.nr_touch.proofs.changes.history.History.latest_made.Goals as goal

pub index-requires : goal.index-requires
index-requires c =
    let there = made_there c.args.self.now c.requires c.in-Some.row (rw c.deref.ensures.value at c.in-Some.ensures.within) in
    omega (arith, there, c.args.self.now.made.ok.0)

pub returns-in-Some : goal.returns-in-Some
returns-in-Some c =
    let h = c.args.self.now in
    let last = rw (c.deref.ensures.value, c.deref-2.ensures.value, c.from.ensures) at c.in-Some.ensures in
    rw (get_or_read h.made.items c.in-Some.row c.index.result.now (made_there h c.requires c.in-Some.row last.within) c.index.ensures 0)
    (latest_before h c.requires c.args.page c.args.place c.in-Some.row last)

pub returns-in-None : goal.returns-in-None
returns-in-None c = inl refl
