use Rattle.std.proofs.Common.{◌<◌, length, arith}
use Rattle.std.proofs.lemmas.List.{get_or_read}
use Rattle.nr_touch.proofs.LivesFound.{met_by, none_met}
use Rattle.nr_touch.proofs.Tests.{no, yes}
use Rattle.nr_touch.proofs.releases.lives.Lives.meets.Goals as goal

pub returns-in_default-clause-meets : goal.returns-in_default-clause-meets
returns-in_default-clause-meets c =
    no (none_met c.args.self.now c.requires c.args.block c.args.first c.args.last
    (rw (c.deref.ensures.value, c.deref-2.ensures.value, c.from.ensures) at c.in_default.ensures))

pub index-requires : goal.index-requires
index-requires c =
    let there = rw c.deref.ensures.value at c.in-Some.ensures.within in
    let many = c.requires.until.one_each in
    omega (arith, there, many, c.args.self.now.until.ok.0)

pub returns-then-index-first-clause-meets : goal.returns-then-index-first-clause-meets
returns-then-index-first-clause-meets c =
    let last = rw (c.deref.ensures.value, c.deref-2.ensures.value, c.from.ensures) at c.in-Some.ensures in
    let there = last.within in
    let many = c.requires.until.one_each in
    let also : c.in-Some.row < length c.args.self.now.until.items = omega (arith, there, many) in
    let value = get_or_read c.args.self.now.until.items c.in-Some.row c.index.result.now also c.index.ensures 0 in
    no (λ met. let high = (met_by c.args.self.now c.requires c.args.block c.args.first c.args.last c.in-Some.row last).1 met in
    omega (arith, value, high, c.if-index-first.true))

pub returns-clause-meets : goal.returns-clause-meets
returns-clause-meets c =
    let last = rw (c.deref.ensures.value, c.deref-2.ensures.value, c.from.ensures) at c.in-Some.ensures in
    let there = last.within in
    let many = c.requires.until.one_each in
    let also : c.in-Some.row < length c.args.self.now.until.items = omega (arith, there, many) in
    let value = get_or_read c.args.self.now.until.items c.in-Some.row c.index.result.now also c.index.ensures 0 in
    yes ((met_by c.args.self.now c.requires c.args.block c.args.first c.args.last c.in-Some.row last).0 (omega (arith, value, c.if-index-first.false)))
