use Rattle.std.proofs.Common.{refl, sym, arith}
use Rattle.vs_space.proofs.Meets.{descended, resolve_absent, resolve_fits, resolve_leaf}
use Rattle.vs_space.proofs.space.Space.resolve_at.Goals as goal

pub read_written-requires-clause-written : goal.read_written-requires-clause-written
read_written-requires-clause-written g c = c.requires.ended.written

pub returns-in_default : goal.returns-in_default
returns-in_default g c =
    resolve_absent c.requires.ended.table c.requires.canonical (descended refl (sym c.read_written.ensures) c.requires.ended.descent) c.in_default.not-Leaf

pub overflow_add-result : goal.overflow_add-result
overflow_add-result g c =
    let descent = descended refl (sym c.in-Leaf.ensures) c.requires.ended.descent in
    omega (arith, resolve_fits c.requires.ended.table c.requires.canonical descent c.at_level-size.ensures c.bytes.ensures)

pub returns : goal.returns
returns g c =
    let descent = descended refl (sym c.in-Leaf.ensures) c.requires.ended.descent in
    resolve_leaf c.requires.ended.table c.requires.canonical descent c.at_level-size.ensures c.bytes.ensures
