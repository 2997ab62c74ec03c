use Rattle.std.proofs.Common.{arith}
use Rattle.nr_touch.proofs.Alikes.{alike_to}
use Rattle.nr_touch.proofs.changes.history.History.alike_until.Goals as goal

pub returns : goal.returns
returns c =
    let small = c.last_of-small.ensures in
    let large = c.last_of-large.ensures in
    let huge = c.last_of-huge.ensures in
    let behind = c.last_before-behind.ensures in
    alike_to c.args.self.now.changes.items c.requires.columns.numbered c.args.address _ _ _ _ _ small large huge behind
    (omega (arith, c.min.ensures, c.min-2.ensures, c.min-3.ensures))
    (let first = small.up in let second = large.up in let third = huge.up in let fourth = behind.up in
    omega (arith, c.min.ensures, c.min-2.ensures, c.min-3.ensures, first, second, third, fourth))
