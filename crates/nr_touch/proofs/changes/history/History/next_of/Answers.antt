use Rattle.std.proofs.Common.{sym}
use Rattle.nr_touch.proofs.Found.{none_next, first_next}
use Rattle.nr_touch.proofs.changes.history.History.next_of.Goals as goal

pub returns-in_err-row : goal.returns-in_err-row
returns-in_err-row c =
    rw c.from_residual.ensures
    (none_next c.args.self.now c.requires c.args.page c.args.place
    (rw (c.deref.ensures.value, c.deref-2.ensures.value, c.from.ensures) at c.in_err-row.ensures))

pub returns : goal.returns
returns c =
    first_next c.args.self.now c.requires c.args.page c.args.place c.in_ok-row.row
    (rw (c.deref.ensures.value, c.deref-2.ensures.value, c.from.ensures) at c.in_ok-row.ensures)
    c.index.result.now (sym c.index.ensures)
