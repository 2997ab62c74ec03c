use Rattle.std.proofs.Common.{Option, ◌∙◌, sym, subst, arith}
use Rattle.nr_touch.specs.inside.Columns.{IsNext, IsOf}
use Rattle.nr_touch.specs.declared.changes.change.PlacedChange.{PlacedChange}
use Rattle.nr_touch.proofs.changes.history.History.last_of.Goals as goal

pub returns-in-None : goal.returns-in-None
returns-in-None c =
    let none = subst (λ (o : Option PlacedChange). IsNext c.args.self.now.changes.items (IsOf c.number_at.result) 0 o) c.in-None.is c.next_of.ensures in
    record {
      up = let fits = c.ranges.address.fits in omega (arith, fits);
      within = λ change has of. absurd (let low = none change has (of ∙ sym c.number_at.ensures) in omega (arith, low));
    }
