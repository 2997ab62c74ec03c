use Rattle.std.proofs.Common.{◌≡◌, true, refl, subst, sym}
use Rattle.vs_types.specs.Finds.{Finds}
use Rattle.nr_trace.specs.inside.Reading.{IsReleaseWith}
use Rattle.nr_trace.proofs.Touches.{none_of_size, none_so}
use Rattle.nr_trace.proofs.reading.events.release_of.Goals as goal

pub returns-in_err-size : goal.returns-in_err-size
returns-in_err-size c =
    subst (Finds (IsReleaseWith c.args.fields)) (sym c.from_residual.ensures) (none_of_size c.args.fields c.in_err-size.ensures)

pub returns-then-is_release : goal.returns-then-is_release
returns-then-is_release c =
    let both = c.is_release.ensures.0 c.if-is_release.true in record {
      size = c.in_ok-size.size;
      phys = c.args.fields.physical;
      asked_is = refl;
      in_range = both.0;
      fields_are = both.1;
    }

pub returns-else-is_release : goal.returns-else-is_release
returns-else-is_release c =
    none_so c.args.fields c.in_ok-size.size c.in_ok-size.ensures
    (λ both. let yes : c.is_release.result ≡ true = c.is_release.ensures.1 both in absurd cc)
