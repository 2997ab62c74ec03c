use Rattle.std.proofs.Common.{List, ℕ, subst, sym}
use Rattle.nr_trace.specs.declared.formats.version.Form.TheVariants as forms
use Rattle.nr_trace.specs.inside.Progress.{unit_bytes}
use Rattle.nr_trace.specs.inside.Feeding.{AreFewer}
use Rattle.nr_trace.proofs.Feeding.{sound_from, nothing_begun}
use Rattle.nr_trace.proofs.reading.feed.Feed.new.Goals as goal

pub invariant_of-result : goal.invariant_of-result
invariant_of-result c = (
  c.new.ensures.form_is,
  sound_from forms.Trace c.new.result c.new.ensures,
  subst (λ (l : List ℕ). AreFewer (unit_bytes c.new.result) l) (sym c.new-2.ensures.items) (nothing_begun c.new.result),
)
