use Rattle.std.proofs.Common.{ℕ, List, slice_get, ap, ◌∙◌, arith}
use Rattle.std.proofs.lemmas.Option.{slice_get_within}
use Rattle.nr_audit.proofs.PassedPlaces.{placed_here, placed_nowhere}
use Rattle.nr_audit.proofs.RecordedOrder.{looked_up}
use Rattle.nr_audit.proofs.checks.answers.is_placed.Goals as goal

pub returns-in-Some-clause-is : goal.returns-in-Some-clause-is
returns-in-Some-clause-is c =
    placed_here c.args.trace.now.log c.args.place c.args.call c.get.result c.in-Some.placed
    (looked_up c.get.result c.log.result.now c.args.place c.get.ensures.lookup.0 c.get.ensures.lookup.1
    ∙ ap (λ (xs : List ℕ). slice_get xs c.args.place) c.log.ensures.reads) c.in-Some.is

pub returns-in-None-clause-is : goal.returns-in-None-clause-is
returns-in-None-clause-is c =
    placed_nowhere c.args.trace.now.log c.args.place c.args.call c.get.result
    (looked_up c.get.result c.log.result.now c.args.place c.get.ensures.lookup.0 c.get.ensures.lookup.1
    ∙ ap (λ (xs : List ℕ). slice_get xs c.args.place) c.log.ensures.reads) c.in-None.is

pub returns-in-Some-clause-few : goal.returns-in-Some-clause-few
returns-in-Some-clause-few c = λ test.
    let here = (placed_here c.args.trace.now.log c.args.place c.args.call c.get.result c.in-Some.placed
    (looked_up c.get.result c.log.result.now c.args.place c.get.ensures.lookup.0 c.get.ensures.lookup.1
    ∙ ap (λ (xs : List ℕ). slice_get xs c.args.place) c.log.ensures.reads) c.in-Some.is).0 test in
    let low = slice_get_within c.args.trace.now.log c.args.place c.args.call here in
    omega (arith, low, c.log.ensures.in_range.few_places)
