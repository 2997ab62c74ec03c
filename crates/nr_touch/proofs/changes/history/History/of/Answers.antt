use Rattle.std.proofs.Common.{length, map, sym, ap, ◌∙◌, arith}
use Rattle.std.proofs.lemmas.List.{length-map, with_items_is}
use Rattle.std.proofs.lemmas.List.Sorted.{IsPermutation-sym, Contains-permutation}
use Rattle.nr_touch.specs.declared.changes.change.PlacedChange.{PlacedChange}
use Rattle.nr_touch.specs.inside.Changes.{taken_at}
use Rattle.nr_touch.proofs.changes.history.History.of.Goals as goal

pub returns-clause-columns : goal.returns-clause-columns
returns-clause-columns c =
    let xs = c.sort.new.changes.items in
    let pages = c.in_ok-pages.ensures ∙ ap (map (λ (each : PlacedChange). each.number)) c.deref.ensures.value in
    let places = c.in_ok-places.ensures ∙ ap (map (λ (each : PlacedChange). each.place)) c.deref-2.ensures.value in
    let made = c.deref_mut.ensures.value ∙ c.in_ok-made.ensures ∙ ap (map (λ (each : PlacedChange). each.made)) c.deref-3.ensures.value in
    let answered = c.deref_mut-2.ensures.value ∙ c.in_ok-answered.ensures ∙ ap (map (λ (each : PlacedChange). each.answered)) c.deref-5.ensures.value in
    let raised = with_items_is c.in_ok-made.made c.raise.new.bounds
    (omega (arith, c.raise.auto.bounds, ap length c.deref_mut.ensures.value, c.in_ok-made.made.ok.0)) in
    let lowered = with_items_is c.in_ok-answered.answered c.lower.new.bounds
    (omega (arith, c.lower.auto.bounds, ap length c.deref_mut-2.ensures.value, c.in_ok-answered.answered.ok.0)) in
    let taken = c.deref_mut-3.ensures.value ∙ c.in_ok-taken.ensures ∙ ap (map taken_at) c.deref-7.ensures.value in
    let taken_so = with_items_is c.in_ok-taken.taken c.lower-2.new.bounds
    (omega (arith, c.lower-2.auto.bounds, ap length c.deref_mut-3.ensures.value, c.in_ok-taken.taken.ok.0)) in
    record {
      numbered = λ change has. c.requires.numbered change (Contains-permutation xs c.args.changes.items change
          (IsPermutation-sym c.args.changes.items xs c.in_ok-sort.ensures.same) has);
      pages = pages;
      places = places;
      by_place = rw (pages, places) c.in_ok-sort.ensures.rising;
      made = rw (c.deref-4.ensures.value, made, length-map, sym raised) at c.raise.ensures;
      answered = rw (c.deref-6.ensures.value, answered, sym lowered) at c.lower.ensures;
      taken = rw (c.deref-8.ensures.value, taken, sym taken_so) at c.lower-2.ensures;
      sights = rw c.deref-9.ensures.value at c.in_ok-sights.ensures;
    }
