use Rattle.std.proofs.Common.{◌≡◌, ◌+◌, ℕ, length, refl, sym, ap, subst, ◌∙◌, arith}
use Rattle.nr_explain.specs.inside.Nearest.{IsNearestBelow}
use Rattle.nr_explain.specs.declared.trace.nearby.RightAfter.{RightAfter}
use Rattle.nr_explain.proofs.Asking.{right_at}
use Rattle.nr_explain.proofs.NearestStretches.{near_tried, none_near}
use Rattle.nr_explain.proofs.search.nearest.nearest.Goals as goal

pub apply_place-requires-clause-before : goal.apply_place-requires-clause-before
apply_place-requires-clause-before c = (c.args.start.space, c.loop-place.invariant.space)

pub loop-place-init : goal.loop-place-init
loop-place-init c =
    let trace = c.args.trace.now in
    let start = c.args.start.space in
    let is = right_at start trace c.args.request c.args.told 0 c.args.start c.in_ok-at_first.at_first c.requires.start c.in_ok-at_first.ensures.is in
    record {
      space = c.in_ok-at_first.ensures.stays ∙ c.requires.start;
      near = subst (IsNearestBelow start trace c.args.request c.args.told c.args.below c.args.above 1) (sym c.tried-right.ensures)
          (near_tried start trace c.args.request c.args.told c.args.below c.args.above 0 _ c.in_ok-at_first.at_first is
          (none_near start trace c.args.request c.args.told c.args.below c.args.above _ refl refl));
      places = ap (λ (r : RightAfter). r.places) c.tried-right.ensures ∙ c.places-places.ensures;
    }

pub loop-place-preserved : goal.loop-place-preserved
loop-place-preserved c =
    let trace = c.args.trace.now in
    let start = c.args.start.space in
    let place = c.loop-place.place in
    let old = c.loop-place.invariant in
    let space = c.in_ok-apply_place.ensures.ok start old.space in
    let is = right_at start trace c.args.request c.args.told (place + 1) c.apply_place.new.space c.in_ok-then.then space c.in_ok-then.ensures.is in
    record {
      space = c.in_ok-then.ensures.stays ∙ space;
      near = subst (IsNearestBelow start trace c.args.request c.args.told c.args.below c.args.above (place + 1 + 1)) (sym c.tried-right-in-loop-place.ensures)
          (near_tried start trace c.args.request c.args.told c.args.below c.args.above (place + 1) c.loop-place.right c.in_ok-then.then is old.near);
      places = ap (λ (r : RightAfter). r.places) c.tried-right-in-loop-place.ensures ∙ old.places;
    }

pub returns : goal.returns
returns c =
    let trace = c.args.trace.now in
    let start = c.args.start.space in
    let end : c.loop-place.place + 1 ≡ length trace.log + 1 = omega arith in
    let near = subst (λ (n : ℕ). IsNearestBelow start trace c.args.request c.args.told c.args.below c.args.above n c.loop-place.right) end
    c.loop-place.invariant.near in
    record {
      before = near.before;
      behind = near.behind;
      places = c.loop-place.invariant.places;
    }
