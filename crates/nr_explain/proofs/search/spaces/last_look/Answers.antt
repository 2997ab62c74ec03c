use Rattle.std.proofs.Common.{◌≡◌, ◌+◌, ◌<◌, length, sym, ap, subst, ◌∙◌, arith}
use Rattle.std.proofs.lemmas.Bool.{iff_false}
use Rattle.vs_types.specs.Step.{look}
use Rattle.vs_plain.specs.Plain.{BoundedSpace}
use Rattle.nr_explain.specs.Facts.{IsLastChangeFrom, looks_from}
use Rattle.nr_explain.proofs.Changes.{change_has_call, change_here, change_stays}
use Rattle.nr_explain.proofs.search.spaces.last_look.Goals as goal
use Rattle.nr_explain.proofs.search.spaces.last_look.Goals.{then-not-is_same, else-not-is_same}

pub loop-place-preserved : goal.loop-place-preserved
loop-place-preserved c =
    let trace = c.args.trace.now in
    let start = c.args.start.space in
    let address = c.args.address in
    let place = c.loop-place.place in
    let is = c.loop-place.invariant in
    let space = c.in_ok-apply_place.ensures.ok start is.space in
    let looks : c.resolve-then.result ≡ looks_from start trace address (place + 1) =
    c.resolve-then.ensures ∙ ap (λ (s : BoundedSpace). look s.space address) space in
    record {
      space = space;
      looks = looks;
      changed = elim c.if-not-is_same.branch [
        | then-not-is_same w ↦ subst (IsLastChangeFrom start trace address (place + 1)) (sym w.changed-is)
            (change_here start trace address place w.update_at.result w.update_at.ensures.place w.update_at.ensures.call w.update_at.ensures.placed
            (λ same. iff_false c.is_same.ensures w.if-not-is_same.true (is.looks ∙ same ∙ sym looks)))
        | else-not-is_same w ↦ subst (IsLastChangeFrom start trace address (place + 1)) (sym w.changed-is)
            (change_stays start trace address place c.loop-place.changed
            (sym is.looks ∙ c.is_same.ensures.0 w.if-not-is_same.false ∙ looks) is.changed)
      ];
    }

-- the place whose update changed it has a call
pub update_at-requires-clause-call : goal.update_at-requires-clause-call
update_at-requires-clause-call c =
    let trace = c.args.trace.now in
    let start = c.args.start.space in
    let address = c.args.address in
    let place = c.loop-place.place in
    let is = c.loop-place.invariant in
    let looks : c.resolve-then.result ≡ looks_from start trace address (place + 1) =
    c.resolve-then.ensures ∙ ap (λ (s : BoundedSpace). look s.space address) (c.in_ok-apply_place.ensures.ok start is.space) in
    let test = c.loop-place-test.true in
    let within : place < length trace.log = omega (arith, c.requires.within, test) in
    change_has_call start trace address place within
    (λ same. iff_false c.is_same.ensures c.if-not-is_same.true (is.looks ∙ same ∙ sym looks))

pub apply_place-requires-clause-before : goal.apply_place-requires-clause-before
apply_place-requires-clause-before c = (c.args.start.space, c.loop-place.invariant.space)
