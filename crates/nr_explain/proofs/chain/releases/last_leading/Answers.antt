use Rattle.std.proofs.Common.{◌≡◌, ℕ, ◌+◌, None, sym, ap, subst, ◌∙◌, arith}
use Rattle.std.proofs.lemmas.Bool.{iff_false}
use Rattle.vs_types.specs.Step.{look}
use Rattle.vs_plain.specs.Plain.{BoundedSpace}
use Rattle.nr_explain.specs.ChainFacts.{LeadsInto}
use Rattle.nr_explain.specs.Facts.{looks_from}
use Rattle.nr_explain.specs.inside.Reaches.{FindsLeadingBelow}
use Rattle.nr_explain.proofs.LeadingMoments.{found_here, found_stays, none_yet}
use Rattle.nr_explain.proofs.chain.releases.last_leading.Goals as goal
use Rattle.nr_explain.proofs.chain.releases.last_leading.Goals.{then-is_leading, else-is_leading, then-is_leading-2, else-is_leading-2}

pub apply_place-requires-clause-before : goal.apply_place-requires-clause-before
apply_place-requires-clause-before c = (c.args.start.space, c.loop-place.invariant.space)

pub loop-place-init : goal.loop-place-init
loop-place-init c =
    let segment = c.args.segment.now in
    let start = c.args.start.space in
    let address = c.args.address in
    let first = c.args.window.first in
    let given = c.args.given in record {
      space = c.requires.start;
      found = elim c.if-is_leading.branch [
        | then-is_leading w ↦ subst (FindsLeadingBelow start segment address first 1 given) (sym w.found-is)
            (let leads = c.is_leading.ensures.0 w.if-is_leading.true in
            found_here start segment address first given 0 c.resolve-look.result leads.0 c.resolve-look.ensures leads.1)
        | else-is_leading w ↦ subst (FindsLeadingBelow start segment address first 1 given) (sym w.found-is)
            (found_stays start segment address first given 0 None
            (λ low leads. iff_false c.is_leading.ensures w.if-is_leading.false (low, subst (LeadsInto given) (sym c.resolve-look.ensures) leads))
            (none_yet start segment address first given))
      ];
    }

pub loop-place-preserved : goal.loop-place-preserved
loop-place-preserved c =
    let segment = c.args.segment.now in
    let start = c.args.start.space in
    let address = c.args.address in
    let first = c.args.window.first in
    let given = c.args.given in
    let place = c.loop-place.place in
    let is = c.loop-place.invariant in
    let space = c.in_ok-apply_place.ensures.ok start is.space in
    let looks : c.resolve-then.result ≡ looks_from start segment address (place + 1) =
    c.resolve-then.ensures ∙ ap (λ (s : BoundedSpace). look s.space address) space in record {
      space = space;
      found = elim c.if-is_leading-2.branch [
        | then-is_leading-2 w ↦ subst (FindsLeadingBelow start segment address first ((place + 1) + 1) given) (sym w.found-is)
            (let leads = c.is_leading-in-loop-place.ensures.0 w.if-is_leading-2.true in
            found_here start segment address first given (place + 1) c.resolve-then.result leads.0 looks leads.1)
        | else-is_leading-2 w ↦ subst (FindsLeadingBelow start segment address first ((place + 1) + 1) given) (sym w.found-is)
            (found_stays start segment address first given (place + 1) c.loop-place.found
            (λ low leads. iff_false c.is_leading-in-loop-place.ensures w.if-is_leading-2.false (low, subst (LeadsInto given) (sym looks) leads)) is.found)
      ];
    }

pub returns : goal.returns
returns c =
    let over = c.loop-place-test.false in
    let low = c.loop-place.auto.place-end in
    let at_end : c.loop-place.place ≡ c.args.window.last = omega arith in
    subst (λ (n : ℕ). FindsLeadingBelow c.args.start.space c.args.segment.now c.args.address c.args.window.first (n + 1) c.args.given c.loop-place.found) at_end
    c.loop-place.invariant.found
