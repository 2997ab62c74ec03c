use Rattle.std.proofs.Common.{◌≡◌, ℕ, ◌+◌, ◌<◌, length, slice_get, sym, ap, subst, ◌∙◌, arith}
use Rattle.std.proofs.lemmas.Bool.{iff_false}
use Rattle.vs_types.specs.Step.{look}
use Rattle.vs_plain.specs.Plain.{BoundedSpace}
use Rattle.nr_explain.specs.ChainFacts.{LeadsInto}
use Rattle.nr_explain.specs.Facts.{looks_from}
use Rattle.nr_explain.proofs.Changes.{change_has_call}
use Rattle.nr_explain.proofs.LeadingMoments.{leads_first, leads_next}
use Rattle.nr_explain.proofs.chain.releases.taken_from.Goals as goal

pub space_from-requires-clause-within : goal.space_from-requires-clause-within
space_from-requires-clause-within c = c.requires.within

pub loop-place-init : goal.loop-place-init
loop-place-init c = record {
  from = omega arith;
  space = c.in_ok-space.ensures;
  leads = leads_first c.args.start.space c.args.segment.now c.args.address c.args.given c.args.entries c.requires.leads;
}

pub apply_place-requires-clause-before : goal.apply_place-requires-clause-before
apply_place-requires-clause-before c = (c.args.start.space, c.loop-place.invariant.space)

pub loop-place-preserved : goal.loop-place-preserved
loop-place-preserved c =
    let segment = c.args.segment.now in
    let start = c.args.start.space in
    let address = c.args.address in
    let given = c.args.given in
    let place = c.loop-place.place in
    let is = c.loop-place.invariant in
    let space = c.in_ok-apply_place.ensures.ok start is.space in
    let looks : c.resolve.result ≡ looks_from start segment address (place + 1) =
    c.resolve.ensures ∙ ap (λ (s : BoundedSpace). look s.space address) space in
    let from = is.from in record {
      from = omega (arith, from);
      space = space;
      leads = leads_next start segment address given c.args.entries place
          (subst (LeadsInto given) looks (c.leads_into.ensures.0 c.if-not-leads_into.false)) is.leads;
    }

pub update_at-update-requires-clause-call : goal.update_at-update-requires-clause-call
update_at-update-requires-clause-call c =
    let segment = c.args.segment.now in
    let start = c.args.start.space in
    let address = c.args.address in
    let given = c.args.given in
    let place = c.loop-place.place in
    let is = c.loop-place.invariant in
    let looks : c.resolve.result ≡ looks_from start segment address (place + 1) =
    c.resolve.ensures ∙ ap (λ (s : BoundedSpace). look s.space address) (c.in_ok-apply_place.ensures.ok start is.space) in
    let test = c.loop-place-test.true in
    let long = ap length c.log.ensures.reads in
    let within : place < length segment.log = omega (arith, test, long) in
    change_has_call start segment address place within (λ same. iff_false c.leads_into.ensures c.if-not-leads_into.true
    (subst (LeadsInto given) (same ∙ sym looks) (is.leads place is.from (omega arith))))

pub returns-then-not-leads_into : goal.returns-then-not-leads_into
returns-then-not-leads_into c =
    let segment = c.args.segment.now in
    let start = c.args.start.space in
    let address = c.args.address in
    let given = c.args.given in
    let place = c.loop-place.place in
    let is = c.loop-place.invariant in
    let looks : c.resolve.result ≡ looks_from start segment address (place + 1) =
    c.resolve.ensures ∙ ap (λ (s : BoundedSpace). look s.space address) (c.in_ok-apply_place.ensures.ok start is.space) in
    let at = c.update_at-update.ensures.place in
    let from = is.from in (
      omega (arith, from, at),
      c.update_at-update.ensures.call,
      ap (λ (n : ℕ). slice_get segment.log n) at ∙ c.update_at-update.ensures.placed,
      (λ n low high. is.leads n low (omega (arith, high, at))),
      (λ leads. iff_false c.leads_into.ensures c.if-not-leads_into.true
          (subst (LeadsInto given) (ap (λ (n : ℕ). looks_from start segment address (n + 1)) at ∙ sym looks) leads)),
      c.reply_to-reply.ensures,
    )

pub returns : goal.returns
returns c =
    let long = ap length c.log.ensures.reads in
    λ n low high. c.loop-place.invariant.leads n low (omega (arith, high, long, c.loop-place-test.false))
