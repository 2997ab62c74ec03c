use Rattle.std.proofs.Common.{◌<◌, inl, inr, length, subst, arith}
use Rattle.std.proofs.lemmas.List.Elements.{Contains-get_or}
use Rattle.std.proofs.lemmas.Option.{get_or_from_slice_get, slice_get_within}
use Rattle.nr_touch.specs.inside.Overs.{IsSettled}
use Rattle.nr_touch.specs.declared.releases.stays.Stay.{Stay}
use Rattle.nr_touch.proofs.releases.changed.is_row_over.Goals as goal

pub returns-then-row-many : goal.returns-then-row-many
returns-then-row-many c = λ t stay at.
    let within = slice_get_within c.args.stays.now c.args.row stay at in
    absurd (omega (arith, within, c.if-row-many.true))

pub returns-then-until-made : goal.returns-then-until-made
returns-then-until-made c = λ t stay at.
    inl (subst (λ (q : Stay). q.until < c.args.release.now.made) (get_or_from_slice_get c.args.stays.now c.args.row stay _ at) c.if-until-made.true)

pub is_settled-requires-clause-page : goal.is_settled-requires-clause-page
is_settled-requires-clause-page c =
    let within : c.args.row < length c.args.stays.now = omega (arith, c.if-row-many.false) in
    c.requires.roomy _ (Contains-get_or c.args.stays.now c.args.row _ within)

pub returns : goal.returns
returns c = λ t stay at.
    inr (subst (λ (q : Stay). IsSettled c.args.joined.now.history.changes.items c.args.release.now q.page q.place)
    (get_or_from_slice_get c.args.stays.now c.args.row stay _ at) (c.is_settled.ensures t))
