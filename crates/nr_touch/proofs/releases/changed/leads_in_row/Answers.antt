use Rattle.std.proofs.Common.{◌<◌, length, sym, subst, arith}
use Rattle.std.proofs.lemmas.List.Elements.{Contains-get_or}
use Rattle.std.proofs.lemmas.Option.{get_or_from_slice_get, slice_get_within}
use Rattle.nr_touch.specs.inside.Reached.{LeadsSo}
use Rattle.nr_touch.specs.declared.releases.stays.Stay.{Stay}
use Rattle.nr_touch.proofs.releases.changed.leads_in_row.Goals as goal

pub returns-then-row-many-clause-whole : goal.returns-then-row-many-clause-whole
returns-then-row-many-clause-whole c = λ b stay at until leads.
    let within = slice_get_within c.args.stays.now c.args.row stay at in
    absurd (omega (arith, within, c.if-row-many.true))

pub returns-then-until-made-clause-whole : goal.returns-then-until-made-clause-whole
returns-then-until-made-clause-whole c = λ b stay at until leads.
    let over : stay.until < c.args.release.now.made =
    subst (λ (q : Stay). q.until < c.args.release.now.made) (get_or_from_slice_get c.args.stays.now c.args.row stay _ at) c.if-until-made.true in
    absurd (omega (arith, over, until))

pub leads_there-requires-clause-page : goal.leads_there-requires-clause-page
leads_there-requires-clause-page c =
    let within : c.args.row < length c.args.stays.now = omega (arith, c.if-row-many.false) in
    c.requires.roomy _ (Contains-get_or c.args.stays.now c.args.row _ within)

pub returns-clause-sound : goal.returns-clause-sound
returns-clause-sound c = λ b t. (_, c.leads_there.ensures.sound b t)

pub returns-clause-whole : goal.returns-clause-whole
returns-clause-whole c = λ b stay at until leads. c.leads_there.ensures.whole b (subst (λ (q : Stay). LeadsSo b c.args.release.now q.page)
    (sym (get_or_from_slice_get c.args.stays.now c.args.row stay _ at)) leads)
