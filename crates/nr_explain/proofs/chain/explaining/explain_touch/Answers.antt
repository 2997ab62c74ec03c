use Rattle.std.proofs.Common.{◌≡◌, ap, sym, subst}
use Rattle.vs_types.specs.Space.{Space}
use Rattle.vs_plain.specs.Plain.{BoundedSpace}
use Rattle.nr_audit.specs.Start.{first_space}
use Rattle.nr_trace.specs.declared.refusals.fault.Fault.TheVariants.{Stale}
use Rattle.nr_explain.specs.ChainEvidence.{IsStaleTouch}
use Rattle.nr_explain.specs.inside.Reading.{all_states, space_seen}
use Rattle.nr_explain.proofs.chain.explaining.explain_touch.Goals as goal

pub begin-requires-clause-well : goal.begin-requires-clause-well
begin-requires-clause-well c = c.requires.touch.well

pub returns-clause-shown : goal.returns-clause-shown
returns-clause-shown c =
    let last = all_states c.args.last.now in
    let segment = c.args.segment.now in
    let space : c.in_ok-first.first.space ≡ first_space (space_seen last) segment = ap (λ (s : BoundedSpace). s.space) c.in_ok-first.ensures in (
      ap Stale (sym c.in_ok-stale_touch.ensures.event),
      subst (λ (s : Space). IsStaleTouch s segment c.in_ok-stale_touch.field-0) space c.in_ok-stale_touch.ensures.is,
    )

pub returns-clause-left : goal.returns-clause-left
returns-clause-left c = c.in_ok-stale_touch.ensures.left
