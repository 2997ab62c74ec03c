use Rattle.std.proofs.Common.{◌≡◌, ap, sym, subst}
use Rattle.vs_types.specs.Space.{Space}
use Rattle.vs_plain.specs.Plain.{BoundedSpace}
use Rattle.nr_audit.specs.Start.{first_space}
use Rattle.nr_trace.specs.declared.refusals.fault.Fault.TheVariants.{Reachable}
use Rattle.nr_explain.specs.ChainEvidence.{IsShownRelease}
use Rattle.nr_explain.specs.inside.Firsts.{IsReleaseToShow, ShowsReachLeft}
use Rattle.nr_explain.specs.inside.Reading.{all_states, space_seen}
use Rattle.nr_explain.proofs.chain.explaining.explain_release.Goals as goal

pub begin-requires-clause-well : goal.begin-requires-clause-well
begin-requires-clause-well c = c.requires.well

pub wrong_release-requires-clause-show : goal.wrong_release-requires-clause-show
wrong_release-requires-clause-show c =
    subst (λ (s : Space). IsReleaseToShow (all_states c.args.last.now) s c.args.segment.now c.args.call)
    (sym (ap (λ (s : BoundedSpace). s.space) c.in_ok-first.ensures)) c.requires.release

pub returns-clause-shown : goal.returns-clause-shown
returns-clause-shown c =
    let last = all_states c.args.last.now in
    let segment = c.args.segment.now in
    let space : c.in_ok-first.first.space ≡ first_space (space_seen last) segment = ap (λ (s : BoundedSpace). s.space) c.in_ok-first.ensures in (
      ap Reachable (sym c.in_ok-wrong_release.ensures.event),
      subst (λ (s : Space). IsShownRelease s segment c.in_ok-wrong_release.field-0) space c.in_ok-wrong_release.ensures.is,
    )

pub returns-clause-left : goal.returns-clause-left
returns-clause-left c =
    let last = all_states c.args.last.now in
    let segment = c.args.segment.now in
    let wrong = c.in_ok-wrong_release.field-0 in
    subst (λ (s : Space). ShowsReachLeft last s segment wrong.call wrong.why) (ap (λ (s : BoundedSpace). s.space) c.in_ok-first.ensures)
    c.in_ok-wrong_release.ensures.left
