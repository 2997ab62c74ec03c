use Rattle.std.proofs.Common.{◌≡◌, refl, ap, sym, subst, lit<}
use Rattle.vs_types.specs.Space.{Space}
use Rattle.vs_plain.specs.Plain.{BoundedSpace}
use Rattle.nr_trace.specs.Faults.{HasDump, IsFirstFrom}
use Rattle.nr_trace.specs.declared.refusals.fault.Fault.TheVariants.{Differs}
use Rattle.nr_audit.specs.Start.{first_space}
use Rattle.nr_explain.specs.Evidence.{IsDifferenceFrom}
use Rattle.nr_explain.specs.ChainFacts.{IsOrigin}
use Rattle.nr_explain.specs.inside.Reading.{all_states, began_seen, space_seen}
use Rattle.nr_explain.proofs.Firsts.{first_within, well_within}
use Rattle.nr_explain.proofs.chain.explaining.explain_difference.Goals as goal

pub begin-requires-clause-well : goal.begin-requires-clause-well
begin-requires-clause-well c =
    well_within (space_seen (all_states c.args.last.now)) c.args.segment.now (Differs c.args.replica c.args.address) refl c.requires.first

pub difference-requires-clause-first : goal.difference-requires-clause-first
difference-requires-clause-first c =
    let before = space_seen (all_states c.args.last.now) in
    let segment = c.args.segment.now in
    subst (λ (s : Space). IsFirstFrom s segment (Differs c.args.replica c.args.address)) (sym (ap (λ (s : BoundedSpace). s.space) c.in_ok-first.ensures))
    (first_within before segment (Differs c.args.replica c.args.address) (lit< tt) c.requires.first)

pub returns : goal.returns
returns c =
    let last = all_states c.args.last.now in
    let segment = c.args.segment.now in
    let wrong = c.in_ok-wrong.wrong in
    let space : c.in_ok-first.first.space ≡ first_space (space_seen last) segment = ap (λ (s : BoundedSpace). s.space) c.in_ok-first.ensures in (
      (λ i. Differs (sym c.in_ok-wrong.ensures.replica i) (sym c.in_ok-wrong.ensures.address i)),
      subst (λ (s : Space). HasDump segment wrong.replica (IsDifferenceFrom s segment wrong)) space c.in_ok-wrong.ensures.is,
      subst (λ (s : Space). IsOrigin (began_seen last segment) s wrong.address c.origin_of-origin.result) space c.origin_of-origin.ensures,
    )
