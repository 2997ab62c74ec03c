use Rattle.std.proofs.Common.{Option, ap, subst}
use Rattle.vs_types.specs.Space.{Space}
use Rattle.vs_plain.specs.Plain.{BoundedSpace}
use Rattle.nr_explain.specs.inside.Reaches.{FindsLeading}
use Rattle.nr_explain.specs.declared.chain.evidence.Moment.{Moment}
use Rattle.nr_explain.proofs.chain.releases.reach_within.Goals as goal

pub reach_at-requires-clause-found : goal.reach_at-requires-clause-found
reach_at-requires-clause-found c =
    subst (λ (o : Option Moment). FindsLeading c.args.first.now.space c.args.segment.now c.args.address c.args.window.first c.args.window.last c.args.given o)
    c.in-Some.is
    (subst (λ (s : Space). FindsLeading s c.args.segment.now c.args.address c.args.window.first c.args.window.last c.args.given c.in_ok-found.found)
    (ap (λ (s : BoundedSpace). s.space) c.in_ok-space.ensures) c.in_ok-found.ensures)

pub returns-in_default : goal.returns-in_default
returns-in_default c =
    subst (λ (o : Option Moment). FindsLeading c.args.first.now.space c.args.segment.now c.args.address c.args.window.first c.args.window.last c.args.given o)
    c.in_default.is
    (subst (λ (s : Space). FindsLeading s c.args.segment.now c.args.address c.args.window.first c.args.window.last c.args.given c.in_ok-found.found)
    (ap (λ (s : BoundedSpace). s.space) c.in_ok-space.ensures) c.in_ok-found.ensures)

pub returns : goal.returns
returns c = (
  c.in-Some.moment,
  subst (λ (o : Option Moment). FindsLeading c.args.first.now.space c.args.segment.now c.args.address c.args.window.first c.args.window.last c.args.given o)
      c.in-Some.is
      (subst (λ (s : Space). FindsLeading s c.args.segment.now c.args.address c.args.window.first c.args.window.last c.args.given c.in_ok-found.found)
      (ap (λ (s : BoundedSpace). s.space) c.in_ok-space.ensures) c.in_ok-found.ensures),
  c.in_ok-reach.ensures,
)
