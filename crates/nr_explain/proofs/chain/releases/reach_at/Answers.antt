use Rattle.std.proofs.Common.{refl, ap, sym, subst, arith}
use Rattle.vs_types.specs.Space.{Space}
use Rattle.vs_types.specs.declared.requests.answer.Answer.{Answer}
use Rattle.vs_plain.specs.Plain.{BoundedSpace}
use Rattle.nr_explain.specs.ChainFacts.{IsTakenFrom, LeadsInto}
use Rattle.nr_explain.specs.Facts.{looks_from}
use Rattle.nr_explain.proofs.chain.releases.reach_at.Goals as goal

pub taken_from-requires-clause-within : goal.taken_from-requires-clause-within
taken_from-requires-clause-within c =
    let (low, below, looks, leads, later) = c.requires.found in
    omega (arith, below, c.requires.within)

pub taken_from-requires-clause-leads : goal.taken_from-requires-clause-leads
taken_from-requires-clause-leads c =
    let (low, below, looks, leads, later) = c.requires.found in
    subst (λ (s : Space). LeadsInto c.args.given (looks_from s c.args.segment.now c.args.address c.args.moment.entries))
    (sym (ap (λ (s : BoundedSpace). s.space) c.in_ok-space.ensures)) (subst (λ (look : Answer). LeadsInto c.args.given look) looks leads)

pub returns : goal.returns
returns c = record {
  taken = c.in_ok-taken.taken;
  is = refl;
  takes = subst (λ (s : Space). IsTakenFrom s c.args.segment.now c.args.address c.args.given c.args.moment.entries c.in_ok-taken.taken)
      (ap (λ (s : BoundedSpace). s.space) c.in_ok-space.ensures) c.in_ok-taken.ensures;
}
