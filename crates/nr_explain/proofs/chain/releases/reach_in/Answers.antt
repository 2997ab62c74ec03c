use Rattle.std.proofs.Common.{ℕ, Option, refl, subst, sym}
use Rattle.nr_explain.specs.declared.chain.evidence.Reach.{Reach}
use Rattle.nr_explain.specs.inside.Firsts.{IsLeastSeen}
use Rattle.nr_explain.specs.inside.Reaches.{FindsReach}
use Rattle.nr_explain.specs.inside.Reading.{all_states, left_seen}
use Rattle.nr_explain.proofs.Reaching.{unreached}
use Rattle.nr_explain.proofs.chain.releases.reach_in.Goals as goal

pub unreachable-requires : goal.unreachable-requires
unreachable-requires c =
    let seen = all_states c.args.last.now in
    let show = c.requires.show in
    unreached (left_seen seen) c.args.first.now.space c.args.segment.now c.args.index c.args.given c.in_ok-address.address
    (subst (λ (o : Option Reach). FindsReach (left_seen seen) c.args.first.now.space c.args.segment.now c.args.index c.args.given c.in_ok-address.address o)
    c.in-None.is c.in_ok-found.ensures) show.came seen
    show.kept show.goes_on refl (c.in_ok-address.ensures show.came show.kept show.goes_on).from

pub returns : goal.returns
returns c =
    let seen = all_states c.args.last.now in
    let start = c.args.first.now.space in
    let segment = c.args.segment.now in
    let found = subst (λ (o : Option Reach). FindsReach (left_seen seen) start segment c.args.index c.args.given c.in_ok-address.address o)
    c.in-Some.is c.in_ok-found.ensures in record {
      of_it = found.0;
      least = subst (λ (a : ℕ). IsLeastSeen seen start segment c.args.index c.args.given a) (sym found.1) c.in_ok-address.ensures;
    }
