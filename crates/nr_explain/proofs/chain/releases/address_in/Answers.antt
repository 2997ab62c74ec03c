use Rattle.std.proofs.Common.{ℕ, Option, ap, subst, sym}
use Rattle.vs_types.specs.Space.{Space}
use Rattle.vs_plain.specs.Plain.{BoundedSpace}
use Rattle.nr_explain.specs.Progress.{run_in}
use Rattle.nr_explain.specs.ChainEvidence.{release_at}
use Rattle.nr_explain.specs.inside.Reading.{all_states}
use Rattle.nr_touch.specs.Releases.{FindsReached, IsLeastReached, IsReachable}
use Rattle.nr_touch.specs.Tails.{GoesOn}
use Rattle.nr_explain.proofs.Reaching.{is_reachable}
use Rattle.nr_explain.proofs.chain.releases.address_in.Goals as goal

pub unreachable-requires : goal.unreachable-requires
unreachable-requires c =
    let seen = all_states c.args.last.now in
    let segment = c.args.segment.now in
    let start = c.args.first.now.space in
    let show = c.requires.show in
    let here = ap (λ (s : BoundedSpace). s.space) c.in_ok-start.ensures in
    subst (λ (o : Option ℕ). FindsReached (run_in show.came) c.in_ok-start.start.space segment (release_at c.args.index c.args.given) o) c.in-None.is
    (c.in_ok-found.ensures show.came show.kept (subst (λ (s : Space). GoesOn (run_in show.came) segment s) (sym here) show.goes_on) show.clean)
    (subst (λ (s : Space). IsReachable (run_in show.came) s segment (release_at c.args.index c.args.given)) (sym here)
    (is_reachable seen start segment c.args.index c.args.given show c.requires.gives c.requires.done))

pub returns : goal.returns
returns c = λ came kept goes_on.
    let segment = c.args.segment.now in
    let here = ap (λ (s : BoundedSpace). s.space) c.in_ok-start.ensures in
    subst (λ (s : Space). IsLeastReached (run_in came) s segment (release_at c.args.index c.args.given) c.in-Some.address) here
    (subst (λ (o : Option ℕ). FindsReached (run_in came) c.in_ok-start.start.space segment (release_at c.args.index c.args.given) o) c.in-Some.is
    (c.in_ok-found.ensures came kept (subst (λ (s : Space). GoesOn (run_in came) segment s) (sym here) goes_on) c.requires.show.clean))
