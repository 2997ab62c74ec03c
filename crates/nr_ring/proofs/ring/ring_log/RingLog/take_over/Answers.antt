use Rattle.std.proofs.Common.{rules, ◌++◌, ap, sym, subst, refl, ◌∙◌}
use Rattle.nr_ring.specs.Pass.{Known}
use Rattle.nr_ring.specs.View.{StartsWith}
use Rattle.nr_ring.specs.declared.ring.view.View.{View}
use Rattle.nr_ring.specs.inside.Gathering.{owner_of}
use Rattle.nr_ring.proofs.Gathers.{Apart, existing_recalls, gather_merges, gathered_is, owner_forks}
use Rattle.nr_ring.proofs.ring.ring_log.RingLog.take_over.Goals as goal

pub meet_as-requires : goal.meet_as-requires
meet_as-requires g c =
    let own = c.args.owner.now.view in
    let its = c.other.inside.inner.view in
    let same = ap (λ (k : Known). k.view) c.other.view_is in
    let Begins : View → Type 0 = λ v. StartsWith own.seen v.seen in
    let begins = subst Begins (sym same) c.requires.seen in (
      search rules,
      (
        search rules,
        (
          search rules,
          (
            owner_forks _ _ _ _ _ its,
            ((λ part. gather_merges _ _ _ _ _ _ own (owner_of its) begins refl), λ words further. existing_recalls _ _ _ _ _ _ words),
          ),
        ),
      ),
    )

pub returns-clause-seen : goal.returns-clause-seen
returns-clause-seen g c =
    let own = c.args.owner.now.view in
    let its = c.other.inside.inner.view in
    ap (λ (v : View). v.seen) (c.meet_as.ensures.rule.1 ∙ (gathered_is own (owner_of its) c.meet_as.ensures.rule.0).1)

pub returns-clause-owns : goal.returns-clause-owns
returns-clause-owns g c =
    let own = c.args.owner.now.view in
    let its = c.other.inside.inner.view in
    ap (λ (v : View). v.owns) (c.meet_as.ensures.rule.1 ∙ (gathered_is own (owner_of its) c.meet_as.ensures.rule.0).1)
    ∙ ap (λ (k : Known). own.owns ++ k.view.owns) c.other.view_is

pub returns-clause-apart : goal.returns-clause-apart
returns-clause-apart g c =
    let own = c.args.owner.now.view in
    let its = c.other.inside.inner.view in
    let P : Known → Type 0 = λ k. Apart own.owns k.view.owns in
    subst P c.other.view_is (gathered_is own (owner_of its) c.meet_as.ensures.rule.0).0
