use Rattle.std.proofs.Common.{◌≡◌, ℕ, suc, List, All, map, ap, sym, subst, ◌∙◌, arith}
use Rattle.nr_ring.specs.Pass.{AreApart, Known}
use Rattle.nr_ring.specs.View.{StartsWith}
use Rattle.nr_ring.specs.declared.ring.log_event.LogEvent.{LogEvent}
use Rattle.nr_ring.proofs.ring.ring_log.RingLog.gather.Goals as goal

abbrev owned_by : Known → List ℕ
owned_by pass = pass.view.owns

pub loop-other-init : goal.loop-other-init
loop-other-init g c =
    let rest = c.into_iter-other-iterator.ensures.into_iter_gives.0 in
    let same = c.first.view_is in
    let Of : List Known → Type 0 = λ l. All (λ pass. pass.log ≡ c.args.self.now) l in
    let Begins : List Known → Type 0 = λ l. All (λ pass. StartsWith c.first.inside.inner.view.seen pass.view.seen) l in
    let Begin : Known → Type 0 = λ k. All (λ pass. StartsWith k.view.seen pass.view.seen) c.args.others.items in
    let Apart : Known → Type 0 = λ k. AreApart k.view.owns (map owned_by c.args.others.items) in
    let Rest : List Known → Type 0 = λ l. AreApart c.first.inside.inner.view.owns (map owned_by l) in (
      ap (λ (k : Known). k.log) same ∙ c.requires.log.0,
      subst Of (sym rest) c.requires.log.1,
      subst Begins (sym rest) (subst Begin (sym same) c.requires.seen),
      λ apart. subst Apart same (subst Rest rest apart),
    )

pub take_over-requires : goal.take_over-requires
take_over-requires g c =
    let Begins : List Known → Type 0 = λ l. All (λ pass. StartsWith c.loop-other.owner.view.seen pass.view.seen) l in
    let Of : List Known → Type 0 = λ l. All (λ pass. pass.log ≡ c.args.self.now) l in (
      omega arith,
      (
        (c.loop-other.invariant.0, (subst Of c.in-Some.ensures.steps.0 c.loop-other.invariant.1) 0 c.in-Some.other (omega arith)),
        (subst Begins c.in-Some.ensures.steps.0 c.loop-other.invariant.2) 0 c.in-Some.other (omega arith),
      ),
    )

pub loop-other-preserved : goal.loop-other-preserved
loop-other-preserved g c =
    let is = c.loop-other.invariant in
    let steps = c.in-Some.ensures.steps.0 in
    let other = c.in-Some.other in
    let rest = c.next.new.self.rest.items in
    let taken = c.take_over.ensures in
    let owns = c.loop-other.owner.view.owns in
    let Of : List Known → Type 0 = λ l. All (λ pass. pass.log ≡ c.args.self.now) l in
    let Begins : List Known → Type 0 = λ l. All (λ pass. StartsWith c.loop-other.owner.view.seen pass.view.seen) l in
    let Begin : List LogEvent → Type 0 = λ seen. All (λ pass. StartsWith seen pass.view.seen) rest in
    let Apart : List Known → Type 0 = λ l. AreApart owns (map owned_by l) in
    let Owned : List ℕ → Type 0 = λ l. AreApart l (map owned_by rest) in
    let of = subst Of steps is.1 in
    let begins = subst Begins steps is.2 in (
      taken.log ∙ is.0,
      (λ k d lt. of (suc k) d (omega (arith, lt))),
      subst Begin (sym taken.seen) (λ k d lt. begins (suc k) d (omega (arith, lt))),
      λ apart. is.3 (subst Apart (sym steps) (taken.apart, subst Owned taken.owns apart)),
    )
