use Rattle.std.proofs.Common.{◌≡◌, IsTrue, inl, inr, sym, ◌∙◌, subst}
use Rattle.std.proofs.lemmas.Bool.{false≢true}
use Rattle.vs_types.specs.declared.addresses.page.Size.{Size}
use Rattle.vs_types.specs.declared.addresses.page.Size.TheVariants.{K4, M2, G1}
use Rattle.nr_touch.specs.inside.Blocks.{whole, IsBlockOf}
use Rattle.nr_touch.proofs.QuietRows.{block_met}
use Rattle.nr_touch.proofs.releases.reaching.leads.Goals as goal

pub returns-then-by_own-clause-sound : goal.returns-then-by_own-clause-sound
returns-then-by_own-clause-sound c = λ b t. c.in_ok-by_own.ensures.sound b c.if-by_own.true

pub returns-then-by_small-clause-sound : goal.returns-then-by_small-clause-sound
returns-then-by_small-clause-sound c = λ b t. c.in_ok-by_small.ensures.sound b c.if-by_small.true

pub returns-then-by_large-clause-sound : goal.returns-then-by_large-clause-sound
returns-then-by_large-clause-sound c = λ b t. c.in_ok-by_large.ensures.sound b c.if-by_large.true

pub returns-then-by_small-clause-known : goal.returns-then-by_small-clause-known
returns-then-by_small-clause-known c = λ b known. c.in_ok-by_small.ensures.known b (c.in_ok-by_own.ensures.known b known)

pub returns-then-by_large-clause-known : goal.returns-then-by_large-clause-known
returns-then-by_large-clause-known c = λ b known. c.in_ok-by_large.ensures.known b (c.in_ok-by_small.ensures.known b (c.in_ok-by_own.ensures.known b known))

pub returns-clause-known : goal.returns-clause-known
returns-clause-known c = λ b known. c.in_ok-by_huge.ensures.known b
    (c.in_ok-by_large.ensures.known b (c.in_ok-by_small.ensures.known b (c.in_ok-by_own.ensures.known b known)))

pub returns-then-by_small-clause-listed : goal.returns-then-by_small-clause-listed
returns-then-by_small-clause-listed c = λ b listed. c.in_ok-by_small.ensures.listed b (c.in_ok-by_own.ensures.listed b listed)

pub returns-then-by_large-clause-listed : goal.returns-then-by_large-clause-listed
returns-then-by_large-clause-listed c = λ b listed. c.in_ok-by_large.ensures.listed b
    (c.in_ok-by_small.ensures.listed b (c.in_ok-by_own.ensures.listed b listed))

pub returns-clause-listed : goal.returns-clause-listed
returns-clause-listed c = λ b listed. c.in_ok-by_huge.ensures.listed b
    (c.in_ok-by_large.ensures.listed b (c.in_ok-by_small.ensures.listed b (c.in_ok-by_own.ensures.listed b listed)))

pub returns-clause-whole : goal.returns-clause-whole
returns-clause-whole c = λ b page known listed from roomy.
    let release = c.args.release.now in
    let known_one = c.in_ok-by_own.ensures.known b known in
    let known_two = c.in_ok-by_small.ensures.known b known_one in
    let one = c.in_ok-by_own.ensures.listed b listed in
    let two = c.in_ok-by_small.ensures.listed b one in
    let (block, of, for) = block_met b c.args.reach.now.quiet c.args.reach.now.changed release page c.requires.memory roomy.frame from in
    elim for [
      | inl e ↦ absurd (false≢true (sym c.if-by_own.false ∙ c.in_ok-by_own.ensures.whole b page known listed from
          (subst (IsBlockOf page) (e ∙ sym c.around-own.ensures) of)))
      | inr sized ↦ elim sized.0 as (λ (size : Size). block ≡ whole release.phys size → IsTrue c.in_ok-by_huge.by_huge) [
        | K4 ↦ λ e. absurd (false≢true (sym c.if-by_small.false ∙ c.in_ok-by_small.ensures.whole b page known_one one from
            (subst (IsBlockOf page) (e ∙ sym c.whole-small.ensures) of)))
        | M2 ↦ λ e. absurd (false≢true (sym c.if-by_large.false ∙ c.in_ok-by_large.ensures.whole b page known_two two from
            (subst (IsBlockOf page) (e ∙ sym c.whole-large.ensures) of)))
        | G1 ↦ λ e. c.in_ok-by_huge.ensures.whole b page (c.in_ok-by_large.ensures.known b known_two) (c.in_ok-by_large.ensures.listed b two) from
            (subst (IsBlockOf page) (e ∙ sym c.whole-huge.ensures) of)
      ] sized.1
    ]
