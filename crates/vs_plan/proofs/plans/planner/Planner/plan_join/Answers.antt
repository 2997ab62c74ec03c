use Rattle.std.proofs.Common.{◌≡◌, ℕ, ◌<◌, ◌≤◌, ◌%◌, arith, List, [], ◌∷◌, ◌++◌, slice_index, sym, ap, ◌∙◌, subst}
use Rattle.vs_types.specs.Page.{bytes_of}
use Rattle.vs_plan.specs.declared.plans.plan.Flush.TheVariants as flushes
use Rattle.vs_plan.specs.declared.plans.plan.Store.{Store}
use Rattle.vs_types.specs.Bits.{bits_in}
use Rattle.vs_plan.specs.Changes.{larger, not_first}
use Rattle.vs_plan.specs.Answered.{Follows}
use Rattle.vs_plan.specs.inside.Ended.{IsFirstApart}
use Rattle.vs_plan.proofs.Joining.{first_right, pinned_right, apart_right, join_right}
use Rattle.vs_plan.proofs.Asking.{read_leaf, inside_right}
use Rattle.vs_plan.proofs.plans.planner.Planner.plan_join.Goals as goal

pub returns-in_default : goal.returns-in_default
returns-in_default g c = λ memory ended there space premise. c.plan_absent.ensures memory ended space premise

pub returns-then-offset-ne0 : goal.returns-then-offset-ne0
returns-then-offset-ne0 g c = λ memory ended there space premise.
    inside_right c.requires.end (read_leaf c.args.self.now.level c.new.ensures c.read.ensures c.in-Leaf.is) c.requires.request tt
    (c.bytes.ensures ∙ ap bytes_of c.at_level-size.ensures) c.if-offset-ne0.true c.nothing.result c.nothing.ensures memory ended space premise

pub returns-in-Some : goal.returns-in-Some
returns-in-Some g c = λ memory ended there space premise.
    first_right c.requires.end (read_leaf c.args.self.now.level c.new.ensures c.read.ensures c.in-Leaf.is) c.requires.request
    (subst (λ n. c.args.base % n ≡ 0) (c.bytes.ensures ∙ ap bytes_of c.at_level-size.ensures) c.if-offset-ne0.false) c.in-Some.reply
    (ap (not_first c.args.base c.in-Leaf.phys) (sym c.at_level-size.ensures) ∙ sym c.not_first.ensures.is ∙ c.in-Some.is)
    c.nothing-in-Some.result c.nothing-in-Some.ensures memory ended space premise

pub returns-in-Some-first_apart : goal.returns-in-Some-first_apart
returns-in-Some-first_apart g c =
    apart_right c.requires.end (read_leaf c.args.self.now.level c.new.ensures c.read.ensures c.in-Leaf.is) c.requires.request
    (subst (λ n. c.args.base % n ≡ 0) (c.bytes.ensures ∙ ap bytes_of c.at_level-size.ensures) c.if-offset-ne0.false)
    (ap (not_first c.args.base c.in-Leaf.phys) (sym c.at_level-size.ensures) ∙ sym c.not_first.ensures.is ∙ c.in_default-not_first.is)
    (g.W.FrameWords.words c.args.words.now) c.in-Some-first_apart.index
    (subst (λ z. IsFirstApart c.args.word (g.W.FrameWords.words c.args.words.now) z c.in-Some-first_apart.index) c.at_level-size.ensures
    c.in-Some-first_apart.ensures.first)
    c.nothing-in-Some-first_apart.result c.nothing-in-Some-first_apart.ensures

pub returns-then-self-highest_link : goal.returns-then-self-highest_link
returns-then-self-highest_link g c = λ memory ended there space premise.
    pinned_right c.requires.end (read_leaf c.args.self.now.level c.new.ensures c.read.ensures c.in-Leaf.is) c.requires.request
    (subst (λ n. c.args.base % n ≡ 0) (c.bytes.ensures ∙ ap bytes_of c.at_level-size.ensures) c.if-offset-ne0.false)
    (ap (not_first c.args.base c.in-Leaf.phys) (sym c.at_level-size.ensures) ∙ sym c.not_first.ensures.is ∙ c.in_default-not_first.is)
    (omega (arith, c.highest_link.ensures.is, c.if-self-highest_link.true)) c.nothing-then-self-highest_link.result
    c.nothing-then-self-highest_link.ensures memory ended space premise

pub returns : goal.returns
returns g c =
    let size = c.at_level-size.ensures in
    join_right c.requires.end (read_leaf c.args.self.now.level c.new.ensures c.read.ensures c.in-Leaf.is) c.requires.request
    (subst (λ n. c.args.base % n ≡ 0) (c.bytes.ensures ∙ ap bytes_of size) c.if-offset-ne0.false)
    (ap (not_first c.args.base c.in-Leaf.phys) (sym size) ∙ sym c.not_first.ensures.is ∙ c.in_default-not_first.is)
    (omega (arith, c.highest_link.ensures.is, c.if-self-highest_link.false)) (g.W.FrameWords.words c.args.words.now)
    (subst (λ z. (i : ℕ) → 1 ≤ i → i < 512 → Follows z c.args.word i (slice_index (g.W.FrameWords.words c.args.words.now) i)) size
    c.in_default-first_apart.ensures.none)
    c.intersection.ensures (c.bits_in.ensures.is ∙ ap (λ z. bits_in z c.args.word) size) c.whole_store.ensures
    c.nothing-plan.ensures.reply_is c.nothing-plan.ensures.bits_are c.nothing-plan.ensures.fill
    (c.push.ensures.items ∙ ap (λ (xs : List Store). xs ++ c.whole_store.result ∷ []) c.nothing-plan.ensures.stores)
    (ap (flushes.Range c.args.base) (c.larger.ensures ∙ ap larger size))
    (c.push-2.ensures.items ∙ ap (λ (xs : List ℕ). xs ++ c.args.self.now.number ∷ []) c.nothing-plan.ensures.unlinked)
