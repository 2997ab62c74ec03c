use Rattle.std.proofs.Common.{◌≡◌, ℕ, ◌+◌, ◌<◌, ◌≤◌, ◌%◌, arith, List, [], ◌∷◌, ◌++◌, slice_index, sym, ap, ◌∙◌, subst}
use Rattle.vs_types.specs.Entry.{size_at}
use Rattle.vs_types.specs.Page.{bytes_of}
use Rattle.vs_types.specs.declared.addresses.page.Size.{Size}
use Rattle.vs_plan.specs.declared.plans.plan.Flush.TheVariants as flushes
use Rattle.vs_types.specs.Bits.{bits_in, flagged, page_word}
use Rattle.vs_plan.specs.Changes.{larger, not_over}
use Rattle.vs_plan.specs.Answered.{IsLike}
use Rattle.vs_plan.specs.inside.Ended.{IsFirstUnlike}
use Rattle.vs_plan.proofs.Collapsing.{refused_right, less_right, pinned_right, unlike_right, collapse_right}
use Rattle.vs_plan.proofs.Asking.{read_leaf, inside_right}
use Rattle.vs_plan.proofs.Parts.{only_store}
use Rattle.vs_plan.proofs.plans.planner.Planner.plan_collapse.Goals as goal

pub returns-in_default : goal.returns-in_default
returns-in_default g c = λ memory ended there space premise. c.plan_absent.ensures memory ended space premise

pub returns-then-offset-ne0 : goal.returns-then-offset-ne0
returns-then-offset-ne0 g c = λ memory ended there space premise.
    inside_right c.requires.end (read_leaf c.args.self.now.level c.new.ensures c.read.ensures c.in-Leaf.is) c.requires.request tt
    (c.bytes.ensures ∙ ap bytes_of c.at_level-size.ensures) c.if-offset-ne0.true c.nothing.result c.nothing.ensures memory ended space premise

pub returns-in-Some : goal.returns-in-Some
returns-in-Some g c = λ memory ended there space premise.
    refused_right c.requires.end (read_leaf c.args.self.now.level c.new.ensures c.read.ensures c.in-Leaf.is) c.requires.request
    (subst (λ n. c.args.base % n ≡ 0) (c.bytes.ensures ∙ ap bytes_of c.at_level-size.ensures) c.if-offset-ne0.false)
    (ap (not_over c.args.base c.args.phys c.args.self.now.target.phys_bits) (sym c.at_level-size.ensures) ∙ sym c.not_over.ensures.is ∙ c.in-Some.is)
    c.nothing-in-Some.result c.nothing-in-Some.ensures memory ended space premise

pub returns-then-not-permits : goal.returns-then-not-permits
returns-then-not-permits g c = λ memory ended there space premise.
    less_right c.requires.end (read_leaf c.args.self.now.level c.new.ensures c.read.ensures c.in-Leaf.is) c.requires.request
    (subst (λ n. c.args.base % n ≡ 0) (c.bytes.ensures ∙ ap bytes_of c.at_level-size.ensures) c.if-offset-ne0.false)
    (ap (not_over c.args.base c.args.phys c.args.self.now.target.phys_bits) (sym c.at_level-size.ensures) ∙ sym c.not_over.ensures.is
    ∙ c.in_default-not_over.is)
    (c.permits.ensures.less c.if-not-permits.true) c.nothing-then-not-permits.result c.nothing-then-not-permits.ensures memory ended space premise

pub returns-then-self-highest_link : goal.returns-then-self-highest_link
returns-then-self-highest_link g c = λ memory ended there space premise.
    pinned_right c.requires.end (read_leaf c.args.self.now.level c.new.ensures c.read.ensures c.in-Leaf.is) c.requires.request
    (subst (λ n. c.args.base % n ≡ 0) (c.bytes.ensures ∙ ap bytes_of c.at_level-size.ensures) c.if-offset-ne0.false)
    (ap (not_over c.args.base c.args.phys c.args.self.now.target.phys_bits) (sym c.at_level-size.ensures) ∙ sym c.not_over.ensures.is
    ∙ c.in_default-not_over.is)
    (omega (arith, c.highest_link.ensures.is, c.if-self-highest_link.true)) c.nothing-then-self-highest_link.result
    c.nothing-then-self-highest_link.ensures memory ended space premise

pub returns-in-Some-first_unlike : goal.returns-in-Some-first_unlike
returns-in-Some-first_unlike g c =
    unlike_right c.requires.end (read_leaf c.args.self.now.level c.new.ensures c.read.ensures c.in-Leaf.is) c.requires.request
    (subst (λ n. c.args.base % n ≡ 0) (c.bytes.ensures ∙ ap bytes_of c.at_level-size.ensures) c.if-offset-ne0.false)
    (ap (not_over c.args.base c.args.phys c.args.self.now.target.phys_bits) (sym c.at_level-size.ensures) ∙ sym c.not_over.ensures.is
    ∙ c.in_default-not_over.is)
    (g.W.FrameWords.words c.args.words.now) c.in-Some-first_unlike.index
    (subst (λ z. IsFirstUnlike c.args.word (g.W.FrameWords.words c.args.words.now) z c.in-Some-first_unlike.index) c.at_level-size.ensures
    c.in-Some-first_unlike.ensures.first)
    c.nothing-in-Some-first_unlike.result c.nothing-in-Some-first_unlike.ensures

pub returns : goal.returns
returns g c =
    let size = c.at_level-size.ensures in
    let p = c.args.self.now in
    let larger_is : c.larger.result ≡ larger (size_at p.level) = c.larger.ensures ∙ ap larger size in
    let bits_are : c.bits_in.result ≡ bits_in (size_at p.level) c.args.word = c.bits_in.ensures.is ∙ ap (λ z. bits_in z c.args.word) size in
    let bits_new : c.bits_in-2.result ≡ bits_in (size_at p.level) c.args.word = c.bits_in-2.ensures.is ∙ ap (λ z. bits_in z c.args.word) size in
    let new_is : c.page_word.result
    ≡ page_word (record { base = c.args.base; size = larger (size_at p.level); rights = c.args.rights; phys = c.args.phys })
    (flagged (bits_in (size_at p.level) c.args.word)) =
    c.page_word.ensures.written
    ∙ ap (λ (z : Size). page_word (record { base = c.args.base; size = z; rights = c.args.rights; phys = c.args.phys }) c.flagged.result) larger_is
    ∙ ap (page_word (record { base = c.args.base; size = larger (size_at p.level); rights = c.args.rights; phys = c.args.phys }))
    (c.flagged.ensures.is ∙ ap flagged bits_new) in
    collapse_right c.requires.end (read_leaf p.level c.new.ensures c.read.ensures c.in-Leaf.is) c.requires.request
    (subst (λ n. c.args.base % n ≡ 0) (c.bytes.ensures ∙ ap bytes_of size) c.if-offset-ne0.false)
    (ap (not_over c.args.base c.args.phys p.target.phys_bits) (sym size) ∙ sym c.not_over.ensures.is ∙ c.in_default-not_over.is)
    (c.permits.ensures.all c.if-not-permits.false)
    (omega (arith, c.highest_link.ensures.is, c.if-self-highest_link.false)) (g.W.FrameWords.words c.args.words.now)
    (subst (λ z. (i : ℕ) → 1 ≤ i → i < 512 → IsLike z c.args.word (slice_index (g.W.FrameWords.words c.args.words.now) i)) size
    c.in_default-first_unlike.ensures.none)
    c.intersection.ensures bits_are (omega arith)
    c.nothing-plan.ensures.reply_is c.nothing-plan.ensures.bits_are c.nothing-plan.ensures.fill
    (c.push.ensures.items ∙ only_store c.nothing-plan.result.stores.items c.nothing-plan.ensures.stores (slice_index p.numbers (p.level + 1))
    (slice_index p.words (p.level + 1)) c.index_at.ensures.is new_is)
    (ap (flushes.Range c.args.base) larger_is)
    (c.push-2.ensures.items ∙ ap (λ (xs : List ℕ). xs ++ p.number ∷ []) c.nothing-plan.ensures.unlinked)
