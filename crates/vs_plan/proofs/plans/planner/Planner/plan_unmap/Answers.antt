use Rattle.std.proofs.Common.{◌≡◌, ◌+◌, ◌-◌, ◌%◌, length, slice_index, ap, ◌∙◌, subst, arith}
use Rattle.vs_types.specs.Entry.{size_at}
use Rattle.vs_types.specs.Page.{bytes_of}
use Rattle.vs_types.specs.declared.requests.answer.Answer.TheVariants as answers
use Rattle.vs_walk.proofs.Walks.{few_levels}
use Rattle.vs_plan.specs.declared.plans.plan.Reply.TheVariants as replies
use Rattle.vs_types.specs.Bits.{bits_in}
use Rattle.vs_plan.proofs.Asking.{read_leaf, inside_right}
use Rattle.vs_plan.proofs.Unlinks.{cuts_more, cut_off_more, length-cuts, length-cut_off}
use Rattle.vs_plan.proofs.Unmapping.{flush_of, flush_more, unmap_right}
use Rattle.vs_plan.proofs.plans.planner.Planner.plan_unmap.Goals as goal

pub returns-then-offset-ne0 : goal.returns-then-offset-ne0
returns-then-offset-ne0 c =
    inside_right c.requires.end (read_leaf c.args.self.now.level c.new.ensures c.read.ensures c.in-Leaf.is) c.requires.request tt
    (c.bytes.ensures ∙ ap bytes_of c.at_level-size.ensures) c.if-offset-ne0.true c.nothing.result c.nothing.ensures

pub push-requires-in-loop-level : goal.push-requires-in-loop-level
push-requires-in-loop-level c =
    let self = c.args.self.now in
    let few = few_levels self.target.depth in
    let long : length c.loop-level.plan.unlinked.items ≡ c.loop-level.level - self.level =
    ap length c.loop-level.invariant.3 ∙ length-cut_off (slice_index self.numbers) (c.loop-level.level - self.level) self.level in
    (omega arith, omega (arith, few, long, c.requires.end.stop, c.requires.end.some, c.loop-level-test.true))

pub push-requires-in-loop-level-2 : goal.push-requires-in-loop-level-2
push-requires-in-loop-level-2 c =
    let self = c.args.self.now in
    let few = few_levels self.target.depth in
    let long : length c.loop-level.plan.stores.items ≡ 1 + (c.loop-level.level - self.level) =
    ap length c.loop-level.invariant.2
    ∙ omega (arith, length-cuts (slice_index self.numbers) (slice_index self.words) c.args.base (c.loop-level.level - self.level) self.level) in
    (omega arith, omega (arith, few, long, c.requires.end.stop, c.requires.end.some, c.loop-level-test.true))

pub loop-level-preserved : goal.loop-level-preserved
loop-level-preserved c =
    let self = c.args.self.now in
    let before = c.loop-level.invariant in (
      omega (arith, before.0),
      omega (arith, before.0, c.loop-level-test.true),
      c.push-in-loop-level-2.ensures.items
          ∙ cuts_more (slice_index self.numbers) (slice_index self.words) c.args.base self.level c.loop-level.level _ _ c.loop-level.plan.stores.items before.0
          before.2 c.index_at-in-loop-level.ensures.is,
      c.push-in-loop-level.ensures.items ∙ cut_off_more (slice_index self.numbers) self.level c.loop-level.level
          c.loop-level.plan.unlinked.items before.0 before.3,
      flush_more self.level c.loop-level.level c.args.base _ before.0,
      before.5,
      before.6,
      before.7,
    )

pub returns : goal.returns
returns c =
    let self = c.args.self.now in
    let level = self.level in
    let before = c.loop-level.invariant in
    let size = c.at_level-size.ensures in
    unmap_right c.requires.end (read_leaf level c.new.ensures c.read.ensures c.in-Leaf.is) c.requires.request
    (subst (λ n. c.args.base % n ≡ 0) (c.bytes.ensures ∙ ap bytes_of c.at_level-size.ensures) c.if-offset-ne0.false) c.loop-level.plan
    (c.loop-level.level - level) (omega (arith, before.0, before.1, c.loop-level-test.false))
    (before.5 ∙ c.nothing-plan.ensures.reply_is
    ∙ ap (λ s. replies.Answer (answers.Removed c.in-Leaf.phys s c.intersection.result)) size
    ∙ ap (λ r. replies.Answer (answers.Removed c.in-Leaf.phys (size_at level) r)) c.intersection.ensures)
    (before.6 ∙ c.nothing-plan.ensures.bits_are ∙ c.bits_in.ensures.is ∙ ap (λ s. bits_in s c.args.word) size)
    (before.7 ∙ c.nothing-plan.ensures.fill) before.2 (before.4 ∙ ap (flush_of (c.loop-level.level - level) c.args.base) size) before.3
