use Rattle.std.proofs.Common.{◌≡◌, ℕ, ⊎_elim, ap, subst, sym, ◌∙◌, arith}
use Rattle.std.specs.Prelude.{slice_index}
use Rattle.vs_types.specs.Entry.{rights_of}
use Rattle.vs_types.specs.declared.entries.entry.Meaning.TheVariants as entry
use Rattle.vs_plan.specs.Way.{IsWay}
use Rattle.nrvs_plan_c.specs.Kept.{depth_in, target_of}
use Rattle.vs_types.specs.Bits.{rights_at}
use Rattle.nrvs_plan_c.proofs.Walking.{frame_shown, way_begins, way_goes_on, word_shown}
use Rattle.nrvs_plan_c.proofs.walk.end_in.Goals as goal

pub loop-level-init : goal.loop-level-init
loop-level-init c =
    let ask = c.is_askable.ensures c.if-not-is_askable.false in (
      ⊎_elim (λ four. omega (arith, four)) (λ five. omega (arith, five)) ask.levels,
      ⊎_elim (λ four. omega (arith, four)) (λ five. omega (arith, five)) ask.levels,
      λ memory has. way_begins c.args.target.now.levels ask.levels _ c.all_allowed-allowed.ensures,
    )

pub loop-level-preserved : goal.loop-level-preserved
loop-level-preserved c =
    let before = c.loop-level.invariant in (
      omega (arith, c.loop-level-test.true),
      omega (arith, before.1),
      λ memory has. way_goes_on _ _ (before.2 memory has) before.0
          (word_shown memory c.loop-level.number c.loop-level.level c.args.address _ c.in-Some.words.now.word
          (frame_shown (target_of c.args.target.now) memory c.args.first c.loop-level.number c.args.frames.now has
          (c.are_within.ensures c.if-not-are_within.false)
          c.in-Some.words.now c.in-Some.ensures.there) c.index_at.ensures.is)
          (c.is_link.ensures.yes c.if-not-is_link.false c.loop-level.level (omega (arith, c.loop-level-test.true))
          ∙ ap (λ (n : ℕ). entry.Table n (rights_of (slice_index c.in-Some.words.now.word c.index_at.result))) (sym c.linked_frame-number.ensures))
          c.narrowed-allowed.ensures,
    )

pub returns-clause-end : goal.returns-clause-end
returns-clause-end c = λ memory has.
    let before = c.loop-level.invariant in
    let one : c.loop-level.level ≡ 1 = omega (arith, before.0, c.loop-level-test.false) in
    record {
      way = subst (λ l. IsWay (depth_in c.args.target.now.levels) memory c.args.target.now.root c.args.address l c.loop-level.number
          (rights_at c.loop-level.allowed)) one (before.2 memory has);
      index = c.index_at-index.ensures.is;
      word = word_shown memory c.loop-level.number 1 c.args.address _ c.in-Some-frame_at.last.now.word
          (frame_shown (target_of c.args.target.now) memory c.args.first c.loop-level.number c.args.frames.now has
          (c.are_within.ensures c.if-not-are_within.false)
          c.in-Some-frame_at.last.now c.in-Some-frame_at.ensures.there)
          c.index_at-index.ensures.is;
    }
