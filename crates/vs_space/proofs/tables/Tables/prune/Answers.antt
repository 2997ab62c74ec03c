use Rattle.std.proofs.Common.{◌≡◌, ◌+◌, Some, sym, ap, subst, ◌∙◌, arith}
use Rattle.std.specs.Prelude.{slice_index}
use Rattle.std.specs.FinMap as finite
use Rattle.vs_types.specs.Depth.{levels}
use Rattle.vs_space.specs.Held.{Held}
use Rattle.vs_space.proofs.Numbered.{same_but_memory}
use Rattle.vs_space.proofs.Prunes.{IsPruning, pruned_by, something_here, pruning_on, in_use_here, emptied_written, leads_here, apart_above}
use Rattle.vs_space.proofs.Writes.{get_written_other}
use Rattle.vs_arena.specs.Store.{zeros}
use Rattle.vs_space.proofs.tables.Tables.prune.Goals as goal

pub returns-then-not-is_empty-clause-pruned : goal.returns-then-not-is_empty-clause-pruned
returns-then-not-is_empty-clause-pruned g c =
    let going = c.loop-level.invariant.pruning in
    pruned_by going.cut going (λ deep.
    something_here going.cut c.requires.canonical (λ b is_b reserved. c.requires.faultless b is_b (sym (going.walks b is_b) ∙ reserved))
    (omega (arith, c.loop-level-test.true, c.levels.ensures))
    (c.is_empty.ensures.present c.if-not-is_empty.true c.loop-level.level (emptied_written going.cut)))

pub is_empty-requires : goal.is_empty-requires
is_empty-requires g c = in_use_here c.loop-level.invariant.pruning.cut

pub clear-requires-clause-present : goal.clear-requires-clause-present
clear-requires-clause-present g c =
    leads_here c.loop-level.invariant.pruning.cut (omega (arith, c.loop-level-test.true, c.levels.ensures)) c.index_at.ensures.is

pub give-requires : goal.give-requires
give-requires g c =
    let emptied = slice_index c.args.path.now c.loop-level.level in
    subst (λ (h : Held). finite.get h.memory emptied ≡ Some zeros) (sym c.clear.ensures.written)
    (get_written_other c.loop-level.self.memory _ c.index_at.result 0 emptied
    (apart_above c.loop-level.invariant.pruning.cut (omega (arith, c.loop-level-test.true, c.levels.ensures)))
    ∙ c.is_empty.ensures.empty c.if-not-is_empty.false)

pub loop-level-preserved : goal.loop-level-preserved
loop-level-preserved g c =
    let root = slice_index c.args.path.now (levels c.args.depth) in
    let going = c.loop-level.invariant.pruning in
    let after = c.give.ensures.removed ∙ ap (λ (h : Held). let given : Held =
    record { base = h.base; limit = h.limit; memory = finite.remove h.memory (slice_index c.args.path.now c.loop-level.level); lenders = h.lenders } in given)
    c.clear.ensures.written in
    record {
      pruning = subst (λ (h : Held). IsPruning c.args.depth c.args.self.now.memory h.memory root c.args.address c.args.from
          (c.loop-level.level + 1) c.args.path.now) (sym after)
          (pruning_on going.cut (omega (arith, c.loop-level-test.true, c.levels.ensures)) (c.is_empty.ensures.empty c.if-not-is_empty.false)
          c.index_at.ensures.is going);
      same = same_but_memory c.args.self.now c.loop-level.self c.give.new.self _ after c.loop-level.invariant.same;
      numbers = c.give.ensures.numbers;
    }

pub returns-clause-pruned : goal.returns-clause-pruned
returns-clause-pruned g c =
    let going = c.loop-level.invariant.pruning in
    pruned_by going.cut going (λ deep. absurd (omega (arith, deep, c.loop-level-test.false, c.levels.ensures)))
