use Rattle.std.proofs.Common.{refl, sym, ◌∙◌, arith}
use Rattle.vs_walk.proofs.Walks.{few_levels}
use Rattle.vs_space.proofs.Descents.{at_root, all_root, goes_down, written_on_path, entry_read, stops, no_table}
use Rattle.vs_space.proofs.tables.Tables.descend_all.Goals as goal

pub loop-level-init : goal.loop-level-init
loop-level-init g c = at_root c.levels-level.ensures c.requires.within refl (all_root c.args.root)

pub loop-level-preserved : goal.loop-level-preserved
loop-level-preserved g c = goes_down c.loop-level.invariant c.requires.some_level
    (entry_read c.loop-level.level _ c.loop-level.number c.args.address c.word-word.ensures c.index_at.ensures.is c.in-Table.ensures)
    (λ e. c.if-level-lowest.false (sym e))

pub returns-then-level-lowest : goal.returns-then-level-lowest
returns-then-level-lowest g c = record {
  descent = stops c.loop-level.invariant
      (entry_read c.loop-level.level _ c.loop-level.number c.args.address c.word-word.ensures c.index_at.ensures.is refl)
      (λ deep. absurd (omega (arith, c.if-level-lowest.true, deep)));
  last = c.loop-level.invariant.last;
  written = written_on_path c.loop-level.invariant c.requires.tree c.requires.all_reached _ _ c.word-word.ensures;
  some_level = omega (arith, c.requires.some_level, c.loop-level.invariant.above);
  few_levels = omega (arith, c.loop-level.invariant.below, few_levels c.args.depth);
}

pub returns-in_default : goal.returns-in_default
returns-in_default g c = record {
  descent = stops c.loop-level.invariant
      (entry_read c.loop-level.level _ c.loop-level.number c.args.address c.word-word.ensures c.index_at.ensures.is refl)
      (λ deep. no_table _ (λ n own e. c.in_default.not-Table n own (c.read_written.ensures ∙ e)));
  last = c.loop-level.invariant.last;
  written = written_on_path c.loop-level.invariant c.requires.tree c.requires.all_reached _ _ c.word-word.ensures;
  some_level = omega (arith, c.requires.some_level, c.loop-level.invariant.above);
  few_levels = omega (arith, c.loop-level.invariant.below, few_levels c.args.depth);
}

pub read_written-requires-clause-written : goal.read_written-requires-clause-written
read_written-requires-clause-written g c = written_on_path c.loop-level.invariant c.requires.tree c.requires.all_reached _ _ c.word-word.ensures
