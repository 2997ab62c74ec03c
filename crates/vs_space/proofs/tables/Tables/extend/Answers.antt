use Rattle.std.proofs.Common.{◌≡◌, ◌-◌, Some, sym, ap, subst, ◌∙◌, arith}
use Rattle.std.specs.Prelude.{IsSome}
use Rattle.std.specs.FinMap as finite
use Rattle.vs_types.specs.Depth.{index_at}
use Rattle.vs_types.specs.Entry.{meaning}
use Rattle.vs_arena.specs.Store.{zeros}
use Rattle.vs_arena.proofs.Stores.{IsInUse-insert}
use Rattle.vs_walk.specs.Memory.{AreWhole}
use Rattle.vs_space.specs.Held.{Held, word_at, with_word}
use Rattle.vs_space.specs.inside.Grow.{IsExtended}
use Rattle.vs_space.proofs.Numbered.{same_but_memory}
use Rattle.vs_space.proofs.Extends.{extended_on}
use Rattle.vs_space.proofs.Presents.{some_word, word_as_taken, word_of_taken}
use Rattle.vs_space.proofs.tables.Tables.extend.Goals as goal

pub fill-requires-clause-in_use : goal.fill-requires-clause-in_use
fill-requires-clause-in_use g c =
    subst (λ (h : Held). IsSome (finite.get h.memory c.loop-level.number)) (sym c.in-Some.ensures.taken)
    (IsInUse-insert c.loop-level.self.memory c.in-Some.next zeros c.loop-level.number c.loop-level.invariant.extended.in_use)

pub fill-requires-clause-absent : goal.fill-requires-clause-absent
fill-requires-clause-absent g c =
    subst (λ (h : Held). word_at h.memory c.loop-level.number c.index_at.result ≡ Some 0) (sym c.in-Some.ensures.taken)
    (word_as_taken c.loop-level.self.memory c.loop-level.number c.in-Some.next c.index_at.result c.loop-level.invariant.extended.in_use
    c.in-Some.ensures.was_free ∙ ap (word_at c.loop-level.self.memory c.loop-level.number) c.index_at.ensures.is ∙ c.loop-level.invariant.absent)

pub fill-requires-clause-some : goal.fill-requires-clause-some
fill-requires-clause-some g c =
    some_word c.loop-level.level (ap (meaning c.loop-level.level) c.word.ensures
    ∙ c.table.ensures.read_back c.loop-level.level (omega (arith, c.requires.some_level, c.loop-level-test.true))) (λ none. cc)

pub loop-level-preserved : goal.loop-level-preserved
loop-level-preserved g c =
    let after = c.fill.ensures.written ∙ ap (λ (h : Held). let w : Held =
    record { base = h.base; limit = h.limit; memory = with_word h.memory c.loop-level.number c.index_at.result c.word.result; lenders = h.lenders } in w)
    c.in-Some.ensures.taken in
    let deep = c.loop-level-test.true in
    record {
      extended = subst (λ (h : Held). IsExtended c.args.self.now.memory h.memory c.args.address c.args.last c.args.from (c.loop-level.level - 1) c.in-Some.next)
          (sym after)
          (extended_on c.loop-level.invariant.extended (omega (arith, c.requires.some_level, deep)) c.loop-level.invariant.within c.in-Some.next
          c.in-Some.ensures.was_free (subst (λ (h : Held). AreWhole h.memory) c.in-Some.ensures.taken c.fill.ensures.whole)
          (ap (meaning c.loop-level.level) c.word.ensures ∙ c.table.ensures.read_back c.loop-level.level (omega (arith, c.requires.some_level, deep)))
          (c.word.ensures ∙ c.table.ensures.written) c.index_at.ensures.is);
      above = omega (arith, deep);
      within = omega (arith, c.loop-level.invariant.within);
      absent = subst (λ (h : Held). word_at h.memory c.in-Some.next (index_at (c.loop-level.level - 1) c.args.address) ≡ Some 0) (sym after)
          (word_of_taken c.loop-level.self.memory c.loop-level.number c.in-Some.next c.index_at.result c.word.result _
          c.loop-level.invariant.extended.in_use c.in-Some.ensures.was_free);
      same = same_but_memory c.args.self.now c.loop-level.self c.fill.new.self _ after c.loop-level.invariant.same;
    }
