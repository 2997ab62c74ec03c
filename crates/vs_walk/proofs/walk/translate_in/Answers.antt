use Rattle.std.proofs.Common.{◌-◌, sym, ap, ◌∙◌, arith}
use Rattle.vs_walk.specs.InFormat.{walk_from_in}
use Rattle.vs_walk.proofs.InFormat.{met_in, missing_in, nowhere_in}
use Rattle.vs_walk.proofs.walk.translate_in.Goals as goal

pub loop-level-init : goal.loop-level-init
loop-level-init g c =
    let f = g.E.EntryFormat.format c.args.format in
    let memory = g.F.Frames.memory c.args.frames.now in
    record {
      few = omega (arith, c.levels-level.ensures);
      same = ap (λ level. walk_from_in f memory level c.args.root f.all c.args.address) (sym c.levels-level.ensures)
          ∙ ap (λ rights. walk_from_in f memory c.levels-level.result c.args.root rights c.args.address) (sym c.all-rights.ensures);
    }

pub returns-in_default : goal.returns-in_default
returns-in_default g c =
    sym (c.loop-level.invariant.same ∙ missing_in _ _ _ _ _ _ c.loop-level-test.true (sym c.words.ensures ∙ c.in_default.is))

pub returns-in-Absent : goal.returns-in-Absent
returns-in-Absent g c =
    sym (c.loop-level.invariant.same
    ∙ met_in _ _ _ _ _ _ _ _ _ _ c.loop-level-test.true (sym c.words.ensures ∙ c.in-Some.is) c.index_at.ensures.is c.word.ensures c.in-Absent.ensures)

pub returns-in-Reserved : goal.returns-in-Reserved
returns-in-Reserved g c =
    sym (c.loop-level.invariant.same
    ∙ met_in _ _ _ _ _ _ _ _ _ _ c.loop-level-test.true (sym c.words.ensures ∙ c.in-Some.is) c.index_at.ensures.is c.word.ensures c.in-Reserved.ensures)

pub returns-in-Leaf : goal.returns-in-Leaf
returns-in-Leaf g c =
    rw (
      c.entry_bytes.ensures.is,
      c.at_level.ensures,
      c.both.ensures,
    )
    (sym (c.loop-level.invariant.same
    ∙ met_in _ _ _ _ _ _ _ _ _ _ c.loop-level-test.true (sym c.words.ensures ∙ c.in-Some.is) c.index_at.ensures.is c.word.ensures c.in-Leaf.ensures))

pub loop-level-preserved : goal.loop-level-preserved
loop-level-preserved g c =
    let f = g.E.EntryFormat.format c.args.format in
    let memory = g.F.Frames.memory c.args.frames.now in
    record {
      few = omega (arith, c.loop-level.invariant.few);
      same = c.loop-level.invariant.same
          ∙ met_in _ _ _ _ _ _ _ _ _ _ c.loop-level-test.true (sym c.words.ensures ∙ c.in-Some.is) c.index_at.ensures.is c.word.ensures c.in-Table.ensures
          ∙ ap (λ rights. walk_from_in f memory (c.loop-level.level - 1) c.in-Table.next rights c.args.address) (sym c.both-rights.ensures);
    }

pub returns : goal.returns
returns g c =
    let f = g.E.EntryFormat.format c.args.format in
    let memory = g.F.Frames.memory c.args.frames.now in
    sym (c.loop-level.invariant.same
    ∙ ap (λ level. walk_from_in f memory level c.loop-level.number c.loop-level.rights c.args.address) (omega (arith, c.loop-level-test.false))
    ∙ nowhere_in _ _ _ _ _)
