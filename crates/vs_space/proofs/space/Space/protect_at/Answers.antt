use Rattle.std.proofs.Common.{◌≢◌, Some, refl, sym, ap, subst, ◌∙◌}
use Rattle.vs_types.specs.Depth.{IsCanonical}
use Rattle.vs_types.specs.Page.{level_of}
use Rattle.vs_space.specs.Held.{Held, word_at, with_word}
use Rattle.vs_space.specs.Table.{PageTable}
use Rattle.vs_space.specs.Invariant.{IsPageTable, table_in_store}
use Rattle.vs_space.proofs.Numbered.{held}
use Rattle.vs_space.proofs.Meets.{descended, ended_inside, used_met, leaf_again, protect_absent, protect_in, protected, seen}
use Rattle.vs_space.proofs.Presents.{present_word, some_word}
use Rattle.vs_space.proofs.space.Space.protect_at.Goals as goal

pub read_written-requires-clause-written : goal.read_written-requires-clause-written
read_written-requires-clause-written g c = c.requires.ended.written

pub returns-in_default : goal.returns-in_default
returns-in_default g c =
    let descent = descended refl (sym c.read_written.ensures) c.requires.ended.descent in
    protect_absent c.requires.ended.table c.requires.base.canonical descent c.in_default.not-Leaf c.args.rights

pub returns-then-offset-ne0 : goal.returns-then-offset-ne0
returns-then-offset-ne0 g c =
    let descent = descended refl (sym c.in-Leaf.ensures) c.requires.ended.descent in
    protect_in c.requires.ended.table c.requires.base.canonical descent c.at_level-size.ensures c.bytes.ensures c.if-offset-ne0.true c.args.rights

pub leaf-leaf-requires-clause-aligned : goal.leaf-leaf-requires-clause-aligned
leaf-leaf-requires-clause-aligned g c =
    let descent = descended refl (sym c.in-Leaf.ensures) c.requires.ended.descent in
    (leaf_again c.requires.ended.table c.requires.base.canonical descent c.at_level-size.ensures).1

pub leaf-leaf-requires-clause-in_range : goal.leaf-leaf-requires-clause-in_range
leaf-leaf-requires-clause-in_range g c =
    let descent = descended refl (sym c.in-Leaf.ensures) c.requires.ended.descent in
    (leaf_again c.requires.ended.table c.requires.base.canonical descent c.at_level-size.ensures).2

pub write-requires-clause-in_use : goal.write-requires-clause-in_use
write-requires-clause-in_use g c =
    let ended = ended_inside c.self.view_is c.requires.ended in
    used_met c.self.invariant.0 ended.descent ended.last

pub write-requires-clause-present : goal.write-requires-clause-present
write-requires-clause-present g c =
    let ended = ended_inside c.self.view_is c.requires.ended in
    let found = (descended refl (sym c.in-Leaf.ensures) ended.descent).is in
    subst (λ n. word_at c.self.inside.tables.memory n c.index_at.result ≢ Some 0) (sym ended.last)
    (present_word _ _ _ c.args.base found (λ none. cc) c.index_at.ensures.is)

pub write-requires-clause-some : goal.write-requires-clause-some
write-requires-clause-some g c = some_word (level_of c.at_level-size.result) c.leaf-leaf.ensures.read_back (λ none. cc)

pub invariant_of-self : goal.invariant_of-self
invariant_of-self g c =
    let inside = c.self.inside in
    let canonical = subst (λ (t : PageTable). IsCanonical t.depth c.args.base) (sym c.self.view_is) c.requires.base.canonical in
    let ended = ended_inside c.self.view_is c.requires.ended in
    let descent = descended refl (sym c.in-Leaf.ensures) ended.descent in
    let written = c.write.ensures.written ∙ ap
    (λ n. held inside.tables.lenders inside.tables.base inside.tables.limit (with_word inside.tables.memory n c.index_at.result c.leaf-leaf.result))
    ended.last in (
      subst (λ (h : Held). IsPageTable (table_in_store inside.depth h inside.root)) (sym written)
          (protected c.self.invariant.0 canonical descent c.at_level-size.ensures c.bytes.ensures c.requires.base.aligned
          c.leaf-leaf.ensures.read_back c.leaf-leaf.ensures.written c.index_at.ensures.is c.if-offset-ne0.false).0,
      c.write.ensures.numbers,
    )

pub returns : goal.returns
returns g c =
    let inside = c.self.inside in
    let canonical = subst (λ (t : PageTable). IsCanonical t.depth c.args.base) (sym c.self.view_is) c.requires.base.canonical in
    let ended = ended_inside c.self.view_is c.requires.ended in
    let descent = descended refl (sym c.in-Leaf.ensures) ended.descent in
    let written = c.write.ensures.written ∙ ap
    (λ n. held inside.tables.lenders inside.tables.base inside.tables.limit (with_word inside.tables.memory n c.index_at.result c.leaf-leaf.result))
    ended.last in
    seen c.self.view_is written
    (protected c.self.invariant.0 canonical descent c.at_level-size.ensures c.bytes.ensures c.requires.base.aligned
    c.leaf-leaf.ensures.read_back c.leaf-leaf.ensures.written c.index_at.ensures.is c.if-offset-ne0.false).1
