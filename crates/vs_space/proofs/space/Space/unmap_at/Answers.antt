use Rattle.std.proofs.Common.{◌≢◌, ℕ, refl, sym, ap, subst, ◌∙◌}
use Rattle.std.specs.Prelude.{slice_index}
use Rattle.vs_types.specs.Depth.{levels, IsCanonical}
use Rattle.vs_walk.specs.Walk.{walk}
use Rattle.vs_walk.specs.declared.walk.Walk.TheVariants.{Reserved}
use Rattle.vs_space.specs.Held.{Held}
use Rattle.vs_space.specs.inside.Prune.{IsCut}
use Rattle.vs_space.specs.Table.{PageTable}
use Rattle.vs_space.specs.Invariant.{IsPageTable, table_in_store}
use Rattle.vs_space.proofs.Descents.{path_root}
use Rattle.vs_space.proofs.Meets.{descended, ended_inside, unmap_absent, unmap_in, seen}
use Rattle.vs_space.proofs.Presents.{present_word}
use Rattle.vs_space.proofs.Unmaps.{cut_here, pruned_here, unmapped}
use Rattle.vs_space.proofs.space.Space.unmap_at.Goals as goal

pub read_written-requires-clause-written : goal.read_written-requires-clause-written
read_written-requires-clause-written g c = c.requires.ended.written

pub returns-in_default : goal.returns-in_default
returns-in_default g c =
    unmap_absent c.requires.ended.table c.requires.base.canonical (descended refl (sym c.read_written.ensures) c.requires.ended.descent) c.in_default.not-Leaf

pub returns-then-offset-ne0 : goal.returns-then-offset-ne0
returns-then-offset-ne0 g c =
    let descent = descended refl (sym c.in-Leaf.ensures) c.requires.ended.descent in
    unmap_in c.requires.ended.table c.requires.base.canonical descent c.at_level-size.ensures c.bytes.ensures c.if-offset-ne0.true

pub clear-requires-clause-present : goal.clear-requires-clause-present
clear-requires-clause-present g c =
    let ended = ended_inside c.self.view_is c.requires.ended in
    present_word c.args.level _ _ c.args.base (descended refl (sym c.in-Leaf.ensures) ended.descent).is (λ none. cc) c.index_at.ensures.is

pub prune-stop-requires-clause-faultless : goal.prune-stop-requires-clause-faultless
prune-stop-requires-clause-faultless g c =
    let canonical = subst (λ (t : PageTable). IsCanonical t.depth c.args.base) (sym c.self.view_is) c.requires.base.canonical in
    let ended = ended_inside c.self.view_is c.requires.ended in
    let descent = descended refl (sym c.in-Leaf.ensures) ended.descent in
    subst (λ (h : Held). (b : ℕ) → IsCanonical c.self.inside.depth b
    → walk c.self.inside.depth h.memory (slice_index c.args.path.now (levels c.self.inside.depth)) b ≢ Reserved) (sym c.clear.ensures.written)
    (cut_here c.self.invariant.0 canonical descent c.index_at.ensures.is (path_root descent)).1

pub prune-stop-requires-clause-cut : goal.prune-stop-requires-clause-cut
prune-stop-requires-clause-cut g c =
    let canonical = subst (λ (t : PageTable). IsCanonical t.depth c.args.base) (sym c.self.view_is) c.requires.base.canonical in
    let ended = ended_inside c.self.view_is c.requires.ended in
    let descent = descended refl (sym c.in-Leaf.ensures) ended.descent in
    subst (λ (h : Held). IsCut c.self.inside.depth h.memory (slice_index c.args.path.now (levels c.self.inside.depth)) c.args.base
    c.args.level c.args.path.now) (sym c.clear.ensures.written)
    (cut_here c.self.invariant.0 canonical descent c.index_at.ensures.is (path_root descent)).0

pub invariant_of-self : goal.invariant_of-self
invariant_of-self g c =
    let canonical = subst (λ (t : PageTable). IsCanonical t.depth c.args.base) (sym c.self.view_is) c.requires.base.canonical in
    let ended = ended_inside c.self.view_is c.requires.ended in
    let descent = descended refl (sym c.in-Leaf.ensures) ended.descent in
    let pruned = pruned_here c.self.invariant.0 canonical descent (ap (λ (h : Held). h.memory) c.clear.ensures.written) c.index_at.ensures.is
    (path_root descent) c.prune-stop.ensures.pruned in
    let same = c.prune-stop.ensures.same
    ∙ ap (λ (h : Held). let r : Held = record { base = h.base; limit = h.limit; memory = c.prune-stop.new.self.memory; lenders = h.lenders } in r)
    c.clear.ensures.written in (
      subst (λ (h : Held). IsPageTable (table_in_store c.self.inside.depth h c.self.inside.root)) (sym same)
          (unmapped c.self.invariant.0 canonical descent pruned c.requires.base.aligned c.at_level-size.ensures c.bytes.ensures c.if-offset-ne0.false).0,
      c.prune-stop.ensures.numbers,
    )

pub returns : goal.returns
returns g c =
    let canonical = subst (λ (t : PageTable). IsCanonical t.depth c.args.base) (sym c.self.view_is) c.requires.base.canonical in
    let ended = ended_inside c.self.view_is c.requires.ended in
    let descent = descended refl (sym c.in-Leaf.ensures) ended.descent in
    let pruned = pruned_here c.self.invariant.0 canonical descent (ap (λ (h : Held). h.memory) c.clear.ensures.written) c.index_at.ensures.is
    (path_root descent) c.prune-stop.ensures.pruned in
    let same = c.prune-stop.ensures.same
    ∙ ap (λ (h : Held). let r : Held = record { base = h.base; limit = h.limit; memory = c.prune-stop.new.self.memory; lenders = h.lenders } in r)
    c.clear.ensures.written in
    seen c.self.view_is same
    (unmapped c.self.invariant.0 canonical descent pruned c.requires.base.aligned c.at_level-size.ensures c.bytes.ensures c.if-offset-ne0.false).1
