use Rattle.std.proofs.Common.{◌≡◌, [], Some, None, subst}
use Rattle.std.specs.Prelude.{IfOk, IfErr, OnOk}
use Rattle.vs_types.specs.Refusal.{IfRefused}
use Rattle.vs_walk.specs.Reached.{AreJust}
use Rattle.vs_walk.specs.Traversal.{first_fault_after, reached}
use Rattle.vs_walk.specs.inside.Traversed.{TakesFound}
use Rattle.vs_walk.proofs.InFormat.{same_traversal}
use Rattle.vs_walk.proofs.traversal.traverse.Goals as goal

pub returns-clause-pages : goal.returns-clause-pages
returns-clause-pages g c =
    let memory = g.F.Frames.memory c.args.frames.now in
    subst (λ ms. IfOk c.traverse_in.result
    (λ _. TakesFound (g.V.PageVisitor.HasTaken c.args.visitor.now) (g.V.PageVisitor.HasTaken c.traverse_in.new.visitor) ms))
    (same_traversal c.args.depth memory c.args.root) c.traverse_in.ensures.pages

pub returns-clause-faultless : goal.returns-clause-faultless
returns-clause-faultless g c =
    let memory = g.F.Frames.memory c.args.frames.now in
    subst (λ ms. OnOk c.traverse_in.result (first_fault_after memory [] ms ≡ None))
    (same_traversal c.args.depth memory c.args.root)
    c.traverse_in.ensures.faultless

pub returns-clause-reached : goal.returns-clause-reached
returns-clause-reached g c =
    let memory = g.F.Frames.memory c.args.frames.now in
    subst (λ ms. IfOk c.traverse_in.result (λ r. AreJust r (reached ms)))
    (same_traversal c.args.depth memory c.args.root) c.traverse_in.ensures.reached

pub returns-clause-first : goal.returns-clause-first
returns-clause-first g c =
    let memory = g.F.Frames.memory c.args.frames.now in
    subst (λ ms. IfErr c.traverse_in.result (IfRefused (λ fault. first_fault_after memory [] ms ≡ Some fault)))
    (same_traversal c.args.depth memory c.args.root) c.traverse_in.ensures.first
