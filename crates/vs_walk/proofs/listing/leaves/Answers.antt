use Rattle.std.proofs.Common.{◌≡◌, ◌<◌, List, [], Some, None, sym, ap, subst, ◌∙◌}
use Rattle.std.proofs.lemmas.Result.{err_from_is_err_and}
use Rattle.std.specs.List.{AllPairs}
use Rattle.vs_types.specs.Refusal.{IfRefused}
use Rattle.vs_types.specs.declared.addresses.page.Page.{Page}
use Rattle.vs_walk.specs.Reached.{AreJust}
use Rattle.vs_walk.specs.Traversal.{traversal, first_fault_after, found, reached}
use Rattle.vs_types.specs.Space.{page_covering}
use Rattle.vs_walk.specs.Laws.{as_found}
use Rattle.vs_walk.proofs.InFormat.{same_traversal}
use Rattle.vs_walk.proofs.LawsOfTraversals.{faultless_walk}
use Rattle.vs_walk.proofs.LawsOfRising.{pages_rise, bases_rise}
use Rattle.vs_walk.proofs.listing.leaves.Goals as goal

pub returns-clause-pages : goal.returns-clause-pages
returns-clause-pages g c =
    let memory = g.F.Frames.memory c.args.frames.now in
    let same = same_traversal c.args.depth memory c.args.root in
    c.of.ensures ∙ c.in_ok-leaves.ensures.pages ∙ ap found same

pub returns-clause-reached : goal.returns-clause-reached
returns-clause-reached g c =
    let memory = g.F.Frames.memory c.args.frames.now in
    let same = same_traversal c.args.depth memory c.args.root in
    subst (λ ms. AreJust c.in_ok-leaves.leaves.reached (reached ms)) same c.in_ok-leaves.ensures.reached

pub returns-clause-faultless : goal.returns-clause-faultless
returns-clause-faultless g c =
    let memory = g.F.Frames.memory c.args.frames.now in
    let same = same_traversal c.args.depth memory c.args.root in
    subst (λ ms. first_fault_after memory [] ms ≡ None) same c.in_ok-leaves.ensures.faultless

pub returns-clause-rising : goal.returns-clause-rising
returns-clause-rising g c whole =
    let memory = g.F.Frames.memory c.args.frames.now in
    let same = same_traversal c.args.depth memory c.args.root in
    let ps = found (traversal c.args.depth memory c.args.root) in
    let listed : c.of.result ≡ ps = c.of.ensures ∙ c.in_ok-leaves.ensures.pages ∙ ap found same in
    subst (AllPairs (λ p q. p.base < q.base)) (sym listed) (bases_rise ps (pages_rise c.args.depth memory c.args.root whole))

pub returns-clause-walked : goal.returns-clause-walked
returns-clause-walked g c whole address canonical =
    let memory = g.F.Frames.memory c.args.frames.now in
    let same = same_traversal c.args.depth memory c.args.root in
    let ps = found (traversal c.args.depth memory c.args.root) in
    let listed : c.of.result ≡ ps = c.of.ensures ∙ c.in_ok-leaves.ensures.pages ∙ ap found same in
    faultless_walk c.args.depth memory c.args.root address whole canonical
    (subst (λ ms. first_fault_after memory [] ms ≡ None) same c.in_ok-leaves.ensures.faultless)
    ∙ ap (λ (pages : List Page). as_found address (page_covering address pages)) (sym listed)

pub returns-in_err-leaves-clause-first : goal.returns-in_err-leaves-clause-first
returns-in_err-leaves-clause-first g c =
    let memory = g.F.Frames.memory c.args.frames.now in
    let p = err_from_is_err_and c.from_residual.result c.from_residual.ensures.1 in
    rw (p.1, p.2)
    (subst (λ ms. IfRefused (λ fault. first_fault_after memory [] ms ≡ Some fault) c.in_err-leaves.field-0.0)
    (same_traversal c.args.depth memory c.args.root) c.in_err-leaves.ensures.first)
