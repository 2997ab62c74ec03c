use Rattle.std.proofs.Common.{◌≡◌, map-id, sym, ap, ◌∙◌, List}
use Rattle.std.proofs.lemmas.Iterator.Consumers.{YieldsList-end, YieldsList-from_first}
use Rattle.vs_types.specs.Space.{pages}
use Rattle.vs_types.specs.declared.addresses.page.Page.{Page}
use Rattle.audit_texts.specs.Listing.{page_lines}
use Rattle.audit_texts.proofs.pages.printing.lines_of_space.Goals as goal

pub returns-clause-text : goal.returns-clause-text
returns-clause-text c =
    let space = c.args.space.now in
    let listed = c.iter-page-items.ensures.lists in
    let begun = c.into_iter-page-iterator.ensures in
    let ended = YieldsList-end (YieldsList-from_first (λ (page : Page). page) (λ (left : List Page). left) (pages space.space) (cc))
    c.loop-page.yielded _ c.loop-page.yielded_by _ _ c.in-None.is c.next.ensures.steps in
    let all : c.loop-page.yielded ≡ pages space.space = sym (map-id c.loop-page.yielded) ∙ ended.0 in
    c.loop-page.invariant ∙ ap page_lines all
