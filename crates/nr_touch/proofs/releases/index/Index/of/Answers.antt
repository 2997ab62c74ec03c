use Rattle.std.proofs.Common.{◌≡◌, List, Contains, map-id, sym, ◌∙◌, subst}
use Rattle.std.proofs.lemmas.Iterator.Consumers.{YieldsList-end, YieldsList-from_first}
use Rattle.vs_types.specs.Space.{pages}
use Rattle.vs_types.specs.declared.addresses.page.Page.{Page}
use Rattle.vs_types.proofs.Spaces.{holds_listed}
use Rattle.nr_touch.specs.inside.Indexed.{IsIndexed}
use Rattle.nr_touch.proofs.IndexRows.{one_more}
use Rattle.nr_touch.proofs.releases.index.Index.of.Goals as goal

pub loop-page-preserved : goal.loop-page-preserved
loop-page-preserved c = one_more (λ (page : Page). IsIndexed c.note.new.self page) c.loop-page.yielded c.in-Some.page
    (λ page has. c.in_ok-note.ensures.others page page.base (c.loop-page.invariant page has)) c.in_ok-note.ensures.own

pub returns : goal.returns
returns c = λ page holds.
    let space = c.args.space.now in
    let listed = c.iter-page-items.ensures.lists in
    let begun = c.into_iter-page-iterator.ensures in
    let ended = YieldsList-end (YieldsList-from_first (λ (page : Page). page) (λ (left : List Page). left) (pages space.space) (cc))
    c.loop-page.yielded _ c.loop-page.yielded_by _ _ c.in-None.is c.next.ensures.steps in
    let all : c.loop-page.yielded ≡ pages space.space = sym (map-id c.loop-page.yielded) ∙ ended.0 in
    c.loop-page.invariant page (subst (λ (found : List Page). Contains found page) (sym all) ((holds_listed c.iter-page-items.ensures.apart page).1 holds))
