use Rattle.std.proofs.Common.{◌≡◌, map-id, string_bytes, subst, sym, ◌∙◌, List}
use Rattle.std.proofs.lemmas.Iterator.Consumers.{YieldsList-end, YieldsList-from_first}
use Rattle.std.proofs.lemmas.Result.{IfOk-weaker}
use Rattle.vs_types.specs.Space.{pages}
use Rattle.vs_types.specs.declared.addresses.page.Page.{Page}
use Rattle.audit_texts.specs.inside.Taking.{HasJoined}
use Rattle.audit_texts.proofs.Texts.{space_ends}
use Rattle.audit_texts.proofs.pages.printing.ranges_of_space.Goals as goal

pub returns-clause-text : goal.returns-clause-text
returns-clause-text c =
    let space = c.args.space.now in
    let listed = c.iter-page-items.ensures.lists in
    let begun = c.into_iter-page-iterator.ensures in
    let lines = c.loop-page.lines in
    let ended = YieldsList-end (YieldsList-from_first (λ (page : Page). page) (λ (left : List Page). left) (pages space.space) (cc))
    c.loop-page.yielded _ c.loop-page.yielded_by _ _ c.in-None.is c.next.ensures.steps in
    let all : c.loop-page.yielded ≡ pages space.space = sym (map-id c.loop-page.yielded) ∙ ended.0 in
    IfOk-weaker c.end.result _ _
    (λ text says. says (pages space.space)
    (subst (λ (ps : List Page). HasJoined (string_bytes lines.text) lines.open ps) all c.loop-page.invariant)
    (space_ends space.depth space.space c.iter-page-items.ensures.apart))
    c.end.ensures
