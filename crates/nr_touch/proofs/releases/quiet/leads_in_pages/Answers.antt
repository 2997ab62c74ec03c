use Rattle.std.proofs.Common.{ℕ, List, Contains, sym, ap, subst, arith}
use denote.Ref.{Bor}
use Rattle.std.specs.Map.Iter.{deref}
use Rattle.std.proofs.lemmas.Map.Iter.{iter_end}
use Rattle.vs_types.proofs.Pages.{bytes_positive}
use Rattle.nr_touch.proofs.IndexedPages.{roomy_page}
use Rattle.nr_touch.proofs.IndexRows.{one_more, row_found}
use Rattle.nr_touch.proofs.QuietRows.{none_begins, none_leads, NoneFrom}
use Rattle.nr_touch.proofs.Sighted.{map_contains}
use Rattle.nr_touch.proofs.releases.quiet.leads_in_pages.Goals as goal

pub returns-then-leads_there-clause-sound : goal.returns-then-leads_there-clause-sound
returns-then-leads_there-clause-sound c = λ b t. (_, c.leads_there.ensures.sound b c.if-leads_there.true)

pub loop-row-preserved-else-leads_there : goal.loop-row-preserved-else-leads_there
loop-row-preserved-else-leads_there c =
    one_more (λ (row : Bor (ℕ × ℕ)). NoneFrom c.args.joined.now c.args.release.now row.now.1) c.loop-row.yielded c.in-Some.row c.loop-row.invariant
    (none_leads c.args.joined.now c.args.release.now c.in-Some.row.now.1 c.page_from.result c.page_from.ensures.is c.in-Some-page_from.page
    c.leads_there.result c.in-Some-page_from.is c.if-leads_there.false c.leads_there.ensures.whole)

pub loop-row-preserved : goal.loop-row-preserved
loop-row-preserved c =
    one_more (λ (row : Bor (ℕ × ℕ)). NoneFrom c.args.joined.now c.args.release.now row.now.1) c.loop-row.yielded c.in-Some.row c.loop-row.invariant
    (none_begins c.args.joined.now c.args.release.now c.in-Some.row.now.1 c.page_from.result c.page_from.ensures.is c.in_default.not-Some)

pub returns-clause-whole : goal.returns-clause-whole
returns-clause-whole c = λ b page holds indexed of leads.
    let block = c.args.block in
    let found = c.range-row-items.result in
    let room = (roomy_page c.requires.built.is_space page holds).ends in
    let some = bytes_positive page.size in
    let there : Contains found (block, page.base) =
    row_found c.args.index.now.rows found c.new.result.start c.new.result.end block 0 page.base 18446744073709551615 c.new.ensures.start c.new.ensures.end
    (c.range-row-items.ensures.between c.new.ensures.exhausted) (omega arith) (omega (arith, room, some)) (indexed block of) in
    let all = iter_end deref found c.loop-row.yielded _ _ _ _ c.into_iter-row-iterator.ensures.into_iter_gives c.loop-row.yielded_by c.in-None.is
    c.next.ensures.steps in
    let (row, has, same) = map_contains deref c.loop-row.yielded (block, page.base)
    (subst (λ (rows : List (ℕ × ℕ)). Contains rows (block, page.base)) (sym all.0) there) in
    absurd (c.loop-row.invariant row has b page holds (sym (ap (λ (q : ℕ × ℕ). q.1) same)) leads)
