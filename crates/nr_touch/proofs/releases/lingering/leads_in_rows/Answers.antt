use Rattle.std.proofs.Common.{ℕ, List, Contains, slice_get, sym, ap, ◌∙◌, subst, arith}
use denote.Ref.{Bor}
use Rattle.std.specs.Map.Iter.{deref}
use Rattle.std.proofs.lemmas.Bool.{false≢true}
use Rattle.std.proofs.lemmas.Map.Iter.{iter_end}
use Rattle.std.proofs.lemmas.Option.{slice_get_within}
use Rattle.vs_types.specs.declared.addresses.page.Page.{Page}
use Rattle.nr_touch.proofs.IndexRows.{one_more, row_found}
use Rattle.nr_touch.proofs.QuietRows.{NoneAt}
use Rattle.nr_touch.proofs.Sighted.{map_contains}
use Rattle.nr_touch.proofs.releases.lingering.leads_in_rows.Goals as goal

pub loop-row-preserved : goal.loop-row-preserved
loop-row-preserved c =
    one_more (λ (row : Bor (ℕ × ℕ)). NoneAt c.args.joined.now c.args.release.now c.args.lingering.now.pages.items row.now.1)
    c.loop-row.yielded c.in-Some.row c.loop-row.invariant (λ b page at leads. false≢true (sym c.if-leads_in_row.false ∙ c.leads_in_row.ensures.whole b page
    (ap (λ (xs : List Page). slice_get xs c.in-Some.row.now.1) c.deref.ensures.value ∙ at) leads))

pub returns-clause-whole : goal.returns-clause-whole
returns-clause-whole c = λ b page number at indexed of from leads.
    let block = c.args.block in
    let found = c.range-row-items.result in
    let pages = c.args.lingering.now.pages in
    let within = slice_get_within pages.items number page at in
    let there : Contains found (block, number) =
    row_found c.args.lingering.now.index.rows found c.new.result.start c.new.result.end block c.args.first number 18446744073709551615 c.new.ensures.start
    c.new.ensures.end (c.range-row-items.ensures.between c.new.ensures.exhausted) from (omega (arith, within, pages.ok.0)) (indexed block of) in
    let all = iter_end deref found c.loop-row.yielded _ _ _ _ c.into_iter-row-iterator.ensures.into_iter_gives c.loop-row.yielded_by c.in-None.is
    c.next.ensures.steps in
    let (row, has, same) = map_contains deref c.loop-row.yielded (block, number)
    (subst (λ (rows : List (ℕ × ℕ)). Contains rows (block, number)) (sym all.0) there) in
    absurd (c.loop-row.invariant row has b page (ap (λ (q : ℕ × ℕ). slice_get pages.items q.1) same ∙ at) leads)
