use Rattle.std.proofs.Common.{List, Some, refl, subst}
use Rattle.std.specs.Prelude.{All}
use Rattle.vs_types.specs.Page.{IsPage}
use Rattle.vs_types.specs.declared.addresses.page.Page.{Page}
use Rattle.vs_walk.proofs.LawsOfDumps.{dump_is_whole}
use Rattle.vs_walk.proofs.LawsOfSpaces.{translates_found}
use Rattle.vs_walk.specs.Traversal.{found_in}
use Rattle.nr_audit.proofs.Starts.{differs_first, none_differs, none_of_start, own_formed}
use Rattle.nr_audit.proofs.verdicts.start.go_on.Goals as goal

pub returns-in-None-clause-right : goal.returns-in-None-clause-right
returns-in-None-clause-right c =
    let before = c.args.before in
    let start = c.args.start.now in
    let translates = rw c.in-None.is at c.in_ok-difference.ensures.same in
    none_of_start before.depth (Some before.space) start c.in_ok-difference.ensures.tables
    (own_formed c.difference.ensures.is_space (found_in before.depth start)
    (translates_found before.depth start.frames start.root before.space (dump_is_whole start c.difference.ensures.is_dump)
    c.difference.ensures.is_space translates))
    (none_differs before.depth start before.space translates)

pub returns-in_ok-pages_in-in-Some-clause-first : goal.returns-in_ok-pages_in-in-Some-clause-first
returns-in_ok-pages_in-in-Some-clause-first c =
    let before = c.args.before in
    let start = c.args.start.now in
    let pages = c.in_ok-pages_in-in-Some in
    let formed = subst (λ depth. All (IsPage depth) (found_in depth start)) c.depth.ensures
    (subst (λ (ps : List Page). All (IsPage c.depth.result) ps) pages.ensures.pages pages.ensures.apart.well_formed) in
    differs_first before.depth (Some before.space) start c.in_ok-difference.ensures.tables formed c.in-Some.address
    (before.space, refl, rw c.in-Some.is at c.in_ok-difference.ensures.other)
