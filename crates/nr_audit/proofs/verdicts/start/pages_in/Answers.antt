use Rattle.std.proofs.Common.{◌≡◌, List, ap, sym, ◌∙◌, subst}
use Rattle.vs_types.specs.declared.addresses.page.Page.{Page}
use Rattle.vs_walk.specs.Traversal.{traversal, found, found_in}
use Rattle.vs_walk.proofs.LawsOfDumps.{dump_is_whole}
use Rattle.nr_audit.specs.inside.Begun.{AreApart, HasNoneBeyond, IsFirstBeyond}
use Rattle.nr_audit.proofs.Starts.{beyond_first, found_apart, least_beyond}
use Rattle.nr_audit.proofs.verdicts.start.pages_in.Goals as goal

pub returns-in-Some-clause-first : goal.returns-in-Some-clause-first
returns-in-Some-clause-first c = λ before.
    let start = c.args.start.now in
    let list : c.as_slice.result.now ≡ found_in c.args.depth start =
    c.as_slice.ensures ∙ c.in-Ok.ensures.pages ∙ ap (λ root. found (traversal c.args.depth start.frames root)) c.root.ensures in
    beyond_first c.args.depth before start c.requires.tables c.in-Some.base
    (least_beyond c.args.depth start c.in-Some.base (dump_is_whole start c.requires.is_dump)
    (subst (λ (ps : List Page). IsFirstBeyond ps c.in-Some.base) list c.in-Some.ensures.some))

pub returns-in-None-clause-apart : goal.returns-in-None-clause-apart
returns-in-None-clause-apart c =
    let start = c.args.start.now in
    let pages : c.in-Ok.leaves.pages ≡ found_in c.args.depth start =
    c.in-Ok.ensures.pages ∙ ap (λ root. found (traversal c.args.depth start.frames root)) c.root.ensures in
    subst (AreApart c.args.depth) (sym pages) (found_apart c.args.depth start (dump_is_whole start c.requires.is_dump)
    (subst HasNoneBeyond (c.as_slice.ensures ∙ pages) c.in-None.ensures.none))
