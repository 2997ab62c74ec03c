use Rattle.std.proofs.Common.{false, get_or, ap, sym, ◌∙◌, arith}
use Rattle.std.specs.FinMap as finite
use Rattle.vs_types.specs.Space.{Space}
use Rattle.vs_types.specs.declared.addresses.page.Page.{Page}
use Rattle.vs_types.specs.declared.addresses.page.Size.TheVariants.{K4}
use Rattle.vs_plain.specs.Plain.{BoundedSpace}
use Rattle.nr_audit.proofs.FilledSpaces.{free_next, filled_more}
use Rattle.nr_audit.proofs.verdicts.start.fill.Goals as goal

-- what a read past a list of pages gives
abbrev blank : Page
blank = record { base = 0; size = K4; rights = record { write = false; user = false; exec = false }; phys = 0 }

pub add-requires-clause-free : goal.add-requires-clause-free
add-requires-clause-free c =
    rw (ap (λ (s : BoundedSpace). s.space) c.loop-page.invariant)
    (free_next c.args.found.now c.loop-page.page-index blank (omega arith) c.requires.apart)

pub loop-page-preserved : goal.loop-page-preserved
loop-page-preserved c =
    let page = get_or c.args.found.now c.loop-page.page-index blank in
    c.in_ok-add.ensures.ok
    ∙ ap (λ (s : BoundedSpace). record s { space = finite.insert s.space page.base page }) c.loop-page.invariant
    ∙ ap (λ (space : Space). record c.args.space.now { space = space })
    (sym (filled_more c.args.found.now c.loop-page.page-index blank (omega arith) c.requires.apart))
