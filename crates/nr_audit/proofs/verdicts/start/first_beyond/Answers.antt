use Rattle.std.proofs.Common.{false, get_or, refl, arith}
use Rattle.std.proofs.lemmas.Option.{slice_get-get_or}
use Rattle.vs_types.specs.declared.addresses.page.Page.{Page}
use Rattle.vs_types.specs.declared.addresses.page.Size.TheVariants.{K4}
use Rattle.nr_audit.proofs.verdicts.start.first_beyond.Goals as goal

-- what a read past a list of pages gives
abbrev blank : Page
blank = record { base = 0; size = K4; rights = record { write = false; user = false; exec = false }; phys = 0 }

pub returns-then-page-bytes-clause-some : goal.returns-then-page-bytes-clause-some
returns-then-page-bytes-clause-some c = (
  c.loop-page.page-index,
  get_or c.args.found.now c.loop-page.page-index blank,
  slice_get-get_or c.args.found.now c.loop-page.page-index blank (omega arith),
  refl,
  omega arith,
  λ lower other less at beyond. let low = c.loop-page.invariant lower other less at in omega arith,
)
