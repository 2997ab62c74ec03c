use Rattle.std.proofs.Common.{◌≡◌, take}
use Rattle.nr_audit.specs.Start.{space_of_pages}
use Rattle.nr_audit.proofs.verdicts.start.fill.Given as goal

abbrev pub invariant-loop-page : goal.invariant-loop-page
invariant-loop-page l = l.space ≡ record l.initial.space { space = space_of_pages (take l.page-index l.found) }
