use Rattle.std.proofs.Common.{◌≡◌, ℕ, ◌+◌, ◌<◌, ◌≤◌, Some, slice_get}
use Rattle.vs_types.specs.Page.{bytes_of}
use Rattle.vs_types.specs.declared.addresses.page.Page.{Page}
use Rattle.vs_types.specs.declared.addresses.page.TheConstants.Page.{PHYS_END}
use Rattle.nr_audit.proofs.verdicts.start.first_beyond.Given as goal

abbrev pub invariant-loop-page : goal.invariant-loop-page
invariant-loop-page l = (k : ℕ) (page : Page) → k < l.page-index → slice_get l.found k ≡ Some page → page.phys + bytes_of page.size ≤ PHYS_END
