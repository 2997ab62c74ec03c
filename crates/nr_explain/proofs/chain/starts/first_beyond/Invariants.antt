use Rattle.std.proofs.Common.{◌≡◌, ℕ, ◌+◌, ◌<◌, get_or}
use Rattle.vs_types.specs.Page.{bytes_of}
use Rattle.vs_types.specs.declared.addresses.page.Page.{Page}
use Rattle.vs_types.specs.declared.addresses.page.TheConstants.Page.{PHYS_END}
use Rattle.nr_explain.proofs.chain.starts.first_beyond.Given as goal

abbrev pub invariant-loop-page : goal.invariant-loop-page
invariant-loop-page l = (k : ℕ) (blank : Page) → k < l.page-index → (get_or l.pages k blank).base ≡ l.base
    → PHYS_END < (get_or l.pages k blank).phys + bytes_of (get_or l.pages k blank).size → ⊥
