-- The pages that begin next to an address.
use Rattle.std.specs.Prelude.{ℕ, ◌<◌, ◌≤◌, Option, Some, None}
use Rattle.vs_types.specs.Space.{Space, Holds}
use Rattle.vs_types.specs.declared.addresses.page.Page.{Page}

-- of the pages that begin up to the address, the last one
abbrev pub IsLastUpTo : Space → ℕ → Option Page → Type 0
IsLastUpTo space address None = (q : Page) → Holds space q → address < q.base
IsLastUpTo space address (Some p) = Holds space p × (p.base ≤ address) × ((q : Page) → Holds space q → q.base ≤ address → q.base ≤ p.base)

-- of the pages that begin at the address or after it, the first one
abbrev pub IsFirstFrom : Space → ℕ → Option Page → Type 0
IsFirstFrom space address None = (q : Page) → Holds space q → q.base < address
IsFirstFrom space address (Some p) = Holds space p × (address ≤ p.base) × ((q : Page) → Holds space q → address ≤ q.base → p.base ≤ q.base)
