-- Which pages share a table.
use Rattle.std.specs.Prelude.{ℕ, ◌/◌, Bool, false, nat_eq, Option, Some, None}
use Rattle.vs_types.specs.Depth.{table_bytes}
use Rattle.vs_types.specs.declared.addresses.page.Page.{Page}

-- whether a page begins in the stretch that the table of this level covers in which the address lies
abbrev pub begins_in_stretch : ℕ → ℕ → Option Page → Bool
begins_in_stretch level address None = false
begins_in_stretch level address (Some page) = nat_eq (page.base / table_bytes level) (address / table_bytes level)
