-- Spaces by the entries of a map, which have the base of each page once.
use Rattle.std.specs.Prelude.{ℕ, List, map}
use Rattle.std.specs.FinMap as finite
use Rattle.vs_types.specs.Space.{Space}
use Rattle.vs_types.specs.declared.addresses.page.Page.{Page}
use Rattle.vs_plain.specs.declared.mapping.Mapping.{Mapping}

-- the page that is so mapped from a base on
abbrev pub page_from : ℕ → Mapping → Page
page_from base mapping = record { base = base; phys = mapping.phys; size = mapping.size; rights = mapping.rights }

-- the page of an entry
abbrev pub page_of : ℕ × Mapping → Page
page_of entry = page_from entry.0 entry.1

-- the space of the pages of these entries, whose bases rise
abbrev pub listed_space : List (ℕ × Mapping) → Space
listed_space entries = finite.from_sorted (map (λ entry. (entry.0, page_of entry)) entries)
