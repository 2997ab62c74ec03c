-- Pages: which are well formed, and what they cover (Intel SDM volume 3A, chapter "Paging": page sizes and their levels).
use Rattle.std.specs.Prelude.{◌≡◌, ℕ, ◌+◌, ◌%◌, ◌≤◌, Bool, ◌&&◌, nat_lt, nat_le}
use Rattle.vs_types.specs.Depth.{entry_bytes, IsCanonical}
use Rattle.vs_types.specs.declared.addresses.depth.Depth.{Depth}
use Rattle.vs_types.specs.declared.addresses.page.Page.{Page}
use Rattle.vs_types.specs.declared.addresses.page.TheConstants.Page.{PHYS_END}
use Rattle.vs_types.specs.declared.addresses.page.Rights.{Rights}
use Rattle.vs_types.specs.declared.addresses.page.Size.{Size}
use Rattle.vs_types.specs.declared.addresses.page.Size.TheVariants.{K4, M2, G1}

-- the level whose tables have the entries of pages of this size
abbrev pub level_of : Size → ℕ
level_of K4 = 1
level_of M2 = 2
level_of G1 = 3

abbrev pub bytes_of : Size → ℕ
bytes_of size = entry_bytes (level_of size)

-- the first address after a page; 2 ^ 64 for the last page that there can be
abbrev pub end_of : Page → ℕ
end_of page = page.base + bytes_of page.size

-- whether the page has the address
abbrev pub covers : Page → ℕ → Bool
covers page address = nat_le page.base address && nat_lt address (end_of page)

-- whether two pages have an address in common
abbrev pub overlaps : Page → Page → Bool
overlaps p q = nat_lt p.base (end_of q) && nat_lt q.base (end_of p)

-- a page at this depth, whose physical addresses lie below the limit
pub record IsPageBelow (limit : ℕ) (depth : Depth) (page : Page) : Type 0 where
  pub canonical : IsCanonical depth page.base
  pub aligned : page.base % bytes_of page.size ≡ 0
  pub phys_aligned : page.phys % bytes_of page.size ≡ 0
  pub phys_range : page.phys + bytes_of page.size ≤ limit

-- mapped pages lie wholly below physical 2 ^ 51, `Page::PHYS_END`; the tables of a store whose frames begin there, or above, are not mapped
abbrev pub IsPage : Depth → Page → Type 0
IsPage = IsPageBelow PHYS_END

-- the rights that two sets of rights both have
abbrev pub intersection : Rights → Rights → Rights
intersection a b = record { write = a.write && b.write; user = a.user && b.user; exec = a.exec && b.exec }
