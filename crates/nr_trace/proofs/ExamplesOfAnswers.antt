-- What the address space answers in the worked examples. The pages of a space are its entries, and those of a space that
-- is made by inserts compute.
use Rattle.std.proofs.Common.{◌≡◌, ℕ, ◌+◌, nat_le, true, Some, None, List, [], ◌∷◌, map, filter, find, refl, ap, ◌∙◌}
use Rattle.std.specs.FinMap as finite
use Rattle.std.specs.FinMap.Entries as kept
use Rattle.std.specs.Ordering.{nat_cmp}
use Rattle.vs_types.specs.Space.{Space, no_pages, page_at, least, least_overlapped, tables_of_levels, table_count}
use Rattle.vs_types.specs.Page.{covers, overlaps}
use Rattle.vs_types.specs.Step.{Stepped, step, look, allow}
use Rattle.vs_types.specs.declared.addresses.depth.Depth.TheVariants.{Four}
use Rattle.vs_types.specs.declared.addresses.page.Size.TheVariants.{K4}
use Rattle.vs_types.specs.declared.addresses.access.Mode.TheVariants.{User}
use Rattle.vs_types.specs.declared.addresses.access.Access.TheVariants.{Write}
use Rattle.vs_types.specs.declared.addresses.page.Page.{Page}
use Rattle.vs_types.specs.declared.requests.answer.Answer.TheVariants.{Done, Allowed}
use Rattle.vs_types.proofs.Computing.{entries_empty, entries_insert}
use Rattle.nr_trace.specs.Orders.{space_after, answer_in}
use Rattle.vs_walk.specs.Walk.{all_rights}
use Rattle.nr_trace.specs.Examples.{map_then_resolve, map_page, map_it, resolve_it, looks_mapped, map_then_access, access_it}

-- the page of `map_it`
abbrev page : Page
page = record { base = 0x400000; size = K4; phys = 0x1000; rights = all_rights }

abbrev with_page : Space
with_page = finite.insert no_pages 0x400000 page

entries_with_page : finite.entries with_page ≡ (0x400000, page) ∷ []
entries_with_page = entries_insert no_pages 0x400000 page ∙ ap (kept.put nat_cmp 0x400000 page) entries_empty

none_overlapped : least_overlapped no_pages page ≡ None
none_overlapped = ap (λ (es : List (ℕ × Page)). least (map (λ p. p.base) (filter (overlaps page) (map (λ e. e.1) es)))) entries_empty

few_tables : (limit : ℕ) → nat_le (table_count Four with_page) limit ≡ nat_le 4 limit
few_tables limit = ap (λ (es : List (ℕ × Page)). nat_le (1 + tables_of_levels 3 (map (λ e. e.1) es)) limit) entries_with_page

maps : (limit : ℕ) → nat_le 4 limit ≡ true → step Four limit no_pages map_page ≡ record { space = with_page; answer = Done }
maps limit enough =
    let e = none_overlapped in
    let f = few_tables limit ∙ enough in
    rw (e, f) refl

-- the page covers the address
covered : page_at with_page 0x400123 ≡ Some page
covered = ap (λ (es : List (ℕ × Page)). find (λ p. covers p 0x400123) (map (λ e. e.1) es)) entries_with_page

looks : look with_page 0x400123 ≡ looks_mapped
looks = rw covered refl

allows : allow with_page 0x400123 User Write ≡ Allowed 0x1123
allows = rw covered refl

pub access_answer : answer_in map_then_access.layout (space_after map_then_access (0 ∷ [])) access_it ≡ Allowed 0x1123
access_answer = ap (λ (s : Stepped). allow s.space 0x400123 User Write) (maps 4 refl) ∙ allows

pub map_answer : answer_in map_then_resolve.layout (space_after map_then_resolve []) map_it ≡ Done
map_answer = ap (λ (s : Stepped). s.answer) (maps 4 refl)

pub resolve_answer : answer_in map_then_resolve.layout (space_after map_then_resolve (0 ∷ [])) resolve_it ≡ looks_mapped
resolve_answer = ap (λ (s : Stepped). look s.space 0x400123) (maps 4 refl) ∙ looks
