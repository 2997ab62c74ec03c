-- Remap, split, join, an unmap of parts and a collapse: what they do to a space, beside `step`, and why a page can't be changed so.
use Rattle.std.specs.Prelude.{ℕ, zero, suc, ◌+◌, ◌*◌, ◌%◌, ◌^◌, ◌<◌, not, ◌==◌, nat_lt, min, Option, Some, None, if◌then◌else◌}
use Rattle.std.specs.FinMap as finite
use Rattle.vs_types.specs.Page.{bytes_of, covers}
use Rattle.vs_types.specs.Space.{Space, Holds, page_at}
use Rattle.vs_types.specs.Step.{Stepped, step}
use Rattle.vs_types.specs.declared.addresses.depth.Depth.{Depth}
use Rattle.vs_types.specs.declared.requests.op.Action.TheVariants as actions
use Rattle.vs_types.specs.declared.addresses.page.Page.{Page}
use Rattle.vs_types.specs.declared.addresses.page.Rights.{Rights}
use Rattle.vs_types.specs.declared.addresses.page.Size.{Size}
use Rattle.vs_types.specs.declared.addresses.page.Size.TheVariants.{K4, M2, G1}
use Rattle.vs_types.specs.declared.requests.answer.Answer.{Answer}
use Rattle.vs_types.specs.declared.requests.answer.Answer.TheVariants.{NotMapped, Inside, Changed, Mapped}
use Rattle.vs_plan.specs.declared.plans.plan.Reply.{Reply}
use Rattle.vs_plan.specs.declared.plans.plan.Reply.TheVariants as replies

-- ---- pages and their parts

-- the next smaller size
abbrev pub smaller : Size → Size
smaller K4 = K4
smaller M2 = K4
smaller G1 = M2

-- the next larger size
abbrev pub larger : Size → Size
larger K4 = M2
larger M2 = G1
larger G1 = G1

-- the part of a page with this number, of 512: pages of the next smaller size that translate as it does
abbrev pub part : Page → ℕ → Page
part page n = record {
  base = page.base + n * bytes_of (smaller page.size);
  size = smaller page.size;
  rights = page.rights;
  phys = page.phys + n * bytes_of (smaller page.size);
}

-- a space has each part of a page
abbrev pub HasParts : Space → Page → Type 0
HasParts space page = (n : ℕ) → n < 512 → Holds space (part page n)

-- the page whose first part is this page
abbrev pub whole_of : Page → Page
whole_of page = record page { size = larger page.size }

-- the space with the first parts of a page, so many
unfoldable pub with_parts : Space → Page → ℕ → Space
with_parts space page zero = space
with_parts space page (suc n) = finite.insert (with_parts space page n) (part page n).base (part page n)

-- the space without the pages that begin in this one
abbrev pub without_parts : Space → Page → Space
without_parts space page = finite.retain_keys space (λ base. not (covers page base))

-- ---- what is done to a space

-- a change of the page that begins at the base: the space after it, by the page
abbrev pub change_page : Space → ℕ → (Page → Space) → Option Page → Stepped
change_page space base after None = record { space = space; answer = NotMapped }
change_page space base after (Some page) =
    if page.base == base then record { space = after page; answer = Changed page.rights } else record { space = space; answer = Inside page.base }

-- the page leads to this physical address, with these rights
abbrev pub remap : Space → ℕ → ℕ → Rights → Stepped
remap space base phys rights =
    change_page space base (λ page. finite.insert space page.base (record page { phys = phys; rights = rights })) (page_at space base)

-- its parts are in the place of the page
abbrev pub split : Space → ℕ → Stepped
split space base = change_page space base (λ page. with_parts (finite.remove space page.base) page 512) (page_at space base)

-- the page whose first part it is is in the place of the parts
abbrev pub join : Space → ℕ → Stepped
join space base =
    change_page space base (λ page. finite.insert (without_parts space (whole_of page)) page.base (whole_of page)) (page_at space base)

-- the space after an unmap of each of these parts of a page: so many, from this one on
unfoldable pub unmap_each : Depth → Space → Page → ℕ → ℕ → Space
unmap_each depth space page first zero = space
unmap_each depth space page first (suc n) =
    (step depth 0 (unmap_each depth space page first n) (actions.Unmap (part page (first + n)).base)).space

-- its parts are in the place of the page, as after a split, and then each of some of them is unmapped
abbrev pub unmap_part : Depth → Space → ℕ → ℕ → ℕ → Stepped
unmap_part depth space base first count =
    change_page space base (λ page. unmap_each depth (with_parts (finite.remove space page.base) page 512) page first count) (page_at space base)

-- a page of the next larger size with this physical address and these rights is in the place of the pages that begin in it
abbrev pub collapse : Space → ℕ → ℕ → Rights → Stepped
collapse space base phys rights =
    change_page space base (λ page. finite.insert (without_parts space (whole_of page)) page.base
    (record page { size = larger page.size; phys = phys; rights = rights })) (page_at space base)

-- ---- why the page that begins at the base can't be changed so, whatever the tables: the first reason that holds

-- the reason why the page that begins at the base can't be changed; none if no page begins there
abbrev pub why_not : ℕ → (Page → Option Reply) → Option Page → Option Reply
why_not base reason None = None
why_not base reason (Some page) = if page.base == base then reason page else None

-- the physical address is no multiple of the size, or a page of it there would not lie within the physical addresses, or below 2^51
abbrev pub phys_refusal : ℕ → ℕ → Size → Option Reply
phys_refusal phys phys_bits size =
    if not (phys % bytes_of size == 0) then Some replies.PhysUnaligned
    else if nat_lt (2 ^ min phys_bits 51) (phys + bytes_of size) then Some replies.PhysRange
    else None

-- why the page that begins at the base can't be remapped there
abbrev pub remap_refusal : Space → ℕ → ℕ → ℕ → Option Reply
remap_refusal space base phys phys_bits = why_not base (λ page. phys_refusal phys phys_bits page.size) (page_at space base)

-- a page of 4 KiB has no parts
abbrev pub smallest : Size → Option Reply
smallest K4 = Some replies.Smallest
smallest M2 = None
smallest G1 = None

-- why the page that begins at the base can't be split
abbrev pub split_refusal : Space → ℕ → Option Reply
split_refusal space base = why_not base (λ page. smallest page.size) (page_at space base)

-- the base or the physical address is no multiple of the size
abbrev pub unaligned : ℕ → ℕ → Size → Option Reply
unaligned base phys size =
    if not (base % bytes_of size == 0) then Some replies.Unaligned
    else if not (phys % bytes_of size == 0) then Some replies.PhysUnaligned
    else None

-- a page of 1 GiB is part of none; the first part of a page begins at a multiple of its size, and so does its physical address
abbrev pub not_first : ℕ → ℕ → Size → Option Reply
not_first base phys K4 = unaligned base phys M2
not_first base phys M2 = unaligned base phys G1
not_first base phys G1 = Some replies.Largest

-- why the page that begins at the base can't be joined with those behind it
abbrev pub join_refusal : Space → ℕ → Option Reply
join_refusal space base = why_not base (λ page. not_first page.base page.phys page.size) (page_at space base)

-- a page of this size at this base and this physical address would not be aligned, or not within the physical addresses, or below 2^51
abbrev pub misplaced : ℕ → ℕ → ℕ → Size → Option Reply
misplaced base phys phys_bits size = if not (base % bytes_of size == 0) then Some replies.Unaligned else phys_refusal phys phys_bits size

-- the same of a page of the next larger size; there is none above 1 GiB
abbrev pub not_over : ℕ → ℕ → ℕ → Size → Option Reply
not_over base phys phys_bits K4 = misplaced base phys phys_bits M2
not_over base phys phys_bits M2 = misplaced base phys phys_bits G1
not_over base phys phys_bits G1 = Some replies.Largest

-- why the page that begins at the base can't be replaced, with those behind it, by a page at this physical address
abbrev pub collapse_refusal : Space → ℕ → ℕ → ℕ → Option Reply
collapse_refusal space base phys phys_bits = why_not base (λ page. not_over page.base phys phys_bits page.size) (page_at space base)

-- ---- what stays

-- the place to which an address leads, and what it allows, whatever the size of its page
abbrev pub leads_to : Answer → Option (ℕ × Rights)
leads_to (Mapped phys size rights) = Some (phys, rights)
leads_to _ = None
