-- When a plan is right: its answer, its stores, what is flushed, and what is unlinked.
use Rattle.std.specs.Prelude.{◌≡◌, ◌≢◌, ◌⊎◌, ℕ, suc, ◌<◌, ◌≤◌, List, [], ◌∷◌, All, Contains, Option, Some, None, ◌%◌, AllPairs, map}
use Rattle.std.specs.FinMap as finite
use Rattle.vs_types.specs.Depth.{levels, index_at}
use Rattle.vs_types.specs.Entry.{meaning, size_at, table_word}
use Rattle.vs_types.specs.Laws.{changes}
use Rattle.vs_types.specs.Page.{level_of, bytes_of, intersection}
use Rattle.vs_types.specs.Space.{Space}
use Rattle.vs_types.specs.declared.requests.answer.Answer.TheVariants as answers
use Rattle.vs_types.specs.declared.entries.entry.Meaning.TheVariants as entry
use Rattle.vs_types.specs.declared.addresses.page.Page.{Page}
use Rattle.vs_types.specs.declared.addresses.page.Rights.{Rights}
use Rattle.vs_types.specs.declared.addresses.page.Size.{Size}
use Rattle.vs_types.specs.declared.addresses.page.Size.TheVariants.{K4}
use Rattle.vs_arena.specs.Store.{zeros}
use Rattle.vs_walk.specs.Memory.{Memory, AreWhole}
use Rattle.vs_space.specs.Held.{word_at}
use Rattle.vs_space.specs.Path.{entry_in, found_at, table_at, table_in}
use Rattle.vs_plan.specs.declared.plans.target.Target.{Target}
use Rattle.vs_plan.specs.declared.plans.request.Request.{Request}
use Rattle.vs_plan.specs.declared.plans.request.Request.TheVariants.{Map, Unmap, Protect, Ask, Remap, Split, Join, Prune, UnmapPart, Collapse}
use Rattle.vs_plan.specs.declared.plans.plan.Fill.{Fill}
use Rattle.vs_plan.specs.declared.plans.plan.Store.{Store}
use Rattle.vs_plan.specs.declared.plans.plan.Flush.{Flush}
use Rattle.vs_plan.specs.declared.plans.plan.Flush.TheVariants as flushes
use Rattle.vs_plan.specs.declared.plans.plan.Reply.{Reply}
use Rattle.vs_plan.specs.declared.plans.plan.Reply.TheVariants as replies
use Rattle.vs_plan.specs.declared.plans.plan.Plan.{Plan}
use Rattle.vs_types.specs.Bits.{page_word, bits_in, with_rights, with_address, flagged}
use Rattle.vs_plan.specs.Changes.{smaller, larger, HasParts}
use Rattle.vs_plan.specs.Premise.{HasOwnWay, IsSpare}
use Rattle.vs_plan.specs.Request.{address_of}
use Rattle.vs_plan.specs.Stores.{stored_all, filled, FindTheirWords, AreSafe}
use Rattle.vs_plan.specs.Target.{frames_end, highest_link}
use Rattle.vs_plan.specs.Answered.{FollowBelow, AreLikeBelow, IsReply, IsDue, space_after, Changes}

-- ---- the stores

-- the word that a store changes is that of the address in a table on its way
pub record IsOnWay (target : Target) (memory : Memory) (address : ℕ) (store : Store) : Type 0 where
  pub level : ℕ
  pub reached : table_at (levels target.depth) memory target.root level address ≡ Some store.frame
  pub index : store.index ≡ index_at level address

-- what a store may change: the word of the page, which led no further; a link to a table that is unlinked; a word of a spare frame within the
-- physical addresses
pub data IsMeant (target : Target) (memory : Memory) (address : ℕ) (unlinked : List ℕ) (store : Store) : Type 0 where
  OfPage : (on : IsOnWay target memory address store) → table_in (Some (meaning on.level store.old)) ≡ None
      → IsMeant target memory address unlinked store
  OfLink : (on : IsOnWay target memory address store) (below : ℕ) → table_in (Some (meaning on.level store.old)) ≡ Some below
      → Contains unlinked below → on.level ≤ highest_link target → store.new ≡ 0 → IsMeant target memory address unlinked store
  OfSpare : IsSpare target.depth memory target.root store.frame → store.frame < frames_end target → IsMeant target memory address unlinked store

-- a join's or a collapse's store: of the link to the table that is unlinked, on the way
pub record IsMeantByJoin (target : Target) (memory : Memory) (base : ℕ) (unlinked : List ℕ) (store : Store) : Type 0 where
  pub on : IsOnWay target memory base store
  pub below : ℕ
  pub leads : table_in (Some (meaning on.level store.old)) ≡ Some below
  pub named : Contains unlinked below
  pub may : on.level ≤ highest_link target

-- what a store of a request may change
abbrev pub IsMeantBy : Target → Memory → Request → List ℕ → Store → Type 0
IsMeantBy target memory (Map page bits) unlinked store = IsMeant target memory page.base unlinked store
IsMeantBy target memory (Unmap base) unlinked store = IsMeant target memory base unlinked store
IsMeantBy target memory (Protect base rights) unlinked store = IsMeant target memory base unlinked store
IsMeantBy target memory (Ask address) unlinked store = IsMeant target memory address unlinked store
IsMeantBy target memory (Remap base phys rights) unlinked store = IsMeant target memory base unlinked store
IsMeantBy target memory (Split base) unlinked store = IsMeant target memory base unlinked store
IsMeantBy target memory (Join base) unlinked store = IsMeantByJoin target memory base unlinked store
IsMeantBy target memory (Prune address) unlinked store = IsMeant target memory address unlinked store
IsMeantBy target memory (UnmapPart base first count) unlinked store = IsMeant target memory base unlinked store
IsMeantBy target memory (Collapse base phys rights) unlinked store = IsMeantByJoin target memory base unlinked store

-- a table that is unlinked: it was on the way of the address, below the root; now its words are all 0, and no way leads to it
pub record IsUnlinked (target : Target) (memory after : Memory) (address number : ℕ) : Type 0 where
  pub level : ℕ
  pub was : table_at (levels target.depth) memory target.root level address ≡ Some number
  pub lower : level < levels target.depth
  pub clear : finite.get after number ≡ Some zeros
  pub unreached : (level b : ℕ) → table_at (levels target.depth) after target.root level b ≢ Some number

-- a table that a join, a collapse or a prune unlinks: the same, but that its words are as they were
pub record IsLeft (target : Target) (memory after : Memory) (base number : ℕ) : Type 0 where
  pub level : ℕ
  pub was : table_at (levels target.depth) memory target.root level base ≡ Some number
  pub lower : level < levels target.depth
  pub same : finite.get after number ≡ finite.get memory number
  pub unreached : (level b : ℕ) → table_at (levels target.depth) after target.root level b ≢ Some number

-- a table that the plan of a request unlinks: its words are all 0, but after a join, a collapse or a prune they are as they were
abbrev pub IsUnlinkedBy : Target → Memory → Memory → Request → ℕ → Type 0
IsUnlinkedBy target memory after (Map page bits) number = IsUnlinked target memory after page.base number
IsUnlinkedBy target memory after (Unmap base) number = IsUnlinked target memory after base number
IsUnlinkedBy target memory after (Protect base rights) number = IsUnlinked target memory after base number
IsUnlinkedBy target memory after (Ask address) number = IsUnlinked target memory after address number
IsUnlinkedBy target memory after (Remap base phys rights) number = IsUnlinked target memory after base number
IsUnlinkedBy target memory after (Split base) number = IsUnlinked target memory after base number
IsUnlinkedBy target memory after (Join base) number = IsLeft target memory after base number
IsUnlinkedBy target memory after (Prune address) number = IsLeft target memory after address number
IsUnlinkedBy target memory after (UnmapPart base first count) number = IsUnlinked target memory after base number
IsUnlinkedBy target memory after (Collapse base phys rights) number = IsLeft target memory after base number

-- a frame has a word that isn't 0
pub record HasWord (memory : Memory) (number : ℕ) : Type 0 where
  pub index : ℕ
  pub word : ℕ
  pub there : word_at memory number index ≡ Some word
  pub some : word ≢ 0

-- if something was removed, each table that is still on the way of the base, and to which a link may be cleared, has a word
abbrev pub IsPruned : Target → Memory → Request → List Store → Type 0
IsPruned target after request [] = Unit {0}
IsPruned target after (Map page bits) (store ∷ stores) = Unit {0}
IsPruned target after (Unmap base) (store ∷ stores) = (level number : ℕ) → level < highest_link target
    → table_at (levels target.depth) after target.root level base ≡ Some number → HasWord after number
IsPruned target after (Protect base rights) (store ∷ stores) = Unit {0}
IsPruned target after (Ask address) (store ∷ stores) = Unit {0}
IsPruned target after (Remap base phys rights) (store ∷ stores) = Unit {0}
IsPruned target after (Split base) (store ∷ stores) = Unit {0}
IsPruned target after (Join base) (store ∷ stores) = Unit {0}
IsPruned target after (Prune address) (store ∷ stores) = Unit {0}
IsPruned target after (UnmapPart base first count) (store ∷ stores) = Unit {0}
IsPruned target after (Collapse base phys rights) (store ∷ stores) = Unit {0}

-- ---- the bits of the page's entry

-- each store writes the link to the frame of the one before it
abbrev pub AreLinks : ℕ → List Store → Type 0
AreLinks below [] = Unit {0}
AreLinks below (store ∷ stores) = (store.new ≡ table_word below) × AreLinks store.frame stores

-- the first store writes the page's entry: with its bits, and the later ones link new tables; none; with other rights. What a remap, a
-- split, a join or a collapse writes, `IsPut` says. A prune clears one word.
abbrev pub IsWritten : Request → List Store → Type 0
IsWritten request [] = Unit {0}
IsWritten (Map page bits) (store ∷ stores) = (store.new ≡ page_word page bits) × AreLinks store.frame stores
IsWritten (Unmap base) (store ∷ stores) = store.new ≡ 0
IsWritten (Protect base rights) (store ∷ stores) = (store.new ≡ with_rights store.old rights) × (stores ≡ [])
IsWritten (Ask address) (store ∷ stores) = ⊥
IsWritten (Remap base phys rights) (store ∷ stores) = stores ≡ []
IsWritten (Split base) (store ∷ stores) = stores ≡ []
IsWritten (Join base) (store ∷ stores) = stores ≡ []
IsWritten (Prune address) (store ∷ stores) = stores ≡ []
IsWritten (UnmapPart base first count) (store ∷ stores) = stores ≡ []
IsWritten (Collapse base phys rights) (store ∷ stores) = stores ≡ []

-- a map changes no word that is present (bit 0), and an unmap and a prune leave only 0
abbrev pub IsOneWay : Request → List Store → Type 0
IsOneWay (Map page bits) stores = All (λ store. store.old % 2 ≡ 0) stores
IsOneWay (Unmap base) stores = All (λ store. store.new ≡ 0) stores
IsOneWay (Protect base rights) stores = Unit {0}
IsOneWay (Ask address) stores = Unit {0}
IsOneWay (Remap base phys rights) stores = Unit {0}
IsOneWay (Split base) stores = Unit {0}
IsOneWay (Join base) stores = Unit {0}
IsOneWay (Prune address) stores = All (λ store. store.new ≡ 0) stores
IsOneWay (UnmapPart base first count) stores = Unit {0}
IsOneWay (Collapse base phys rights) stores = Unit {0}

-- the entry of the page at an address, of this size
pub record IsEntryOf (target : Target) (memory : Memory) (address : ℕ) (size : Size) (word : ℕ) : Type 0 where
  pub level : ℕ
  pub number : ℕ
  pub reached : table_at (levels target.depth) memory target.root level address ≡ Some number
  pub word_is : word_at memory number (index_at level address) ≡ Some word
  pub leaf : (phys : ℕ) × (own : Rights) × (meaning level word ≡ entry.Leaf phys own)
  pub size_is : size ≡ size_at level

-- the plan's bits are those of the page that is removed, changed or asked for
abbrev pub IsTold : Target → Memory → ℕ → ℕ → Reply → Type 0
IsTold target memory address bits (replies.Answer (answers.Removed phys size rights)) =
    (word : ℕ) × IsEntryOf target memory address size word × (bits ≡ bits_in size word)
IsTold target memory address bits (replies.Answer (answers.Mapped phys size rights)) =
    (word : ℕ) × IsEntryOf target memory address size word × (bits ≡ bits_in size word)
IsTold target memory address bits (replies.Answer (answers.Changed rights)) =
    (size : Size) × (word : ℕ) × IsEntryOf target memory address size word × (bits ≡ bits_in size word)
IsTold target memory address bits reply = bits ≡ 0

-- ---- what a remap, a split, a join or a collapse writes

-- a store of an unmap or a protect: of the page's entry
pub record IsOfPage (target : Target) (memory : Memory) (base : ℕ) (store : Store) : Type 0 where
  pub size : Size
  pub entry_is : IsEntryOf target memory base size store.old
  pub frame : store.frame ≡ entry_is.number
  pub at : store.index ≡ index_at entry_is.level base

-- a remap writes the page's entry with another physical address and other rights
pub record IsRemapped (target : Target) (memory : Memory) (base phys : ℕ) (rights : Rights) (store : Store) : Type 0 where
  pub size : Size
  pub entry_is : IsEntryOf target memory base size store.old
  pub frame : store.frame ≡ entry_is.number
  pub at : store.index ≡ index_at entry_is.level base
  pub new : store.new ≡ with_rights (with_address size store.old phys) rights

-- a split of a page larger than 4 KiB fills a spare frame that was offered, and links it. Its entries are those of the page's parts, which
-- have the page's rights and bits, but for those in a gap
pub record IsSplit (target : Target) (memory : Memory) (base gap count : ℕ) (offered : List (Option ℕ)) (fill : Fill) (store : Store) : Type 0 where
  pub size : Size
  pub phys : ℕ
  pub own : Rights
  pub entry_is : IsEntryOf target memory base size store.old
  pub frame : store.frame ≡ entry_is.number
  pub at : store.index ≡ index_at entry_is.level base
  pub aligned : base % bytes_of size ≡ 0
  pub says : meaning (level_of size) store.old ≡ entry.Leaf phys own
  pub large : size ≢ K4
  pub given : Contains offered (Some fill.frame)
  pub within : fill.frame < frames_end target
  pub spare : IsSpare target.depth memory target.root fill.frame
  pub first : fill.first ≡ page_word (record { base = base; size = smaller size; rights = own; phys = phys }) (bits_in size store.old)
  pub step : fill.step ≡ bytes_of (smaller size)
  pub gap_is : fill.gap ≡ gap
  pub count_is : fill.gap_count ≡ count
  pub link : store.new ≡ table_word fill.frame

-- a join writes one page's entry in the place of the link to a table, whose entries follow on from its first one. It has the rights and the
-- bits of that one, as far as the link allows, and both flags set
pub record IsJoined (target : Target) (memory : Memory) (base : ℕ) (unlinked : List ℕ) (store : Store) : Type 0 where
  pub level : ℕ
  pub number : ℕ
  pub first : ℕ
  pub phys : ℕ
  pub own : Rights
  pub allowed : Rights
  pub few : level < 3
  pub reached : table_at (levels target.depth) memory target.root level base ≡ Some number
  pub first_is : word_at memory number (index_at level base) ≡ Some first
  pub says : meaning level first ≡ entry.Leaf phys own
  pub aligned : base % bytes_of (larger (size_at level)) ≡ 0
  pub follow : FollowBelow memory number (size_at level) first 512
  pub above : table_at (levels target.depth) memory target.root (suc level) base ≡ Some store.frame
  pub index_is : store.index ≡ index_at (suc level) base
  pub leads : meaning (suc level) store.old ≡ entry.Table number allowed
  pub new : store.new ≡ page_word (record { base = base; size = larger (size_at level); rights = intersection allowed own; phys = phys })
      (flagged (bits_in (size_at level) first))
  pub unlinked_is : unlinked ≡ number ∷ []

-- a collapse writes one page's entry in the place of the link to a table, whose entries are like its first one. It has the given address
-- and rights and the bits of that one, and both flags set
pub record IsCollapsed (target : Target) (memory : Memory) (base phys : ℕ) (rights : Rights) (unlinked : List ℕ) (store : Store) : Type 0 where
  pub level : ℕ
  pub number : ℕ
  pub first : ℕ
  pub place : ℕ
  pub own : Rights
  pub allowed : Rights
  pub few : level < 3
  pub reached : table_at (levels target.depth) memory target.root level base ≡ Some number
  pub first_is : word_at memory number (index_at level base) ≡ Some first
  pub says : meaning level first ≡ entry.Leaf place own
  pub aligned : base % bytes_of (larger (size_at level)) ≡ 0
  pub phys_aligned : phys % bytes_of (larger (size_at level)) ≡ 0
  pub alike : AreLikeBelow memory number (size_at level) first 512
  pub above : table_at (levels target.depth) memory target.root (suc level) base ≡ Some store.frame
  pub index_is : store.index ≡ index_at (suc level) base
  pub leads : meaning (suc level) store.old ≡ entry.Table number allowed
  pub new : store.new ≡ page_word (record { base = base; size = larger (size_at level); rights = rights; phys = phys })
      (flagged (bits_in (size_at level) first))
  pub unlinked_is : unlinked ≡ number ∷ []

-- a prune clears the link to a table without a present entry, in which the address's way ends
pub record IsCut (target : Target) (memory : Memory) (address : ℕ) (unlinked : List ℕ) (store : Store) : Type 0 where
  pub level : ℕ
  pub number : ℕ
  pub allowed : Rights
  pub reached : table_at (levels target.depth) memory target.root level address ≡ Some number
  pub empty : (index : ℕ) → index < 512 → entry_in level memory number index ≡ Some entry.Absent
  pub above : table_at (levels target.depth) memory target.root (suc level) address ≡ Some store.frame
  pub index_is : store.index ≡ index_at (suc level) address
  pub leads : meaning (suc level) store.old ≡ entry.Table number allowed
  pub unlinked_is : unlinked ≡ number ∷ []

-- which table is filled: by a split and an unmap of parts alone. Then what the first store is of, and what is written by one store, which
-- unlinks a table by a join, a collapse or a prune alone
abbrev pub IsPut : Target → Request → Memory → List (Option ℕ) → Option Fill → List Store → List ℕ → Type 0
IsPut target request memory offered fill [] unlinked = fill ≡ None
IsPut target (Map page bits) memory offered fill (store ∷ stores) unlinked = fill ≡ None
IsPut target (Unmap base) memory offered fill (store ∷ stores) unlinked = (fill ≡ None) × IsOfPage target memory base store
IsPut target (Protect base rights) memory offered fill (store ∷ stores) unlinked =
    (fill ≡ None) × IsOfPage target memory base store × (unlinked ≡ [])
IsPut target (Ask address) memory offered fill (store ∷ stores) unlinked = fill ≡ None
IsPut target (Remap base phys rights) memory offered fill (store ∷ stores) unlinked =
    (fill ≡ None) × IsRemapped target memory base phys rights store × (unlinked ≡ [])
IsPut target (Split base) memory offered fill (store ∷ stores) unlinked =
    (table : Fill) × (fill ≡ Some table) × IsSplit target memory base 0 0 offered table store × (unlinked ≡ [])
IsPut target (Join base) memory offered fill (store ∷ stores) unlinked = (fill ≡ None) × IsJoined target memory base unlinked store
IsPut target (Prune address) memory offered fill (store ∷ stores) unlinked = (fill ≡ None) × IsCut target memory address unlinked store
IsPut target (UnmapPart base first count) memory offered fill (store ∷ stores) unlinked =
    (table : Fill) × (fill ≡ Some table) × IsSplit target memory base first count offered table store × (unlinked ≡ [])
IsPut target (Collapse base phys rights) memory offered fill (store ∷ stores) unlinked =
    (fill ≡ None) × IsCollapsed target memory base phys rights unlinked store

-- if pages are joined, the space has each part of the page that takes their place
abbrev pub Fits : Request → Space → List Store → Type 0
Fits request space [] = Unit {0}
Fits (Map page bits) space (store ∷ stores) = Unit {0}
Fits (Unmap base) space (store ∷ stores) = Unit {0}
Fits (Protect base rights) space (store ∷ stores) = Unit {0}
Fits (Ask address) space (store ∷ stores) = Unit {0}
Fits (Remap base phys rights) space (store ∷ stores) = Unit {0}
Fits (Split base) space (store ∷ stores) = Unit {0}
Fits (Join base) space (store ∷ stores) = (page : Page) × (page.base ≡ base) × (page.size ≢ K4) × HasParts space page
Fits (Prune address) space (store ∷ stores) = Unit {0}
Fits (UnmapPart base first count) space (store ∷ stores) = Unit {0}
Fits (Collapse base phys rights) space (store ∷ stores) = Unit {0}

-- the page's entry is just as a protect or a remap would write it
abbrev pub IsSoAlready : Target → Memory → Request → Type 0
IsSoAlready target memory (Map page bits) = Unit {0}
IsSoAlready target memory (Unmap base) = Unit {0}
IsSoAlready target memory (Protect base rights) =
    (size : Size) × (word : ℕ) × IsEntryOf target memory base size word × (word ≡ with_rights word rights)
IsSoAlready target memory (Ask address) = Unit {0}
IsSoAlready target memory (Remap base phys rights) =
    (size : Size) × (word : ℕ) × IsEntryOf target memory base size word × (word ≡ with_rights (with_address size word phys) rights)
IsSoAlready target memory (Split base) = Unit {0}
IsSoAlready target memory (Join base) = Unit {0}
IsSoAlready target memory (Prune address) = Unit {0}
IsSoAlready target memory (UnmapPart base first count) = Unit {0}
IsSoAlready target memory (Collapse base phys rights) = Unit {0}

-- a table has a present entry
pub record HasEntry (memory : Memory) (number : ℕ) : Type 0 where
  pub index : ℕ
  pub word : ℕ
  pub within : index < 512
  pub there : word_at memory number index ≡ Some word
  pub present : word % 2 ≡ 1

-- the table in which the way of a prune's address ends has a present entry, or stays
abbrev pub HasNoneToPrune : Target → Memory → Request → Type 0
HasNoneToPrune target memory (Map page bits) = Unit {0}
HasNoneToPrune target memory (Unmap base) = Unit {0}
HasNoneToPrune target memory (Protect base rights) = Unit {0}
HasNoneToPrune target memory (Ask address) = Unit {0}
HasNoneToPrune target memory (Remap base phys rights) = Unit {0}
HasNoneToPrune target memory (Split base) = Unit {0}
HasNoneToPrune target memory (Join base) = Unit {0}
HasNoneToPrune target memory (UnmapPart base first count) = Unit {0}
HasNoneToPrune target memory (Collapse base phys rights) = Unit {0}
HasNoneToPrune target memory (Prune address) = (level number : ℕ) → table_at (levels target.depth) memory target.root level address ≡ Some number
    → table_in (found_at level memory number address) ≡ None → level < highest_link target → HasEntry memory number

-- where a page was to be changed, or a table pruned, and there is no store, that is so
abbrev pub IsAlready : Target → Memory → Request → Reply → List Store → Type 0
IsAlready target memory request reply (store ∷ stores) = Unit {0}
IsAlready target memory request (replies.Answer answers.Done) [] = HasNoneToPrune target memory request
IsAlready target memory request (replies.Answer (answers.Changed rights)) [] = IsSoAlready target memory request
IsAlready target memory request reply [] = Unit {0}

-- ---- what is flushed

-- nothing where nothing was stored, and after a map; else the page at the base, with the tables where one was unlinked; where pages of
-- another size take a page's place, all that was kept for their addresses. Of a prune 4 KiB at the address, with the tables
abbrev pub IsFlushed : Target → Memory → Request → List Store → List ℕ → Flush → Type 0
IsFlushed target memory request [] unlinked flush = flush ≡ flushes.Nothing
IsFlushed target memory (Map page bits) (store ∷ stores) unlinked flush = flush ≡ flushes.Nothing
IsFlushed target memory (Unmap base) (store ∷ stores) [] flush =
    (size : Size) × IsEntryOf target memory base size store.old × (flush ≡ flushes.Page base size)
IsFlushed target memory (Unmap base) (store ∷ stores) (number ∷ numbers) flush =
    (size : Size) × IsEntryOf target memory base size store.old × (flush ≡ flushes.PageAndTables base size)
IsFlushed target memory (Protect base rights) (store ∷ stores) unlinked flush =
    (size : Size) × IsEntryOf target memory base size store.old × (flush ≡ flushes.Page base size)
IsFlushed target memory (Ask address) (store ∷ stores) unlinked flush = ⊥
IsFlushed target memory (Remap base phys rights) (store ∷ stores) unlinked flush =
    (size : Size) × IsEntryOf target memory base size store.old × (flush ≡ flushes.Page base size)
IsFlushed target memory (Split base) (store ∷ stores) unlinked flush =
    (size : Size) × IsEntryOf target memory base size store.old × (flush ≡ flushes.Range base size)
IsFlushed target memory (Join base) (store ∷ stores) unlinked flush =
    (size : Size) × (first : ℕ) × IsEntryOf target memory base size first × (flush ≡ flushes.Range base (larger size))
IsFlushed target memory (Prune address) (store ∷ stores) unlinked flush = flush ≡ flushes.PageAndTables address K4
IsFlushed target memory (UnmapPart base first count) (store ∷ stores) unlinked flush =
    (size : Size) × IsEntryOf target memory base size store.old × (flush ≡ flushes.Range base size)
IsFlushed target memory (Collapse base phys rights) (store ∷ stores) unlinked flush =
    (size : Size) × (word : ℕ) × IsEntryOf target memory base size word × (flush ≡ flushes.Range base (larger size))

-- ---- which tables are reached

-- the frames that are written: that of the fill, and those of the stores
abbrev pub written_frames : Option Fill → List Store → List ℕ
written_frames None stores = map (λ (store : Store). store.frame) stores
written_frames (Some fill) stores = fill.frame ∷ map (λ (store : Store). store.frame) stores

-- a table in a frame that was spare, and is written
pub record IsNewTable (target : Target) (memory : Memory) (fill : Option Fill) (stores : List Store) (number : ℕ) : Type 0 where
  pub spare : IsSpare target.depth memory target.root number
  pub written : Contains (written_frames fill stores) number

-- each table that is reached afterwards was reached by the same way before, or is new
abbrev pub ReachesNoOther : Target → Memory → Memory → Option Fill → List Store → Type 0
ReachesNoOther target memory after fill stores = (level address number : ℕ)
    → table_at (levels target.depth) after target.root level address ≡ Some number
    → (table_at (levels target.depth) memory target.root level address ≡ Some number) ⊎ IsNewTable target memory fill stores number

-- ---- all of it

-- the memory in which the stores are made: with the table that is filled before them
abbrev pub begun : Memory → Plan → Memory
begun memory plan = filled memory plan.fill

-- the memory after them
abbrev pub ended : Memory → Plan → Memory
ended memory plan = stored_all (begun memory plan) plan.stores.items

-- a plan is right for a request over this memory, which translates as this space, where these frames were given
pub record IsRight (target : Target) (request : Request) (memory : Memory) (space : Space) (offered : List (Option ℕ)) (plan : Plan) : Type 0 where
  pub reply : IsReply target request memory space offered plan.reply
  pub due : IsDue target space request plan.reply
  pub put : IsPut target request memory offered plan.fill plan.stores.items plan.unlinked.items
  pub fits : Fits request space plan.stores.items
  pub safe : AreSafe target.depth (begun memory plan) target.root space (space_after target request space plan.reply) plan.stores.items
  pub found : FindTheirWords (begun memory plan) plan.stores.items
  pub meant : All (IsMeantBy target memory request plan.unlinked.items) plan.stores.items
  pub nothing : (Changes plan.reply → ⊥) → plan.stores.items ≡ []
  pub written : IsWritten request plan.stores.items
  pub already : IsAlready target memory request plan.reply plan.stores.items
  pub changing : All (λ store. store.old ≢ store.new) plan.stores.items
  pub one_way : IsOneWay request plan.stores.items
  pub told : IsTold target memory (address_of request) plan.bits plan.reply
  pub flushed : IsFlushed target memory request plan.stores.items plan.unlinked.items plan.flush
  pub unlinked : All (IsUnlinkedBy target memory (ended memory plan) request) plan.unlinked.items
  pub pruned : IsPruned target (ended memory plan) request plan.stores.items
  pub named_once : AllPairs (λ number other. number ≢ other) plan.unlinked.items
  pub whole : AreWhole (ended memory plan)
  pub own : (a : ℕ) → HasOwnWay target.depth memory target.root a → HasOwnWay target.depth (ended memory plan) target.root a
  pub reaches : ReachesNoOther target memory (ended memory plan) plan.fill plan.stores.items
