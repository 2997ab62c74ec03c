-- What came out of a request, and why.
use Rattle.std.specs.Prelude.{◌≡◌, ◌≢◌, ℕ, suc, ◌+◌, ◌*◌, ◌<◌, ◌≤◌, List, Contains, Option, Some, None, IsTrue, IsFalse, map}
use Rattle.vs_types.specs.Depth.{levels, index_at}
use Rattle.vs_types.specs.Entry.{meaning, size_at}
use Rattle.vs_types.specs.Laws.{changes}
use Rattle.vs_types.specs.Page.{level_of, bytes_of, covers, intersection}
use Rattle.vs_types.specs.Space.{Space}
use Rattle.vs_types.specs.declared.entries.entry.Meaning.TheVariants as entry
use Rattle.vs_types.specs.declared.addresses.page.Page.{Page}
use Rattle.vs_types.specs.declared.addresses.page.Rights.{Rights}
use Rattle.vs_types.specs.declared.addresses.page.Size.{Size}
use Rattle.vs_walk.specs.Memory.{Memory}
use Rattle.vs_space.specs.Held.{word_at}
use Rattle.vs_space.specs.Path.{entry_in, found_at, table_at}
use Rattle.vs_plan.specs.declared.plans.target.Target.{Target}
use Rattle.vs_plan.specs.declared.plans.request.Request.{Request}
use Rattle.vs_plan.specs.declared.plans.request.Request.TheVariants.{Map, Unmap, Protect, Ask, Remap, Split, Join, Prune, UnmapPart, Collapse}
use Rattle.vs_plan.specs.declared.plans.plan.Reply.{Reply}
use Rattle.vs_plan.specs.declared.plans.plan.Reply.TheVariants as replies
use Rattle.vs_types.specs.Bits.{with_address, unflagged}
use Rattle.vs_plan.specs.Request.{stepped, refusal}
use Rattle.vs_plan.specs.Target.{frames_end, highest_link}
use Rattle.vs_plan.specs.Way.{IsWay}

-- a table below the level of a page, on the way of this address, which the page covers, has no present entry
pub record HasEmptyTable (target : Target) (memory : Memory) (page : Page) (number address : ℕ) : Type 0 where
  pub level : ℕ
  pub rights : Rights
  pub below : level < level_of page.size
  pub covered : IsTrue (covers page address)
  pub way : IsWay target.depth memory target.root address level number rights
  pub empty : (index : ℕ) → index < 512 → entry_in level memory number index ≡ Some entry.Absent

-- a map's page lies over a table without present entries, which is on the way of an address
abbrev pub LiesOverEmpty : Target → Memory → Request → ℕ → ℕ → Type 0
LiesOverEmpty target memory (Map page bits) number address = HasEmptyTable target memory page number address
LiesOverEmpty target memory (Unmap base) number address = ⊥
LiesOverEmpty target memory (Protect base rights) number address = ⊥
LiesOverEmpty target memory (Ask at) number address = ⊥
LiesOverEmpty target memory (Remap base phys rights) number address = ⊥
LiesOverEmpty target memory (Split base) number address = ⊥
LiesOverEmpty target memory (Join base) number address = ⊥
LiesOverEmpty target memory (Prune at) number address = ⊥
LiesOverEmpty target memory (UnmapPart base first count) number address = ⊥
LiesOverEmpty target memory (Collapse base phys rights) number address = ⊥

-- the word at this index of a table on a way links to a frame beyond the physical addresses
pub record LeadsBeyond (target : Target) (memory : Memory) (number index : ℕ) : Type 0 where
  pub level : ℕ
  pub address : ℕ
  pub rights : Rights
  pub next : ℕ
  pub own : Rights
  pub way : IsWay target.depth memory target.root address (suc level) number rights
  pub index_is : index ≡ index_at (suc level) address
  pub link : found_at (suc level) memory number address ≡ Some (entry.Table next own)
  pub beyond : frames_end target ≤ next

-- the entries that lead to a table on the way allow less than these rights
pub record AllowsLess (target : Target) (memory : Memory) (address : ℕ) (wanted : Rights) : Type 0 where
  pub level : ℕ
  pub number : ℕ
  pub rights : Rights
  pub way : IsWay target.depth memory target.root address level number rights
  pub less : intersection rights wanted ≢ wanted

-- a page is to allow more than the entries above it
abbrev pub WantsMore : Target → Memory → Request → Type 0
WantsMore target memory (Map page bits) = AllowsLess target memory page.base page.rights
WantsMore target memory (Unmap base) = ⊥
WantsMore target memory (Protect base rights) = AllowsLess target memory base rights
WantsMore target memory (Ask address) = ⊥
WantsMore target memory (Remap base phys rights) = AllowsLess target memory base rights
WantsMore target memory (Split base) = ⊥
WantsMore target memory (Join base) = ⊥
WantsMore target memory (Prune address) = ⊥
WantsMore target memory (UnmapPart base first count) = ⊥
WantsMore target memory (Collapse base phys rights) = AllowsLess target memory base rights

-- the entry at an index of a table follows on from its first one, of a page of this size: as many pages on, with the same other bits but
-- for the flags
abbrev pub Follows : Size → ℕ → ℕ → ℕ → Type 0
Follows size first index word = unflagged word ≡ unflagged first + index * bytes_of size

-- the entries of a table below an index follow on from its first one
abbrev pub FollowBelow : Memory → ℕ → Size → ℕ → ℕ → Type 0
FollowBelow memory number size first index = (i : ℕ) → i < index → (word : ℕ) × (word_at memory number i ≡ Some word) × Follows size first i word

-- the first entry of a table that doesn't follow on from the entry of the page that begins at the base
pub record IsApart (target : Target) (memory : Memory) (base index : ℕ) : Type 0 where
  pub level : ℕ
  pub number : ℕ
  pub first : ℕ
  pub word : ℕ
  pub reached : table_at (levels target.depth) memory target.root level base ≡ Some number
  pub first_is : word_at memory number (index_at level base) ≡ Some first
  pub leaf : (phys : ℕ) × (own : Rights) × (meaning level first ≡ entry.Leaf phys own)
  pub within : index < 512
  pub word_is : word_at memory number index ≡ Some word
  pub apart : Follows (size_at level) first index word → ⊥
  pub before : FollowBelow memory number (size_at level) first index

-- the entry of a page of this size has the same rights and bits as the first one, whatever its address and its flags
abbrev pub IsLike : Size → ℕ → ℕ → Type 0
IsLike size first word = unflagged (with_address size word 0) ≡ unflagged (with_address size first 0)

-- the entries of a table below an index are like its first one
abbrev pub AreLikeBelow : Memory → ℕ → Size → ℕ → ℕ → Type 0
AreLikeBelow memory number size first index = (i : ℕ) → i < index → (word : ℕ) × (word_at memory number i ≡ Some word) × IsLike size first word

-- the first entry of a table that isn't like the entry of the page that begins at the base
pub record IsUnlike (target : Target) (memory : Memory) (base index : ℕ) : Type 0 where
  pub level : ℕ
  pub number : ℕ
  pub first : ℕ
  pub word : ℕ
  pub reached : table_at (levels target.depth) memory target.root level base ≡ Some number
  pub first_is : word_at memory number (index_at level base) ≡ Some first
  pub leaf : (phys : ℕ) × (own : Rights) × (meaning level first ≡ entry.Leaf phys own)
  pub within : index < 512
  pub word_is : word_at memory number index ≡ Some word
  pub unlike : IsLike (size_at level) first word → ⊥
  pub before : AreLikeBelow memory number (size_at level) first index

-- an entry keeps the pages of a table from being joined, or replaced by one
abbrev pub KeepsApart : Target → Memory → Request → ℕ → Type 0
KeepsApart target memory (Map page bits) index = ⊥
KeepsApart target memory (Unmap base) index = ⊥
KeepsApart target memory (Protect base rights) index = ⊥
KeepsApart target memory (Ask address) index = ⊥
KeepsApart target memory (Remap base phys rights) index = ⊥
KeepsApart target memory (Split base) index = ⊥
KeepsApart target memory (Join base) index = IsApart target memory base index
KeepsApart target memory (Prune address) index = ⊥
KeepsApart target memory (UnmapPart base first count) index = ⊥
KeepsApart target memory (Collapse base phys rights) index = IsUnlike target memory base index

-- the page that begins at the base lies in a table that stays
pub record LiesInPinned (target : Target) (memory : Memory) (base : ℕ) : Type 0 where
  pub level : ℕ
  pub number : ℕ
  pub first : ℕ
  pub reached : table_at (levels target.depth) memory target.root level base ≡ Some number
  pub first_is : word_at memory number (index_at level base) ≡ Some first
  pub leaf : (phys : ℕ) × (own : Rights) × (meaning level first ≡ entry.Leaf phys own)
  pub stays : highest_link target ≤ level

-- the table of the pages of a join or a collapse stays
abbrev pub KeepsTable : Target → Memory → Request → Type 0
KeepsTable target memory (Map page bits) = ⊥
KeepsTable target memory (Unmap base) = ⊥
KeepsTable target memory (Protect base rights) = ⊥
KeepsTable target memory (Ask address) = ⊥
KeepsTable target memory (Remap base phys rights) = ⊥
KeepsTable target memory (Split base) = ⊥
KeepsTable target memory (Join base) = LiesInPinned target memory base
KeepsTable target memory (Prune address) = ⊥
KeepsTable target memory (UnmapPart base first count) = ⊥
KeepsTable target memory (Collapse base phys rights) = LiesInPinned target memory base

-- the answer is that of the step, or there is a reason for none; the frames were offered
abbrev pub IsReply : Target → Request → Memory → Space → List (Option ℕ) → Reply → Type 0
IsReply target request memory space offered (replies.Answer answer) = answer ≡ (stepped target.depth space request).answer
IsReply target request memory space offered replies.NoFrame = Contains offered None
IsReply target request memory space offered (replies.FrameRange number) = Contains offered (Some number) × (frames_end target ≤ number)
IsReply target request memory space offered replies.Rights =
    WantsMore target memory request × IsTrue (changes (stepped target.depth space request).answer)
IsReply target request memory space offered (replies.Empty number address) = LiesOverEmpty target memory request number address
IsReply target request memory space offered (replies.Reserved number index) = LeadsBeyond target memory number index
IsReply target request memory space offered replies.PhysUnaligned = refusal target space request ≡ Some replies.PhysUnaligned
IsReply target request memory space offered replies.PhysRange = refusal target space request ≡ Some replies.PhysRange
IsReply target request memory space offered replies.Smallest = refusal target space request ≡ Some replies.Smallest
IsReply target request memory space offered replies.Largest = refusal target space request ≡ Some replies.Largest
IsReply target request memory space offered replies.Unaligned = refusal target space request ≡ Some replies.Unaligned
IsReply target request memory space offered (replies.Apart index) =
    KeepsApart target memory request index × IsTrue (changes (stepped target.depth space request).answer)
IsReply target request memory space offered replies.Pinned =
    KeepsTable target memory request × IsTrue (changes (stepped target.depth space request).answer)

-- the refusal that a reply is, if it is one
abbrev pub refusal_in : Reply → Option Reply
refusal_in (replies.Answer answer) = None
refusal_in replies.NoFrame = None
refusal_in (replies.FrameRange number) = None
refusal_in replies.Rights = None
refusal_in (replies.Empty number address) = None
refusal_in (replies.Reserved number index) = None
refusal_in replies.PhysUnaligned = Some replies.PhysUnaligned
refusal_in replies.PhysRange = Some replies.PhysRange
refusal_in replies.Smallest = Some replies.Smallest
refusal_in replies.Largest = Some replies.Largest
refusal_in replies.Unaligned = Some replies.Unaligned
refusal_in (replies.Apart index) = None
refusal_in replies.Pinned = None

-- what a page's size and addresses forbid is answered where it holds, and only there; but not where a link leads beyond the physical addresses
abbrev pub IsDue : Target → Space → Request → Reply → Type 0
IsDue target space request (replies.Reserved number index) = Unit {0}
IsDue target space request reply = refusal target space request ≡ refusal_in reply

-- the space after the stores
abbrev pub space_after : Target → Request → Space → Reply → Space
space_after target request space (replies.Answer answer) = (stepped target.depth space request).space
space_after target request space replies.NoFrame = space
space_after target request space (replies.FrameRange number) = space
space_after target request space replies.Rights = space
space_after target request space (replies.Empty number address) = space
space_after target request space (replies.Reserved number index) = space
space_after target request space replies.PhysUnaligned = space
space_after target request space replies.PhysRange = space
space_after target request space replies.Smallest = space
space_after target request space replies.Largest = space
space_after target request space replies.Unaligned = space
space_after target request space (replies.Apart index) = space
space_after target request space replies.Pinned = space

-- whether something is changed
abbrev pub Changes : Reply → Type 0
Changes (replies.Answer answer) = IsFalse (changes answer) → ⊥
Changes replies.NoFrame = ⊥
Changes (replies.FrameRange number) = ⊥
Changes replies.Rights = ⊥
Changes (replies.Empty number address) = ⊥
Changes (replies.Reserved number index) = ⊥
Changes replies.PhysUnaligned = ⊥
Changes replies.PhysRange = ⊥
Changes replies.Smallest = ⊥
Changes replies.Largest = ⊥
Changes replies.Unaligned = ⊥
Changes (replies.Apart index) = ⊥
Changes replies.Pinned = ⊥
