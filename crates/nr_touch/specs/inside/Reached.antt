-- The pages that a touch may find, and how a release is compared with them. No public clause cites this file.
use Rattle.std.specs.Prelude.{◌≡◌, ℕ, ◌+◌, ◌*◌, ◌<◌, ◌≤◌, ◌&&◌, ◌⊎◌, min, nat_lt, not, true, List, None, Option, Some, Contains}
use Rattle.vs_types.specs.Page.{bytes_of}
use Rattle.vs_types.specs.declared.addresses.access.Access.TheVariants.{Read}
use Rattle.vs_types.specs.declared.addresses.access.Mode.TheVariants.{Supervisor}
use Rattle.vs_types.specs.declared.requests.answer.Answer.TheVariants.{Allowed}
use Rattle.vs_types.specs.declared.addresses.page.Page.{Page}
use Rattle.nr_touch.specs.Releases.{HasPhys, IsReachedFrom}
use Rattle.nr_touch.specs.Touches.{page_after, IsAllowedPrefix, IsRightBehind}
use Rattle.nr_touch.specs.inside.Earlier.{EndsNowhere, IsLeftAt}
use Rattle.nr_touch.specs.inside.Changes.{number_of, taken_at}
use Rattle.nr_touch.specs.inside.Columns.{IsOf}
use Rattle.nr_touch.specs.inside.Joined.{Behind}
use Rattle.nr_touch.specs.inside.Levels.{left_in}
use Rattle.nr_touch.specs.declared.changes.change.PlacedChange.{PlacedChange}
use Rattle.nr_touch.specs.declared.releases.release.Release.{Release}
use Rattle.nr_touch.specs.declared.releases.seen.Seen.{Seen}
use Rattle.nr_touch.specs.declared.touches.joined.Joined.{Joined}
use Rattle.nr_touch.specs.declared.touches.touch.Touch.{Touch}
pub use Rattle.nr_touch.specs.inside.Blocks.{IsRoomy, IsSamePlace}

-- the touch that is made and answered at an event, and finds this physical address at that one
abbrev pub probe_at : ℕ → ℕ → ℕ → Touch
probe_at event address phys = record {
  made = event;
  answered = event;
  known = 0;
  address = address;
  mode = Supervisor;
  access = Read;
  answer = Allowed phys;
}

-- the memory of a release has what lies so far behind the base of a page, and a touch that finds it there would be right
pub record IsMetAt {joined : Joined} (b : Behind joined) (release : Release) (page : Page) (offset : ℕ) : Type 0 where
  pub has : HasPhys release (page.phys + offset)
  pub right : IsRightBehind b.before b.start b.segment (probe_at release.made (page.base + offset) (page.phys + offset))

-- some frame of the page is so
pub record LeadsThere {joined : Joined} (b : Behind joined) (release : Release) (page : Page) : Type 0 where
  pub frame : ℕ
  pub within : frame * 4096 < bytes_of page.size
  pub met : IsMetAt b release page (frame * 4096)

-- an address is left to look so, and nothing ended this by the event
abbrev pub IsOpen : {joined : Joined} → Behind joined → ℕ → ℕ → Option Page → Type 0
IsOpen {joined} b event address page = EndsNowhere b.start b.segment address page event × IsLeftAt (left_in joined.earlier.items) address page

-- so of a frame of a page that the memory of a release has, at the release
pub record IsOpenThere {joined : Joined} (b : Behind joined) (release : Release) (page : Page) (frame : ℕ) : Type 0 where
  pub within : frame * 4096 < bytes_of page.size
  pub has : HasPhys release (page.phys + frame * 4096)
  pub open_so : IsOpen b release.made (page.base + frame * 4096) (Some page)

-- a touch that is made and answered at an event may find just this page at an address: as after so many entries of the segment, or as the changes leave it
abbrev pub FindsAt : {joined : Joined} → Behind joined → ℕ → Page → ℕ → ℕ → Type 0
FindsAt b event page address n = (IsAllowedPrefix b.start b.segment (probe_at event address 0) n × (page_after b.start b.segment address n ≡ Some page))
    ⊎ IsOpen b event address (Some page)

-- as after some number of entries
abbrev pub FindsPage : {joined : Joined} → Behind joined → ℕ → Page → ℕ → Type 0
FindsPage b event page address = (n : ℕ) × FindsAt b event page address n

-- the memory of a release has a frame of the page, and a touch may find this page there, or one of its place
pub record LeadsSo {joined : Joined} (b : Behind joined) (release : Release) (page : Page) : Type 0 where
  pub frame : ℕ
  pub within : frame * 4096 < bytes_of page.size
  pub has : HasPhys release (page.phys + frame * 4096)
  pub own : Page
  pub same : IsSamePlace page own
  pub finds : FindsPage b release.made own (page.base + frame * 4096)

-- the page is so as after at most so many entries
abbrev pub LeadsBy : {joined : Joined} → Behind joined → Release → Page → ℕ → Type 0
LeadsBy b release page places = (leads : LeadsSo b release page) × (leads.finds.0 ≤ places)

-- it is so at or below an address
abbrev pub LeadsBelow : {joined : Joined} → Behind joined → Release → ℕ → Page → ℕ → Type 0
LeadsBelow b release address page places = (leads : LeadsSo b release page) × (page.base + leads.frame * 4096 ≤ address) × (leads.finds.0 ≤ places)

-- some page of these is so
abbrev pub SomeLeadsSo : {joined : Joined} → Behind joined → Release → List Seen → Type 0
SomeLeadsSo b release seen = (s : Seen) × Contains seen s × LeadsSo b release s.page

-- the memory of a release is met in a frame of the page, and none before it leads there so
pub record IsFirstFrame {joined : Joined} (b : Behind joined) (release : Release) (page : Page) (frame : ℕ)
    : Type 0 where
  pub met : IsMetAt b release page (frame * 4096)
  pub first : (leads : LeadsSo b release page) → frame ≤ leads.frame

-- such a frame of the page, or none where it doesn't lead there so
abbrev pub FindsFrame : {joined : Joined} → Behind joined → Release → Page → Option ℕ → Type 0
FindsFrame b release page None = LeadsSo b release page → ⊥
FindsFrame b release page (Some frame) = IsFirstFrame b release page frame

-- an address from which the memory of a release is reached, where no page of these leads there so at a lower one
pub record IsLeastIn {joined : Joined} (b : Behind joined) (release : Release) (seen : List Seen)
    (address : ℕ) : Type 0 where
  pub from : IsReachedFrom b.before b.start b.segment release address
  pub least : (s : Seen) → Contains seen s → (leads : LeadsSo b release s.page) → address ≤ s.page.base + leads.frame * 4096

-- such an address, or none where no page of these leads there so
abbrev pub FindsAddress : {joined : Joined} → Behind joined → Release → List Seen → Option ℕ → Type 0
FindsAddress b release seen None = SomeLeadsSo b release seen → ⊥
FindsAddress b release seen (Some address) = IsLeastIn b release seen address

-- an address, or another one if there is one and that is lower
abbrev pub IsLower : Option ℕ → ℕ → ℕ → Type 0
IsLower None other lower = lower ≡ other
IsLower (Some address) other lower = lower ≡ min address other

-- a page that is there after the whole log; before a change of the segment; or before one that earlier segments left, which doesn't end that it is found
abbrev pub seen_now : ℕ → Page → Seen
seen_now places page = record { page = page; place = places; there = true }

abbrev pub seen_before : PlacedChange → Seen
seen_before c = record { page = c.change.page; place = c.place; there = c.change.was_mapped }

abbrev pub seen_left : PlacedChange → Seen
seen_left c = record { page = c.change.page; place = 0; there = c.change.was_mapped && not (nat_lt (taken_at c) 4294967295) }

-- all of them, of the pages that are there after the log
pub record AreSeen (joined : Joined) (earlier : List PlacedChange) (after : List Page) (seen : List Seen) : Type 0 where
  pub present : (page : Page) → Contains after page → Contains seen (seen_now joined.places page)
  pub before : (c : PlacedChange) → Contains joined.history.changes.items c → Contains seen (seen_before c)
  pub left : (c : PlacedChange) → Contains earlier c → Contains seen (seen_left c)
  pub roomy : (s : Seen) → Contains seen s → IsRoomy s.page

-- so far as the changes of the page itself say, a touch may find it at an event
pub record IsAlive (changes : List PlacedChange) (s : Seen) (event : ℕ) : Type 0 where
  pub there : s.there ≡ true
  pub from : (c : PlacedChange) → Contains changes c → IsOf (number_of s.page) c → c.place < s.place → c.made ≤ event
  pub until : (c : PlacedChange) → Contains changes c → IsOf (number_of s.page) c → s.place ≤ c.place → event ≤ taken_at c
