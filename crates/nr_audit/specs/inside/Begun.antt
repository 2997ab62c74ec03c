-- What is found of a start, and the touches of a segment as a list. No public clause cites this file.
use Rattle.std.specs.Prelude.{◌≡◌, ◌⊎◌, ℕ, ◌+◌, ◌<◌, ◌≤◌, Bool, List, [], length, slice_get, true, false, Option, Some, None, All, Contains, IsTrue}
use Rattle.std.specs.List.{AllPairs}
use Rattle.vs_types.specs.Page.{bytes_of, covers, IsPage}
use Rattle.vs_types.specs.Space.{Space}
use Rattle.vs_types.specs.declared.addresses.depth.Depth.{Depth}
use Rattle.vs_types.specs.declared.addresses.page.Page.{Page}
use Rattle.vs_types.specs.declared.addresses.page.TheConstants.Page.{PHYS_END}
use Rattle.vs_walk.specs.Differences.{IsStray}
use Rattle.vs_types.specs.declared.requests.op.Action.{Action}
use Rattle.vs_types.specs.declared.requests.op.Action.TheVariants.{Map, Unmap, Protect}
use Rattle.vs_walk.specs.Dump.{Image}
use Rattle.vs_walk.specs.Traversal.{walk_fault}
use Rattle.nr_trace.specs.Recording.{IsRecording, Recording}
use Rattle.nr_trace.specs.Calls.{operation_of, Answers, IsTouch}
use Rattle.nr_trace.specs.declared.recordings.event.Event.{Event}
use Rattle.nr_trace.specs.declared.recordings.event.Event.TheVariants as events
use Rattle.nr_trace.specs.declared.recordings.event.Asked.TheVariants as askeds
use Rattle.nr_touch.specs.declared.releases.release.Release.{Release}
use Rattle.nr_touch.specs.declared.touches.touch.Touch.{Touch}
use Rattle.nr_trace.specs.declared.refusals.fault.Fault.{Fault}
use Rattle.nr_trace.specs.declared.refusals.fault.Fault.TheVariants.{StartMissing, StartShared, StartReserved, StartStray, StartBeyond, StartDiffers}
use Rattle.nr_trace.specs.Run.{Run}
use Rattle.nr_touch.specs.Tails.{IsTailOf}
use Rattle.nr_touch.specs.declared.touches.tail.Tail.{Tail}
use Rattle.nr_audit.specs.Start.{HoldsOfStart}
use Rattle.nr_audit.specs.Releases.{HasRelease, IsWrongAt}
use Rattle.nr_audit.specs.Touches.{known_when, HasTouch, IsStale}

-- the first fault of the traversal comes first, then a stray frame, then a page beyond, then an address that differs
abbrev pub rank_in_start : Fault → ℕ
rank_in_start (StartMissing number) = 1
rank_in_start (StartShared number) = 1
rank_in_start (StartReserved number index) = 1
rank_in_start (StartStray number) = 2
rank_in_start (StartBeyond base) = 3
rank_in_start (StartDiffers address) = 4
rank_in_start fault = 0

-- the fault holds of the start, and no earlier one does
pub record IsFirstOfStart (depth : Depth) (before : Option Space) (start : Image) (fault : Fault) : Type 0 where
  pub holds : HoldsOfStart depth before start fault
  pub none_earlier : (other : Fault) → HoldsOfStart depth before start other → rank_in_start other < rank_in_start fault → ⊥

-- whichever space comes before
abbrev pub IsFirstOfAny : Depth → Image → Fault → Type 0
IsFirstOfAny depth start fault = (before : Option Space) → IsFirstOfStart depth before start fault

-- the tables lead to no frame that is missing and to none twice, no word of them has a reserved bit set, and they lead to each frame
pub record HasRightTables (depth : Depth) (start : Image) : Type 0 where
  pub walked : walk_fault depth start.frames start.root ≡ None
  pub none_stray : (number : ℕ) → IsStray depth start.frames start.root number → ⊥

abbrev pub HasNoStartFault : Depth → Option Space → Image → Type 0
HasNoStartFault depth before start = (fault : Fault) → HoldsOfStart depth before start fault → ⊥

-- well-formed pages by rising base, no two of which cover one address
pub record AreApart (depth : Depth) (pages : List Page) : Type 0 where
  pub well_formed : All (IsPage depth) pages
  pub rise : AllPairs (λ p q. p.base < q.base) pages
  pub apart : (p q : Page) (address : ℕ) → Contains pages p → Contains pages q → IsTrue (covers p address) → IsTrue (covers q address) → p ≡ q

-- the page ends above the physical addresses that a page may have
abbrev pub EndsBeyond : Page → Type 0
EndsBeyond page = PHYS_END < page.phys + bytes_of page.size

-- the base of the first of some pages that ends there
abbrev pub IsFirstBeyond : List Page → ℕ → Type 0
IsFirstBeyond pages base = (index : ℕ) × (page : Page) × (slice_get pages index ≡ Some page) × (page.base ≡ base) × EndsBeyond page
    × ((lower : ℕ) (other : Page) → lower < index → slice_get pages lower ≡ Some other → EndsBeyond other → ⊥)

abbrev pub HasNoneBeyond : List Page → Type 0
HasNoneBeyond pages = All (λ page. page.phys + bytes_of page.size ≤ PHYS_END) pages

-- the touch that is made by one event, of this number, and answered by another, of that number, if these are that; so many entries are known at it
abbrev pub touch_by : ℕ → ℕ → ℕ → Option Event → Option Event → Option Touch
touch_by made answered known (Some (events.Call replica thread (askeds.Touch address mode access))) (Some (events.Reply call at answer)) =
    Some (record { made = made; answered = answered; known = known; address = address; mode = mode; access = access; answer = answer })
touch_by made answered known event reply = None

abbrev pub touch_between : Recording → ℕ → ℕ → Option Touch
touch_between segment made answered = touch_by made answered (known_when segment made) (slice_get segment.events made) (slice_get segment.events answered)

-- the answered touches that are made below an event, by the event at which they are made
pub record AreTouchesBelow (segment : Recording) (end : ℕ) (touches : List Touch) : Type 0 where
  pub each : (index : ℕ) (touch : Touch) → slice_get touches index ≡ Some touch → HasTouch segment touch × (touch.made < end)
  pub all : (touch : Touch) → HasTouch segment touch → touch.made < end → (index : ℕ) × (slice_get touches index ≡ Some touch)
  pub rising : AllPairs (λ first second. first.made < second.made) touches

-- the answered touch that is made at an event, if there is one
abbrev pub IsTouchAt : Recording → ℕ → Option Touch → Type 0
IsTouchAt segment made None = (touch : Touch) → HasTouch segment touch → touch.made ≡ made → ⊥
IsTouchAt segment made (Some touch) =
    HasTouch segment touch × (touch.made ≡ made) × ((other : Touch) → HasTouch segment other → other.made ≡ made → other ≡ touch)

-- an event is a touch or a release
abbrev pub HasSomeTouch : Recording → Type 0
HasSomeTouch segment = (call : ℕ) × IsTouch segment call

-- the call that the log has at the place is answered
abbrev pub IsPlaceAnswered : Recording → ℕ → Type 0
IsPlaceAnswered segment place = (call : ℕ) → slice_get segment.log place ≡ Some call → (reply : ℕ) × Answers segment reply call

-- each call of the log is answered
abbrev pub ArePlacesAnswered : Recording → Type 0
ArePlacesAnswered segment = (place : ℕ) → place < length segment.log → IsPlaceAnswered segment place

-- whether an operation gives a page other rights
abbrev pub is_protect : Option Action → Bool
is_protect (Some (Protect base rights)) = true
is_protect (Some (Map page)) = false
is_protect (Some (Unmap base)) = false
is_protect None = false

-- the call that the log has at the place gives no page other rights
abbrev pub IsPlacePlain : Recording → ℕ → Type 0
IsPlacePlain segment place = (call : ℕ) → slice_get segment.log place ≡ Some call → is_protect (operation_of segment call) ≡ false

-- no call of the log does
abbrev pub ArePlacesPlain : Recording → Type 0
ArePlacesPlain segment = (place : ℕ) → place < length segment.log → IsPlacePlain segment place

-- nothing is left so far, and nothing by the segment: each call of its log is answered, and none gives a page other rights
pub record LeavesNothing (segment : Recording) (tail : Tail) : Type 0 where
  pub none : IsTailOf None tail
  pub answered : ArePlacesAnswered segment
  pub plain : ArePlacesPlain segment

-- the segment has no touch or release, and leaves what was left so far: its log is empty, or nothing was left and nothing is by it
pub record IsQuiet (segment : Recording) (tail : Tail) : Type 0 where
  pub untouched : HasSomeTouch segment → ⊥
  pub leaves : (segment.log ≡ []) ⊎ LeavesNothing segment tail
  pub in_range : IsRecording segment

-- the release that is made by an event, of this number, if it is one; it is answered by nothing but Done, or not
abbrev pub release_by : ℕ → Bool → Option Event → Option Release
release_by made done (Some (events.Call replica thread (askeds.Release size phys))) = Some (record { made = made; size = size; phys = phys; is_done = done })
release_by made done event = None

-- the releases that are made below an event, by the event at which they are made
pub record AreReleasesBelow (segment : Recording) (end : ℕ) (releases : List Release) : Type 0 where
  pub each : (index : ℕ) (release : Release) → slice_get releases index ≡ Some release → HasRelease segment release × (release.made < end)
  pub all : (release : Release) → HasRelease segment release → release.made < end → (index : ℕ) × (slice_get releases index ≡ Some release)
  pub rising : AllPairs (λ first second. first.made < second.made) releases

-- the release that is made at an event, if there is one
abbrev pub IsReleaseAt : Recording → ℕ → Option Release → Type 0
IsReleaseAt segment made None = (release : Release) → HasRelease segment release → release.made ≡ made → ⊥
IsReleaseAt segment made (Some release) =
    HasRelease segment release × (release.made ≡ made) × ((other : Release) → HasRelease segment other → other.made ≡ made → other ≡ release)

-- the release of this number is wrong, and none of a lower number is
pub record IsFirstWrong (before : Option Run) (start : Space) (segment : Recording) (call : ℕ) : Type 0 where
  pub wrong : IsWrongAt before start segment call
  pub none_lower : (lower : ℕ) → lower < call → IsWrongAt before start segment lower → ⊥

-- the touch of this number is stale, and none of a lower number is
pub record IsFirstStale (before : Option Run) (start : Space) (segment : Recording) (call : ℕ) : Type 0 where
  pub stale : IsStale before start segment call
  pub none_lower : (lower : ℕ) → lower < call → IsStale before start segment lower → ⊥
