-- What each kind of evidence says of a segment: which fault it shows, and its facts, each one of the segment, or of the space before it.
use Rattle.std.specs.Prelude.{◌≡◌, ◌≢◌, ◌↔◌, ℕ, ◌+◌, ◌<◌, ◌≤◌, ◌⊎◌, min, List, All, AllPairs, Contains, Bool, true, Option, None, Some, is_none, is_some}
use Rattle.std.specs.Prelude.{slice_get, IfSome, IsSome, ⊤}
use Rattle.vs_types.specs.Depth.{levels, IsCanonical}
use Rattle.vs_types.specs.Page.{bytes_of}
use Rattle.vs_types.specs.Space.{Space}
use Rattle.vs_types.specs.Step.{look, look_in_page}
use Rattle.vs_types.specs.declared.addresses.access.Access.{Access}
use Rattle.vs_types.specs.declared.addresses.access.Mode.{Mode}
use Rattle.vs_types.specs.declared.requests.answer.Answer.{Answer}
use Rattle.vs_types.specs.declared.requests.answer.Answer.TheVariants.{Done}
use Rattle.vs_types.specs.declared.addresses.depth.Depth.{Depth}
use Rattle.vs_types.specs.declared.addresses.page.Page.{Page}
use Rattle.vs_types.specs.declared.addresses.page.TheConstants.Page.{PHYS_END}
use Rattle.vs_types.specs.declared.requests.request.Query.TheVariants as queries
use Rattle.vs_walk.specs.Differences.{IsStray}
use Rattle.vs_walk.specs.Dump.{Image}
use Rattle.vs_walk.specs.Traversal.{found_in}
use Rattle.vs_walk.specs.Walk.{walk, as_walk}
use Rattle.nr_trace.specs.Recording.{Recording}
use Rattle.nr_trace.specs.Faults.{HasDump}
use Rattle.nr_trace.specs.Orders.{before}
use Rattle.nr_trace.specs.declared.recordings.event.Asked.TheVariants as askeds
use Rattle.nr_trace.specs.declared.refusals.fault.Fault.{Fault}
use Rattle.nr_trace.specs.declared.refusals.fault.Fault.TheVariants as faults
use Rattle.nr_trace.specs.Run.{Run}
use Rattle.nr_touch.specs.Releases.{IsLeastReached}
use Rattle.nr_touch.specs.Tails.{Lingers}
use Rattle.nr_touch.specs.Touches.{page_after, ChangesLook, IsAllowedPrefix, IsLagging}
use Rattle.nr_touch.specs.declared.releases.release.Release.{Release}
use Rattle.nr_touch.specs.declared.touches.touch.Touch.{Touch}
use Rattle.nr_audit.specs.Touches.{HasTouch}
use Rattle.nr_explain.specs.Evidence.{IsDifferenceFrom, IsEvidence, IsMissingTable, IsOtherAnswerFrom, IsReservedEntry, IsSharedTable}
use Rattle.nr_explain.specs.Facts.{IsCallOf, IsFirstReplyTo, IsReplyOf, entries_read, looks_from}
use Rattle.nr_explain.specs.ChainFacts.{is_mapped, EndsFinding, IsChangedAt, IsLagOf, IsOpenEnd, IsOrigin, IsTakenFrom, LeadsInto}
use Rattle.nr_explain.specs.declared.trace.evidence.Owner.TheVariants as owners
use Rattle.nr_explain.specs.declared.chain.evidence.Lag.{Lag}
use Rattle.nr_explain.specs.declared.chain.evidence.Leading.{Leading}
use Rattle.nr_explain.specs.declared.chain.evidence.Leading.TheVariants.{Within, Earlier}
use Rattle.nr_explain.specs.Nearest.{IsNearest}
use Rattle.nr_explain.specs.declared.chain.evidence.MissedUpdate.{MissedUpdate}
use Rattle.nr_explain.specs.declared.chain.evidence.Moment.{Moment}
use Rattle.nr_explain.specs.declared.chain.evidence.OpenUpdate.{OpenUpdate}
use Rattle.nr_explain.specs.declared.chain.evidence.Reach.{Reach}
use Rattle.nr_explain.specs.declared.chain.evidence.WhyWrong.{WhyWrong}
use Rattle.nr_explain.specs.declared.chain.evidence.WhyWrong.TheVariants.{Otherwise, Reached}
use Rattle.nr_explain.specs.declared.chain.evidence.WrongRelease.{WrongRelease}
use Rattle.nr_explain.specs.declared.chain.evidence.Given.{Given}
use Rattle.nr_explain.specs.declared.trace.evidence.PlacedUpdate.{PlacedUpdate}
use Rattle.nr_explain.specs.declared.trace.evidence.RecordedCall.{RecordedCall}
use Rattle.nr_explain.specs.declared.trace.nearby.Stretch.{Stretch}
use Rattle.nr_explain.specs.declared.chain.evidence.StaleTouch.{StaleTouch}
use Rattle.nr_explain.specs.declared.chain.evidence.StartBeyond.{StartBeyond}
use Rattle.nr_explain.specs.declared.chain.evidence.StartDiffers.{StartDiffers}
use Rattle.nr_explain.specs.declared.chain.evidence.SegmentEvidence.{SegmentEvidence}
use Rattle.nr_explain.specs.declared.chain.evidence.SegmentEvidence.TheVariants as evidence

-- ---- starts

-- the tables lead to the page, which ends above the physical addresses that a page may have; the walk of its base reads these entries
pub record IsStartBeyond (depth : Depth) (start : Image) (wrong : StartBeyond) : Type 0 where
  pub found : Contains (found_in depth start) wrong.page
  pub beyond : PHYS_END < wrong.page.phys + bytes_of wrong.page.size
  pub path : wrong.path.items ≡ entries_read start.frames (levels depth) start.root wrong.page.base

-- the start translates the address so, by these entries, and the space before it otherwise
pub record IsStartDiffers (began : Option Space) (depth : Depth) (start : Image) (before : Space) (wrong : StartDiffers) : Type 0 where
  pub canonical : IsCanonical depth wrong.address
  pub found : wrong.found ≡ walk depth start.frames start.root wrong.address
  pub path : wrong.path.items ≡ entries_read start.frames (levels depth) start.root wrong.address
  pub wanted : wrong.wanted ≡ look before wrong.address
  pub differs : wrong.found ≢ as_walk wrong.wanted
  pub origin : IsOrigin began before wrong.address wrong.origin

-- the segment has a start with the property
abbrev pub HasStart : Recording → (Image → Type 0) → Type 0
HasStart segment P = (start : Image) × (segment.start ≡ Some start) × P start

-- ---- touches

-- the moments after so many entries of which these are listed: the first one, and each at which the address looks otherwise than after one entry less
pub record AreLooks (start : Space) (segment : Recording) (address first last : ℕ) (looks : List Moment) : Type 0 where
  pub within : All (λ moment. (first ≤ moment.entries) × (moment.entries ≤ last)) looks
  pub are : All (λ moment. moment.look ≡ looks_from start segment address moment.entries) looks
  pub rising : AllPairs (λ moment later. moment.entries < later.entries) looks
  pub changed : All (λ moment. (moment.entries ≡ first) ⊎ IsChangedAt start segment address moment.entries) looks
  pub all : (n : ℕ) → first ≤ n → n ≤ last → (n ≡ first) ⊎ IsChangedAt start segment address n
      → (moment : Moment) × Contains looks moment × (moment.entries ≡ n)

-- the fewest entries of its segment after which a touch may be answered, also by a table that lags
abbrev pub fewest : ℕ → Option Lag → ℕ
fewest first None = first
fewest first (Some lag) = min first lag.known

-- by a table that lags the touch may be answered just from these moments, of those after which no page has its address
abbrev pub IsLagWindow : Space → Recording → StaleTouch → Lag → Type 0
IsLagWindow start segment stale lag = (touch : Touch) → HasTouch segment touch → touch.made ≡ stale.call.event → (n : ℕ)
    → IsLagging start segment touch n ↔ ((lag.known ≤ n) × (n ≤ stale.last) × (page_after start segment touch.address n ≡ None))

-- whether a touch found a page: where it found none, it is said how far the table of its replica may lag
abbrev pub found_page : Option Lag → Bool
found_page lag = is_none lag

-- the update is the last entry of the first ones, this many: it ends what a touch of the address found, and is answered before an event; or there are
-- none
abbrev pub IsMissed : Space → Recording → ℕ → ℕ → Bool → ℕ → Option MissedUpdate → Type 0
IsMissed start segment address made with_page first None = first ≡ 0
IsMissed start segment address made with_page first (Some missed) =
    (missed.update.place + 1 ≡ first) × (slice_get segment.log missed.update.place ≡ Some missed.update.call.event) × IsCallOf segment missed.update.call
    × IsFirstReplyTo segment missed.update.call.event (Some missed.reply) × (missed.reply.event < made)
    × EndsFinding start segment address with_page missed.update.place

-- the update is the first of the places below an end that ends what a touch of the address found, and isn't answered before an event; and how it is
-- answered first. Or there is none
abbrev pub IsOpenBefore : Space → Recording → ℕ → ℕ → Bool → ℕ → Option OpenUpdate → Type 0
IsOpenBefore start segment address made with_page end None =
    (place : ℕ) → place < end → IsOpenEnd start segment address made with_page place → ⊥
IsOpenBefore start segment address made with_page end (Some found) =
    (found.update.place < end) × (slice_get segment.log found.update.place ≡ Some found.update.call.event) × IsCallOf segment found.update.call
    × IsFirstReplyTo segment found.update.call.event found.reply × IsOpenEnd start segment address made with_page found.update.place
    × ((place : ℕ) → place < found.update.place → IsOpenEnd start segment address made with_page place → ⊥)

-- the update comes behind so many entries: it changes how the address looks, and is made after an event. It is named where an answer is right after
-- more entries
abbrev pub IsLater : Space → Recording → ℕ → ℕ → ℕ → Option Stretch → Option PlacedUpdate → Type 0
IsLater start segment address answered last behind None = behind ≡ None
IsLater start segment address answered last behind (Some update) =
    IsSome behind × (update.place ≡ last) × (slice_get segment.log last ≡ Some update.call.event) × IsCallOf segment update.call
    × (answered < update.call.event) × ChangesLook start segment address last

-- the touch is answered so, and may be answered from just these moments of its segment. These are of those in which its address has a page
-- or none, as the touch found it; where it found none, by a table that lags too. Which update it should have seen, which was open then,
-- which was made later, and after which numbers of entries it would be right
pub record IsStaleTouch (start : Space) (segment : Recording) (stale : StaleTouch) : Type 0 where
  pub call : IsCallOf segment stale.call
  pub address : ℕ
  pub mode : Mode
  pub access : Access
  pub asks : stale.call.asked ≡ askeds.Touch address mode access
  pub reply : IsReplyOf segment stale.reply
  pub names : stale.reply.call ≡ stale.call.event
  pub window : (touch : Touch) → HasTouch segment touch → touch.made ≡ stale.call.event → (n : ℕ)
      → is_some (page_after start segment touch.address n) ≡ found_page stale.lag
      → IsAllowedPrefix start segment touch n ↔ ((stale.first ≤ n) × (n ≤ stale.last))
  pub lag : IsLagOf segment stale.call stale.reply.answer stale.lag
  pub lagging : IfSome stale.lag (IsLagWindow start segment stale)
  pub looks : AreLooks start segment address (fewest stale.first stale.lag) stale.last stale.looks.items
  pub missed : IsMissed start segment address stale.call.event (found_page stale.lag) stale.first stale.missed
  pub open_then : IsOpenBefore start segment address stale.call.event (found_page stale.lag) stale.first stale.still_open
  pub later : IsLater start segment address stale.reply.event stale.last stale.right.behind stale.later
  pub right : IsNearest start segment (queries.Access address mode access) stale.reply.answer stale.first stale.last stale.right

-- an address lingers to look so behind a run
abbrev pub LingersBehind : Option Run → ℕ → Answer → Type 0
LingersBehind None address seen = ⊥
LingersBehind (Some run) address seen = (page : Option Page) × Lingers run.start run.trace address page × (seen ≡ look_in_page address page)

-- a touch that found a page, or none, and may be answered from no entry of its segment may be answered too as its address lingers to look
-- behind the segments before. These are just the looks in which it has a page, or none, and else it may be answered in no earlier one
abbrev pub AreEarlier : Option Run → ℕ → ℕ → Bool → List Answer → Type 0
AreEarlier before address first with_page looks =
    (seen : Answer) → Contains looks seen ↔ ((first ≡ 0) × (is_mapped seen ≡ with_page) × LingersBehind before address seen)

-- ---- releases

-- after so many entries, which are allowed, the address looks so, and it leads into the memory after no more that are allowed; then that is taken away
-- so. Or it leads there after none that are allowed, and may look as behind the segments before
abbrev pub IsLeading : Space → Recording → Given → Reach → Leading → Type 0
IsLeading start segment given reach (Within entries taken) =
    (reach.first ≤ entries) × (entries ≤ reach.last) × (reach.look ≡ looks_from start segment reach.address entries)
    × ((n : ℕ) → entries < n → n ≤ reach.last → LeadsInto given (looks_from start segment reach.address n) → ⊥)
    × IsTakenFrom start segment reach.address given entries taken
IsLeading start segment given reach Earlier =
    (reach.first ≡ 0) × ((n : ℕ) → n ≤ reach.last → LeadsInto given (looks_from start segment reach.address n) → ⊥)

-- an access of the address that is made and answered at the event may be answered from just these moments, of those in which the address
-- has a page. So it looks at one of them: it leads into the memory
pub record IsReach (start : Space) (segment : Recording) (event : ℕ) (given : Given) (reach : Reach) : Type 0 where
  pub window : (touch : Touch) → touch.address ≡ reach.address → touch.made ≡ event → touch.answered ≡ event → (n : ℕ)
      → IsSome (page_after start segment touch.address n)
      → IsAllowedPrefix start segment touch n ↔ ((reach.first ≤ n) × (n ≤ reach.last))
  pub leads : LeadsInto given reach.look
  pub leading : IsLeading start segment given reach reach.leading

-- a release is wrong as its first reply says otherwise than Done; or no reply does so, and the memory that it gives away may be reached so
abbrev pub IsWrongSo : Space → Recording → RecordedCall → WhyWrong → Type 0
IsWrongSo start segment call (Otherwise reply) = IsFirstReplyTo segment call.event (Some reply) × (reply.answer ≢ Done)
IsWrongSo start segment call (Reached reply reach) =
    IsFirstReplyTo segment call.event reply × IfSome reply (λ it. it.answer ≡ Done)
    × (given : Given) × (call.asked ≡ askeds.Release given.size given.phys) × IsReach start segment call.event given reach

-- the release, and why it is wrong
pub record IsShownRelease (start : Space) (segment : Recording) (wrong : WrongRelease) : Type 0 where
  pub call : IsCallOf segment wrong.call
  pub why : IsWrongSo start segment wrong.call wrong.why

-- an address that leads somewhere behind the segments before lingers to look so there
abbrev pub LingersAs : Option Run → ℕ → Answer → Leading → Type 0
LingersAs before address seen (Within entries taken) = ⊤
LingersAs before address seen Earlier = LingersBehind before address seen

-- the release of the memory at an event, where no reply says otherwise than Done
abbrev pub release_at : ℕ → Given → Release
release_at event given = record { made = event; size = given.size; phys = given.phys; is_done = true }

-- so does that of a release whose memory may be reached from there; and it is the least address from which that may be reached
abbrev pub IsReachBehind : Option Run → Space → Recording → RecordedCall → WhyWrong → Type 0
IsReachBehind before start segment call (Otherwise reply) = ⊤
IsReachBehind before start segment call (Reached reply reach) =
    LingersAs before reach.address reach.look reach.leading
    × ((given : Given) → call.asked ≡ askeds.Release given.size given.phys
    → IsLeastReached before start segment (release_at call.event given) reach.address)

-- ---- what the segments before say

-- what shows a stale touch has the earlier looks too, and what shows a release such a look, and the least address
abbrev pub ShowsEarlier : Option Run → Space → Recording → SegmentEvidence → Type 0
ShowsEarlier before start segment (evidence.Stale stale) = (address : ℕ) (mode : Mode) (access : Access)
    → stale.call.asked ≡ askeds.Touch address mode access → AreEarlier before address stale.first (found_page stale.lag) stale.earlier.items
ShowsEarlier before start segment (evidence.Reachable wrong) = IsReachBehind before start segment wrong.call wrong.why
ShowsEarlier before start segment shown = ⊤

-- ---- all

-- what the fault says does not depend on the space with which the segment begins
abbrev pub IsOfItself : Fault → Type 0
IsOfItself (faults.Format fault) = ⊥
IsOfItself (faults.WrongAnswer call) = ⊥
IsOfItself (faults.Differs replica address) = ⊥
IsOfItself fault = ⊤

-- the evidence shows the fault of a segment that begins with this space, in a chain that begins with that one, where its first segment has a
-- start; and what it says is so. What shows a fault of the format is said of bytes
abbrev pub IsShown : Option Space → Option Space → Space → Recording → Fault → SegmentEvidence → Type 0
IsShown began before first segment fault (evidence.Format bad) = ⊥
IsShown began before first segment fault (evidence.Within shown) = IsOfItself fault × IsEvidence segment fault shown
IsShown began before first segment fault (evidence.WrongAnswer wrong origin) =
    (fault ≡ faults.WrongAnswer wrong.call.event) × IsOtherAnswerFrom first segment wrong
    × IsOrigin began first wrong.address origin
IsShown began before first segment fault (evidence.Differs wrong origin) =
    (fault ≡ faults.Differs wrong.replica wrong.address) × HasDump segment wrong.replica (IsDifferenceFrom first segment wrong)
    × IsOrigin began first wrong.address origin
IsShown began before first segment fault (evidence.StartMissing wrong) =
    (wrong.owner ≡ owners.Start) × (fault ≡ faults.StartMissing wrong.frame)
    × HasStart segment (λ start. IsMissingTable segment.layout.depth start wrong)
IsShown began before first segment fault (evidence.StartShared wrong) =
    (wrong.owner ≡ owners.Start) × (fault ≡ faults.StartShared wrong.frame)
    × HasStart segment (λ start. IsSharedTable segment.layout.depth start wrong)
IsShown began before first segment fault (evidence.StartReserved wrong) =
    (wrong.owner ≡ owners.Start) × (fault ≡ faults.StartReserved wrong.entry.frame wrong.entry.index)
    × HasStart segment (λ start. IsReservedEntry segment.layout.depth start wrong)
IsShown began before first segment fault (evidence.StartStray frame) =
    (fault ≡ faults.StartStray frame)
    × HasStart segment (λ start. IsStray segment.layout.depth start.frames start.root frame)
IsShown began before first segment fault (evidence.StartBeyond wrong) =
    (fault ≡ faults.StartBeyond wrong.page.base) × HasStart segment (λ start. IsStartBeyond segment.layout.depth start wrong)
IsShown began before first segment fault (evidence.StartDiffers wrong) =
    (fault ≡ faults.StartDiffers wrong.address)
    × HasStart segment (λ start. (space : Space) × (before ≡ Some space) × IsStartDiffers began segment.layout.depth start space wrong)
IsShown began before first segment fault (evidence.Stale stale) =
    (fault ≡ faults.Stale stale.call.event) × IsStaleTouch first segment stale
IsShown began before first segment fault (evidence.Reachable wrong) =
    (fault ≡ faults.Reachable wrong.call.event) × IsShownRelease first segment wrong
