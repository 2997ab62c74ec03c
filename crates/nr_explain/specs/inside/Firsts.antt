-- The first fault of a segment, by the space before it alone. No public clause cites this file.
use Rattle.std.specs.Prelude.{◌≡◌, ℕ, ◌↔◌, Bool, List, Contains, Option, ⊤}
use Rattle.vs_types.specs.Space.{Space}
use Rattle.vs_types.specs.declared.addresses.access.Access.{Access}
use Rattle.vs_types.specs.declared.addresses.access.Mode.{Mode}
use Rattle.vs_types.specs.declared.requests.answer.Answer.{Answer}
use Rattle.nr_trace.specs.Recording.{Recording}
use Rattle.nr_trace.specs.Faults.{Earlier, HasFaultFrom}
use Rattle.nr_trace.specs.Laws.{HasCleanLog}
use Rattle.nr_trace.specs.declared.recordings.event.Asked.TheVariants as askeds
use Rattle.nr_trace.specs.declared.refusals.fault.Fault.{Fault}
use Rattle.nr_trace.specs.declared.refusals.fault.Fault.TheVariants.{StartMissing, StartShared, StartReserved, StartStray, StartBeyond, StartDiffers, Stale, Reachable}
use Rattle.nr_touch.specs.Looks.{IsLookLeft}
use Rattle.nr_touch.specs.Releases.{IsLeastReached, IsWrongRelease}
use Rattle.nr_touch.specs.Tails.{GoesOn}
use Rattle.nr_touch.specs.declared.releases.release.Release.{Release}
use Rattle.nr_touch.specs.declared.touches.tail.Left.{Left}
use Rattle.nr_touch.specs.declared.touches.touch.Touch.{Touch}
use Rattle.nr_audit.specs.Start.{first_space, BeginsRight, HasStartFault}
use Rattle.nr_audit.specs.Releases.{HasRelease}
use Rattle.nr_audit.specs.Touches.{HasTouch}
use Rattle.nr_explain.specs.ChainEvidence.{found_page, release_at}
use Rattle.nr_explain.specs.ChainFacts.{is_mapped}
use Rattle.nr_explain.specs.Progress.{ChainState, Seen, run_in, IsSeenOf}
use Rattle.nr_explain.specs.inside.Reading.{left_seen, space_seen}
use Rattle.nr_explain.specs.declared.chain.evidence.Leading.{Leading}
use Rattle.nr_explain.specs.declared.chain.evidence.Leading.TheVariants.{Within, Earlier as Before}
use Rattle.nr_explain.specs.declared.chain.evidence.Reach.{Reach}
use Rattle.nr_explain.specs.declared.chain.evidence.WhyWrong.{WhyWrong}
use Rattle.nr_explain.specs.declared.chain.evidence.WhyWrong.TheVariants.{Otherwise, Reached}
use Rattle.nr_explain.specs.declared.chain.evidence.StaleTouch.{StaleTouch}
use Rattle.nr_explain.specs.declared.chain.evidence.SegmentEvidence.{SegmentEvidence}
use Rattle.nr_explain.specs.declared.chain.evidence.SegmentEvidence.TheVariants as evidence
use Rattle.nr_explain.specs.declared.chain.evidence.Given.{Given}
use Rattle.nr_explain.specs.declared.trace.evidence.RecordedCall.{RecordedCall}

-- what each fault but those of touches and releases says of a segment, where that is the space before it, or no segment is
abbrev pub HasFaultOver : Option Space → Recording → Fault → Type 0
HasFaultOver before segment (StartMissing number) = HasStartFault before segment (StartMissing number)
HasFaultOver before segment (StartShared number) = HasStartFault before segment (StartShared number)
HasFaultOver before segment (StartReserved number index) = HasStartFault before segment (StartReserved number index)
HasFaultOver before segment (StartStray number) = HasStartFault before segment (StartStray number)
HasFaultOver before segment (StartBeyond base) = HasStartFault before segment (StartBeyond base)
HasFaultOver before segment (StartDiffers address) = HasStartFault before segment (StartDiffers address)
HasFaultOver before segment fault = HasFaultFrom (first_space before segment) segment fault

-- the fault holds of the segment, and no earlier one does but perhaps one of a touch or a release
pub record IsFirstOver (before : Option Space) (segment : Recording) (fault : Fault) : Type 0 where
  pub holds : HasFaultOver before segment fault
  pub none_earlier : (other : Fault) → HasFaultOver before segment other → Earlier segment other fault → ⊥

-- the call of this number is an answered touch, and nothing is wrong with the start, the events and the log
pub record IsTouchToShow (before : Option Space) (segment : Recording) (call : ℕ) : Type 0 where
  pub well : BeginsRight before segment
  pub clean : HasCleanLog segment
  pub touch : Touch
  pub has : HasTouch segment touch
  pub made : touch.made ≡ call

-- the call of this number is a release that is wrong behind some run of which this is kept, and nothing is wrong with the events and the log
pub record IsReleaseToShow (seen : Option Seen) (start : Space) (segment : Recording) (call : ℕ) : Type 0 where
  pub clean : HasCleanLog segment
  pub came : Option ChainState
  pub kept : IsSeenOf came seen
  pub goes_on : GoesOn (run_in came) segment start
  pub release : Release
  pub has : HasRelease segment release
  pub made : release.made ≡ call
  pub wrong : IsWrongRelease (run_in came) start segment release

-- what is to be known of the first fault of a segment, so that it can be shown
abbrev pub IsToShow : Option Seen → Recording → Fault → Type 0
IsToShow seen segment (Stale call) = IsTouchToShow (space_seen seen) segment call
IsToShow seen segment (Reachable call) =
    BeginsRight (space_seen seen) segment × IsReleaseToShow seen (first_space (space_seen seen) segment) segment call
IsToShow seen segment fault = IsFirstOver (space_seen seen) segment fault

-- what shows a stale touch has just the looks that the changes leave, with a page or without one, as the touch found it, where it may be answered from no
-- entry of its segment
abbrev pub AreEarlierLeft : List Left → ℕ → ℕ → Bool → List Answer → Type 0
AreEarlierLeft changes address first with_page looks =
    (look : Answer) → Contains looks look ↔ ((first ≡ 0) × (is_mapped look ≡ with_page) × IsLookLeft changes address look)

-- the looks that are said of a stale touch are those of its address
abbrev pub HasEarlierLeft : List Left → StaleTouch → Type 0
HasEarlierLeft changes stale = (address : ℕ) (mode : Mode) (access : Access) → stale.call.asked ≡ askeds.Touch address mode access
    → AreEarlierLeft changes address stale.first (found_page stale.lag) stale.earlier.items

-- an address that leads somewhere behind the segments before has such a look
abbrev pub IsLeftAs : List Left → ℕ → Answer → Leading → Type 0
IsLeftAs changes address look (Within entries taken) = ⊤
IsLeftAs changes address look Before = IsLookLeft changes address look

abbrev pub IsReachLeft : List Left → Reach → Type 0
IsReachLeft changes reach = IsLeftAs changes reach.address reach.look reach.leading

-- behind each run of which this is kept it is the least address from which the memory could be reached
abbrev pub IsLeastSeen : Option Seen → Space → Recording → ℕ → Given → ℕ → Type 0
IsLeastSeen seen start segment event given address =
    (came : Option ChainState) → IsSeenOf came seen → GoesOn (run_in came) segment start
    → IsLeastReached (run_in came) start segment (release_at event given) address

-- the address has such a look, and is the least
abbrev pub ShowsReachLeft : Option Seen → Space → Recording → RecordedCall → WhyWrong → Type 0
ShowsReachLeft seen start segment call (Otherwise reply) = ⊤
ShowsReachLeft seen start segment call (Reached reply reach) =
    IsReachLeft (left_seen seen) reach
    × ((given : Given) → call.asked ≡ askeds.Release given.size given.phys → IsLeastSeen seen start segment call.event given reach.address)

abbrev pub ShowsLeft : Option Seen → Space → Recording → SegmentEvidence → Type 0
ShowsLeft seen start segment (evidence.Reachable wrong) = ShowsReachLeft seen start segment wrong.call wrong.why
ShowsLeft seen start segment (evidence.Stale stale) = HasEarlierLeft (left_seen seen) stale
ShowsLeft seen start segment shown = ⊤
