-- What shows a fault of a start.
use Rattle.std.proofs.Common.{◌≡◌, ℕ, true, false, Option, Some, Result, Ok, Err, refl, sym, ap, ◌∙◌, subst}
use Rattle.std.specs.Prelude.{IfOk}
use Rattle.std.proofs.lemmas.Option.{same_Some}
use Rattle.vs_types.specs.Space.{Space}
use Rattle.vs_types.specs.declared.addresses.depth.Depth.{Depth}
use Rattle.vs_walk.specs.Dump.{Image}
use Rattle.nr_trace.specs.Recording.{Recording}
use Rattle.nr_trace.specs.declared.refusals.fault.Fault.{Fault}
use Rattle.nr_explain.specs.inside.Firsts.{IsFirstOver, ShowsLeft}
use Rattle.nr_audit.specs.Start.{HasStartFault, HoldsOfStart}
use Rattle.nr_trace.specs.declared.refusals.fault.Fault.TheVariants.{StartMissing, StartShared, StartReserved, StartStray, StartBeyond}
use Rattle.nr_trace.specs.declared.refusals.fault.Fault.TheVariants as faults
use Rattle.nr_audit.proofs.Starts.{none_walked}
use Rattle.nr_explain.proofs.Firsts.{IsOfNeither}
use Rattle.nr_explain.specs.ChainEvidence.{IsOfItself, IsStartDiffers}
use Rattle.nr_explain.specs.inside.Itself.{IsShownByItself}
use Rattle.nr_explain.specs.inside.Reading.{all_states, state_of, IsShownSeen}
use Rattle.nr_explain.specs.inside.Starts.{is_within, IsFirstOfTables, IsShownInStart}
use Rattle.nr_explain.specs.declared.chain.progress.Progress.{Progress}
use Rattle.nr_explain.specs.declared.chain.evidence.SegmentEvidence.{SegmentEvidence}
use Rattle.nr_explain.specs.declared.chain.evidence.SegmentEvidence.TheVariants as evidence
use Rattle.nr_explain.specs.declared.chain.evidence.StartDiffers.{StartDiffers}

-- the fault is one of this start
pub holds_of : (before : Option Space) (segment : Recording) (start : Image) (fault : Fault) → segment.start ≡ Some start
    → HasStartFault before segment fault → HoldsOfStart segment.layout.depth before start fault
holds_of before segment start fault is holds =
    subst (λ (s : Image). HoldsOfStart segment.layout.depth before s fault) (same_Some holds.0 start (sym holds.1 ∙ is)) holds.2

pub tables_first : (before : Option Space) (segment : Recording) (start : Image) (depth : Depth) (fault : Fault) → segment.start ≡ Some start
    → depth ≡ segment.layout.depth → HasStartFault before segment fault → IsFirstOver before segment fault
    → ((address : ℕ) → fault ≡ faults.StartDiffers address → ⊥) → IsFirstOfTables depth start fault
tables_first before segment start depth fault is same holds first none =
    subst (λ (d : Depth). IsFirstOfTables d start fault) (sym same) (of fault holds first none) where
      of : (f : Fault) → HasStartFault before segment f → IsFirstOver before segment f → ((address : ℕ) → f ≡ faults.StartDiffers address → ⊥)
          → IsFirstOfTables segment.layout.depth start f
      of (StartMissing frame) holds first none = holds_of before segment start (StartMissing frame) is holds
      of (StartShared frame) holds first none = holds_of before segment start (StartShared frame) is holds
      of (StartReserved frame index) holds first none = holds_of before segment start (StartReserved frame index) is holds
      of (StartStray frame) holds first none = holds_of before segment start (StartStray frame) is holds
      of (StartBeyond base) holds first none = (
        (holds_of before segment start (StartBeyond base) is holds).0,
        none_walked segment.layout.depth start (λ number e. first.none_earlier (StartMissing number) (start, is, e) refl)
            (λ number e. first.none_earlier (StartShared number) (start, is, e) refl)
            (λ number index e. first.none_earlier (StartReserved number index) (start, is, e) refl),
      )
      of (faults.StartDiffers address) holds first none = none address refl
      of _ holds first none = absurd holds.2

pub shown_in_start : (last : Option Progress) (segment : Recording) (start : Image) (depth : Depth) (fault : Fault) (shown : SegmentEvidence)
    → segment.start ≡ Some start → depth ≡ segment.layout.depth → IsShownInStart depth start fault shown
    → IsShownSeen (all_states last) segment fault shown
shown_in_start last segment start depth fault shown is same shows =
    of shown (subst (λ (d : Depth). IsShownInStart d start fault shown) same shows) where
      of : (e : SegmentEvidence) → IsShownInStart segment.layout.depth start fault e → IsShownSeen (all_states last) segment fault e
      of (evidence.StartMissing wrong) (owner_is, fault_is, facts) = (owner_is, fault_is, (start, is, facts))
      of (evidence.StartShared wrong) (owner_is, fault_is, facts) = (owner_is, fault_is, (start, is, facts))
      of (evidence.StartReserved wrong) (owner_is, fault_is, facts) = (owner_is, fault_is, (start, is, facts))
      of (evidence.StartStray frame) (fault_is, facts) = (fault_is, (start, is, facts))
      of (evidence.StartBeyond wrong) (fault_is, facts) = (fault_is, (start, is, facts))
      of e shows = absurd shows

pub shown_differs : (came : Progress) (segment : Recording) (start : Image) (depth : Depth) (wrong : StartDiffers) (address : ℕ) → segment.start ≡ Some start
    → depth ≡ segment.layout.depth → wrong.address ≡ address
    → IsStartDiffers ((state_of came).began) depth start came.space.space wrong
    → IsShownSeen (Some (state_of came)) segment (faults.StartDiffers address) (evidence.StartDiffers wrong)
shown_differs came segment start depth wrong address is same at facts = (
  ap (λ (a : ℕ). faults.StartDiffers a) (sym at),
  (
    start,
    is,
    (came.space.space, refl, subst (λ (d : Depth). IsStartDiffers ((state_of came).began) d start came.space.space wrong) same facts),
  ),
)

-- ---- faults that don't depend on the space

pub itself_shown : {E : Type 0} (last : Option Progress) (segment : Recording) (fault : Fault) (result : Result SegmentEvidence E) → IsOfItself fault
    → IfOk result (IsShownByItself segment fault) → IfOk result (IsShownSeen (all_states last) segment fault)
itself_shown last segment fault (Err e) own h = tt
itself_shown last segment fault (Ok (evidence.Within shown)) own h = (own, h)
itself_shown last segment fault (Ok shown) own h = absurd h

-- ---- what lingers

-- what shows another fault than a stale touch or a wrong release shows no looks that linger
pub none_left : (last : Option Progress) (segment : Recording) (fault : Fault) (start : Space) (shown : SegmentEvidence)
    → IsOfNeither fault → IsShownSeen (all_states last) segment fault shown → ShowsLeft (all_states last) start segment shown
none_left last segment fault start (evidence.Stale stale) none shows = absurd (none.0 stale.call.event shows.0)
none_left last segment fault start (evidence.Reachable wrong) none shows = absurd (none.1 wrong.call.event shows.0)
none_left last segment fault start shown none shows = tt

pub none_left_in : {E : Type 0} (last : Option Progress) (segment : Recording) (fault : Fault) (start : Space) (result : Result SegmentEvidence E)
    → IsOfNeither fault → IfOk result (IsShownSeen (all_states last) segment fault) → IfOk result (ShowsLeft (all_states last) start segment)
none_left_in last segment fault start (Err e) none h = tt
none_left_in last segment fault start (Ok shown) none h = none_left last segment fault start shown none h

pub not_within : (fault : Fault) → is_within fault ≡ true → IsOfNeither fault
not_within fault own = (
  (λ call is. let wrong : true ≡ false = sym own ∙ ap is_within is in cc),
  λ call is. let wrong : true ≡ false = sym own ∙ ap is_within is in cc,
)
