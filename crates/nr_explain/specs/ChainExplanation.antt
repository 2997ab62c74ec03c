-- What is said of the bytes of a chain: how much it has, or its first fault and what shows that.
use Rattle.std.specs.Prelude.{◌≡◌, ℕ, ◌++◌, List, [], ◌∷◌, length, Option, Some, None}
use Rattle.nr_trace.specs.Recording.{Recording}
use Rattle.nr_trace.specs.declared.refusals.fault.Fault.TheVariants as faults
use Rattle.nr_trace.specs.declared.refusals.fault.Format.TheVariants.{Truncated}
use Rattle.nr_trace.specs.FirstFault.{HasSegmentFault}
use Rattle.nr_audit.specs.Met.{HasMet}
use Rattle.nr_audit.specs.Start.{begins_in}
use Rattle.nr_audit.specs.declared.histories.met.Met.{Met}
use Rattle.nr_audit.specs.Faults.{IsFirstAfter, IsSoundAfter}
use Rattle.nr_audit.specs.Start.{first_space}
use Rattle.nr_trace.specs.declared.refusals.fault.Fault.{Fault}
use Rattle.nr_chain.specs.Bytes.{BeginsWith, EndsWith}
use Rattle.nr_explain.specs.Progress.{ChainState, ReaderState, began_with, state_after, counts_of, layout_in, run_in, space_in, sums_in, IsSeenOf}
use Rattle.nr_explain.specs.ChainEvidence.{IsShown, ShowsEarlier}
use Rattle.nr_trace.specs.declared.formats.version.Form.TheVariants as forms
use Rattle.nr_explain.specs.Units.{IsBadUnitAs}
use Rattle.nr_explain.specs.declared.chain.evidence.BadSegment.{BadSegment}
use Rattle.nr_explain.specs.declared.chain.evidence.SegmentEvidence.{SegmentEvidence}
use Rattle.nr_explain.specs.declared.chain.evidence.SegmentEvidence.TheVariants as evidence
use Rattle.nr_explain.specs.declared.chain.explanation.ChainExplanation.{ChainExplanation}
use Rattle.nr_explain.specs.declared.chain.explanation.ChainExplanation.TheVariants.{Yes, No}
use Rattle.nr_explain.specs.declared.chain.reader.ReaderStep.{ReaderStep}
use Rattle.nr_explain.specs.declared.chain.reader.ReaderStep.TheVariants.{More, Found}

-- the bytes are those of these right segments, of which so much is counted and which come to the last, and then others
abbrev pub GoesOnTo : Option ChainState → List ℕ → List Recording → Option ChainState → List ℕ → Type 0
GoesOnTo came bytes [] last rest = (last ≡ came) × (rest ≡ bytes)
GoesOnTo came bytes (segment ∷ more) last rest =
    (behind : List ℕ) × (begins : BeginsWith (layout_in came) bytes segment behind) × IsSoundAfter (run_in came) segment
    × (met : Met) × HasMet (run_in came) (begins_in (run_in came) segment) segment met
    × GoesOnTo (Some (state_after came segment met (length begins.own))) behind more last rest

-- the unit shows the fault of the format that the next segment has, which begins behind so many bytes
abbrev pub IsBadSegment : Option ChainState → List ℕ → BadSegment → Type 0
IsBadSegment last bytes bad = (bad.begins ≡ (sums_in last).bytes) × IsBadUnitAs (forms.Segment (layout_in last)) bytes bad.unit

-- the evidence shows the fault of a segment that comes next
abbrev pub IsShownBehind : Option ChainState → Recording → Fault → SegmentEvidence → Type 0
IsShownBehind last segment fault shown =
    IsShown (began_with last segment) (space_in last) (first_space (space_in last) segment) segment fault shown
    × ShowsEarlier (run_in last) (first_space (space_in last) segment) segment shown

-- the segment at the front of the bytes has the fault as its first, and this shows it
pub record IsShownOf (last : Option ChainState) (bytes : List ℕ) (fault : Fault) (shown : SegmentEvidence) : Type 0 where
  pub segment : Recording
  pub behind : List ℕ
  pub begins : BeginsWith (layout_in last) bytes segment behind
  pub first : IsFirstAfter (run_in last) segment fault
  pub shows : IsShownBehind last segment fault shown

-- what shows the first fault of the next segment: of its format, or of what is spelled
abbrev pub IsShownNext : Option ChainState → List ℕ → Fault → SegmentEvidence → Type 0
IsShownNext last bytes fault (evidence.Format bad) = (fault ≡ faults.Format bad.unit.fault) × IsBadSegment last bytes bad
IsShownNext last bytes fault shown = IsShownOf last bytes fault shown

-- all segments are right, and the chain ends behind the last; or these are, and the next one has the fault, as the bytes end or before that
abbrev pub IsExplanationFrom : Option ChainState → List ℕ → ChainExplanation → Type 0
IsExplanationFrom came bytes (Yes counts) =
    (segments : List Recording) × (last : ChainState) × GoesOnTo came bytes segments (Some last) [] × (counts ≡ counts_of last)
IsExplanationFrom came bytes (No number fault shown) =
    (segments : List Recording) × (last : Option ChainState) × (rest : List ℕ) × GoesOnTo came bytes segments last rest
    × (number ≡ (sums_in last).segments) × EndsWith (run_in last) rest (Some fault) × IsShownNext last rest fault shown

-- the same of the bytes of the next segment that a reader has, and what comes behind them
abbrev pub Explains : Option ChainState → ReaderState → List ℕ → ChainExplanation → Type 0
Explains came seen rest explanation = IsExplanationFrom came (seen.bytes ++ rest) explanation

-- the explanation of the bytes of a chain
abbrev pub IsExplanationOfChain : List ℕ → ChainExplanation → Type 0
IsExplanationOfChain bytes explanation = IsExplanationFrom None bytes explanation

-- the piece is taken: with it the bytes are those of right segments, which come to what is kept, and then too few for one more, where there
-- is a piece. Or this explains the chain, whatever comes behind the piece
abbrev pub FeedsReader : Option ChainState → ReaderState → List ℕ → ReaderStep → Type 0
FeedsReader came old piece (More new) =
    (segments : List Recording) × (last : Option ChainState) × GoesOnTo came (old.bytes ++ piece) segments last new.bytes × IsSeenOf last new.state
    × ((piece ≡ [] → ⊥) → HasSegmentFault (layout_in last) new.bytes Truncated)
FeedsReader came old piece (Found explanation) = (rest : List ℕ) → Explains came old (piece ++ rest) explanation
