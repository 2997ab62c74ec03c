-- What a piece makes of a reader that explains a chain, up to the end of one segment. No public clause cites this file.
use Rattle.std.specs.Prelude.{◌≡◌, ℕ, ◌<◌, ◌≤◌, List, [], ◌++◌, length, take, Option, Some, ⊤}
use Rattle.nr_trace.specs.Recording.{Recording}
use Rattle.nr_trace.specs.FirstFault.{HasSegmentFault}
use Rattle.nr_trace.specs.Spelling.{SpellsSegment}
use Rattle.nr_trace.specs.declared.refusals.fault.Format.TheVariants.{Truncated}
use Rattle.nr_audit.specs.Faults.{IsFirstAfter, IsSoundAfter}
use Rattle.nr_audit.specs.Met.{HasMet}
use Rattle.nr_audit.specs.Start.{begins_in}
use Rattle.nr_audit.specs.declared.histories.met.Met.{Met}
use Rattle.nr_trace.specs.declared.refusals.fault.Fault.TheVariants as faults
use Rattle.nr_trace.specs.declared.refusals.fault.Format.{Format}
use Rattle.nr_explain.specs.Progress.{ChainState, ReaderState, state_after, layout_in, run_in, sums_in, IsSeenOf}
use Rattle.nr_explain.specs.ChainExplanation.{Explains, IsBadSegment, IsExplanationFrom, IsShownBehind}
use Rattle.nr_explain.specs.declared.chain.evidence.SegmentEvidence.TheVariants as evidence
use Rattle.nr_explain.specs.declared.chain.explanation.ChainExplanation.{ChainExplanation}
use Rattle.nr_explain.specs.declared.chain.explanation.ChainExplanation.TheVariants.{Yes, No}
use Rattle.nr_explain.specs.declared.chain.reader.Step.{Step}
use Rattle.nr_explain.specs.declared.chain.reader.Step.TheVariants.{More, Right, Wrong}

-- with a segment more, of which so much is counted, and which so many bytes spell, the reader has come to this, and of the next one nothing has come
pub record HasGoneOn (came : Option ChainState) (segment : Recording) (bytes : ℕ) (new : ReaderState) : Type 0 where
  pub met : Met
  pub counted : HasMet (run_in came) (begins_in (run_in came) segment) segment met
  pub seen : IsSeenOf (Some (state_after came segment met bytes)) new.state
  pub none : new.bytes ≡ []

-- the whole piece is taken, and there are too few bytes; or so many bytes at its front end a segment that is right; or one with it is not
abbrev pub StepsTo : Option ChainState → ReaderState → List ℕ → Step → Type 0
StepsTo came old piece (More new) = (new ≡ record old { bytes = old.bytes ++ piece }) × HasSegmentFault (layout_in came) new.bytes Truncated
StepsTo came old piece (Right count new) =
    (0 < count) × (count ≤ length piece) × (segment : Recording) × SpellsSegment (layout_in came) (old.bytes ++ take count piece) segment
    × IsSoundAfter (run_in came) segment × HasGoneOn came segment (length (old.bytes ++ take count piece)) new
StepsTo came old piece (Wrong explanation) = (piece ≡ [] → ⊥) → (rest : List ℕ) → Explains came old (piece ++ rest) explanation

-- some bytes at the front of the piece end a segment
abbrev pub EndsWithin : List ℕ → Step → Type 0
EndsWithin piece (Right count new) = (0 < count) × (count ≤ length piece)
EndsWithin piece step = ⊤

-- the bytes spell a segment, and it is right, and the next one begins; or this explains it
abbrev pub JudgesTo : Option ChainState → List ℕ → ℕ → Step → Type 0
JudgesTo came bytes count (More new) = ⊥
JudgesTo came bytes count (Right own new) =
    (own ≡ count) × (segment : Recording) × SpellsSegment (layout_in came) bytes segment × IsSoundAfter (run_in came) segment
    × HasGoneOn came segment (length bytes) new
JudgesTo came bytes count (Wrong explanation) = (rest : List ℕ) → IsExplanationFrom came (bytes ++ rest) explanation

-- what is found of a segment that is wrong: the segments before it, its first fault, and what shows it
abbrev pub IsWrongOf : Option ChainState → Recording → ChainExplanation → Type 0
IsWrongOf came segment (Yes counts) = ⊥
IsWrongOf came segment (No number fault shown) =
    (number ≡ (sums_in came).segments) × IsFirstAfter (run_in came) segment fault
    × IsShownBehind came segment fault shown

-- a segment of so many bytes is right, and the next one begins; or it is wrong
abbrev pub JudgedTo : Option ChainState → Recording → ℕ → ℕ → Step → Type 0
JudgedTo came segment size count (More new) = ⊥
JudgedTo came segment size count (Right own new) =
    (own ≡ count) × IsSoundAfter (run_in came) segment × HasGoneOn came segment size new
JudgedTo came segment size count (Wrong explanation) = IsWrongOf came segment explanation

-- the number of a refused segment, its fault, and the unit of its bytes that shows that
abbrev pub IsRefusalOf : Option ChainState → List ℕ → Format → ChainExplanation → Type 0
IsRefusalOf came bytes fault (No number found (evidence.Format bad)) =
    (number ≡ (sums_in came).segments) × (found ≡ faults.Format fault) × (bad.unit.fault ≡ fault) × IsBadSegment came bytes bad
IsRefusalOf came bytes fault explanation = ⊥
