-- The verdict on a chain, and what a piece and the end make of one that comes in pieces.
use Rattle.std.specs.Prelude.{◌≡◌, ℕ, ◌<◌, ◌≤◌, Bool, List, [], ◌++◌, length, take, is_some, IfSome, Option, Some, None, ⊤}
use Rattle.vs_plain.specs.Plain.{BoundedSpace}
use Rattle.nr_trace.specs.Recording.{Recording}
use Rattle.nr_trace.specs.FirstFault.{HasSegmentFault}
use Rattle.nr_trace.specs.Orders.{recorded_order}
use Rattle.nr_trace.specs.Spelling.{SpellsSegment}
use Rattle.nr_trace.specs.declared.refusals.fault.Format.TheVariants.{Truncated}
use Rattle.nr_audit.specs.Faults.{IsSoundAfter}
use Rattle.nr_trace.specs.Run.{Run, end_of}
use Rattle.nr_audit.specs.Met.{HasMet}
use Rattle.nr_audit.specs.Segments.{run_after, FitsLayout}
use Rattle.nr_audit.specs.Start.{begins_in}
use Rattle.nr_trace.specs.declared.refusals.fault.Fault.{Fault}
use Rattle.nr_chain.specs.Bytes.{layout_before, IsFirstNext, GoesOnSo}
use Rattle.nr_chain.specs.declared.verdict.ChainVerdict.{ChainVerdict}
use Rattle.nr_chain.specs.declared.verdict.ChainVerdict.TheVariants.{Yes, No}
use Rattle.nr_chain.specs.declared.chain.Step.{Step}
use Rattle.nr_chain.specs.declared.chain.Step.TheVariants.{More, Right, Wrong}
use Rattle.nr_chain.specs.Fed.{ChainFed, IsKeptOf}

-- the verdict on the bytes of a chain
abbrev pub IsVerdictOfChain : List ℕ → ChainVerdict → Type 0
IsVerdictOfChain bytes (Yes orders) = GoesOnSo None bytes orders.items None
IsVerdictOfChain bytes (No orders fault) = GoesOnSo None bytes orders.items (Some fault)

-- if the verdict is yes, its orders have the property
abbrev pub IfYes : (List (List ℕ) → Type 0) → ChainVerdict → Type 0
IfYes P (Yes orders) = P orders.items
IfYes P (No orders fault) = ⊤

-- the bytes so far have the fault as the first one of the next segment, whatever comes after them
abbrev pub LastsNext : Option Run → List ℕ → Fault → Type 0
LastsNext before bytes fault = (rest : List ℕ) → IsFirstNext before (bytes ++ rest) fault

-- the piece is taken, and there are too few bytes. Or so many bytes at its front end a segment that is right with its order, of
-- which so much is counted, if it is. Or the bytes with it have a fault
abbrev pub FeedsChain : Option Run → ChainFed → List ℕ → Step → Type 0
FeedsChain before old piece (More new) =
    (new ≡ record old { bytes = old.bytes ++ piece }) × HasSegmentFault (layout_before before) new.bytes Truncated
FeedsChain before old piece (Right count order met new) =
    (0 < count) × (count ≤ length piece) × (segment : Recording) × SpellsSegment (layout_before before) (old.bytes ++ take count piece) segment
    × IsSoundAfter before segment × (order ≡ recorded_order segment)
    × IsKeptOf (Some (run_after before segment)) new.kept × (new.bytes ≡ []) × IfSome met (HasMet before (begins_in before segment) segment)
FeedsChain before old piece (Wrong fault) = LastsNext before (old.bytes ++ piece) fault

-- some bytes at the front of the piece end a segment that is right, and of which something is counted where that is asked
abbrev pub EndsWithin : Bool → List ℕ → Step → Type 0
EndsWithin counts piece (Right count order met new) = (0 < count) × (count ≤ length piece) × (is_some met ≡ counts)
EndsWithin counts piece step = ⊤

-- this is the space after a run, if there is one, with the depth and the limit of its layout
abbrev pub IsSpaceAfter : Option Run → Option BoundedSpace → Type 0
IsSpaceAfter None space = space ≡ None
IsSpaceAfter (Some run) None = ⊥
IsSpaceAfter (Some run) (Some space) = (space.space ≡ end_of run) × FitsLayout run.trace.layout space
