-- What the judgement of a whole segment makes of a chain, and a piece that is refused. No public clause cites this file.
use Rattle.std.specs.Prelude.{◌≡◌, ℕ, Bool, List, [], is_some, IfSome, Option, Some, ⊤}
use Rattle.vs_types.specs.declared.requests.refusal.Fail.{Fail}
use Rattle.vs_types.specs.declared.requests.refusal.Fail.TheVariants.{Memory, Refused}
use Rattle.nr_trace.specs.Recording.{Recording}
use Rattle.nr_trace.specs.Orders.{recorded_order}
use Rattle.nr_trace.specs.Spelling.{SpellsSegment}
use Rattle.nr_trace.specs.declared.refusals.fault.Format.{Format}
use Rattle.nr_trace.specs.declared.refusals.fault.Fault.TheVariants as faults
use Rattle.nr_audit.specs.Faults.{IsFirstAfter, IsSoundAfter}
use Rattle.nr_trace.specs.Run.{Run}
use Rattle.nr_audit.specs.Met.{HasMet}
use Rattle.nr_audit.specs.Segments.{run_after}
use Rattle.nr_audit.specs.Start.{begins_in}
use Rattle.nr_chain.specs.Bytes.{layout_before}
use Rattle.nr_chain.specs.Fed.{IsKeptOf}
use Rattle.nr_chain.specs.declared.chain.Step.{Step}
use Rattle.nr_chain.specs.declared.chain.Step.TheVariants.{More, Right, Wrong}

-- the bytes spell a segment, and it is right, with its order, and the next one begins; or it has this fault
abbrev pub JudgesWhole : Option Run → List ℕ → ℕ → Step → Type 0
JudgesWhole before bytes count (More new) = ⊥
JudgesWhole before bytes count (Right own order met new) =
    (own ≡ count) × (segment : Recording) × SpellsSegment (layout_before before) bytes segment × IsSoundAfter before segment
    × (order ≡ recorded_order segment) × IsKeptOf (Some (run_after before segment)) new.kept × (new.bytes ≡ [])
    × IfSome met (HasMet before (begins_in before segment) segment)
JudgesWhole before bytes count (Wrong fault) =
    (segment : Recording) × SpellsSegment (layout_before before) bytes segment × IsFirstAfter before segment fault

-- a segment that is right ends with so many bytes of the piece, and something is counted of it where that is asked
abbrev pub EndsAt : Bool → ℕ → Step → Type 0
EndsAt counts count (Right own order met new) = (own ≡ count) × (is_some met ≡ counts)
EndsAt counts count step = ⊤

-- the bytes are refused so, or memory is
abbrev pub RefusesWith : Fail Format → Step → Type 0
RefusesWith Memory step = ⊥
RefusesWith (Refused fault) step = step ≡ Wrong (faults.Format fault)
