-- What shows a fault of the tables of a start. No public clause cites this file.
use Rattle.std.specs.Prelude.{◌≡◌, None, Bool, true, false}
use Rattle.vs_types.specs.declared.addresses.depth.Depth.{Depth}
use Rattle.vs_walk.specs.Differences.{IsStray, HasMissingFrame, HasReservedBit, HasSharedFrame, HasStrayFrame}
use Rattle.vs_walk.specs.Dump.{Image}
use Rattle.vs_walk.specs.Traversal.{walk_fault}
use Rattle.nr_audit.specs.Start.{HasPageBeyond}
use Rattle.nr_trace.specs.declared.refusals.fault.Fault.{Fault}
use Rattle.nr_trace.specs.declared.refusals.fault.Fault.TheVariants.{StartMissing, StartShared, StartReserved, StartStray, StartBeyond, StartDiffers, Stale, Reachable}
use Rattle.nr_explain.specs.ChainEvidence.{IsStartBeyond}
use Rattle.nr_explain.specs.Evidence.{IsMissingTable, IsReservedEntry, IsSharedTable}
use Rattle.nr_explain.specs.declared.trace.evidence.Owner.TheVariants as owners
use Rattle.nr_explain.specs.declared.chain.evidence.SegmentEvidence.{SegmentEvidence}
use Rattle.nr_explain.specs.declared.chain.evidence.SegmentEvidence.TheVariants as evidence

-- the fault is one that a trace may have too: none of a start, and no stale touch or wrong release
abbrev pub is_within : Fault → Bool
is_within (StartMissing frame) = false
is_within (StartShared frame) = false
is_within (StartReserved frame index) = false
is_within (StartStray frame) = false
is_within (StartBeyond base) = false
is_within (StartDiffers address) = false
is_within (Stale call) = false
is_within (Reachable call) = false
is_within fault = true

-- the fault holds of the tables, and where it is one of a page, the traversal has none
abbrev pub IsFirstOfTables : Depth → Image → Fault → Type 0
IsFirstOfTables depth start (StartMissing frame) = HasMissingFrame depth start frame
IsFirstOfTables depth start (StartShared frame) = HasSharedFrame depth start frame
IsFirstOfTables depth start (StartReserved frame index) = HasReservedBit depth start frame index
IsFirstOfTables depth start (StartStray frame) = HasStrayFrame depth start frame
IsFirstOfTables depth start (StartBeyond base) = HasPageBeyond depth start base × (walk_fault depth start.frames start.root ≡ None)
IsFirstOfTables depth start fault = ⊥

-- the evidence shows the fault
abbrev pub IsShownInStart : Depth → Image → Fault → SegmentEvidence → Type 0
IsShownInStart depth start fault (evidence.StartMissing wrong) =
    (wrong.owner ≡ owners.Start) × (fault ≡ StartMissing wrong.frame) × IsMissingTable depth start wrong
IsShownInStart depth start fault (evidence.StartShared wrong) =
    (wrong.owner ≡ owners.Start) × (fault ≡ StartShared wrong.frame) × IsSharedTable depth start wrong
IsShownInStart depth start fault (evidence.StartReserved wrong) =
    (wrong.owner ≡ owners.Start) × (fault ≡ StartReserved wrong.entry.frame wrong.entry.index) × IsReservedEntry depth start wrong
IsShownInStart depth start fault (evidence.StartStray frame) = (fault ≡ StartStray frame) × IsStray depth start.frames start.root frame
IsShownInStart depth start fault (evidence.StartBeyond wrong) = (fault ≡ StartBeyond wrong.page.base) × IsStartBeyond depth start wrong
IsShownInStart depth start fault shown = ⊥
