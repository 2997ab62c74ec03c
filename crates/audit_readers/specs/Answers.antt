-- What the commands answer to bytes: a text and a status.
use Rattle.std.specs.Prelude.{◌≡◌, ◌≤◌, ◌+◌, ◌⊎◌, ◌++◌, ℕ, Bool, true, false, List, flat_map, length, nat_lt, Option, Some, IfSome, Result, slice_get}
use Rattle.std.specs.Prelude.{if◌then◌else◌}
use Rattle.std.specs.Io.KnownBytes.{Appends, Consumes}
use Rattle.vs_types.specs.Depth.{IsCanonical, levels}
use Rattle.vs_types.specs.declared.addresses.depth.Depth.{Depth}
use Rattle.vs_types.specs.declared.requests.refusal.Fail.{Fail}
use Rattle.vs_walk.specs.Walk.{walk}
use Rattle.vs_walk.specs.Dump.{Image}
use Rattle.nr_trace.specs.Recording.{Recording}
use Rattle.nr_trace.specs.Feed.{HasNoFaultYet, Reads}
use Rattle.nr_trace.specs.Spelling.{Spells}
use Rattle.nr_trace.specs.FirstFault.{HasFormatFault}
use Rattle.nr_trace.specs.declared.refusals.fault.Format.{Format}
use Rattle.nr_trace.specs.declared.refusals.fault.Fault.TheVariants as faults
use Rattle.nr_audit.specs.Headline.{AreRightWith}
use Rattle.nr_audit.specs.Verdict.{IfYes, IsVerdictOf, verdict_status}
use Rattle.nr_audit.specs.declared.verdicts.verdict.Verdict.{Verdict}
use Rattle.nr_audit.specs.declared.verdicts.verdict.Verdict.TheVariants.{Yes, No}
use Rattle.nr_explain.specs.Facts.{entries_read}
use Rattle.nr_audit.specs.Meetings.{overlapping}
use Rattle.nr_explain.specs.Units.{ReadsUnits}
use Rattle.nr_explain.specs.declared.units.Unread.{Unread}
use Rattle.audit_texts.specs.AuditJson.{named_verdict, told_verdict}
use Rattle.audit_texts.specs.Text.{no_text, walk_text}
use Rattle.audit_texts.specs.EvidenceText.{step_line}
use Rattle.vs_text.specs.Words.{SpellsAddress}

-- so many answered updates and reads of the trace that the bytes spell overlap another one
abbrev pub HasOverlapping : List ℕ → ℕ → Type 0
HasOverlapping bytes count = (trace : Recording) × Spells bytes trace × (count ≡ overlapping trace)

-- 0 where the trace is right, but 2 where fewer of its calls overlap than are asked for; 1 where it is wrong
abbrev pub audit_status : ℕ → Verdict → ℕ → ℕ
audit_status least (Yes order) count = if nat_lt count least then 2 else 0
audit_status least (No fault) count = 1

-- the answer of `audit`, which asks for so many overlapping calls: the text and the status are those of the verdict of these bytes; where it is
-- yes they are right with its order, and so many of their calls overlap
pub record IsAudit (as_json : Bool) (least : ℕ) (bytes text : List ℕ) (status : ℕ) : Type 0 where
  pub verdict : Verdict
  pub count : ℕ
  pub is_verdict : IsVerdictOf bytes verdict
  pub right : IfYes (AreRightWith bytes) verdict
  pub counted : IfYes (λ order. HasOverlapping bytes count) verdict
  pub text_is : text ≡ told_verdict as_json verdict count
  pub status_is : status ≡ audit_status least verdict count

-- the answer of `audit` for one file of several: the line with the file's name of the verdict of these bytes
pub record IsNamedAudit (as_json : Bool) (name bytes text : List ℕ) (status : ℕ) : Type 0 where
  pub verdict : Verdict
  pub count : ℕ
  pub is_verdict : IsVerdictOf bytes verdict
  pub right : IfYes (AreRightWith bytes) verdict
  pub counted : IfYes (λ order. HasOverlapping bytes count) verdict
  pub text_is : text ≡ named_verdict as_json name verdict count
  pub status_is : status ≡ verdict_status verdict

-- the end of the walk of an address in a dump, and with steps the entries that it reads
abbrev pub walk_lines : Bool → Depth → Image → ℕ → List ℕ
walk_lines false depth dump address = walk_text (walk depth dump.frames dump.root address)
walk_lines true depth dump address =
    walk_text (walk depth dump.frames dump.root address) ++ flat_map step_line (entries_read dump.frames (levels depth) dump.root address)

-- the bytes spell a trace, at its depth the address is canonical, and the text is of its walk in the dump of the replica
pub record IsWalkInDump (bytes : List ℕ) (address replica : ℕ) (with_steps : Bool) (text : List ℕ) (status : ℕ) : Type 0 where
  pub trace : Recording
  pub spelled : Spells bytes trace
  pub canonical : IsCanonical trace.layout.depth address
  pub dump : Image
  pub is_dump : slice_get trace.dumps replica ≡ Some dump
  pub text_is : text ≡ walk_lines with_steps trace.layout.depth dump address
  pub status_is : status ≡ 0

-- the bytes spell no trace, and the text is that of their first fault
pub record IsFormatRefusal (bytes text : List ℕ) (status : ℕ) : Type 0 where
  pub fault : Format
  pub first : HasFormatFault bytes fault
  pub text_is : text ≡ no_text (faults.Format fault)
  pub status_is : status ≡ 1

-- the place to which this address leads in the dump of this replica
abbrev pub IsWalk : ℕ → ℕ → Bool → List ℕ → List ℕ → ℕ → Type 0
IsWalk address replica with_steps bytes text status =
    IsWalkInDump bytes address replica with_steps text status ⊎ IsFormatRefusal bytes text status

-- the bytes spell a trace at whose depth the address is not canonical
pub record IsOutOfItsDepth (bytes : List ℕ) (address : ℕ) : Type 0 where
  pub trace : Recording
  pub spelled : Spells bytes trace
  pub not_canonical : IsCanonical trace.layout.depth address → ⊥

-- the bytes spell a trace at whose depth it is, and which has no replica of this number
pub record LacksReplica (bytes : List ℕ) (address replica : ℕ) : Type 0 where
  pub trace : Recording
  pub spelled : Spells bytes trace
  pub canonical : IsCanonical trace.layout.depth address
  pub lacking : trace.layout.replicas ≤ replica

-- the answer of `resolve`, if this word spells the address
pub record IsResolve (word : List ℕ) (replica : ℕ) (with_steps : Bool) (bytes text : List ℕ) (status : ℕ) : Type 0 where
  pub address : ℕ
  pub spelled : SpellsAddress word address
  pub is_walk : IsWalk address replica with_steps bytes text status

-- the input is that of the reader, where the reader's contract specifies its bytes
abbrev pub IsReadOf : Option (List ℕ) → List ℕ → Type 0
IsReadOf known input = IfSome known (λ whole. input ≡ whole)

-- so an input was read
pub record HasRead (known : Option (List ℕ)) (read : Result Recording (Fail Format)) : Type 0 where
  pub input : List ℕ
  pub is_read : IsReadOf known input
  pub read_is : Reads input read

-- so an input was read unit by unit
pub record HasReadUnits (known : Option (List ℕ)) (read : Result Recording Unread) : Type 0 where
  pub input : List ℕ
  pub is_read : IsReadOf known input
  pub read_is : ReadsUnits input read

-- how much was read: nothing is wrong yet with the bytes before the last block, and no trace has more than all but one of them
pub record HasReadFew (old new : Option (List ℕ)) : Type 0 where
  pub before : List ℕ
  pub block : List ℕ
  pub read : Consumes old new (before ++ block)
  pub no_fault_yet : HasNoFaultYet before
  pub one_block : length block ≤ 4096
  pub few : length before + length block ≤ 70647893

-- a text that goes with the status, on the input, was written after what was there, and nothing else
pub record WritesReport (IsReport : List ℕ → List ℕ → ℕ → Type 0) (known old new : Option (List ℕ)) (status : ℕ) : Type 0 where
  pub input : List ℕ
  pub is_read : IsReadOf known input
  pub text : List ℕ
  pub is_report : IsReport input text status
  pub written : Appends old new text
