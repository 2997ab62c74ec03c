-- The first segment of a chain that is read, and what is said of its start. No public clause cites this file.
use Rattle.std.specs.Prelude.{◌≡◌, ◌≤◌, ◌+◌, ◌-◌, ◌^◌, ◌⊎◌, ℕ, Bool, List, length, Option, None, Result, Ok, Err, ⊤}
use Rattle.std.specs.Io.KnownBytes.{Consumes}
use Rattle.vs_types.specs.Space.{pages}
use Rattle.vs_types.specs.declared.requests.refusal.Fail.{Fail}
use Rattle.vs_types.specs.declared.requests.refusal.Fail.TheVariants.{Memory, Refused}
use Rattle.nr_trace.specs.Recording.{Recording}
use Rattle.nr_trace.specs.FirstFault.{HasSegmentFault}
use Rattle.nr_trace.specs.Feed.{FedSegment}
use Rattle.nr_trace.specs.Feed.Fed.{Taken}
use Rattle.nr_trace.specs.declared.refusals.fault.Fault.TheVariants as faults
use Rattle.nr_trace.specs.declared.refusals.fault.Format.{Format}
use Rattle.nr_trace.specs.declared.refusals.fault.Format.TheVariants.{Truncated}
use Rattle.nr_audit.specs.Faults.{IsFirstAfter, IsSoundAfter}
use Rattle.nr_audit.specs.Start.{first_space}
use Rattle.nr_trace.specs.declared.refusals.fault.Fault.{Fault}
use Rattle.nr_chain.specs.Bytes.{BeginsWith}
use Rattle.audit_readers.specs.Answers.{IsReadOf}
use Rattle.audit_texts.specs.Listing.{pages_text}
use Rattle.audit_readers.specs.inside.Judged.{SaysFault}

-- the bytes begin with this segment, or have this fault of the format; or memory ran out
abbrev pub BeginsSo : List ℕ → Result Recording (Fail Format) → Type 0
BeginsSo bytes (Ok segment) = (rest : List ℕ) × BeginsWith None bytes segment rest
BeginsSo bytes (Err (Refused fault)) = HasSegmentFault None bytes fault
BeginsSo bytes (Err Memory) = ⊤

-- so an input begins
pub record HasReadFirst (known : Option (List ℕ)) (read : Result Recording (Fail Format)) : Type 0 where
  pub input : List ℕ
  pub is_read : IsReadOf known input
  pub begins : BeginsSo input read

-- between two blocks: the feed has taken what the reader has lost, which is too little for a segment, and so many blocks may be read yet
pub record IsBegun (known left : Option (List ℕ)) (feed : FedSegment) (room : ℕ) : Type 0 where
  pub read : List ℕ
  pub many : 2 ^ 52 - 1 ≤ room + length read
  pub consumed : Consumes known left read
  pub feed_is : feed ≡ record { before = None; pieces = Taken read }
  pub short : HasSegmentFault None read Truncated

-- what is said of a first segment: the pages of its start where it is right, else its first fault
pub record SaysStart (as_ranges : Bool) (segment : Recording) (text : List ℕ) (status : ℕ) : Type 0 where
  pub sound : IsSoundAfter None segment
  pub text_is : text ≡ pages_text as_ranges (pages (first_space None segment))
  pub status_is : status ≡ 0

abbrev pub SaysOfFirst : Bool → Recording → List ℕ → ℕ → Type 0
SaysOfFirst as_ranges segment text status = SaysStart as_ranges segment text status
    ⊎ ((fault : Fault) × IsFirstAfter None segment fault × SaysFault 0 fault text status)

-- and of one that can't be read: the fault of the format
abbrev pub SaysUnread : Fail Format → List ℕ → ℕ → Type 0
SaysUnread (Refused fault) text status = SaysFault 0 (faults.Format fault) text status
SaysUnread Memory text status = ⊥
