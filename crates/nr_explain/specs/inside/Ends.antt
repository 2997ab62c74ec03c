-- The two ends of bytes that have come, and the unit that they show. No public clause cites this file.
use Rattle.std.specs.Prelude.{◌≡◌, ℕ, ◌+◌, ◌-◌, ◌<◌, ◌^◌, List, [], length, min, take, drop, All}
use Rattle.nr_trace.specs.FirstFault.{unit_size}
use Rattle.nr_trace.specs.Feed.{Fed, HasNoFaultYet}
use Rattle.nr_trace.specs.Feed.Fed.{Taken, Stopped}
use Rattle.nr_trace.specs.declared.refusals.refusal.Refusal.{Refusal}
use Rattle.nr_explain.specs.Fields.{field_fault}
use Rattle.nr_explain.specs.declared.ends.Ends.{Ends}
use Rattle.nr_explain.specs.declared.ends.TheConstants.{TAIL_BYTES}
use Rattle.nr_explain.specs.declared.units.TheConstants.{HEADER_BYTES}
use Rattle.nr_explain.specs.declared.units.BadUnit.{BadUnit}

-- these are the ends of the bytes
pub record AreEnds (bytes : List ℕ) (ends : Ends) : Type 0 where
  pub count : ends.count ≡ length bytes
  pub header : ends.header.items ≡ take HEADER_BYTES bytes
  pub tail : ends.tail.items ≡ drop (length bytes - TAIL_BYTES) bytes

-- what is said of the refusal of so many bytes, which begin with this header and end so
pub record IsUnitOf (refusal : Refusal) (count : ℕ) (header last : List ℕ) (bad : BadUnit) : Type 0 where
  pub fault_is : bad.fault ≡ refusal.fault
  pub unit_is : bad.unit ≡ refusal.unit
  pub offset : bad.offset + refusal.left ≡ count
  pub read : bad.read.items ≡ take (unit_size refusal.unit) (drop (length last - refusal.left) last)
  pub field : bad.field ≡ field_fault refusal.fault (take (min (min bad.offset HEADER_BYTES) (length header)) header) bad.read.items

abbrev pub taken : Fed → List ℕ
taken (Taken bytes) = bytes
taken (Stopped fail) = []

-- the feed was given these bytes, with which nothing is wrong yet, and their ends are kept
pub record IsFed (bytes : List ℕ) (feed : Fed) (ends : Ends) : Type 0 where
  pub fed : feed ≡ Taken bytes
  pub right : HasNoFaultYet bytes
  pub all : All (λ byte. byte < 256) bytes
  pub few : length bytes < 2 ^ 40
  pub are : AreEnds bytes ends
