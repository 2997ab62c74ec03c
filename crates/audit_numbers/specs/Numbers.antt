-- Verdicts in numbers.
use Rattle.std.specs.Prelude.{ℕ, length, Option, None, Some}
use Rattle.nr_audit.specs.declared.verdicts.verdict.Verdict.{Verdict}
use Rattle.nr_audit.specs.declared.verdicts.verdict.Verdict.TheVariants.{Yes, No}
use Rattle.nr_trace.specs.declared.refusals.fault.Format.{Format}
use Rattle.nr_trace.specs.declared.refusals.fault.Format.TheVariants as formats
use Rattle.nr_trace.specs.declared.refusals.fault.Fault.{Fault}
use Rattle.nr_trace.specs.declared.refusals.fault.Fault.TheVariants as faults
use Rattle.audit_numbers.specs.declared.finding.Finding.{Finding}

-- a fault that names an event, a place or a call
abbrev pub with_index : ℕ → ℕ → Finding
with_index fault index = record { fault = fault; format = 0; index = index; replica = 0; number = 0; calls = 0 }

-- a fault of a dump, or of a start
abbrev pub with_dump : ℕ → ℕ → ℕ → ℕ → Finding
with_dump fault replica number word = record { fault = fault; format = 0; index = word; replica = replica; number = number; calls = 0 }

-- a fault of the format
abbrev pub with_format : ℕ → ℕ → ℕ → Finding
with_format format replica index = record { fault = 1; format = format; index = index; replica = replica; number = 0; calls = 0 }

-- the numbers of a fault of the format
unfoldable pub format_numbers : Format → Finding
format_numbers formats.Truncated = with_format 1 0 0
format_numbers formats.BadMagic = with_format 2 0 0
format_numbers formats.BadVersion = with_format 3 0 0
format_numbers formats.BadCount = with_format 4 0 0
format_numbers formats.BadChain = with_format 8 0 0
format_numbers (formats.BadStart index) = with_format 9 0 index
format_numbers (formats.BadEvent event) = with_format 5 0 event
format_numbers (formats.BadFrame replica index) = with_format 6 replica index
format_numbers formats.Trailing = with_format 7 0 0

-- the number of a fault, and what it names
unfoldable pub fault_numbers : Fault → Finding
fault_numbers (faults.Format fault) = format_numbers fault
fault_numbers (faults.ThreadOpen event) = with_index 2 event
fault_numbers (faults.NoSuchCall event) = with_index 3 event
fault_numbers (faults.AnsweredTwice event) = with_index 4 event
fault_numbers (faults.NotAnUpdate place) = with_index 5 place
fault_numbers (faults.PlacedTwice place) = with_index 6 place
fault_numbers (faults.NotPlaced event) = with_index 7 event
fault_numbers (faults.PastLog event) = with_index 8 event
fault_numbers (faults.Early call) = with_index 9 call
fault_numbers (faults.WrongAnswer call) = with_index 10 call
fault_numbers (faults.PrefixPastLog replica) = with_dump 11 replica 0 0
fault_numbers (faults.PrefixShort replica) = with_dump 12 replica 0 0
fault_numbers (faults.MissingFrame replica number) = with_dump 13 replica number 0
fault_numbers (faults.SharedFrame replica number) = with_dump 14 replica number 0
fault_numbers (faults.ReservedBit replica number word) = with_dump 15 replica number word
fault_numbers (faults.StrayFrame replica number) = with_dump 16 replica number 0
fault_numbers (faults.Differs replica address) = with_dump 17 replica address 0
fault_numbers (faults.StartMissing number) = with_dump 18 0 number 0
fault_numbers (faults.StartShared number) = with_dump 19 0 number 0
fault_numbers (faults.StartReserved number word) = with_dump 20 0 number word
fault_numbers (faults.StartStray number) = with_dump 21 0 number 0
fault_numbers (faults.StartBeyond base) = with_dump 22 0 base 0
fault_numbers (faults.StartDiffers address) = with_dump 23 0 address 0
fault_numbers (faults.Stale call) = with_index 24 call
fault_numbers (faults.Reachable call) = with_index 25 call

-- how many calls the order of a yes has; the numbers of the fault of a no
abbrev pub finding_of : Verdict → Finding
finding_of (Yes order) = record { fault = 0; format = 0; index = 0; replica = 0; number = 0; calls = length order }
finding_of (No fault) = fault_numbers fault

-- the numbers of how a chain ends: none, or those of its fault
abbrev pub end_numbers : Option Fault → Finding
end_numbers None = with_index 0 0
end_numbers (Some fault) = fault_numbers fault
