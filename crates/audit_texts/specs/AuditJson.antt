-- What `audit --json` prints of a verdict: a JSON object on a line, whose members have their names in the order of the alphabet.
use Rattle.std.specs.Prelude.{ℕ, ◌++◌, Bool, true, false, List, [], ◌∷◌, codes, decimal, flat_map, length, map}
use Rattle.serde_json.specs.Data.{Data, Members, array, member, no_members, object, put, string}
use Rattle.serde_json.specs.View.{items_of}
use Rattle.serde_json.specs.Written.{compact_text}
use Rattle.vs_text.specs.Words.{hexadecimal, space}
use Rattle.nr_audit.specs.declared.verdicts.verdict.Verdict.{Verdict}
use Rattle.nr_audit.specs.declared.verdicts.verdict.Verdict.TheVariants.{Yes, No}
use Rattle.nr_trace.specs.declared.refusals.fault.Format.{Format}
use Rattle.nr_trace.specs.declared.refusals.fault.Format.TheVariants as formats
use Rattle.nr_trace.specs.declared.refusals.fault.Fault.{Fault}
use Rattle.nr_trace.specs.declared.refusals.fault.Fault.TheVariants as faults
use Rattle.audit_texts.specs.EvidenceJson.{number_data}
use Rattle.audit_texts.specs.Text.{fault_text, line_end, verdict_line, verdict_text}

-- a number of a fault: a count or an address
pub data FaultNumber : Type 0 where
  counted : ℕ → FaultNumber
  addressed : ℕ → FaultNumber

-- a number of a fault as JSON has it: a number, or for an address a string, as in the text
abbrev pub fault_number_data : FaultNumber → Data
fault_number_data (counted number) = number_data number
fault_number_data (addressed address) = string (hexadecimal address)

-- a number of a fault as its text has it, after a space
abbrev pub fault_number_text : FaultNumber → List ℕ
fault_number_text (counted number) = space ++ decimal number
fault_number_text (addressed address) = space ++ hexadecimal address

-- the numbers of a fault as a list of JSON
abbrev pub numbers_data : List FaultNumber → Data
numbers_data numbers = array (items_of (map fault_number_data numbers))

-- the number of a fault: its place among all faults, from 1 on
unfoldable pub fault_code : Fault → ℕ
fault_code (faults.Format fault) = 1
fault_code (faults.ThreadOpen index) = 2
fault_code (faults.NoSuchCall index) = 3
fault_code (faults.AnsweredTwice index) = 4
fault_code (faults.NotAnUpdate place) = 5
fault_code (faults.PlacedTwice place) = 6
fault_code (faults.NotPlaced index) = 7
fault_code (faults.PastLog index) = 8
fault_code (faults.Early call) = 9
fault_code (faults.WrongAnswer call) = 10
fault_code (faults.PrefixPastLog replica) = 11
fault_code (faults.PrefixShort replica) = 12
fault_code (faults.MissingFrame replica number) = 13
fault_code (faults.SharedFrame replica number) = 14
fault_code (faults.ReservedBit replica number index) = 15
fault_code (faults.StrayFrame replica number) = 16
fault_code (faults.Differs replica address) = 17
fault_code (faults.StartMissing number) = 18
fault_code (faults.StartShared number) = 19
fault_code (faults.StartReserved number index) = 20
fault_code (faults.StartStray number) = 21
fault_code (faults.StartBeyond base) = 22
fault_code (faults.StartDiffers address) = 23
fault_code (faults.Stale call) = 24
fault_code (faults.Reachable call) = 25

-- the name of a fault of the format, with that of all such faults before it
unfoldable pub format_name : Format → List ℕ
format_name formats.Truncated = codes "Format Truncated"
format_name formats.BadMagic = codes "Format BadMagic"
format_name formats.BadVersion = codes "Format BadVersion"
format_name formats.BadCount = codes "Format BadCount"
format_name formats.BadChain = codes "Format BadChain"
format_name (formats.BadStart index) = codes "Format BadStart"
format_name (formats.BadEvent index) = codes "Format BadEvent"
format_name (formats.BadFrame replica index) = codes "Format BadFrame"
format_name formats.Trailing = codes "Format Trailing"

-- the name of a fault, as in the text
unfoldable pub fault_name : Fault → List ℕ
fault_name (faults.Format fault) = format_name fault
fault_name (faults.ThreadOpen index) = codes "ThreadOpen"
fault_name (faults.NoSuchCall index) = codes "NoSuchCall"
fault_name (faults.AnsweredTwice index) = codes "AnsweredTwice"
fault_name (faults.NotAnUpdate place) = codes "NotAnUpdate"
fault_name (faults.PlacedTwice place) = codes "PlacedTwice"
fault_name (faults.NotPlaced index) = codes "NotPlaced"
fault_name (faults.PastLog index) = codes "PastLog"
fault_name (faults.Early call) = codes "Early"
fault_name (faults.WrongAnswer call) = codes "WrongAnswer"
fault_name (faults.PrefixPastLog replica) = codes "PrefixPastLog"
fault_name (faults.PrefixShort replica) = codes "PrefixShort"
fault_name (faults.MissingFrame replica number) = codes "MissingFrame"
fault_name (faults.SharedFrame replica number) = codes "SharedFrame"
fault_name (faults.ReservedBit replica number index) = codes "ReservedBit"
fault_name (faults.StrayFrame replica number) = codes "StrayFrame"
fault_name (faults.Differs replica address) = codes "Differs"
fault_name (faults.StartMissing number) = codes "StartMissing"
fault_name (faults.StartShared number) = codes "StartShared"
fault_name (faults.StartReserved number index) = codes "StartReserved"
fault_name (faults.StartStray number) = codes "StartStray"
fault_name (faults.StartBeyond base) = codes "StartBeyond"
fault_name (faults.StartDiffers address) = codes "StartDiffers"
fault_name (faults.Stale call) = codes "Stale"
fault_name (faults.Reachable call) = codes "Reachable"

-- the numbers of a fault of the format
unfoldable pub format_numbers : Format → List FaultNumber
format_numbers formats.Truncated = []
format_numbers formats.BadMagic = []
format_numbers formats.BadVersion = []
format_numbers formats.BadCount = []
format_numbers formats.BadChain = []
format_numbers (formats.BadStart index) = counted index ∷ []
format_numbers (formats.BadEvent index) = counted index ∷ []
format_numbers (formats.BadFrame replica index) = counted replica ∷ counted index ∷ []
format_numbers formats.Trailing = []

-- the numbers of a fault, in the order of the text
unfoldable pub fault_numbers : Fault → List FaultNumber
fault_numbers (faults.Format fault) = format_numbers fault
fault_numbers (faults.ThreadOpen index) = counted index ∷ []
fault_numbers (faults.NoSuchCall index) = counted index ∷ []
fault_numbers (faults.AnsweredTwice index) = counted index ∷ []
fault_numbers (faults.NotAnUpdate place) = counted place ∷ []
fault_numbers (faults.PlacedTwice place) = counted place ∷ []
fault_numbers (faults.NotPlaced index) = counted index ∷ []
fault_numbers (faults.PastLog index) = counted index ∷ []
fault_numbers (faults.Early call) = counted call ∷ []
fault_numbers (faults.WrongAnswer call) = counted call ∷ []
fault_numbers (faults.PrefixPastLog replica) = counted replica ∷ []
fault_numbers (faults.PrefixShort replica) = counted replica ∷ []
fault_numbers (faults.MissingFrame replica number) = counted replica ∷ counted number ∷ []
fault_numbers (faults.SharedFrame replica number) = counted replica ∷ counted number ∷ []
fault_numbers (faults.ReservedBit replica number index) = counted replica ∷ counted number ∷ counted index ∷ []
fault_numbers (faults.StrayFrame replica number) = counted replica ∷ counted number ∷ []
fault_numbers (faults.Differs replica address) = counted replica ∷ addressed address ∷ []
fault_numbers (faults.StartMissing number) = counted number ∷ []
fault_numbers (faults.StartShared number) = counted number ∷ []
fault_numbers (faults.StartReserved number index) = counted number ∷ counted index ∷ []
fault_numbers (faults.StartStray number) = counted number ∷ []
fault_numbers (faults.StartBeyond base) = addressed base ∷ []
fault_numbers (faults.StartDiffers address) = addressed address ∷ []
fault_numbers (faults.Stale call) = counted call ∷ []
fault_numbers (faults.Reachable call) = counted call ∷ []

-- the text of a fault, put together from its number, its name and its numbers
abbrev pub named_fault_text : Fault → List ℕ
named_fault_text fault = decimal (fault_code fault) ++ (space ++ (fault_name fault ++ flat_map fault_number_text (fault_numbers fault)))

-- the members of a no: the number of the fault, its name, its numbers, and the line of the verdict
abbrev pub fault_members : Fault → Members
fault_members fault =
    member (codes "code") (number_data (fault_code fault))
    (member (codes "fault") (string (fault_name fault))
    (member (codes "numbers") (numbers_data (fault_numbers fault))
    (member (codes "verdict") (string (codes "no " ++ fault_text fault)) no_members)))

-- the members of a right segment: how many calls its order has, and the line of the verdict
abbrev pub right_members : ℕ → Members
right_members calls =
    member (codes "calls") (number_data calls)
    (member (codes "verdict") (string (codes "yes")) no_members)

-- the members of a yes: how many calls its order has, how many of these overlap another one, and the line of the verdict
abbrev pub yes_members : ℕ → ℕ → Members
yes_members calls overlapping =
    member (codes "calls") (number_data calls)
    (member (codes "overlapping") (number_data overlapping)
    (member (codes "verdict") (string (codes "yes")) no_members))

-- the members of a verdict, where it is a yes and so many of its calls overlap another one
abbrev pub verdict_members : Verdict → ℕ → Members
verdict_members (Yes order) overlapping = yes_members (length order) overlapping
verdict_members (No fault) overlapping = fault_members fault

-- a value as JSON on a line, without spaces
abbrev pub json_line : Data → List ℕ
json_line data_of = compact_text data_of ++ line_end

-- the line of JSON of a verdict
abbrev pub verdict_json : Verdict → ℕ → List ℕ
verdict_json verdict overlapping = json_line (object (verdict_members verdict overlapping))

-- the line of JSON of the verdict on one of several files, which has the file's name too
abbrev pub named_json : List ℕ → Verdict → ℕ → List ℕ
named_json name verdict overlapping = json_line (object (put (codes "file") (string name) (verdict_members verdict overlapping)))

-- what is printed of a verdict: as JSON, for a yes with the number of its calls that overlap, or as lines
abbrev pub told_verdict : Bool → Verdict → ℕ → List ℕ
told_verdict true verdict overlapping = verdict_json verdict overlapping
told_verdict false verdict overlapping = verdict_text verdict

-- what is printed of the verdict on one of several files: as JSON, or the file's name, a colon and the first line
abbrev pub named_verdict : Bool → List ℕ → Verdict → ℕ → List ℕ
named_verdict true name verdict overlapping = named_json name verdict overlapping
named_verdict false name verdict overlapping = name ++ (codes ": " ++ verdict_line verdict)
