-- What the program prints of a fault and of a verdict: numbers in decimal, addresses in hexadecimal.
use Rattle.std.specs.Prelude.{ℕ, ◌++◌, List, codes, decimal, flat_map}
use Rattle.vs_types.specs.declared.requests.answer.Answer.{Answer}
use Rattle.vs_types.specs.declared.requests.answer.Answer.TheVariants as answers
use Rattle.vs_text.specs.Words.{hexadecimal, page_text, rights_text, space}
use Rattle.vs_walk.specs.declared.walk.Walk.{Walk}
use Rattle.vs_walk.specs.declared.walk.Walk.TheVariants.{NotMapped, Reserved, Missing, Mapped}
use Rattle.nr_audit.specs.declared.verdicts.verdict.Verdict.{Verdict}
use Rattle.nr_audit.specs.declared.verdicts.verdict.Verdict.TheVariants.{Yes, No}
use Rattle.nr_trace.specs.declared.refusals.fault.Format.{Format}
use Rattle.nr_trace.specs.declared.refusals.fault.Format.TheVariants as formats
use Rattle.nr_trace.specs.declared.refusals.fault.Fault.{Fault}
use Rattle.nr_trace.specs.declared.refusals.fault.Fault.TheVariants as faults

-- the end of a line: LF
abbrev pub line_end : List ℕ
line_end = codes "\n"

-- the name of a format fault, and its numbers
unfoldable pub format_text : Format → List ℕ
format_text formats.Truncated = codes "Truncated"
format_text formats.BadMagic = codes "BadMagic"
format_text formats.BadVersion = codes "BadVersion"
format_text formats.BadCount = codes "BadCount"
format_text formats.BadChain = codes "BadChain"
format_text (formats.BadStart index) = codes "BadStart " ++ decimal index
format_text (formats.BadEvent index) = codes "BadEvent " ++ decimal index
format_text (formats.BadFrame replica index) = codes "BadFrame " ++ (decimal replica ++ (space ++ decimal index))
format_text formats.Trailing = codes "Trailing"

-- the number of a fault, its name, and its numbers
unfoldable pub fault_text : Fault → List ℕ
fault_text (faults.Format fault) = codes "1 Format " ++ format_text fault
fault_text (faults.ThreadOpen index) = codes "2 ThreadOpen " ++ decimal index
fault_text (faults.NoSuchCall index) = codes "3 NoSuchCall " ++ decimal index
fault_text (faults.AnsweredTwice index) = codes "4 AnsweredTwice " ++ decimal index
fault_text (faults.NotAnUpdate place) = codes "5 NotAnUpdate " ++ decimal place
fault_text (faults.PlacedTwice place) = codes "6 PlacedTwice " ++ decimal place
fault_text (faults.NotPlaced index) = codes "7 NotPlaced " ++ decimal index
fault_text (faults.PastLog index) = codes "8 PastLog " ++ decimal index
fault_text (faults.Early call) = codes "9 Early " ++ decimal call
fault_text (faults.WrongAnswer call) = codes "10 WrongAnswer " ++ decimal call
fault_text (faults.PrefixPastLog replica) = codes "11 PrefixPastLog " ++ decimal replica
fault_text (faults.PrefixShort replica) = codes "12 PrefixShort " ++ decimal replica
fault_text (faults.MissingFrame replica number) = codes "13 MissingFrame " ++ (decimal replica ++ (space ++ decimal number))
fault_text (faults.SharedFrame replica number) = codes "14 SharedFrame " ++ (decimal replica ++ (space ++ decimal number))
fault_text (faults.ReservedBit replica number index) = codes "15 ReservedBit " ++ (decimal replica ++ (space ++ (decimal number ++ (space ++ decimal index))))
fault_text (faults.StrayFrame replica number) = codes "16 StrayFrame " ++ (decimal replica ++ (space ++ decimal number))
fault_text (faults.Differs replica address) = codes "17 Differs " ++ (decimal replica ++ (space ++ hexadecimal address))
fault_text (faults.StartMissing number) = codes "18 StartMissing " ++ decimal number
fault_text (faults.StartShared number) = codes "19 StartShared " ++ decimal number
fault_text (faults.StartReserved number index) = codes "20 StartReserved " ++ (decimal number ++ (space ++ decimal index))
fault_text (faults.StartStray number) = codes "21 StartStray " ++ decimal number
fault_text (faults.StartBeyond base) = codes "22 StartBeyond " ++ hexadecimal base
fault_text (faults.StartDiffers address) = codes "23 StartDiffers " ++ hexadecimal address
fault_text (faults.Stale call) = codes "24 Stale " ++ decimal call
fault_text (faults.Reachable call) = codes "25 Reachable " ++ decimal call

-- the line of a trace that is wrong
abbrev pub no_text : Fault → List ℕ
no_text fault = codes "no " ++ (fault_text fault ++ line_end)

-- a call of an order, after a space
abbrev pub call_text : ℕ → List ℕ
call_text call = space ++ decimal call

-- the lines of a trace that is right, with this order of its calls
abbrev pub yes_text : List ℕ → List ℕ
yes_text order = codes "yes\norder" ++ (flat_map call_text order ++ line_end)

-- the lines of a verdict
abbrev pub verdict_text : Verdict → List ℕ
verdict_text (Yes order) = yes_text order
verdict_text (No fault) = no_text fault

-- the first of them
abbrev pub verdict_line : Verdict → List ℕ
verdict_line (Yes order) = codes "yes\n"
verdict_line (No fault) = no_text fault

-- the end of a walk
unfoldable pub walk_words : Walk → List ℕ
walk_words NotMapped = codes "not mapped"
walk_words Reserved = codes "reserved"
walk_words Missing = codes "missing"
walk_words (Mapped phys size rights) = codes "mapped " ++ page_text phys size rights

-- the line of a walk's end
abbrev pub walk_text : Walk → List ℕ
walk_text ends = walk_words ends ++ line_end

-- the name of an answer, and what it says
unfoldable pub answer_text : Answer → List ℕ
answer_text answers.Done = codes "done"
answer_text (answers.Overlap base) = codes "overlap " ++ hexadecimal base
answer_text (answers.Full need) = codes "full " ++ decimal need
answer_text (answers.Removed phys size rights) = codes "removed " ++ page_text phys size rights
answer_text answers.NotMapped = codes "not mapped"
answer_text (answers.Inside base) = codes "inside " ++ hexadecimal base
answer_text (answers.Changed rights) = codes "changed " ++ rights_text rights
answer_text (answers.Mapped phys size rights) = codes "mapped " ++ page_text phys size rights
answer_text (answers.Allowed phys) = codes "allowed " ++ hexadecimal phys
answer_text (answers.Fault code) = codes "fault " ++ decimal code
