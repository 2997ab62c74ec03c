-- The text of a fault is its number, its name and its numbers.
use Rattle.std.proofs.Common.{◌≡◌, ◌∙◌, ℕ, ◌++◌, List, [], ap, append-nil, codes, decimal, refl, sym}
use Rattle.std.specs.Fmt.{digits}
use Rattle.std.specs.List.{flat_map}
use Rattle.vs_text.specs.Words.{hexadecimal, space}
use Rattle.nr_trace.specs.declared.refusals.fault.Format.{Format}
use Rattle.nr_trace.specs.declared.refusals.fault.Format.TheVariants as formats
use Rattle.nr_trace.specs.declared.refusals.fault.Fault.{Fault}
use Rattle.nr_trace.specs.declared.refusals.fault.Fault.TheVariants as faults
use Rattle.audit_texts.specs.AuditJson.{fault_code, fault_name, fault_number_text, fault_numbers, format_name, format_numbers, named_fault_text}
use Rattle.audit_texts.specs.Text.{fault_text, format_text}

-- nothing comes behind the last number
last : (front text : List ℕ) → front ++ text ≡ front ++ (text ++ [])
last front text = ap (λ (l : List ℕ). front ++ l) (sym (append-nil text))

last_of_two : (front first second : List ℕ) → front ++ (first ++ (space ++ second)) ≡ front ++ (first ++ (space ++ (second ++ [])))
last_of_two front first second = ap (λ (l : List ℕ). front ++ (first ++ (space ++ l))) (sym (append-nil second))

last_of_three : (front first second third : List ℕ)
    → front ++ (first ++ (space ++ (second ++ (space ++ third)))) ≡ front ++ (first ++ (space ++ (second ++ (space ++ (third ++ [])))))
last_of_three front first second third = ap (λ (l : List ℕ). front ++ (first ++ (space ++ (second ++ (space ++ l))))) (sym (append-nil third))

-- the number of a fault as the text has it
abbrev code_words : Fault → List ℕ
code_words (faults.Format fault) = codes "1"
code_words (faults.ThreadOpen number) = codes "2"
code_words (faults.NoSuchCall number) = codes "3"
code_words (faults.AnsweredTwice number) = codes "4"
code_words (faults.NotAnUpdate number) = codes "5"
code_words (faults.PlacedTwice number) = codes "6"
code_words (faults.NotPlaced number) = codes "7"
code_words (faults.PastLog number) = codes "8"
code_words (faults.Early number) = codes "9"
code_words (faults.WrongAnswer number) = codes "10"
code_words (faults.PrefixPastLog number) = codes "11"
code_words (faults.PrefixShort number) = codes "12"
code_words (faults.MissingFrame replica number) = codes "13"
code_words (faults.SharedFrame replica number) = codes "14"
code_words (faults.ReservedBit replica number index) = codes "15"
code_words (faults.StrayFrame replica number) = codes "16"
code_words (faults.Differs replica address) = codes "17"
code_words (faults.StartMissing number) = codes "18"
code_words (faults.StartShared number) = codes "19"
code_words (faults.StartReserved number index) = codes "20"
code_words (faults.StartStray number) = codes "21"
code_words (faults.StartBeyond number) = codes "22"
code_words (faults.StartDiffers number) = codes "23"
code_words (faults.Stale number) = codes "24"
code_words (faults.Reachable number) = codes "25"

coded : (fault : Fault) → code_words fault ≡ decimal (fault_code fault)
unfolding digits fault_code
coded (faults.Format fault) = refl
coded (faults.ThreadOpen number) = refl
coded (faults.NoSuchCall number) = refl
coded (faults.AnsweredTwice number) = refl
coded (faults.NotAnUpdate number) = refl
coded (faults.PlacedTwice number) = refl
coded (faults.NotPlaced number) = refl
coded (faults.PastLog number) = refl
coded (faults.Early number) = refl
coded (faults.WrongAnswer number) = refl
coded (faults.PrefixPastLog number) = refl
coded (faults.PrefixShort number) = refl
coded (faults.MissingFrame replica number) = refl
coded (faults.SharedFrame replica number) = refl
coded (faults.ReservedBit replica number index) = refl
coded (faults.StrayFrame replica number) = refl
coded (faults.Differs replica address) = refl
coded (faults.StartMissing number) = refl
coded (faults.StartShared number) = refl
coded (faults.StartReserved number index) = refl
coded (faults.StartStray number) = refl
coded (faults.StartBeyond number) = refl
coded (faults.StartDiffers number) = refl
coded (faults.Stale number) = refl
coded (faults.Reachable number) = refl

-- what comes behind the number
abbrev behind_code : Fault → List ℕ
behind_code fault = space ++ (fault_name fault ++ flat_map fault_number_text (fault_numbers fault))

format_as_told : (fault : Format) → fault_text (faults.Format fault) ≡ codes "1" ++ behind_code (faults.Format fault)
unfolding fault_text format_text fault_name fault_numbers format_name format_numbers
format_as_told formats.Truncated = refl
format_as_told formats.BadMagic = refl
format_as_told formats.BadVersion = refl
format_as_told formats.BadCount = refl
format_as_told formats.BadChain = refl
format_as_told (formats.BadStart index) = last (codes "1 Format BadStart ") (decimal index)
format_as_told (formats.BadEvent index) = last (codes "1 Format BadEvent ") (decimal index)
format_as_told (formats.BadFrame replica index) = last_of_two (codes "1 Format BadFrame ") (decimal replica) (decimal index)
format_as_told formats.Trailing = refl

as_told : (fault : Fault) → fault_text fault ≡ code_words fault ++ behind_code fault
unfolding fault_text fault_name fault_numbers
as_told (faults.Format fault) = format_as_told fault
as_told (faults.ThreadOpen index) = last (codes "2 ThreadOpen ") (decimal index)
as_told (faults.NoSuchCall index) = last (codes "3 NoSuchCall ") (decimal index)
as_told (faults.AnsweredTwice index) = last (codes "4 AnsweredTwice ") (decimal index)
as_told (faults.NotAnUpdate place) = last (codes "5 NotAnUpdate ") (decimal place)
as_told (faults.PlacedTwice place) = last (codes "6 PlacedTwice ") (decimal place)
as_told (faults.NotPlaced index) = last (codes "7 NotPlaced ") (decimal index)
as_told (faults.PastLog index) = last (codes "8 PastLog ") (decimal index)
as_told (faults.Early call) = last (codes "9 Early ") (decimal call)
as_told (faults.WrongAnswer call) = last (codes "10 WrongAnswer ") (decimal call)
as_told (faults.PrefixPastLog replica) = last (codes "11 PrefixPastLog ") (decimal replica)
as_told (faults.PrefixShort replica) = last (codes "12 PrefixShort ") (decimal replica)
as_told (faults.MissingFrame replica number) = last_of_two (codes "13 MissingFrame ") (decimal replica) (decimal number)
as_told (faults.SharedFrame replica number) = last_of_two (codes "14 SharedFrame ") (decimal replica) (decimal number)
as_told (faults.ReservedBit replica number index) =
    last_of_three (codes "15 ReservedBit ") (decimal replica) (decimal number) (decimal index)
as_told (faults.StrayFrame replica number) = last_of_two (codes "16 StrayFrame ") (decimal replica) (decimal number)
as_told (faults.Differs replica address) = last_of_two (codes "17 Differs ") (decimal replica) (hexadecimal address)
as_told (faults.StartMissing number) = last (codes "18 StartMissing ") (decimal number)
as_told (faults.StartShared number) = last (codes "19 StartShared ") (decimal number)
as_told (faults.StartReserved number index) = last_of_two (codes "20 StartReserved ") (decimal number) (decimal index)
as_told (faults.StartStray number) = last (codes "21 StartStray ") (decimal number)
as_told (faults.StartBeyond base) = last (codes "22 StartBeyond ") (hexadecimal base)
as_told (faults.StartDiffers address) = last (codes "23 StartDiffers ") (hexadecimal address)
as_told (faults.Stale call) = last (codes "24 Stale ") (decimal call)
as_told (faults.Reachable call) = last (codes "25 Reachable ") (decimal call)

pub named_as_told : (fault : Fault) → fault_text fault ≡ named_fault_text fault
named_as_told fault = as_told fault ∙ ap (λ (l : List ℕ). l ++ behind_code fault) (coded fault)
