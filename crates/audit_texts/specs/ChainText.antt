-- What the program prints of the segments of a chain: numbers in decimal, addresses in hexadecimal.
use Rattle.std.specs.Prelude.{ℕ, ◌+◌, ◌++◌, Bool, true, false, List, [], ◌∷◌, codes, decimal, length, nat_lt, Option, None, Some, if◌then◌else◌}
use Rattle.audit_texts.specs.ChainJson.{end_json, segment_json}
use Rattle.audit_texts.specs.Text.{fault_text, line_end, yes_text}
use Rattle.audit_texts.specs.declared.chain.style.Style.{Style}
use Rattle.nr_audit.specs.declared.histories.met.Totals.{Totals}
use Rattle.nr_trace.specs.declared.refusals.fault.Fault.{Fault}

-- the style of a quiet audit: lines, and none of right segments
abbrev pub quiet_lines : Style
quiet_lines = record { as_json = false; quiet = true }

-- the line before those of the segment of a number, counted from 0
abbrev pub segment_line : ℕ → List ℕ
segment_line number = codes "segment " ++ (decimal number ++ line_end)

-- the lines of a segment that is right with this order of its calls
abbrev pub segment_lines : ℕ → List ℕ → List ℕ
segment_lines number order = segment_line number ++ yes_text order

-- what is printed of a segment that is right with this order of its calls: JSON or lines
abbrev pub told_segment : Bool → ℕ → List ℕ → List ℕ
told_segment true number order = segment_json number (length order)
told_segment false number order = segment_lines number order

-- the lines of right segments, the first of which has this number
abbrev pub right_lines : Bool → ℕ → List (List ℕ) → List ℕ
right_lines as_json number [] = []
right_lines as_json number (order ∷ more) = told_segment as_json number order ++ right_lines as_json (number + 1) more

-- none of these are printed if it is quiet
abbrev pub shown_lines : Style → ℕ → List (List ℕ) → List ℕ
shown_lines style number orders = if style.quiet then [] else right_lines style.as_json number orders

-- the lines of one right segment, or none if the audit is quiet
abbrev pub lines_of : Style → ℕ → List ℕ → List ℕ
lines_of style number order = if style.quiet then [] else told_segment style.as_json number order

-- the last lines, where so many segments are right: how many there are; or the next one, and its fault
abbrev pub end_lines : ℕ → Option Fault → List ℕ
end_lines number None = codes "segments " ++ (decimal number ++ line_end)
end_lines number (Some fault) = codes "segment " ++ (decimal number ++ (codes "\nno " ++ (fault_text fault ++ line_end)))

-- what is printed at the end of a chain of which so many segments are right: JSON or lines
abbrev pub told_end : Bool → ℕ → Totals → Option Fault → List ℕ
told_end true number totals found = end_json number totals found
told_end false number totals found = end_lines number found

-- all that is printed of a chain of which these segments are right, and then the next one has this fault, or none is left
abbrev pub chain_text : Style → List (List ℕ) → Totals → Option Fault → List ℕ
chain_text style orders totals found = shown_lines style 0 orders ++ told_end style.as_json (length orders) totals found

-- 0 where the chain is right, but 2 where fewer of its calls overlap than are asked for; else 1
abbrev pub chain_status : ℕ → Totals → Option Fault → ℕ
chain_status least totals None = if nat_lt totals.met.overlapping least then 2 else 0
chain_status least totals (Some fault) = 1
