-- The unit of a trace or of a segment that shows a fault of the format.
use Rattle.std.specs.Prelude.{◌≡◌, ℕ, ◌++◌, List, length, take, Result, MatchResult, ⊤}
use Rattle.nr_trace.specs.Recording.{Recording}
use Rattle.nr_trace.specs.Spelling.{Spells}
use Rattle.nr_trace.specs.FirstFault.{HasRefusalAs, refusal_at, unit_size}
use Rattle.nr_trace.specs.declared.formats.version.Form.{Form}
use Rattle.nr_trace.specs.declared.formats.version.Form.TheVariants as forms
use Rattle.nr_explain.specs.Fields.{field_fault}
use Rattle.nr_explain.specs.declared.units.TheConstants.{HEADER_BYTES}
use Rattle.nr_explain.specs.declared.units.BadUnit.{BadUnit}
use Rattle.nr_explain.specs.declared.units.Unread.{Unread}
use Rattle.nr_explain.specs.declared.units.Unread.TheVariants.{Memory, Bad}

-- the bytes are refused as this form at the unit, which begins behind the front; it is what was read of the rest; of an event the field is the
-- first that isn't what it may be after this header
pub record IsBadUnitAs (form : Form) (bytes : List ℕ) (bad : BadUnit) : Type 0 where
  pub front : List ℕ
  pub rest : List ℕ
  pub parts : bytes ≡ front ++ rest
  pub begins : bad.offset ≡ length front
  pub refused : HasRefusalAs form bytes (refusal_at bad.unit rest bad.fault)
  pub read : bad.read.items ≡ take (unit_size bad.unit) rest
  pub field : bad.field ≡ field_fault bad.fault (take HEADER_BYTES front) bad.read.items

-- it is the bad unit of the bytes as a trace
abbrev pub IsBadUnit : List ℕ → BadUnit → Type 0
IsBadUnit bytes bad = IsBadUnitAs forms.Trace bytes bad

-- what holds of the bad unit, if memory did not run out
abbrev pub IfBad : (BadUnit → Type 0) → Unread → Type 0
IfBad Is Memory = ⊤
IfBad Is (Bad bad) = Is bad

-- the bytes spell the trace, or this is their bad unit, or memory ran out
abbrev pub ReadsUnits : List ℕ → Result Recording Unread → Type 0
ReadsUnits bytes result = MatchResult result (Spells bytes) (IfBad (IsBadUnit bytes))

-- it is the bad unit, whatever comes after the bytes
abbrev pub IsBadFor : List ℕ → BadUnit → Type 0
IsBadFor bytes bad = (rest : List ℕ) → IsBadUnit (bytes ++ rest) bad
