-- Chains: bytes that spell segments one behind the other, and what is found of them.
use Rattle.std.specs.Prelude.{◌≡◌, ℕ, List, [], ◌∷◌, ◌++◌, Option, Some, None, option_map}
use Rattle.vs_types.specs.Config.{Layout}
use Rattle.nr_trace.specs.Recording.{Recording}
use Rattle.nr_trace.specs.Spelling.{SpellsSegment}
use Rattle.nr_trace.specs.FirstFault.{HasSegmentFault}
use Rattle.nr_trace.specs.Orders.{recorded_order}
use Rattle.nr_trace.specs.declared.refusals.fault.Fault.TheVariants.{Format}
use Rattle.nr_trace.specs.Run.{Run}
use Rattle.nr_audit.specs.Faults.{IsFirstAfter, IsSoundAfter}
use Rattle.nr_audit.specs.Segments.{run_after}
use Rattle.nr_trace.specs.declared.refusals.fault.Fault.{Fault}

-- how the segments before are laid out, if there are any
abbrev pub layout_before : Option Run → Option Layout
layout_before before = option_map (λ run. run.trace.layout) before

-- the front of the bytes spells the segment, where the one before has this layout, and these come behind it
pub record BeginsWith (before : Option Layout) (bytes : List ℕ) (segment : Recording) (rest : List ℕ) : Type 0 where
  pub own : List ℕ
  pub is : bytes ≡ own ++ rest
  pub spelled : SpellsSegment before own segment

-- the bytes spell these segments, one behind the other, where the one before has this layout
abbrev pub SpellAll : Option Layout → List ℕ → List Recording → Type 0
SpellAll before bytes [] = bytes ≡ []
SpellAll before bytes (segment ∷ more) = (rest : List ℕ) × BeginsWith before bytes segment rest × SpellAll (Some segment.layout) rest more

-- the bytes spell a chain: one segment or more
abbrev pub SpellsChain : List ℕ → Recording → List Recording → Type 0
SpellsChain bytes first more = SpellAll None bytes (first ∷ more)

-- the next segment is spelled at the front of the bytes, and this is its first fault
abbrev pub HasFirstNext : Option Run → List ℕ → Fault → Type 0
HasFirstNext before bytes fault =
    (segment : Recording) × (rest : List ℕ) × BeginsWith (layout_before before) bytes segment rest × IsFirstAfter before segment fault

-- the first fault of the next segment: of its format, or of what is spelled
abbrev pub IsFirstNext : Option Run → List ℕ → Fault → Type 0
IsFirstNext before bytes (Format fault) = HasSegmentFault (layout_before before) bytes fault
IsFirstNext before bytes fault = HasFirstNext before bytes fault

-- how a chain ends at some bytes: well where none is left behind a segment, else with the first fault of the next one
abbrev pub EndsWith : Option Run → List ℕ → Option Fault → Type 0
EndsWith (Some run) [] found = found ≡ None
EndsWith before bytes None = ⊥
EndsWith before bytes (Some fault) = IsFirstNext before bytes fault

-- what is found of bytes behind a run: so many segments are right, with these orders, and then the chain ends so
abbrev pub GoesOnSo : Option Run → List ℕ → List (List ℕ) → Option Fault → Type 0
GoesOnSo before bytes [] found = EndsWith before bytes found
GoesOnSo before bytes (order ∷ more) found =
    (segment : Recording) × (rest : List ℕ) × BeginsWith (layout_before before) bytes segment rest × IsSoundAfter before segment
    × (order ≡ recorded_order segment) × GoesOnSo (Some (run_after before segment)) rest more found
