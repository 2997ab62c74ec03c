-- A chain of which some segments are right, as far as it has come. No public clause cites this file.
use Rattle.std.specs.Prelude.{◌≡◌, ◌≤◌, ℕ, ◌+◌, ◌++◌, List, [], ◌∷◌, length, is_some, IfSome, Option, Some, None}
use Rattle.std.specs.Io.KnownBytes.{Appends}
use Rattle.nr_trace.specs.Recording.{Recording}
use Rattle.nr_trace.specs.FirstFault.{HasSegmentFault}
use Rattle.nr_trace.specs.Orders.{recorded_order}
use Rattle.nr_trace.specs.declared.refusals.fault.Format.TheVariants.{Truncated}
use Rattle.nr_audit.specs.Faults.{IsSoundAfter}
use Rattle.nr_trace.specs.Run.{Run}
use Rattle.nr_audit.specs.Met.{totals_with, HasMet}
use Rattle.nr_audit.specs.Segments.{run_after}
use Rattle.nr_audit.specs.Start.{begins_in}
use Rattle.nr_audit.specs.declared.histories.met.Met.{Met}
use Rattle.nr_audit.specs.declared.histories.met.Totals.{Totals}
use Rattle.nr_chain.specs.Fed.{ChainFed, IsKeptOf}
use Rattle.nr_chain.specs.Bytes.{layout_before, BeginsWith}
use Rattle.nr_chain.specs.Verdict.{LastsNext}
use Rattle.audit_texts.specs.ChainText.{shown_lines}
use Rattle.audit_readers.specs.declared.chain.audit.Taken.{Taken}
use Rattle.audit_readers.specs.declared.chain.audit.Taken.TheVariants.{More, Wrong}
use Rattle.audit_texts.specs.declared.chain.style.Style.{Style}

-- what is counted with a segment more, if it is
abbrev pub totals_if : Option Totals → List ℕ → Option Met → Option Totals
totals_if None order met = None
totals_if (Some totals) order None = None
totals_if (Some totals) order (Some met) = Some (totals_with totals order met)

-- the bytes are those of right segments with these orders, and then others; with the last segment the chain has come to that run, and the totals of
-- before, if there are any, to these
abbrev pub GoesOnTo : Option Run → List ℕ → List (List ℕ) → Option Run → List ℕ → Option Totals → Option Totals → Type 0
GoesOnTo run bytes [] last rest old new = (last ≡ run) × (rest ≡ bytes) × (new ≡ old)
GoesOnTo run bytes (order ∷ more) last rest old new =
    (segment : Recording) × (behind : List ℕ) × BeginsWith (layout_before run) bytes segment behind × IsSoundAfter run segment
    × (order ≡ recorded_order segment) × (met : Option Met) × IfSome met (HasMet run (begins_in run segment) segment) × (is_some met ≡ is_some old)
    × GoesOnTo (Some (run_after run segment)) behind more last rest (totals_if old order met) new

-- something was written after what was there, if anything
abbrev pub Grows : Option (List ℕ) → Option (List ℕ) → Type 0
Grows old new = (more : List ℕ) × Appends old new more

-- the bytes of the next segment are too few
abbrev pub IsShort : Option Run → List ℕ → Type 0
IsShort run bytes = HasSegmentFault (layout_before run) bytes Truncated

-- this is kept of some run, and the bytes of the next segment are too few
abbrev pub HasBegun : ChainFed → Type 0
HasBegun chain = (run : Option Run) × IsKeptOf run chain.kept × IsShort run chain.bytes

-- of a chain with so many right segments a block was taken: more segments are right, whose lines were written, and so many are right now
pub record TakesSegments (run : Option Run) (style : Style) (old : ChainFed) (number : ℕ) (block : List ℕ) (last : Option Run) (rest : List ℕ) (count : ℕ)
    (before after : Option (List ℕ)) (known totals : Option Totals) : Type 0 where
  pub orders : List (List ℕ)
  pub goes_on : GoesOnTo run (old.bytes ++ block) orders last rest known totals
  pub counted : count ≡ number + length orders
  pub written : Appends before after (shown_lines style number orders)

-- the whole block was taken, and its last segment isn't whole yet; or the next segment has a fault, whatever comes behind the block
abbrev pub TakesBlock : Option Run → Style → ChainFed → ℕ → List ℕ → Option (List ℕ) → Option (List ℕ) → Option Totals → Taken → Type 0
TakesBlock run style old number block before after known (More new count totals) =
    (last : Option Run) × TakesSegments run style old number block last new.bytes count before after known totals × IsKeptOf last new.kept
    × IsShort last new.bytes
    × (count ≤ number + length block)
TakesBlock run style old number block before after known (Wrong count fault) =
    (last : Option Run) × (rest : List ℕ) × (totals : Option Totals) × TakesSegments run style old number block last rest count before after known totals
    × LastsNext last rest fault × (rest ≡ [] → ⊥)

-- some of its segments were taken, before memory ran out
abbrev pub TakesSome : Option Run → Style → ChainFed → ℕ → List ℕ → Option (List ℕ) → Option (List ℕ) → Option Totals → Type 0
TakesSome run style old number block before after known =
    (last : Option Run) × (rest : List ℕ) × (count : ℕ) × (totals : Option Totals)
    × TakesSegments run style old number block last rest count before after known totals

-- between two pieces of a block: how much of it is left
pub record IsUnderWay (run : Option Run) (style : Style) (old : ChainFed) (number : ℕ) (block : List ℕ) (chain : ChainFed) (count : ℕ) (left : List ℕ)
    (before after : Option (List ℕ)) (known totals : Option Totals) : Type 0 where
  pub last : Option Run
  pub kept : IsKeptOf last chain.kept
  pub taken : TakesSegments run style old number block last (chain.bytes ++ left) count before after known totals
  pub short : IsShort last chain.bytes
  pub few : count + length left ≤ number + length block
