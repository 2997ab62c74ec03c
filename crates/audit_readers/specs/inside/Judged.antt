-- A chain that was read to its end or to its first fault, and what is said of its pages. No public clause cites this file.
use Rattle.std.specs.Prelude.{◌≡◌, ◌⊎◌, ℕ, Bool, true, false, List, [], length, Option, Some, None, ⊤}
use Rattle.std.specs.Io.KnownBytes.{Appends, Consumes, IsAtEnd}
use Rattle.vs_types.specs.Space.{pages, IsSpace}
use Rattle.nr_trace.specs.declared.refusals.fault.Fault.{Fault}
use Rattle.nr_trace.specs.Run.{Run, end_of}
use Rattle.nr_audit.specs.Met.{no_totals}
use Rattle.nr_audit.specs.declared.histories.met.Totals.{Totals}
use Rattle.nr_chain.specs.Fed.{IsKeptOf}
use Rattle.nr_chain.specs.Bytes.{EndsWith}
use Rattle.nr_chain.specs.Verdict.{LastsNext}
use Rattle.audit_texts.specs.Listing.{pages_text}
use Rattle.audit_texts.specs.ChainText.{end_lines, shown_lines}
use Rattle.audit_readers.specs.inside.Going.{GoesOnTo}
use Rattle.audit_readers.specs.declared.chain.audit.Judged.{Judged}
use Rattle.audit_readers.specs.declared.chain.audit.Judged.TheVariants.{Ended, Faulty}
use Rattle.audit_texts.specs.declared.chain.style.Style.{Style}

-- what the reader has lost are right segments and others behind them, and the lines of these segments were written
pub record IsAt (style : Style) (known left old new : Option (List ℕ)) (last : Option Run) (rest : List ℕ) (count : ℕ)
    (begun totals : Option Totals) : Type 0 where
  pub read : List ℕ
  pub consumed : Consumes known left read
  pub orders : List (List ℕ)
  pub goes_on : GoesOnTo None read orders last rest begun totals
  pub counted : count ≡ length orders
  pub written : Appends old new (shown_lines style 0 orders)

-- what is counted before the first segment, if it is asked
abbrev pub totals_begun : Bool → Option Totals
totals_begun true = Some no_totals
totals_begun false = None

-- the input has ended; or the next segment has a fault, whatever comes behind
abbrev pub HasJudged : Style → Bool → Option (List ℕ) → Option (List ℕ) → Option (List ℕ) → Option (List ℕ) → Judged → Type 0
HasJudged style counts known left old new (Ended chain count totals) =
    (last : Option Run) × IsKeptOf last chain.kept × IsAt style known left old new last chain.bytes count (totals_begun counts) totals × IsAtEnd left
HasJudged style counts known left old new (Faulty count fault) =
    (last : Option Run) × (rest : List ℕ) × (totals : Option Totals) × IsAt style known left old new last rest count (totals_begun counts) totals
    × LastsNext last rest fault × (rest ≡ [] → ⊥)

-- the text is that of the pages after the last segment, if there is one
abbrev pub IsTextAfter : Bool → Option Run → List ℕ → Type 0
IsTextAfter as_ranges None text = ⊤
IsTextAfter as_ranges (Some last) text = IsSpace last.trace.layout.depth (end_of last) × (text ≡ pages_text as_ranges (pages (end_of last)))

-- the chain ends well, and the text is that of the pages after its last segment
pub record SaysPages (as_ranges : Bool) (run : Option Run) (bytes text : List ℕ) (status : ℕ) : Type 0 where
  pub ends : EndsWith run bytes None
  pub last : Run
  pub last_is : run ≡ Some last
  pub is_space : IsSpace last.trace.layout.depth (end_of last)
  pub text_is : text ≡ pages_text as_ranges (pages (end_of last))
  pub status_is : status ≡ 0

-- the text is that of the fault of the segment of this number
pub record SaysFault (count : ℕ) (fault : Fault) (text : List ℕ) (status : ℕ) : Type 0 where
  pub text_is : text ≡ end_lines count (Some fault)
  pub status_is : status ≡ 1

abbrev pub SaysEnd : Bool → Judged → List ℕ → ℕ → Type 0
SaysEnd as_ranges (Ended chain count totals) text status = (run : Option Run) → IsKeptOf run chain.kept → SaysPages as_ranges run chain.bytes text status
    ⊎ ((fault : Fault) × EndsWith run chain.bytes (Some fault) × SaysFault count fault text status)
SaysEnd as_ranges (Faulty count fault) text status = SaysFault count fault text status
