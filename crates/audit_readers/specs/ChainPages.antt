-- What is printed of the pages of a chain: those with which it begins, and those after its last segment.
use Rattle.std.specs.Prelude.{◌≡◌, ◌≤◌, ◌⊎◌, ◌++◌, ℕ, Bool, List, [], length, Option, Some, None}
use Rattle.std.specs.Io.KnownBytes.{Consumes}
use Rattle.vs_types.specs.Space.{pages, IsSpace}
use Rattle.nr_trace.specs.Recording.{Recording}
use Rattle.nr_trace.specs.FirstFault.{HasSegmentFault}
use Rattle.nr_trace.specs.declared.refusals.fault.Format.TheVariants.{Truncated}
use Rattle.nr_audit.specs.Faults.{IsSoundAfter}
use Rattle.nr_audit.specs.Releases.{IsSettled}
use Rattle.nr_audit.specs.Start.{first_space}
use Rattle.nr_trace.specs.declared.refusals.fault.Fault.{Fault}
use Rattle.nr_chain.specs.Bytes.{BeginsWith, GoesOnSo, SpellAll}
use Rattle.nr_trace.specs.Run.{Run, end_of}
use Rattle.nr_chain.specs.Headline.{IsRightChain}
use Rattle.nr_chain.specs.Parts.{ComesTo, HaveReleases}
use Rattle.audit_texts.specs.Listing.{pages_text}
use Rattle.audit_texts.specs.ChainText.{end_lines}

-- after these right segments the next one has a fault, and the text is that of the first: the last lines of an audit
pub record TellsFault (orders : List (List ℕ)) (bytes text : List ℕ) (status : ℕ) : Type 0 where
  pub fault : Fault
  pub goes_on : GoesOnSo None bytes orders (Some fault)
  pub text_is : text ≡ end_lines (length orders) (Some fault)
  pub status_is : status ≡ 1

-- the first segment is right, and the text is that of the pages of its start; of none where it has no start
pub record ShowsStart (as_ranges : Bool) (bytes text : List ℕ) (status : ℕ) : Type 0 where
  pub first : Recording
  pub rest : List ℕ
  pub begins : BeginsWith None bytes first rest
  pub sound : IsSoundAfter None first
  pub text_is : text ≡ pages_text as_ranges (pages (first_space None first))
  pub status_is : status ≡ 0

-- all segments are right, and the text is that of the pages of the space after the last
pub record ShowsEnd (as_ranges : Bool) (bytes text : List ℕ) (status : ℕ) : Type 0 where
  pub orders : List (List ℕ)
  pub goes_on : GoesOnSo None bytes orders None
  pub right : IsRightChain bytes orders
  pub last : Run
  pub comes : ComesTo None bytes last
  pub is_space : IsSpace last.trace.layout.depth (end_of last)
  pub text_is : text ≡ pages_text as_ranges (pages (end_of last))
  pub status_is : status ≡ 0

-- where a part gives memory away, each page that may still be found behind the run before it leads where the page does that is there
abbrev pub IsSettledBefore : Run → List ℕ → Type 0
IsSettledBefore end back = (segments : List Recording) → SpellAll None back segments → HaveReleases segments → IsSettled end

-- the answer of `pages --start`: the text is that of the start; or the first segment has a fault
abbrev pub IsChainStart : Bool → List ℕ → List ℕ → ℕ → Type 0
IsChainStart as_ranges bytes text status = ShowsStart as_ranges bytes text status ⊎ TellsFault [] bytes text status

-- the answer of `pages --end`: the text is that of the end; or some segment has a fault
abbrev pub IsChainEnd : Bool → List ℕ → List ℕ → ℕ → Type 0
IsChainEnd as_ranges bytes text status =
    ShowsEnd as_ranges bytes text status ⊎ ((orders : List (List ℕ)) × TellsFault orders bytes text status)

-- how much was read for the start: the bytes before the last block are too few for a segment
pub record HasReadFewOfStart (old new : Option (List ℕ)) : Type 0 where
  pub before : List ℕ
  pub block : List ℕ
  pub read : Consumes old new (before ++ block)
  pub short : HasSegmentFault None before Truncated
  pub one_block : length block ≤ 4096
