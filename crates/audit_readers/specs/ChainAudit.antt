-- What the audit of a chain answers to bytes, how much it reads, and what it has written where it gives no answer.
use Rattle.std.specs.Prelude.{◌≡◌, ◌<◌, ◌≤◌, ◌⊎◌, ◌++◌, ℕ, true, List, [], ◌∷◌, length, Option, None, Some, unwrap_or}
use Rattle.std.specs.Io.KnownBytes.{Appends, Consumes}
use Rattle.nr_trace.specs.declared.refusals.fault.Fault.TheVariants.{Format}
use Rattle.nr_trace.specs.declared.refusals.fault.Format.TheVariants.{Truncated}
use Rattle.nr_trace.specs.declared.refusals.fault.Fault.{Fault}
use Rattle.nr_trace.specs.Recording.{Recording}
use Rattle.nr_trace.specs.Run.{Run}
use Rattle.nr_audit.specs.Met.{no_totals, totals_with, HasMet}
use Rattle.nr_audit.specs.Segments.{run_after}
use Rattle.nr_audit.specs.Start.{begins_in}
use Rattle.nr_audit.specs.declared.histories.met.Met.{Met}
use Rattle.nr_audit.specs.declared.histories.met.Totals.{Totals}
use Rattle.nr_chain.specs.Bytes.{layout_before, BeginsWith, GoesOnSo}
use Rattle.nr_chain.specs.Headline.{IsRightChain}
use Rattle.audit_readers.specs.declared.fault.ProgFault.{ProgFault}
use Rattle.audit_readers.specs.declared.fault.ProgFault.TheVariants.{CannotRead}
use Rattle.audit_texts.specs.ChainText.{chain_status, chain_text, shown_lines}
use Rattle.audit_texts.specs.declared.chain.style.Style.{Style}

-- the bytes are those of segments with these orders, of which so much is counted, one after another: from these totals on to those
abbrev pub CountsTo : Option Run → List ℕ → List (List ℕ) → Totals → Totals → Type 0
CountsTo run bytes [] old new = new ≡ old
CountsTo run bytes (order ∷ more) old new =
    (segment : Recording) × (behind : List ℕ) × BeginsWith (layout_before run) bytes segment behind
    × (met : Met) × HasMet run (begins_in run segment) segment met
    × CountsTo (Some (run_after run segment)) behind more (totals_with old order met) new

-- an audit counts where what it answers depends on it: in JSON, or where some calls are to overlap
abbrev pub IsCounted : Style → ℕ → Type 0
IsCounted style least = (style.as_json ≡ true) ⊎ (0 < least)

-- the text and the status are those of what is found of these bytes, where so many calls are to overlap. Where no fault is, they are right
-- with these orders, and these are their totals, if they are counted
pub record IsChainAudit (style : Style) (least : ℕ) (bytes text : List ℕ) (status : ℕ) : Type 0 where
  pub orders : List (List ℕ)
  pub found : Option Fault
  pub goes_on : GoesOnSo None bytes orders found
  pub right : found ≡ None → IsRightChain bytes orders
  pub totals : Totals
  pub counted : IsCounted style least → found ≡ None → CountsTo None bytes orders no_totals totals
  pub text_is : text ≡ chain_text style orders totals found
  pub status_is : status ≡ chain_status least totals found

-- the bytes are those of right segments with these orders, and perhaps of one that is not whole, and has no fault but that
abbrev pub AreRightYet : List ℕ → List (List ℕ) → Type 0
AreRightYet bytes orders = (found : Option Fault) × GoesOnSo None bytes orders found × ((found ≡ None) ⊎ (found ≡ Some (Format Truncated)))

-- a text that goes with the status, on what was read, was written after what was there, and nothing else
pub record AuditsWhatIsRead (style : Style) (least : ℕ) (known left old new : Option (List ℕ)) (status : ℕ) : Type 0 where
  pub read : List ℕ
  pub consumed : Consumes known left read
  pub text : List ℕ
  pub is_audit : IsChainAudit style least read text status
  pub written : Appends old new text

-- how much was read: nothing is wrong yet with the bytes before the last block
pub record HasReadFewOfChain (old new : Option (List ℕ)) : Type 0 where
  pub before : List ℕ
  pub block : List ℕ
  pub read : Consumes old new (before ++ block)
  pub orders : List (List ℕ)
  pub right_yet : AreRightYet before orders
  pub one_block : length block ≤ 4096

-- no answer: the lines of right segments at the front of what was read were written, and nothing else; where the input
-- failed, of all segments that were whole
pub record HasWrittenFirst (style : Style) (known left old new : Option (List ℕ)) (fault : ProgFault) : Type 0 where
  pub front : List ℕ
  pub rest : List ℕ
  pub read : Consumes known left (front ++ rest)
  pub whole : fault ≡ CannotRead → rest ≡ []
  pub orders : List (List ℕ)
  pub right_yet : AreRightYet front orders
  pub written : Appends old new (shown_lines style 0 orders)

-- however much was written: the lines of all segments that were whole before the last read, and perhaps more behind them; so many bytes
-- were in that read, none where it gave an error
pub record HasWrittenAtOnce (style : Style) (known left : Option (List ℕ)) (last : Option ℕ) (old new : Option (List ℕ)) : Type 0 where
  pub before : List ℕ
  pub block : List ℕ
  pub read : Consumes known left (before ++ block)
  pub last_read : length block ≤ unwrap_or last 0
  pub orders : List (List ℕ)
  pub right_yet : AreRightYet before orders
  pub more : List ℕ
  pub written : Appends old new (shown_lines style 0 orders ++ more)
