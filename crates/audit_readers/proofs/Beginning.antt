-- The first segment of a chain that is read in blocks, and what is said of its start.
use Rattle.std.proofs.Common.{◌≡◌, ◌≤◌, ◌+◌, ◌-◌, ◌^◌, ℕ, ◌++◌, inl, inr, Bool, true, false, List, [], ◌∷◌, Contains, length, take, drop, append-nil, Option}
use Rattle.std.proofs.Common.{Some}
use Rattle.std.proofs.Common.{None, Result, Ok, Err, refl, sym, ap, ◌∙◌, subst, arith}
use Rattle.std.specs.Io.KnownBytes.{Consumes, IsAtEnd, Keeps}
use Rattle.std.proofs.KnownBytes.{Consumes-kept, Consumes-nil, Consumes-trans}
use Rattle.vs_types.specs.Space.{no_pages, pages}
use Rattle.vs_types.specs.declared.addresses.depth.Depth.{Depth}
use Rattle.vs_types.specs.declared.addresses.page.Page.{Page}
use Rattle.vs_types.proofs.Lists.{Contains-head}
use Rattle.vs_types.proofs.Spaces.{holds_listed, no_pages_space, none_held}
use Rattle.vs_types.specs.declared.requests.refusal.Fail.{Fail}
use Rattle.vs_types.specs.declared.requests.refusal.Fail.TheVariants.{Memory, Refused}
use Rattle.vs_walk.specs.Dump.{Image}
use Rattle.vs_walk.specs.Traversal.{walk_fault}
use Rattle.vs_walk.proofs.LawsOfSpaces.{translates_found}
use Rattle.nr_trace.specs.Recording.{IsRecording, Recording}
use Rattle.nr_trace.specs.Spelling.{SpellsSegment}
use Rattle.nr_trace.specs.FirstFault.{HasSegmentFault}
use Rattle.nr_trace.specs.Feed.{EndsSegment, FedSegment, FeedsSegment, IsWhole}
use Rattle.nr_trace.specs.Feed.Fed.{Stopped, Taken}
use Rattle.nr_trace.specs.declared.refusals.fault.Fault.TheVariants as faults
use Rattle.nr_trace.specs.declared.refusals.fault.Format.{Format}
use Rattle.nr_trace.specs.declared.refusals.fault.Format.TheVariants.{Truncated}
use Rattle.nr_trace.specs.declared.formats.version.Form.TheVariants as forms
use Rattle.nr_trace.specs.declared.refusals.fault.Fault.TheVariants.{StartMissing, StartShared, StartReserved}
use Rattle.nr_audit.specs.Faults.{IsSoundAfter}
use Rattle.nr_audit.specs.Start.{first_space, start_space}
use Rattle.nr_audit.proofs.Judgements.{begins_of}
use Rattle.nr_audit.proofs.StartSpaces.{space_of_start, start_is_whole}
use Rattle.nr_audit.proofs.Starts.{none_walked}
use Rattle.nr_chain.specs.Bytes.{BeginsWith}
use Rattle.nr_chain.proofs.Ends.{none_is_short}
use Rattle.nr_chain.proofs.Judged.{cut_so, first_next}
use Rattle.nr_chain.proofs.Pieces.{ended, too_short, took, took_all, Took}
use Rattle.nr_chain.proofs.Wholes.{not_refused}
use Rattle.nr_chain.specs.inside.Between.{bytes_in}
use Rattle.audit_texts.specs.Dumps.{dump_text}
use Rattle.audit_texts.specs.Listing.{pages_text}
use Rattle.audit_readers.specs.ChainPages.{HasReadFewOfStart, IsChainStart}
use Rattle.audit_readers.specs.inside.Begun.{BeginsSo, HasReadFirst, IsBegun, SaysOfFirst, SaysUnread}
use Rattle.audit_readers.proofs.Inputs.{one_block, whole_read, whole_with}
use Rattle.audit_readers.specs.Ends.{IsUnreadable}
use Rattle.audit_readers.proofs.Reading.{many_more}
use Rattle.audit_readers.specs.declared.chain.audit.TheConstants.{MOST_BLOCKS}
use Rattle.std.proofs.lemmas.List.{length-append}

abbrev fed_first : List ℕ → FedSegment
fed_first bytes = record { before = None; pieces = Taken bytes }

-- nothing is read yet
pub begins : (known : Option (List ℕ)) (feed : FedSegment) → feed ≡ fed_first [] → IsBegun known known feed MOST_BLOCKS
begins known feed is = record {
  read = [];
  many = omega arith;
  consumed = Consumes-nil known;
  feed_is = is;
  short = none_is_short (forms.Segment None);
}

-- what a feed of a first segment makes of a piece
took_first : (read piece : List ℕ) (feed new : FedSegment) (count : ℕ) → feed ≡ fed_first read → FeedsSegment feed piece new (Ok count)
    → Took None read piece new count
took_first read piece feed new count is feeds =
    took (fed_first read) new piece count (subst (λ (f : FedSegment). FeedsSegment f piece new (Ok count)) is feeds)

-- ---- how much is read

few_more : {room : ℕ} (known left next : Option (List ℕ)) (feed : FedSegment) (piece : List ℕ) → IsBegun known left feed room → Consumes left next piece
    → length piece ≤ 4096 → HasReadFewOfStart known next
few_more known left next feed piece begun lost size = record {
  before = begun.read;
  block = piece;
  read = Consumes-trans known left next begun.read piece begun.consumed lost;
  short = begun.short;
  one_block = size;
}

pub few_begun : {known left next : Option (List ℕ)} {feed : FedSegment} {room : ℕ} (count : ℕ) (block : List ℕ) → IsBegun known left feed room
    → Consumes left next (take count block) → length block ≡ 4096 → HasReadFewOfStart known next
few_begun count block begun lost full = few_more _ _ _ _ (take count block) begun lost (one_block count block full)

pub few_stayed : {known left next : Option (List ℕ)} {feed : FedSegment} {room : ℕ} → IsBegun known left feed room → Keeps left next
    → HasReadFewOfStart known next
few_stayed {left = left} {next = next} begun keeps =
    few_more _ _ _ _ [] begun (Consumes-kept left left next [] (Consumes-nil left) keeps) (omega arith)

-- ---- the input ends

ends_so : (read : List ℕ) (result : Result Recording (Fail Format)) → EndsSegment (fed_first read) result → BeginsSo read result
ends_so read (Ok segment) ends = ([], record { own = read; is = sym (append-nil read); spelled = ends })
ends_so read (Err (Refused fault)) (is, short) =
    let same : fault ≡ Truncated = cc in subst (HasSegmentFault None read) (sym same) short
ends_so read (Err Memory) ends = tt

pub first_ended : {room : ℕ} (known left next : Option (List ℕ)) (feed : FedSegment) (piece : List ℕ) (result : Result Recording (Fail Format))
    → IsBegun known left feed room
    → Consumes left next piece → piece ≡ [] → IsAtEnd next → EndsSegment feed result → HasReadFirst known result
first_ended known left next feed piece result begun lost none end ends =
    let consumed = subst (Consumes known next) (ap (λ (p : List ℕ). begun.read ++ p) none ∙ append-nil begun.read)
    (Consumes-trans known left next begun.read piece begun.consumed lost) in
    record {
      input = begun.read;
      is_read = whole_read known next begun.read consumed end;
      begins = ends_so begun.read result (subst (λ (f : FedSegment). EndsSegment f result) begun.feed_is ends);
    }

-- ---- the bytes are refused

refused_so : (read piece behind : List ℕ) (new : FedSegment) (fail : Fail Format) → FeedsSegment (fed_first read) piece new (Err fail)
    → BeginsSo ((read ++ piece) ++ behind) (Err fail)
refused_so read piece behind new (Refused fault) feeds = feeds.1.1 behind
refused_so read piece behind new Memory feeds = tt

first_refused : {room : ℕ} (known left next : Option (List ℕ)) (feed new : FedSegment) (piece : List ℕ) (fail : Fail Format) → IsBegun known left feed room
    → Consumes left next piece → FeedsSegment feed piece new (Err fail) → HasReadFirst known (Err fail)
first_refused known left next feed new piece fail begun lost feeds =
    let (behind, is) = whole_with known next (begun.read ++ piece) (Consumes-trans known left next begun.read piece begun.consumed lost) in
    record {
      input = (begun.read ++ piece) ++ behind;
      is_read = is;
      begins = refused_so begun.read piece behind new fail
          (subst (λ (f : FedSegment). FeedsSegment f piece new (Err fail)) begun.feed_is feeds);
    }

-- so it is with what such a feed ends with
pub first_stopped : {room : ℕ} (known left next : Option (List ℕ)) (feed new : FedSegment) (piece : List ℕ) (fail : Fail Format)
    (read : Result Recording (Fail Format)) → IsBegun known left feed room → Consumes left next piece → FeedsSegment feed piece new (Err fail)
    → EndsSegment new read → HasReadFirst known read
first_stopped known left next feed new piece fail read begun lost feeds ends =
    let here : FeedsSegment (fed_first begun.read) piece new (Err fail) =
    subst (λ (f : FedSegment). FeedsSegment f piece new (Err fail)) begun.feed_is feeds in
    let stopped : new ≡ record { before = new.before; pieces = Stopped fail } = λ i. record { before = new.before; pieces = here.1.0 i } in
    let same : read ≡ Err fail = subst (λ (f : FedSegment). EndsSegment f read) stopped ends in
    subst (HasReadFirst known) (sym same) (first_refused known left next feed new piece fail begun lost feeds)

-- ---- the segment is whole

whole_so : (read piece behind : List ℕ) (new : FedSegment) (count : ℕ) (result : Result Recording (Fail Format))
    → Took None read piece new count
    → IsWhole new → EndsSegment new result → BeginsSo ((read ++ piece) ++ behind) result
whole_so read piece behind new count (Ok segment) is whole ends =
    let pieces : bytes_in new.pieces ≡ read ++ take count piece = ap bytes_in is.taken in
    let spelled : SpellsSegment None (read ++ take count piece) segment =
    subst (λ (bytes : List ℕ). SpellsSegment None bytes segment) pieces
    (subst (λ before. SpellsSegment before (bytes_in new.pieces) segment) is.behind (ended new segment whole ends)) in
    (drop count piece ++ behind, record { own = read ++ take count piece; is = cut_so read piece behind count; spelled = spelled })
whole_so read piece behind new count (Err fail) is whole ends = absurd (not_refused new fail whole ends)

pub first_whole : {room : ℕ} (known left next : Option (List ℕ)) (feed new : FedSegment) (piece : List ℕ) (count : ℕ)
    (result : Result Recording (Fail Format))
    → IsBegun known left feed room → Consumes left next piece → FeedsSegment feed piece new (Ok count) → IsWhole new → EndsSegment new result
    → HasReadFirst known result
first_whole known left next feed new piece count result begun lost feeds whole ends =
    let (behind, is) = whole_with known next (begun.read ++ piece) (Consumes-trans known left next begun.read piece begun.consumed lost) in
    record {
      input = (begun.read ++ piece) ++ behind;
      is_read = is;
      begins = whole_so begun.read piece behind new count result (took_first begun.read piece feed new count begun.feed_is feeds) whole ends;
    }

-- ---- it isn't yet

pub first_goes_on : (known left next : Option (List ℕ)) (feed new : FedSegment) (piece : List ℕ) (count room less : ℕ)
    → IsBegun known left feed room → Consumes left next piece → 1 ≤ length piece → less + 1 ≡ room → FeedsSegment feed piece new (Ok count)
    → (IsWhole new → ⊥) → IsBegun known next new less
first_goes_on known left next feed new piece count room less begun lost some one feeds none =
    let is = took_first begun.read piece feed new count begun.feed_is feeds in
    let pieces : new.pieces ≡ Taken (begun.read ++ piece) = is.taken ∙ ap Taken (took_all None begun.read piece new count is none) in
    record {
      read = begun.read ++ piece;
      many = many_more (length begun.read) (length piece) _ room less begun.many some one (length-append begun.read piece);
      consumed = Consumes-trans known left next begun.read piece begun.consumed lost;
      feed_is = λ i. record { before = is.behind i; pieces = pieces i };
      short = too_short None begun.read piece new count is none;
    }

-- so many blocks were read
pub begins_too_late : {known left : Option (List ℕ)} {feed : FedSegment} {room : ℕ} (last : Option ℕ) → IsBegun known left feed room → room ≡ 0
    → IsUnreadable (2 ^ 52 - 1) known left last
begins_too_late last begun none =
    let many = begun.many in
    inr (begun.read, begun.consumed, omega (arith, many, none))

-- ---- what is said of its start

pub said_of_first : (as_ranges : Bool) (bytes : List ℕ) (segment : Recording) (rest text : List ℕ) (status : ℕ)
    → BeginsWith None bytes segment rest
    → SaysOfFirst as_ranges segment text status → IsChainStart as_ranges bytes text status
said_of_first as_ranges bytes segment rest text status starts (inl says) = inl record {
  first = segment;
  rest = rest;
  begins = starts;
  sound = says.sound;
  text_is = says.text_is;
  status_is = says.status_is;
}
said_of_first as_ranges bytes segment rest text status starts (inr (fault, first, says)) = inr record {
  fault = fault;
  goes_on = first_next None bytes fault (segment, rest, starts, first);
  text_is = says.text_is;
  status_is = says.status_is;
}

pub said_unread : (as_ranges : Bool) (bytes : List ℕ) (fail : Fail Format) (text : List ℕ) (status : ℕ) → BeginsSo bytes (Err fail)
    → SaysUnread fail text status → IsChainStart as_ranges bytes text status
said_unread as_ranges bytes (Refused fault) text status has says = inr record {
  fault = faults.Format fault;
  goes_on = has;
  text_is = says.text_is;
  status_is = says.status_is;
}
said_unread as_ranges bytes Memory text status has says = absurd says

-- ---- the pages of a start

-- the traversal of the start of a right segment meets no fault
pub start_walked : (segment : Recording) (start : Image) → segment.start ≡ Some start → IsSoundAfter None segment
    → walk_fault segment.layout.depth start.frames start.root ≡ None
start_walked segment start has sound =
    none_walked segment.layout.depth start (λ number holds. sound.faultless (StartMissing number) (start, has, holds))
    (λ number holds. sound.faultless (StartShared number) (start, has, holds))
    (λ number index holds. sound.faultless (StartReserved number index) (start, has, holds))

-- and finds the pages with which the segment begins
pub start_shown : (as_ranges : Bool) (segment : Recording) (start : Image) → IsRecording segment → segment.start ≡ Some start
    → IsSoundAfter None segment
    → dump_text as_ranges segment.layout.depth start ≡ pages_text as_ranges (pages (first_space None segment))
start_shown as_ranges segment start in_range has sound =
    let begun = space_of_start segment.layout.depth None start (start_is_whole segment start in_range has)
    (λ fault holds. begins_of None segment sound.faultless fault (start, has, holds)) in
    ap (pages_text as_ranges)
    (translates_found segment.layout.depth start.frames start.root (start_space segment.layout.depth (Some start))
    (start_is_whole segment start in_range has) begun.0 begun.1
    ∙ ap (λ (s : Option Image). pages (start_space segment.layout.depth s)) (sym has))

empty_list : (them : List Page) → ((page : Page) → Contains them page → ⊥) → them ≡ []
empty_list [] none = refl
empty_list (page ∷ them) none = absurd (none page (Contains-head page them))

none_listed : (depth : Depth) → pages no_pages ≡ []
none_listed depth = empty_list (pages no_pages) (λ page h. none_held page.base page ((holds_listed (no_pages_space depth) page).0 h))

none_text : (as_ranges : Bool) → pages_text as_ranges [] ≡ []
none_text true = refl
none_text false = refl

-- of no start nothing is shown
pub no_start_shown : (as_ranges : Bool) (segment : Recording) → segment.start ≡ None
    → pages_text as_ranges (pages (first_space None segment)) ≡ []
no_start_shown as_ranges segment has =
    ap (λ (s : Option Image). pages_text as_ranges (pages (start_space segment.layout.depth s))) has
    ∙ ap (pages_text as_ranges) (none_listed segment.layout.depth) ∙ none_text as_ranges
