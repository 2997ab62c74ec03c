-- What is known of an input that is read in blocks and fed to a reader of units.
use Rattle.std.proofs.Common.{◌≡◌, ℕ, ◌+◌, ◌≤◌, inr, List, [], ◌++◌, length, Option, Some, None, Result, Ok, Err, refl, ap, sym, subst, take, ◌∙◌, arith}
use Rattle.std.specs.Io.KnownBytes.{Consumes, IsAtEnd, Keeps}
use Rattle.std.proofs.KnownBytes.{Consumes-nil, Consumes-kept, Consumes-trans}
use Rattle.std.proofs.lemmas.List.{append-nil, length-append, length-take}
use Rattle.vs_types.specs.Refusal.{IfRefused}
use Rattle.vs_types.specs.declared.requests.refusal.Fail.{Fail}
use Rattle.vs_types.specs.declared.requests.refusal.Fail.TheVariants as fails
use Rattle.nr_trace.specs.Recording.{Recording}
use Rattle.nr_trace.specs.Spelling.{Spells}
use Rattle.nr_trace.specs.Feed.{Ends, Fed, Feeds, HasLastingFault, HasNoFaultYet, Reads}
use Rattle.nr_trace.specs.Feed.Fed.{Taken}
use Rattle.nr_trace.specs.FirstFault.{HasFormatFault}
use Rattle.nr_trace.specs.declared.refusals.fault.Format.{Format}
use Rattle.nr_explain.specs.Units.{IfBad, IsBadFor, IsBadUnit, ReadsUnits}
use Rattle.nr_explain.specs.declared.units.Unread.{Unread}
use Rattle.nr_explain.specs.declared.units.Unread.TheVariants.{Memory, Bad}
use Rattle.audit_readers.specs.Answers.{HasRead, HasReadUnits, HasReadFew, IsReadOf}
use Rattle.audit_readers.specs.Ends.{IsUnreadable}

-- the feed was given what the reader has lost, and so many more bytes may be read
pub record AreFed (known left : Option (List ℕ)) (bytes : List ℕ) (room : ℕ) : Type 0 where
  pub consumed : Consumes known left bytes
  pub no_fault_yet : HasNoFaultYet bytes
  pub counted : length bytes + room ≡ 70647893

-- a piece was read, and taken
pub units_go_on : {known left new : Option (List ℕ)} {bytes after : List ℕ} {room more : ℕ} (piece : List ℕ) → AreFed known left bytes room
    → Consumes left new piece → length piece + more ≡ room → after ≡ bytes ++ piece → HasNoFaultYet (bytes ++ piece)
    → AreFed known new after more
units_go_on {known = known} {left = left} {new = new} {bytes = bytes} piece fed lost less is not_yet = record {
  consumed = subst (Consumes known new) (sym is) (Consumes-trans known left new bytes piece fed.consumed lost);
  no_fault_yet = subst HasNoFaultYet (sym is) not_yet;
  counted = omega (arith, fed.counted, ap length is, length-append bytes piece);
}

-- the same of a feed that knows no units
pub record IsFed (known left : Option (List ℕ)) (feed : Fed) (room : ℕ) : Type 0 where
  pub bytes : List ℕ
  pub fed : feed ≡ Taken bytes
  pub are : AreFed known left bytes room

pub blocks_go_on : {known left new : Option (List ℕ)} {feed after : Fed} {room more : ℕ} {result : Unit {0}} (piece : List ℕ)
    → IsFed known left feed room → Consumes left new piece → length piece + more ≡ room → Feeds feed piece after (Ok result)
    → IsFed known new after more
blocks_go_on {after = after} {result = result} piece given lost less feeds =
    let taken = subst (λ (old : Fed). Feeds old piece after (Ok result)) given.fed feeds in
    record { bytes = given.bytes ++ piece; fed = taken.0; are = units_go_on piece given.are lost less refl taken.1 }

-- ---- how much was read

units_read_more : {known left new : Option (List ℕ)} {bytes : List ℕ} {room : ℕ} (piece : List ℕ) → AreFed known left bytes room
    → Consumes left new piece → length piece ≤ 4096 → length piece ≤ room → HasReadFew known new
units_read_more {known = known} {left = left} {new = new} {bytes = bytes} piece fed lost short fits = record {
  before = bytes;
  block = piece;
  read = Consumes-trans known left new bytes piece fed.consumed lost;
  no_fault_yet = fed.no_fault_yet;
  one_block = short;
  few = omega (arith, fed.counted);
}

-- what is read into a block is no longer
pub one_block : (count : ℕ) (block : List ℕ) → length block ≡ 4096 → length (take count block) ≤ 4096
one_block count block full = let long = length-take count block in omega arith

pub units_read_a_block : {known left new : Option (List ℕ)} {bytes : List ℕ} {room : ℕ} (count : ℕ) (block : List ℕ)
    → AreFed known left bytes room → Consumes left new (take count block) → length block ≤ 4096 → length block ≤ room → HasReadFew known new
units_read_a_block count block fed lost short fits =
    let long = length-take count block in
    units_read_more (take count block) fed lost (omega arith) (omega arith)

pub units_read_no_more : {known left new : Option (List ℕ)} {bytes : List ℕ} {room : ℕ} → AreFed known left bytes room → Keeps left new
    → HasReadFew known new
units_read_no_more {left = left} {new = new} fed keeps =
    units_read_more [] fed (Consumes-kept left left new [] (Consumes-nil left) keeps) (omega arith) (omega arith)

-- as much as no trace has was read
pub units_too_long : {known left : Option (List ℕ)} {bytes : List ℕ} {room : ℕ} (last : Option ℕ) → AreFed known left bytes room → room ≡ 0
    → IsUnreadable 70647893 known left last
units_too_long {bytes = bytes} last fed none =
    let counted = fed.counted in
    inr (bytes, fed.consumed, omega (arith, counted, none))

-- ---- which input it is

-- the whole input, where it has ended
pub whole_read : (known new : Option (List ℕ)) (bytes : List ℕ) → Consumes known new bytes → IsAtEnd new → IsReadOf known bytes
whole_read None new bytes lost end = tt
whole_read (Some whole) None bytes lost end = absurd lost
whole_read (Some whole) (Some left) bytes lost end = sym (lost ∙ ap (λ (l : List ℕ). bytes ++ l) end ∙ append-nil bytes)

-- or with what was not read of it
pub whole_with : (known left : Option (List ℕ)) (bytes : List ℕ) → Consumes known left bytes
    → (behind : List ℕ) × IsReadOf known (bytes ++ behind)
whole_with None left bytes lost = ([], tt)
whole_with (Some whole) None bytes lost = absurd lost
whole_with (Some whole) (Some left) bytes lost = (left, sym lost)

-- ---- what it says

pub units_stop : {known left : Option (List ℕ)} {bytes : List ℕ} {unread : Unread} {room : ℕ} (new : Option (List ℕ)) (piece : List ℕ)
    → AreFed known left bytes room → Consumes left new piece → IfBad (IsBadFor (bytes ++ piece)) unread → HasReadUnits known (Err unread)
units_stop {known = known} {left = left} {bytes = bytes} {unread = unread} new piece fed lost h =
    let (behind, is) = whole_with known new (bytes ++ piece) (Consumes-trans known left new bytes piece fed.consumed lost) in
    record { input = (bytes ++ piece) ++ behind; is_read = is; read_is = of_all (bytes ++ piece) behind unread h }
  where
    of_all : (front behind : List ℕ) (unread : Unread) → IfBad (IsBadFor front) unread → IfBad (IsBadUnit (front ++ behind)) unread
    of_all front behind Memory h = tt
    of_all front behind (Bad bad) h = h behind

-- nothing is left to read
pub units_end : {known left : Option (List ℕ)} {bytes : List ℕ} {read : Result Recording Unread} {room : ℕ} (new : Option (List ℕ))
    (piece : List ℕ)
    → AreFed known left bytes room → Consumes left new piece → piece ≡ [] → IsAtEnd new → ReadsUnits bytes read → HasReadUnits known read
units_end {known = known} {left = left} {bytes = bytes} new piece fed lost none end is =
    let lost_none = subst (Consumes left new) none lost in
    let consumed = subst (Consumes known new) (append-nil bytes) (Consumes-trans known left new bytes [] fed.consumed lost_none) in
    record { input = bytes; is_read = whole_read known new bytes consumed end; read_is = is }

pub blocks_stop : {known left : Option (List ℕ)} {feed : Fed} {room : ℕ} {read : Result Recording (Fail Format)} (after : Fed) (fail : Fail Format)
    (new : Option (List ℕ)) (piece : List ℕ)
    → IsFed known left feed room → Consumes left new piece → Feeds feed piece after (Err fail) → Ends after read → HasRead known read
blocks_stop {known = known} {left = left} {read = read} after fail new piece given lost feeds ends =
    let refused = subst (λ (old : Fed). Feeds old piece after (Err fail)) given.fed feeds in
    let bytes = given.bytes ++ piece in
    let (behind, is) = whole_with known new bytes (Consumes-trans known left new given.bytes piece given.are.consumed lost) in
    let same : read ≡ Err fail = subst (λ (held : Fed). Ends held read) refused.0 ends in
    record {
      input = bytes ++ behind;
      is_read = is;
      read_is = subst (Reads (bytes ++ behind)) (sym same) (of_all bytes behind fail refused.1);
    }
  where
    of_all : (front behind : List ℕ) (fail : Fail Format) → IfRefused (HasLastingFault front) fail → IfRefused (HasFormatFault (front ++ behind)) fail
    of_all front behind fails.Memory h = tt
    of_all front behind (fails.Refused fault) h = h behind

pub blocks_end : {known left : Option (List ℕ)} {feed : Fed} {read : Result Recording (Fail Format)} {room : ℕ} (new : Option (List ℕ))
    (piece : List ℕ)
    → IsFed known left feed room → Consumes left new piece → piece ≡ [] → IsAtEnd new → Ends feed read → HasRead known read
blocks_end {known = known} {left = left} {read = read} new piece given lost none end ends =
    let lost_none = subst (Consumes left new) none lost in
    let bytes = given.bytes in
    let consumed = subst (Consumes known new) (append-nil bytes) (Consumes-trans known left new bytes [] given.are.consumed lost_none) in
    record {
      input = bytes;
      is_read = whole_read known new bytes consumed end;
      read_is = of_end read (subst (λ (held : Fed). Ends held read) given.fed ends);
    }
  where
    of_end : (read : Result Recording (Fail Format)) → Ends (Taken given.bytes) read → Reads given.bytes read
    of_end (Ok trace) h = h
    of_end (Err fail) h = subst (IfRefused (HasFormatFault given.bytes)) (sym h.0) h.1

-- ---- what was read of an input

pub trace_read : (bytes : List ℕ) (read : Result Recording (Fail Format)) (trace : Recording) → read ≡ Ok trace → Reads bytes read
    → Spells bytes trace
trace_read bytes read trace is h = subst (Reads bytes) is h
