-- What a piece makes of the feed of a segment.
use Rattle.std.proofs.Common.{◌≡◌, ◌<◌, ◌≤◌, ◌⊎◌, ℕ, List, ◌++◌, length, take, inl, inr, Option, Ok, Err, sym, ap, ◌∙◌, subst, arith}
use Rattle.std.proofs.Math.Seq.{take-length}
use Rattle.std.proofs.lemmas.List.{append-nil}
use Rattle.std.proofs.lemmas.Bool.{cases_lt}
use Rattle.vs_types.specs.Config.{Layout}
use Rattle.vs_types.specs.declared.requests.refusal.Fail.TheVariants.{Refused}
use Rattle.nr_trace.specs.Recording.{Recording}
use Rattle.nr_trace.specs.Spelling.{SpellsSegment}
use Rattle.nr_trace.specs.FirstFault.{HasFaultAs}
use Rattle.nr_trace.specs.Feed.{EndsSegment, Fed, FedSegment, FeedsSegment, IsFaultlessYet, IsWhole, LastsAs}
use Rattle.nr_trace.specs.Feed.Fed.{Taken, Stopped}
use Rattle.nr_trace.specs.declared.refusals.fault.Format.{Format}
use Rattle.nr_trace.specs.declared.refusals.fault.Format.TheVariants.{Truncated}
use Rattle.nr_trace.specs.declared.formats.version.Form.TheVariants as forms
use Rattle.nr_chain.specs.inside.Between.{bytes_in}

-- so many bytes of the piece are taken
pub record Took (before : Option Layout) (bytes piece : List ℕ) (new : FedSegment) (count : ℕ) : Type 0 where
  pub behind : new.before ≡ before
  pub within : count ≤ length piece
  pub taken : new.pieces ≡ Taken (bytes ++ take count piece)
  pub faultless : IsFaultlessYet (forms.Segment before) (bytes ++ take count piece)
  pub all : count < length piece → IsWhole new
  pub short : IsWhole new ⊎ HasFaultAs (forms.Segment before) (bytes ++ take count piece) Truncated

took_of : (before : Option Layout) (pieces : Fed) (piece : List ℕ) (new : FedSegment) (count : ℕ)
    → FeedsSegment (record { before = before; pieces = pieces }) piece new (Ok count) → Took before (bytes_in pieces) piece new count
took_of before (Taken bytes) piece new count h =
    record { behind = h.0; within = h.1.0; taken = h.1.1; faultless = h.1.2; all = h.1.3; short = h.1.4 }
took_of before (Stopped fail) piece new count h = absurd (let e = h.1.1 in cc)

pub took : (feed new : FedSegment) (piece : List ℕ) (count : ℕ) → FeedsSegment feed piece new (Ok count)
    → Took feed.before (bytes_in feed.pieces) piece new count
took feed new piece count h = took_of feed.before feed.pieces piece new count h

-- all of it, where the segment is not whole then
pub took_all : (before : Option Layout) (bytes piece : List ℕ) (new : FedSegment) (count : ℕ) → Took before bytes piece new count → (IsWhole new → ⊥)
    → bytes ++ take count piece ≡ bytes ++ piece
took_all before bytes piece new count is none = elim (cases_lt count (length piece)) [
  | inl less ↦ absurd (none (is.all less))
  | inr high ↦ (let all : count ≡ length piece = (let within = is.within in omega arith) in
      ap (λ n. bytes ++ take n piece) all ∙ ap (λ ps. bytes ++ ps) (take-length piece))
]

pub too_short : (before : Option Layout) (bytes piece : List ℕ) (new : FedSegment) (count : ℕ) → Took before bytes piece new count → (IsWhole new → ⊥)
    → HasFaultAs (forms.Segment before) (bytes ++ piece) Truncated
too_short before bytes piece new count is none = elim is.short [
  | inl whole ↦ absurd (none whole)
  | inr short ↦ subst (λ bytes. HasFaultAs (forms.Segment before) bytes Truncated) (took_all before bytes piece new count is none) short
]

refused_of : (before : Option Layout) (pieces : Fed) (piece : List ℕ) (new : FedSegment) (fault : Format) → pieces ≡ Taken (bytes_in pieces)
    → FeedsSegment (record { before = before; pieces = pieces }) piece new (Err (Refused fault))
    → LastsAs (forms.Segment before) (bytes_in pieces ++ piece) fault
refused_of before (Taken bytes) piece new fault taken h = h.1.1
refused_of before (Stopped fail) piece new fault taken h = cc

pub refused : (feed new : FedSegment) (piece : List ℕ) (fault : Format) → feed.pieces ≡ Taken (bytes_in feed.pieces)
    → FeedsSegment feed piece new (Err (Refused fault)) → LastsAs (forms.Segment feed.before) (bytes_in feed.pieces ++ piece) fault
refused feed new piece fault taken h = refused_of feed.before feed.pieces piece new fault taken h

whole_of : (before : Option Layout) (pieces : Fed) → IsWhole (record { before = before; pieces = pieces })
    → (segment : Recording) × SpellsSegment before (bytes_in pieces) segment
whole_of before (Taken bytes) whole = whole
whole_of before (Stopped fail) whole = absurd whole

pub spelled_whole : (feed : FedSegment) → IsWhole feed → (segment : Recording) × SpellsSegment feed.before (bytes_in feed.pieces) segment
spelled_whole feed whole = whole_of feed.before feed.pieces whole

ended_of : (before : Option Layout) (pieces : Fed) (segment : Recording) → IsWhole (record { before = before; pieces = pieces })
    → EndsSegment (record { before = before; pieces = pieces }) (Ok segment) → SpellsSegment before (bytes_in pieces) segment
ended_of before (Taken bytes) segment whole ends = ends
ended_of before (Stopped fail) segment whole ends = absurd whole

pub ended : (feed : FedSegment) (segment : Recording) → IsWhole feed → EndsSegment feed (Ok segment)
    → SpellsSegment feed.before (bytes_in feed.pieces) segment
ended feed segment whole ends = ended_of feed.before feed.pieces segment whole ends

-- some byte of the piece is taken, where the segment was not whole before
pub some_taken : (feed new : FedSegment) (piece : List ℕ) (count : ℕ) → feed.pieces ≡ Taken (bytes_in feed.pieces) → (IsWhole feed → ⊥) → IsWhole new
    → Took feed.before (bytes_in feed.pieces) piece new count → 0 < count
some_taken feed new piece count taken none whole is = elim (cases_lt 0 count) [
  | inl some ↦ some
  | inr high ↦ absurd (none (
      let zero : count ≡ 0 = omega arith in
      let bytes : bytes_in feed.pieces ++ take count piece ≡ bytes_in feed.pieces =
      ap (λ n. bytes_in feed.pieces ++ take n piece) zero ∙ append-nil (bytes_in feed.pieces) in
      let pieces : new.pieces ≡ feed.pieces = is.taken ∙ ap Taken bytes ∙ sym taken in
      let same : new ≡ feed = (λ i. record { before = is.behind i; pieces = pieces i }) in
      subst IsWhole same whole))
]
