-- What a piece makes of a chain: it is taken, or ends a segment, which is judged, or is refused.
use Rattle.std.proofs.Common.{◌≡◌, ◌<◌, ◌≤◌, ℕ, Bool, List, ◌++◌, length, take, drop, append_assoc, Option, option_map, Result, Ok, Err, sym, ap, ◌∙◌, subst}
use Rattle.std.specs.Prelude.{IfOk}
use Rattle.std.proofs.lemmas.List.{take-append-drop}
use Rattle.vs_types.specs.Config.{Layout}
use Rattle.vs_types.specs.declared.requests.refusal.Fail.{Fail}
use Rattle.vs_types.specs.declared.requests.refusal.Fail.TheVariants.{Memory, Refused}
use Rattle.nr_trace.specs.Spelling.{SpellsSegment}
use Rattle.nr_trace.specs.FirstFault.{HasSegmentFault}
use Rattle.nr_trace.specs.Feed.{FedSegment, FeedsSegment, IsWhole}
use Rattle.nr_trace.specs.declared.refusals.fault.Format.{Format}
use Rattle.nr_trace.specs.declared.refusals.fault.Format.TheVariants.{Truncated}
use Rattle.nr_trace.specs.declared.refusals.fault.Fault.TheVariants as faults
use Rattle.nr_trace.specs.declared.refusals.fault.Fault.{Fault}
use Rattle.nr_trace.specs.Run.{Run}
use Rattle.nr_chain.specs.Fed.{ChainFed, IsKeptOf}
use Rattle.nr_chain.specs.Bytes.{layout_before, HasFirstNext, IsFirstNext}
use Rattle.nr_chain.specs.Verdict.{EndsWithin, FeedsChain, LastsNext}
use Rattle.nr_chain.specs.declared.chain.Last.{Last}
use Rattle.nr_chain.specs.declared.chain.Step.{Step}
use Rattle.nr_chain.specs.declared.chain.Step.TheVariants.{More, Right, Wrong}
use Rattle.nr_chain.specs.inside.Between.{bytes_in, kept_by, layout_of, IsBetween}
use Rattle.nr_chain.specs.inside.Steps.{EndsAt, JudgesWhole, RefusesWith}
use Rattle.nr_chain.proofs.Betweens.{bytes_more, layouts_alike, seen}
use Rattle.nr_chain.proofs.Pieces.{refused, some_taken, took, too_short}
use Rattle.std.proofs.lemmas.Result.{IfOk-weaker}

-- the first fault of a segment that is spelled is none of the format
pub first_next : (before : Option Run) (bytes : List ℕ) (fault : Fault) → HasFirstNext before bytes fault → IsFirstNext before bytes fault
first_next before bytes (faults.Format fault) (segment, rest, begins, first) = absurd first.holds
first_next before bytes _ h = h

-- the bytes of a piece, of which so many end a segment
pub cut_so : (bytes piece rest : List ℕ) (count : ℕ) → (bytes ++ piece) ++ rest ≡ (bytes ++ take count piece) ++ (drop count piece ++ rest)
cut_so bytes piece rest count =
    append_assoc bytes piece rest
    ∙ ap (λ (ps : List ℕ). bytes ++ (ps ++ rest)) (sym (take-append-drop count piece))
    ∙ ap (λ (ps : List ℕ). bytes ++ ps) (append_assoc (take count piece) (drop count piece) rest)
    ∙ sym (append_assoc bytes (take count piece) (drop count piece ++ rest))

judged_step : (run : Option Run) (old : ChainFed) (piece : List ℕ) (count : ℕ) (step : Step) → 0 < count → count ≤ length piece
    → JudgesWhole run (old.bytes ++ take count piece) count step → FeedsChain run old piece step
judged_step run old piece count (More new) some within h = absurd h
judged_step run old piece count (Right own order met new) some within (same, segment, spelled, sound, is, kept, none, counted) = (
  subst (λ n. 0 < n) (sym same) some,
  subst (λ n. n ≤ length piece) (sym same) within,
  segment,
  subst (λ n. SpellsSegment (layout_before run) (old.bytes ++ take n piece) segment) (sym same) spelled,
  sound,
  is,
  kept,
  none,
  counted,
)
judged_step run old piece count (Wrong fault) some within (segment, spelled, first) = λ rest.
    first_next run ((old.bytes ++ piece) ++ rest) fault (
      segment,
      drop count piece ++ rest,
      record { own = old.bytes ++ take count piece; is = cut_so old.bytes piece rest count; spelled = spelled },
      first,
    )

-- what a piece makes of a chain ends within the piece
ends_so : (counts : Bool) (piece : List ℕ) (count : ℕ) → 0 < count → count ≤ length piece → (step : Step) → EndsAt counts count step
    → EndsWithin counts piece step
ends_so counts piece count some within (More new) is = tt
ends_so counts piece count some within (Right own order met new) (is, counted) =
    (subst (λ n. 0 < n) (sym is) some, subst (λ n. n ≤ length piece) (sym is) within, counted)
ends_so counts piece count some within (Wrong fault) is = tt

pub judged_within : {E : Type 0} (counts : Bool) (last : Option Last) (begun : Bool) (feed new : FedSegment) (piece : List ℕ) (count : ℕ)
    (result : Result Step E)
    → IsBetween last begun feed → FeedsSegment feed piece new (Ok count) → IsWhole new → IfOk result (EndsAt counts count)
    → IfOk result (EndsWithin counts piece)
judged_within counts last begun feed new piece count result old feeds whole h =
    let is = took feed new piece count feeds in
    let some = some_taken feed new piece count old.taken old.not_whole whole is in
    IfOk-weaker result (EndsAt counts count) (EndsWithin counts piece) (ends_so counts piece count some is.within) h

pub refused_within : {E : Type 0} (counts : Bool) (piece : List ℕ) (fail : Fail Format) (result : Result Step E) → IfOk result (RefusesWith fail)
    → IfOk result (EndsWithin counts piece)
refused_within counts piece Memory result h = IfOk-weaker result (RefusesWith Memory) (EndsWithin counts piece) (λ step none. absurd none) h
refused_within counts piece (Refused fault) result h =
    IfOk-weaker result (RefusesWith (Refused fault)) (EndsWithin counts piece) (λ step is. subst (EndsWithin counts piece) (sym is) tt) h

module _ (last : Option Last) (begun : Bool) (feed new : FedSegment) (self : ChainFed) (piece : List ℕ) (old : IsBetween last begun feed)
    (view : seen last feed ≡ self) (run : Option Run) (kept : IsKeptOf run self.kept) where
  own_bytes : bytes_in feed.pieces ≡ self.bytes
  own_bytes = ap (λ (fed : ChainFed). fed.bytes) view

  own_layout : feed.before ≡ layout_before run
  own_layout = old.behind ∙ ap (λ (fed : ChainFed). layout_of fed.kept) view ∙ layouts_alike run self.kept kept

  -- the segment is whole, and is judged
  pub judged : {E : Type 0} (count : ℕ) (result : Result Step E) → FeedsSegment feed piece new (Ok count) → IsWhole new
      → (IsKeptOf run (option_map kept_by last) → IfOk result (JudgesWhole run (bytes_in new.pieces) count)) → IfOk result (FeedsChain run self piece)
  judged count result feeds whole h =
      let is = took feed new piece count feeds in
      let bytes : bytes_in new.pieces ≡ self.bytes ++ take count piece = ap bytes_in is.taken ∙ ap (λ (bs : List ℕ). bs ++ take count piece) own_bytes in
      let some = some_taken feed new piece count old.taken old.not_whole whole is in
      IfOk-weaker result (JudgesWhole run (bytes_in new.pieces) count) (FeedsChain run self piece)
      (λ step done. judged_step run self piece count step some is.within (subst (λ (bs : List ℕ). JudgesWhole run bs count step) bytes done))
      (h (subst (λ (fed : ChainFed). IsKeptOf run fed.kept) (sym view) kept))

  -- the piece is taken, and the segment is not whole
  pub more_taken : (count : ℕ) → FeedsSegment feed piece new (Ok count) → (IsWhole new → ⊥) → FeedsChain run self piece (More (seen last new))
  more_taken count feeds none =
      let is = took feed new piece count feeds in
      let bytes = bytes_more feed.before (bytes_in feed.pieces) piece new count is none ∙ ap (λ (bs : List ℕ). bs ++ piece) own_bytes in (
        (λ i. record { kept = (view i).kept; bytes = bytes i }),
        subst (λ (bs : List ℕ). HasSegmentFault (layout_before run) bs Truncated) (sym (bytes_more feed.before (bytes_in feed.pieces) piece new count is none))
            (subst (λ (before : Option Layout). HasSegmentFault before (bytes_in feed.pieces ++ piece) Truncated) own_layout
            (too_short feed.before (bytes_in feed.pieces) piece new count is none)),
      )

  -- the bytes with the piece are refused
  pub piece_refused : (fault : Format) → FeedsSegment feed piece new (Err (Refused fault))
      → LastsNext run (self.bytes ++ piece) (faults.Format fault)
  piece_refused fault feeds =
      subst (λ (bs : List ℕ). LastsNext run (bs ++ piece) (faults.Format fault)) own_bytes
      (subst (λ (before : Option Layout). (rest : List ℕ) → HasSegmentFault before ((bytes_in feed.pieces ++ piece) ++ rest) fault) own_layout
      (refused feed new piece fault old.taken feeds))

  -- the same, or memory is refused
  pub any_refused : {E : Type 0} (fail : Fail Format) (result : Result Step E) → FeedsSegment feed piece new (Err fail)
      → IfOk result (RefusesWith fail) → IfOk result (FeedsChain run self piece)
  any_refused Memory result feeds h = IfOk-weaker result (RefusesWith Memory) (FeedsChain run self piece) (λ step none. absurd none) h
  any_refused (Refused fault) result feeds h =
      IfOk-weaker result (RefusesWith (Refused fault)) (FeedsChain run self piece)
      (λ step is. subst (FeedsChain run self piece) (sym is) (piece_refused fault feeds)) h
