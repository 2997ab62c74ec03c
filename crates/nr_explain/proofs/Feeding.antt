-- What a piece makes of a reader that explains a chain.
use Rattle.std.proofs.Common.{◌≡◌, ◌+◌, ◌<◌, ◌≤◌, ◌⊎◌, inl, inr, ℕ, true, List, [], ◌∷◌, ◌++◌, length, take, drop, append_assoc, Option, Some, is_some}
use Rattle.std.proofs.Common.{Result, Ok, refl, sym, ap, ◌∙◌, subst}
use Rattle.std.specs.Prelude.{IfOk, IfSome}
use Rattle.std.proofs.lemmas.List.{append-nil, take-append-drop}
use Rattle.vs_types.specs.Config.{Layout}
use Rattle.nr_trace.specs.Recording.{Recording}
use Rattle.nr_trace.specs.Spelling.{SpellsSegment}
use Rattle.nr_trace.specs.FirstFault.{HasFaultAs, HasSegmentFault}
use Rattle.nr_trace.specs.Feed.{EndsSegment, Fed, FedSegment, FeedsSegment, IsRefusedAs, IsWhole}
use Rattle.nr_trace.specs.Feed.Fed.{Taken, Stopped}
use Rattle.nr_trace.specs.declared.refusals.fault.Format.{Format}
use Rattle.nr_trace.specs.declared.refusals.fault.Format.TheVariants.{Truncated}
use Rattle.nr_trace.specs.declared.refusals.fault.Fault.TheVariants as faults
use Rattle.nr_trace.specs.declared.formats.version.Form.TheVariants as forms
use Rattle.nr_trace.specs.declared.refusals.fault.Fault.{Fault}
use Rattle.nr_chain.specs.Bytes.{BeginsWith, EndsWith}
use Rattle.nr_chain.specs.inside.Between.{bytes_in}
use Rattle.nr_chain.proofs.Ends.{ends_first, none_is_short}
use Rattle.nr_chain.proofs.OneChain.{not_empty}
use Rattle.nr_chain.proofs.Pieces.{Took, some_taken, spelled_whole, took, took_all, too_short}
use Rattle.nr_audit.specs.declared.histories.past.Past.{Past}
use Rattle.nr_explain.specs.Progress.{ChainState, ReaderState, state_after, layout_in, run_in, IsSeenOf}
use Rattle.nr_explain.specs.ChainExplanation.{Explains, FeedsReader, GoesOnTo, IsExplanationFrom, IsShownNext, IsShownOf}
use Rattle.nr_explain.specs.inside.Reading.{all_states, layout_seen, AreTwice, FitsProgress, IsKnown, IsReading}
use Rattle.nr_explain.specs.declared.chain.reader.ReaderStep.TheVariants as reader_steps
use Rattle.nr_explain.proofs.Cuts.{cut_so}
use Rattle.nr_explain.proofs.Known.{layout_alike}
use Rattle.nr_explain.proofs.BadUnits.{bad_unit_lasts, refused_alone}
use Rattle.nr_trace.specs.FirstFault.{HasRefusalAs, IsRefusedBy}
use Rattle.nr_trace.specs.declared.refusals.refusal.Refusal.{Refusal}
use Rattle.nr_explain.specs.inside.Steps.{EndsWithin, HasGoneOn, IsRefusalOf, IsWrongOf, JudgedTo, JudgesTo, StepsTo}
use Rattle.nr_explain.specs.declared.chain.progress.Progress.{Progress}
use Rattle.nr_explain.specs.declared.chain.evidence.SegmentEvidence.{SegmentEvidence}
use Rattle.nr_explain.specs.declared.chain.evidence.SegmentEvidence.TheVariants as evidence
use Rattle.nr_explain.specs.declared.chain.explanation.ChainExplanation.{ChainExplanation}
use Rattle.nr_explain.specs.declared.chain.explanation.ChainExplanation.TheVariants.{Yes, No}
use Rattle.nr_explain.specs.declared.chain.reader.Step.{Step}
use Rattle.nr_explain.specs.declared.chain.reader.Step.TheVariants.{More, Right, Wrong}
use Rattle.nr_chain.proofs.Judged.{first_next}
use Rattle.std.proofs.lemmas.Result.{IfOk-weaker}

-- ---- between two pieces

-- of the next segment nothing has come
pub fresh_reading : (last : Option Progress) (before : Option Past) (bytes : List ℕ) (feed : FedSegment) → bytes ≡ []
    → feed ≡ record { before = layout_seen (all_states last); pieces = Taken [] } → IfSome last FitsProgress → AreTwice last before → IsKnown last
    → IsReading last before bytes feed
fresh_reading last before bytes feed none is fits twice known =
    let fresh : FedSegment = record { before = layout_seen (all_states last); pieces = Taken [] } in
    let reading : IsReading last before [] fresh = record {
      taken = refl;
      behind = refl;
      not_whole = λ whole.
          let there = spelled_whole fresh whole in not_empty (layout_seen (all_states last)) [] there.0 there.1 refl;
      short = none_is_short (forms.Segment (layout_seen (all_states last)));
      fits = fits;
      twice = twice;
      known = known;
    } in
    subst (λ (bs : List ℕ). IsReading last before bs feed) (sym none) (subst (IsReading last before []) (sym is) reading)

pub took_here : (feed new : FedSegment) (bytes piece : List ℕ) (count : ℕ) → feed.pieces ≡ Taken bytes → FeedsSegment feed piece new (Ok count)
    → Took feed.before bytes piece new count
took_here feed new bytes piece count taken feeds =
    subst (λ (bs : List ℕ). Took feed.before bs piece new count) (ap bytes_in taken) (took feed new piece count feeds)

-- ---- what is said of a segment

shown_next : (last : Option ChainState) (bytes : List ℕ) (fault : Fault) (shown : SegmentEvidence) → IsShownOf last bytes fault shown
    → IsShownNext last bytes fault shown
shown_next last bytes fault (evidence.Format bad) is = absurd is.shows.0
shown_next last bytes fault shown is = is

-- a refused segment
pub refusal_explains : (came : Option ChainState) (bytes : List ℕ) (fault : Format) (explanation : ChainExplanation) → IsRefusalOf came bytes fault explanation
    → HasSegmentFault (layout_in came) bytes fault → (is_some (run_in came) ≡ true → bytes ≡ [] → ⊥) → IsExplanationFrom came bytes explanation
refusal_explains came bytes fault (Yes counts) is has some = absurd is
refusal_explains came bytes fault (No number found (evidence.Format bad)) (number_is, found_is, fault_is, shows) has some = (
  [],
  came,
  bytes,
  (refl, refl),
  number_is,
  subst (λ (f : Fault). EndsWith (run_in came) bytes (Some f)) (sym found_is)
      (ends_first (run_in came) bytes (faults.Format fault) some has),
  (found_is ∙ ap (λ (f : Format). faults.Format f) (sym fault_is), shows),
)
refusal_explains came bytes fault (No number found shown) is has some = absurd is

-- the same with more bytes behind it
refusal_lasts : (came : Option ChainState) (bytes rest : List ℕ) (refusal : Refusal) (fault : Format) (explanation : ChainExplanation)
    → IsRefusalOf came bytes fault explanation → IsRefusedBy (HasRefusalAs (forms.Segment (layout_in came))) bytes refusal
    → IsRefusalOf came (bytes ++ rest) fault explanation
refusal_lasts came bytes rest refusal fault (Yes counts) is given = is
refusal_lasts came bytes rest refusal fault (No number found (evidence.Format bad)) (number_is, found_is, fault_is, shows) given =
    (number_is, found_is, fault_is, (shows.0, bad_unit_lasts (forms.Segment (layout_in came)) bytes rest refusal bad.unit given shows.1))
refusal_lasts came bytes rest refusal fault (No number found shown) is given = is

front_none : (front rest : List ℕ) → front ++ rest ≡ [] → front ≡ []
front_none [] rest e = refl
front_none (x ∷ front) rest e = absurd cc

-- a segment that is spelled and has a fault
pub wrong_explains : (came : Option ChainState) (bytes rest : List ℕ) (segment : Recording) (explanation : ChainExplanation)
    → SpellsSegment (layout_in came) bytes segment → IsWrongOf came segment explanation → IsExplanationFrom came (bytes ++ rest) explanation
wrong_explains came bytes rest segment (Yes counts) spelled is = absurd is
wrong_explains came bytes rest segment (No number fault shown) spelled (number_is, first, shows) =
    let begins : BeginsWith (layout_in came) (bytes ++ rest) segment rest = record { own = bytes; is = refl; spelled = spelled } in (
      [],
      came,
      bytes ++ rest,
      (refl, refl),
      number_is,
      ends_first (run_in came) (bytes ++ rest) fault (λ kept none. not_empty (layout_in came) bytes segment spelled (front_none bytes rest none))
          (first_next (run_in came) (bytes ++ rest) fault (segment, rest, begins, first)),
      shown_next came (bytes ++ rest) fault shown (record { segment = segment; behind = rest; begins = begins; first = first; shows = shows }),
    )

-- what is judged of a segment, of its bytes
pub judged_whole : (came : Option ChainState) (bytes : List ℕ) (segment : Recording) (count : ℕ) (step : Step) → SpellsSegment (layout_in came) bytes segment
    → JudgedTo came segment (length bytes) count step → JudgesTo came bytes count step
judged_whole came bytes segment count (More new) spelled is = is
judged_whole came bytes segment count (Right own new) spelled (same, sound, gone) = (same, segment, spelled, sound, gone)
judged_whole came bytes segment count (Wrong explanation) spelled is = λ rest. wrong_explains came bytes rest segment explanation spelled is

-- ---- one step

judged_step : (came : Option ChainState) (old : ReaderState) (piece : List ℕ) (count : ℕ) (step : Step) → 0 < count → count ≤ length piece
    → JudgesTo came (old.bytes ++ take count piece) count step → StepsTo came old piece step
judged_step came old piece count (More new) some within h = absurd h
judged_step came old piece count (Right own new) some within (same, segment, spelled, sound, gone) = (
  subst (λ n. 0 < n) (sym same) some,
  subst (λ n. n ≤ length piece) (sym same) within,
  segment,
  subst (λ n. SpellsSegment (layout_in came) (old.bytes ++ take n piece) segment) (sym same) spelled,
  sound,
  subst (λ n. HasGoneOn came segment (length (old.bytes ++ take n piece)) new) (sym same) gone,
)
judged_step came old piece count (Wrong explanation) some within h = λ there rest.
    subst (λ (bs : List ℕ). IsExplanationFrom came bs explanation) (sym (cut_so old.bytes piece rest count)) (h (drop count piece ++ rest))

-- what a piece makes of a reader ends within the piece
pub ends_within : {E : Type 0} (came : Option ChainState) (old : ReaderState) (piece : List ℕ) (result : Result Step E) → IfOk result (StepsTo came old piece)
    → IfOk result (EndsWithin piece)
ends_within came old piece result h = IfOk-weaker result (StepsTo came old piece) (EndsWithin piece) of_step h where
  of_step : (step : Step) → StepsTo came old piece step → EndsWithin piece step
  of_step (More new) is = tt
  of_step (Right count new) is = (is.0, is.1)
  of_step (Wrong explanation) is = tt

none_of_two : (front behind : List ℕ) → front ++ behind ≡ [] → behind ≡ []
none_of_two [] behind e = e
none_of_two (x ∷ front) behind e = absurd cc

module _ (last : Option Progress) (before : Option Past) (bytes : List ℕ) (feed new : FedSegment) (self : ReaderState) (piece : List ℕ)
    (old : IsReading last before bytes feed) (view : record { state = all_states last; bytes = bytes } ≡ self) where
  pub own_seen : (came : Option ChainState) → IsSeenOf came self.state → IsSeenOf came (all_states last)
  own_seen came seen = subst (IsSeenOf came) (sym (ap (λ (fed : ReaderState). fed.state) view)) seen

  pub seen_here : (came : Option ChainState) → IsSeenOf came (all_states last) → IsSeenOf came self.state
  seen_here came seen = subst (IsSeenOf came) (ap (λ (fed : ReaderState). fed.state) view) seen

  own_layout : (came : Option ChainState) → IsSeenOf came self.state → layout_seen (all_states last) ≡ layout_in came
  own_layout came seen = layout_alike came (all_states last) (own_seen came seen)

  -- the segment is whole, and is judged
  pub judged : {E : Type 0} (came : Option ChainState) (count : ℕ) (taken : List ℕ) (result : Result Step E) → IsSeenOf came self.state
      → taken ≡ bytes ++ take count piece → FeedsSegment feed piece new (Ok count) → IsWhole new
      → (IsSeenOf came (all_states last) → IfOk result (JudgesTo came taken count)) → IfOk result (StepsTo came self piece)
  judged came count taken result seen same feeds whole h =
      let is = took_here feed new bytes piece count old.taken feeds in
      let some = some_taken feed new piece count (old.taken ∙ ap Taken (sym (ap bytes_in old.taken))) old.not_whole whole (took feed new piece count feeds) in
      let own : ReaderState = record { state = all_states last; bytes = bytes } in
      subst (λ (fed : ReaderState). IfOk result (StepsTo came fed piece)) view
      (IfOk-weaker result (JudgesTo came taken count) (StepsTo came own piece)
      (λ step h. judged_step came own piece count step some is.within
      (subst (λ (bs : List ℕ). JudgesTo came bs count step) same h)) (h (own_seen came seen)))

  -- the piece is taken, and the segment is not whole
  pub more_taken : (came : Option ChainState) (count : ℕ) (taken : List ℕ) → IsSeenOf came self.state → taken ≡ bytes ++ take count piece
      → FeedsSegment feed piece new (Ok count) → (IsWhole new → ⊥) → StepsTo came self piece (More (record { state = all_states last; bytes = taken }))
  more_taken came count taken seen same feeds none =
      let is = took_here feed new bytes piece count old.taken feeds in
      let all : taken ≡ bytes ++ piece = same ∙ took_all feed.before bytes piece new count is none in
      subst (λ (fed : ReaderState). StepsTo came fed piece (More (record { state = all_states last; bytes = taken }))) view (
        (λ i. record { state = all_states last; bytes = all i }),
        subst (λ (bs : List ℕ). HasSegmentFault (layout_in came) bs Truncated) (sym all)
            (subst (λ (before : Option Layout). HasSegmentFault before (bytes ++ piece) Truncated) (old.behind ∙ own_layout came seen)
            (too_short feed.before bytes piece new count is none)),
      )

  pub more_reading : (count : ℕ) (taken : List ℕ) → taken ≡ bytes ++ take count piece → FeedsSegment feed piece new (Ok count) → (IsWhole new → ⊥)
      → IsReading last before taken new
  more_reading count taken same feeds none =
      let is = took_here feed new bytes piece count old.taken feeds in
      let all : taken ≡ bytes ++ piece = same ∙ took_all feed.before bytes piece new count is none in
      record {
        taken = is.taken ∙ ap Taken (sym same);
        behind = is.behind ∙ old.behind;
        not_whole = none;
        short = subst (λ before. HasFaultAs (forms.Segment before) taken Truncated) (sym is.behind)
            (subst (λ bs. HasFaultAs (forms.Segment feed.before) bs Truncated) (sym all) (too_short feed.before bytes piece new count is none));
        fits = old.fits;
        twice = old.twice;
        known = old.known;
      }

  -- the bytes with the piece are refused, whatever comes behind it
  piece_lasts : (most : ℕ) (refusal : Refusal) → IsRefusedAs (forms.Segment feed.before) (bytes ++ piece) most refusal
      → IsRefusedBy (HasRefusalAs (forms.Segment (layout_seen (all_states last)))) (bytes ++ piece) refusal
  piece_lasts most refusal given =
      subst (λ (before : Option Layout). IsRefusedBy (HasRefusalAs (forms.Segment before)) (bytes ++ piece) refusal) old.behind given.refused

  pub piece_within : (most : ℕ) (refusal : Refusal) (all : List ℕ) → all ≡ bytes ++ piece
      → IsRefusedAs (forms.Segment feed.before) (bytes ++ piece) most refusal → refusal.left ≤ length all
  piece_within most refusal all is given = subst (λ (bs : List ℕ). refusal.left ≤ length bs) (sym is) given.refused.within

  pub piece_has : (most : ℕ) (refusal : Refusal) (all : List ℕ) → all ≡ bytes ++ piece
      → IsRefusedAs (forms.Segment feed.before) (bytes ++ piece) most refusal
      → HasRefusalAs (forms.Segment (layout_seen (all_states last))) all refusal
  piece_has most refusal all is given =
      subst (λ (bs : List ℕ). HasRefusalAs (forms.Segment (layout_seen (all_states last))) bs refusal) (sym is)
      (refused_alone (forms.Segment (layout_seen (all_states last))) (bytes ++ piece) refusal (piece_lasts most refusal given))

  pub piece_refused : (came : Option ChainState) (most : ℕ) (refusal : Refusal) (all : List ℕ) (explanation : ChainExplanation) → IsSeenOf came self.state
      → all ≡ bytes ++ piece → IsRefusedAs (forms.Segment feed.before) (bytes ++ piece) most refusal
      → (IsSeenOf came (all_states last) → IsRefusalOf came all refusal.fault explanation) → StepsTo came self piece (Wrong explanation)
  piece_refused came most refusal all explanation seen is given found = λ there rest.
      let fault = refusal.fault in
      let lasts : IsRefusedBy (HasRefusalAs (forms.Segment (layout_in came))) (bytes ++ piece) refusal =
      subst (λ (before : Option Layout). IsRefusedBy (HasRefusalAs (forms.Segment before)) (bytes ++ piece) refusal) (own_layout came seen)
      (piece_lasts most refusal given) in
      let found_here = subst (λ (bs : List ℕ). IsRefusalOf came bs fault explanation) is (found (own_seen came seen)) in
      let has : HasSegmentFault (layout_in came) ((bytes ++ piece) ++ rest) fault = (refusal.unit, refusal.left + length rest, lasts.lasts rest) in
      subst (λ (fed : ReaderState). Explains came fed (piece ++ rest) explanation) view
      (subst (λ (bs : List ℕ). IsExplanationFrom came bs explanation) (append_assoc bytes piece rest)
      (refusal_explains came ((bytes ++ piece) ++ rest) fault explanation
      (refusal_lasts came (bytes ++ piece) rest refusal fault explanation found_here lasts) has
      (λ kept none. there (front_none piece rest (none_of_two bytes (piece ++ rest) (sym (append_assoc bytes piece rest) ∙ none))))))

-- ---- a whole piece

-- with more bytes behind them, and with more segments
pub goes_with : (came last : Option ChainState) (bytes rest more : List ℕ) (segments : List Recording) → GoesOnTo came bytes segments last rest
    → GoesOnTo came (bytes ++ more) segments last (rest ++ more)
goes_with came last bytes rest more [] (same, is) = (same, ap (λ (l : List ℕ). l ++ more) is)
goes_with came last bytes rest more (segment ∷ segments) (behind, begins, sound, met, counted, goes) = (
  behind ++ more,
  record {
    own = begins.own;
    is = ap (λ (l : List ℕ). l ++ more) begins.is ∙ append_assoc begins.own behind more;
    spelled = begins.spelled;
  },
  sound,
  met,
  counted,
  goes_with (Some (state_after came segment met (length begins.own))) last behind rest more segments goes,
)

pub goes_and : (came middle last : Option ChainState) (bytes rest left : List ℕ) (segments more : List Recording) → GoesOnTo came bytes segments middle rest
    → GoesOnTo middle rest more last left → GoesOnTo came bytes (segments ++ more) last left
goes_and came middle last bytes rest left [] more (same, is) then =
    subst (λ (bs : List ℕ). GoesOnTo came bs more last left) is
    (subst (λ (c : Option ChainState). GoesOnTo c rest more last left) same then)
goes_and came middle last bytes rest left (segment ∷ segments) more (behind, begins, sound, met, counted, goes) then = (
  behind,
  begins,
  sound,
  met,
  counted,
  goes_and (Some (state_after came segment met (length begins.own))) middle last behind rest left segments more goes then,
)

pub explains_on : (came middle : Option ChainState) (bytes rest : List ℕ) (segments : List Recording) (explanation : ChainExplanation)
    → GoesOnTo came bytes segments middle rest → IsExplanationFrom middle rest explanation → IsExplanationFrom came bytes explanation
explains_on came middle bytes rest segments (Yes counts) goes (more, last, on, same) =
    (segments ++ more, last, goes_and came middle (Some last) bytes rest [] segments more goes on, same)
explains_on came middle bytes rest segments (No number fault shown) goes (more, last, left, on, number_is, ends, shows) =
    (segments ++ more, last, left, goes_and came middle last bytes rest left segments more goes on, number_is, ends, shows)

-- the bytes and the piece are those of right segments, which come to what the reader has, and the rest
pub record IsAt (came : Option ChainState) (self : ReaderState) (piece : List ℕ) (reader : ReaderState) (rest : List ℕ) : Type 0 where
  pub last : Option ChainState
  pub segments : List Recording
  pub seen : IsSeenOf last reader.state
  pub goes : GoesOnTo came (self.bytes ++ piece) segments last (reader.bytes ++ rest)
  pub short : (rest ≡ piece) ⊎ HasSegmentFault (layout_in last) reader.bytes Truncated

pub at_first : (came : Option ChainState) (self : ReaderState) (piece : List ℕ) → IsSeenOf came self.state → IsAt came self piece self piece
at_first came self piece seen = record { last = came; segments = []; seen = seen; goes = (refl, refl); short = inl refl }

-- what explains what comes behind explains that with the piece
pub at_wrong : (came : Option ChainState) (self reader : ReaderState) (piece rest behind : List ℕ) (explanation : ChainExplanation)
    (here : IsAt came self piece reader rest) → Explains here.last reader (rest ++ behind) explanation → Explains came self (piece ++ behind) explanation
at_wrong came self reader piece rest behind explanation here h =
    subst (λ (bs : List ℕ). IsExplanationFrom came bs explanation) (append_assoc self.bytes piece behind)
    (explains_on came here.last ((self.bytes ++ piece) ++ behind) ((reader.bytes ++ rest) ++ behind) here.segments explanation
    (goes_with came here.last (self.bytes ++ piece) (reader.bytes ++ rest) behind here.segments here.goes)
    (subst (λ (bs : List ℕ). IsExplanationFrom here.last bs explanation) (sym (append_assoc reader.bytes rest behind)) h))

-- a segment more
pub at_next : (came : Option ChainState) (self old new : ReaderState) (piece rest left : List ℕ) (count : ℕ) (here : IsAt came self piece old rest)
    → StepsTo here.last old rest (Right count new) → left ≡ drop count rest → IsAt came self piece new left
at_next came self old new piece rest left count here (some, within, segment, spelled, sound, gone) cut =
    let own = old.bytes ++ take count rest in
    let next : Option ChainState = Some (state_after here.last segment gone.met (length own)) in
    record {
      last = next;
      segments = here.segments ++ segment ∷ [];
      seen = gone.seen;
      goes = goes_and came here.last next (self.bytes ++ piece) (old.bytes ++ rest) (new.bytes ++ left) here.segments (segment ∷ []) here.goes (
        drop count rest,
        record {
          own = own;
          is = ap (λ (ps : List ℕ). old.bytes ++ ps) (sym (take-append-drop count rest)) ∙ sym (append_assoc old.bytes (take count rest) (drop count rest));
          spelled = spelled;
        },
        sound,
        gone.met,
        gone.counted,
        (refl, ap (λ (bs : List ℕ). bs ++ left) gone.none ∙ cut),
      );
      short = inr (subst (λ (bs : List ℕ). HasSegmentFault (layout_in next) bs Truncated) (sym gone.none) (none_is_short (forms.Segment (layout_in next))));
    }

-- the piece is taken, and the next segment is not whole
pub at_more : (came : Option ChainState) (self old new : ReaderState) (piece rest : List ℕ) (here : IsAt came self piece old rest)
    → StepsTo here.last old rest (More new) → FeedsReader came self piece (reader_steps.More new)
at_more came self old new piece rest here (is, short) = (
  here.segments,
  here.last,
  subst (λ (bs : List ℕ). GoesOnTo came (self.bytes ++ piece) here.segments here.last bs) (sym (ap (λ (fed : ReaderState). fed.bytes) is)) here.goes,
  subst (IsSeenOf here.last) (sym (ap (λ (fed : ReaderState). fed.state) is)) here.seen,
  λ some. short,
)

-- nothing is left of it
pub at_end : (came : Option ChainState) (self reader : ReaderState) (piece rest : List ℕ) → IsAt came self piece reader rest → rest ≡ []
    → FeedsReader came self piece (reader_steps.More reader)
at_end came self reader piece rest here none = (
  here.segments,
  here.last,
  subst (λ (bs : List ℕ). GoesOnTo came (self.bytes ++ piece) here.segments here.last bs)
      (ap (λ (l : List ℕ). reader.bytes ++ l) none ∙ append-nil reader.bytes) here.goes,
  here.seen,
  λ some. elim here.short [
    | inl same ↦ absurd (some (sym same ∙ none))
    | inr short ↦ short
  ],
)

-- ---- the end

-- a segment that has come to its end is whole
ended_of : (before : Option Layout) (pieces : Fed) (bytes : List ℕ) (segment : Recording) → pieces ≡ Taken bytes
    → EndsSegment (record { before = before; pieces = pieces }) (Ok segment) → IsWhole (record { before = before; pieces = pieces })
ended_of before (Taken own) bytes segment is ends = (segment, ends)
ended_of before (Stopped fail) bytes segment is ends = absurd cc

pub ended_whole : (feed : FedSegment) (bytes : List ℕ) (segment : Recording) → feed.pieces ≡ Taken bytes → EndsSegment feed (Ok segment) → IsWhole feed
ended_whole feed bytes segment is ends = ended_of feed.before feed.pieces bytes segment is ends

pub explains_all : (came : Option ChainState) (last : Option Progress) (bytes : List ℕ) (self : ReaderState) (explanation : ChainExplanation)
    → record { state = all_states last; bytes = bytes } ≡ self → IsExplanationFrom came bytes explanation → Explains came self [] explanation
explains_all came last bytes self explanation view is =
    subst (λ (fed : ReaderState). Explains came fed [] explanation) view
    (subst (λ (bs : List ℕ). IsExplanationFrom came bs explanation) (sym (append-nil bytes)) is)
