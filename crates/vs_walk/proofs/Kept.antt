-- Frames of which parts of two lists are kept.
use Rattle.std.proofs.Common.{◌≡◌, ℕ, ◌+◌, ◌^◌, ◌<◌, ◌≤◌, List, [], ◌∷◌, ◌++◌, length, take, drop, map, refl, sym, ap, subst, ◌∙◌, arith}
use Rattle.std.specs.Prelude.{All, zip}
use Rattle.std.specs.FinMap as finite
use Rattle.std.specs.Ordering.{nat_cmp}
use Rattle.std.proofs.lemmas.List.{take-append-le, drop-append-le, length-drop, length-take, length-append, length-map, map-append}
use Rattle.std.proofs.lemmas.List.Elements.{All-head, All-tail, All-push, All-weaker}
use Rattle.vs_types.specs.declared.addresses.frame.TheConstants.{FRAME_WORDS}
use Rattle.vs_types.specs.declared.limits.TheConstants.{FRAMES}
use Rattle.vs_types.specs.Frame.{IsFrame}
use Rattle.vs_walk.specs.Dump.{AreParts}
use Rattle.vs_walk.specs.declared.dump.Span.{Span}
use Rattle.vs_walk.specs.declared.dump.Span.TheVariants.{Whole, Nonzero}
use Rattle.vs_walk.specs.inside.Kept.{IsKept, IsSpan, IsAdded, AreKept, filled, part, words_at, paired}
use Rattle.vs_walk.proofs.Dumps.{pairs_push, parts_push, from_sorted_push}
use Rattle.vs_walk.proofs.Filled.{is_frame}

-- ---- lists that grow leave the frames

part_stays : (items more : List ℕ) (start len : ℕ) → start + len ≤ length items → part (items ++ more) start len ≡ part items start len
part_stays items more start len within =
    ap (take len) (drop-append-le start items more (omega (arith, within)))
    ∙ take-append-le len (drop start items) more (omega (arith, within, length-drop start items))

span_stays : (places words more_places more_words : List ℕ) (span : Span) → IsSpan places words span
    → IsSpan (places ++ more_places) (words ++ more_words) span
span_stays places words more_places more_words (Whole start) is = record {
  within = omega (arith, is.within, length-append words more_words);
  fit = subst (All (λ word. word < 2 ^ 64)) (sym (part_stays words more_words start FRAME_WORDS is.within)) is.fit;
}
span_stays places words more_places more_words (Nonzero start place len) is = record {
  within = omega (arith, is.within, length-append words more_words);
  within_places = omega (arith, is.within_places, length-append places more_places);
  kept = subst (λ l. IsKept l (part (words ++ more_words) start len) FRAME_WORDS) (sym (part_stays places more_places place len is.within_places))
      (subst (λ l. IsKept (part places place len) l FRAME_WORDS) (sym (part_stays words more_words start len is.within)) is.kept);
}

words_stay : (places words more_places more_words : List ℕ) (span : Span) → IsSpan places words span
    → words_at (places ++ more_places) (words ++ more_words) span ≡ words_at places words span
words_stay places words more_places more_words (Whole start) is = part_stays words more_words start FRAME_WORDS is.within
words_stay places words more_places more_words (Nonzero start place len) is =
    ap (λ l. filled 0 l (part (words ++ more_words) start len) FRAME_WORDS) (part_stays places more_places place len is.within_places)
    ∙ ap (λ l. filled 0 (part places place len) l FRAME_WORDS) (part_stays words more_words start len is.within)

frames_stay : (places words more_places more_words : List ℕ) (spans : List Span) → All (IsSpan places words) spans
    → map (words_at (places ++ more_places) (words ++ more_words)) spans ≡ map (words_at places words) spans
frames_stay places words more_places more_words [] all = refl
frames_stay places words more_places more_words (span ∷ spans) all =
    ap (λ frame. frame ∷ map (words_at (places ++ more_places) (words ++ more_words)) spans)
    (words_stay places words more_places more_words span (All-head (IsSpan places words) span spans all))
    ∙ ap (λ frames. words_at places words span ∷ frames)
    (frames_stay places words more_places more_words spans (All-tail (IsSpan places words) span spans all))

paired_stay : (numbers : List ℕ) (spans : List Span) (places words more_places more_words : List ℕ) → All (IsSpan places words) spans
    → paired numbers spans (places ++ more_places) (words ++ more_words) ≡ paired numbers spans places words
paired_stay numbers spans places words more_places more_words within =
    ap (λ frames. zip numbers frames) (frames_stay places words more_places more_words spans within)

kept_grows : {applied root : ℕ} (numbers : List ℕ) (spans : List Span) (places words more_places more_words : List ℕ)
    → AreKept applied root numbers spans places words → AreKept applied root numbers spans (places ++ more_places) (words ++ more_words)
kept_grows {applied} {root} numbers spans places words more_places more_words is = record {
  as_many = is.as_many;
  within = All-weaker (IsSpan places words) (IsSpan (places ++ more_places) (words ++ more_words))
      (λ span at. span_stays places words more_places more_words span at) spans is.within;
  parts = subst (AreParts applied root) (sym (paired_stay numbers spans places words more_places more_words is.within)) is.parts;
}

pub added_kept : {applied root : ℕ} (numbers : List ℕ) (spans : List Span) (places words places_now words_now : List ℕ) {span : Span} {frame : List ℕ}
    → AreKept applied root numbers spans places words → IsAdded places words places_now words_now span frame
    → AreKept applied root numbers spans places_now words_now
added_kept {applied} {root} numbers spans places words places_now words_now is added =
    subst (λ l. AreKept applied root numbers spans l words_now) (sym added.more_places)
    (subst (λ l. AreKept applied root numbers spans (places ++ added.places) l) (sym added.more_words)
    (kept_grows numbers spans places words added.places added.words is))

pub added_frames : {applied root : ℕ} (numbers : List ℕ) (spans : List Span) (places words places_now words_now : List ℕ) {span : Span} {frame : List ℕ}
    → AreKept applied root numbers spans places words → IsAdded places words places_now words_now span frame
    → paired numbers spans places_now words_now ≡ paired numbers spans places words
added_frames numbers spans places words places_now words_now is added =
    ap (λ l. paired numbers spans l words_now) added.more_places ∙ ap (λ l. paired numbers spans (places ++ added.places) l) added.more_words
    ∙ paired_stay numbers spans places words added.places added.words is.within

-- ---- one frame more

pub as_many_frames : (numbers : List ℕ) (spans : List Span) (places words : List ℕ) → length numbers ≡ length spans
    → length numbers ≡ length (map (words_at places words) spans)
as_many_frames numbers spans places words as_many = as_many ∙ sym (length-map spans (words_at places words))

pub frame_closed : (numbers : List ℕ) (spans : List Span) (places words : List ℕ) (number : ℕ) (span : Span) (frame : List ℕ)
    → length numbers ≡ length spans → words_at places words span ≡ frame
    → paired (numbers ++ number ∷ []) (spans ++ span ∷ []) places words ≡ paired numbers spans places words ++ (number, frame) ∷ []
frame_closed numbers spans places words number span frame as_many is =
    ap (λ frames. zip (numbers ++ number ∷ []) frames) (map-append (words_at places words) spans (span ∷ []))
    ∙ pairs_push numbers (map (words_at places words) spans) number (words_at places words span) (as_many_frames numbers spans places words as_many)
    ∙ ap (λ one. paired numbers spans places words ++ (number, one) ∷ []) is

frame_of_span : (places words : List ℕ) (span : Span) → IsSpan places words span → IsFrame (words_at places words span)
frame_of_span places words (Whole start) is = record {
  whole = omega (arith, is.within, length-take FRAME_WORDS (drop start words), length-drop start words);
  fit = is.fit;
}
frame_of_span places words (Nonzero start place len) is = is_frame (part places place len) (part words start len) is.kept

pub kept_closed : {applied root : ℕ} (numbers : List ℕ) (spans : List Span) (places words : List ℕ) (number : ℕ) (span : Span)
    → AreKept applied root numbers spans places words → IsSpan places words span
    → All (λ held. held < number) (map (λ e. e.0) (paired numbers spans places words)) → number < 2 ^ 40
    → length (paired numbers spans places words) < FRAMES → AreKept applied root (numbers ++ number ∷ []) (spans ++ span ∷ []) places words
kept_closed {applied} {root} numbers spans places words number span is last above in_range room = record {
  as_many = omega (arith, length-append numbers (number ∷ []), length-append spans (span ∷ []), is.as_many);
  within = All-push (IsSpan places words) spans span is.within last;
  parts = subst (AreParts applied root) (sym (frame_closed numbers spans places words number span (words_at places words span) is.as_many refl))
      (parts_push (paired numbers spans places words) number (words_at places words span) is.parts above in_range room
      (frame_of_span places words span last));
}

-- the dump with the frame
pub frames_closed : (numbers : List ℕ) (spans : List Span) (places words : List ℕ) (number : ℕ) (span : Span) (frame : List ℕ) {applied root : ℕ}
    → AreKept applied root numbers spans places words → words_at places words span ≡ frame
    → All (λ held. held < number) (map (λ e. e.0) (paired numbers spans places words))
    → finite.from_sorted {R = nat_cmp} (paired (numbers ++ number ∷ []) (spans ++ span ∷ []) places words)
    ≡ finite.insert (finite.from_sorted (paired numbers spans places words)) number frame
frames_closed numbers spans places words number span frame is words_are above =
    ap (λ es. finite.from_sorted es) (frame_closed numbers spans places words number span frame is.as_many words_are)
    ∙ from_sorted_push _ _ _ above is.parts.rising
