-- A frame that is added to the lists of a dump.
use Rattle.std.proofs.Common.{◌≡◌, ◌≢◌, ℕ, zero, suc, ◌+◌, ◌-◌, ◌^◌, ◌<◌, ◌≤◌, List, [], ◌∷◌, ◌++◌, length, take, drop, get_or, refl, sym, ap, subst, ◌∙◌}
use Rattle.std.proofs.Common.{arith, add-one, append_assoc}
use Rattle.std.specs.Prelude.{All}
use Rattle.std.proofs.Math.Seq.{drop-append_seam, take-suc}
use Rattle.std.proofs.lemmas.List.{length-append, length-take, take_all, take-append-le, append-nil}
use Rattle.vs_types.specs.declared.addresses.frame.TheConstants.{FRAME_WORDS}
use Rattle.vs_walk.specs.declared.dump.Span.TheVariants.{Whole, Nonzero}
use Rattle.vs_walk.specs.inside.Kept.{IsKept, AreAdded, IsAdded, filled, part, place_of, nonzero_of}
use Rattle.vs_walk.specs.inside.Traversed.{AreZeros}
use Rattle.vs_walk.proofs.Filled.{filled_more, kept_more, kept_none, rise_short}

none_added : (places words : List ℕ) → AreAdded places words places words []
none_added places words = record {
  places = [];
  words = [];
  more_places = sym (append-nil places);
  more_words = sym (append-nil words);
  kept = kept_none;
  is = refl;
}

word_added : (places_before words_before places words places_now words_now frame more : List ℕ) (word : ℕ)
    → AreAdded places_before words_before places words frame → word < 2 ^ 64 → more ≡ frame ++ word ∷ []
    → places_now ≡ places ++ place_of (length frame) word → words_now ≡ words ++ nonzero_of word
    → AreAdded places_before words_before places_now words_now more
word_added places_before words_before places words places_now words_now frame more word is fits one new_places new_words =
    let come : length more ≡ length frame + 1 = ap length one ∙ length-append frame (word ∷ []) in
    let ps = is.places ++ place_of (length frame) word in
    let ws = is.words ++ nonzero_of word in
    record {
      places = ps;
      words = ws;
      more_places = new_places ∙ ap (λ l. l ++ place_of (length frame) word) is.more_places
          ∙ append_assoc places_before is.places (place_of (length frame) word);
      more_words = new_words ∙ ap (λ l. l ++ nonzero_of word) is.more_words ∙ append_assoc words_before is.words (nonzero_of word);
      kept = subst (λ n. IsKept ps ws n) (sym come) (kept_more is.places is.words (length frame) word is.kept fits);
      is = ap (filled 0 ps ws) come ∙ filled_more is.places is.words (length frame) word is.kept ∙ ap (λ l. l ++ word ∷ []) is.is ∙ sym one;
    }

-- one word more of a frame
pub next_taken : (frame : List ℕ) (i : ℕ) → i < length frame → take (i + 1) frame ≡ take i frame ++ get_or frame i 0 ∷ []
next_taken frame i within = ap (λ n. take n frame) (add-one i) ∙ take-suc frame i 0 within

zeros_added : (places_before words_before places words frame : List ℕ) (from more : ℕ) → AreAdded places_before words_before places words (take from frame)
    → from + more ≤ length frame → AreZeros frame from (from + more) → AreAdded places_before words_before places words (take (from + more) frame)
zeros_added places_before words_before places words frame from zero is within zeros =
    let same : from ≡ from + 0 = omega arith in
    subst (λ n. AreAdded places_before words_before places words (take n frame)) same is
zeros_added places_before words_before places words frame from (suc more) is within zeros =
    let at : from + more < length frame = omega (arith, within) in
    let before = zeros_added places_before words_before places words frame from more is (omega (arith, within))
    (λ i low less. zeros i low (omega (arith, less))) in
    let next : from + suc more ≡ from + more + 1 = omega arith in
    word_added places_before words_before places words places words (take (from + more) frame) (take (from + suc more) frame) 0 before (omega arith)
    (ap (λ n. take n frame) next ∙ next_taken frame (from + more) at
    ∙ ap (λ w. take (from + more) frame ++ w ∷ []) (zeros (from + more) (omega arith) (omega arith)))
    (sym (append-nil places)) (sym (append-nil words))

-- words that are 0, up to an index
pub zeros_to : (places_before words_before places words frame : List ℕ) (from to : ℕ) → AreAdded places_before words_before places words (take from frame)
    → from ≤ to → to ≤ length frame → AreZeros frame from to → AreAdded places_before words_before places words (take to frame)
zeros_to places_before words_before places words frame from to is up within zeros =
    let same : from + (to - from) ≡ to = omega (arith, up) in
    subst (λ n. AreAdded places_before words_before places words (take n frame)) same
    (zeros_added places_before words_before places words frame from (to - from) is (omega (arith, up, within))
    (λ i low less. zeros i low (omega (arith, less, up))))

pub begun : (places words frame : List ℕ) (to : ℕ) → to ≤ length frame → AreZeros frame 0 to → AreAdded places words places words (take to frame)
begun places words frame to within zeros =
    zeros_to places words places words frame 0 to (none_added places words) (omega arith) within zeros

place_is : (index word : ℕ) → word ≢ 0 → place_of index word ≡ index ∷ []
place_is index zero other = absurd (other refl)
place_is index (suc word) other = refl

word_is : (word : ℕ) → word ≢ 0 → nonzero_of word ≡ word ∷ []
word_is zero other = absurd (other refl)
word_is (suc word) other = refl

-- the word at an index, which isn't 0, and the zeros behind it
pub next_added : (places_before words_before places words places_now words_now frame : List ℕ) (i word to : ℕ)
    → AreAdded places_before words_before places words (take i frame) → i < length frame → word ≡ get_or frame i 0 → get_or frame i 0 ≢ 0
    → word < 2 ^ 64 → places_now ≡ places ++ i ∷ [] → words_now ≡ words ++ word ∷ []
    → i + 1 ≤ to → to ≤ length frame → AreZeros frame (i + 1) to → AreAdded places_before words_before places_now words_now (take to frame)
next_added places_before words_before places words places_now words_now frame i word to is at read other fits new_places new_words up within zeros =
    let nonzero : word ≢ 0 = λ none. other (sym read ∙ none) in
    let come : length (take i frame) ≡ i = omega (arith, at, length-take i frame) in
    zeros_to places_before words_before places_now words_now frame (i + 1) to
    (word_added places_before words_before places words places_now words_now (take i frame) (take (i + 1) frame) word is fits
    (next_taken frame i at ∙ ap (λ w. take i frame ++ w ∷ []) (sym read))
    (new_places ∙ ap (λ l. places ++ l) (sym (place_is i word nonzero) ∙ ap (λ n. place_of n word) (sym come)))
    (new_words ∙ ap (λ l. words ++ l) (sym (word_is word nonzero))))
    up within zeros

-- no more of either was added than the frame has words
pub added_short : (places words places_now words_now frame : List ℕ) → AreAdded places words places_now words_now frame
    → (length places_now ≤ length places + length frame) × (length words_now ≤ length words + length frame)
added_short places words places_now words_now frame is =
    let short = rise_short 0 is.places (length frame) is.kept.rise in (
      omega (arith, ap length is.more_places, length-append places is.places, short),
      omega (arith, ap length is.more_words, length-append words is.words, short, is.kept.as_many),
    )

-- ---- what was added, as a part of the lists

last_part : (items before more : List ℕ) (start len : ℕ) → items ≡ before ++ more → start ≡ length before → len ≡ length more → part items start len ≡ more
last_part items before more start len is begins long =
    ap (λ n. take len (drop n items)) begins ∙ ap (λ l. take len (drop (length before) l)) is
    ∙ ap (take len) (drop-append_seam before more) ∙ take_all len more (omega (arith, long))

pub nonzero_added : (places words places_now words_now frame : List ℕ) (start place len : ℕ) → AreAdded places words places_now words_now frame
    → length frame ≡ FRAME_WORDS → start ≡ length words → place ≡ length places → length words_now ≡ start + len
    → IsAdded places words places_now words_now (Nonzero start place len) frame
nonzero_added places words places_now words_now frame start place len is whole begins begins_place ends =
    let count = length-append words is.words in
    let count_places = length-append places is.places in
    let long : len ≡ length is.words = omega (arith, begins, ends, ap length is.more_words, count) in
    let new_places : part places_now place len ≡ is.places =
    last_part places_now places is.places place len is.more_places begins_place (omega (arith, long, is.kept.as_many)) in
    let new_words : part words_now start len ≡ is.words = last_part words_now words is.words start len is.more_words begins long in
    let kept : IsKept is.places is.words FRAME_WORDS = subst (IsKept is.places is.words) whole is.kept in
    record {
      places = is.places;
      words = is.words;
      more_places = is.more_places;
      more_words = is.more_words;
      is_span = record {
        within = omega (arith, ends);
        within_places = omega (arith, begins_place, ap length is.more_places, count_places, long, is.kept.as_many);
        kept = subst (λ l. IsKept l (part words_now start len) FRAME_WORDS) (sym new_places)
            (subst (λ l. IsKept is.places l FRAME_WORDS) (sym new_words) kept);
      };
      is = ap (λ l. filled 0 l (part words_now start len) FRAME_WORDS) new_places ∙ ap (λ l. filled 0 is.places l FRAME_WORDS) new_words
          ∙ ap (filled 0 is.places is.words) (sym whole) ∙ is.is;
    }

pub whole_added : (places words places_now words_now frame : List ℕ) (start : ℕ) → places_now ≡ places → words_now ≡ words ++ frame
    → length frame ≡ FRAME_WORDS → All (λ word. word < 2 ^ 64) frame → start ≡ length words
    → IsAdded places words places_now words_now (Whole start) frame
whole_added places words places_now words_now frame start same new_words whole fit begins =
    let now : part words_now start FRAME_WORDS ≡ frame = last_part words_now words frame start FRAME_WORDS new_words begins (sym whole) in
    record {
      places = [];
      words = frame;
      more_places = same ∙ sym (append-nil places);
      more_words = new_words;
      is_span = record {
        within = omega (arith, begins, whole, ap length new_words, length-append words frame);
        fit = subst (All (λ word. word < 2 ^ 64)) (sym now) fit;
      };
      is = now;
    }

-- the lists without what was added
pub taken_back : (items before more : List ℕ) (n : ℕ) → items ≡ before ++ more → n ≡ length before → take n items ≡ before
taken_back items before more n is long =
    ap (λ m. take m items) long ∙ ap (take (length before)) is ∙ take-append-le (length before) before more (omega arith)
    ∙ take_all (length before) before (omega arith)
