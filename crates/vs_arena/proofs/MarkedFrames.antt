-- The frames of an arena: what there is at an index, and how a change of marks and words changes them.
use Rattle.std.proofs.Common.{◌≡◌, ℕ, ◌+◌, ◌<◌, ◌≤◌, ◌≢◌, Bool, true, false, cond, List, [], ◌∷◌, ◌++◌, length, get_or, set, refl, sym, ap}
use Rattle.std.proofs.Common.{subst, ◌^◌, ◌∙◌, inl, inr, lit<, arith, rules}
use Rattle.std.specs.Prelude.{Option, Some, None, IsSome, IfSome, IfNone}
use Rattle.std.specs.FinMap as finite
use Rattle.std.specs.Ordering.{nat_cmp}
use Rattle.std.proofs.lemmas.Grind.{get_or-set_at}
use Rattle.std.proofs.lemmas.List.{length-set, length-replicate, length_push, get_or-set_same, get_or-set_other, get_or_past, get_or_push, get_or_append_left}
use Rattle.std.proofs.lemmas.List.{set-get_or}
use Rattle.std.proofs.lemmas.List.Elements.{All-set, All-replicate, All-push}
use Rattle.std.proofs.lemmas.Bool.{cases_eq, cases_lt, true≢false}
use Rattle.vs_types.specs.declared.limits.TheConstants.{TABLES}
use Rattle.vs_types.specs.Frame.{IsFrame}
use Rattle.vs_arena.specs.Store.{Store, IsInUse, IsFree, words_of}
use Rattle.vs_arena.specs.Marked.{marked, marked_frames, marked_notes, IsGivenBack, IsArena}
use Rattle.vs_arena.specs.Arena.{Arena}
use Rattle.vs_arena.specs.Store.{IsStore, zeros}
use Rattle.std.proofs.lemmas.Option.{cond_some}
use Rattle.vs_arena.proofs.Marked.{get_or-push_other, get-marked, marked-mark, marked-write, marked-unmark, marked-push, marked-none}
use Rattle.vs_types.proofs.Maps.{len-insert_free, len-insert_used, len-remove_used}
use Rattle.vs_arena.proofs.Stores.{get_in_use}

pub get-marked_frames : (marks : List Bool) (words : List (List ℕ)) (q : ℕ) → finite.get (marked_frames marks words) q ≡ marked [] marks words q
get-marked_frames = get-marked []

pub marked_frames-mark : (marks : List Bool) (words : List (List ℕ)) (index : ℕ) (own : List ℕ) → index < length marks → index < length words
    → marked_frames (set marks index true) (set words index own) ≡ finite.insert (marked_frames marks words) index own
marked_frames-mark = marked-mark []

pub marked_frames-write : (marks : List Bool) (words : List (List ℕ)) (index : ℕ) (own : List ℕ) → get_or marks index false ≡ true → index < length words
    → marked_frames marks (set words index own) ≡ finite.insert (marked_frames marks words) index own
marked_frames-write = marked-write []

pub marked_frames-unmark : (marks : List Bool) (words : List (List ℕ)) (index : ℕ) → index < length marks
    → marked_frames (set marks index false) words ≡ finite.remove (marked_frames marks words) index
marked_frames-unmark = marked-unmark []

pub marked_frames-push : (marks : List Bool) (words : List (List ℕ)) (own : List ℕ) → length words ≡ length marks
    → marked_frames (marks ++ true ∷ []) (words ++ own ∷ []) ≡ finite.insert (marked_frames marks words) (length marks) own
marked_frames-push = marked-push []

marked_within : (marks : List Bool) (index : ℕ) → get_or marks index false ≡ true → index < length marks
marked_within marks index is_marked = elim (cases_lt index (length marks)) as (λ _. index < length marks) [
  | inl lt ↦ lt
  | inr le ↦ absurd (true≢false (sym is_marked ∙ get_or_past marks index false le))
]

-- a frame in use is marked, and its words are at its index
pub record IsMarked (marks : List Bool) (words : List (List ℕ)) (index : ℕ) : Type 0 where
  pub mark : get_or marks index false ≡ true
  pub in_marks : index < length marks
  pub own : words_of (marked_frames marks words) index ≡ get_or words index []
  pub got : finite.get (marked_frames marks words) index ≡ Some (get_or words index [])

pub IsMarked-from_use : (marks : List Bool) (words : List (List ℕ)) (index : ℕ) → IsInUse (marked_frames marks words) index → IsMarked marks words index
IsMarked-from_use marks words index used =
    let got = get_in_use (marked_frames marks words) index used in
    let parts = cond_some (get_or marks index false) (get_or words index []) (words_of (marked_frames marks words) index)
    (sym (get-marked_frames marks words index) ∙ got) in
    record {
      mark = parts.0;
      in_marks = marked_within marks index parts.0;
      own = sym parts.1;
      got = got ∙ ap (λ own. Some own) (sym parts.1);
    }

-- a frame in use of a store with these frames, by its index
pub marked_here : (marks : List Bool) (words : List (List ℕ)) {frames : Store} {frame index : ℕ} → marked_frames marks words ≡ frames
    → IsInUse frames frame → index ≡ frame → IsMarked marks words index
marked_here marks words {frames} {frame} same used is =
    subst (λ i. IsMarked marks words i) (sym is) (IsMarked-from_use marks words frame (subst (λ m. IsInUse m frame) (sym same) used))

pub IsFrame-zeros : IsFrame zeros
IsFrame-zeros = record { whole = length-replicate {A = ℕ} 512 0; fit = All-replicate (λ word. word < 2 ^ 64) 512 0 (lit< tt) }

pub IsFrame-set : (own : List ℕ) (k word : ℕ) → IsFrame own → word < 2 ^ 64 → IsFrame (set own k word)
IsFrame-set own k word frame fits = record { whole = length-set own k word ∙ frame.whole; fit = All-set (λ w. w < 2 ^ 64) own k word fits frame.fit }

pub IsFree-from_mark : (marks : List Bool) (words : List (List ℕ)) (index : ℕ) → get_or marks index false ≡ false → IsFree (marked_frames marks words) index
IsFree-from_mark marks words index unmarked = get-marked_frames marks words index ∙ ap (λ b. cond b (Some (get_or words index [])) None) unmarked

pub IsFree-past : (marks : List Bool) (words : List (List ℕ)) → IsFree (marked_frames marks words) (length marks)
IsFree-past marks words = IsFree-from_mark marks words (length marks) (get_or_past marks (length marks) false (omega arith))

module _ {base size : ℕ} {words : List (List ℕ)} {marks : List Bool} {notes free : List ℕ} (arena : IsArena base size words marks notes free) where
  -- the frames that were freed aren't in use
  pub apart : (index : ℕ) → get_or marks index false ≡ true → (k : ℕ) → k < length free → get_or free k 0 ≢ index
  apart index is_marked k below same =
      true≢false (sym is_marked ∙ sym (ap (λ i. get_or marks i false) same) ∙ (arena.given_back k below).unmarked)

  pub in_words : {index : ℕ} → IsMarked marks words index → index < length words
  in_words is_marked = omega (arith, is_marked.in_marks, arena.words_for_each)

  -- there is room for one more that is freed
  pub room_for_one : {index : ℕ} → IsMarked marks words index → length free < length marks
  room_for_one {index} is_marked = omega (arith, len-remove_used (marked_frames marks words) index _ is_marked.got, arena.counted)

  -- ---- words or a note are written

  pub IsArena-write : {index : ℕ} (own : List ℕ) → IsFrame own → IsMarked marks words index → IsArena base size (set words index own) marks notes free
  IsArena-write {index} own own_frame is_marked =
      let same_count = len-insert_used (marked_frames marks words) index own _ is_marked.got in
      record {
        few_frames = arena.few_frames;
        numbers_fit = arena.numbers_fit;
        ever_taken = arena.ever_taken;
        words_for_each = length-set words index own ∙ arena.words_for_each;
        notes_for_each = arena.notes_for_each;
        whole_frames = All-set IsFrame words index own own_frame arena.whole_frames;
        given_back = λ k below. let was = arena.given_back k below in record {
          within = was.within;
          unmarked = was.unmarked;
          clear = get_or-set_other words index (get_or free k 0) own [] (apart index is_marked.mark k below) ∙ was.clear;
        };
        given_once = arena.given_once;
        counted = rw (marked_frames-write marks words index own is_marked.mark (in_words is_marked)) (omega (arith, same_count, arena.counted));
      }

  pub IsArena-note : (index note : ℕ) → IsArena base size words marks (set notes index note) free
  IsArena-note index note = record {
    few_frames = arena.few_frames;
    numbers_fit = arena.numbers_fit;
    ever_taken = arena.ever_taken;
    words_for_each = arena.words_for_each;
    notes_for_each = length-set notes index note ∙ arena.notes_for_each;
    whole_frames = arena.whole_frames;
    given_back = arena.given_back;
    given_once = arena.given_once;
    counted = arena.counted;
  }

  -- ---- a frame is freed

  still_unmarked : (index i : ℕ) → index < length marks → get_or marks i false ≡ false → get_or (set marks index false) i false ≡ false
  still_unmarked index i in_marks unmarked = elim (cases_eq i index) as (λ _. get_or (set marks index false) i false ≡ false) [
    | inl at ↦ get_or-set_at marks index i false false at in_marks
    | inr other ↦ get_or-set_other marks index i false false other ∙ unmarked
  ]

  once_pushed : (index : ℕ) → ((k : ℕ) → k < length free → get_or free k 0 ≢ index) → (j k : ℕ) → j < length free + 1 → k < length free + 1
      → get_or (free ++ index ∷ []) j 0 ≡ get_or (free ++ index ∷ []) k 0 → j ≡ k
  once_pushed index apart j k j_below k_below same =
      let at = λ (i : ℕ) (top : i ≡ length free). get_or_push free index 0 i (sym top) in
      let off = λ (i : ℕ) (other : i ≢ length free). get_or-push_other free index 0 i other in
      elim (cases_eq j (length free)) as (λ _. j ≡ k) [
        | inl j_top ↦ elim (cases_eq k (length free)) as (λ _. j ≡ k) [
          | inl k_top ↦ j_top ∙ sym k_top
          | inr k_other ↦ absurd (apart k (omega (arith, k_below, k_other)) (sym (off k k_other) ∙ sym same ∙ at j j_top))
        ]
        | inr j_other ↦ elim (cases_eq k (length free)) as (λ _. j ≡ k) [
          | inl k_top ↦ absurd (apart j (omega (arith, j_below, j_other)) (sym (off j j_other) ∙ same ∙ at k k_top))
          | inr k_other ↦ arena.given_once j k (omega (arith, j_below, j_other)) (omega (arith, k_below, k_other)) (sym (off j j_other) ∙ same ∙ off k k_other)
        ]
      ]

  pub IsArena-give : {index : ℕ} → IsMarked marks words index → get_or words index [] ≡ zeros
      → IsArena base size words (set marks index false) notes (free ++ index ∷ [])
  IsArena-give {index} is_marked zeroed =
      let one_less = len-remove_used (marked_frames marks words) index _ is_marked.got in
      let in_marks : index < length marks = is_marked.in_marks in
      let one_more = length_push free index in
      record {
        few_frames = arena.few_frames;
        numbers_fit = arena.numbers_fit;
        ever_taken = rw length-set arena.ever_taken;
        words_for_each = arena.words_for_each ∙ sym (length-set marks index false);
        notes_for_each = arena.notes_for_each ∙ sym (length-set marks index false);
        whole_frames = arena.whole_frames;
        given_back = λ k below. elim (cases_eq k (length free)) as (λ _. IsGivenBack words (set marks index false) (get_or (free ++ index ∷ []) k 0)) [
          | inl last ↦ subst (IsGivenBack words (set marks index false)) (sym (get_or_push free index 0 k (sym last))) (record {
            within = rw length-set in_marks;
            unmarked = get_or-set_same marks index false false in_marks;
            clear = zeroed;
          })
          | inr other ↦ let was = arena.given_back k (omega (arith, below, one_more, other)) in
              subst (IsGivenBack words (set marks index false)) (sym (get_or-push_other free index 0 k other)) (record {
                within = rw length-set was.within;
                unmarked = still_unmarked index (get_or free k 0) in_marks was.unmarked;
                clear = was.clear;
              })
        ];
        given_once = λ j k j_below k_below same. once_pushed index (apart index is_marked.mark) j k (omega (arith, j_below, one_more))
            (omega (arith, k_below, one_more)) same;
        counted = rw (marked_frames-unmark marks words index in_marks, length-set marks index false)
            (omega (arith, one_less, one_more, arena.counted));
      }

  -- ---- a frame is taken that was freed

  module _ (rest : List ℕ) (index : ℕ) (popped : free ≡ rest ++ index ∷ []) where
    one_more : length free ≡ length rest + 1
    one_more = ap length popped ∙ length_push rest index

    stays : (k : ℕ) → k < length rest → get_or free k 0 ≡ get_or rest k 0
    stays k below = ap (λ l. get_or l k 0) popped ∙ get_or_append_left rest (index ∷ []) 0 k below

    top : get_or free (length rest) 0 ≡ index
    top = ap (λ l. get_or l (length rest) 0) popped ∙ get_or_push rest index 0 (length rest) refl

    pub last_given : IsGivenBack words marks index
    last_given = subst (IsGivenBack words marks) top (arena.given_back (length rest) (omega (arith, one_more)))

    -- it is none of the others
    pub apart_from_rest : (k : ℕ) → k < length rest → get_or rest k 0 ≢ index
    apart_from_rest k below same =
        let one : k ≡ length rest = arena.given_once k (length rest) (omega (arith, one_more, below)) (omega (arith, one_more)) (stays k below ∙ same ∙ sym top)
        in omega (arith, one, below)

    -- to write zeros there changes nothing
    pub taken_clear : set words index zeros ≡ words
    taken_clear = ap (λ own. set words index own) (sym last_given.clear) ∙ set-get_or words index []

    pub marked_frames-again : marked_frames (set marks index true) words ≡ finite.insert (marked_frames marks words) index zeros
    marked_frames-again = ap (λ own. marked_frames (set marks index true) own) (sym taken_clear)
        ∙ marked_frames-mark marks words index zeros last_given.within (omega (arith, last_given.within, arena.words_for_each))

    pub IsArena-again : (note : ℕ) → IsArena base size words (set marks index true) (set notes index note) rest
    IsArena-again note =
        let added = len-insert_free (marked_frames marks words) index zeros (IsFree-from_mark marks words index last_given.unmarked) in
        record {
          few_frames = arena.few_frames;
          numbers_fit = arena.numbers_fit;
          ever_taken = rw length-set arena.ever_taken;
          words_for_each = arena.words_for_each ∙ sym (length-set marks index true);
          notes_for_each = length-set notes index note ∙ arena.notes_for_each ∙ sym (length-set marks index true);
          whole_frames = arena.whole_frames;
          given_back = λ k below.
              let was = subst (IsGivenBack words marks) (stays k below) (arena.given_back k (omega (arith, one_more, below))) in record {
                within = rw length-set was.within;
                unmarked = get_or-set_other marks index (get_or rest k 0) true false (apart_from_rest k below) ∙ was.unmarked;
                clear = was.clear;
              };
          given_once = λ j k j_below k_below same. arena.given_once j k (omega (arith, one_more, j_below)) (omega (arith, one_more, k_below))
              (stays j j_below ∙ same ∙ sym (stays k k_below));
          counted = rw (marked_frames-again, length-set marks index true) (omega (arith, added, one_more, arena.counted));
        }

  -- ---- a frame is taken for the first time

  pub IsArena-first : (note : ℕ) → length marks < size → IsArena base size (words ++ zeros ∷ []) (marks ++ true ∷ []) (notes ++ note ∷ []) free
  IsArena-first note room =
      let added = len-insert_free (marked_frames marks words) (length marks) zeros (IsFree-past marks words) in
      record {
        few_frames = arena.few_frames;
        numbers_fit = arena.numbers_fit;
        ever_taken = omega (arith, length_push marks true, room);
        words_for_each = length_push words zeros ∙ ap (λ n. n + 1) arena.words_for_each ∙ sym (length_push marks true);
        notes_for_each = length_push notes note ∙ ap (λ n. n + 1) arena.notes_for_each ∙ sym (length_push marks true);
        whole_frames = All-push IsFrame words zeros arena.whole_frames IsFrame-zeros;
        given_back = λ k below. let was = arena.given_back k below in record {
          within = omega (arith, was.within, length_push marks true);
          unmarked = get_or_append_left marks (true ∷ []) false (get_or free k 0) was.within ∙ was.unmarked;
          clear = get_or_append_left words (zeros ∷ []) [] (get_or free k 0) (omega (arith, was.within, arena.words_for_each)) ∙ was.clear;
        };
        given_once = arena.given_once;
        counted = rw (marked_frames-push marks words zeros arena.words_for_each) (omega (arith, added, length_push marks true, arena.counted));
      }

pub IsArena-new : (base size : ℕ) → size ≤ TABLES → base + size ≤ 2 ^ 40 → IsArena base size [] [] [] []
IsArena-new base size few fit = record {
  few_frames = few;
  numbers_fit = fit;
  ever_taken = omega arith;
  words_for_each = refl;
  notes_for_each = refl;
  whole_frames = λ k d below. absurd (omega arith);
  given_back = λ k below. absurd (omega arith);
  given_once = λ j k j_below k_below same. absurd (omega arith);
  counted = omega (arith, ap (λ m. finite.len m) (marked-none {X = List ℕ} [] []), finite.len-empty nat_cmp (List ℕ));
}

pub IsStore-from_arena : {base size : ℕ} {words : List (List ℕ)} {marks : List Bool} {notes free : List ℕ} → IsArena base size words marks notes free
    → IsStore base size (marked_frames marks words)
IsStore-from_arena {words = words} {marks} arena = record {
  few_frames = arena.few_frames;
  numbers_fit = arena.numbers_fit;
  within = λ index used. omega (arith, (IsMarked-from_use marks words index used).in_marks, arena.ever_taken);
  frames = λ index own got.
      let parts = cond_some (get_or marks index false) (get_or words index []) own (sym (get-marked_frames marks words index) ∙ got) in
      let in_marks : index < length marks = marked_within marks index parts.0 in
      subst IsFrame parts.1 (arena.whole_frames index [] (omega (arith, in_marks, arena.words_for_each)));
  counted = omega (arith, arena.counted, arena.ever_taken);
}

pub IsInUse-from_mark : (marks : List Bool) (words : List (List ℕ)) (index : ℕ) → get_or marks index false ≡ true → IsInUse (marked_frames marks words) index
IsInUse-from_mark marks words index is_marked =
    let got = get-marked_frames marks words index ∙ ap (λ b. cond b (Some (get_or words index [])) None) is_marked in
    subst IsSome (sym got) (search rules)

-- what is found by its mark is in use, and what isn't is free
pub used_if_marked : (marks : List Bool) (words : List (List ℕ)) (found : Option ℕ) → IfSome found (λ f. get_or marks f false ≡ true)
    → IfSome found (IsInUse (marked_frames marks words))
used_if_marked marks words None marked = tt
used_if_marked marks words (Some f) marked = IsInUse-from_mark marks words f marked

pub free_if_unmarked : (marks : List Bool) (words : List (List ℕ)) (base number : ℕ) (found : Option ℕ)
    → IfNone found ((f : ℕ) → base + f ≡ number → get_or marks f false ≡ false)
    → IfNone found ((f : ℕ) → base + f ≡ number → IsFree (marked_frames marks words) f)
free_if_unmarked marks words base number None unmarked = λ f named. IsFree-from_mark marks words f (unmarked f named)
free_if_unmarked marks words base number (Some f) unmarked = tt

-- an arena of which no frame was ever taken
pub empty_arena : (base size : ℕ) {marks : List Bool} (words : List (List ℕ)) (notes : List ℕ) → marks ≡ []
    → ◌≡◌ {A = Arena} (record { base = base; size = size; frames = marked_frames marks words; notes = marked_notes marks notes })
    (record { base = base; size = size; frames = finite.empty; notes = finite.empty })
empty_arena base size words notes none =
    ap (λ m. record { base = base; size = size; frames = marked_frames m words; notes = marked_notes m notes }) none
    ∙ (λ i. record { base = base; size = size; frames = marked-none [] words i; notes = marked-none 0 notes i })
