-- Arenas over lent memory: how a change of a mark changes what the marks say.
use Rattle.std.proofs.Common.{◌≡◌, ℕ, zero, suc, subst, ◌+◌, ◌<◌, ◌≤◌, ◌≢◌, ◌^◌, Bool, true, false, nat_eq, List, [], ◌∷◌, ◌++◌, map, take, length, get_or, set}
use Rattle.std.proofs.Common.{refl, sym, ap, ◌∙◌, inl, inr, arith}
use Rattle.std.proofs.lemmas.Bool.{cases_lt, ne_eqb, eqb-false}
use Rattle.std.proofs.lemmas.List.{length-set, length-map, length-take-le, get_or-take, get_or-map, get_or_past, map-set, map-append, take-set-le, take_more}
use Rattle.std.proofs.lemmas.List.{take_more_set, set_past, length-take, length_push, get_or_push, get_or_append_left, get_or-set_same, get_or-set_other}
use Rattle.std.proofs.Math.Seq.{take-set-lt, map-set_same}
use Rattle.std.specs.FinMap as finite
use Rattle.vs_types.specs.declared.limits.TheConstants.{TABLES}
use Rattle.vs_types.specs.Frame.{IsFrame}
use Rattle.vs_arena.specs.Store.{zeros}
use Rattle.vs_arena.specs.declared.mark.FrameMark.{FrameMark}
use Rattle.vs_arena.specs.declared.mark.TheConstants.{IN_USE}
use Rattle.vs_arena.specs.Marked.{marked_frames, IsGivenBack}
use Rattle.vs_arena.specs.LentMarks.{column, uses_of_first, notes_of_first, chain, given_back, IsLentArena}
use Rattle.vs_arena.proofs.MarkedFrames.{IsMarked, apart, last_given, apart_from_rest, IsArena-write, IsArena-note, IsArena-give, IsArena-again, IsArena-first}
use Rattle.vs_arena.proofs.MarkedFrames.{IsArena-new, room_for_one}

-- a mark of zeros
abbrev pub blank : FrameMark
blank = record { before = 0; note = 0 }

-- a mark is written among the first n or past them
pub take-set : {X : Type 0} (n : ℕ) (xs : List X) (i : ℕ) (y : X) → take n (set xs i y) ≡ set (take n xs) i y
take-set n xs i y = elim (cases_lt i n) as (λ _. take n (set xs i y) ≡ set (take n xs) i y) [
  | inl lt ↦ take-set-lt n xs i y lt
  | inr le ↦ take-set-le n xs i y le ∙ sym (set_past (take n xs) i y (omega (arith, le, length-take n xs)))
]

module _ {X : Type 0} (part : FrameMark → X) where
  pub length-column : (n : ℕ) (marks : List FrameMark) → n ≤ length marks → length (column part n marks) ≡ n
  length-column n marks le = length-map (take n marks) part ∙ length-take-le n marks le

  pub column-set : (n : ℕ) (marks : List FrameMark) (i : ℕ) (y : FrameMark) → column part n (set marks i y) ≡ set (column part n marks) i (part y)
  column-set n marks i y = ap (map part) (take-set n marks i y) ∙ map-set part (take n marks) i y

  -- a mark that keeps this part
  pub column-kept : (n : ℕ) (marks : List FrameMark) (i : ℕ) (y : FrameMark) → part y ≡ part (get_or marks i blank)
      → column part n (set marks i y) ≡ column part n marks
  column-kept n marks i y same = elim (cases_lt i n) as (λ _. column part n (set marks i y) ≡ column part n marks) [
    | inl lt ↦ ap (map part) (take-set-lt n marks i y lt)
        ∙ map-set_same part (take n marks) i y blank (same ∙ ap part (sym (get_or-take n marks i blank lt)))
    | inr le ↦ ap (map part) (take-set-le n marks i y le)
  ]

  -- one mark more
  pub column-push : (n : ℕ) (marks : List FrameMark) (y : FrameMark) → n < length marks
      → column part (n + 1) (set marks n y) ≡ column part n marks ++ part y ∷ []
  column-push n marks y lt = ap (map part) (take_more_set marks n y lt) ∙ map-append part (take n marks) (y ∷ [])

  pub column-more : (n : ℕ) (marks : List FrameMark) → n < length marks → column part (n + 1) marks ≡ column part n marks ++ part (get_or marks n blank) ∷ []
  column-more n marks lt = ap (map part) (take_more marks n blank lt) ∙ map-append part (take n marks) (get_or marks n blank ∷ [])

  pub column-at : (n : ℕ) (marks : List FrameMark) (i : ℕ) (d : X) → n ≤ length marks → i < n → get_or (column part n marks) i d ≡ part (get_or marks i blank)
  column-at n marks i d le lt =
      get_or-map part (take n marks) i blank d (omega (arith, lt, length-take-le n marks le)) ∙ ap part (get_or-take n marks i blank lt)

-- the mark of a frame that is taken
abbrev pub used_mark : FrameMark
used_mark = record { before = IN_USE; note = 0 }

-- the mark at an index, with another part
abbrev pub unused_mark : List FrameMark → ℕ → ℕ → FrameMark
unused_mark marks i before = record { before = before; note = (get_or marks i blank).note }

abbrev pub noted_mark : List FrameMark → ℕ → ℕ → FrameMark
noted_mark marks i note = record { before = (get_or marks i blank).before; note = note }

abbrev use_of : FrameMark → Bool
use_of mark = nat_eq mark.before IN_USE

abbrev note_in : FrameMark → ℕ
note_in mark = mark.note

abbrev before_in : FrameMark → ℕ
before_in mark = mark.before

-- ---- frames of which each names the one before it

pub length-chain : (n last : ℕ) (before : List ℕ) → length (chain n last before) ≡ n
unfolding chain
length-chain zero last before = refl
length-chain (suc n) last before =
    let more : n + 1 ≡ suc n = omega arith in
    length_push (chain n (get_or before last 0) before) last ∙ ap (λ m. m + 1) (length-chain n (get_or before last 0) before) ∙ more

pub chain-more : (n last : ℕ) (before : List ℕ) → chain (n + 1) last before ≡ chain n (get_or before last 0) before ++ last ∷ []
unfolding chain
chain-more n last before = let more : n + 1 ≡ suc n = omega arith in ap (λ m. chain m last before) more

-- what its frames name is the same
pub chain-kept : (n last : ℕ) (before after : List ℕ)
    → ((k : ℕ) → k < n → get_or after (get_or (chain n last before) k 0) 0 ≡ get_or before (get_or (chain n last before) k 0) 0)
    → chain n last after ≡ chain n last before
unfolding chain
chain-kept zero last before after kept = refl
chain-kept (suc n) last before after kept =
    let rest = chain n (get_or before last 0) before in
    let top : get_or (rest ++ last ∷ []) n 0 ≡ last = get_or_push rest last 0 n (length-chain n (get_or before last 0) before) in
    let own : get_or after last 0 ≡ get_or before last 0 =
    subst (λ i. get_or after i 0 ≡ get_or before i 0) top (kept n (omega arith)) in
    let below : (k : ℕ) → k < n → get_or after (get_or rest k 0) 0 ≡ get_or before (get_or rest k 0) 0 =
    λ k lt. subst (λ i. get_or after i 0 ≡ get_or before i 0)
    (get_or_append_left rest (last ∷ []) 0 k (omega (arith, lt, length-chain n (get_or before last 0) before)))
    (kept k (omega (arith, lt))) in
    ap (λ i. chain n i after ++ last ∷ []) own
    ∙ ap (λ l. l ++ last ∷ []) (chain-kept n (get_or before last 0) before after below)

module _ {base taken given last : ℕ} {words : List (List ℕ)} {marks : List FrameMark} (lent : IsLentArena base taken given last words marks) where
  pub taken_marks : taken ≤ length marks
  taken_marks = omega (arith, lent.taken_within, lent.marks_for_each)

  pub length-uses : length (uses_of_first taken marks) ≡ taken
  length-uses = length-column use_of taken marks taken_marks

  abbrev pub befores : List ℕ
  befores = column before_in taken marks

  pub length-befores : length befores ≡ taken
  length-befores = length-column before_in taken marks taken_marks

  pub length-given : length (given_back taken given last marks) ≡ given
  length-given = length-chain given last befores

  -- a frame that was freed, by its place
  pub given_one : (k : ℕ) → k < given → IsGivenBack (take taken words) (uses_of_first taken marks) (get_or (given_back taken given last marks) k 0)
  given_one k below = lent.arena.given_back k (omega (arith, below, length-given))

  -- a frame in use was taken
  pub was_taken : {index : ℕ} → IsMarked (uses_of_first taken marks) (take taken words) index → index < taken
  was_taken is_marked = omega (arith, is_marked.in_marks, length-uses)

  pub IsLentArena-write : {index : ℕ} (own : List ℕ) → IsFrame own → IsMarked (uses_of_first taken marks) (take taken words) index
      → IsLentArena base taken given last (set words index own) marks
  IsLentArena-write {index} own own_frame is_marked = record {
    arena = rw (length-set words index own, take-set taken words index own) (IsArena-write lent.arena own own_frame is_marked);
    taken_within = rw (length-set words index own) lent.taken_within;
    given_within = lent.given_within;
    marks_for_each = rw (length-set words index own) lent.marks_for_each;
    last_below = lent.last_below;
  }

  pub was_lent : {index : ℕ} → IsMarked (uses_of_first taken marks) (take taken words) index → index < length words
  was_lent is_marked = omega (arith, was_taken is_marked, lent.taken_within)

  pub is_used : (index : ℕ) → index < taken → (get_or marks index blank).before ≡ IN_USE → get_or (uses_of_first taken marks) index false ≡ true
  is_used index below used = column-at use_of taken marks index false taken_marks below ∙ ap (λ n. nat_eq n IN_USE) used

  pub is_unused : (index : ℕ) → ((get_or marks index blank).before ≡ IN_USE → ⊥) → get_or (uses_of_first taken marks) index false ≡ false
  is_unused index other = elim (cases_lt index taken) as (λ _. get_or (uses_of_first taken marks) index false ≡ false) [
    | inl lt ↦ column-at use_of taken marks index false taken_marks lt ∙ ne_eqb _ IN_USE other
    | inr le ↦ get_or_past (uses_of_first taken marks) index false (omega (arith, le, length-uses))
  ]

  pub is_past : (index : ℕ) → taken ≤ index → get_or (uses_of_first taken marks) index false ≡ false
  is_past index le = get_or_past (uses_of_first taken marks) index false (omega (arith, le, length-uses))

  pub note_at : {index : ℕ} → IsMarked (uses_of_first taken marks) (take taken words) index
      → get_or (notes_of_first taken marks) index 0 ≡ (get_or marks index blank).note
  note_at {index} is_marked = column-at note_in taken marks index 0 taken_marks (was_taken is_marked)

  pub words_at : {index : ℕ} → IsMarked (uses_of_first taken marks) (take taken words) index → get_or (take taken words) index [] ≡ get_or words index []
  words_at {index} is_marked = get_or-take taken words index [] (was_taken is_marked)

  pub uses-noted : (index note : ℕ) → uses_of_first taken (set marks index (noted_mark marks index note)) ≡ uses_of_first taken marks
  uses-noted index note = column-kept use_of taken marks index (noted_mark marks index note) refl

  pub notes-noted : (index note : ℕ) → notes_of_first taken (set marks index (noted_mark marks index note)) ≡ set (notes_of_first taken marks) index note
  notes-noted index note = column-set note_in taken marks index (noted_mark marks index note)

  -- as many frames are in use as were taken and not freed
  pub used_count : finite.len (marked_frames (uses_of_first taken marks) (take taken words)) + given ≡ taken
  used_count = omega (arith, lent.arena.counted, length-uses, length-given)

  pub IsLentArena-note : (index note : ℕ) → IsLentArena base taken given last words (set marks index (noted_mark marks index note))
  IsLentArena-note index note =
      let mark = noted_mark marks index note in
      record {
        arena =
            rw (column-kept use_of taken marks index mark refl, column-set note_in taken marks index mark, column-kept before_in taken marks index mark refl)
            (IsArena-note lent.arena index note);
        taken_within = lent.taken_within;
        given_within = lent.given_within;
        marks_for_each = rw (length-set marks index mark) lent.marks_for_each;
        last_below = lent.last_below;
      }

  -- ---- a frame is freed

  pub room_to_give : {index : ℕ} → IsMarked (uses_of_first taken marks) (take taken words) index → given < taken
  room_to_give is_marked = omega (arith, room_for_one lent.arena is_marked, length-uses, length-given)

  module _ (index : ℕ) where
    abbrev pub given_marks : List FrameMark
    given_marks = set marks index (unused_mark marks index last)

    pub uses-given : uses_of_first taken given_marks ≡ set (uses_of_first taken marks) index false
    uses-given = column-set use_of taken marks index (unused_mark marks index last)
        ∙ ap (λ b. set (uses_of_first taken marks) index b) (ne_eqb last IN_USE (λ same. absurd (omega (arith, same, lent.last_below))))

    pub notes-given : notes_of_first taken given_marks ≡ notes_of_first taken marks
    notes-given = column-kept note_in taken marks index (unused_mark marks index last) refl

    befores-given : column before_in taken given_marks ≡ set befores index last
    befores-given = column-set before_in taken marks index (unused_mark marks index last)

    module _ (is_marked : IsMarked (uses_of_first taken marks) (take taken words) index) where
      chain-given : given_back taken (given + 1) index given_marks ≡ given_back taken given last marks ++ index ∷ []
      chain-given =
          let names : get_or (set befores index last) index 0 ≡ last =
          get_or-set_same befores index last 0 (omega (arith, was_taken is_marked, length-befores)) in
          let kept = chain-kept given last befores (set befores index last)
          (λ k below. get_or-set_other befores index (get_or (given_back taken given last marks) k 0) last 0
          (apart lent.arena index is_marked.mark k (omega (arith, below, length-given)))) in
          ap (λ b. chain (given + 1) index b) befores-given
          ∙ chain-more given index (set befores index last)
          ∙ ap (λ i. chain given i (set befores index last) ++ index ∷ []) names
          ∙ ap (λ l. l ++ index ∷ []) kept

      pub IsLentArena-give : get_or (take taken words) index [] ≡ zeros → IsLentArena base taken (given + 1) index words given_marks
      IsLentArena-give zeroed =
          let room : given < taken = room_to_give is_marked in
          let below : index < taken = was_taken is_marked in
          record {
            arena = rw (uses-given, notes-given, chain-given) (IsArena-give lent.arena is_marked zeroed);
            taken_within = lent.taken_within;
            given_within = omega (arith, room);
            marks_for_each = rw (length-set marks index (unused_mark marks index last)) lent.marks_for_each;
            last_below = omega (arith, below, lent.taken_within, lent.arena.few_frames);
          }

  -- ---- a frame is taken

  module _ (index : ℕ) where
    abbrev pub marked_again : List FrameMark
    marked_again = set marks index used_mark

    pub uses-again : uses_of_first taken marked_again ≡ set (uses_of_first taken marks) index true
    uses-again = column-set use_of taken marks index used_mark

    pub notes-again : notes_of_first taken marked_again ≡ set (notes_of_first taken marks) index 0
    notes-again = column-set note_in taken marks index used_mark

  -- one that was freed last
  module _ (fewer : ℕ) (more : given ≡ fewer + 1) where
    abbrev pub rest : List ℕ
    rest = chain fewer (get_or befores last 0) befores

    pub popped : given_back taken given last marks ≡ rest ++ last ∷ []
    popped = ap (λ n. chain n last befores) more ∙ chain-more fewer last befores

    pub last_one : IsGivenBack (take taken words) (uses_of_first taken marks) last
    last_one = last_given lent.arena rest last popped

    pub last_taken : last < taken
    last_taken = omega (arith, last_one.within, length-uses)

    named : get_or befores last 0 ≡ (get_or marks last blank).before
    named = column-at before_in taken marks last 0 taken_marks last_taken

    chain-again : given_back taken fewer (get_or marks last blank).before (marked_again last) ≡ rest
    chain-again = ap (λ b. chain fewer (get_or marks last blank).before b) (column-set before_in taken marks last used_mark)
        ∙ ap (λ i. chain fewer i (set befores last IN_USE)) (sym named)
        ∙ chain-kept fewer (get_or befores last 0) befores (set befores last IN_USE)
        (λ k below. get_or-set_other befores last (get_or rest k 0) IN_USE 0
        (apart_from_rest lent.arena rest last popped k (omega (arith, below, length-chain fewer (get_or befores last 0) befores))))

    -- it isn't in use, so its mark has another number
    named_other : (get_or marks last blank).before ≢ IN_USE
    named_other = eqb-false _ IN_USE (sym (column-at use_of taken marks last false taken_marks last_taken) ∙ last_one.unmarked)

    pub IsLentArena-again : (get_or marks last blank).before < 2 ^ 16
        → IsLentArena base taken fewer (get_or marks last blank).before words (marked_again last)
    IsLentArena-again fits = record {
      arena = rw (uses-again last, notes-again last, chain-again) (IsArena-again lent.arena rest last popped 0);
      taken_within = lent.taken_within;
      given_within = omega (arith, more, lent.given_within);
      marks_for_each = rw (length-set marks last used_mark) lent.marks_for_each;
      last_below = omega (arith, named_other, fits);
    }

  -- one that was never taken
  module _ (room : taken < length words) where
    room_marks : taken < length marks
    room_marks = omega (arith, room, lent.marks_for_each)

    pub uses-first : uses_of_first (taken + 1) (marked_again taken) ≡ uses_of_first taken marks ++ true ∷ []
    uses-first = column-push use_of taken marks used_mark room_marks

    pub notes-first : notes_of_first (taken + 1) (marked_again taken) ≡ notes_of_first taken marks ++ 0 ∷ []
    notes-first = column-push note_in taken marks used_mark room_marks

    pub words-first : take (taken + 1) (set words taken zeros) ≡ take taken words ++ zeros ∷ []
    words-first = take_more_set words taken zeros room

    chain-first : given_back (taken + 1) given last (marked_again taken) ≡ given_back taken given last marks
    chain-first = ap (λ b. chain given last b) (column-push before_in taken marks used_mark room_marks)
        ∙ chain-kept given last befores (befores ++ IN_USE ∷ [])
        (λ k below. get_or_append_left befores (IN_USE ∷ []) 0 (get_or (given_back taken given last marks) k 0)
        (omega (arith, (given_one k below).within, length-uses, length-befores)))

    pub IsLentArena-first : IsLentArena base (taken + 1) given last (set words taken zeros) (marked_again taken)
    IsLentArena-first = record {
      arena = rw (length-set words taken zeros, words-first, uses-first, notes-first, chain-first)
          (IsArena-first lent.arena 0 (omega (arith, room, length-uses)));
      taken_within = omega (arith, room, length-set words taken zeros);
      given_within = omega (arith, lent.given_within);
      marks_for_each = rw (length-set words taken zeros, length-set marks taken used_mark) lent.marks_for_each;
      last_below = lent.last_below;
    }

pub IsLentArena-new : (base : ℕ) (words : List (List ℕ)) (marks : List FrameMark) → length words ≤ TABLES → base + length words ≤ 2 ^ 40
    → length words ≤ length marks → IsLentArena base 0 0 0 words marks
unfolding chain
IsLentArena-new base words marks few fit marked = record {
  arena = IsArena-new base (length words) few fit;
  taken_within = omega arith;
  given_within = omega arith;
  marks_for_each = marked;
  last_below = omega arith;
}
