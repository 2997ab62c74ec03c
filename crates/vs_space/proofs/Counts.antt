-- How many words of a frame aren't 0, as words are written.
use Rattle.std.proofs.Common.{◌≡◌, ◌≢◌, ℕ, zero, suc, ◌+◌, ◌<◌, ◌≤◌, List, [], ◌∷◌, cond, length, get_or, set, replicate, Some, None, ⊎_elim, refl, sym, ap}
use Rattle.std.proofs.Common.{subst, ◌∙◌, arith}
use Rattle.std.specs.Prelude.{unwrap_or}
use Rattle.std.proofs.lemmas.Bool.{cases_eq, eq-eqb, ne_eqb}
use Rattle.std.proofs.lemmas.Option.{none-some}
use Rattle.std.specs.FinMap as finite
use Rattle.std.specs.Ordering.{nat_cmp}
use Rattle.vs_arena.specs.Store.{Store, Notes, IsInUse, words_of, note_of, zeros}
use Rattle.vs_types.proofs.Maps.{get-insert_same, get-insert_other, get-remove}
use Rattle.vs_arena.proofs.Stores.{get_in_use}
use Rattle.vs_walk.specs.Memory.{AreWhole}
use Rattle.vs_space.specs.Counted.{one_for, nonzero_count, IsCounted}

pub one_for_some : (word : ℕ) → word ≢ 0 → one_for word ≡ 1
one_for_some zero other = absurd (other refl)
one_for_some (suc word) other = refl

one_at_most : (word : ℕ) → one_for word ≤ 1
one_at_most zero = let e : 0 ≤ 1 = omega arith in e
one_at_most (suc word) = let e : 1 ≤ 1 = omega arith in e

none_for : (word : ℕ) → one_for word ≡ 0 → word ≡ 0
none_for zero none = refl
none_for (suc word) none = let wrong : 1 ≡ 0 = none in absurd (omega (arith, wrong))

-- a word is written over another
pub count_set : (words : List ℕ) (index word : ℕ) → index < length words
    → nonzero_count (set words index word) + one_for (get_or words index 0) ≡ nonzero_count words + one_for word
count_set [] index word lt = absurd (omega arith)
count_set (x ∷ words) zero word lt =
    let e : (one_for word + nonzero_count words) + one_for x ≡ (one_for x + nonzero_count words) + one_for word = omega arith in e
count_set (x ∷ words) (suc index) word lt =
    let rest = count_set words index word (omega arith) in
    let e : (one_for x + nonzero_count (set words index word)) + one_for (get_or words index 0) ≡ (one_for x + nonzero_count words) + one_for word
    = omega (arith, rest) in
    e

pub count_at_most : (words : List ℕ) → nonzero_count words ≤ length words
count_at_most [] = omega arith
count_at_most (x ∷ words) =
    let e : one_for x + nonzero_count words ≤ suc (length words) = omega (arith, one_at_most x, count_at_most words) in e

-- where none is other than 0, all are 0
pub count_none : (words : List ℕ) → nonzero_count words ≡ 0 → words ≡ replicate (length words) 0
count_none [] none = refl
count_none (x ∷ words) none =
    let all : one_for x + nonzero_count words ≡ 0 = none in
    let here : one_for x ≡ 0 = omega (arith, all) in
    let rest : nonzero_count words ≡ 0 = omega (arith, all) in
    ap (λ w. w ∷ words) (none_for x here) ∙ ap (λ ws. 0 ∷ ws) (count_none words rest)

-- else one is
pub count_some : (words : List ℕ) → nonzero_count words ≢ 0 → (i : ℕ) × (i < length words) × (get_or words i 0 ≢ 0)
count_some [] some = absurd (some refl)
count_some (zero ∷ words) some =
    let later = count_some words (λ none. some (let all : 0 + nonzero_count words ≡ 0 = omega (arith, none) in all)) in
    (suc later.0, omega (arith, later.1), later.2)
count_some (suc x ∷ words) some = (0, omega arith, λ e. let wrong : suc x ≡ 0 = e in absurd (omega (arith, wrong)))

pub count_zeros : (n : ℕ) → nonzero_count (replicate n 0) ≡ 0
count_zeros zero = refl
count_zeros (suc n) = let all : 0 + nonzero_count (replicate n 0) ≡ 0 = omega (arith, count_zeros n) in all

-- a store of which no frame is in use
pub counted_none : (store : Store) (notes : Notes) → store ≡ finite.empty → IsCounted store notes
counted_none store notes empty = record {
  counts = λ frame words got. absurd (none-some words (sym (ap (λ (s : Store). finite.get s frame) empty ∙ finite.get-empty nat_cmp frame) ∙ got));
}

module _ {store : Store} {notes : Notes} (counted : IsCounted store notes) where
  -- words are put in with their count
  pub counted_insert : (f : ℕ) (own : List ℕ) (count : ℕ) → count ≡ nonzero_count own → IsCounted (finite.insert store f own) (finite.insert notes f count)
  counted_insert f own count is = record {
    counts = λ frame words got. ⊎_elim
        (λ (same : frame ≡ f).
        let one : Some own ≡ Some words = sym (get-insert_same store f own) ∙ subst (λ k. finite.get (finite.insert store f own) k ≡ Some words) same got in
        let mine : own ≡ words = cc in
        ap (note_of (finite.insert notes f count)) same ∙ ap (λ o. unwrap_or o 0) (get-insert_same notes f count) ∙ is ∙ ap nonzero_count mine)
        (λ (other : frame ≢ f). ap (λ o. unwrap_or o 0) (get-insert_other notes f count frame other)
        ∙ counted.counts frame words (sym (get-insert_other store f own frame other) ∙ got))
        (cases_eq frame f);
  }

  pub counted_remove : (f : ℕ) → IsCounted (finite.remove store f) (finite.remove notes f)
  counted_remove f = record {
    counts = λ frame words got. ⊎_elim
        (λ (same : frame ≡ f). absurd (none-some words
        (sym (get-remove store f frame ∙ ap (λ b. cond b None (finite.get store frame)) (eq-eqb frame f same)) ∙ got)))
        (λ (other : frame ≢ f).
        let off = ne_eqb frame f other in
        ap (λ o. unwrap_or o 0) (get-remove notes f frame ∙ ap (λ b. cond b None (finite.get notes frame)) off)
        ∙ counted.counts frame words (sym (get-remove store f frame ∙ ap (λ b. cond b None (finite.get store frame)) off) ∙ got))
        (cases_eq frame f);
  }

  module _ (f : ℕ) (used : IsInUse store f) (whole : AreWhole store) where
    abbrev own : List ℕ
    own = words_of store f

    long : length own ≡ 512
    long = whole f own (get_in_use store f used)

    pub note_here : note_of notes f ≡ nonzero_count own
    note_here = counted.counts f own (get_in_use store f used)

    pub note_few : note_of notes f ≤ 512
    note_few = omega (arith, note_here, long, count_at_most own)

    module _ (index : ℕ) (low : index < 512) where
      -- a word that isn't 0 is written over another
      pub counted_over : (word : ℕ) → get_or own index 0 ≢ 0 → word ≢ 0 → IsCounted (finite.insert store f (set own index word)) notes
      counted_over word before after = record {
        counts = λ frame words got. ⊎_elim
            (λ (same : frame ≡ f).
            let one : Some (set own index word) ≡ Some words = sym (get-insert_same store f (set own index word))
            ∙ subst (λ k. finite.get (finite.insert store f (set own index word)) k ≡ Some words) same got in
            let mine : set own index word ≡ words = cc in
            let count : nonzero_count (set own index word) ≡ nonzero_count own =
            omega (arith, count_set own index word (omega (arith, long)), one_for_some (get_or own index 0) before, one_for_some word after) in
            ap (note_of notes) same ∙ note_here ∙ sym count ∙ ap nonzero_count mine)
            (λ (other : frame ≢ f). counted.counts frame words (sym (get-insert_other store f (set own index word) frame other) ∙ got))
            (cases_eq frame f);
      }

      -- a word that isn't 0 is written over 0
      pub counted_more : (word count : ℕ) → get_or own index 0 ≡ 0 → word ≢ 0 → count ≡ note_of notes f + 1
          → IsCounted (finite.insert store f (set own index word)) (finite.insert notes f count)
      counted_more word count before after is = counted_insert f (set own index word) count
          (omega (arith, note_here, is, count_set own index word (omega (arith, long)), ap one_for before, one_for_some word after))

      pub note_some : get_or own index 0 ≢ 0 → 1 ≤ note_of notes f
      note_some before = omega (arith, note_here, count_set own index 0 (omega (arith, long)), one_for_some (get_or own index 0) before)

      -- 0 is written over another word
      pub counted_less : (count : ℕ) → get_or own index 0 ≢ 0 → count + 1 ≡ note_of notes f
          → IsCounted (finite.insert store f (set own index 0)) (finite.insert notes f count)
      counted_less count before is = counted_insert f (set own index 0) count
          (omega (arith, note_here, is, count_set own index 0 (omega (arith, long)), one_for_some (get_or own index 0) before))

    -- the note is 0 where all words are, and nowhere else
    pub clear_if_none : note_of notes f ≡ 0 → own ≡ zeros
    clear_if_none none = count_none own (sym note_here ∙ none) ∙ ap (λ n. replicate n 0) long

    pub some_if_counted : note_of notes f ≢ 0 → (i : ℕ) × (i < 512) × (get_or own i 0 ≢ 0)
    some_if_counted some = let is = count_some own (λ none. some (note_here ∙ none)) in (is.0, omega (arith, is.1, long), is.2)
