-- A text is cut at the first separator.
use Rattle.std.proofs.Common.{◌≡◌, ℕ, ◌+◌, ◌<◌, ◌==◌, Bool, true, false, List, [], ◌∷◌, ◌++◌, length, take, drop, get_or, arith, ap, refl, subst, sym, ◌∙◌}
use Rattle.std.proofs.Common.{eq-eqb}
use Rattle.std.proofs.lemmas.List.{get_or_default}
use Rattle.std.specs.List.{onto_first, position_or_len, AllByRecursion}
use Rattle.std.proofs.lemmas.List.Splits.{slice_split-cons_no, slice_split_first, slice_split_none}
use Rattle.std.proofs.lemmas.List.Sums.{position_or_len_is}
use Rattle.std.proofs.lemmas.Bool.Decides.{nat_tests}
use Rattle.vs_text.specs.Words.{parts, space, words}

other : (byte separator : ℕ) → (byte ≡ separator → ⊥) → (byte == separator) ≡ false
other byte separator h = grind (arith, nat_tests)

pub same : (byte separator : ℕ) → (byte == separator) ≡ true → byte ≡ separator
same byte separator h = grind (arith, nat_tests)

pub cut_at : (separator : ℕ) (text : List ℕ) (i : ℕ) → i < length text → ((k : ℕ) → k < i → get_or text k 0 ≡ separator → ⊥) → get_or text i 0 ≡ separator
    → parts separator text ≡ take i text ∷ parts separator (drop (i + 1) text)
cut_at separator text i within before here =
    let p : ℕ → Bool = λ byte. byte == separator in
    let first : position_or_len p text ≡ i =
    position_or_len_is p text i 0 (omega arith) (λ k below. other (get_or text k 0) separator (before k below))
    (λ _. eq-eqb (get_or text i 0) separator here) in
    let cut = slice_split_first p text 0 (subst (λ j. j < length text) (sym first) within) in
    subst (λ j. parts separator text ≡ take j text ∷ parts separator (drop (j + 1) text)) first cut

pub uncut : (separator : ℕ) (text : List ℕ) → ((k : ℕ) → k < length text → get_or text k 0 ≡ separator → ⊥) → parts separator text ≡ text ∷ []
uncut separator text none = slice_split_none (λ byte. byte == separator) text
    (λ k d below. other (get_or text k d) separator (λ same. none k below (get_or_default text k 0 d below ∙ same)))

-- a word has no space
abbrev pub HasNoSpace : List ℕ → Type 0
HasNoSpace word = AllByRecursion (λ byte. (byte == 32) ≡ false) word

-- a word before a space, and one that is the last
pub first_word : (word rest : List ℕ) → HasNoSpace word → words (word ++ (space ++ rest)) ≡ word ∷ words rest
first_word [] rest none = refl
first_word (c ∷ word) rest none =
    slice_split-cons_no (λ byte. byte == 32) c (word ++ (space ++ rest)) none.0 ∙ ap (onto_first c) (first_word word rest none.1)

pub last_word : (word : List ℕ) → HasNoSpace word → words word ≡ word ∷ []
last_word [] none = refl
last_word (c ∷ word) none = slice_split-cons_no (λ byte. byte == 32) c word none.0 ∙ ap (onto_first c) (last_word word none.1)
