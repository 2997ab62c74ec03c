-- Tables of one entry: a walk through them, and the traversal.
use Rattle.std.proofs.Common.{◌≡◌, ◌≢◌, ℕ, zero, suc, ◌+◌, ◌<◌, true, false, List, [], ◌∷◌, ◌++◌, Some, None, get_or, set, replicate, slice_index, nat_eq}
use Rattle.std.proofs.Common.{flat_map, refl, ap, ◌∙◌, arith}
use Rattle.std.specs.FinMap as finite
use Rattle.std.specs.List.{enumerate_from, list_any}
use Rattle.std.proofs.lemmas.List.{get_or-set_same, get_or-set_other, append-nil, length-replicate}
use Rattle.vs_types.specs.Depth.{index_at}
use Rattle.vs_types.specs.Entry.{meaning}
use Rattle.vs_types.specs.declared.addresses.depth.Depth.{Depth}
use Rattle.vs_types.specs.declared.addresses.page.Rights.{Rights}
use Rattle.vs_types.specs.declared.entries.entry.Meaning.{Meaning}
use Rattle.vs_types.specs.declared.entries.entry.Meaning.TheVariants as entry
use Rattle.vs_walk.specs.Memory.{Memory}
use Rattle.vs_walk.specs.Walk.{walk_entry, walk_from}
use Rattle.vs_walk.specs.Traversal.{Visit, OfFrame, ReachedTable, entry_visits, words_visits, table_visits, reached, first_fault_after}
use Rattle.vs_walk.specs.Examples.{one_word, no_words}
use Rattle.vs_walk.specs.declared.walk.Walk.TheVariants.{NotMapped}
use Rattle.vs_walk.specs.declared.walk.WalkFault.TheVariants.{Missing, Shared}
use Rattle.vs_walk.proofs.Walks.{walk_at}

word_there : (index word : ℕ) → index < 512 → slice_index (one_word index word) index ≡ word
unfolding one_word
word_there index word lt = get_or-set_same (replicate 512 0) index word 0 (omega (arith, length-replicate {A = ℕ} 512 0))

zero_in : (n k : ℕ) → get_or {A = ℕ} (replicate n 0) k 0 ≡ 0
zero_in (suc n) (suc k) = zero_in n k
zero_in _ _ = refl

zero_elsewhere : (index word k : ℕ) → k ≢ index → slice_index (one_word index word) k ≡ 0
unfolding one_word
zero_elsewhere index word k ne = get_or-set_other (replicate 512 0) index k word 0 ne ∙ zero_in 512 k

-- the walk at the entry
pub at_word : (memory : Memory) (below number : ℕ) (rights : Rights) (address index word : ℕ) (found : Meaning)
    → finite.get memory number ≡ Some (one_word index word) → index < 512 → index_at (suc below) address ≡ index → meaning (suc below) word ≡ found
    → walk_from memory (suc below) number rights address ≡ walk_entry (suc below) rights address (λ next own. walk_from memory below next own address) found
at_word memory below number rights address index word found is lt place means =
    walk_at memory below number rights address (one_word index word) found is
    (ap (meaning (suc below)) (ap (slice_index (one_word index word)) place ∙ word_there index word lt) ∙ means)

-- the walk beside it
pub beside_word : (memory : Memory) (below number : ℕ) (rights : Rights) (address index word : ℕ) → finite.get memory number ≡ Some (one_word index word)
    → index_at (suc below) address ≢ index → walk_from memory (suc below) number rights address ≡ NotMapped
beside_word memory below number rights address index word is place =
    walk_at memory below number rights address (one_word index word) entry.Absent is (ap (meaning (suc below)) (zero_elsewhere index word _ place))

-- ---- traversal

still : (f : ℕ × ℕ → List Visit) (n k : ℕ) → ((k : ℕ) → f (k, 0) ≡ []) → flat_map f (enumerate_from k (replicate n 0)) ≡ []
still f zero k none = refl
still f (suc n) k none = ap (λ ms. ms ++ flat_map f (enumerate_from (k + 1) (replicate n 0))) (none k) ∙ still f n (k + 1) none

one_visits : (f : ℕ × ℕ → List Visit) (n k index word : ℕ) → ((k : ℕ) → f (k, 0) ≡ []) → index < n
    → flat_map f (enumerate_from k (set (replicate n 0) index word)) ≡ f (k + index, word)
one_visits f zero k index word none lt = absurd (omega arith)
one_visits f (suc n) k zero word none lt =
    ap (λ ms. f (k, word) ++ ms) (still f n (k + 1) none) ∙ append-nil (f (k, word)) ∙ ap (λ i. f (i, word)) (omega arith)
one_visits f (suc n) k (suc index) word none lt =
    ap (λ ms. ms ++ flat_map f (enumerate_from (k + 1) (set (replicate n 0) index word))) (none k)
    ∙ one_visits f n (k + 1) index word none (omega arith) ∙ ap (λ i. f (i, word)) (omega arith)

pub visits_of_word : (depth : Depth) (memory : Memory) (level index word : ℕ) (table : ReachedTable) (found : Meaning)
    → finite.get memory table.number ≡ Some (one_word index word) → index < 512 → meaning (suc level) word ≡ found
    → table_visits depth memory (suc level) table ≡ OfFrame table.number ∷ entry_visits depth (suc level) table index
    (λ next. table_visits depth memory level next) found
unfolding table_visits one_word
visits_of_word depth memory level index word table found is lt means =
    let f : ℕ × ℕ → List Visit = λ place. entry_visits depth (suc level) table place.0 (λ next. table_visits depth memory level next)
    (meaning (suc level) place.1) in
    ap (λ words. OfFrame table.number ∷ words_visits words (λ words. flat_map f (enumerate_from 0 words))) is
    ∙ ap (λ ms. OfFrame table.number ∷ ms) (one_visits f 512 0 index word (λ k. refl) lt
    ∙ ap (λ i. f (i, word)) (omega arith)
    ∙ ap (λ m. entry_visits depth (suc level) table index (λ next. table_visits depth memory level next) m) means)

pub visits_of_nothing : (depth : Depth) (memory : Memory) (level : ℕ) (table : ReachedTable) → finite.get memory table.number ≡ Some no_words
    → table_visits depth memory (suc level) table ≡ OfFrame table.number ∷ []
unfolding table_visits no_words
visits_of_nothing depth memory level table is =
    let f : ℕ × ℕ → List Visit = λ place. entry_visits depth (suc level) table place.0 (λ next. table_visits depth memory level next)
    (meaning (suc level) place.1) in
    ap (λ words. OfFrame table.number ∷ words_visits words (λ words. flat_map f (enumerate_from 0 words))) is
    ∙ ap (λ ms. OfFrame table.number ∷ ms) (still f 512 0 (λ k. refl))

-- ---- the first fault

pub fine : (memory : Memory) (earlier later : List Visit) (number : ℕ) (words : List ℕ) → finite.get memory number ≡ Some words
    → list_any (nat_eq number) (reached earlier) ≡ false → first_fault_after memory earlier (OfFrame number ∷ later) ≡ first_fault_after memory
    (earlier ++ OfFrame number ∷ []) later
fine memory earlier later number words is new = rw (is, new) refl

pub shared : (memory : Memory) (earlier later : List Visit) (number : ℕ) (words : List ℕ) → finite.get memory number ≡ Some words
    → list_any (nat_eq number) (reached earlier) ≡ true → first_fault_after memory earlier (OfFrame number ∷ later) ≡ Some (Shared number)
shared memory earlier later number words is old = rw (is, old) refl

pub missing : (memory : Memory) (earlier later : List Visit) (number : ℕ) → finite.get memory number ≡ None
    → first_fault_after memory earlier (OfFrame number ∷ later) ≡ Some (Missing number)
missing memory earlier later number is = rw is refl
