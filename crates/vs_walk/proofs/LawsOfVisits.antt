-- What is met in a table, entry by entry; and what holds of each thing that is met.
use Rattle.std.proofs.Common.{◌≡◌, ℕ, zero, suc, ◌<◌, ◌≤◌, List, [], ◌∷◌, Some, None, length, get_or, flat_map, refl, sym, ap, subst, ⊎_elim, arith, Contains}
use Rattle.std.specs.Prelude.{All, ⊤}
use Rattle.std.specs.FinMap as finite
use Rattle.std.specs.List.{enumerate_from}
use Rattle.std.proofs.lemmas.List.{get_or_past}
use Rattle.std.proofs.lemmas.List.Elements.{All-nil, All-cons, All-head, All-tail, All-contains, Contains-get_or}
use Rattle.vs_types.specs.Entry.{meaning}
use Rattle.vs_types.specs.declared.addresses.depth.Depth.{Depth}
use Rattle.vs_types.specs.declared.addresses.page.Page.{Page}
use Rattle.vs_types.specs.declared.entries.entry.Meaning.TheVariants as entry
use Rattle.vs_types.proofs.Lists.{Contains-head, Contains-tail, Contains-cases, not_in_nil}
use Rattle.vs_walk.specs.Memory.{Memory}
use Rattle.vs_walk.specs.Traversal.{Visit, OfFrame, OfLeaf, OfReservedBit, ReachedTable, entry_visits, words_visits, table_visits, reached, found}
use Rattle.vs_walk.proofs.LawsOfLists.{contained_at_word}

-- what is met at a word of a table, by its index
abbrev pub at_word_met : Depth → Memory → ℕ → ReachedTable → ℕ × ℕ → List Visit
at_word_met depth memory level table place = entry_visits depth (suc level) table place.0 (λ next. table_visits depth memory level next)
    (meaning (suc level) place.1)

-- what is met in a table that there is
pub table_met : (depth : Depth) (memory : Memory) (level : ℕ) (table : ReachedTable) (words : List ℕ) → finite.get memory table.number ≡ Some words
    → table_visits depth memory (suc level) table ≡ OfFrame table.number ∷ flat_map (at_word_met depth memory level table) (enumerate_from 0 words)
unfolding table_visits
table_met depth memory level table words is =
    ap (λ found. OfFrame table.number ∷ words_visits found (λ words. flat_map (at_word_met depth memory level table) (enumerate_from 0 words))) is

-- in one that there is not
pub missing_met : (depth : Depth) (memory : Memory) (level : ℕ) (table : ReachedTable) → finite.get memory table.number ≡ None
    → table_visits depth memory (suc level) table ≡ OfFrame table.number ∷ []
unfolding table_visits
missing_met depth memory level table is =
    ap (λ found. OfFrame table.number ∷ words_visits found (λ words. flat_map (at_word_met depth memory level table) (enumerate_from 0 words))) is

-- and below the lowest
pub nothing_met : (depth : Depth) (memory : Memory) (table : ReachedTable) → table_visits depth memory zero table ≡ []
unfolding table_visits
nothing_met depth memory table = refl

-- the first that is met is the table
pub first_met : (depth : Depth) (memory : Memory) (level : ℕ) (table : ReachedTable)
    → (later : List Visit) × (table_visits depth memory (suc level) table ≡ OfFrame table.number ∷ later)
unfolding table_visits
first_met depth memory level table = (_, refl)

-- a word after the last means what 0 means
pub means_absent : (level : ℕ) (words : List ℕ) (k : ℕ) → length words ≤ k → meaning level (get_or words k 0) ≡ entry.Absent
means_absent level words k past = ap (meaning level) (get_or_past words k 0 past)

-- what is met at one word is met in the table
pub word_is_met : (depth : Depth) (memory : Memory) (level : ℕ) (table : ReachedTable) (words : List ℕ) (k : ℕ) (visit : Visit)
    → finite.get memory table.number ≡ Some words → k < length words → Contains (at_word_met depth memory level table (k, get_or words k 0)) visit
    → Contains (table_visits depth memory (suc level) table) visit
word_is_met depth memory level table words k visit is lt there =
    subst (λ ms. Contains ms visit) (sym (table_met depth memory level table words is))
    (Contains-tail (OfFrame table.number) (flat_map (at_word_met depth memory level table) (enumerate_from 0 words)) visit
    (contained_at_word (at_word_met depth memory level table) words 0 k visit lt
    (subst (λ i. Contains (at_word_met depth memory level table (i, get_or words k 0)) visit) (omega arith) there)))

-- what holds of all that is met in a table holds of all that is met at one word
pub all_at_one_word : (P : Visit → Type 0) (depth : Depth) (memory : Memory) (level : ℕ) (table : ReachedTable) (words : List ℕ) (k : ℕ)
    → finite.get memory table.number ≡ Some words → k < length words → All P (table_visits depth memory (suc level) table)
    → All P (at_word_met depth memory level table (k, get_or words k 0))
all_at_one_word P depth memory level table words k is lt all = λ j d within.
    All-contains P (table_visits depth memory (suc level) table) _ all
    (word_is_met depth memory level table words k _ is lt (Contains-get_or (at_word_met depth memory level table (k, get_or words k 0)) j d within))

-- ---- what holds of pages that are found, and of frames that are reached

abbrev pub OfFound : (Page → Type 0) → Visit → Type 0
OfFound P (OfLeaf page) = P page
OfFound P _ = ⊤

pub all_found : (P : Page → Type 0) (ms : List Visit) → All (OfFound P) ms → All P (found ms)
all_found P [] all = All-nil P
all_found P (OfFrame number ∷ ms) all = all_found P ms (All-tail (OfFound P) (OfFrame number) ms all)
all_found P (OfLeaf page ∷ ms) all = All-cons P page (found ms) (All-head (OfFound P) (OfLeaf page) ms all)
    (all_found P ms (All-tail (OfFound P) (OfLeaf page) ms all))
all_found P (OfReservedBit number index ∷ ms) all = all_found P ms (All-tail (OfFound P) (OfReservedBit number index) ms all)

pub reached_is_met : (ms : List Visit) (number : ℕ) → Contains (reached ms) number → Contains ms (OfFrame number)
reached_is_met [] number h = absurd (not_in_nil number h)
reached_is_met (OfFrame first ∷ ms) number h = ⊎_elim
    (λ same. subst (λ n. Contains (OfFrame first ∷ ms) (OfFrame n)) same (Contains-head (OfFrame first) ms))
    (λ later. Contains-tail (OfFrame first) ms (OfFrame number) (reached_is_met ms number later))
    (Contains-cases first (reached ms) number h)
reached_is_met (OfLeaf page ∷ ms) number h = Contains-tail (OfLeaf page) ms (OfFrame number) (reached_is_met ms number h)
reached_is_met (OfReservedBit frame index ∷ ms) number h = Contains-tail (OfReservedBit frame index) ms (OfFrame number) (reached_is_met ms number h)

abbrev reached_or_none : List Visit → Visit → Type 0
reached_or_none ms (OfFrame number) = Contains (reached ms) number
reached_or_none ms _ = ⊤

met_is_reached_or_none : (ms : List Visit) (visit : Visit) → Contains ms visit → reached_or_none ms visit
met_is_reached_or_none [] visit h = absurd (not_in_nil visit h)
met_is_reached_or_none (first ∷ ms) visit h = ⊎_elim (λ same. subst (reached_or_none (first ∷ ms)) same (head first))
    (λ later. tail first visit (met_is_reached_or_none ms visit later)) (Contains-cases first ms visit h) where
      head : (first : Visit) → reached_or_none (first ∷ ms) first
      head (OfFrame number) = Contains-head number (reached ms)
      head (OfLeaf page) = tt
      head (OfReservedBit number index) = tt

      tail : (first visit : Visit) → reached_or_none ms visit → reached_or_none (first ∷ ms) visit
      tail (OfFrame other) (OfFrame number) is = Contains-tail other (reached ms) number is
      tail first (OfLeaf page) is = tt
      tail first (OfReservedBit number index) is = tt
      tail _ (OfFrame number) is = is

pub met_is_reached : (ms : List Visit) (number : ℕ) → Contains ms (OfFrame number) → Contains (reached ms) number
met_is_reached ms number h = met_is_reached_or_none ms (OfFrame number) h
