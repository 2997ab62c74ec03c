-- The pages that are found rise: each ends at the base of the next or before. They are well formed, and no two cover one address.
use Rattle.std.proofs.Common.{◌≡◌, ℕ, zero, suc, ◌+◌, ◌*◌, ◌%◌, ◌^◌, ◌<◌, ◌≤◌, List, [], ◌∷◌, Some, None, length, get_or, flat_map, refl, sym, ap, subst, ◌∙◌}
use Rattle.std.proofs.Common.{⊎_elim, arith, Contains, IsTrue}
use Rattle.std.specs.Prelude.{All}
use Rattle.std.specs.FinMap as finite
use Rattle.std.specs.List.{AllPairs, enumerate_from}
use Rattle.std.proofs.lemmas.Bool.{cases_order}
use Rattle.std.proofs.lemmas.List.{get_or_default}
use Rattle.std.proofs.lemmas.List.Elements.{All-weaker, filter_map-append}
use Rattle.vs_types.specs.Depth.{levels, entry_bytes, table_bytes, IsCanonical}
use Rattle.vs_types.specs.Page.{bytes_of, end_of, covers, IsPageBelow}
use Rattle.vs_types.specs.Entry.{meaning}
use Rattle.vs_types.specs.declared.addresses.depth.Depth.{Depth}
use Rattle.vs_types.specs.declared.addresses.page.Page.{Page}
use Rattle.vs_types.specs.declared.entries.entry.Meaning.{Meaning}
use Rattle.vs_types.specs.declared.entries.entry.Meaning.TheVariants as entry
use Rattle.vs_types.proofs.Pages.{bytes_positive, covers_means}
use Rattle.vs_walk.specs.Memory.{Memory, AreWhole}
use Rattle.vs_walk.specs.Walk.{all_rights}
use Rattle.vs_walk.specs.Traversal.{Visit, ReachedTable, canonical_from, entry_visits, table_visits, traversal, found_by, found}
use Rattle.vs_walk.proofs.LawsOfLists.{all_pairs_nil, all_pairs_one, all_pairs_append, all_at_words}
use Rattle.vs_walk.proofs.TranslatedBits.{addresses_climb, bits_canonical, from_bits_aligned}
use Rattle.vs_walk.proofs.LawsOfVisits.{at_word_met, table_met, missing_met, nothing_met, OfFound, all_found}
use Rattle.vs_walk.proofs.LawsOfFoundPages.{LiesIn, wider, IsPlaced, place_below, EntryLies, table_in, word_in}

-- one page ends at the base of another or before
abbrev pub Before : Page → Page → Type 0
Before p q = end_of p ≤ q.base

pub lies_before : {depth : Depth} {p q : Page} (low middle high : ℕ) → LiesIn depth low middle p → LiesIn depth middle high q → Before p q
lies_before {depth} {p} {q} low middle high left right =
    ends p.base (bytes_of p.size) q.base (canonical_from depth left.bits) (canonical_from depth right.bits) left.begins right.begins
    (addresses_climb depth left.bits (bytes_of p.size) right.bits (chain (left.bits + bytes_of p.size) middle right.bits left.below right.above))
  where
    chain : (a b c : ℕ) → a ≤ b → b ≤ c → a ≤ c
    chain a b c p q = omega arith

    ends : (base bytes next from to : ℕ) → base ≡ from → next ≡ to → from + bytes ≤ to → base + bytes ≤ next
    ends base bytes next from to is other le = omega arith

all_before : {depth : Depth} (low middle high : ℕ) (ps qs : List Page) → All (LiesIn depth low middle) ps → All (LiesIn depth middle high) qs
    → All (λ p. All (Before p) qs) ps
all_before low middle high ps qs left right i d lt j e within = lies_before low middle high (left i d lt) (right j e within)

-- what is found from some word of a table on
module _ (depth : Depth) (memory : Memory) (whole : AreWhole memory) (level : ℕ) (table : ReachedTable) (placed : IsPlaced (suc level) table) where
  abbrev met : ℕ × ℕ → List Visit
  met = at_word_met depth memory level table

  abbrev start_of : ℕ → ℕ
  start_of index = table.start + index * entry_bytes (suc level)

  starts_rise : (i j : ℕ) → i ≤ j → start_of i ≤ start_of j
  starts_rise i j le = grind arith

  start_next : (i : ℕ) → start_of i + entry_bytes (suc level) ≡ start_of (i + 1)
  start_next i = omega arith

  one_in : (from high word : ℕ) → start_of (from + 1) ≤ high → All (LiesIn depth (start_of from) high) (found (met (from, word)))
  one_in from high word le = all_found _ (met (from, word)) (All-weaker (EntryLies depth level table from) _
      (wider depth _ _ (start_of from) high (omega arith) (subst (λ n. n ≤ high) (sym (start_next from)) le)) _
      (word_in depth memory whole level table from word placed))

  rest_in : (words : List ℕ) (from : ℕ) → All (LiesIn depth (start_of from) (start_of (from + length words))) (found (flat_map met (enumerate_from from words)))
  rest_in words from = all_found _ (flat_map met (enumerate_from from words))
      (all_at_words met (OfFound (LiesIn depth (start_of from) (start_of (from + length words)))) words from (λ k lt.
      All-weaker (EntryLies depth level table (from + k)) _
      (wider depth _ _ (start_of from) (start_of (from + length words)) (starts_rise from (from + k) (omega arith))
      (subst (λ n. n ≤ start_of (from + length words)) (sym (start_next (from + k))) (starts_rise (from + k + 1) (from + length words) (omega arith))))
      _ (word_in depth memory whole level table (from + k) (get_or words k 0) placed)))

  words_rise : (words : List ℕ) (from : ℕ) → ((index word : ℕ) → AllPairs Before (found (met (index, word))))
      → AllPairs Before (found (flat_map met (enumerate_from from words)))
  words_rise [] from each = all_pairs_nil Before
  words_rise (word ∷ words) from each =
      subst (AllPairs Before) (sym (filter_map-append found_by (met (from, word)) (flat_map met (enumerate_from (from + 1) words))))
      (all_pairs_append Before (found (met (from, word))) (found (flat_map met (enumerate_from (from + 1) words)))
      (each from word)
      (words_rise words (from + 1) each)
      (all_before (start_of from) (start_of (from + 1)) (start_of (from + 1 + length words)) (found (met (from, word)))
      (found (flat_map met (enumerate_from (from + 1) words)))
      (one_in from (start_of (from + 1)) word (omega arith))
      (rest_in words (from + 1))))

entry_rises : (depth : Depth) (memory : Memory) (level : ℕ) (table : ReachedTable) (index word : ℕ) (means : Meaning) → IsPlaced (suc level) table
    → ((next : ReachedTable) → IsPlaced level next → AllPairs Before (found (table_visits depth memory level next)))
    → AllPairs Before (found (entry_visits depth (suc level) table index (λ next. table_visits depth memory level next) means))
entry_rises depth memory level table index word (entry.Leaf phys own) placed lower = all_pairs_one Before _
entry_rises depth memory level table index word (entry.Table number own) placed lower = lower _ (place_below level table index number own placed)
entry_rises depth memory level table index word _ placed lower = all_pairs_nil Before

-- the pages that are found in a table rise
pub table_rises : (depth : Depth) (memory : Memory) → AreWhole memory → (level : ℕ) (table : ReachedTable) → IsPlaced level table
    → AllPairs Before (found (table_visits depth memory level table))
table_rises depth memory whole zero table placed = subst (λ ms. AllPairs Before (found ms)) (sym (nothing_met depth memory table)) (all_pairs_nil Before)
table_rises depth memory whole (suc level) table placed =
    elim (finite.get memory table.number) as (λ o. finite.get memory table.number ≡ o → AllPairs Before (found (table_visits depth memory (suc level) table))) [
      | None ↦ λ is. subst (λ ms. AllPairs Before (found ms)) (sym (missing_met depth memory level table is)) (all_pairs_nil Before)
      | Some words ↦ λ is. subst (λ ms. AllPairs Before (found ms)) (sym (table_met depth memory level table words is))
          (words_rise depth memory whole level table placed words 0
          (λ index word. entry_rises depth memory level table index word (meaning (suc level) word) placed
          (λ next. table_rises depth memory whole level next)))
    ] refl

-- ---- from the root on

pub root_placed : (level root : ℕ) → IsPlaced level (record { number = root; start = 0; rights = all_rights })
root_placed level root = record { times = 0; at = omega arith }

pub pages_rise : (depth : Depth) (memory : Memory) (root : ℕ) → AreWhole memory → AllPairs Before (found (traversal depth memory root))
pages_rise depth memory root whole = table_rises depth memory whole (levels depth) _ (root_placed (levels depth) root)

pub pages_lie : (depth : Depth) (memory : Memory) (root : ℕ) → AreWhole memory
    → All (LiesIn depth 0 (table_bytes (levels depth))) (found (traversal depth memory root))
pages_lie depth memory root whole =
    subst (λ n. All (LiesIn depth 0 n) (found (traversal depth memory root))) (omega arith)
    (all_found (LiesIn depth 0 (0 + table_bytes (levels depth))) (traversal depth memory root)
    (table_in depth memory whole (levels depth) _ (root_placed (levels depth) root)))

-- a page that lies in what the root covers is well formed
pub lies_page : {depth : Depth} {page : Page} → LiesIn depth 0 (table_bytes (levels depth)) page → IsPageBelow (2 ^ 52) depth page
lies_page {depth} {page} lies = record {
  canonical = subst (IsCanonical depth) (sym lies.begins) (bits_canonical depth lies.bits
      (before lies.bits (bytes_of page.size) (table_bytes (levels depth)) (bytes_positive page.size) lies.below));
  aligned = ap (λ n. n % bytes_of page.size) lies.begins ∙ from_bits_aligned depth page.size lies.bits lies.aligned;
  phys_aligned = lies.phys_aligned;
  phys_range = lies.phys_range;
}
  where
    before : (a b c : ℕ) → 0 < b → a + b ≤ c → a < c
    before a b c some le = omega arith

pub pages_formed : (depth : Depth) (memory : Memory) (root : ℕ) → AreWhole memory → All (IsPageBelow (2 ^ 52) depth) (found (traversal depth memory root))
pages_formed depth memory root whole = All-weaker _ (IsPageBelow (2 ^ 52) depth) (λ page lies. lies_page lies) (found (traversal depth memory root))
    (pages_lie depth memory root whole)

-- ---- rising pages

pub bases_rise : (ps : List Page) → AllPairs Before ps → AllPairs (λ p q. p.base < q.base) ps
bases_rise ps rise i j d lt within = further (get_or ps i d) (get_or ps j d) (rise i j d lt within) where
  further : (p q : Page) → Before p q → p.base < q.base
  further p q le = let some = bytes_positive p.size in omega arith

-- no two of them cover one address
pub rising_apart : (ps : List Page) → AllPairs Before ps → (p q : Page) (address : ℕ) → Contains ps p → Contains ps q → IsTrue (covers p address)
    → IsTrue (covers q address) → p ≡ q
rising_apart ps rise p q address in_p in_q at_p at_q =
    ⊎_elim
    (λ same. sym in_p.2 ∙ subst (λ k. get_or ps in_p.0 p ≡ get_or ps k p) same refl ∙ default in_q.0 p q in_q.1 ∙ in_q.2)
    (λ other. ⊎_elim
    (λ less. absurd (apart p q (subst (λ x. Before p x) (default in_q.0 p q in_q.1 ∙ in_q.2)
    (subst (λ x. Before x (get_or ps in_q.0 p)) in_p.2 (rise in_p.0 in_q.0 p less in_q.1))) at_p at_q))
    (λ more. absurd (apart q p (subst (λ x. Before q x) (default in_p.0 q p in_p.1 ∙ in_p.2)
    (subst (λ x. Before x (get_or ps in_p.0 q)) in_q.2 (rise in_q.0 in_p.0 q more in_p.1))) at_q at_p))
    other)
    (cases_order in_p.0 in_q.0)
  where
    default : (k : ℕ) (d e : Page) → k < length ps → get_or ps k d ≡ get_or ps k e
    default k d e lt = get_or_default ps k d e lt

    apart : (p q : Page) → Before p q → IsTrue (covers p address) → IsTrue (covers q address) → ⊥
    apart p q le at_p at_q = let left = (covers_means p address).0 at_p in let right = (covers_means q address).0 at_q in omega arith
