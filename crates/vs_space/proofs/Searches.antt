-- The first page below a table, entry by entry.
use Rattle.std.proofs.Common.{◌≡◌, ◌≢◌, ℕ, suc, ◌+◌, ◌-◌, ◌*◌, ◌%◌, ◌^◌, ◌<◌, ◌≤◌, Some, ⊎_elim, refl, sym, ap, subst, ◌∙◌, arith}
use Rattle.std.specs.Prelude.{IsSome, slice_index}
use Rattle.std.proofs.lemmas.Bool.{cases_lt}
use Rattle.std.specs.FinMap as finite
use Rattle.vs_types.specs.Depth.{levels, table_bytes, index_at, IsCanonical}
use Rattle.vs_types.specs.declared.addresses.depth.Depth.{Depth}
use Rattle.vs_types.specs.declared.addresses.page.Rights.{Rights}
use Rattle.vs_types.specs.declared.entries.entry.Meaning.{Meaning}
use Rattle.vs_types.specs.declared.entries.entry.Meaning.TheVariants as entry
use Rattle.vs_walk.specs.Memory.{Memory}
use Rattle.vs_walk.specs.Walk.{walk}
use Rattle.vs_walk.specs.declared.walk.Walk.TheVariants.{NotMapped, Reserved}
use Rattle.vs_space.specs.Path.{found_at, entry_in, IsFirstPresent, table_in, table_at, SamePath}
use Rattle.vs_space.specs.Tree.{IsTree, IsFilled}
use Rattle.vs_space.specs.inside.Grow.{IsBelowRoot, IsLeastBase}
use Rattle.vs_space.proofs.Paths.{table_below, same_table, walk_absent, walk_reserved, words_found}
use Rattle.vs_space.proofs.Meets.{never_table}
use Rattle.vs_space.proofs.Prunes.{found_entry}
use Rattle.vs_space.proofs.Stretches as stretch

-- a table on the path down: it begins at the base, and nothing is mapped from the start up to there
pub record IsSearching (depth : Depth) (m : Memory) (root start from level number base : ℕ) : Type 0 where
  pub canonical : IsCanonical depth base
  pub from_start : start ≤ base
  pub same_path : SamePath (levels depth) (suc from) start base
  pub before : (b : ℕ) → IsCanonical depth b → start ≤ b → b < base → walk depth m root b ≡ NotMapped
  pub some : 1 ≤ level
  pub within : level ≤ from
  pub below : level < levels depth
  pub aligned : base % table_bytes level ≡ 0
  pub reached : table_at (levels depth) m root level base ≡ Some number

pub searching_start : {depth : Depth} {m : Memory} {root start from number : ℕ} → IsBelowRoot depth m root start from number
    → IsSearching depth m root start from from number start
searching_start start = record {
  canonical = start.canonical;
  from_start = omega arith;
  same_path = λ i over under. refl;
  before = λ b is_b lo hi. absurd (omega arith);
  some = start.some;
  within = omega arith;
  below = start.below;
  aligned = start.aligned;
  reached = start.reached;
}

module _ {depth : Depth} {m : Memory} {root start from level number base : ℕ} (tree : IsTree (levels depth) m root)
    (search : IsSearching depth m root start from level number base) where
  pub used : IsSome (finite.get m number)
  used = tree.in_use level base number search.reached

  -- an address of the stretch whose entry is absent
  quiet : (b : ℕ) → SamePath (levels depth) (suc level) base b → entry_in level m number (index_at level b) ≡ Some entry.Absent
      → walk depth m root b ≡ NotMapped
  quiet b same absent =
      walk_absent tree b level number search.some
      (sym (same_table (levels depth) root m level base b same) ∙ search.reached) (found_entry level m number b ∙ absent)

  -- the table has an entry that is present
  pub not_empty : IsFilled depth m root → ((i : ℕ) → i < 512 → entry_in level m number i ≡ Some entry.Absent) → ⊥
  not_empty filled empty = filled.filled level base number search.below search.reached
      (λ b is_b same. quiet b same (empty (index_at level b) (index_low b))) where
        index_low : (b : ℕ) → index_at level b < 512
        index_low b = omega arith

  module _ {index : ℕ} (first : IsFirstPresent level m number index) {next : ℕ} (next_is : next ≡ base + index * 2 ^ (3 + 9 * level)) where
    pub next_index : index_at level next ≡ index
    next_index = stretch.next_index depth level base index next search.canonical search.below search.aligned first.within next_is

    pub next_path : SamePath (levels depth) (suc level) base next
    next_path = stretch.next_path depth level base index next search.canonical search.below search.aligned first.within next_is

    pub next_canonical : IsCanonical depth next
    next_canonical = stretch.next_canonical depth level base index next search.canonical search.below search.aligned first.within next_is

    pub next_reached : table_at (levels depth) m root level next ≡ Some number
    next_reached = sym (same_table (levels depth) root m level base next next_path) ∙ search.reached

    pub next_aligned : next % 2 ^ (3 + 9 * level) ≡ 0
    next_aligned = stretch.next_aligned depth level base index next search.canonical search.below search.aligned first.within next_is

    from_base : base ≤ next
    from_base = omega (arith, next_is)

    -- nothing is mapped before the first entry that is present
    pub next_before : (b : ℕ) → IsCanonical depth b → start ≤ b → b < next → walk depth m root b ≡ NotMapped
    next_before b is_b low high = ⊎_elim
        (λ (earlier : b < base). search.before b is_b low earlier)
        (λ (later : base ≤ b).
        let there = stretch.earlier depth level base index next search.canonical search.below search.aligned first.within next_is b later high in
        quiet b there.1 (first.before (index_at level b) there.0))
        (cases_lt b base)

    pub search_on : {found : ℕ} {own : Rights} → found_at level m number next ≡ Some (entry.Table found own) → 1 < level
        → IsSearching depth m root start from (level - 1) found next
    search_on is deep = record {
      canonical = next_canonical;
      from_start = omega (arith, search.from_start, from_base);
      same_path = λ i over under. search.same_path i over under ∙ next_path i (omega (arith, over, search.within)) under;
      before = next_before;
      some = omega arith;
      within = omega (arith, search.within);
      below = omega (arith, search.below);
      aligned = let e : 12 + 9 * (level - 1) ≡ 3 + 9 * level = omega arith in subst (λ n. next % 2 ^ n ≡ 0) (sym e) next_aligned;
      reached = table_below (levels depth) root m level (level - 1) next number (omega (arith, search.some)) next_reached ∙ ap table_in is;
    }

    search_ends : {phys : ℕ} {own : Rights} → found_at level m number next ≡ Some (entry.Leaf phys own) → IsLeastBase depth m root start from next
    search_ends {phys} {own} is = record {
      canonical = next_canonical;
      from_start = omega (arith, search.from_start, from_base);
      same_path = λ i over under. search.same_path i over under ∙ next_path i (omega (arith, over, search.within)) under;
      before = next_before;
      leaf = record {
        level = level;
        number = number;
        phys = phys;
        own = own;
        some = search.some;
        below = omega (arith, search.below);
        reached = next_reached;
        found = is;
        begins = next_aligned;
      };
    }

    -- the entry is present: it leads to a table, or is a leaf
    pub present_ends : ((b : ℕ) → IsCanonical depth b → walk depth m root b ≢ Reserved) → (e : Meaning) → found_at level m number next ≡ Some e
        → ((n : ℕ) (own : Rights) → e ≢ entry.Table n own) → IsLeastBase depth m root start from next
    present_ends faultless entry.Absent is other =
        absurd (first.present (subst (λ i. entry_in level m number i ≡ Some entry.Absent) next_index (sym (found_entry level m number next) ∙ is)))
    present_ends faultless entry.Reserved is other =
        absurd (faultless next next_canonical (walk_reserved tree next level number search.some next_reached is))
    present_ends faultless (entry.Leaf phys own) is other = search_ends is
    present_ends faultless (entry.Table n own) is other = absurd (other n own refl)

-- an entry that leads to a table is above the lowest level
pub deep_table : (level : ℕ) (m : Memory) (n a next : ℕ) (own : Rights) → 1 ≤ level → found_at level m n a ≡ Some (entry.Table next own) → 1 < level
deep_table level m n a next own some is = ⊎_elim
    (λ (deep : 1 < level). deep)
    (λ (le : level ≤ 1).
    let one : level ≡ 1 = omega arith in
    let words = words_found 1 m n a (entry.Table next own) (subst (λ l. found_at l m n a ≡ Some (entry.Table next own)) one is) in
    absurd (never_table (slice_index words.0 (index_at 1 a)) next own words.2))
    (cases_lt 1 level)
