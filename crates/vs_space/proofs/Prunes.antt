-- Tables under which nothing is mapped are freed, one by one.
use Rattle.std.proofs.Common.{◌≡◌, ◌≢◌, ℕ, suc, ◌+◌, ◌-◌, ◌*◌, ◌/◌, ◌%◌, ◌^◌, ◌<◌, ◌≤◌, List, Option, Some, None, ⊎_elim, refl, sym, ap, subst, ◌∙◌, arith}
use lib.Pow.{shr-shr, shl-shr}
use Rattle.std.proofs.lemmas.Nat.{div-mul-add, mod-mul-add}
use Rattle.std.specs.Prelude.{IsSome, option_map, slice_index}
use Rattle.std.specs.FinMap as finite
use Rattle.vs_types.specs.Depth.{levels, index_at, IsCanonical}
use Rattle.vs_types.specs.Entry.{meaning}
use Rattle.vs_types.specs.declared.addresses.depth.Depth.{Depth}
use Rattle.vs_types.specs.declared.addresses.page.Rights.{Rights}
use Rattle.vs_types.specs.declared.addresses.page.Size.{Size}
use Rattle.vs_types.specs.declared.entries.entry.Meaning.{Meaning}
use Rattle.vs_types.specs.declared.entries.entry.Meaning.TheVariants as entry
use Rattle.vs_arena.specs.Store.{zeros}
use Rattle.vs_walk.specs.Memory.{Memory}
use Rattle.vs_walk.specs.Walk.{walk}
use Rattle.vs_walk.specs.declared.walk.Walk.TheVariants.{NotMapped, Mapped, Reserved}
use Rattle.vs_space.specs.Flags.{AddsNoFlags}
use Rattle.vs_space.specs.Footprint.{HasMoreOnPath}
use Rattle.vs_space.specs.Held.{word_at, with_word}
use Rattle.vs_space.specs.Path.{found_at, entry_in, IsFirstPresent, HasPresent, table_in, table_at, SamePath}
use Rattle.vs_space.specs.Tree.{IsTree, NothingUnder, AreWritten}
use Rattle.vs_space.specs.inside.Prune.{IsCut, IsPruned}
use Rattle.vs_space.proofs.Canonical.{half_same}
use Rattle.vs_types.proofs.Maps.{len-remove_used}
use Rattle.vs_space.proofs.Numbered.{whole-remove}
use Rattle.vs_space.proofs.Paths.{reached_within, table_below, none_past, same_table, found_same, walk_absent, walk_reserved, walk_leaf}
use Rattle.vs_space.proofs.Writes.{IsTreeAt, used_at, len_write, written_in_use, same_or_not, words_in}
use Rattle.vs_space.proofs.Trees.{but_alike, filled_up}
use Rattle.vs_space.proofs.Links.{found_in_zeros, tree_unlink, table_unlink, table_kept, walk_unlink_off, walk_unlink_on, found_unlinked}
use Rattle.vs_space.proofs.Reached.{reached_unlink, whole_write}
use Rattle.vs_space.proofs.Written.{written_at}
use Rattle.vs_space.proofs.Plain.{adds_then, adds_written, adds_given}
use Rattle.vs_space.proofs.Footprints.{more_then, more_unlinked}
use Rattle.vs_space.proofs.Descents.{entry_read}
use Rattle.vs_space.proofs.Regions.{stretch_same}

-- ---- entries by index

pub found_entry : (level : ℕ) (m : Memory) (n a : ℕ) → found_at level m n a ≡ entry_in level m n (index_at level a)
unfolding found_at entry_in
found_entry level m n a = refl

pub entry_word : (level : ℕ) (m : Memory) (n index word : ℕ) (e : Meaning) → word_at m n index ≡ Some word → e ≡ meaning level word
    → entry_in level m n index ≡ Some e
unfolding entry_in
entry_word level m n index word e got reads = ap (option_map (meaning level)) got ∙ ap Some (sym reads)

pub word_in : (m : Memory) (n index : ℕ) (words : List ℕ) → finite.get m n ≡ Some words → word_at m n index ≡ Some (slice_index words index)
unfolding word_at
word_in m n index words got = ap (option_map (λ (ws : List ℕ). slice_index ws index)) got

entry_some : (level : ℕ) (m : Memory) (n index : ℕ) → IsSome (finite.get m n) → (e : Meaning) × (entry_in level m n index ≡ Some e)
unfolding entry_in word_at
entry_some level m n index used = (
  _,
  ap (λ (o : Option (List ℕ)). option_map (meaning level) (option_map (λ words. slice_index words index) o))
      (words_in m n used),
)

pub first_here : (level : ℕ) (m : Memory) (n index word : ℕ) (e : Meaning) → index < 512 → ((i : ℕ) → i < index → entry_in level m n i ≡ Some entry.Absent)
    → word_at m n index ≡ Some word → e ≡ meaning level word → e ≢ entry.Absent → IsFirstPresent level m n index
first_here level m n index word e lt before got reads other = record {
  within = lt;
  present = λ absent. let is : Some e ≡ Some entry.Absent = sym (entry_word level m n index word e got reads) ∙ absent in other (cc);
  before = before;
}

mapped_apart : (phys : ℕ) (size : Size) (rights : Rights) → NotMapped ≡ Mapped phys size rights → ⊥
mapped_apart phys size rights e = cc

-- ---- an address with an index

pub canonical_stretch : (depth : Depth) (a b e : ℕ) → IsCanonical depth a → e ≤ 12 + 9 * levels depth - 1 → a / 2 ^ e ≡ b / 2 ^ e → IsCanonical depth b
canonical_stretch depth a b e is le same =
    let d = 12 + 9 * levels depth - 1 - e in
    let whole : e + d ≡ 12 + 9 * levels depth - 1 = omega arith in
    half_same depth a b is (ap (λ n. a / 2 ^ n) (sym whole) ∙ sym (shr-shr a e d) ∙ ap (λ x. x / 2 ^ d) same ∙ shr-shr b e d ∙ ap (λ n. b / 2 ^ n) whole)

-- the address with this index, in the table of a level on the path of a canonical address
pub address_with : (depth : Depth) (base level index : ℕ) → IsCanonical depth base → level < levels depth → index < 512
    → (b : ℕ) × IsCanonical depth b × SamePath (levels depth) (suc level) base b × (index_at level b ≡ index)
address_with depth base level index canonical below low =
    let e = 3 + 9 * level in
    let x = base / 2 ^ (e + 9) in
    let b = (x * 512 + index) * 2 ^ e in
    let quotient : b / 2 ^ e ≡ x * 512 + index = shl-shr (x * 512 + index) e in
    let high : b / 2 ^ (e + 9) ≡ x = sym (shr-shr b e 9) ∙ ap (λ y. y / 512) quotient ∙ div-mul-add x 512 index low in
    let exponent : 12 + 9 * level ≡ e + 9 = omega arith in (
      b,
      canonical_stretch depth base b (e + 9) canonical (omega arith) (sym high),
      stretch_same (levels depth) level base b (subst (λ n. base / 2 ^ n ≡ b / 2 ^ n) (sym exponent) (sym high)),
      ap (λ y. y % 512) quotient ∙ mod-mul-add x 512 index low,
    )

-- ---- where the path of an address ends

pub absent_under : (depth : Depth) {m : Memory} {root : ℕ} → IsTree (levels depth) m root → (base level n : ℕ) → 1 ≤ level
    → table_at (levels depth) m root level base ≡ Some n → found_at level m n base ≡ Some entry.Absent → NothingUnder depth m root level base
absent_under depth {m} {root} tree base level n some at absent = λ b canonical same.
    let le = reached_within (levels depth) root m level base n at in
    walk_absent tree b level n some
    (sym (same_table (levels depth) root m level base b (λ i from to. same i (omega arith) to)) ∙ at)
    (sym (found_same level m n base b (same level (omega arith) le)) ∙ absent)

under_longer : (depth : Depth) (m : Memory) (root base j level : ℕ) → level ≤ j → NothingUnder depth m root j base → NothingUnder depth m root level base
under_longer depth m root base j level le nothing = λ b canonical same. nothing b canonical (λ i from to. same i (omega arith) to)

-- the tables on the path of the address, while they are freed
pub record IsPruning (depth : Depth) (old m : Memory) (root base from level : ℕ) (path : List ℕ) : Type 0 where
  pub cut : IsCut depth m root base level path
  pub walks : (b : ℕ) → IsCanonical depth b → walk depth m root b ≡ walk depth old root b
  pub above : from ≤ level
  pub fewer : finite.len m + (level - from) ≡ finite.len old
  pub plain : AddsNoFlags old m
  pub less : HasMoreOnPath depth root base m old

module _ {depth : Depth} {m : Memory} {root base level : ℕ} {path : List ℕ} (cut : IsCut depth m root base level path) where
  here : IsTreeAt (levels depth) m root level base (slice_index path level)
  here = record { tree = cut.tree; whole = cut.whole; at = cut.reached level (omega arith) cut.below }

  nothing_past : NothingUnder depth m root level base
  nothing_past = absent_under depth cut.tree base level (slice_index path level) cut.some here.at cut.absent

  none_past_here : (j : ℕ) → j < level → table_at (levels depth) m root j base ≡ None
  none_past_here j lt =
      none_past (levels depth) root m (level - 1) j base (omega (arith, cut.below)) (omega arith)
      (table_below (levels depth) root m level (level - 1) base (slice_index path level) (omega (arith, cut.some)) here.at ∙ ap table_in cut.absent)

  -- a present entry has something mapped under its table
  pub something_here : IsCanonical depth base → ((b : ℕ) → IsCanonical depth b → walk depth m root b ≢ Reserved) → level < levels depth
      → HasPresent level m (slice_index path level) → NothingUnder depth m root (suc level) base → ⊥
  something_here canonical faultless below first nothing = by e.0 refl where
    b : (b : ℕ) × IsCanonical depth b × SamePath (levels depth) (suc level) base b × (index_at level b ≡ first.index)
    b = address_with depth base level first.index canonical below first.within

    there : table_at (levels depth) m root level b.0 ≡ Some (slice_index path level)
    there = sym (same_table (levels depth) root m level base b.0 b.2) ∙ here.at

    e : (e : Meaning) × (entry_in level m (slice_index path level) first.index ≡ Some e)
    e = entry_some level m (slice_index path level) first.index (used_at here)

    found : (x : Meaning) → e.0 ≡ x → found_at level m (slice_index path level) b.0 ≡ Some x
    found x is = found_entry level m (slice_index path level) b.0 ∙ ap (entry_in level m (slice_index path level)) b.3 ∙ e.1 ∙ ap Some is

    quiet : walk depth m root b.0 ≡ NotMapped
    quiet = nothing b.0 b.1 b.2

    by : (x : Meaning) → e.0 ≡ x → ⊥
    by entry.Absent is = first.present (e.1 ∙ ap Some is)
    by entry.Reserved is = faultless b.0 b.1 (walk_reserved cut.tree b.0 level (slice_index path level) cut.some there (found entry.Reserved is))
    by (entry.Leaf phys own) is =
        mapped_apart _ _ _ (sym quiet ∙ walk_leaf cut.tree b.0 level (slice_index path level) phys own cut.some there (found (entry.Leaf phys own) is))
    by (entry.Table next own) is =
        let up : level ≡ suc (level - 1) = omega (arith, cut.some) in
        cut.filled.filled (level - 1) b.0 next (omega (arith, cut.below, cut.some))
        (table_below (levels depth) root m level (level - 1) b.0 (slice_index path level) up there ∙ ap table_in (found (entry.Table next own) is))
        (λ same.
        let wrong : Some entry.Absent ≡ Some (entry.Table next own) = sym cut.absent
        ∙ found_same level m (slice_index path level) base b.0 (same level (omega arith) cut.below) ∙ found (entry.Table next own) is in
        cc)
        (λ c is_c same. nothing c is_c (λ i from to. b.2 i from to ∙ same i (omega arith) to))

  pub pruned_by : {old : Memory} {from : ℕ} → IsPruning depth old m root base from level path
      → (level < levels depth → NothingUnder depth m root (suc level) base → ⊥)
      → IsPruned depth old m root base from level
  pruned_by pruning something = record {
    tree = cut.tree;
    filled = filled_up cut.filled level none_past_here something;
    all_reached = cut.all_reached;
    whole = cut.whole;
    walks = pruning.walks;
    above = pruning.above;
    below = cut.below;
    fewer = pruning.fewer;
    plain = pruning.plain;
    less = pruning.less;
    nothing = nothing_past;
    something = λ j over le nothing. something (omega arith) (under_longer depth m root base j (suc level) (omega arith) nothing);
  }

  -- the words of the table are as written
  pub emptied_written : AreWritten level m (slice_index path level)
  emptied_written = written_at cut.tree cut.all_reached level base (slice_index path level) here.at

  pub in_use_here : IsSome (finite.get m (slice_index path level))
  in_use_here = used_at here

  emptied_used : (n index : ℕ) → IsSome (finite.get (with_word m n index 0) (slice_index path level))
  emptied_used n index = written_in_use m n index 0 (slice_index path level) (used_at here)

  module _ (below : level < levels depth) where
    above_here : table_at (levels depth) m root (level + 1) base ≡ Some (slice_index path (level + 1))
    above_here = cut.reached (level + 1) (omega arith) (omega arith)

    -- the entry above leads to the table
    pub leads_here : {index : ℕ} → index ≡ index_at (level + 1) base → word_at m (slice_index path (level + 1)) index ≢ Some 0
    leads_here is none =
        let next = table_below (levels depth) root m (level + 1) level base (slice_index path (level + 1)) (omega arith) above_here in
        let wrong : Some (slice_index path level) ≡ None = sym here.at ∙ next
        ∙ ap table_in (entry_read (level + 1) m (slice_index path (level + 1)) base none is refl) in
        cc

    pub apart_above : slice_index path level ≢ slice_index path (level + 1)
    apart_above same =
        let one : level ≡ level + 1 = (cut.tree.once level (level + 1) base base (slice_index path level) here.at (above_here ∙ ap Some (sym same))).0 in
        omega (arith, one)

  -- ---- a table whose entries are all absent is freed

  module _ (below : level < levels depth) (clear : finite.get m (slice_index path level) ≡ Some zeros) where
    one : level + 1 ≡ suc level
    one = omega arith

    parent : IsTreeAt (levels depth) m root (level + 1) base (slice_index path (level + 1))
    parent = record { tree = cut.tree; whole = cut.whole; at = cut.reached (level + 1) (omega arith) (omega arith) }

    absent_here : (b : ℕ) → found_at level m (slice_index path level) b ≡ Some entry.Absent
    absent_here b = found_in_zeros level m (slice_index path level) b clear

    reaches_here : (b : ℕ) → SamePath (levels depth) (level + 1) base b → table_at (levels depth) m root level b ≡ Some (slice_index path level)
    reaches_here b same = sym (same_table (levels depth) root m level base b (λ i from to. same i (omega arith) to)) ∙ here.at

    none_below : (b j : ℕ) → SamePath (levels depth) (level + 1) base b → j < level → table_at (levels depth) m root j b ≡ None
    none_below b j same lt =
        none_past (levels depth) root m (level - 1) j b (omega (arith, cut.below)) (omega arith)
        (table_below (levels depth) root m level (level - 1) b (slice_index path level) (omega (arith, cut.some)) (reaches_here b same)
        ∙ ap table_in (absent_here b))

    abbrev cleared : Memory
    cleared = finite.remove (with_word m (slice_index path (level + 1)) (index_at (level + 1) base) 0) (slice_index path level)

    walks_same : (b : ℕ) → IsCanonical depth b → walk depth cleared root b ≡ walk depth m root b
    walks_same b is_b = ⊎_elim
        (λ same. walk_unlink_on parent one here.at b same
        ∙ sym (walk_absent cut.tree b level (slice_index path level) cut.some (reaches_here b same) (absent_here b)))
        (λ apart. walk_unlink_off parent one here.at b apart)
        (same_or_not (levels depth) (level + 1) base b)

    cut_after : IsCut depth cleared root base (level + 1) path
    cut_after = record {
      tree = tree_unlink parent one here.at;
      filled = but_alike cut.filled (λ j b q r off. table_unlink parent one here.at j b q r) walks_same;
      all_reached = reached_unlink parent one here.at none_below cut.all_reached;
      whole = whole-remove _ (slice_index path level) (whole_write parent 0);
      some = omega arith;
      below = omega arith;
      reached = λ j from to. table_kept parent one here.at j base from ∙ cut.reached j (omega arith) to;
      absent = found_unlinked parent one here.at base (λ i from to. refl);
    }

    one_fewer : finite.len cleared + 1 ≡ finite.len m
    one_fewer = len-remove_used _ (slice_index path level) _ (words_in _ _ (emptied_used (slice_index path (level + 1)) (index_at (level + 1) base)))
        ∙ len_write parent 0

    plain_after : AddsNoFlags m cleared
    plain_after = adds_then
        (adds_written m (slice_index path (level + 1)) (index_at (level + 1) base) 0 cut.whole (used_at parent) (omega arith) refl)
        (adds_given (with_word m (slice_index path (level + 1)) (index_at (level + 1) base) 0) (slice_index path level))

    pub pruning_on : {index : ℕ} → index ≡ index_at (level + 1) base → {old : Memory} {from : ℕ} → IsPruning depth old m root base from level path
        → IsPruning depth old (finite.remove (with_word m (slice_index path (level + 1)) index 0) (slice_index path level)) root base from (level + 1) path
    pruning_on is_index {old} {from} pruning =
        subst (λ i. IsPruning depth old (finite.remove (with_word m (slice_index path (level + 1)) i 0) (slice_index path level)) root base from
        (level + 1) path) (sym is_index) (record {
          cut = cut_after;
          walks = λ b is_b. walks_same b is_b ∙ pruning.walks b is_b;
          above = omega (arith, pruning.above);
          fewer = omega (arith, one_fewer, pruning.fewer, pruning.above);
          plain = adds_then pruning.plain plain_after;
          less = more_then (more_unlinked depth parent level here.at clear) pruning.less;
        })
