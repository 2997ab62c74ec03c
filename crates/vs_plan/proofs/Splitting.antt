-- A page of 2 MiB or 1 GiB is split: a spare frame is filled with its parts, and linked in the place of its entry.
use Rattle.std.proofs.Common.{◌≡◌, ◌≢◌, ℕ, zero, suc, ◌+◌, ◌-◌, ◌*◌, ◌%◌, ◌^◌, ◌<◌, ◌≤◌, [], ◌∷◌, length, Some, Contains, ◌⊎◌, inl, inr, ⊎_elim, refl, sym, ap}
use Rattle.std.proofs.Common.{subst, ◌∙◌, arith}
use Rattle.std.specs.Prelude.{slice_index}
use Rattle.std.specs.FinMap as finite
use Rattle.vs_types.specs.Depth.{levels, entry_bytes, index_at}
use Rattle.vs_types.specs.Entry.{meaning, size_at, leaf_word, all_rights}
use Rattle.vs_types.specs.Page.{level_of, bytes_of, intersection}
use Rattle.vs_types.specs.Space.{Space}
use Rattle.vs_types.specs.Step.{Stepped}
use Rattle.vs_types.specs.declared.addresses.depth.Depth.{Depth}
use Rattle.vs_types.specs.declared.addresses.page.Page.{Page}
use Rattle.vs_types.specs.declared.addresses.page.Rights.{Rights}
use Rattle.vs_types.specs.declared.addresses.page.Size.{Size}
use Rattle.vs_types.specs.declared.addresses.page.Size.TheVariants.{K4}
use Rattle.vs_types.specs.declared.entries.entry.Meaning.TheVariants as entry
use Rattle.vs_types.specs.declared.requests.answer.Answer.TheVariants as answers
use Rattle.vs_types.proofs.Lists.{Contains-cases, not_in_nil}
use Rattle.vs_walk.specs.Memory.{Memory}
use Rattle.vs_walk.specs.Walk.{walk, walk_from, TranslatesAs}
use Rattle.vs_walk.specs.declared.walk.Walk.TheVariants.{Mapped}
use Rattle.vs_space.specs.Path.{table_at, SamePath}
use Rattle.vs_space.specs.Table.{IsTableOf}
use Rattle.vs_space.proofs.Regions.{IsLeafPage, level_back}
use Rattle.vs_space.proofs.Writes.{get_written_other}
use Rattle.vs_space.proofs.LeafSteps.{begins_at, leaf_translates}
use Rattle.vs_types.specs.Bits.{AreBits, bits_in, page_word, placed}
use Rattle.vs_plan.specs.Changes.{smaller, split}
use Rattle.vs_plan.specs.Premise.{HasOwnWay}
use Rattle.vs_plan.specs.Stores.{stepping}
use Rattle.vs_plan.specs.Way.{IsWay}
use Rattle.vs_plan.proofs.EntryStores.{IsOwnTable, after_store, walk_here}
use Rattle.vs_plan.proofs.Filled.{entry_alike}
use Rattle.vs_plan.proofs.Growing.{all_of}
use Rattle.vs_plan.proofs.Linking.{old_or_new, own_linked}
use Rattle.vs_plan.proofs.Pages.{table_from}
use Rattle.vs_plan.proofs.PartSpaces.{split_space, looks_split, split_there}
use Rattle.vs_plan.proofs.Runs.{IsRun, run_lone, run_of_words, run_walk}
use Rattle.vs_types.proofs.BitWords.{page_reads}

-- ---- the words of the fill

pub stepping_at : (first step count i : ℕ) → i < count → slice_index (stepping first step count) i ≡ first + i * step
unfolding stepping
stepping_at first step zero i low = absurd (omega arith)
stepping_at first step (suc count) zero low = omega arith
stepping_at first step (suc count) (suc i) low = stepping_at (first + step) step count i (omega arith) ∙ sum first step i where
  sum : (first step i : ℕ) → first + step + i * step ≡ first + suc i * step
  sum first step i = omega arith

pub stepping_long : (first step count : ℕ) → length (stepping first step count) ≡ count
unfolding stepping
stepping_long first step zero = refl
stepping_long first step (suc count) = ap suc (stepping_long (first + step) step count)

pub are_bits_in : (size : Size) (word : ℕ) → AreBits (bits_in size word)
are_bits_in K4 word = record { above = omega arith; low = omega arith; high = omega arith }
are_bits_in _ word = record { above = omega arith; low = omega arith; high = omega arith }

-- a page's word with its physical address further on
word_later : (size : Size) (phys bits k : ℕ) (own : Rights)
    → leaf_word size phys own + placed size bits + k ≡ leaf_word size (phys + k) own + placed size bits
word_later K4 phys bits k own = omega arith
word_later _ phys bits k own = omega arith

aligned_later : (size : Size) (phys i : ℕ) → phys % bytes_of size ≡ 0 → (phys + i * bytes_of size) % bytes_of size ≡ 0
aligned_later K4 phys i at = omega arith
aligned_later _ phys i at = omega arith

part_reads : (size : Size) (phys bits i : ℕ) (own : Rights) → phys % bytes_of size ≡ 0 → phys + i * bytes_of size < 2 ^ 52 → AreBits bits
    → meaning (level_of size) (leaf_word size phys own + placed size bits + i * bytes_of size) ≡ entry.Leaf (phys + i * bytes_of size) own
part_reads size phys bits i own aligned fits are =
    ap (meaning (level_of size)) (word_later size phys bits (i * bytes_of size) own)
    ∙ page_reads size (phys + i * bytes_of size) bits own (aligned_later size phys i aligned) fits are

-- where a page of the next larger size lies
pub record LiesLarge (low phys : ℕ) : Type 0 where
  pub some : 1 ≤ low
  pub few : suc low ≤ 3
  pub aligned : phys % entry_bytes (suc low) ≡ 0
  pub range : phys + entry_bytes (suc low) ≤ 2 ^ 51

part_lies : (low phys i : ℕ) → LiesLarge low phys → i < 512 → (phys % entry_bytes low ≡ 0) × (phys + i * entry_bytes low < 2 ^ 52)
part_lies low phys i lies lt = by low lies.some lies.few lies.aligned lies.range where
  by : (low : ℕ) → 1 ≤ low → suc low ≤ 3 → phys % entry_bytes (suc low) ≡ 0 → phys + entry_bytes (suc low) ≤ 2 ^ 51
      → (phys % entry_bytes low ≡ 0) × (phys + i * entry_bytes low < 2 ^ 52)
  by zero some few at range = absurd (omega arith)
  by (suc zero) some few at range = (omega arith, omega arith)
  by (suc (suc zero)) some few at range = (omega arith, omega arith)
  by (suc (suc (suc low))) some few at range = absurd (omega arith)

-- the table that is filled with the parts
pub run_filled : (m : Memory) (low frame base phys bits first : ℕ) (own : Rights) → LiesLarge low phys → AreBits bits
    → first ≡ page_word (record { base = base; size = size_at low; rights = own; phys = phys }) bits
    → finite.get m frame ≡ Some (stepping first (entry_bytes low) 512) → IsRun m low frame phys own
run_filled m low frame base phys bits first own lies are is got =
    run_of_words m low frame phys own (stepping first (entry_bytes low) 512) got (λ i lt.
    ap (meaning low) (stepping_at first (entry_bytes low) 512 i lt ∙ ap (λ n. n + i * entry_bytes low) is) ∙ reads i lt)
  where
    reads : (i : ℕ) → i < 512 → meaning low (page_word (record { base = base; size = size_at low; rights = own; phys = phys }) bits + i * entry_bytes low)
        ≡ entry.Leaf (phys + i * entry_bytes low) own
    reads i lt =
        let at = part_lies low phys i lies lt in
        let back : level_of (size_at low) ≡ low = level_back low (omega (arith, lies.some)) (omega (arith, lies.few)) in
        subst (λ l. phys % entry_bytes l ≡ 0 → phys + i * entry_bytes l < 2 ^ 52
        → meaning l (leaf_word (size_at low) phys own + placed (size_at low) bits + i * entry_bytes l) ≡ entry.Leaf (phys + i * entry_bytes l) own) back
        (λ aligned fits. part_reads (size_at low) phys bits i own aligned fits are) at.0 at.1

-- ---- the link

module _ {depth : Depth} {m : Memory} {root level a n : ℕ} (here : IsOwnTable depth m root level a n) {given : Rights}
    (way : IsWay depth m root a level n given) (frame low phys w : ℕ) (own : Rights) (one : level ≡ suc low) (some : 1 ≤ low)
    (leads : meaning level w ≡ entry.Table frame all_rights) (run : IsRun m low frame phys own)
    (unreached : (j b : ℕ) → table_at (levels depth) m root j b ≢ Some frame) where
  run_linked : IsRun (after_store here w) low frame phys own
  run_linked i lt =
      entry_alike low m (after_store here w) frame i
      (get_written_other m n (index_at level a) w frame (λ e. unreached level a (here.at ∙ ap Some (sym e)))) ∙ run i lt

  -- the addresses that the entry is for are translated by the entries of the table
  pub walk_parts : (b : ℕ) → SamePath (levels depth) level a b
      → walk depth (after_store here w) root b ≡ Mapped (phys + b % entry_bytes level) (size_at low) (intersection given own)
  walk_parts b same =
      let below : level - 1 ≡ low = omega (arith, one) in
      walk_here here w way (omega (arith, one)) (entry.Table frame all_rights) leads b same
      ∙ ap (λ l. walk_from (after_store here w) l frame (intersection given all_rights) b) below
      ∙ run_walk (after_store here w) low frame phys own some run_linked (intersection given all_rights) b
      ∙ ap (λ l. Mapped (phys + b % entry_bytes l) (size_at low) (intersection (intersection given all_rights) own)) (sym one)
      ∙ ap (λ r. Mapped (phys + b % entry_bytes level) (size_at low) (intersection r own)) (all_of given)

  unreached_parts : (q : ℕ) → Contains (frame ∷ []) q → (j b : ℕ) → table_at (levels depth) m root j b ≢ Some q
  unreached_parts q among j b reached = ⊎_elim
      (λ (same : frame ≡ q). unreached j b (reached ∙ ap Some (sym same)))
      (λ more. not_in_nil q more)
      (Contains-cases frame [] q among)

  -- each table was reached before, or is that of the parts
  pub parts_reached : (b j q : ℕ) → table_at (levels depth) (after_store here w) root j b ≡ Some q
      → (table_at (levels depth) m root j b ≡ Some q) ⊎ (frame ≡ q)
  parts_reached b j q at = ⊎_elim
      (λ old. inl old)
      (λ new. ⊎_elim (λ (same : frame ≡ q). inr same) (λ more. absurd (not_in_nil q more)) (Contains-cases frame [] q new.0))
      (old_or_new here w frame low all_rights leads one (frame ∷ []) (run_lone (after_store here w) low frame phys own some run_linked a)
      unreached_parts b j q at)

  pub own_parts : (c : ℕ) → HasOwnWay depth m root c → HasOwnWay depth (after_store here w) root c
  own_parts = own_linked here w frame low all_rights leads one (frame ∷ []) (run_lone (after_store here w) low frame phys own some run_linked a) unreached_parts

-- ---- the space

pub smaller_at : (low : ℕ) → 1 ≤ low → suc low ≤ 3 → smaller (size_at (suc low)) ≡ size_at low
smaller_at (suc zero) some few = refl
smaller_at (suc (suc zero)) some few = refl
smaller_at _ some few = absurd (omega arith)

pub large_at : (low : ℕ) → 1 ≤ low → size_at (suc low) ≢ K4
large_at zero some e = omega arith
large_at (suc zero) some e = cc
large_at (suc (suc low)) some e = cc

module _ {depth : Depth} {m : Memory} {root : ℕ} {space : Space} (of : IsTableOf (table_from depth m root) space) {base low phys : ℕ} {given : Rights}
    {q : Page} (leaf : IsLeafPage depth space base (suc low) phys given q) (some : 1 ≤ low) (few : suc low ≤ 3)
    (aligned : base % bytes_of (size_at (suc low)) ≡ 0) where
  begins : q.base ≡ base
  begins = begins_at leaf aligned

  large : q.size ≢ K4
  large e = large_at low some (sym leaf.size ∙ e)

  pub split_is : split space base ≡ record { space = split_space space q; answer = answers.Changed given }
  split_is = by ∙ ap (λ r. let s : Stepped = record { space = split_space space q; answer = answers.Changed r } in s) leaf.rights where
    by : split space base ≡ record { space = split_space space q; answer = answers.Changed q.rights }
    by = split_there space base q leaf.here begins

  pub split_translates : (m' : Memory)
      → ((b : ℕ) → SamePath (levels depth) (suc low) base b → walk depth m' root b ≡ Mapped (phys + b % entry_bytes (suc low)) (size_at low) given)
      → ((b : ℕ) → (SamePath (levels depth) (suc low) base b → ⊥) → walk depth m' root b ≡ walk depth m root b)
      → TranslatesAs depth m' root (split space base).space
  split_translates m' there elsewhere = subst (λ (s : Stepped). TranslatesAs depth m' root s.space) (sym split_is)
      (leaf_translates of leaf begins m' (looks_split of.is_space leaf.held large)
      (λ b canonical same at.
      let offset : phys + b % entry_bytes (suc low) ≡ q.phys + (b - q.base) = omega (arith, at, leaf.phys_is) in
      let size : size_at low ≡ smaller q.size = sym (ap smaller leaf.size ∙ smaller_at low some few) in
      there b same ∙ ap (λ p. Mapped p (size_at low) given) offset
      ∙ ap (λ z. Mapped (q.phys + (b - q.base)) z given) size ∙ ap (Mapped (q.phys + (b - q.base)) (smaller q.size)) (sym leaf.rights))
      (λ b canonical apart. elsewhere b apart))
