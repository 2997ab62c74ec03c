-- What a walk does at an entry.
use Rattle.std.proofs.Common.{◌≡◌, ℕ, zero, suc, ◌-◌, ◌^◌, ◌<◌, ◌≤◌, List, Some, None, refl, sym, ap, subst, ◌∙◌, arith, slice_index}
use Rattle.std.specs.FinMap as finite
use Rattle.vs_types.specs.Depth.{levels, index_at}
use Rattle.vs_types.specs.Entry.{meaning}
use Rattle.vs_types.specs.declared.addresses.depth.Depth.{Depth}
use Rattle.vs_types.specs.declared.addresses.depth.Depth.TheVariants.{Four, Five}
use Rattle.vs_types.specs.declared.addresses.page.Rights.{Rights}
use Rattle.vs_types.specs.declared.entries.entry.Meaning.{Meaning}
use Rattle.vs_types.specs.declared.entries.entry.Meaning.TheVariants as entry
use Rattle.vs_walk.specs.Memory.{Memory}
use Rattle.vs_walk.specs.Walk.{walk_entry, walk_words, walk_from}
use Rattle.vs_walk.specs.declared.walk.Walk.TheVariants.{Missing}

pub few_levels : (depth : Depth) → levels depth ≤ 5
few_levels Four = omega arith
few_levels Five = omega arith

pub walk_nowhere : (memory : Memory) (number : ℕ) (rights : Rights) (address : ℕ) → walk_from memory 0 number rights address ≡ Missing
unfolding walk_from
walk_nowhere memory number rights address = refl

pub walk_missing : (memory : Memory) (below number : ℕ) (rights : Rights) (address : ℕ) → finite.get memory number ≡ None
    → walk_from memory (suc below) number rights address ≡ Missing
unfolding walk_from
walk_missing memory below number rights address is =
    ap (λ found. walk_words found (λ words. walk_entry (suc below) rights address (λ next own. walk_from memory below next own address)
    (meaning (suc below) (slice_index words (index_at (suc below) address))))) is

-- the walk at an entry that means this
pub walk_at : (memory : Memory) (below number : ℕ) (rights : Rights) (address : ℕ) (words : List ℕ) (found : Meaning) → finite.get memory number ≡ Some words
    → meaning (suc below) (slice_index words (index_at (suc below) address)) ≡ found
    → walk_from memory (suc below) number rights address ≡ walk_entry (suc below) rights address (λ next own. walk_from memory below next own address) found
unfolding walk_from
walk_at memory below number rights address words found is means =
    ap (λ found. walk_words found (λ words. walk_entry (suc below) rights address (λ next own. walk_from memory below next own address)
    (meaning (suc below) (slice_index words (index_at (suc below) address))))) is
    ∙ ap (λ found. walk_entry (suc below) rights address (λ next own. walk_from memory below next own address) found) means

-- the same at a level that is some level
one_below : (level : ℕ) → 0 < level → (below : ℕ) × (level ≡ suc below) × (level - 1 ≡ below)
one_below zero h = absurd (omega arith)
one_below (suc below) h = (below, refl, omega arith)

pub missing_at : (memory : Memory) (level number : ℕ) (rights : Rights) (address : ℕ) → 0 < level → finite.get memory number ≡ None
    → walk_from memory level number rights address ≡ Missing
missing_at memory level number rights address some is =
    let low = one_below level some in
    rw (low.1) (walk_missing memory low.0 number rights address is)

pub stands_at : (memory : Memory) (level number : ℕ) (rights : Rights) (address : ℕ) (words : List ℕ) (found : Meaning) → 0 < level
    → finite.get memory number ≡ Some words → meaning level (slice_index words (index_at level address)) ≡ found
    → walk_from memory level number rights address ≡ walk_entry level rights address (λ next own. walk_from memory (level - 1) next own address) found
stands_at memory level number rights address words found some is means =
    let low = one_below level some in
    subst (λ l. meaning l (slice_index words (index_at l address)) ≡ found
    → walk_from memory l number rights address ≡ walk_entry l rights address (λ next own. walk_from memory (level - 1) next own address) found) (sym low.1)
    (λ means. subst (λ b. walk_from memory (suc low.0) number rights address ≡ walk_entry (suc low.0) rights address
    (λ next own. walk_from memory b next own address) found) (sym low.2) (walk_at memory low.0 number rights address words found is means)) means

-- the same, by the entry's word as it was read
pub entry_met : (memory : Memory) (level number index word : ℕ) (rights : Rights) (address : ℕ) (words : List ℕ) (found : Meaning) → 0 < level
    → finite.get memory number ≡ Some words → index ≡ index_at level address → word ≡ slice_index words index → found ≡ meaning level word
    → walk_from memory level number rights address ≡ walk_entry level rights address (λ next own. walk_from memory (level - 1) next own address) found
entry_met memory level number index word rights address words found some is place read means =
    stands_at memory level number rights address words found some is (sym (means ∙ ap (meaning level) (read ∙ ap (slice_index words) place)))

-- where a leaf can be, and where its page lies
pub leaf_level : (level word phys : ℕ) (own : Rights) → meaning level word ≡ entry.Leaf phys own → (level ≤ 3) × (phys < 2 ^ 52)
leaf_level level word phys own is = grind arith
