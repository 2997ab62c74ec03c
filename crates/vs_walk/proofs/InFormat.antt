-- What a walk does at an entry, and a traversal at a table, in any format; and in x86's own both are as they are said for it.
use Rattle.std.proofs.Common.{◌≡◌, ℕ, zero, suc, ◌-◌, ◌<◌, List, [], ◌∷◌, Option, Some, None, flat_map, refl, sym, ap, subst, ◌∙◌, arith, slice_index}
use Rattle.std.specs.FinMap as finite
use Rattle.std.specs.List.{enumerate_from}
use Rattle.vs_types.specs.Depth.{index_at, levels}
use Rattle.vs_types.specs.Entry.{all_rights, meaning}
use Rattle.vs_types.specs.Format.{Format, kind_of, x86}
use Rattle.vs_types.specs.declared.addresses.depth.Depth.{Depth}
use Rattle.vs_types.specs.declared.addresses.page.Rights.{Rights}
use Rattle.vs_types.specs.declared.entries.entry.Meaning.{Meaning}
use Rattle.vs_types.specs.declared.entries.entry.Meaning.TheVariants as means
use Rattle.vs_types.specs.declared.entries.kind.EntryKind.{EntryKind}
use Rattle.vs_walk.specs.Memory.{Memory}
use Rattle.vs_walk.specs.InFormat.{walk_entry_in, walk_words_in, walk_from_in, walk_of, entry_visits_in, table_visits_in, traversal_in}
use Rattle.vs_walk.specs.Traversal.{Visit, OfFrame, TableOf, ReachedTable, entry_visits, words_visits, table_visits, traversal}
use Rattle.vs_walk.specs.Walk.{walk_entry, walk_words, walk_from}
use Rattle.vs_walk.specs.declared.walk.Walk.{Walk}
use Rattle.vs_walk.specs.declared.walk.WalkOf.{WalkOf}
use Rattle.vs_walk.specs.declared.walk.WalkOf.TheVariants.{Missing}

-- ---- the walk

pub nowhere_in : {R P : Type 0} (f : Format R P) (memory : Memory) (number : ℕ) (rights : R) (address : ℕ)
    → walk_from_in f memory 0 number rights address ≡ Missing
unfolding walk_from_in
nowhere_in f memory number rights address = refl

missing_below : {R P : Type 0} (f : Format R P) (memory : Memory) (below number : ℕ) (rights : R) (address : ℕ) → finite.get memory number ≡ None
    → walk_from_in f memory (suc below) number rights address ≡ Missing
unfolding walk_from_in
missing_below f memory below number rights address is =
    ap (λ found. walk_words_in found (λ words. walk_entry_in f (suc below) rights address (λ next own. walk_from_in f memory below next own address)
    (f.kind (suc below) (slice_index words (index_at (suc below) address))))) is

met_below : {R P : Type 0} (f : Format R P) (memory : Memory) (below number : ℕ) (rights : R) (address : ℕ) (words : List ℕ) (found : EntryKind R)
    → finite.get memory number ≡ Some words → f.kind (suc below) (slice_index words (index_at (suc below) address)) ≡ found
    → walk_from_in f memory (suc below) number rights address
    ≡ walk_entry_in f (suc below) rights address (λ next own. walk_from_in f memory below next own address) found
unfolding walk_from_in
met_below f memory below number rights address words found is kind =
    ap (λ found. walk_words_in found (λ words. walk_entry_in f (suc below) rights address (λ next own. walk_from_in f memory below next own address)
    (f.kind (suc below) (slice_index words (index_at (suc below) address))))) is
    ∙ ap (λ found. walk_entry_in f (suc below) rights address (λ next own. walk_from_in f memory below next own address) found) kind

-- the same at a level that is some level
one_below : (level : ℕ) → 0 < level → (below : ℕ) × (level ≡ suc below) × (level - 1 ≡ below)
one_below zero h = absurd (omega arith)
one_below (suc below) h = (below, refl, omega arith)

pub missing_in : {R P : Type 0} (f : Format R P) (memory : Memory) (level number : ℕ) (rights : R) (address : ℕ) → 0 < level
    → finite.get memory number ≡ None → walk_from_in f memory level number rights address ≡ Missing
missing_in f memory level number rights address some is =
    let low = one_below level some in
    subst (λ l. walk_from_in f memory l number rights address ≡ Missing) (sym low.1) (missing_below f memory low.0 number rights address is)

-- by the entry's word as it was read
pub met_in : {R P : Type 0} (f : Format R P) (memory : Memory) (level number index word : ℕ) (rights : R) (address : ℕ) (words : List ℕ) (found : EntryKind R)
    → 0 < level → finite.get memory number ≡ Some words → index ≡ index_at level address → word ≡ slice_index words index → found ≡ f.kind level word
    → walk_from_in f memory level number rights address
    ≡ walk_entry_in f level rights address (λ next own. walk_from_in f memory (level - 1) next own address) found
met_in f memory level number index word rights address words found some is place read kind =
    let low = one_below level some in
    let met : f.kind level (slice_index words (index_at level address)) ≡ found = sym (kind ∙ ap (f.kind level) (read ∙ ap (slice_index words) place)) in
    subst (λ l. f.kind l (slice_index words (index_at l address)) ≡ found
    → walk_from_in f memory l number rights address
    ≡ walk_entry_in f l rights address (λ next own. walk_from_in f memory (level - 1) next own address) found) (sym low.1)
    (λ met. subst (λ b. walk_from_in f memory (suc low.0) number rights address ≡ walk_entry_in f (suc low.0) rights address
    (λ next own. walk_from_in f memory b next own address) found) (sym low.2) (met_below f memory low.0 number rights address words found is met)) met

-- ---- x86's walk

-- at an entry, where it is so in the tables below
same_entry : (depth : Depth) (level : ℕ) (rights : Rights) (address : ℕ) (below : ℕ → Rights → WalkOf Rights) (other : ℕ → Rights → Walk) (found : Meaning)
    → ((number : ℕ) (own : Rights) → walk_of (below number own) ≡ other number own)
    → walk_of (walk_entry_in (x86 depth) level rights address below (kind_of found)) ≡ walk_entry level rights address other found
same_entry depth level rights address below other means.Absent same = refl
same_entry depth level rights address below other means.Reserved same = refl
same_entry depth level rights address below other (means.Leaf phys own) same = refl
same_entry depth level rights address below other (means.Table number own) same = same number _

same_words : (words : Option (List ℕ)) (go : List ℕ → WalkOf Rights) (other : List ℕ → Walk) → ((words : List ℕ) → walk_of (go words) ≡ other words)
    → walk_of (walk_words_in words go) ≡ walk_words words other
same_words None go other same = refl
same_words (Some words) go other same = same words

pub same_walk : (depth : Depth) (memory : Memory) (level number : ℕ) (rights : Rights) (address : ℕ)
    → walk_of (walk_from_in (x86 depth) memory level number rights address) ≡ walk_from memory level number rights address
unfolding walk_from_in walk_from
same_walk depth memory zero number rights address = refl
same_walk depth memory (suc level) number rights address =
    same_words (finite.get memory number) _ _ (λ words. same_entry depth (suc level) rights address _ _
    (meaning (suc level) (slice_index words (index_at (suc level) address))) (λ next own. same_walk depth memory level next own address))

-- ---- the traversal

-- what is met in a table that there is
pub table_met_in : {R P : Type 0} (f : Format R P) (memory : Memory) (level : ℕ) (table : TableOf R) (words : List ℕ)
    → finite.get memory table.number ≡ Some words
    → table_visits_in f memory (suc level) table ≡ OfFrame table.number ∷ flat_map
    (λ place. entry_visits_in f (suc level) table place.0 (λ next. table_visits_in f memory level next) (f.kind (suc level) place.1)) (enumerate_from 0 words)
unfolding table_visits_in
table_met_in f memory level table words is =
    ap (λ found. OfFrame table.number ∷ words_visits found (λ words. flat_map (λ place. entry_visits_in f (suc level) table place.0
    (λ next. table_visits_in f memory level next) (f.kind (suc level) place.1)) (enumerate_from 0 words))) is

-- in one that there is not
pub missing_met_in : {R P : Type 0} (f : Format R P) (memory : Memory) (level : ℕ) (table : TableOf R) → finite.get memory table.number ≡ None
    → table_visits_in f memory (suc level) table ≡ OfFrame table.number ∷ []
unfolding table_visits_in
missing_met_in f memory level table is =
    ap (λ found. OfFrame table.number ∷ words_visits found (λ words. flat_map (λ place. entry_visits_in f (suc level) table place.0
    (λ next. table_visits_in f memory level next) (f.kind (suc level) place.1)) (enumerate_from 0 words))) is

-- ---- x86's traversal

same_at_entry : (depth : Depth) (level : ℕ) (table : ReachedTable) (index : ℕ) (below other : ReachedTable → List Visit) (found : Meaning)
    → ((next : ReachedTable) → below next ≡ other next)
    → entry_visits_in (x86 depth) level table index below (kind_of found) ≡ entry_visits depth level table index other found
same_at_entry depth level table index below other means.Absent same = refl
same_at_entry depth level table index below other means.Reserved same = refl
same_at_entry depth level table index below other (means.Leaf phys own) same = refl
same_at_entry depth level table index below other (means.Table number own) same = same _

same_in_words : (words : Option (List ℕ)) (go other : List ℕ → List Visit) → ((words : List ℕ) → go words ≡ other words) → words_visits words go
    ≡ words_visits words other
same_in_words None go other same = refl
same_in_words (Some words) go other same = same words

pub same_visits : (depth : Depth) (memory : Memory) (level : ℕ) (table : ReachedTable)
    → table_visits_in (x86 depth) memory level table ≡ table_visits depth memory level table
unfolding table_visits_in table_visits
same_visits depth memory zero table = refl
same_visits depth memory (suc level) table =
    ap (λ ms. OfFrame table.number ∷ ms) (same_in_words (finite.get memory table.number) _ _ (λ words.
    ap (λ (f : ℕ × ℕ → List Visit). flat_map f (enumerate_from 0 words)) (λ i place.
    same_at_entry depth (suc level) table place.0 (λ next. table_visits_in (x86 depth) memory level next) (λ next. table_visits depth memory level next)
    (meaning (suc level) place.1) (λ next. same_visits depth memory level next) i)))

pub same_traversal : (depth : Depth) (memory : Memory) (root : ℕ) → traversal_in (x86 depth) memory root ≡ traversal depth memory root
same_traversal depth memory root = same_visits depth memory (levels depth) (record { number = root; start = 0; rights = all_rights })
