-- What the stores of a right plan do to the walks from another root that may share tables.
use Rattle.std.proofs.Common.{◌≡◌, ◌≢◌, ℕ, suc, ◌-◌, List, [], ◌∷◌, All, Contains, take, length, Some, None, ◌⊎◌, inl, inr, ⊎_elim, refl, sym, ap, subst, ◌∙◌}
use Rattle.std.proofs.Common.{arith, get_or}
use Rattle.std.specs.Prelude.{if◌then◌else◌, option_and_then}
use Rattle.std.proofs.lemmas.Bool.{ne_eqb, cases_eq}
use Rattle.std.proofs.Math.Seq.{take-length}
use Rattle.std.proofs.lemmas.List.Elements.{All-head, All-tail, All-take}
use Rattle.std.specs.FinMap as finite
use Rattle.vs_types.specs.Depth.{levels, index_at}
use Rattle.vs_types.specs.Entry.{meaning, all_rights}
use Rattle.vs_types.specs.declared.addresses.depth.Depth.{Depth}
use Rattle.vs_types.specs.declared.addresses.page.Rights.{Rights}
use Rattle.vs_types.specs.declared.addresses.page.Size.{Size}
use Rattle.vs_types.specs.declared.entries.entry.Meaning.TheVariants as entry
use Rattle.vs_types.proofs.Pages.{three_levels}
use Rattle.vs_walk.specs.Memory.{Memory}
use Rattle.vs_walk.specs.Walk.{walk}
use Rattle.vs_space.specs.Path.{found_at, table_in, table_at}
use Rattle.vs_space.proofs.Paths.{found_same, table_first, agree_table, agree_walk}
use Rattle.vs_space.proofs.Writes.{found_alike, get_written_other}
use Rattle.vs_plan.specs.declared.plans.plan.Flush.{Flush}
use Rattle.vs_plan.specs.declared.plans.plan.Flush.TheVariants.{Nothing, Page, PageAndTables, Range}
use Rattle.vs_plan.specs.declared.plans.plan.Store.{Store}
use Rattle.vs_plan.specs.declared.plans.target.Target.{Target}
use Rattle.vs_plan.specs.Other.{IsShared, MeetsNone, LeadsNotTo}
use Rattle.vs_plan.specs.Premise.{HasOwnWay}
use Rattle.vs_plan.specs.Stores.{stored, stored_all, FindTheirWords}
use Rattle.vs_plan.proofs.Forms.{IsOnceFor, IsEndFor, AreFor}
use Rattle.vs_plan.proofs.Given.{WasUnlinked}
use Rattle.vs_plan.proofs.Sufficing.{IsSwitched, AreUnreached}
use Rattle.vs_plan.proofs.WordOrders.{elsewhere_or_here}
use Rattle.vs_plan.proofs.Stored.{found_word, used_word}
use Rattle.vs_space.specs.Held.{word_at}
use Rattle.vs_plan.proofs.Stays.{ChangesAlone}
use Rattle.vs_plan.proofs.Ways.{walk_level}

-- ---- frames that no store is into

-- the words of such a frame stay
pub frame_kept : (memory : Memory) (number : ℕ) (stores : List Store) → All (λ (s : Store). number ≢ s.frame) stores
    → finite.get (stored_all memory stores) number ≡ finite.get memory number
frame_kept memory number [] all = refl
frame_kept memory number (s ∷ later) all =
    frame_kept (stored memory s) number later (All-tail (λ (s : Store). number ≢ s.frame) s later all)
    ∙ get_written_other memory s.frame s.index s.new number (All-head (λ (s : Store). number ≢ s.frame) s later all)

pub found_take : (memory : Memory) (n : ℕ) (stores : List Store) → FindTheirWords memory stores → FindTheirWords memory (take n stores)
found_take memory (suc n) (s ∷ later) found = (found.0, found_take (stored memory s) n later found.1)
found_take memory _ _ found = tt

-- ---- roots whose entries for an address lead to one table

lower_next : (memory : Memory) (below root address level table : ℕ) (rights : Rights) → level ≢ suc below
    → found_at (suc below) memory root address ≡ Some (entry.Table table rights)
    → table_at (suc below) memory root level address ≡ table_at below memory table level address
unfolding table_at
lower_next memory below root address level table rights other leads =
    ap (λ b. if b then Some root else option_and_then (λ next. table_at below memory next level address) (table_in (found_at (suc below) memory root address)))
    (ne_eqb level (suc below) other)
    ∙ ap (λ o. option_and_then (λ next. table_at below memory next level address) (table_in o)) leads

lower_table : (memory : Memory) (top below root address level table : ℕ) (rights : Rights) → top ≡ suc below → level ≢ top
    → found_at top memory root address ≡ Some (entry.Table table rights)
    → table_at top memory root level address ≡ table_at below memory table level address
lower_table memory top below root address level table rights is low found = subst
    (λ t. level ≢ t → found_at t memory root address ≡ Some (entry.Table table rights)
    → table_at t memory root level address ≡ table_at below memory table level address)
    (sym is) (lower_next memory below root address level table rights) low found

pub one_less : (depth : Depth) → levels depth ≡ suc (levels depth - 1)
one_less depth = omega (arith, three_levels depth)

pub shared_walk : {depth : Depth} {memory : Memory} {root other address : ℕ} → IsShared depth memory root other address
    → walk depth memory other address ≡ walk depth memory root address
shared_walk {depth} {memory} {root} {other} {address} shared =
    walk_level memory (levels depth) other all_rights address (entry.Table shared.table shared.rights) (omega (arith, three_levels depth)) shared.there
    ∙ sym (walk_level memory (levels depth) root all_rights address (entry.Table shared.table shared.rights) (omega (arith, three_levels depth)) shared.here)

pub shared_table : {depth : Depth} {memory : Memory} {root other address : ℕ} → IsShared depth memory root other address → (level : ℕ)
    → level ≢ levels depth → table_at (levels depth) memory other level address ≡ table_at (levels depth) memory root level address
shared_table {depth} {memory} {root} {other} {address} shared level low =
    lower_table memory (levels depth) (levels depth - 1) other address level shared.table shared.rights (one_less depth) low shared.there
    ∙ sym (lower_table memory (levels depth) (levels depth - 1) root address level shared.table shared.rights (one_less depth) low shared.here)

-- ---- the stores of a plan whose root keeps its links

-- a store into a table on the base's way: if into a link of the root, into one that isn't shared; or into a frame that the root doesn't lead to
pub data IsStore (target : Target) (memory : Memory) (base other : ℕ) (s : Store) : Type 0 where
  OnWay : (level : ℕ) → table_at (levels target.depth) memory target.root level base ≡ Some s.frame
      → (level ≡ levels target.depth → (table_in (Some (meaning level s.old)) ≡ None)
      ⊎ ((s.index ≡ index_at level base) × (IsShared target.depth memory target.root other base → ⊥))) → IsStore target memory base other s
  OffWays : LeadsNotTo target.depth memory target.root s.frame → IsStore target memory base other s

-- addresses with one index in the roots are shared alike
pub shared_alike : {depth : Depth} {memory : Memory} {root other address : ℕ} → IsShared depth memory root other address → (base : ℕ)
    → index_at (levels depth) base ≡ index_at (levels depth) address → IsShared depth memory root other base
shared_alike {depth} {memory} {root} {other} {address} shared base same = record {
  table = shared.table;
  rights = shared.rights;
  here = found_same (levels depth) memory root base address same ∙ shared.here;
  there = found_same (levels depth) memory other base address same ∙ shared.there;
}

module _ (target : Target) (first : Memory) (base other : ℕ) (own : HasOwnWay target.depth first target.root base) where
  not_link : {s : Store} (address table : ℕ) → IsStore target first base other s → target.root ≡ s.frame
      → index_at (levels target.depth) address ≡ s.index → IsShared target.depth first target.root other address
      → table_in (Some (meaning (levels target.depth) s.old)) ≡ Some table → ⊥
  not_link {s = s} address table (OnWay level reached keeps) same index shared leads =
      let top : level ≡ levels target.depth = (own.once (levels target.depth) target.root level base
      (table_first (levels target.depth) target.root first base) (reached ∙ ap Some (sym same))).0 in
      ⊎_elim
      (λ ends.
      let none : table_in (Some (meaning (levels target.depth) s.old)) ≡ None = subst (λ l. table_in (Some (meaning l s.old)) ≡ None) top ends in
      absurd (cc))
      (λ unshared. unshared.1 (shared_alike shared base (sym (index ∙ unshared.0 ∙ ap (λ l. index_at l base) top))))
      (keeps top)
  not_link address table (OffWays unreached) same index shared leads =
      unreached (levels target.depth) base (table_first (levels target.depth) target.root first base ∙ ap Some same)

  -- so a link of the root that is shared stays
  pub link_kept : (memory : Memory) (stores : List Store) (address table : ℕ) (rights : Rights)
      → All (IsStore target first base other) stores → FindTheirWords memory stores → IsShared target.depth first target.root other address
      → found_at (levels target.depth) memory target.root address ≡ Some (entry.Table table rights)
      → found_at (levels target.depth) (stored_all memory stores) target.root address ≡ Some (entry.Table table rights)
  link_kept memory [] address table rights meant found shared leads = leads
  link_kept memory (s ∷ later) address table rights meant found shared leads =
      link_kept (stored memory s) later address table rights (All-tail (IsStore target first base other) s later meant) found.1 shared (⊎_elim
      (λ same. same ∙ leads)
      (λ here.
      let word = found_word (levels target.depth) memory s.frame address s.old (ap (word_at memory s.frame) here.1 ∙ found.0) in
      let at : found_at (levels target.depth) memory s.frame address ≡ Some (entry.Table table rights) =
      subst (λ n. found_at (levels target.depth) memory n address ≡ Some (entry.Table table rights)) here.0 leads in
      absurd (not_link address table (All-head (IsStore target first base other) s later meant) here.0 here.1 shared (ap table_in (sym word ∙ at))))
      (elsewhere_or_here (levels target.depth) memory s.frame s.index s.new target.root address (used_word memory s.frame s.index s.old found.0)))

-- ---- a right plan's stores, and a root beside it

-- what is used of the plan
pub record AreMeant (target : Target) (memory : Memory) (base other : ℕ) (stores : List Store) (unlinked : List ℕ) : Type 0 where
  pub own : HasOwnWay target.depth memory target.root base
  pub meant : All (IsStore target memory base other) stores
  pub found : FindTheirWords memory stores
  pub gone : (number : ℕ) → Contains unlinked number → WasUnlinked target memory (stored_all memory stores) base number

-- and of the other root
pub record IsOther (target : Target) (memory : Memory) (base : ℕ) (stores : List Store) (other : ℕ) : Type 0 where
  pub root : (level : ℕ) → table_at (levels target.depth) memory target.root level base ≢ Some other
  pub ways : (address : ℕ) → IsShared target.depth memory target.root other address ⊎ MeetsNone target.depth memory target.root other base address
  pub spare : All (λ (s : Store). LeadsNotTo target.depth memory target.root s.frame → LeadsNotTo target.depth memory other s.frame) stores

module _ (target : Target) (memory : Memory) (base : ℕ) (stores : List Store) (unlinked : List ℕ) (other : ℕ)
    (are : AreMeant target memory base other stores unlinked) (beside : IsOther target memory base stores other) where
  abbrev after : ℕ → Memory
  after done = stored_all memory (take done stores)

  -- a frame that the root doesn't lead to, the other doesn't lead to
  abbrev SpareToo : Store → Type 0
  SpareToo s = LeadsNotTo target.depth memory target.root s.frame → LeadsNotTo target.depth memory other s.frame

  -- a frame that is no table on the base's way, and to which the other root leads, isn't stored into
  module _ (level address number : ℕ) (at : table_at (levels target.depth) memory other level address ≡ Some number)
      (off : (height : ℕ) → table_at (levels target.depth) memory target.root height base ≢ Some number) where
    not_there : (s : Store) → IsStore target memory base other s → SpareToo s → number ≢ s.frame
    not_there s (OnWay height reached keeps) spare same = off height (reached ∙ ap Some (sym same))
    not_there s (OffWays unreached) spare same = spare unreached level address (at ∙ ap Some same)

    no_store : All (λ (s : Store). number ≢ s.frame) stores
    no_store = λ k d lt. not_there (get_or stores k d) (are.meant k d lt) (beside.spare k d lt)

  stays_in : (done number : ℕ) → All (λ (s : Store). number ≢ s.frame) stores → finite.get (after done) number ≡ finite.get memory number
  stays_in done number none = frame_kept memory number (take done stores) (All-take (λ (s : Store). number ≢ s.frame) done stores none)

  other_stays : (done : ℕ) → finite.get (after done) other ≡ finite.get memory other
  other_stays done = stays_in done other
      (no_store (levels target.depth) base other (table_first (levels target.depth) other memory base) beside.root)

  pub shared_stays : (done address : ℕ) → IsShared target.depth memory target.root other address → IsShared target.depth (after done) target.root other address
  shared_stays done address shared = record {
    table = shared.table;
    rights = shared.rights;
    here = link_kept target memory base other are.own memory (take done stores) address shared.table shared.rights
        (All-take (IsStore target memory base other) done stores are.meant) (found_take memory done stores are.found) shared shared.here;
    there = found_alike (levels target.depth) memory (after done) other address (other_stays done) ∙ shared.there;
  }

  apart_found : (done address : ℕ) → MeetsNone target.depth memory target.root other base address → (level number : ℕ)
      → table_at (levels target.depth) memory other level address ≡ Some number
      → found_at level (after done) number address ≡ found_at level memory number address
  apart_found done address apart level number at = found_alike level memory (after done) number address
      (stays_in done number (no_store level address number at (λ height on. apart level height number at on)))

  pub apart_walk : (done address : ℕ) → MeetsNone target.depth memory target.root other base address
      → walk target.depth (after done) other address ≡ walk target.depth memory other address
  apart_walk done address apart =
      agree_walk (levels target.depth) other memory (after done) address (λ level number above at. apart_found done address apart level number at)

  apart_table : (done address level : ℕ) → MeetsNone target.depth memory target.root other base address
      → table_at (levels target.depth) (after done) other level address ≡ table_at (levels target.depth) memory other level address
  apart_table done address level apart = agree_table (levels target.depth) other memory (after done) address level
      (λ j number above at. apart_found done address apart j number at)

  -- ---- after all of them

  all_stores : after (length stores) ≡ stored_all memory stores
  all_stores = ap (stored_all memory) (take-length stores)

  pub shared_after : (address : ℕ) → IsShared target.depth memory target.root other address
      → IsShared target.depth (stored_all memory stores) target.root other address
  shared_after address shared = subst (λ m. IsShared target.depth m target.root other address) all_stores (shared_stays (length stores) address shared)

  pub apart_after : (address : ℕ) → MeetsNone target.depth memory target.root other base address
      → walk target.depth (stored_all memory stores) other address ≡ walk target.depth memory other address
  apart_after address apart = subst (λ m. walk target.depth m other address ≡ walk target.depth memory other address) all_stores
      (apart_walk (length stores) address apart)

  pub table_after : (address level : ℕ) → MeetsNone target.depth memory target.root other base address
      → table_at (levels target.depth) (stored_all memory stores) other level address ≡ table_at (levels target.depth) memory other level address
  table_after address level apart = subst (λ m. table_at (levels target.depth) m other level address
      ≡ table_at (levels target.depth) memory other level address) all_stores (apart_table (length stores) address level apart)

  pub other_switched : IsSwitched target.depth target.root memory stores → IsSwitched target.depth other memory stores
  other_switched switched done address low canonical = ⊎_elim
      (λ shared.
      let now = shared_walk (shared_stays done address shared) in
      ⊎_elim
      (λ before. inl (now ∙ before ∙ sym (shared_walk shared)))
      (λ later. inr (now ∙ later ∙ sym (shared_walk (shared_after address shared))))
      (switched done address low canonical))
      (λ apart. inl (apart_walk done address apart))
      (beside.ways address)

  -- no way leads from the other root to a frame that was unlinked
  pub other_freed : AreUnreached target.depth other (stored_all memory stores) unlinked
  other_freed number named level address at = by (are.gone number named) (beside.ways address)
    where
      root_is : level ≡ levels target.depth → other ≡ number
      root_is top =
          let first : table_at (levels target.depth) (stored_all memory stores) other level address ≡ Some other =
          subst (λ l. table_at (levels target.depth) (stored_all memory stores) other l address ≡ Some other) (sym top)
          (table_first (levels target.depth) other (stored_all memory stores) address) in
          cc

      by : WasUnlinked target memory (stored_all memory stores) base number
          → (IsShared target.depth memory target.root other address ⊎ MeetsNone target.depth memory target.root other base address) → ⊥
      by is (inl shared) = ⊎_elim
          (λ (top : level ≡ levels target.depth). beside.root is.level (is.was ∙ ap Some (sym (root_is top))))
          (λ (low : level ≢ levels target.depth). is.unreached level address (sym (shared_table (shared_after address shared) level low) ∙ at))
          (cases_eq level (levels target.depth))
      by is (inr apart) =
          let before : table_at (levels target.depth) memory other level address ≡ Some number =
          sym (subst (λ m. table_at (levels target.depth) m other level address ≡ table_at (levels target.depth) memory other level address) all_stores
          (apart_table (length stores) address level apart)) ∙ at in
          apart level is.level number before is.was

  -- ---- what is so for the root is so for the other

  other_alone : (P : ℕ → Size → Type 0) → ChangesAlone target.depth target.root memory (stored_all memory stores) P
      → ChangesAlone target.depth other memory (stored_all memory stores) P
  other_alone P alone address phys size rights canonical mapped = ⊎_elim
      (λ shared. ⊎_elim
      (λ same. inl (shared_walk (shared_after address shared) ∙ same ∙ sym (shared_walk shared)))
      (λ there. inr there)
      (alone address phys size rights canonical (sym (shared_walk shared) ∙ mapped)))
      (λ apart. inl (apart_after address apart))
      (beside.ways address)

  -- where the other root leads to the frame of a store, the root does at that level
  abbrev LeadsToo : Store → Type 0
  LeadsToo s = (level address : ℕ) → table_at (levels target.depth) memory other level address ≡ Some s.frame
      → table_at (levels target.depth) memory target.root level address ≡ Some s.frame

  leads_too : (s : Store) → IsStore target memory base other s → SpareToo s → LeadsToo s
  leads_too s (OffWays unreached) spare level address at = absurd (spare unreached level address at)
  leads_too s (OnWay height reached keeps) spare level address at = ⊎_elim
      (λ shared. ⊎_elim
      (λ (top : level ≡ levels target.depth).
      let first : table_at (levels target.depth) memory other level address ≡ Some other =
      subst (λ l. table_at (levels target.depth) memory other l address ≡ Some other) (sym top) (table_first (levels target.depth) other memory address) in
      absurd (beside.root height (reached ∙ sym at ∙ first)))
      (λ (low : level ≢ levels target.depth). sym (shared_table shared level low) ∙ at)
      (cases_eq level (levels target.depth)))
      (λ apart. absurd (apart level height s.frame at reached))
      (beside.ways address)

  all_lead : All LeadsToo stores
  all_lead = λ k d lt. leads_too (get_or stores k d) (are.meant k d lt) (beside.spare k d lt)

  other_once : (s : Store) → LeadsToo s → IsOnceFor target.depth memory target.root s → IsOnceFor target.depth memory other s
  other_once s leads once = (once.0, λ level b reached. once.1 level b (leads level b reached))

  other_end : (s : Store) → LeadsToo s → IsEndFor target.depth memory target.root s → IsEndFor target.depth memory other s
  other_end s leads end = record {
    once = other_once s leads end.once;
    ends = λ level b reached. end.ends level b (leads level b reached);
  }

  pub for_other : (flush : Flush) → AreFor target.depth memory target.root stores flush → AreFor target.depth memory other stores flush
  for_other Nothing for_root = tt
  for_other (Page page size) for_root =
      (other_alone _ for_root.0, λ k d lt. other_end (get_or stores k d) (all_lead k d lt) (for_root.1 k d lt))
  for_other (PageAndTables page size) for_root = other_alone _ for_root
  for_other (Range page size) for_root =
      (other_alone _ for_root.0, λ k d lt. other_once (get_or stores k d) (all_lead k d lt) (for_root.1 k d lt))
