-- The flush of a right plan suffices.
use Rattle.std.proofs.Common.{◌≡◌, ◌≢◌, ℕ, zero, suc, ◌+◌, ◌-◌, ◌%◌, ◌<◌, ◌≤◌, List, [], ◌∷◌, All, Option, Some, None, ◌⊎◌, inl, inr, ⊎_elim, refl, sym, ap}
use Rattle.std.proofs.Common.{subst, ◌∙◌, arith, get_or}
use Rattle.std.specs.Prelude.{slice_index}
use Rattle.std.proofs.lemmas.Bool.{cases_lt}
use Rattle.std.proofs.lemmas.List.Elements.{All-head, All-tail, All-cons, All-nil}
use Rattle.vs_types.specs.Depth.{levels, index_at, IsCanonical}
use Rattle.vs_types.specs.Entry.{meaning, size_at}
use Rattle.vs_types.specs.Page.{level_of}
use Rattle.vs_types.specs.Space.{Space}
use Rattle.vs_types.specs.declared.addresses.depth.Depth.{Depth}
use Rattle.vs_types.specs.declared.addresses.page.Rights.{Rights}
use Rattle.vs_types.specs.declared.addresses.page.Size.{Size}
use Rattle.vs_types.specs.declared.addresses.page.Size.TheVariants.{K4}
use Rattle.vs_types.specs.declared.entries.entry.Meaning.TheVariants as entry
use Rattle.vs_walk.specs.Memory.{Memory}
use Rattle.vs_walk.proofs.Walks.{leaf_level}
use Rattle.vs_space.specs.Held.{word_at}
use Rattle.vs_space.specs.Path.{found_at, table_in, table_at}
use Rattle.vs_types.proofs.Pages.{three_levels}
use Rattle.vs_walk.proofs.TranslatedBits.{no_table_below}
use Rattle.vs_space.proofs.Paths.{none_past, reached_within, table_before, table_below, words_found}
use Rattle.vs_space.proofs.Regions.{level_back}
use Rattle.vs_plan.specs.declared.plans.plan.Fill.{Fill}
use Rattle.vs_plan.specs.declared.plans.plan.Flush.{Flush}
use Rattle.vs_plan.specs.declared.plans.plan.Flush.TheVariants.{Nothing, Page, Range}
use Rattle.vs_plan.specs.declared.plans.plan.Plan.{Plan}
use Rattle.vs_plan.specs.declared.plans.plan.Reply.{Reply}
use Rattle.vs_plan.specs.declared.plans.plan.Reply.TheVariants as replies
use Rattle.vs_plan.specs.declared.plans.plan.Store.{Store}
use Rattle.vs_plan.specs.declared.plans.request.Request.{Request}
use Rattle.vs_plan.specs.declared.plans.request.Request.TheVariants.{Map, Unmap, Protect, Ask, Remap, Split, Join, Prune, UnmapPart, Collapse}
use Rattle.vs_plan.specs.declared.plans.target.Target.{Target}
use Rattle.vs_types.specs.Bits.{with_rights}
use Rattle.vs_plan.specs.Changes.{larger}
use Rattle.vs_plan.specs.Premise.{IsPremise, HasOwnWay}
use Rattle.vs_plan.specs.Request.{address_of, stepped}
use Rattle.vs_plan.specs.Answered.{space_after}
use Rattle.vs_plan.specs.Right.{IsRight, IsMeant, OfPage, OfLink, OfSpare, IsEntryOf, IsSplit, begun}
use Rattle.vs_plan.specs.Stores.{stored, stored_all, FindTheirWords}
use Rattle.vs_plan.specs.Flushed.{Suffices}
use Rattle.vs_plan.proofs.Orders.{AllAdd}
use Rattle.vs_plan.proofs.Stays.{ChangesPageAlone}
use Rattle.vs_plan.proofs.WordOrders.{fill_is_more}
use Rattle.vs_plan.proofs.Sufficing.{IsSwitched}
use Rattle.vs_plan.proofs.Given.{IsGiven, parts_of, all_unreached, change_canonical}
use Rattle.vs_plan.proofs.OneEntry.{IsAt, page_alone, range_alone}
use Rattle.vs_plan.proofs.Forms.{HasForm, Adds, Clears, Unlinks, Replaces, Resizes, IsOnceFor, IsEndFor, AreFor, form_suffices}
use Rattle.vs_plan.proofs.Apart.{LooksApart, unmap_apart, protect_apart, changes_alone}
use Rattle.vs_plan.proofs.Stored.{even_absent, found_word, used_word}
use Rattle.vs_plan.proofs.Filled.{table_as, translates_as, own_as}

-- ---- what the stores are

adds : (memory : Memory) (stores : List Store) → FindTheirWords memory stores → All (λ (s : Store). s.old % 2 ≡ 0) stores → AllAdd memory stores
adds memory [] found all = tt
adds memory (s ∷ later) found all = (
  fill_is_more memory s.frame s.index s.old s.new found.0 (All-head (λ (s : Store). s.old % 2 ≡ 0) s later all),
  adds (stored memory s) later found.1 (All-tail (λ (s : Store). s.old % 2 ≡ 0) s later all),
)

-- a store changes an entry on the way of the address that leads to no table, or a frame to which no path leads
abbrev IsEnd : Target → Memory → ℕ → Store → Type 0
IsEnd target memory address s =
    ((level : ℕ) × (table_at (levels target.depth) memory target.root level address ≡ Some s.frame) × (table_in (Some (meaning level s.old)) ≡ None))
    ⊎ ((level b : ℕ) → table_at (levels target.depth) memory target.root level b ≢ Some s.frame)

nothing_unlinked : {target : Target} {memory : Memory} {address : ℕ} {s : Store} → IsMeant target memory address [] s → IsEnd target memory address s
nothing_unlinked (OfPage on ends) = inl (on.level, on.reached, ends)
nothing_unlinked (OfLink on below leads named high new) = absurd (omega (arith, named.1))
nothing_unlinked (OfSpare spare low) = inr spare.unreached

-- a word that is given other rights is no link that is taken away
not_cleared : (level word below : ℕ) (rights : Rights) → with_rights word rights ≡ 0 → table_in (Some (meaning level word)) ≡ Some below → ⊥
not_cleared level word below rights clear leads =
    let none = ap (λ e. table_in (Some e)) (even_absent level word (first (word % 2) _ _ _ _ clear)) in cc
  where
    first : (a b c d e : ℕ) → a + b + c + d + e ≡ 0 → a ≡ 0
    first a b c d e is = omega arith

new_rights : {target : Target} {memory : Memory} {address : ℕ} {unlinked : List ℕ} {s : Store} (rights : Rights) → s.new ≡ with_rights s.old rights
    → IsMeant target memory address unlinked s → IsEnd target memory address s
new_rights rights is (OfPage on ends) = inl (on.level, on.reached, ends)
new_rights {s = s} rights is (OfLink on below leads named high new) = absurd (not_cleared on.level s.old below rights (sym is ∙ new) leads)
new_rights rights is (OfSpare spare low) = inr spare.unreached

-- ---- the frame of such a store is the table of one level

once_on_way : (target : Target) (memory : Memory) (address level frame : ℕ) → HasOwnWay target.depth memory target.root address
    → table_at (levels target.depth) memory target.root level address ≡ Some frame → (other b : ℕ)
    → table_at (levels target.depth) memory target.root other b ≡ Some frame → other ≡ level
once_on_way target memory address level frame own at other b reached = (own.once level frame other b at reached).0

-- ---- what a right plan says of its own root

pub switched : {target : Target} {request : Request} {memory start : Memory} {space : Space} {offered : List (Option ℕ)} {reply : Reply}
    {fill : Option Fill} {stores : List Store} {unlinked : List ℕ} {flush : Flush}
    → IsGiven target request memory start space offered reply fill stores unlinked flush → IsSwitched target.depth target.root start stores
switched {target} {request} {memory} {start} {space} given done address low canonical = ⊎_elim
    (λ (later : given.safe.switch < done). inr (given.safe.since done later low address canonical ∙ sym (given.safe.done address canonical)))
    (λ (sooner : done ≤ given.safe.switch). inl (given.safe.until done sooner low address canonical
    ∙ sym (translates_as target.depth target.root memory start given.same space given.premise.translates address canonical)))
    (cases_lt given.safe.switch done)

-- the space after the stores is that of the step, or the one before
after_cases : (P : Space → Type 0) (target : Target) (request : Request) (space : Space) (reply : Reply) → P space
    → P (stepped target.depth space request).space → P (space_after target request space reply)
after_cases P target request space (replies.Answer answer) same step = step
after_cases P target request space _ same step = same

-- ---- the entry of a page

-- the level of a table that is reached is no less than 1
pub some_level : (depth : Depth) (m : Memory) (root level base number : ℕ) → table_at (levels depth) m root level base ≡ Some number → 1 ≤ level
some_level depth m root zero base number at =
    let above = table_before (levels depth) root m 0 base number (omega (arith, three_levels depth)) at in
    let words = words_found 1 m above.0 base _ above.3 in
    absurd (no_table_below (slice_index words.0 (index_at 1 base)) number above.1 words.2)
some_level depth m root (suc level) base number at = omega arith

-- two entries of pages on one way are of one level
pub not_below : (depth : Depth) (m : Memory) (root base low number other level : ℕ) → table_at (levels depth) m root (suc low) base ≡ Some number
    → table_in (found_at (suc low) m number base) ≡ None → table_at (levels depth) m root level base ≡ Some other → suc low ≤ level
not_below depth m root base low number other level at ends there = ⊎_elim
    (λ (below : level < suc low).
    let none = none_past (levels depth) root m low level base (omega (arith, reached_within (levels depth) root m (suc low) base number at)) (omega arith)
    (table_below (levels depth) root m (suc low) low base number refl at ∙ ends) in
    absurd (cc))
    (λ (high : suc low ≤ level). high)
    (cases_lt level (suc low))

pub entry_lowest : (target : Target) (m : Memory) (base : ℕ) (size : Size) (word : ℕ) (is : IsEntryOf target m base size word) (other level : ℕ)
    → table_at (levels target.depth) m target.root level base ≡ Some other → is.level ≤ level
entry_lowest target m base size word is other level there = by is.level is.reached is.word_is is.leaf.2 where
  by : (l : ℕ) → table_at (levels target.depth) m target.root l base ≡ Some is.number → word_at m is.number (index_at l base) ≡ Some word
      → meaning l word ≡ entry.Leaf is.leaf.0 is.leaf.1 → l ≤ level
  by zero at told says = omega arith
  by (suc low) at told says = not_below target.depth m target.root base low is.number other level at
      (ap table_in (found_word (suc low) m is.number base word told ∙ ap Some says)) there

pub entry_sizes : (target : Target) (m : Memory) (base : ℕ) (size other : Size) (word second : ℕ) → IsEntryOf target m base size word
    → IsEntryOf target m base other second → size ≡ other
entry_sizes target m base size other word second a b =
    let up = entry_lowest target m base size word a b.number b.level b.reached in
    let down = entry_lowest target m base other second b a.number a.level a.reached in
    a.size_is ∙ ap size_at (omega arith) ∙ sym b.size_is

larger_level : (level : ℕ) → 1 ≤ level → level < 3 → level_of (larger (size_at level)) ≡ suc level
larger_level (suc zero) some few = refl
larger_level (suc (suc zero)) some few = refl
larger_level _ some few = absurd (omega arith)

pub some_stores : (s : Store) → s ∷ [] ≡ [] → ⊥
some_stores s none = cc

-- ---- by the request

module _ (target : Target) (memory start : Memory) (space : Space) (offered : List (Option ℕ)) (reply : Reply) (fill : Option Fill) where
  -- what a request says, for these stores
  abbrev Says : Request → List Store → List ℕ → Flush → Type 0
  Says request stores unlinked flush = IsGiven target request memory start space offered reply fill stores unlinked flush

  abbrev Starts : List Store → Flush → Type 0
  Starts stores flush = HasForm start stores flush

  abbrev ForRoot : List Store → Flush → Type 0
  ForRoot stores flush = AreFor target.depth start target.root stores flush

  -- ---- what the stores are

  form_of_none : (flush : Flush) → flush ≡ Nothing → Starts [] flush
  form_of_none flush is = subst (Starts []) (sym is) (Adds [] tt)

  pub form_of : (request : Request) (stores : List Store) (unlinked : List ℕ) (flush : Flush) → Says request stores unlinked flush → Starts stores flush
  form_of (Map page bits) [] unlinked flush given = form_of_none flush given.flushed
  form_of (Map page bits) (s ∷ later) unlinked flush given = subst (Starts (s ∷ later)) (sym given.flushed)
      (Adds (s ∷ later) (adds start (s ∷ later) given.found given.one_way))
  form_of (Unmap base) (s ∷ later) [] flush given = subst (Starts (s ∷ later)) (sym given.flushed.2)
      (Clears (s ∷ later) base given.flushed.0 given.found given.one_way)
  form_of (Unmap base) (s ∷ later) (number ∷ numbers) flush given = subst (Starts (s ∷ later)) (sym given.flushed.2)
      (Unlinks (s ∷ later) base given.flushed.0 given.found given.one_way)
  form_of (Protect base rights) (s ∷ []) unlinked flush given = subst (Starts (s ∷ [])) (sym given.flushed.2) (Replaces s base given.flushed.0 given.found)
  form_of (Protect base rights) (s ∷ (t ∷ later)) unlinked flush given = let alone = given.written.1 in absurd (cc)
  form_of (Ask address) (s ∷ later) unlinked flush given = absurd given.flushed
  form_of (Remap base phys rights) (s ∷ []) unlinked flush given = subst (Starts (s ∷ [])) (sym given.flushed.2) (Replaces s base given.flushed.0 given.found)
  form_of (Split base) (s ∷ []) unlinked flush given = subst (Starts (s ∷ [])) (sym given.flushed.2) (Resizes s base given.flushed.0 given.found)
  form_of (Join base) (s ∷ []) unlinked flush given = subst (Starts (s ∷ [])) (sym given.flushed.3) (Resizes s base (larger given.flushed.0) given.found)
  form_of (UnmapPart base first count) (s ∷ []) unlinked flush given =
      subst (Starts (s ∷ [])) (sym given.flushed.2) (Resizes s base given.flushed.0 given.found)
  form_of (Collapse base phys rights) (s ∷ []) unlinked flush given =
      subst (Starts (s ∷ [])) (sym given.flushed.3) (Resizes s base (larger given.flushed.0) given.found)
  form_of (Prune address) (s ∷ []) unlinked flush given = subst (Starts (s ∷ [])) (sym given.flushed)
      (Unlinks (s ∷ []) address K4 given.found given.one_way)
  form_of _ (s ∷ (t ∷ later)) unlinked flush given = let alone = given.written in absurd (cc)
  form_of _ [] unlinked flush given = form_of_none flush given.flushed

  -- ---- what they are for the root

  for_none : (flush : Flush) → flush ≡ Nothing → ForRoot [] flush
  for_none flush is = subst (ForRoot []) (sym is) tt

  -- a store at an end of the way
  is_end : {request : Request} {stores : List Store} {unlinked : List ℕ} {flush : Flush} (s : Store) → Says request stores unlinked flush
      → IsEnd target memory (address_of request) s → IsEndFor target.depth start target.root s
  is_end {request} s given (inl on) = record {
    once = (on.0, level_is);
    ends = λ level b reached. subst (λ l. table_in (Some (meaning l s.old)) ≡ None) (sym (level_is level b reached)) on.2;
  } where
    level_is : (level b : ℕ) → table_at (levels target.depth) start target.root level b ≡ Some s.frame → level ≡ on.0
    level_is level b reached = once_on_way target memory (address_of request) on.0 s.frame given.premise.own on.1 level b
        (sym (table_as target.depth target.root memory start given.same level b) ∙ reached)
  is_end s given (inr unreached) = record {
    once = (0, λ level b reached. absurd (unreached level b (sym (table_as target.depth target.root memory start given.same level b) ∙ reached)));
    ends = λ level b reached. absurd (unreached level b (sym (table_as target.depth target.root memory start given.same level b) ∙ reached));
  }

  step_alone : {request : Request} {stores : List Store} {unlinked : List ℕ} {flush : Flush} (base : ℕ) → Says request stores unlinked flush
      → ((address : ℕ) → LooksApart space (stepped target.depth space request).space base address)
      → ChangesPageAlone target.depth target.root start (stored_all start stores) base
  step_alone {request} {stores} base given apart = changes_alone target.depth start (stored_all start stores) target.root space
      (space_after target request space reply) base
      (translates_as target.depth target.root memory start given.same space given.premise.translates) given.safe.done
      (λ address. after_cases (λ after. LooksApart space after base address) target request space reply (λ page at. inl refl) (apart address))

  -- the store at a level of the base's way, with the words of the memory in which it is made
  at_level : {request : Request} {s : Store} {unlinked : List ℕ} {flush : Flush} (low : ℕ) → Says request (s ∷ []) unlinked flush
      → IsCanonical target.depth (address_of request) → table_at (levels target.depth) memory target.root (suc low) (address_of request) ≡ Some s.frame
      → s.index ≡ index_at (suc low) (address_of request) → IsAt target.depth start target.root (address_of request) low s
  at_level {request} {s} low given canonical reached index = record {
    own = own_as target.depth target.root memory start given.same (address_of request) given.premise.own;
    reached = table_as target.depth target.root memory start given.same (suc low) (address_of request) ∙ reached;
    index = index;
    used = used_word start s.frame s.index s.old given.found.0;
    canonical = canonical;
  }

  only_level : {base : ℕ} {s : Store} {low : ℕ} → IsAt target.depth start target.root base low s → (level b : ℕ)
      → table_at (levels target.depth) start target.root level b ≡ Some s.frame → level ≡ suc low
  only_level {base} {s} {low} at level b reached = (at.own.once (suc low) s.frame level b at.reached reached).0

  at_once : {base : ℕ} {s : Store} {low : ℕ} → IsAt target.depth start target.root base low s → IsOnceFor target.depth start target.root s
  at_once {base} {s} {low} at = (suc low, only_level at)

  -- the entry of a page, where it is that of the store
  pub record IsEntry (base : ℕ) (size : Size) (s : Store) : Type 0 where
    pub entry_is : IsEntryOf target memory base size s.old
    pub frame : s.frame ≡ entry_is.number
    pub at : s.index ≡ index_at entry_is.level base
    pub low : ℕ
    pub level_is : entry_is.level ≡ suc low

  entry_at : {base : ℕ} {size : Size} (s : Store) (entry_is : IsEntryOf target memory base size s.old) → s.frame ≡ entry_is.number
      → s.index ≡ index_at entry_is.level base → IsEntry base size s
  entry_at {base} {size} s is frame at =
      let some = some_level target.depth memory target.root is.level base is.number is.reached in
      record { entry_is = is; frame = frame; at = at; low = is.level - 1; level_is = omega (arith, some) }

  module _ {base : ℕ} {size : Size} {s : Store} (is : IsEntry base size s) where
    entry_reached : table_at (levels target.depth) memory target.root (suc is.low) base ≡ Some s.frame
    entry_reached = subst (λ l. table_at (levels target.depth) memory target.root l base ≡ Some s.frame) is.level_is
        (is.entry_is.reached ∙ ap Some (sym is.frame))

    entry_index : s.index ≡ index_at (suc is.low) base
    entry_index = is.at ∙ ap (λ l. index_at l base) is.level_is

    entry_says : meaning (suc is.low) s.old ≡ entry.Leaf is.entry_is.leaf.0 is.entry_is.leaf.1
    entry_says = subst (λ l. meaning l s.old ≡ entry.Leaf is.entry_is.leaf.0 is.entry_is.leaf.1) is.level_is is.entry_is.leaf.2

    entry_few : suc is.low ≤ 3
    entry_few = (leaf_level (suc is.low) s.old is.entry_is.leaf.0 is.entry_is.leaf.1 entry_says).0

    entry_size : level_of size ≡ suc is.low
    entry_size = ap level_of (is.entry_is.size_is ∙ ap size_at is.level_is) ∙ level_back (suc is.low) (omega arith) entry_few

  remap_for : (base phys : ℕ) (rights : Rights) (s : Store) (unlinked : List ℕ) (flush : Flush) (size : Size)
      → Says (Remap base phys rights) (s ∷ []) unlinked flush → ForRoot (s ∷ []) (Page base size)
  remap_for base phys rights s unlinked flush size given =
      let put = given.put.1 in
      let is = entry_at s put.entry_is put.frame put.at in
      let at = at_level is.low given (change_canonical given refl (some_stores s)) (entry_reached is) (entry_index is) in
      let found : found_at (suc is.low) start s.frame base ≡ Some (entry.Leaf is.entry_is.leaf.0 is.entry_is.leaf.1) =
      found_word (suc is.low) start s.frame base s.old (ap (word_at start s.frame) (sym (entry_index is)) ∙ given.found.0) ∙ ap Some (entry_says is) in (
        page_alone at is.entry_is.leaf.0 is.entry_is.leaf.1 found (entry_few is),
        All-cons (IsEndFor target.depth start target.root) s []
            (record {
              once = at_once at;
              ends = λ level b reached. subst (λ l. table_in (Some (meaning l s.old)) ≡ None) (sym (only_level at level b reached))
                  (ap (λ e. table_in (Some e)) (entry_says is));
            })
            (All-nil (IsEndFor target.depth start target.root)),
      )

  split_for : {request : Request} {gap count : ℕ} {table : Fill} (base : ℕ) (s : Store) (unlinked : List ℕ) (flush : Flush) (size : Size) (word : ℕ)
      → address_of request ≡ base → IsEntryOf target memory base size word → IsSplit target memory base gap count offered table s
      → IsCanonical target.depth (address_of request) → Says request (s ∷ []) unlinked flush → ForRoot (s ∷ []) (Range base size)
  split_for {request} base s unlinked flush size word place other put canonical given =
      let is = entry_at s put.entry_is put.frame put.at in
      let at = subst (λ a. IsAt target.depth start target.root a is.low s) place
      (at_level is.low given canonical
      (subst (λ a. table_at (levels target.depth) memory target.root (suc is.low) a ≡ Some s.frame) (sym place) (entry_reached is))
      (subst (λ a. s.index ≡ index_at (suc is.low) a) (sym place) (entry_index is))) in
      let same : size ≡ put.size = entry_sizes target memory base size put.size word s.old other put.entry_is in
      subst (λ z. ForRoot (s ∷ []) (Range base z)) (sym same) (
        range_alone at put.size (entry_size is) put.aligned,
        All-cons (IsOnceFor target.depth start target.root) s [] (at_once at) (All-nil (IsOnceFor target.depth start target.root)),
      )

  collapse_for : (base phys : ℕ) (rights : Rights) (s : Store) (unlinked : List ℕ) (flush : Flush) (size : Size) (word : ℕ)
      → IsEntryOf target memory base size word → Says (Collapse base phys rights) (s ∷ []) unlinked flush
      → ForRoot (s ∷ []) (Range base (larger size))
  collapse_for base phys rights s unlinked flush size word other given =
      let put = given.put.1 in
      let at = at_level put.level given (change_canonical given refl (some_stores s)) put.above put.index_is in
      let small : IsEntryOf target memory base (size_at put.level) put.first = record {
        level = put.level;
        number = put.number;
        reached = put.reached;
        word_is = put.first_is;
        leaf = (put.place, put.own, put.says);
        size_is = refl;
      } in
      let same : size ≡ size_at put.level = entry_sizes target memory base size (size_at put.level) word put.first other small in
      let some = some_level target.depth memory target.root put.level base put.number put.reached in
      subst (λ z. ForRoot (s ∷ []) (Range base (larger z))) (sym same) (
        range_alone at (larger (size_at put.level)) (larger_level put.level some put.few) put.aligned,
        All-cons (IsOnceFor target.depth start target.root) s [] (at_once at) (All-nil (IsOnceFor target.depth start target.root)),
      )

  join_for : (base : ℕ) (s : Store) (unlinked : List ℕ) (flush : Flush) (size : Size) (word : ℕ) → IsEntryOf target memory base size word
      → Says (Join base) (s ∷ []) unlinked flush → ForRoot (s ∷ []) (Range base (larger size))
  join_for base s unlinked flush size word other given =
      let put = given.put.1 in
      let at = at_level put.level given (change_canonical given refl (some_stores s)) put.above put.index_is in
      let small : IsEntryOf target memory base (size_at put.level) put.first = record {
        level = put.level;
        number = put.number;
        reached = put.reached;
        word_is = put.first_is;
        leaf = (put.phys, put.own, put.says);
        size_is = refl;
      } in
      let same : size ≡ size_at put.level = entry_sizes target memory base size (size_at put.level) word put.first other small in
      let some = some_level target.depth memory target.root put.level base put.number put.reached in
      subst (λ z. ForRoot (s ∷ []) (Range base (larger z))) (sym same) (
        range_alone at (larger (size_at put.level)) (larger_level put.level some put.few) put.aligned,
        All-cons (IsOnceFor target.depth start target.root) s [] (at_once at) (All-nil (IsOnceFor target.depth start target.root)),
      )

  pub are_for : (request : Request) (stores : List Store) (unlinked : List ℕ) (flush : Flush) → Says request stores unlinked flush → ForRoot stores flush
  are_for (Map page bits) (s ∷ later) unlinked flush given = subst (ForRoot (s ∷ later)) (sym given.flushed) tt
  are_for (Unmap base) (s ∷ later) [] flush given = subst (ForRoot (s ∷ later)) (sym given.flushed.2) (
    step_alone base given (unmap_apart given.premise.is_space 0 base),
    λ k d lt. is_end (get_or (s ∷ later) k d) given (nothing_unlinked (given.meant k d lt)),
  )
  are_for (Unmap base) (s ∷ later) (number ∷ numbers) flush given = subst (ForRoot (s ∷ later)) (sym given.flushed.2)
      (step_alone base given (unmap_apart given.premise.is_space 0 base))
  are_for (Protect base rights) (s ∷ []) unlinked flush given = subst (ForRoot (s ∷ [])) (sym given.flushed.2) (
    step_alone base given (protect_apart given.premise.is_space 0 base rights),
    All-cons (IsEndFor target.depth start target.root) s []
        (is_end s given (new_rights rights given.written.0 (All-head (IsMeant target memory base unlinked) s [] given.meant)))
        (All-nil (IsEndFor target.depth start target.root)),
  )
  are_for (Protect base rights) (s ∷ (t ∷ later)) unlinked flush given = let alone = given.written.1 in absurd (cc)
  are_for (Ask address) (s ∷ later) unlinked flush given = absurd given.flushed
  are_for (Remap base phys rights) (s ∷ []) unlinked flush given = subst (ForRoot (s ∷ [])) (sym given.flushed.2)
      (remap_for base phys rights s unlinked flush given.flushed.0 given)
  are_for (Split base) (s ∷ []) unlinked flush given = subst (ForRoot (s ∷ [])) (sym given.flushed.2)
      (split_for base s unlinked flush given.flushed.0 s.old refl given.flushed.1 given.put.2 (change_canonical given refl (some_stores s)) given)
  are_for (UnmapPart base first count) (s ∷ []) unlinked flush given = subst (ForRoot (s ∷ [])) (sym given.flushed.2)
      (split_for base s unlinked flush given.flushed.0 s.old refl given.flushed.1 given.put.2 (change_canonical given refl (some_stores s)) given)
  are_for (Collapse base phys rights) (s ∷ []) unlinked flush given = subst (ForRoot (s ∷ [])) (sym given.flushed.3)
      (collapse_for base phys rights s unlinked flush given.flushed.0 given.flushed.1 given.flushed.2 given)
  are_for (Join base) (s ∷ []) unlinked flush given = subst (ForRoot (s ∷ [])) (sym given.flushed.3)
      (join_for base s unlinked flush given.flushed.0 given.flushed.1 given.flushed.2 given)
  are_for (Prune address) (s ∷ []) unlinked flush given = subst (ForRoot (s ∷ [])) (sym given.flushed)
      (step_alone address given (λ b page at. inl refl))
  are_for _ [] unlinked flush given = for_none flush given.flushed
  are_for _ (s ∷ (t ∷ later)) unlinked flush given = let alone = given.written in absurd (cc)

pub plan_suffices : (target : Target) (request : Request) (memory : Memory) (space : Space) (offered : List (Option ℕ)) (plan : Plan)
    → IsPremise target.depth memory target.root (address_of request) space → IsRight target request memory space offered plan
    → Suffices target.depth target.root (begun memory plan) plan.stores.items plan.flush plan.unlinked.items
plan_suffices target request memory space offered plan premise right =
    let given = parts_of premise right in
    form_suffices target.depth target.root (begun memory plan) plan.stores.items plan.flush plan.unlinked.items
    (form_of target memory (begun memory plan) space offered plan.reply plan.fill request plan.stores.items plan.unlinked.items plan.flush given)
    (switched given)
    (all_unreached target memory (stored_all (begun memory plan) plan.stores.items) request plan.unlinked.items given.gone)
    (are_for target memory (begun memory plan) space offered plan.reply plan.fill request plan.stores.items plan.unlinked.items plan.flush given)
