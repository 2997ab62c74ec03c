-- What a right plan unlinks: each table that was reached is reached after it, or is named; and a table that is named leads to no table any more.
use Rattle.std.proofs.Common.{◌≡◌, ◌≢◌, ℕ, zero, suc, ◌+◌, ◌*◌, ◌%◌, ◌/◌, ◌^◌, ◌<◌, ◌≤◌, List, [], ◌∷◌, All, Contains, Option, Some, None, Bool, true, false, ◌⊎◌, inl, inr, ⊎_elim, refl, sym, ap}
use Rattle.std.proofs.Common.{subst, ◌∙◌, arith}
use Rattle.std.specs.Prelude.{option_map, ◌==◌}
use Rattle.std.specs.Int.{bit_at}
use Rattle.std.proofs.lemmas.Bool.{cases_eq}
use Rattle.std.proofs.lemmas.Option.{same_Some}
use Rattle.std.proofs.lemmas.List.Elements.{All-head, All-tail, All-contains}
use Rattle.vs_types.specs.Depth.{levels, index_at}
use Rattle.vs_types.specs.Entry.{meaning, size_at, has_reserved, is_leaf, rights_of}
use Rattle.vs_types.specs.Space.{Space}
use Rattle.vs_types.specs.declared.addresses.depth.Depth.{Depth}
use Rattle.vs_types.specs.declared.addresses.page.Rights.{Rights}
use Rattle.vs_types.specs.declared.entries.entry.Meaning.TheVariants as entry
use Rattle.vs_walk.specs.Memory.{Memory}
use Rattle.vs_walk.proofs.TranslatedBits.{no_table_below}
use Rattle.vs_space.specs.Held.{word_at}
use Rattle.vs_space.specs.Path.{found_at, entry_in, table_in, table_at}
use Rattle.vs_types.proofs.Placed.{said}
use Rattle.vs_space.proofs.Footprints.{word_elsewhere}
use Rattle.vs_space.proofs.Links.{found_in_zeros}
use Rattle.vs_space.proofs.Writes.{found_alike}
use Rattle.vs_plan.specs.declared.plans.plan.Fill.{Fill}
use Rattle.vs_plan.specs.declared.plans.plan.Flush.{Flush}
use Rattle.vs_plan.specs.declared.plans.plan.Reply.{Reply}
use Rattle.vs_plan.specs.declared.plans.plan.Store.{Store}
use Rattle.vs_plan.specs.declared.plans.request.Request.{Request}
use Rattle.vs_plan.specs.declared.plans.request.Request.TheVariants.{Join, Prune, Collapse}
use Rattle.vs_plan.specs.declared.plans.target.Target.{Target}
use Rattle.vs_types.specs.Bits.{unflagged}
use Rattle.vs_plan.specs.Flushed.{while_stored, Suffices}
use Rattle.vs_plan.specs.Premise.{HasOwnWay}
use Rattle.vs_plan.specs.Processor.{region_number, Kept, Translation, PagingEntry, OfRoot, OfTable}
use Rattle.vs_plan.specs.Processor.{Moment, Is, IsDropped, MayKeep, IsUpToDate}
use Rattle.vs_plan.specs.Request.{address_of}
use Rattle.vs_plan.specs.Answered.{Follows, IsLike}
use Rattle.vs_plan.specs.Right.{IsMeant, OfPage as OfEntry, OfLink, OfSpare, IsMeantBy, IsUnlinkedBy, IsPut}
use Rattle.vs_plan.specs.Stores.{stored, stored_all, FindTheirWords}
use Rattle.vs_plan.proofs.Filled.{table_as}
use Rattle.vs_plan.proofs.Forms.{HasForm, Adds, Clears, Unlinks, Replaces, Resizes, IsOnceFor, AreFor, takes}
use Rattle.vs_plan.proofs.Given.{IsGiven, was_unlinked}
use Rattle.vs_plan.proofs.Kept.{IsClosed, all_reads, Reads, stays_up_to_date, entry_path}
use Rattle.vs_plan.proofs.Orders.{less_refl, taken}
use Rattle.vs_plan.proofs.PlansSuffice.{some_level}
use Rattle.vs_plan.proofs.Replaced.{IsCalm, word_calm, replaced_keeps}
use Rattle.vs_plan.proofs.RunWords.{leaf_parts}
use Rattle.vs_plan.proofs.Stays.{entry_reached}
use Rattle.vs_plan.proofs.Stored.{found_word, used_word}

-- ---- the word of a frame after some stores

-- it is as before, or a store changes it, which found it so
words_change : (P : Store → Type 0) (m : Memory) (stores : List Store) → All P stores → FindTheirWords m stores → (n i : ℕ)
    → (word_at (stored_all m stores) n i ≡ word_at m n i)
    ⊎ ((s : Store) × P s × (s.frame ≡ n) × (word_at m n i ≡ Some s.old))
words_change P m [] all found n i = inl refl
words_change P m (s ∷ later) all found n i =
    let rest = words_change P (stored m s) later (All-tail P s later all) found.1 n i in
    ⊎_elim
    (λ (frame : n ≡ s.frame). ⊎_elim
    (λ (index : i ≡ s.index). inr (
      s,
      All-head P s later all,
      sym frame,
      ap (λ x. word_at m x i) frame ∙ ap (word_at m s.frame) index ∙ found.0,
    ))
    (λ (apart : i ≢ s.index). on rest (λ same. apart))
    (cases_eq i s.index))
    (λ (apart : n ≢ s.frame). on rest (λ same. absurd (apart same)))
    (cases_eq n s.frame)
  where
    on : (word_at (stored_all m (s ∷ later)) n i ≡ word_at (stored m s) n i)
        ⊎ ((t : Store) × P t × (t.frame ≡ n) × (word_at (stored m s) n i ≡ Some t.old)) → (n ≡ s.frame → i ≢ s.index)
        → (word_at (stored_all m (s ∷ later)) n i ≡ word_at m n i) ⊎ ((t : Store) × P t × (t.frame ≡ n) × (word_at m n i ≡ Some t.old))
    on rest apart =
        let stays : word_at (stored m s) n i ≡ word_at m n i =
        word_elsewhere m s.frame s.index s.new n i (used_word m s.frame s.index s.old found.0) apart in
        ⊎_elim
        (λ same. inl (same ∙ stays))
        (λ (change : (t : Store) × P t × (t.frame ≡ n) × (word_at (stored m s) n i ≡ Some t.old)). inr (change.0, change.1, change.2, sym stays ∙ change.3))
        rest

found_from : (level : ℕ) (m m' : Memory) (n a : ℕ) → word_at m' n (index_at level a) ≡ word_at m n (index_at level a)
    → found_at level m' n a ≡ found_at level m n a
unfolding found_at
found_from level m m' n a same = ap (option_map (meaning level)) same

-- ---- a link that a store changes is named

module _ (target : Target) (memory : Memory) (base : ℕ) (unlinked : List ℕ) (s : Store) (own : HasOwnWay target.depth memory target.root base)
    (level a next : ℕ) (reached : table_at (levels target.depth) memory target.root level a ≡ Some s.frame)
    (leads : table_in (Some (meaning level s.old)) ≡ Some next) where
  link_of : IsMeant target memory base unlinked s → Contains unlinked next
  link_of (OfEntry on ends) =
      let at : level ≡ on.level = (own.once on.level s.frame level a on.reached reached).0 in
      let none : table_in (Some (meaning level s.old)) ≡ None = ap (λ l. table_in (Some (meaning l s.old))) at ∙ ends in
      absurd (cc)
  link_of (OfLink on below to named high new) =
      let at : level ≡ on.level = (own.once on.level s.frame level a on.reached reached).0 in
      let both : Some next ≡ Some below = sym leads ∙ ap (λ l. table_in (Some (meaning l s.old))) at ∙ to in
      subst (Contains unlinked) (sym (same_Some next below both)) named
  link_of (OfSpare spare low) = absurd (spare.unreached level a reached)

meant_link : (target : Target) (memory : Memory) (request : Request) (unlinked : List ℕ) (s : Store)
    → HasOwnWay target.depth memory target.root (address_of request) → IsMeantBy target memory request unlinked s → (level a next : ℕ)
    → table_at (levels target.depth) memory target.root level a ≡ Some s.frame → table_in (Some (meaning level s.old)) ≡ Some next → Contains unlinked next
meant_link target memory (Join base) unlinked s own meant level a next reached leads =
    let at : level ≡ meant.on.level = (own.once meant.on.level s.frame level a meant.on.reached reached).0 in
    let both : Some next ≡ Some meant.below = sym leads ∙ ap (λ l. table_in (Some (meaning l s.old))) at ∙ meant.leads in
    subst (Contains unlinked) (sym (same_Some next meant.below both)) meant.named
meant_link target memory (Collapse base phys rights) unlinked s own meant level a next reached leads =
    let at : level ≡ meant.on.level = (own.once meant.on.level s.frame level a meant.on.reached reached).0 in
    let both : Some next ≡ Some meant.below = sym leads ∙ ap (λ l. table_in (Some (meaning l s.old))) at ∙ meant.leads in
    subst (Contains unlinked) (sym (same_Some next meant.below both)) meant.named
meant_link target memory request unlinked s own meant level a next reached leads =
    link_of target memory (address_of request) unlinked s own level a next reached leads meant

-- ---- a table that is named leads to no table

said_leaf : (p r l : Bool) (x : Rights) (phys n next : ℕ) (own : Rights) → l ≡ true → said p r l x phys n ≡ entry.Table next own → ⊥
said_leaf true false true x phys n next own leaf e = cc
said_leaf true true true x phys n next own leaf e = cc
said_leaf false r true x phys n next own leaf e = cc
said_leaf p r false x phys n next own leaf e = cc

-- an entry that follows on from a page is no link
follows_no_link : (level first index word phys : ℕ) (own : Rights) → 1 ≤ level → level < 3 → meaning level first ≡ entry.Leaf phys own
    → Follows (size_at level) first index word → (next : ℕ) (allows : Rights) → meaning level word ≡ entry.Table next allows → ⊥
follows_no_link (suc zero) first index word phys own some few says is next allows leads = no_table_below word next allows leads
follows_no_link (suc (suc zero)) first index word phys own some few says is next allows leads =
    let leaf = (leaf_parts 2 first phys own says).leaf in
    let seventh : bit_at word 7 ≡ bit_at first 7 = moved first word index is in
    said_leaf (bit_at word 0 == 1) (has_reserved 2 word) (is_leaf 2 word) (rights_of word) _ (word % 2 ^ 52 / 2 ^ 12) next allows
    (ap (λ (b : ℕ). b == 1) seventh ∙ leaf) leads
  where
    moved : (x y i : ℕ) → unflagged y ≡ unflagged x + i * 2097152 → bit_at y 7 ≡ bit_at x 7
    moved x y i is = omega (arith, is)
follows_no_link _ first index word phys own some few says is next allows leads = absurd (omega arith)

-- nor is one that is like it
like_no_link : (level first word phys : ℕ) (own : Rights) → 1 ≤ level → level < 3 → meaning level first ≡ entry.Leaf phys own
    → IsLike (size_at level) first word → (next : ℕ) (allows : Rights) → meaning level word ≡ entry.Table next allows → ⊥
like_no_link (suc zero) first word phys own some few says is next allows leads = no_table_below word next allows leads
like_no_link (suc (suc zero)) first word phys own some few says is next allows leads =
    let leaf = (leaf_parts 2 first phys own says).leaf in
    let seventh : bit_at word 7 ≡ bit_at first 7 = moved first word is in
    said_leaf (bit_at word 0 == 1) (has_reserved 2 word) (is_leaf 2 word) (rights_of word) _ (word % 2 ^ 52 / 2 ^ 12) next allows
    (ap (λ (b : ℕ). b == 1) seventh ∙ leaf) leads
  where
    moved : (x y : ℕ) → unflagged (y % 2097152 + 0 + y / 2 ^ 52 * 2 ^ 52) ≡ unflagged (x % 2097152 + 0 + x / 2 ^ 52 * 2 ^ 52) → bit_at y 7 ≡ bit_at x 7
    moved x y is = omega (arith, is)
like_no_link _ first word phys own some few says is next allows leads = absurd (omega arith)

entry_found : (level : ℕ) (m : Memory) (n a : ℕ) → found_at level m n a ≡ entry_in level m n (index_at level a)
unfolding found_at entry_in
entry_found level m n a = refl

pub in_one : (number other : ℕ) → Contains (number ∷ []) other → other ≡ number
in_one number other (zero, lt, is) = sym is
in_one number other (suc k, lt, is) = absurd (omega arith)

unlinked_no_link : (target : Target) (memory after : Memory) (offered : List (Option ℕ)) (fill : Option Fill) (unlinked : List ℕ) (request : Request)
    (stores : List Store) (number : ℕ) → HasOwnWay target.depth memory target.root (address_of request) → (stores ≡ [] → ⊥)
    → IsPut target request memory offered fill stores unlinked → Contains unlinked number → IsUnlinkedBy target memory after request number
    → (level a next : ℕ) (allows : Rights) → table_at (levels target.depth) memory target.root level a ≡ Some number
    → found_at level after number a ≡ Some (entry.Table next allows) → ⊥
unlinked_no_link target memory after offered fill unlinked (Join base) [] number own some put named is level a next allows reached leads = some refl
unlinked_no_link target memory after offered fill unlinked (Join base) (s ∷ later) number own some put named is level a next allows reached leads =
    let joined = put.1 in
    let same : number ≡ joined.number = in_one joined.number number (subst (λ u. Contains u number) joined.unlinked_is named) in
    let at : level ≡ joined.level = (own.once joined.level number level a (joined.reached ∙ ap Some (sym same)) reached).0 in
    let low : index_at level a < 512 = omega arith in
    let entry_is = joined.follow (index_at level a) low in
    let found : found_at level memory number a ≡ Some (meaning level entry_is.0) =
    found_word level memory number a entry_is.0 (ap (λ n. word_at memory n (index_at level a)) same ∙ entry_is.1) in
    let says : meaning level entry_is.0 ≡ entry.Table next allows =
    same_Some (meaning level entry_is.0) (entry.Table next allows) (sym found ∙ sym (found_alike level memory after number a is.same) ∙ leads) in
    follows_no_link joined.level joined.first (index_at level a) entry_is.0 joined.phys joined.own
    (some_level target.depth memory target.root joined.level base joined.number joined.reached) joined.few joined.says entry_is.2 next allows
    (subst (λ l. meaning l entry_is.0 ≡ entry.Table next allows) at says)
unlinked_no_link target memory after offered fill unlinked (Collapse base phys rights) [] number own some put named is level a next allows reached leads =
    some refl
unlinked_no_link target memory after offered fill unlinked (Collapse base phys rights) (s ∷ later) number own some put named is level a next allows
    reached leads =
    let joined = put.1 in
    let same : number ≡ joined.number = in_one joined.number number (subst (λ u. Contains u number) joined.unlinked_is named) in
    let at : level ≡ joined.level = (own.once joined.level number level a (joined.reached ∙ ap Some (sym same)) reached).0 in
    let low : index_at level a < 512 = omega arith in
    let entry_is = joined.alike (index_at level a) low in
    let found : found_at level memory number a ≡ Some (meaning level entry_is.0) =
    found_word level memory number a entry_is.0 (ap (λ n. word_at memory n (index_at level a)) same ∙ entry_is.1) in
    let says : meaning level entry_is.0 ≡ entry.Table next allows =
    same_Some (meaning level entry_is.0) (entry.Table next allows) (sym found ∙ sym (found_alike level memory after number a is.same) ∙ leads) in
    like_no_link joined.level joined.first entry_is.0 joined.place joined.own
    (some_level target.depth memory target.root joined.level base joined.number joined.reached) joined.few joined.says entry_is.2 next allows
    (subst (λ l. meaning l entry_is.0 ≡ entry.Table next allows) at says)
unlinked_no_link target memory after offered fill unlinked (Prune address) [] number own some put named is level a next allows reached leads = some refl
unlinked_no_link target memory after offered fill unlinked (Prune address) (s ∷ later) number own some put named is level a next allows reached leads =
    let cut = put.1 in
    let same : number ≡ cut.number = in_one cut.number number (subst (λ u. Contains u number) cut.unlinked_is named) in
    let at : level ≡ cut.level = (own.once cut.level number level a (cut.reached ∙ ap Some (sym same)) reached).0 in
    let low : index_at level a < 512 = omega arith in
    let absent : entry_in level memory number (index_at level a) ≡ Some entry.Absent =
    subst (λ l. entry_in l memory number (index_at level a) ≡ Some entry.Absent) (sym at)
    (ap (λ n. entry_in cut.level memory n (index_at level a)) same ∙ cut.empty (index_at level a) low) in
    let both : entry.Table next allows ≡ entry.Absent = same_Some (entry.Table next allows) entry.Absent
    (sym leads ∙ found_alike level memory after number a is.same ∙ entry_found level memory number a ∙ absent) in
    cc
unlinked_no_link target memory after offered fill unlinked request stores number own some put named is level a next allows reached leads =
    let both : entry.Table next allows ≡ entry.Absent = same_Some (entry.Table next allows) entry.Absent
    (sym leads ∙ found_in_zeros level after number a is.clear) in
    cc

module _ {target : Target} {request : Request} {memory start : Memory} {space : Space} {offered : List (Option ℕ)} {reply : Reply} {fill : Option Fill}
    {stores : List Store} {unlinked : List ℕ} {flush : Flush}
    (given : IsGiven target request memory start space offered reply fill stores unlinked flush) where
  as_before : (level a : ℕ) → table_at (levels target.depth) start target.root level a ≡ table_at (levels target.depth) memory target.root level a
  as_before = table_as target.depth target.root memory start given.same

  -- a link is as before, or the table to which it led is named
  link_stays : (below number a next : ℕ) (own : Rights) → table_at (levels target.depth) start target.root (suc below) a ≡ Some number
      → found_at (suc below) start number a ≡ Some (entry.Table next own)
      → (found_at (suc below) (stored_all start stores) number a ≡ Some (entry.Table next own)) ⊎ Contains unlinked next
  link_stays below number a next own reached found = ⊎_elim
      (λ same. inl (found_from (suc below) start (stored_all start stores) number a same ∙ found))
      (λ change.
      let s = change.0 in
      let at : table_at (levels target.depth) memory target.root (suc below) a ≡ Some s.frame =
      sym (as_before (suc below) a) ∙ reached ∙ ap Some (sym change.2) in
      let says : meaning (suc below) s.old ≡ entry.Table next own =
      same_Some (meaning (suc below) s.old) (entry.Table next own) (sym (found_word (suc below) start number a s.old change.3) ∙ found) in
      inr (meant_link target memory request unlinked s given.premise.own change.1 (suc below) a next at (ap (λ e. table_in (Some e)) says)))
      (words_change (IsMeantBy target memory request unlinked) start stores given.meant given.found number (index_at (suc below) a))

  -- a table that is named leads to no table
  pub no_link : (number level a next : ℕ) (allows : Rights) → Contains unlinked number
      → table_at (levels target.depth) start target.root level a ≡ Some number
      → found_at level (stored_all start stores) number a ≡ Some (entry.Table next allows) → ⊥
  no_link number level a next allows named reached leads =
      let is = All-contains (IsUnlinkedBy target memory (stored_all start stores) request) unlinked number given.gone named in
      let was = was_unlinked target memory (stored_all start stores) request number is in
      unlinked_no_link target memory (stored_all start stores) offered fill unlinked request stores number given.premise.own
      (λ none. was.unreached was.level (address_of request)
      (ap (λ (xs : List Store). table_at (levels target.depth) (stored_all start xs) target.root was.level (address_of request)) none
      ∙ as_before was.level (address_of request) ∙ was.was))
      given.put named is level a next allows (sym (as_before level a) ∙ reached) leads

  abbrev Goes : Kept → Type 0
  Goes (Translation level page frame rights) = Unit {0}
  Goes (PagingEntry level region number rights) = Reads target.depth target.root start (PagingEntry level region number rights)
      × (Reads target.depth target.root (stored_all start stores) (PagingEntry level region number rights) ⊎ Contains unlinked number)

  goes_closed : IsClosed target.depth target.root start Goes
  goes_closed = record {
    of_root = λ address canonical. (OfRoot address canonical, inl (OfRoot address canonical));
    of_table = λ address below number next rights own canonical table found.
        let reached = entry_path target.depth target.root start (suc below) (region_number (suc below) address) number rights table.0 address refl in (
          OfTable address below number next rights own canonical table.0 found,
          ⊎_elim
              (λ same. ⊎_elim
              (λ fresh. inl (OfTable address below number next rights own canonical fresh same))
              (λ named. absurd (no_link number (suc below) address next own named reached same))
              table.1)
              (λ named. inr named)
              (link_stays below number address next own reached found),
        );
    of_page = λ address below number phys rights own canonical table found. tt;
  }

  -- each table that may be kept of the memory before may be kept of that after the stores, or is named
  pub goes_or_named : (level region number : ℕ) (rights : Rights) → Reads target.depth target.root start (PagingEntry level region number rights)
      → Reads target.depth target.root (stored_all start stores) (PagingEntry level region number rights) ⊎ Contains unlinked number
  goes_or_named level region number rights reads = (all_reads goes_closed (PagingEntry level region number rights) reads).1

-- ---- which tables may be kept after the stores

module _ (depth : Depth) (root : ℕ) (start : Memory) (earlier : List Moment) (is : IsUpToDate depth root start earlier) where
  calm_once : (s : Store) → FindTheirWords start (s ∷ []) → IsOnceFor depth start root s → IsCalm depth root start (stored start s)
  calm_once s found once = word_calm depth root start s.frame s.index s.new once.0 (used_word start s.frame s.index s.old found.0)
      (λ level region rights reads.
      let reached = entry_reached depth root start level region s.frame rights reads in
      once.1 level reached.0 reached.1)

  -- those of the memory after them, or those of the memory before, where the flush drops all tables
  pub entry_after : (stores : List Store) (flush : Flush) (unlinked : List ℕ) → HasForm start stores flush → AreFor depth start root stores flush
      → Suffices depth root start stores flush unlinked → (level region number : ℕ) (rights : Rights)
      → MayKeep depth root (while_stored start stores earlier) (PagingEntry level region number rights)
      → Reads depth root (stored_all start stores) (PagingEntry level region number rights)
      ⊎ (Reads depth root start (PagingEntry level region number rights) × IsDropped flush (PagingEntry level region number rights))
  entry_after _ _ unlinked (Adds stores adds) are suffices level region number rights held =
      inl (suffices.after earlier is (PagingEntry level region number rights) (held, λ no. no))
  entry_after _ _ unlinked (Clears stores base size found clear) are suffices level region number rights held =
      inl (suffices.after earlier is (PagingEntry level region number rights) (held, λ no. no))
  entry_after _ _ unlinked (Unlinks stores base size found clear) are suffices level region number rights held = inr (
    (taken depth root start start stores earlier (less_refl start) (takes start stores found clear) is).0 (PagingEntry level region number rights) held,
    tt,
  )
  entry_after _ _ unlinked (Replaces s base size found) are suffices level region number rights held =
      inl (suffices.after earlier is (PagingEntry level region number rights) (held, λ no. no))
  entry_after _ _ unlinked (Resizes s base size found) are suffices level region number rights held = ⊎_elim
      (λ old. inr (old, tt))
      (λ new. inl new)
      (replaced_keeps depth root start (stored start s) (calm_once s found (All-head (IsOnceFor depth start root) s [] are.1)) (Is start ∷ earlier)
      (stays_up_to_date depth root start earlier is) (PagingEntry level region number rights) held)
