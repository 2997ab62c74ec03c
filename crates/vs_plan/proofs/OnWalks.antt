-- A flush that drops of the entries for tables only those on the walks of its addresses suffices after the stores of a right plan.
use Rattle.std.proofs.Common.{◌≡◌, ℕ, suc, ◌<◌, List, [], ◌∷◌, Contains, Option, Some, None, ◌⊎◌, inl, inr, ⊎_elim}
use Rattle.std.proofs.Common.{refl, sym, ap, subst, ◌∙◌, arith}
use Rattle.std.proofs.lemmas.List.Elements.{All-contains, All-head}
use Rattle.std.proofs.lemmas.Option.{same_Some}
use Rattle.vs_types.specs.Depth.{levels, index_at, IsCanonical}
use Rattle.vs_types.specs.Entry.{meaning}
use Rattle.vs_types.specs.Page.{bytes_of}
use Rattle.vs_types.specs.Space.{Space}
use Rattle.vs_types.specs.declared.entries.entry.Meaning.TheVariants as entry
use Rattle.vs_types.specs.declared.addresses.page.Rights.{Rights}
use Rattle.vs_types.specs.declared.addresses.page.Size.{Size}
use Rattle.vs_types.specs.declared.addresses.page.Size.TheVariants.{K4, M2, G1}
use Rattle.vs_types.proofs.Lists.{Contains-cases, not_in_nil}
use Rattle.vs_walk.specs.Memory.{Memory}
use Rattle.vs_space.specs.Path.{found_at, table_in, table_at, SamePath}
use Rattle.vs_space.proofs.Links.{found_in_zeros}
use Rattle.vs_space.proofs.Paths.{reached_within}
use Rattle.vs_space.proofs.Prunes.{found_entry}
use Rattle.vs_space.proofs.Regions.{same_stretch}
use Rattle.vs_space.proofs.Writes.{found_alike, same_longer}
use Rattle.vs_plan.specs.declared.plans.plan.Fill.{Fill}
use Rattle.vs_plan.specs.declared.plans.plan.Flush.{Flush}
use Rattle.vs_plan.specs.declared.plans.plan.Flush.TheVariants.{Nothing, Page, PageAndTables, Range}
use Rattle.vs_plan.specs.declared.plans.plan.Plan.{Plan}
use Rattle.vs_plan.specs.declared.plans.plan.Reply.{Reply}
use Rattle.vs_plan.specs.declared.plans.plan.Store.{Store}
use Rattle.vs_plan.specs.declared.plans.request.Request.{Request}
use Rattle.vs_plan.specs.declared.plans.request.Request.TheVariants.{Map, Unmap, Protect, Ask, Remap, Split, Join, Prune, UnmapPart, Collapse}
use Rattle.vs_plan.specs.declared.plans.target.Target.{Target}
use Rattle.vs_plan.specs.Changes.{larger}
use Rattle.vs_plan.specs.Flushed.{Suffices, while_stored}
use Rattle.vs_plan.specs.OnWalk.{IsDroppedOnWalk}
use Rattle.vs_plan.specs.Other.{HasSameTables}
use Rattle.vs_plan.specs.Premise.{IsPremise, HasOwnWay}
use Rattle.vs_plan.specs.Processor.{region_number, Kept, Translation, PagingEntry, OfRoot, OfTable, IsDropped, Moment, Is, MayKeep, IsUpToDate}
use Rattle.vs_plan.specs.Request.{address_of}
use Rattle.vs_plan.specs.Right.{IsRight, IsOnWay, IsMeant, OfPage, OfLink, OfSpare, IsMeantBy, IsMeantByJoin, IsUnlinked, IsUnlinkedBy, IsPut}
use Rattle.vs_plan.specs.Right.{IsJoined, IsCollapsed, IsCut, IsFlushed, begun}
use Rattle.vs_plan.specs.Stores.{stored, stored_all}
use Rattle.vs_plan.proofs.Filled.{table_as}
use Rattle.vs_plan.proofs.Forms.{HasForm, Adds, Clears, Unlinks, Replaces, Resizes, IsEndFor, IsOnceFor, AreFor, calm_once, takes}
use Rattle.vs_plan.proofs.Given.{IsGiven, parts_of, was_unlinked}
use Rattle.vs_plan.proofs.Kept.{IsClosed, Reads, all_reads, entry_path, stays_up_to_date}
use Rattle.vs_plan.proofs.LinkedEntries.{found_still, no_link, follows_leaf, like_leaf}
use Rattle.vs_plan.proofs.Orders.{added, taken, less_refl}
use Rattle.vs_plan.proofs.PlansSuffice.{form_of, are_for, plan_suffices, some_level}
use Rattle.vs_plan.proofs.Replaced.{replaced_keeps}
use Rattle.vs_plan.proofs.Stored.{found_word}

-- the only element of a list
only : (x y : ℕ) (xs : List ℕ) → xs ≡ x ∷ [] → Contains xs y → x ≡ y
only x y xs is named =
    ⊎_elim (λ same. same) (λ none. absurd (not_in_nil y none)) (Contains-cases x [] y (subst (λ (l : List ℕ). Contains l y) is named))

-- ---- stores into entries that lead to tables

module _ (target : Target) (memory start : Memory) (same : HasSameTables target.depth target.root memory start) (unlinked : List ℕ) where
  at_first : (level b number : ℕ) → table_at (levels target.depth) start target.root level b ≡ Some number
      → table_at (levels target.depth) memory target.root level b ≡ Some number
  at_first level b number at = sym (table_as target.depth target.root memory start same level b) ∙ at

  -- such an entry is on the way of the base, and its table is unlinked
  abbrev Cuts : ℕ → Store → Type 0
  Cuts base s = (level b next : ℕ) (own : Rights) → table_at (levels target.depth) start target.root level b ≡ Some s.frame
      → index_at level b ≡ s.index → meaning level s.old ≡ entry.Table next own
      → Contains unlinked next × SamePath (levels target.depth) level base b

  module _ (base : ℕ) (own_way : HasOwnWay target.depth memory target.root base) (s : Store) where
    on_link : (on : IsOnWay target memory base s) (below : ℕ) → table_in (Some (meaning on.level s.old)) ≡ Some below → Contains unlinked below
        → Cuts base s
    on_link on below leads named level b next own at index says =
        let both = own_way.once on.level s.frame level b on.reached (at_first level b s.frame at) in
        let here : table_in (Some (meaning on.level s.old)) ≡ Some next =
        subst (λ (l : ℕ). table_in (Some (meaning l s.old)) ≡ Some next) both.0 (ap (λ e. table_in (Some e)) says) in
        let path : SamePath (levels target.depth) on.level base b =
        same_longer (levels target.depth) on.level base b both.1 (sym on.index ∙ sym index ∙ ap (λ (l : ℕ). index_at l b) both.0) in (
          subst (λ (n : ℕ). Contains unlinked n) (same_Some below next (sym leads ∙ here)) named,
          subst (λ (l : ℕ). SamePath (levels target.depth) l base b) (sym both.0) path,
        )

    on_page : (on : IsOnWay target memory base s) → table_in (Some (meaning on.level s.old)) ≡ None → Cuts base s
    on_page on ends level b next own at index says =
        let both = own_way.once on.level s.frame level b on.reached (at_first level b s.frame at) in
        let here : table_in (Some (meaning on.level s.old)) ≡ Some next =
        subst (λ (l : ℕ). table_in (Some (meaning l s.old)) ≡ Some next) both.0 (ap (λ e. table_in (Some e)) says) in
        let wrong = sym ends ∙ here in
        absurd (cc)

    meant_cuts : IsMeant target memory base unlinked s → Cuts base s
    meant_cuts (OfPage on ends) = on_page on ends
    meant_cuts (OfLink on below leads named high new) = on_link on below leads named
    meant_cuts (OfSpare spare low) = λ level b next own at index says. absurd (spare.unreached level b (at_first level b s.frame at))

    join_cuts : IsMeantByJoin target memory base unlinked s → Cuts base s
    join_cuts meant = on_link meant.on meant.below meant.leads meant.named

  cuts_by : (request : Request) (s : Store) → HasOwnWay target.depth memory target.root (address_of request) → IsMeantBy target memory request unlinked s
      → Cuts (address_of request) s
  cuts_by (Join base) s own meant = join_cuts base own s meant
  cuts_by (Collapse base phys rights) s own meant = join_cuts base own s meant
  cuts_by (Map page bits) s own meant = meant_cuts page.base own s meant
  cuts_by (Unmap base) s own meant = meant_cuts base own s meant
  cuts_by (Protect base rights) s own meant = meant_cuts base own s meant
  cuts_by (Ask address) s own meant = meant_cuts address own s meant
  cuts_by (Remap base phys rights) s own meant = meant_cuts base own s meant
  cuts_by (Split base) s own meant = meant_cuts base own s meant
  cuts_by (Prune address) s own meant = meant_cuts address own s meant
  cuts_by (UnmapPart base first count) s own meant = meant_cuts base own s meant

  -- ---- an unlinked table leads to no other

  -- no entry of it that leads to a table stays
  abbrev Ends : Memory → ℕ → Type 0
  Ends after number = (level b next : ℕ) (own : Rights) → table_at (levels target.depth) start target.root level b ≡ Some number
      → found_at level start number b ≡ Some (entry.Table next own) → found_at level after number b ≡ Some (entry.Table next own) → ⊥

  clear_ends : (after : Memory) (base number : ℕ) → IsUnlinked target memory after base number → Ends after number
  clear_ends after base number is level b next own at was now =
      let wrong : entry.Table next own ≡ entry.Absent = same_Some _ _ (sym now ∙ found_in_zeros level after number b is.clear) in cc

  -- what was found in a table that was reached
  found_before : (level b number : ℕ) → table_at (levels target.depth) start target.root level b ≡ Some number
      → found_at level start number b ≡ found_at level memory number b
  found_before level b number at = found_alike level memory start number b (same level b number (at_first level b number at))

  index_low : (level b : ℕ) → index_at level b < 512
  index_low level b = omega arith

  -- a table at a level of the base's way, in which no entry leads to one
  of_level : (base number level number' : ℕ) → HasOwnWay target.depth memory target.root base
      → table_at (levels target.depth) memory target.root level base ≡ Some number → number ≡ number'
      → ((b next : ℕ) (own : Rights) → found_at level memory number b ≡ Some (entry.Table next own) → ⊥) → (after : Memory) → Ends after number'
  of_level base number level number' own_way reached is none after other b next own at was now =
      let here : table_at (levels target.depth) start target.root other b ≡ Some number = at ∙ ap Some (sym is) in
      let both = own_way.once level number other b reached (at_first other b number here) in
      let found : found_at other memory number b ≡ Some (entry.Table next own) =
      sym (found_before other b number here) ∙ subst (λ (n : ℕ). found_at other start n b ≡ Some (entry.Table next own)) (sym is) was in
      none b next own (subst (λ (l : ℕ). found_at l memory number b ≡ Some (entry.Table next own)) both.0 found)

  joined_ends : (base : ℕ) (s : Store) (number : ℕ) → HasOwnWay target.depth memory target.root base → IsJoined target memory base unlinked s
      → Contains unlinked number → (after : Memory) → Ends after number
  joined_ends base s number own_way put named after =
      of_level base put.number put.level number own_way put.reached (only put.number number unlinked put.unlinked_is named)
      (λ b next own found.
      let at = put.follow (index_at put.level b) (index_low put.level b) in
      no_link put.level at.0 next own
      (follows_leaf put.level put.first (index_at put.level b) at.0 put.phys put.own
      (some_level target.depth memory target.root put.level base put.number put.reached) put.few put.says at.2)
      (same_Some _ _ (sym (found_word put.level memory put.number b at.0 at.1) ∙ found)))
      after

  collapsed_ends : (base phys : ℕ) (rights : Rights) (s : Store) (number : ℕ) → HasOwnWay target.depth memory target.root base
      → IsCollapsed target memory base phys rights unlinked s → Contains unlinked number → (after : Memory) → Ends after number
  collapsed_ends base phys rights s number own_way put named after =
      of_level base put.number put.level number own_way put.reached (only put.number number unlinked put.unlinked_is named)
      (λ b next own found.
      let at = put.alike (index_at put.level b) (index_low put.level b) in
      no_link put.level at.0 next own
      (like_leaf put.level put.first at.0 put.place put.own
      (some_level target.depth memory target.root put.level base put.number put.reached) put.few put.says at.2)
      (same_Some _ _ (sym (found_word put.level memory put.number b at.0 at.1) ∙ found)))
      after

  cut_ends : (address : ℕ) (s : Store) (number : ℕ) → HasOwnWay target.depth memory target.root address → IsCut target memory address unlinked s
      → Contains unlinked number → (after : Memory) → Ends after number
  cut_ends address s number own_way put named after =
      of_level address put.number put.level number own_way put.reached (only put.number number unlinked put.unlinked_is named)
      (λ b next own found.
      let wrong : entry.Table next own ≡ entry.Absent =
      same_Some _ _ (sym found ∙ found_entry put.level memory put.number b ∙ put.empty (index_at put.level b) (index_low put.level b)) in
      absurd (cc))
      after

  ends_by : (request : Request) (offered : List (Option ℕ)) (fill : Option Fill) (stores : List Store) (number : ℕ)
      → HasOwnWay target.depth memory target.root (address_of request) → IsPut target request memory offered fill stores unlinked
      → Contains unlinked number → IsUnlinkedBy target memory (stored_all start stores) request number → Ends (stored_all start stores) number
  ends_by request offered fill [] number own_way put named gone =
      λ level b next own at was now. absurd ((was_unlinked target memory start request number gone).unreached level b at)
  ends_by (Join base) offered fill (s ∷ later) number own_way put named gone = joined_ends base s number own_way put.1 named (stored_all start (s ∷ later))
  ends_by (Collapse base phys rights) offered fill (s ∷ later) number own_way put named gone =
      collapsed_ends base phys rights s number own_way put.1 named (stored_all start (s ∷ later))
  ends_by (Prune address) offered fill (s ∷ later) number own_way put named gone = cut_ends address s number own_way put.1 named (stored_all start (s ∷ later))
  ends_by (Map page bits) offered fill (s ∷ later) number own_way put named gone = clear_ends (stored_all start (s ∷ later)) page.base number gone
  ends_by (Unmap base) offered fill (s ∷ later) number own_way put named gone = clear_ends (stored_all start (s ∷ later)) base number gone
  ends_by (Protect base rights) offered fill (s ∷ later) number own_way put named gone = clear_ends (stored_all start (s ∷ later)) base number gone
  ends_by (Ask address) offered fill (s ∷ later) number own_way put named gone = clear_ends (stored_all start (s ∷ later)) address number gone
  ends_by (Remap base phys rights) offered fill (s ∷ later) number own_way put named gone = clear_ends (stored_all start (s ∷ later)) base number gone
  ends_by (Split base) offered fill (s ∷ later) number own_way put named gone = clear_ends (stored_all start (s ∷ later)) base number gone
  ends_by (UnmapPart base first count) offered fill (s ∷ later) number own_way put named gone = clear_ends (stored_all start (s ∷ later)) base number gone

-- ---- what may be kept of tables, before the stores and after them

module _ {target : Target} {request : Request} {memory start : Memory} {space : Space} {offered : List (Option ℕ)} {reply : Reply} {fill : Option Fill}
    {stores : List Store} {unlinked : List ℕ} {flush : Flush}
    (given : IsGiven target request memory start space offered reply fill stores unlinked flush)
    (canonical : IsCanonical target.depth (address_of request)) where
  abbrev base : ℕ
  base = address_of request

  abbrev Was : Kept → Type 0
  Was kept = Reads target.depth target.root start kept

  abbrev Now : Kept → Type 0
  Now kept = Reads target.depth target.root (stored_all start stores) kept

  -- an entry may be kept still, or is on the walk of the base and leads to an unlinked table
  abbrev Passes : Kept → Type 0
  Passes (Translation level page frame rights) = Unit {0}
  Passes (PagingEntry level region number rights) = Was (PagingEntry level region number rights)
      × (Now (PagingEntry level region number rights) ⊎ (Contains unlinked number × (region ≡ region_number level base)))

  abbrev Cut : Store → Type 0
  Cut s = Cuts target memory start given.same unlinked base s

  passes_closed : IsClosed target.depth target.root start Passes
  passes_closed = record {
    of_root = λ address is. (OfRoot address is, inl (OfRoot address is));
    of_table = λ address below number next rights own is table found.
        let reached : table_at (levels target.depth) start target.root (suc below) address ≡ Some number =
        entry_path target.depth target.root start (suc below) (region_number (suc below) address) number rights table.0 address refl in (
          OfTable address below number next rights own is table.0 found,
          ⊎_elim
              (λ still. ⊎_elim
              (λ now. inl (OfTable address below number next rights own is now still))
              (λ gone. absurd (ends_by target memory start given.same unlinked request offered fill stores number given.premise.own given.put gone.0
              (All-contains (IsUnlinkedBy target memory (stored_all start stores) request) unlinked number given.gone gone.0)
              (suc below) address next own reached found still))
              table.1)
              (λ into.
              let cut = into.1 (suc below) address next own (reached ∙ ap Some into.2.frame) into.2.index into.2.says in
              let within = reached_within (levels target.depth) target.root start (suc below) address number reached in
              inr (cut.0, sym (same_stretch target.depth below base address canonical is (omega (arith, within)) cut.1)))
              (found_still Cut (suc below) number address (entry.Table next own) start stores given.found
              (λ k d lt. cuts_by target memory start given.same unlinked request _ given.premise.own (given.meant k d lt)) found),
        );
    of_page = λ address below number phys rights own is table found. tt;
  }

  -- what is kept after the stores could be kept before them, or of the memory after them
  either_reads : (all : List Store) (what : Flush) → HasForm start all what → AreFor target.depth start target.root all what → (earlier : List Moment)
      → IsUpToDate target.depth target.root start earlier → (kept : Kept) → MayKeep target.depth target.root (while_stored start all earlier) kept
      → Reads target.depth target.root start kept ⊎ Reads target.depth target.root (stored_all start all) kept
  either_reads _ _ (Adds all adds) are earlier is kept held = inr (added target.depth target.root start all earlier adds is kept held)
  either_reads _ _ (Clears all at size found clear) are earlier is kept held =
      inl ((taken target.depth target.root start start all earlier (less_refl start) (takes start all found clear) is).0 kept held)
  either_reads _ _ (Unlinks all at size found clear) are earlier is kept held =
      inl ((taken target.depth target.root start start all earlier (less_refl start) (takes start all found clear) is).0 kept held)
  either_reads _ _ (Replaces s at size found) are earlier is kept held =
      let end = All-head (IsEndFor target.depth start target.root) s [] are.1 in
      replaced_keeps target.depth target.root start (stored start s) (calm_once target.depth target.root start s found end.once) (Is start ∷ earlier)
      (stays_up_to_date target.depth target.root start earlier is) kept held
  either_reads _ _ (Resizes s at size found) are earlier is kept held =
      let once = All-head (IsOnceFor target.depth start target.root) s [] are.1 in
      replaced_keeps target.depth target.root start (stored start s) (calm_once target.depth target.root start s found once) (Is start ∷ earlier)
      (stays_up_to_date target.depth target.root start earlier is) kept held

-- ---- the flush drops what is on the walk of the base, if it drops any table

size_some : (size : Size) → 0 < bytes_of size
size_some K4 = omega arith
size_some M2 = omega arith
size_some G1 = omega arith

module _ (target : Target) (memory : Memory) (level region number : ℕ) (rights : Rights) where
  abbrev entry_kept : Kept
  entry_kept = PagingEntry level region number rights

  abbrev Drops : ℕ → Flush → Type 0
  Drops base flush = (IsDropped flush entry_kept → ⊥) ⊎ (region ≡ region_number level base → IsDroppedOnWalk flush entry_kept)

  range_drops : (base : ℕ) (size : Size) → Drops base (Range base size)
  range_drops base size = inr (λ is. let some = size_some size in (base, omega arith, omega (arith, some), is))

  walk_drops : (request : Request) (stores : List Store) (unlinked : List ℕ) (flush : Flush) → IsFlushed target memory request stores unlinked flush
      → Drops (address_of request) flush
  walk_drops (Map page bits) (s ∷ later) unlinked flush is = subst (Drops page.base) (sym is) (inl (λ none. none))
  walk_drops (Unmap base) (s ∷ later) [] flush is = subst (Drops base) (sym is.2) (inl (λ none. none))
  walk_drops (Unmap base) (s ∷ later) (n ∷ numbers) flush is = subst (Drops base) (sym is.2) (inr (λ same. same))
  walk_drops (Protect base own) (s ∷ later) unlinked flush is = subst (Drops base) (sym is.2) (inl (λ none. none))
  walk_drops (Ask address) (s ∷ later) unlinked flush is = absurd is
  walk_drops (Remap base phys own) (s ∷ later) unlinked flush is = subst (Drops base) (sym is.2) (inl (λ none. none))
  walk_drops (Split base) (s ∷ later) unlinked flush is = subst (Drops base) (sym is.2) (range_drops base is.0)
  walk_drops (Join base) (s ∷ later) unlinked flush is = subst (Drops base) (sym is.3) (range_drops base (larger is.0))
  walk_drops (Prune address) (s ∷ later) unlinked flush is = subst (Drops address) (sym is) (inr (λ same. same))
  walk_drops (UnmapPart base first count) (s ∷ later) unlinked flush is = subst (Drops base) (sym is.2) (range_drops base is.0)
  walk_drops (Collapse base phys own) (s ∷ later) unlinked flush is = subst (Drops base) (sym is.3) (range_drops base (larger is.0))
  walk_drops request [] unlinked flush is = subst (Drops (address_of request)) (sym is) (inl (λ none. none))

-- a translation is dropped as ever
translation_drops : (flush : Flush) (level page frame : ℕ) (rights : Rights) → IsDropped flush (Translation level page frame rights)
    → IsDroppedOnWalk flush (Translation level page frame rights)
translation_drops Nothing level page frame rights dropped = dropped
translation_drops (Page at size) level page frame rights dropped = dropped
translation_drops (PageAndTables at size) level page frame rights dropped = dropped
translation_drops (Range at size) level page frame rights dropped = dropped

-- ---- all of it

module _ (target : Target) (request : Request) (memory : Memory) (space : Space) (offered : List (Option ℕ)) (plan : Plan)
    (premise : IsPremise target.depth memory target.root (address_of request) space) (canonical : IsCanonical target.depth (address_of request))
    (right : IsRight target request memory space offered plan) (earlier : List Moment)
    (is : IsUpToDate target.depth target.root (begun memory plan) earlier) where
  abbrev start : Memory
  start = begun memory plan

  abbrev stores : List Store
  stores = plan.stores.items

  suffices : Suffices target.depth target.root start stores plan.flush plan.unlinked.items
  suffices = plan_suffices target request memory space offered plan premise right

  given : IsGiven target request memory start space offered plan.reply plan.fill stores plan.unlinked.items plan.flush
  given = parts_of premise right

  pub plan_on_walks : (kept : Kept) → MayKeep target.depth target.root (while_stored start stores earlier) kept → (IsDroppedOnWalk plan.flush kept → ⊥)
      → Reads target.depth target.root (stored_all start stores) kept
  plan_on_walks (Translation level page frame rights) held dropped =
      suffices.after earlier is (Translation level page frame rights)
      (held, λ drops. dropped (translation_drops plan.flush level page frame rights drops))
  plan_on_walks (PagingEntry level region number rights) held dropped = ⊎_elim
      (λ none. suffices.after earlier is (PagingEntry level region number rights) (held, none))
      (λ drops. ⊎_elim
      (λ old. ⊎_elim
      (λ now. now)
      (λ cut. absurd (dropped (drops cut.1)))
      (all_reads (passes_closed given canonical) (PagingEntry level region number rights) old).1)
      (λ now. now)
      (either_reads given canonical stores plan.flush
      (form_of target memory start space offered plan.reply plan.fill request stores plan.unlinked.items plan.flush given)
      (are_for target memory start space offered plan.reply plan.fill request stores plan.unlinked.items plan.flush given)
      earlier is (PagingEntry level region number rights) held))
      (walk_drops target memory level region number rights request stores plan.unlinked.items plan.flush given.flushed)
