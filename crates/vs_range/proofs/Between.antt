-- Plans one after another, before one flush: what an access finds meanwhile is what a walk finds before or after one of them.
use Rattle.std.proofs.Common.{◌≡◌, ◌≢◌, ℕ, zero, suc, ◌+◌, ◌%◌, ◌≤◌, ◌⊎◌, List, [], ◌∷◌, ◌++◌, length, take, Contains, Option, Some, None, inl, inr, ⊎_elim}
use Rattle.std.proofs.Common.{refl, sym, subst, ◌∙◌, arith}
use Rattle.std.specs.FinMap as finite
use Rattle.std.proofs.Math.Seq.{take-length}
use Rattle.std.proofs.Math.Nat.{le_refl}
use Rattle.std.proofs.lemmas.List.Elements.{Contains-append_left, Contains-append_right, Contains-append_cases}
use Rattle.vs_types.proofs.Lists.{Contains-head, Contains-tail}
use Rattle.vs_types.specs.Depth.{entry_bytes, levels, IsCanonical}
use Rattle.vs_types.specs.Entry.{all_rights, size_at}
use Rattle.vs_types.specs.Page.{intersection}
use Rattle.vs_types.specs.Space.{Space}
use Rattle.vs_types.specs.declared.addresses.depth.Depth.{Depth}
use Rattle.vs_types.specs.declared.addresses.page.Rights.{Rights}
use Rattle.vs_types.specs.declared.entries.entry.Meaning.{Meaning}
use Rattle.vs_types.specs.declared.entries.entry.Meaning.TheVariants as entry
use Rattle.vs_walk.specs.Memory.{Memory}
use Rattle.vs_walk.specs.Walk.{walk, walk_from}
use Rattle.vs_walk.specs.declared.walk.Walk.{Walk}
use Rattle.vs_walk.specs.declared.walk.Walk.TheVariants.{Mapped}
use Rattle.vs_walk.proofs.Walks.{walk_nowhere}
use Rattle.vs_space.specs.Flags.{AreSameButFlags}
use Rattle.vs_space.specs.Path.{found_at}
use Rattle.vs_space.proofs.Flagged.{flagged_found}
use Rattle.vs_space.proofs.Paths.{walk_found, walk_lost, found_same}
use Rattle.vs_space.proofs.Writes.{found_alike, get_written_other}
use Rattle.vs_plan.specs.declared.plans.plan.Store.{Store}
use Rattle.vs_plan.specs.declared.plans.target.Target.{Target}
use Rattle.vs_plan.specs.Flushed.{Suffices, while_stored}
use Rattle.vs_plan.specs.Processor.{page_number, region_number, Kept, Translation, PagingEntry, KeptBefore, OfRoot, OfTable, OfPage}
use Rattle.vs_plan.specs.Processor.{Moment, Is, MayKeep, MayFind, ByTranslation, ByWalk, IsUpToDate}
use Rattle.vs_plan.specs.Answered.{space_after}
use Rattle.vs_plan.specs.Right.{begun, ended}
use Rattle.vs_plan.specs.Shown.{frames_of}
use Rattle.vs_plan.specs.Stores.{stored, stored_all}
use Rattle.vs_plan.specs.Lived.{AreButFlags}
use Rattle.vs_plan.proofs.Filled.{walk_as}
use Rattle.vs_plan.proofs.Kept.{IsClosed, all_kept, Reads, entry_path, page_regions, region_index, region_wider}
use Rattle.vs_plan.proofs.PlansSuffice.{form_of, are_for, plan_suffices}
use Rattle.vs_plan.proofs.Stored.{stored_elsewhere}
use Rattle.vs_range.specs.Several.{Call, IsRightThen, AreRight, FindsOneOf, while_planned}
use Rattle.vs_plan.proofs.FlagsKept.{flags_reads, flags_walk, lived_finds}
use Rattle.vs_range.proofs.Several.{given, same, stays_gone, spared_gone, unwritten_gone, up_to_date}
use Rattle.vs_range.proofs.Unlinked.{no_link, goes_or_named, entry_after}

-- a walk from a table that leads to no other is that of its frame
old_walk : (memory now : Memory) (level number : ℕ) (rights : Rights) (address : ℕ) → finite.get now number ≡ finite.get memory number
    → ((next : ℕ) (own : Rights) → 1 ≤ level → found_at level memory number address ≢ Some (entry.Table next own))
    → walk_from now level number rights address ≡ walk_from memory level number rights address
old_walk memory now zero number rights address alike ends = walk_nowhere now number rights address ∙ sym (walk_nowhere memory number rights address)
old_walk memory now (suc below) number rights address alike ends = by (found_at (suc below) memory number address) refl
  where
    there : found_at (suc below) now number address ≡ found_at (suc below) memory number address
    there = found_alike (suc below) memory now number address alike

    by : (found : Option Meaning) → found_at (suc below) memory number address ≡ found
        → walk_from now (suc below) number rights address ≡ walk_from memory (suc below) number rights address
    by None is = walk_lost now below number rights address (there ∙ is) ∙ sym (walk_lost memory below number rights address is)
    by (Some (entry.Table next own)) is = absurd (ends next own (omega arith) is)
    by (Some entry.Absent) is =
        walk_found now below number rights address entry.Absent (there ∙ is) ∙ sym (walk_found memory below number rights address entry.Absent is)
    by (Some entry.Reserved) is =
        walk_found now below number rights address entry.Reserved (there ∙ is) ∙ sym (walk_found memory below number rights address entry.Reserved is)
    by (Some (entry.Leaf phys own)) is =
        walk_found now below number rights address (entry.Leaf phys own) (there ∙ is)
        ∙ sym (walk_found memory below number rights address (entry.Leaf phys own) is)

-- the first stores write into no other frames than all
frames_take : (n : ℕ) (stores : List Store) (number : ℕ) → Contains (frames_of (take n stores)) number → Contains (frames_of stores) number
frames_take zero stores number among = absurd (omega (arith, among.1))
frames_take (suc n) [] number among = absurd (omega (arith, among.1))
frames_take (suc n) (s ∷ later) number among = ⊎_elim
    (λ head. Contains-append_left (s.frame ∷ []) (frames_of later) number head)
    (λ tail. Contains-tail s.frame (frames_of later) number (frames_take n later number tail))
    (Contains-append_cases (s.frame ∷ []) (frames_of (take n later)) number among)

-- ---- what may be kept, where an access is to find what it may

-- a table that was unlinked: its entries lead to no table, and what a walk from it finds is what an access may find
record IsOld (depth : Depth) (memory : Memory) (Finds : ℕ → Walk → Type 0) (gone : List ℕ) (level region number : ℕ) (rights : Rights) : Type 0 where
  pub named : Contains gone number
  pub ends : (address next : ℕ) (own : Rights) → 1 ≤ level → IsCanonical depth address → region_number level address ≡ region
      → found_at level memory number address ≢ Some (entry.Table next own)
  pub finds : (address : ℕ) → IsCanonical depth address → region_number level address ≡ region
      → Finds address (walk_from memory level number rights address)

-- what a translation says is what an access may find
abbrev FindsPage : Depth → (ℕ → Walk → Type 0) → ℕ → ℕ → ℕ → Rights → Type 0
FindsPage depth Finds level page frame rights = (address : ℕ) → IsCanonical depth address → page_number level address ≡ page
    → Finds address (Mapped (frame + address % entry_bytes level) (size_at level) rights)

-- beside a processor that lives through these moments, what another may keep
abbrev Besides : Depth → ℕ → Memory → (ℕ → Walk → Type 0) → List ℕ → List Moment → Kept → Type 0
Besides depth root memory Finds gone here (Translation level page frame rights) =
    MayKeep depth root here (Translation level page frame rights) ⊎ FindsPage depth Finds level page frame rights
Besides depth root memory Finds gone here (PagingEntry level region number rights) =
    MayKeep depth root here (PagingEntry level region number rights) ⊎ IsOld depth memory Finds gone level region number rights

module _ (depth : Depth) (root : ℕ) (memory : Memory) (Finds : ℕ → Walk → Type 0) (gone : List ℕ) where
  abbrev AsBefore : Memory → Type 0
  AsBefore now = (number : ℕ) → Contains gone number → finite.get now number ≡ finite.get memory number

  besides_before : (now : Memory) (here : List Moment) (kept : Kept) → Besides depth root memory Finds gone here kept
      → Besides depth root memory Finds gone (Is now ∷ here) kept
  besides_before now here (Translation level page frame rights) is =
      ⊎_elim (λ held. inl (KeptBefore (Translation level page frame rights) held)) (λ finds. inr finds) is
  besides_before now here (PagingEntry level region number rights) is =
      ⊎_elim (λ held. inl (KeptBefore (PagingEntry level region number rights) held)) (λ old. inr old) is

  -- a page that is read of an old table
  old_page : (now : Memory) → AsBefore now → (address below number phys : ℕ) (rights own : Rights)
      → IsOld depth memory Finds gone (suc below) (region_number (suc below) address) number rights
      → found_at (suc below) now number address ≡ Some (entry.Leaf phys own)
      → FindsPage depth Finds (suc below) (page_number (suc below) address) phys (intersection rights own)
  old_page now alike address below number phys rights own old found = λ a canonical at.
      let region = page_regions below a address at in
      let there : found_at (suc below) memory number a ≡ Some (entry.Leaf phys own) =
      found_same (suc below) memory number a address (region_index below a address region)
      ∙ sym (found_alike (suc below) memory now number address (alike number old.named)) ∙ found in
      subst (Finds a) (walk_found memory below number rights a (entry.Leaf phys own) there) (old.finds a canonical (region_wider below a address region))

  besides_closed : (now : Memory) (here : List Moment) → AsBefore now
      → IsClosed depth root now (Besides depth root memory Finds gone (Is now ∷ here))
  besides_closed now here alike = record {
    of_root = λ address canonical. inl (OfRoot address canonical);
    of_table = λ address below number next rights own canonical table found. ⊎_elim
        (λ held. inl (OfTable address below number next rights own canonical held found))
        (λ (old : IsOld depth memory Finds gone (suc below) (region_number (suc below) address) number rights).
        absurd (old.ends address next own (omega arith) canonical refl
        (sym (found_alike (suc below) memory now number address (alike number old.named)) ∙ found)))
        table;
    of_page = λ address below number phys rights own canonical table found. ⊎_elim
        (λ held. inl (OfPage address below number phys rights own canonical held found))
        (λ (old : IsOld depth memory Finds gone (suc below) (region_number (suc below) address) number rights).
        inr (old_page now alike address below number phys rights own old found))
        table;
  }

  besides_is : (now : Memory) (earlier here : List Moment) → AsBefore now
      → ((kept : Kept) → MayKeep depth root earlier kept → Besides depth root memory Finds gone here kept)
      → (kept : Kept) → MayKeep depth root (Is now ∷ earlier) kept → Besides depth root memory Finds gone (Is now ∷ here) kept
  besides_is now earlier here alike first kept held =
      all_kept (besides_closed now here alike) (λ k before. besides_before now here k (first k before)) kept held

  besides_stores : (now : Memory) (stores : List Store) (earlier here : List Moment) → AsBefore now
      → ((number : ℕ) → Contains gone number → Contains (frames_of stores) number → ⊥)
      → ((kept : Kept) → MayKeep depth root earlier kept → Besides depth root memory Finds gone here kept)
      → (kept : Kept) → MayKeep depth root (while_stored now stores earlier) kept
      → Besides depth root memory Finds gone (while_stored now stores here) kept
  besides_stores now [] earlier here alike spared first = besides_is now earlier here alike first
  besides_stores now (s ∷ later) earlier here alike spared first =
      besides_stores (stored now s) later (Is now ∷ earlier) (Is now ∷ here)
      (λ number named. get_written_other now s.frame s.index s.new number (λ same. spared number named
      (subst (Contains (s.frame ∷ frames_of later)) (sym same) (Contains-head s.frame (frames_of later))))
      ∙ alike number named)
      (λ number named among. spared number named (Contains-tail s.frame (frames_of later) number among))
      (besides_is now earlier here alike first)

-- ---- while one plan is carried out, and after it

module _ (target : Target) (memory : Memory) (space : Space) (gone : List ℕ) (call : Call) (then : IsRightThen target memory space gone call)
    (Finds : ℕ → Walk → Type 0) (earlier : List Moment)
    (first : (kept : Kept) → MayKeep target.depth target.root earlier kept
    → Besides target.depth target.root memory Finds gone (Is memory ∷ []) kept)
    (finds_before : (address : ℕ) (end : Walk) → end ≡ walk target.depth memory target.root address → Finds address end)
    (finds_after : (address : ℕ) (end : Walk) → end ≡ walk target.depth (ended call.memory call.plan) target.root address → Finds address end) where
  abbrev start : Memory
  start = begun call.memory call.plan

  abbrev after : Memory
  after = ended call.memory call.plan

  abbrev stores : List Store
  stores = call.plan.stores.items

  abbrev here : List Moment
  here = Is memory ∷ []

  suffices : Suffices target.depth target.root start stores call.plan.flush call.plan.unlinked.items
  suffices = plan_suffices target call.request call.memory space call.offered call.plan then.premise then.right

  here_finds : (done address : ℕ) (end : Walk) → done ≤ length stores → IsCanonical target.depth address
      → MayFind target.depth target.root (stored_all start (take done stores)) (while_stored start (take done stores) here) address end
      → Finds address end
  here_finds done address end few canonical find = ⊎_elim
      (λ e. finds_before address end (e ∙ walk_as target.depth target.root memory start (same target memory space gone call then) address))
      (λ e. finds_after address end e)
      (suffices.between here done address end (up_to_date target memory space gone call then) few canonical find)

  all_finds : (address : ℕ) (end : Walk) → IsCanonical target.depth address
      → MayFind target.depth target.root after (while_stored start stores here) address end → Finds address end
  all_finds address end canonical find =
      here_finds (length stores) address end (le_refl (length stores)) canonical
      (subst (λ (xs : List Store). MayFind target.depth target.root (stored_all start xs) (while_stored start xs here) address end)
      (sym (take-length stores)) find)

  during : (n : ℕ) (kept : Kept) → MayKeep target.depth target.root (while_stored start (take n stores) earlier) kept
      → Besides target.depth target.root memory Finds gone (while_stored start (take n stores) here) kept
  during n = besides_stores target.depth target.root memory Finds gone start (take n stores) earlier here
      (stays_gone target memory space gone call then)
      (λ number named among. spared_gone target memory space gone call then number named (frames_take n stores number among)) first

  during_all : (kept : Kept) → MayKeep target.depth target.root (while_stored start stores earlier) kept
      → Besides target.depth target.root memory Finds gone (while_stored start stores here) kept
  during_all = besides_stores target.depth target.root memory Finds gone start stores earlier here
      (stays_gone target memory space gone call then) (spared_gone target memory space gone call then) first

  as_then : (n number : ℕ) → Contains gone number → finite.get (stored_all start (take n stores)) number ≡ finite.get memory number
  as_then n number named =
      stored_elsewhere start (take n stores) number
      (λ among. spared_gone target memory space gone call then number named (frames_take n stores number among))
      ∙ stays_gone target memory space gone call then number named

  access_finds : (done address : ℕ) (end : Walk) → done ≤ length stores → IsCanonical target.depth address
      → MayFind target.depth target.root (stored_all start (take done stores)) (while_stored start (take done stores) earlier) address end
      → Finds address end
  access_finds done address end few canonical (ByTranslation level frame rights held) = ⊎_elim
      (λ now. here_finds done address (Mapped (frame + address % entry_bytes level) (size_at level) rights) few canonical
      (ByTranslation level frame rights now))
      (λ finds. finds address canonical refl)
      (during done (Translation level (page_number level address) frame rights) held)
  access_finds done address end few canonical (ByWalk level number rights held) = ⊎_elim
      (λ now. here_finds done address (walk_from (stored_all start (take done stores)) level number rights address) few canonical
      (ByWalk level number rights now))
      (λ (old : IsOld target.depth memory Finds gone level (region_number level address) number rights).
      subst (Finds address)
      (sym (old_walk memory (stored_all start (take done stores)) level number rights address (as_then done number old.named)
      (λ next own some. old.ends address next own some canonical refl)))
      (old.finds address canonical refl))
      (during done (PagingEntry level (region_number level address) number rights) held)

  -- a table that this plan unlinks
  newly_old : (level region number : ℕ) (rights : Rights) → Contains call.plan.unlinked.items number
      → MayKeep target.depth target.root (while_stored start stores here) (PagingEntry level region number rights)
      → Reads target.depth target.root start (PagingEntry level region number rights)
      → IsOld target.depth after Finds (call.plan.unlinked.items ++ gone) level region number rights
  newly_old level region number rights named held reads = record {
    named = Contains-append_left call.plan.unlinked.items gone number named;
    ends = λ address next own some canonical at found.
        no_link (given target memory space gone call then) number level address next own named
        (entry_path target.depth target.root start level region number rights reads address at) found;
    finds = λ address canonical at. all_finds address (walk_from after level number rights address) canonical
        (ByWalk level number rights (subst (λ r. MayKeep target.depth target.root (while_stored start stores here) (PagingEntry level r number rights))
        (sym at) held));
  }

  -- one that was unlinked before
  still_old : (level region number : ℕ) (rights : Rights) → IsOld target.depth memory Finds gone level region number rights
      → IsOld target.depth after Finds (call.plan.unlinked.items ++ gone) level region number rights
  still_old level region number rights old =
      let alike = unwritten_gone target memory space gone call then number old.named in
      record {
        named = Contains-append_right call.plan.unlinked.items gone number old.named;
        ends = λ address next own some canonical at found. old.ends address next own some canonical at
            (sym (found_alike level memory after number address alike) ∙ found);
        finds = λ address canonical at. subst (Finds address)
            (sym (old_walk memory after level number rights address alike (λ next own some. old.ends address next own some canonical at)))
            (old.finds address canonical at);
      }

  besides_after : (kept : Kept) → MayKeep target.depth target.root (while_stored start stores earlier) kept
      → Besides target.depth target.root after Finds (call.plan.unlinked.items ++ gone) (Is after ∷ []) kept
  besides_after (Translation level page frame rights) held = ⊎_elim
      (λ now. inr (λ address canonical at. all_finds address (Mapped (frame + address % entry_bytes level) (size_at level) rights) canonical
      (ByTranslation level frame rights (subst (λ p. MayKeep target.depth target.root (while_stored start stores here) (Translation level p frame rights))
      (sym at) now))))
      (λ finds. inr finds)
      (during_all (Translation level page frame rights) held)
  besides_after (PagingEntry level region number rights) held = ⊎_elim
      (λ now. ⊎_elim
      (λ fresh. inl fresh)
      (λ was. ⊎_elim
      (λ fresh. inl fresh)
      (λ named. inr (newly_old level region number rights named now was.0))
      (goes_or_named (given target memory space gone call then) level region number rights was.0))
      (entry_after target.depth target.root start here (up_to_date target memory space gone call then) stores call.plan.flush
      call.plan.unlinked.items
      (form_of target call.memory start space call.offered call.plan.reply call.plan.fill call.request stores call.plan.unlinked.items call.plan.flush
      (given target memory space gone call then))
      (are_for target call.memory start space call.offered call.plan.reply call.plan.fill call.request stores call.plan.unlinked.items call.plan.flush
      (given target memory space gone call then))
      suffices level region number rights now))
      (λ old. inr (still_old level region number rights old))
      (during_all (PagingEntry level region number rights) held)

-- ---- flags that are set between two plans

flags_besides : {memory flagged : Memory} → AreSameButFlags memory flagged → (depth : Depth) (root : ℕ) (Finds : ℕ → Walk → Type 0) (gone : List ℕ)
    (kept : Kept) → Besides depth root memory Finds gone (Is memory ∷ []) kept → Besides depth root flagged Finds gone (Is flagged ∷ []) kept
flags_besides same_flags depth root Finds gone (Translation level page frame rights) is =
    ⊎_elim (λ held. inl (flags_reads same_flags depth root (Translation level page frame rights) held)) (λ finds. inr finds) is
flags_besides {memory} {flagged} same_flags depth root Finds gone (PagingEntry level region number rights) is = ⊎_elim
    (λ held. inl (flags_reads same_flags depth root (PagingEntry level region number rights) held))
    (λ (old : IsOld depth memory Finds gone level region number rights). inr (record {
      named = old.named;
      ends = λ address next own some canonical at found.
          old.ends address next own some canonical at (sym (flagged_found same_flags level number address some) ∙ found);
      finds = λ address canonical at.
          subst (Finds address) (sym (flags_walk same_flags level number rights address)) (old.finds address canonical at);
    }))
    is

-- ---- all plans

-- an access may find what a walk of each of these memories finds
abbrev Covers : Depth → ℕ → (ℕ → Walk → Type 0) → Memory → List Call → Type 0
Covers depth root Finds memory [] = (address : ℕ) (end : Walk) → end ≡ walk depth memory root address → Finds address end
Covers depth root Finds memory (call ∷ calls) =
    ((address : ℕ) (end : Walk) → end ≡ walk depth memory root address → Finds address end)
    × Covers depth root Finds (ended call.memory call.plan) calls

covers_first : (depth : Depth) (root : ℕ) (Finds : ℕ → Walk → Type 0) (memory : Memory) (calls : List Call) → Covers depth root Finds memory calls
    → (address : ℕ) (end : Walk) → end ≡ walk depth memory root address → Finds address end
covers_first depth root Finds memory [] covers = covers
covers_first depth root Finds memory (call ∷ calls) covers = covers.0

covers_in : (depth : Depth) (root : ℕ) (Finds : ℕ → Walk → Type 0) (memory : Memory) (calls : List Call)
    → ((address : ℕ) (end : Walk) → FindsOneOf depth root memory calls address end → Finds address end) → Covers depth root Finds memory calls
covers_in depth root Finds memory [] into = into
covers_in depth root Finds memory (call ∷ calls) into = (
  λ address end is. into address end (inl is),
  covers_in depth root Finds (ended call.memory call.plan) calls (λ address end finds. into address end (inr finds)),
)

between_all : (target : Target) (memory : Memory) (space : Space) (gone : List ℕ) (Finds : ℕ → Walk → Type 0) (calls : List Call) (call : Call)
    (earlier : List Moment) → AreRight target memory space gone (calls ++ call ∷ [])
    → Covers target.depth target.root Finds memory (calls ++ call ∷ [])
    → ((kept : Kept) → MayKeep target.depth target.root earlier kept → Besides target.depth target.root memory Finds gone (Is memory ∷ []) kept)
    → (done address : ℕ) (end : Walk) → done ≤ length call.plan.stores.items → IsCanonical target.depth address
    → MayFind target.depth target.root (stored_all (begun call.memory call.plan) (take done call.plan.stores.items))
    (while_stored (begun call.memory call.plan) (take done call.plan.stores.items) (while_planned calls earlier)) address end
    → Finds address end
between_all target memory space gone Finds [] call earlier are covers first =
    access_finds target are.0.flagged space gone call are.0.right Finds earlier
    (λ kept held. flags_besides are.0.flags target.depth target.root Finds gone kept (first kept held))
    (λ address end is. covers.0 address end (is ∙ flags_walk are.0.flags (levels target.depth) target.root all_rights address)) covers.1
between_all target memory space gone Finds (one ∷ calls) call earlier are covers first =
    between_all target (ended one.memory one.plan) (space_after target one.request space one.plan.reply) (one.plan.unlinked.items ++ gone) Finds
    calls call (while_stored (begun one.memory one.plan) one.plan.stores.items earlier) are.1 covers.1
    (besides_after target are.0.flagged space gone one are.0.right Finds earlier
    (λ kept held. flags_besides are.0.flags target.depth target.root Finds gone kept (first kept held))
    (λ address end is. covers.0 address end (is ∙ flags_walk are.0.flags (levels target.depth) target.root all_rights address))
    (covers_first target.depth target.root Finds (ended one.memory one.plan) (calls ++ call ∷ []) covers.1))

begins_up_to_date : (target : Target) (memory : Memory) (Finds : ℕ → Walk → Type 0) (earlier : List Moment)
    → IsUpToDate target.depth target.root memory earlier → (kept : Kept) → MayKeep target.depth target.root earlier kept
    → Besides target.depth target.root memory Finds [] (Is memory ∷ []) kept
begins_up_to_date target memory Finds earlier is (Translation level page frame rights) held = inl (is (Translation level page frame rights) held)
begins_up_to_date target memory Finds earlier is (PagingEntry level region number rights) held =
    inl (is (PagingEntry level region number rights) held)

pub several_between : (target : Target) (memory : Memory) (space : Space) (calls : List Call) (call : Call) (earlier : List Moment)
    (done address : ℕ) (end : Walk) → AreRight target memory space [] (calls ++ call ∷ [])
    → IsUpToDate target.depth target.root memory earlier → done ≤ length call.plan.stores.items → IsCanonical target.depth address
    → MayFind target.depth target.root (stored_all (begun call.memory call.plan) (take done call.plan.stores.items))
    (while_stored (begun call.memory call.plan) (take done call.plan.stores.items) (while_planned calls earlier)) address end
    → FindsOneOf target.depth target.root memory (calls ++ call ∷ []) address end
several_between target memory space calls call earlier done address end are is few canonical find =
    between_all target memory space [] (FindsOneOf target.depth target.root memory (calls ++ call ∷ [])) calls call earlier are
    (covers_in target.depth target.root (FindsOneOf target.depth target.root memory (calls ++ call ∷ [])) memory (calls ++ call ∷ [])
    (λ a e finds. finds))
    (begins_up_to_date target memory (FindsOneOf target.depth target.root memory (calls ++ call ∷ [])) earlier is)
    done address end few canonical find

pub lived_between : (target : Target) (memory now : Memory) (space : Space) (calls : List Call) (call : Call) (earlier lived : List Moment)
    (done address : ℕ) (end : Walk) → AreRight target memory space [] (calls ++ call ∷ [])
    → IsUpToDate target.depth target.root memory earlier → done ≤ length call.plan.stores.items → IsCanonical target.depth address
    → AreButFlags lived (while_stored (begun call.memory call.plan) (take done call.plan.stores.items) (while_planned calls earlier))
    → AreSameButFlags (stored_all (begun call.memory call.plan) (take done call.plan.stores.items)) now
    → MayFind target.depth target.root now lived address end
    → FindsOneOf target.depth target.root memory (calls ++ call ∷ []) address end
lived_between target memory now space calls call earlier lived done address end are is few canonical lives same_flags find =
    several_between target memory space calls call earlier done address end are is few canonical
    (lived_finds target.depth target.root lived
    (while_stored (begun call.memory call.plan) (take done call.plan.stores.items) (while_planned calls earlier))
    (stored_all (begun call.memory call.plan) (take done call.plan.stores.items)) now lives same_flags address end find)
