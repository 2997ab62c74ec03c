-- Plans one after another, before one flush: a processor that was up to date is so again, and keeps nothing of what they unlinked.
use Rattle.std.proofs.Common.{◌≡◌, ◌≢◌, ℕ, zero, suc, ◌≤◌, List, [], ◌∷◌, ◌++◌, Contains, Option, Some, None, inl, inr, ⊎_elim, refl, sym, subst, ◌∙◌}
use Rattle.std.proofs.Common.{arith}
use Rattle.std.specs.FinMap as finite
use Rattle.std.proofs.lemmas.List.Elements.{Contains-append_left, Contains-append_right, Contains-append_cases}
use Rattle.vs_types.proofs.Lists.{Contains-head}
use Rattle.vs_types.specs.Depth.{levels, IsCanonical}
use Rattle.vs_types.specs.Page.{intersection}
use Rattle.vs_types.specs.Space.{Space}
use Rattle.vs_types.specs.declared.addresses.page.Rights.{Rights}
use Rattle.vs_types.specs.declared.entries.entry.Meaning.TheVariants as entry
use Rattle.vs_types.proofs.Maps.{get-insert_other}
use Rattle.vs_walk.specs.Memory.{Memory}
use Rattle.vs_space.specs.Flags.{AreSameButFlags}
use Rattle.vs_space.specs.Path.{found_at, table_at}
use Rattle.vs_space.proofs.Flagged.{flagged_found}
use Rattle.vs_space.proofs.Writes.{found_alike}
use Rattle.vs_plan.specs.declared.plans.plan.Fill.{Fill}
use Rattle.vs_plan.specs.declared.plans.plan.Flush.{Flush}
use Rattle.vs_plan.specs.declared.plans.plan.Store.{Store}
use Rattle.vs_plan.specs.declared.plans.target.Target.{Target}
use Rattle.vs_plan.specs.Flushed.{while_stored}
use Rattle.vs_plan.specs.Other.{HasSameTables}
use Rattle.vs_plan.specs.Processor.{page_number, region_number, Kept, Translation, PagingEntry, KeptBefore, OfPage}
use Rattle.vs_plan.specs.Processor.{Moment, Is, Flushes, IsDropped, MayKeep, IsUpToDate}
use Rattle.vs_plan.specs.Answered.{space_after}
use Rattle.vs_plan.specs.Right.{begun, ended, written_frames}
use Rattle.vs_plan.specs.Shown.{frames_of}
use Rattle.vs_plan.specs.Stores.{filled}
use Rattle.vs_plan.specs.Lived.{AreButFlags, Flushed}
use Rattle.vs_plan.proofs.Filled.{table_as}
use Rattle.vs_plan.proofs.Given.{IsGiven, parts_of, all_unreached}
use Rattle.vs_plan.proofs.Kept.{Reads, entry_path}
use Rattle.vs_plan.proofs.PlansSuffice.{form_of, are_for, plan_suffices}
use Rattle.vs_plan.proofs.Stays.{entry_reached}
use Rattle.vs_plan.proofs.Stored.{stored_elsewhere}
use Rattle.vs_plan.proofs.Sufficing.{AreUnreached}
use Rattle.vs_plan.proofs.Unread.{unread_keeps}
use Rattle.vs_range.specs.Several.{Call, IsRightThen, AreRight, ended_all, unlinked_by, while_planned, flushed_by, IsDroppedByOne, HaveAll}
use Rattle.vs_plan.proofs.FlagsKept.{flags_read, flags_reads, flags_table, lived_up_to_date}
use Rattle.vs_range.proofs.Counted.{grown, grown_old, grown_by, grown_now, grown_within, drops_some, all_flushes, all_counted, all_within}
use Rattle.vs_range.proofs.Stands.{IsStale, Stands, last_moment, kept_on, Beside, begins_beside, beside_stores}
use Rattle.vs_range.proofs.Unlinked.{no_link, goes_or_named, entry_after}

-- a frame of a store is written
store_written : (fill : Option Fill) (stores : List Store) (number : ℕ) → Contains (frames_of stores) number → Contains (written_frames fill stores) number
store_written None stores number among = among
store_written (Some fill) stores number among = Contains-append_right (fill.frame ∷ []) (frames_of stores) number among

-- the fill leaves the frames that it doesn't write
unfilled : (memory : Memory) (fill : Option Fill) (stores : List Store) (number : ℕ) → (Contains (written_frames fill stores) number → ⊥)
    → finite.get (filled memory fill) number ≡ finite.get memory number
unfilled memory None stores number spared = refl
unfilled memory (Some fill) stores number spared = get-insert_other memory fill.frame _ number (λ same. spared
    (subst (Contains (fill.frame ∷ frames_of stores)) (sym same) (Contains-head fill.frame (frames_of stores))))

module _ (target : Target) (memory : Memory) (space : Space) (gone : List ℕ) (call : Call) (then : IsRightThen target memory space gone call) where
  abbrev pub start : Memory
  start = begun call.memory call.plan

  abbrev pub after : Memory
  after = ended call.memory call.plan

  pub given : IsGiven target call.request call.memory start space call.offered call.plan.reply call.plan.fill call.plan.stores.items
      call.plan.unlinked.items call.plan.flush
  given = parts_of then.premise then.right

  -- the frames that are gone are as they were
  pub stays_gone : (number : ℕ) → Contains gone number → finite.get start number ≡ finite.get memory number
  stays_gone number named =
      unfilled call.memory call.plan.fill call.plan.stores.items number (then.spared number named) ∙ then.stays number named

  pub spared_gone : (number : ℕ) → Contains gone number → Contains (frames_of call.plan.stores.items) number → ⊥
  spared_gone number named among = then.spared number named (store_written call.plan.fill call.plan.stores.items number among)

  pub unwritten_gone : (number : ℕ) → Contains gone number → finite.get after number ≡ finite.get memory number
  unwritten_gone number named =
      stored_elsewhere start call.plan.stores.items number (spared_gone number named) ∙ stays_gone number named

  -- the tables that are reached are as they were
  pub same : HasSameTables target.depth target.root memory start
  same level address number at =
      given.same level address number (table_as target.depth target.root memory call.memory then.tables level address ∙ at)
      ∙ then.tables level address number at

  -- ---- what is kept

  here : List Moment
  here = Is memory ∷ []

  pub up_to_date : IsUpToDate target.depth target.root start (Is memory ∷ [])
  up_to_date kept held = unread_keeps target.depth target.root memory start same (Is memory ∷ []) (λ k reads. reads) kept (KeptBefore kept held)

  -- what began so is what the memory after the stores says, but for what is flushed
  comes_after : (kept : Kept) → MayKeep target.depth target.root (while_stored start call.plan.stores.items (Is memory ∷ [])) kept
      → (IsDropped call.plan.flush kept → ⊥) → Reads target.depth target.root after kept
  comes_after kept held spared =
      (plan_suffices target call.request call.memory space call.offered call.plan then.premise then.right).after (Is memory ∷ []) up_to_date kept
      (held, spared)

  module _ (flushes counted : List Flush) where
    abbrev StandsThen : Kept → Type 0
    StandsThen kept = Stands target.depth target.root after (call.plan.flush ∷ flushes) (grown call.plan.flush counted)
        (call.plan.unlinked.items ++ gone) kept

    -- a table that was stale before
    still_stale : (level region number : ℕ) (rights : Rights) → IsStale target.depth target.root memory counted gone level region number rights
        → IsStale target.depth target.root after (grown call.plan.flush counted) (call.plan.unlinked.items ++ gone) level region number rights
    still_stale level region number rights stale =
        let alike = λ (address : ℕ). found_alike level memory after number address (unwritten_gone number stale.named) in
        record {
          named = Contains-append_right call.plan.unlinked.items gone number stale.named;
          dropped = grown_old call.plan.flush counted (PagingEntry level region number rights) stale.dropped;
          ends = λ address next own some canonical at found. stale.ends address next own some canonical at (sym (alike address) ∙ found);
          pages = λ address phys own some canonical at found spared.
              let kept = Translation level (page_number level address) phys (intersection rights own) in
              comes_after kept
              (kept_on target.depth target.root start call.plan.stores.items (Is memory ∷ []) kept
              (stale.pages address phys own some canonical at (sym (alike address) ∙ found) (λ d. spared (grown_old call.plan.flush counted kept d))))
              (λ d. spared (grown_by call.plan.flush counted (PagingEntry level region number rights) kept stale.dropped d));
        }

    -- a table that this plan unlinks
    newly_stale : (level region number : ℕ) (rights : Rights) → Contains call.plan.unlinked.items number
        → MayKeep target.depth target.root (while_stored start call.plan.stores.items (Is memory ∷ [])) (PagingEntry level region number rights)
        → Reads target.depth target.root start (PagingEntry level region number rights)
        → IsDropped call.plan.flush (PagingEntry level region number rights)
        → IsStale target.depth target.root after (grown call.plan.flush counted) (call.plan.unlinked.items ++ gone) level region number rights
    newly_stale level region number rights named held reads dropped = record {
      named = Contains-append_left call.plan.unlinked.items gone number named;
      dropped = grown_now call.plan.flush counted (PagingEntry level region number rights)
          (drops_some call.plan.flush level region number rights dropped) dropped;
      ends = λ address next own some canonical at found.
          no_link given number level address next own named (entry_path target.depth target.root start level region number rights reads address at) found;
      pages = λ address phys own some canonical at found spared.
          let kept = Translation level (page_number level address) phys (intersection rights own) in
          comes_after kept (read_last level region number rights address phys own some canonical at held found)
          (λ d. spared (grown_now call.plan.flush counted kept (drops_some call.plan.flush level region number rights dropped) d));
    } where
      read_last : (level region number : ℕ) (rights : Rights) (address phys : ℕ) (own : Rights) → 1 ≤ level → IsCanonical target.depth address
          → region_number level address ≡ region
          → MayKeep target.depth target.root (while_stored start call.plan.stores.items (Is memory ∷ [])) (PagingEntry level region number rights)
          → found_at level after number address ≡ Some (entry.Leaf phys own)
          → MayKeep target.depth target.root (while_stored start call.plan.stores.items (Is memory ∷ []))
          (Translation level (page_number level address) phys (intersection rights own))
      read_last zero region number rights address phys own some canonical at held found = absurd (omega arith)
      read_last (suc below) region number rights address phys own some canonical at held found =
          let last = last_moment start call.plan.stores.items (Is memory ∷ []) in
          subst (λ (ms : List Moment). MayKeep target.depth target.root ms
          (Translation (suc below) (page_number (suc below) address) phys (intersection rights own))) (sym last.1)
          (OfPage address below number phys rights own canonical
          (subst (λ (ms : List Moment). MayKeep target.depth target.root ms (PagingEntry (suc below) (region_number (suc below) address) number rights)) last.1
          (subst (λ r. MayKeep target.depth target.root (while_stored start call.plan.stores.items (Is memory ∷ [])) (PagingEntry (suc below) r number rights))
          (sym at) held))
          found)

    table_stands : (level region number : ℕ) (rights : Rights)
        → MayKeep target.depth target.root (while_stored start call.plan.stores.items (Is memory ∷ [])) (PagingEntry level region number rights)
        → StandsThen (PagingEntry level region number rights)
    table_stands level region number rights held = ⊎_elim
        (λ fresh. inl fresh)
        (λ old. ⊎_elim
        (λ fresh. inl fresh)
        (λ named. inr (newly_stale level region number rights named held old.0 old.1))
        (goes_or_named given level region number rights old.0))
        (entry_after target.depth target.root start (Is memory ∷ []) up_to_date call.plan.stores.items call.plan.flush call.plan.unlinked.items
        (form_of target call.memory start space call.offered call.plan.reply call.plan.fill call.request call.plan.stores.items
        call.plan.unlinked.items call.plan.flush given)
        (are_for target call.memory start space call.offered call.plan.reply call.plan.fill call.request call.plan.stores.items
        call.plan.unlinked.items call.plan.flush given)
        (plan_suffices target call.request call.memory space call.offered call.plan then.premise then.right) level region number rights held)

    module _ (earlier : List Moment) (within : (kept : Kept) → IsDroppedByOne counted kept → IsDroppedByOne flushes kept)
        (first : (kept : Kept) → MayKeep target.depth target.root earlier kept → Stands target.depth target.root memory flushes counted gone kept) where
      beside : (kept : Kept) → MayKeep target.depth target.root (while_stored start call.plan.stores.items earlier) kept
          → Beside target.depth target.root memory flushes counted gone within (while_stored start call.plan.stores.items (Is memory ∷ [])) kept
      beside = beside_stores target.depth target.root memory flushes counted gone within start call.plan.stores.items earlier (Is memory ∷ [])
          stays_gone spared_gone (λ kept reads. reads)
          (λ kept held. begins_beside target.depth target.root memory flushes counted gone within kept (first kept held))

      stands_then : (kept : Kept) → MayKeep target.depth target.root (while_stored start call.plan.stores.items earlier) kept → StandsThen kept
      stands_then (Translation level page frame rights) held = λ spared. comes_after (Translation level page frame rights)
          (beside (Translation level page frame rights) held (λ d. spared (inr d))) (λ d. spared (inl d))
      stands_then (PagingEntry level region number rights) held = ⊎_elim
          (λ fresh. table_stands level region number rights fresh)
          (λ stale. inr (still_stale level region number rights stale))
          (beside (PagingEntry level region number rights) held)

  -- ---- what is reached

  -- no way leads to what was gone, nor to what this plan unlinks
  unreached_then : AreUnreached target.depth target.root memory gone → AreUnreached target.depth target.root after (call.plan.unlinked.items ++ gone)
  unreached_then before number named level address at = ⊎_elim
      (λ now. all_unreached target call.memory after call.request call.plan.unlinked.items given.gone number now level address at)
      (λ was. ⊎_elim
      (λ old. before number was level address (sym (table_as target.depth target.root memory call.memory then.tables level address) ∙ old))
      (λ new. then.spared number was new.written)
      (then.right.reaches level address number at))
      (Contains-append_cases call.plan.unlinked.items gone number named)

-- ---- flags that are set between two plans

module _ {memory flagged : Memory} (same_flags : AreSameButFlags memory flagged) (target : Target) where
  flags_stale : (flushes : List Flush) (gone : List ℕ) (level region number : ℕ) (rights : Rights)
      → IsStale target.depth target.root memory flushes gone level region number rights
      → IsStale target.depth target.root flagged flushes gone level region number rights
  flags_stale flushes gone level region number rights stale = record {
    named = stale.named;
    dropped = stale.dropped;
    ends = λ address next own some canonical at found.
        stale.ends address next own some canonical at (sym (flagged_found same_flags level number address some) ∙ found);
    pages = λ address phys own some canonical at found spared.
        flags_reads same_flags target.depth target.root (Translation level (page_number level address) phys (intersection rights own))
        (stale.pages address phys own some canonical at (sym (flagged_found same_flags level number address some) ∙ found) spared);
  }

  flags_stand : (flushes counted : List Flush) (gone : List ℕ) (kept : Kept) → Stands target.depth target.root memory flushes counted gone kept
      → Stands target.depth target.root flagged flushes counted gone kept
  flags_stand flushes counted gone (Translation level page frame rights) stands =
      λ spared. flags_reads same_flags target.depth target.root (Translation level page frame rights) (stands spared)
  flags_stand flushes counted gone (PagingEntry level region number rights) stands = ⊎_elim
      (λ fresh. inl (flags_reads same_flags target.depth target.root (PagingEntry level region number rights) fresh))
      (λ stale. inr (flags_stale counted gone level region number rights stale))
      stands

  flags_unreached : (gone : List ℕ) → AreUnreached target.depth target.root memory gone → AreUnreached target.depth target.root flagged gone
  flags_unreached gone before number named level address at =
      before number named level address (sym (flags_table same_flags target.depth target.root level address) ∙ at)

-- ---- all plans

abbrev pub all_gone : List ℕ → List Call → List ℕ
all_gone gone [] = gone
all_gone gone (call ∷ calls) = all_gone (call.plan.unlinked.items ++ gone) calls

pub stand_all : (target : Target) (memory : Memory) (space : Space) (gone : List ℕ) (flushes counted : List Flush) (calls : List Call)
    (earlier : List Moment) → AreRight target memory space gone calls
    → ((kept : Kept) → IsDroppedByOne counted kept → IsDroppedByOne flushes kept)
    → ((kept : Kept) → MayKeep target.depth target.root earlier kept → Stands target.depth target.root memory flushes counted gone kept)
    → (kept : Kept) → MayKeep target.depth target.root (while_planned calls earlier) kept
    → Stands target.depth target.root (ended_all memory calls) (all_flushes flushes calls) (all_counted counted calls) (all_gone gone calls) kept
stand_all target memory space gone flushes counted [] earlier are within first = first
stand_all target memory space gone flushes counted (call ∷ calls) earlier are within first =
    stand_all target (ended call.memory call.plan) (space_after target call.request space call.plan.reply) (call.plan.unlinked.items ++ gone)
    (call.plan.flush ∷ flushes) (grown call.plan.flush counted) calls (while_stored (begun call.memory call.plan) call.plan.stores.items earlier) are.1
    (grown_within call.plan.flush flushes counted within)
    (stands_then target are.0.flagged space gone call are.0.right flushes counted earlier within
    (λ kept held. flags_stand are.0.flags target flushes counted gone kept (first kept held)))

unreached_all : (target : Target) (memory : Memory) (space : Space) (gone : List ℕ) (calls : List Call) → AreRight target memory space gone calls
    → AreUnreached target.depth target.root memory gone → AreUnreached target.depth target.root (ended_all memory calls) (all_gone gone calls)
unreached_all target memory space gone [] are before = before
unreached_all target memory space gone (call ∷ calls) are before =
    unreached_all target (ended call.memory call.plan) (space_after target call.request space call.plan.reply) (call.plan.unlinked.items ++ gone)
    calls are.1 (unreached_then target are.0.flagged space gone call are.0.right (flags_unreached are.0.flags target gone before))

-- what they unlink is gone then
gone_stays : (gone : List ℕ) (calls : List Call) (number : ℕ) → Contains gone number → Contains (all_gone gone calls) number
gone_stays gone [] number named = named
gone_stays gone (call ∷ calls) number named =
    gone_stays (call.plan.unlinked.items ++ gone) calls number (Contains-append_right call.plan.unlinked.items gone number named)

unlinked_gone : (gone : List ℕ) (calls : List Call) (number : ℕ) → Contains (unlinked_by calls) number → Contains (all_gone gone calls) number
unlinked_gone gone [] number named = absurd (omega (arith, named.1))
unlinked_gone gone (call ∷ calls) number named = ⊎_elim
    (λ now. gone_stays (call.plan.unlinked.items ++ gone) calls number (Contains-append_left call.plan.unlinked.items gone number now))
    (λ later. unlinked_gone (call.plan.unlinked.items ++ gone) calls number later)
    (Contains-append_cases call.plan.unlinked.items (unlinked_by calls) number named)

-- the flushes have all
pub have_all : (flushes so_far : List Flush) (calls : List Call) → HaveAll flushes calls
    → ((kept : Kept) → IsDroppedByOne so_far kept → IsDroppedByOne flushes kept) → (kept : Kept) → IsDroppedByOne (all_flushes so_far calls) kept
    → IsDroppedByOne flushes kept
have_all flushes so_far [] all first = first
have_all flushes so_far (call ∷ calls) all first =
    have_all flushes (call.plan.flush ∷ so_far) calls all.1 (λ kept one. ⊎_elim (λ d. all.0 kept d) (λ d. first kept d) one)

-- what is kept after flushes was kept before, and none drops it
unflushed : (target : Target) (flushes : List Flush) (moments : List Moment) (kept : Kept)
    → MayKeep target.depth target.root (flushed_by flushes moments) kept
    → MayKeep target.depth target.root moments kept × (IsDroppedByOne flushes kept → ⊥)
unflushed target [] moments kept held = (held, λ no. no)
unflushed target (flush ∷ flushes) moments kept held =
    let rest = unflushed target flushes (Flushes flush ∷ moments) kept held in
    (rest.0.0, λ one. ⊎_elim rest.0.1 rest.1 one)

pub up_to_date_stands : (target : Target) (memory : Memory) (earlier : List Moment) → IsUpToDate target.depth target.root memory earlier
    → (kept : Kept) → MayKeep target.depth target.root earlier kept → Stands target.depth target.root memory [] [] [] kept
up_to_date_stands target memory earlier is (Translation level page frame rights) held = λ spared. is (Translation level page frame rights) held
up_to_date_stands target memory earlier is (PagingEntry level region number rights) held = inl (is (PagingEntry level region number rights) held)

stands_spared : (target : Target) (memory : Memory) (flushes counted : List Flush) (gone : List ℕ) (kept : Kept)
    → ((k : Kept) → IsDroppedByOne counted k → IsDroppedByOne flushes k)
    → Stands target.depth target.root memory flushes counted gone kept → (IsDroppedByOne flushes kept → ⊥) → Reads target.depth target.root memory kept
stands_spared target memory flushes counted gone (Translation level page frame rights) within stands spared = stands spared
stands_spared target memory flushes counted gone (PagingEntry level region number rights) within stands spared =
    ⊎_elim (λ fresh. fresh) (λ stale. absurd (spared (within (PagingEntry level region number rights) stale.dropped))) stands

pub several_suffice : (target : Target) (memory : Memory) (space : Space) (calls : List Call) (flushes : List Flush) (earlier : List Moment)
    → AreRight target memory space [] calls → HaveAll flushes calls → IsUpToDate target.depth target.root memory earlier
    → IsUpToDate target.depth target.root (ended_all memory calls) (flushed_by flushes (while_planned calls earlier))
several_suffice target memory space calls flushes earlier are all is kept held =
    let before = unflushed target flushes (while_planned calls earlier) kept held in
    stands_spared target (ended_all memory calls) (all_flushes [] calls) (all_counted [] calls) (all_gone [] calls) kept
    (all_within [] [] calls (λ k none. none))
    (stand_all target memory space [] [] [] calls earlier are (λ k none. none) (up_to_date_stands target memory earlier is) kept before.0)
    (λ one. before.1 (have_all flushes [] calls all (λ k none. absurd none) kept one))

pub several_unreached : (target : Target) (memory : Memory) (space : Space) (calls : List Call) (number : ℕ)
    → AreRight target memory space [] calls → Contains (unlinked_by calls) number → (level address : ℕ)
    → table_at (levels target.depth) (ended_all memory calls) target.root level address ≢ Some number
several_unreached target memory space calls number are named level address =
    unreached_all target memory space [] calls are (λ n none. absurd (omega (arith, none.1))) number (unlinked_gone [] calls number named) level address

pub several_freed : (target : Target) (memory : Memory) (space : Space) (calls : List Call) (moments : List Moment) (level region number : ℕ)
    (rights : Rights) → AreRight target memory space [] calls → IsUpToDate target.depth target.root (ended_all memory calls) moments
    → Contains (unlinked_by calls) number → MayKeep target.depth target.root moments (PagingEntry level region number rights) → ⊥
several_freed target memory space calls moments level region number rights are is named held =
    let reached = entry_reached target.depth target.root (ended_all memory calls) level region number rights
    (is (PagingEntry level region number rights) held) in
    several_unreached target memory space calls number are named level reached.0 reached.1

-- ---- whatever flags are set meanwhile

flushed_lived : (flushes : List Flush) (lived told : List Moment) → AreButFlags lived told
    → AreButFlags (flushed_by flushes lived) (flushed_by flushes told)
flushed_lived [] lived told are = are
flushed_lived (flush ∷ flushes) lived told are =
    flushed_lived flushes (Flushes flush ∷ lived) (Flushes flush ∷ told) (Flushed lived told flush are)

module _ (target : Target) (memory now : Memory) (space : Space) (calls : List Call) where
  pub lived_suffice : (flushes : List Flush) (earlier lived : List Moment) → AreRight target memory space [] calls → HaveAll flushes calls
      → IsUpToDate target.depth target.root memory earlier → AreButFlags lived (while_planned calls earlier)
      → AreSameButFlags (ended_all memory calls) now → IsUpToDate target.depth target.root now (flushed_by flushes lived)
  lived_suffice flushes earlier lived are all is lives same_flags =
      lived_up_to_date target.depth target.root (flushed_by flushes lived) (flushed_by flushes (while_planned calls earlier))
      (ended_all memory calls) now (flushed_lived flushes lived (while_planned calls earlier) lives) same_flags
      (several_suffice target memory space calls flushes earlier are all is)

  pub lived_unreached : (number : ℕ) → AreRight target memory space [] calls → AreSameButFlags (ended_all memory calls) now
      → Contains (unlinked_by calls) number → (level address : ℕ) → table_at (levels target.depth) now target.root level address ≢ Some number
  lived_unreached number are same_flags named level address at =
      several_unreached target memory space calls number are named level address
      (sym (flags_table same_flags target.depth target.root level address) ∙ at)

  pub lived_freed : (moments : List Moment) (level region number : ℕ) (rights : Rights) → AreRight target memory space [] calls
      → AreSameButFlags (ended_all memory calls) now → IsUpToDate target.depth target.root now moments → Contains (unlinked_by calls) number
      → MayKeep target.depth target.root moments (PagingEntry level region number rights) → ⊥
  lived_freed moments level region number rights are same_flags is named held =
      several_freed target memory space calls moments level region number rights are
      (λ kept h. flags_read same_flags target.depth target.root kept (is kept h)) named held
