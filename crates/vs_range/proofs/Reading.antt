-- Flushes between which a processor reads the memory.
use Rattle.std.proofs.Common.{◌≡◌, ℕ, List, [], ◌∷◌, ◌++◌, length, Bool, true, false, ◌⊎◌, inl, inr, ⊎_elim, refl, sym, subst, ◌∙◌}
use Rattle.std.specs.Prelude.{if◌then◌else◌}
use Rattle.std.proofs.Math.Nat.{le_refl}
use Rattle.std.proofs.Math.Seq.{take-length}
use Rattle.vs_types.specs.Depth.{IsCanonical}
use Rattle.vs_types.specs.Space.{Space}
use Rattle.vs_types.specs.declared.addresses.depth.Depth.{Depth}
use Rattle.vs_types.specs.declared.addresses.page.Rights.{Rights}
use Rattle.vs_walk.specs.Memory.{Memory}
use Rattle.vs_walk.specs.declared.walk.Walk.{Walk}
use Rattle.vs_space.specs.Flags.{AreSameButFlags}
use Rattle.vs_plan.specs.declared.plans.plan.Flush.{Flush}
use Rattle.vs_plan.specs.declared.plans.plan.Store.{Store}
use Rattle.vs_plan.specs.declared.plans.target.Target.{Target}
use Rattle.vs_plan.specs.Flushed.{while_stored}
use Rattle.vs_plan.specs.Lived.{AreButFlags}
use Rattle.vs_plan.specs.Processor.{Kept, Translation, PagingEntry, KeptBefore, Moment, Is, Flushes, IsDropped, MayKeep, MayFind, ByTranslation, ByWalk, IsUpToDate}
use Rattle.vs_plan.specs.Right.{begun, ended}
use Rattle.vs_plan.specs.Stores.{stored_all}
use Rattle.vs_plan.proofs.FlagsKept.{lived_finds, lived_up_to_date}
use Rattle.vs_plan.proofs.Kept.{Reads, all_kept}
use Rattle.vs_range.specs.Several.{Call, AreRight, FindsOneOf, ended_all, while_planned, IsDroppedByOne, HaveAllInOrder, drops_tables, from_tables, flushed_while}
use Rattle.vs_range.proofs.Between.{several_between}
use Rattle.vs_range.proofs.Counted.{all_counted, all_flushes, drops_each, from_within, ordered_all, ordered_counted}
use Rattle.vs_range.proofs.Moments.{KeepsNoMore, closed, more_is}
use Rattle.vs_range.proofs.Several.{stand_all, up_to_date_stands, have_all, all_gone}
use Rattle.vs_range.proofs.Stands.{Stands, last_moment, stands_closed}

-- ---- what is kept once all is flushed

module _ (depth : Depth) (root : ℕ) (memory : Memory) where
  -- what may be kept so far may be kept of the memory, but for what the flushes that are left drop
  abbrev StandBefore : List Flush → List Flush → List ℕ → List Moment → Type 0
  StandBefore flushes counted gone moments = (kept : Kept) → MayKeep depth root moments kept → Stands depth root memory flushes counted gone kept

  -- after one that drops what is kept of tables no table is left that was unlinked
  tables_dropped : (flush : Flush) (flushes counted : List Flush) (gone : List ℕ) (moments : List Moment) → drops_tables flush ≡ true
      → StandBefore (flush ∷ flushes) counted gone moments → StandBefore flushes [] [] (Is memory ∷ Flushes flush ∷ moments)
  tables_dropped flush flushes counted gone moments drops first kept held =
      all_kept (stands_closed depth root memory flushes [] [] (λ k none. absurd none)) left kept held
    where
      left : (k : Kept) → MayKeep depth root (Flushes flush ∷ moments) k → Stands depth root memory flushes [] [] k
      left (Translation level page frame rights) was =
          λ spared. first (Translation level page frame rights) was.0 (λ one. ⊎_elim was.1 spared one)
      left (PagingEntry level region number rights) was = absurd (was.1 (drops_each flush drops level region number rights))

  -- after another one those are left that were
  page_dropped : (flush : Flush) (flushes counted : List Flush) (gone : List ℕ) (moments : List Moment)
      → ((kept : Kept) → IsDroppedByOne counted kept → IsDroppedByOne flushes kept)
      → StandBefore (flush ∷ flushes) counted gone moments → StandBefore flushes counted gone (Is memory ∷ Flushes flush ∷ moments)
  page_dropped flush flushes counted gone moments within first kept held =
      all_kept (stands_closed depth root memory flushes counted gone within) left kept held
    where
      left : (k : Kept) → MayKeep depth root (Flushes flush ∷ moments) k → Stands depth root memory flushes counted gone k
      left (Translation level page frame rights) was =
          λ spared. first (Translation level page frame rights) was.0 (λ one. ⊎_elim was.1 spared one)
      left (PagingEntry level region number rights) was = first (PagingEntry level region number rights) was.0

  nothing_left : (counted : List Flush) (gone : List ℕ) (kept : Kept) → ((k : Kept) → IsDroppedByOne counted k → ⊥)
      → Stands depth root memory [] counted gone kept → Reads depth root memory kept
  nothing_left counted gone (Translation level page frame rights) none stands = stands (λ no. no)
  nothing_left counted gone (PagingEntry level region number rights) none stands =
      ⊎_elim (λ fresh. fresh) (λ stale. absurd (none (PagingEntry level region number rights) stale.dropped)) stands

  read_out : (flushes counted : List Flush) (gone : List ℕ) (moments : List Moment)
      → ((kept : Kept) → IsDroppedByOne counted kept → IsDroppedByOne (from_tables flushes) kept)
      → StandBefore flushes counted gone moments
      → (kept : Kept) → MayKeep depth root (flushed_while memory flushes moments) kept → Reads depth root memory kept
  read_out [] counted gone moments had first = λ kept held. nothing_left counted gone kept had (first kept held)
  read_out (flush ∷ flushes) counted gone moments had first = by (read_out flushes) (drops_tables flush) refl had
    where
      by : ((counted : List Flush) (gone : List ℕ) (moments : List Moment)
          → ((kept : Kept) → IsDroppedByOne counted kept → IsDroppedByOne (from_tables flushes) kept)
          → StandBefore flushes counted gone moments
          → (kept : Kept) → MayKeep depth root (flushed_while memory flushes moments) kept → Reads depth root memory kept)
          → (b : Bool) → drops_tables flush ≡ b
          → ((kept : Kept) → IsDroppedByOne counted kept → IsDroppedByOne (if b then flush ∷ flushes else from_tables flushes) kept)
          → (kept : Kept) → MayKeep depth root (flushed_while memory flushes (Is memory ∷ Flushes flush ∷ moments)) kept → Reads depth root memory kept
      by go true drops left = go [] [] (Is memory ∷ Flushes flush ∷ moments) (λ k none. absurd none)
          (tables_dropped flush flushes counted gone moments drops first)
      by go false leaves left = go counted gone (Is memory ∷ Flushes flush ∷ moments) left
          (page_dropped flush flushes counted gone moments (λ k one. from_within flushes k (left k one)) first)

  had_first : (flushes all counted : List Flush) (gone : List ℕ) (kept : Kept) → ((k : Kept) → IsDroppedByOne all k → IsDroppedByOne flushes k)
      → Stands depth root memory all counted gone kept → Stands depth root memory flushes counted gone kept
  had_first flushes all counted gone (Translation level page frame rights) have stands =
      λ spared. stands (λ one. spared (have (Translation level page frame rights) one))
  had_first flushes all counted gone (PagingEntry level region number rights) have stands = stands

pub reading_suffice : (target : Target) (memory : Memory) (space : Space) (calls : List Call) (flushes : List Flush) (earlier : List Moment)
    → AreRight target memory space [] calls → HaveAllInOrder flushes calls → IsUpToDate target.depth target.root memory earlier
    → IsUpToDate target.depth target.root (ended_all memory calls) (flushed_while (ended_all memory calls) flushes (while_planned calls earlier))
reading_suffice target memory space calls flushes earlier are have is kept held =
    read_out target.depth target.root (ended_all memory calls) flushes (all_counted [] calls) (all_gone [] calls) (while_planned calls earlier)
    (ordered_counted flushes calls have)
    (λ k was. had_first target.depth target.root (ended_all memory calls) flushes (all_flushes [] calls) (all_counted [] calls) (all_gone [] calls) k
    (have_all flushes [] calls (ordered_all flushes calls have) (λ j none. absurd none))
    (stand_all target memory space [] [] [] calls earlier are (λ j none. none) (up_to_date_stands target memory earlier is) k was))
    kept held

pub lived_reading : (target : Target) (memory now : Memory) (space : Space) (calls : List Call) (flushes : List Flush) (earlier lived : List Moment)
    → AreRight target memory space [] calls → HaveAllInOrder flushes calls → IsUpToDate target.depth target.root memory earlier
    → AreButFlags lived (flushed_while (ended_all memory calls) flushes (while_planned calls earlier))
    → AreSameButFlags (ended_all memory calls) now → IsUpToDate target.depth target.root now lived
lived_reading target memory now space calls flushes earlier lived are have is lives same_flags =
    lived_up_to_date target.depth target.root lived (flushed_while (ended_all memory calls) flushes (while_planned calls earlier))
    (ended_all memory calls) now lives same_flags (reading_suffice target memory space calls flushes earlier are have is)

-- ---- what is kept meanwhile

-- more of the same
pub more_read : (depth : Depth) (root : ℕ) (memory : Memory) (flushes : List Flush) (less more : List Moment) → KeepsNoMore depth root less more
    → KeepsNoMore depth root (flushed_while memory flushes less) (flushed_while memory flushes more)
more_read depth root memory [] less more no_more = no_more
more_read depth root memory (flush ∷ flushes) less more no_more =
    more_read depth root memory flushes (Is memory ∷ Flushes flush ∷ less) (Is memory ∷ Flushes flush ∷ more)
    (more_is depth root memory (Flushes flush ∷ less) (Flushes flush ∷ more) (λ kept held. (no_more kept held.0, held.1)))

-- no more than without a flush
unflushed_read : (depth : Depth) (root : ℕ) (memory : Memory) (flushes : List Flush) (moments : List Moment)
    → KeepsNoMore depth root (flushed_while memory flushes moments) (Is memory ∷ moments)
unflushed_read depth root memory [] moments kept held = KeptBefore kept held
unflushed_read depth root memory (flush ∷ flushes) moments kept held =
    all_kept (closed depth root memory moments)
    (λ k once. all_kept (closed depth root memory moments) (λ j was. KeptBefore j was.0) k once)
    kept (unflushed_read depth root memory flushes (Is memory ∷ Flushes flush ∷ moments) kept held)

-- after stores their memory was read already
last_read : (depth : Depth) (root : ℕ) (memory : Memory) (stores : List Store) (earlier : List Moment)
    → KeepsNoMore depth root (Is (stored_all memory stores) ∷ while_stored memory stores earlier) (while_stored memory stores earlier)
last_read depth root memory stores earlier kept held =
    let last = last_moment memory stores earlier in
    subst (λ (ms : List Moment). MayKeep depth root ms kept) (sym last.1)
    (all_kept (closed depth root (stored_all memory stores) last.0) (λ k was. subst (λ (ms : List Moment). MayKeep depth root ms k) last.1 was) kept held)

finds_more : (depth : Depth) (root : ℕ) (memory : Memory) (less more : List Moment) → KeepsNoMore depth root less more
    → (address : ℕ) (end : Walk) → MayFind depth root memory less address end → MayFind depth root memory more address end
finds_more depth root memory less more no_more address end (ByTranslation level frame rights held) =
    ByTranslation level frame rights (no_more _ held)
finds_more depth root memory less more no_more address end (ByWalk level number rights held) = ByWalk level number rights (no_more _ held)

planned_last : (calls : List Call) (call : Call) (earlier : List Moment) → while_planned (calls ++ call ∷ []) earlier
    ≡ while_stored (begun call.memory call.plan) call.plan.stores.items (while_planned calls earlier)
planned_last [] call earlier = refl
planned_last (first ∷ calls) call earlier =
    planned_last calls call (while_stored (begun first.memory first.plan) first.plan.stores.items earlier)

pub lived_flushing : (target : Target) (memory now : Memory) (space : Space) (calls : List Call) (call : Call) (flushes : List Flush)
    (earlier lived : List Moment) (address : ℕ) (end : Walk) → AreRight target memory space [] (calls ++ call ∷ [])
    → IsUpToDate target.depth target.root memory earlier → IsCanonical target.depth address
    → AreButFlags lived (flushed_while (ended call.memory call.plan) flushes (while_planned (calls ++ call ∷ []) earlier))
    → AreSameButFlags (ended call.memory call.plan) now → MayFind target.depth target.root now lived address end
    → FindsOneOf target.depth target.root memory (calls ++ call ∷ []) address end
lived_flushing target memory now space calls call flushes earlier lived address end are is canonical lives same_flags find =
    let start = begun call.memory call.plan in
    let stores = call.plan.stores.items in
    let before = while_planned calls earlier in
    let after = ended call.memory call.plan in
    let told = flushed_while after flushes (while_planned (calls ++ call ∷ []) earlier) in
    let more : KeepsNoMore target.depth target.root told (while_stored start stores before) =
    λ kept held. last_read target.depth target.root start stores before kept
    (unflushed_read target.depth target.root after flushes (while_stored start stores before) kept
    (subst (λ (ms : List Moment). MayKeep target.depth target.root (flushed_while after flushes ms) kept) (planned_last calls call earlier) held)) in
    several_between target memory space calls call earlier (length stores) address end are is (le_refl (length stores)) canonical
    (subst (λ (ss : List Store). MayFind target.depth target.root (stored_all start ss) (while_stored start ss before) address end)
    (sym (take-length stores))
    (finds_more target.depth target.root after told (while_stored start stores before) more address end
    (lived_finds target.depth target.root lived told after now lives same_flags address end find)))
