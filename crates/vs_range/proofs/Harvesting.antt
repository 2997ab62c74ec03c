-- A run that takes flags away finds its words, and changes nothing else.
use Rattle.std.proofs.Common.{◌≡◌, ℕ, zero, suc, ◌+◌, ◌*◌, ◌<◌, ◌≤◌, List, [], ◌∷◌, ◌++◌, All, Option, Some, Bool, true, false, refl, sym, ap, subst, ◌∙◌, arith}
use Rattle.std.specs.Prelude.{slice_index, nat_eq, unwrap_or, if◌then◌else◌}
use Rattle.std.specs.FinMap as finite
use Rattle.std.proofs.lemmas.List.Elements.{All-nil, All-cons}
use Rattle.vs_types.specs.Page.{bytes_of}
use Rattle.vs_types.specs.declared.addresses.page.Size.{Size}
use Rattle.vs_walk.specs.Memory.{Memory}
use Rattle.vs_space.specs.Held.{word_at}
use Rattle.vs_space.proofs.Footprints.{word_elsewhere}
use Rattle.vs_space.proofs.Written.{word_of}
use Rattle.vs_plan.specs.declared.plans.plan.Store.{Store}
use Rattle.vs_types.specs.Bits.{unflagged}
use Rattle.vs_plan.specs.Processor.{page_number, Translation}
use Rattle.vs_plan.specs.Stores.{stored, FindTheirWords}
use Rattle.vs_plan.proofs.Stored.{used_word}
use Rattle.vs_range.specs.declared.planner.RangePlanner.{RangePlanner}
use Rattle.vs_range.specs.declared.run.Run.{Run}
use Rattle.vs_range.specs.Planner.{IsAsk, IsPageWord, IsLongest, IsHarvestNext, IsRunOf, harvest_run}
use Rattle.vs_range.specs.Run.{store_of, stores_from}
use Rattle.vs_range.proofs.PageFlushes.{one_of}

-- each store finds its word, where the words from a number on are as they were
module _ (run : Run) (words : List ℕ) where
  abbrev AreThere : Memory → ℕ → ℕ → Type 0
  AreThere memory number count = (k : ℕ) → number ≤ k → k < number + count
      → word_at memory run.frame (run.index + k) ≡ Some (slice_index words (run.index + k))

  stores_find : (count number : ℕ) (memory : Memory) → AreThere memory number count → FindTheirWords memory (stores_from run words number count)
  stores_find zero number memory there = tt
  stores_find (suc count) number memory there =
      by (nat_eq (slice_index words (run.index + number)) (store_of run words number).new)
      (λ m same. stores_find count (suc number) m same)
    where
      told : word_at memory run.frame (run.index + number) ≡ Some (slice_index words (run.index + number))
      told = there number (omega arith) (omega arith)

      by : (b : Bool)
          → ((m : Memory) → AreThere m (suc number) count → FindTheirWords m (stores_from run words (suc number) count))
          → FindTheirWords memory ((if b then [] else store_of run words number ∷ []) ++ stores_from run words (suc number) count)
      by true go = go memory (λ k from below. there k (omega arith) (omega arith))
      by false go = (
        told,
        go (stored memory (store_of run words number)) (λ k from below.
            word_elsewhere memory run.frame (run.index + number) (store_of run words number).new run.frame (run.index + k)
            (used_word memory run.frame (run.index + number) (slice_index words (run.index + number)) told) (λ same. omega arith)
            ∙ there k (omega arith) (omega arith)),
      )

-- each of them takes the flags from the entry of a page
module _ (size : Size) (base frame index level : ℕ) (words : List ℕ) where
  cleared : (total count number : ℕ) → ((k : ℕ) → k < number + count → IsPageWord level (slice_index words (index + k)))
      → All (λ (store : Store). IsPageWord level store.old × (store.new ≡ unflagged store.old))
      (stores_from (harvest_run size base total frame index) words number count)
  cleared total zero number pages = All-nil _
  cleared total (suc count) number pages =
      by (nat_eq (slice_index words (index + number)) (unflagged (slice_index words (index + number))))
      (cleared total count (suc number) (λ k lt. pages k (omega arith)))
    where
      by : (b : Bool)
          → All (λ (store : Store). IsPageWord level store.old × (store.new ≡ unflagged store.old))
          (stores_from (harvest_run size base total frame index) words (suc number) count)
          → All (λ (store : Store). IsPageWord level store.old × (store.new ≡ unflagged store.old))
          ((if b then [] else store_of (harvest_run size base total frame index) words number ∷ [])
          ++ stores_from (harvest_run size base total frame index) words (suc number) count)
      by true rest = rest
      by false rest = All-cons (λ (store : Store). IsPageWord level store.old × (store.new ≡ unflagged store.old))
          (store_of (harvest_run size base total frame index) words number)
          (stores_from (harvest_run size base total frame index) words (suc number) count)
          (pages number (omega arith), refl) rest

pub harvest_next : (memory : Memory) (range : RangePlanner) (words : List ℕ) (size : Size) (index count : ℕ) → IsAsk range.planner.request
    → IsRunOf memory range (harvest_run size range.base count range.planner.number index)
    → finite.get memory range.planner.number ≡ Some words → 1 ≤ count → count * bytes_of size ≤ range.bytes
    → ((k : ℕ) → k < count → IsPageWord range.planner.level (slice_index words (index + k)))
    → IsLongest memory range (harvest_run size range.base count range.planner.number index)
    → IsHarvestNext memory range (harvest_run size range.base count range.planner.number index)
harvest_next memory range words size index count kind of_table got some within pages longest =
    let same : stores_from (harvest_run size range.base count range.planner.number index) words 0 count
    ≡ stores_from (harvest_run size range.base count range.planner.number index) (unwrap_or (finite.get memory range.planner.number) []) 0 count =
    ap (λ (o : Option (List ℕ)). stores_from (harvest_run size range.base count range.planner.number index) (unwrap_or o []) 0 count) (sym got) in
    record {
      kind = kind;
      of_table = of_table;
      pages = λ number lt. subst (λ (ws : List ℕ). IsPageWord range.planner.level (slice_index ws (index + number)))
          (ap (λ (o : Option (List ℕ)). unwrap_or o []) (sym got)) (pages number lt);
      some = some;
      within = within;
      longest = longest;
      forgets = refl;
      found = subst (FindTheirWords memory) same
          (stores_find (harvest_run size range.base count range.planner.number index) words count 0 memory
          (λ k from below. word_of memory range.planner.number (index + k) (Some words) got));
      cleared = subst (All (λ (store : Store). IsPageWord range.planner.level store.old × (store.new ≡ unflagged store.old))) same
          (cleared size range.base range.planner.number index range.planner.level words count count 0 (λ k lt. pages k (omega arith)));
      dropped = λ number frame level rights lt. one_of range.base size size number count 0 (omega arith) (omega arith)
          (Translation level (page_number level (range.base + number * bytes_of size)) frame rights) refl;
    }
