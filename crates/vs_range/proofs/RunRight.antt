-- A run is right where each of its pages is.
use Rattle.std.proofs.Common.{◌≡◌, ◌≢◌, ℕ, ◌+◌, ◌%◌, ◌<◌, ◌≤◌, List, [], ◌∷◌, Option, Some, Bool, true, false, refl, sym, ap, subst, ◌∙◌, arith, eqb-true}
use Rattle.std.specs.Prelude.{nat_eq, unwrap_or, if◌then◌else◌}
use Rattle.std.specs.FinMap as finite
use Rattle.vs_types.specs.Depth.{index_at, IsCanonical}
use Rattle.vs_types.specs.Page.{level_of, bytes_of}
use Rattle.vs_types.specs.Space.{Space}
use Rattle.vs_types.specs.declared.addresses.page.Rights.{Rights}
use Rattle.vs_walk.specs.Memory.{Memory}
use Rattle.vs_space.proofs.Written.{word_of}
use Rattle.vs_plan.specs.declared.plans.plan.Flush.{Flush}
use Rattle.vs_plan.specs.declared.plans.plan.Reply.{Reply}
use Rattle.vs_plan.specs.declared.plans.plan.Store.{Store}
use Rattle.vs_plan.specs.declared.plans.request.Request.{Request}
use Rattle.vs_plan.specs.declared.plans.target.Target.{Target}
use Rattle.vs_plan.specs.Flushed.{while_stored}
use Rattle.vs_plan.specs.Processor.{Kept, Moment, Is, MayKeep, IsUpToDate}
use Rattle.vs_plan.specs.Stores.{stored_all, FindTheirWords}
use Rattle.vs_plan.proofs.Kept.{Reads, stays_up_to_date}
use Rattle.vs_range.specs.declared.run.Forget.{Forget}
use Rattle.vs_range.specs.declared.run.Forget.TheVariants.{Nothing, Pages}
use Rattle.vs_range.specs.declared.run.Run.{Run}
use Rattle.vs_range.specs.Run.{if_new, stores_from, stores_of, flushes_in, SwitchesOnce, IsRunRight}
use Rattle.vs_range.specs.Several.{ended_all, while_planned, flushed_while, from_tables}
use Rattle.vs_plan.proofs.FlagsKept.{lived_up_to_date}
use Rattle.vs_range.proofs.Counted.{pages_alone}
use Rattle.vs_range.proofs.OnTable.{IsAtTable}
use Rattle.vs_range.proofs.Sequence.{HasCalls, IsPaged, sequence}
use Rattle.vs_range.proofs.PageFlushes.{pages_leave}
use Rattle.vs_range.proofs.Reading.{reading_suffice, more_read}

-- a store that changes its word
pub is_new : (store : Store) → store.old ≢ store.new → if_new store ≡ store ∷ []
is_new store apart = by (nat_eq store.old store.new) refl where
  by : (b : Bool) → nat_eq store.old store.new ≡ b → (if b then [] else store ∷ []) ≡ store ∷ []
  by true same = absurd (apart (eqb-true store.old store.new same))
  by false same = refl

-- its flushes leave tables
forget_leaves : (forget : Forget) → from_tables (flushes_in forget) ≡ []
forget_leaves Nothing = refl
forget_leaves (Pages base size count) = pages_leave base size 0 count

module _ (target : Target) (request : Request) (base : ℕ) (given : Rights) (run : Run) (words : List ℕ) (reply : ℕ → Reply) (bits : ℕ → ℕ)
    (flush : ℕ → Flush) (canonical : IsCanonical target.depth base) (aligned : base % bytes_of run.size ≡ 0)
    (here : run.index ≡ index_at (level_of run.size) base) (room : run.index + run.count ≤ 512)
    (pages : (number : ℕ) → number < run.count → IsPaged target request base given (flushes_in run.forget) run words reply bits flush number)
    (memory : Memory) (space : Space) (got : finite.get memory run.frame ≡ Some words)
    (at : IsAtTable target memory space run.size base run.frame given) where
  has_calls : HasCalls target request run.size base run.frame given (flushes_in run.forget) memory space 0 run.count (stores_from run words 0 run.count)
  has_calls = sequence target request base given (flushes_in run.forget) run words reply bits flush canonical aligned here run.count 0 run.count
      (omega arith) room pages memory space at (λ i low apart. word_of memory run.frame i (Some words) got)

  stores_are : stores_from run words 0 run.count ≡ stores_from run (unwrap_or (finite.get memory run.frame) []) 0 run.count
  stores_are = ap (λ (o : Option (List ℕ)). stores_from run (unwrap_or o []) 0 run.count) (sym got)

  pub run_right : IsRunRight target request memory space run
  run_right = record {
    calls = has_calls.calls;
    count = has_calls.many;
    asked = has_calls.asked;
    right = has_calls.right;
    done = has_calls.done;
    ended = has_calls.ended ∙ ap (stored_all memory) stores_are;
    unlinked = has_calls.unlinked;
    found = subst (FindTheirWords memory) stores_are has_calls.found;
    switches = λ address. subst (SwitchesOnce target.depth target.root address memory) stores_are (has_calls.switches address);
    flushed = has_calls.flushed;
    suffices = λ earlier lived now is lives same_flags. lived_up_to_date target.depth target.root lived
        (flushed_while (stored_all memory (stores_of memory run)) (flushes_in run.forget) (while_stored memory (stores_of memory run) earlier))
        (stored_all memory (stores_of memory run)) now lives same_flags (λ kept held. reads_again earlier is kept held);
  } where
    ended_is : ended_all memory has_calls.calls ≡ stored_all memory (stores_of memory run)
    ended_is = has_calls.ended ∙ ap (stored_all memory) stores_are

    -- what is kept of the run is kept of its calls
    reads_again : (earlier : List Moment) → IsUpToDate target.depth target.root memory earlier → (kept : Kept)
        → MayKeep target.depth target.root
        (flushed_while (stored_all memory (stores_of memory run)) (flushes_in run.forget) (while_stored memory (stores_of memory run) earlier)) kept
        → Reads target.depth target.root (stored_all memory (stores_of memory run)) kept
    reads_again earlier is kept held = subst (λ (m : Memory). Reads target.depth target.root m kept) ended_is
        (reading_suffice target memory space has_calls.calls (flushes_in run.forget) (Is memory ∷ earlier)
        (has_calls.right [] (λ none. absurd (omega (arith, none.1))))
        (pages_alone (flushes_in run.forget) has_calls.calls (forget_leaves run.forget) has_calls.flushed)
        (stays_up_to_date target.depth target.root memory earlier is) kept
        (more_read target.depth target.root (ended_all memory has_calls.calls) (flushes_in run.forget)
        (while_stored memory (stores_from run words 0 run.count) earlier) (while_planned has_calls.calls (Is memory ∷ earlier))
        (has_calls.moments earlier (Is memory ∷ earlier) (λ k h. h)) kept
        (subst (λ (stores : List Store). MayKeep target.depth target.root
        (flushed_while (ended_all memory has_calls.calls) (flushes_in run.forget) (while_stored memory stores earlier)) kept) (sym stores_are)
        (subst (λ (m : Memory). MayKeep target.depth target.root
        (flushed_while m (flushes_in run.forget) (while_stored memory (stores_of memory run) earlier)) kept) (sym ended_is) held))))
