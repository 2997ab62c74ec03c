-- Runs: words of one table that change one after another, as the calls on their pages would change them.
use Rattle.std.specs.Prelude.{◌≡◌, ℕ, zero, suc, ◌+◌, ◌*◌, ◌⊎◌, List, [], ◌∷◌, ◌++◌, All, Contains, length, slice_index, unwrap_or, nat_eq}
use Rattle.std.specs.Prelude.{if◌then◌else◌}
use Rattle.std.specs.FinMap as finite
use Rattle.vs_types.specs.Page.{bytes_of}
use Rattle.vs_types.specs.Space.{Space}
use Rattle.vs_types.specs.declared.addresses.depth.Depth.{Depth}
use Rattle.vs_types.specs.declared.addresses.page.Size.{Size}
use Rattle.vs_walk.specs.Memory.{Memory}
use Rattle.vs_walk.specs.Walk.{walk}
use Rattle.vs_space.specs.Flags.{AreSameButFlags}
use Rattle.vs_plan.specs.declared.plans.plan.Flush.{Flush}
use Rattle.vs_plan.specs.declared.plans.plan.Flush.TheVariants as flushes
use Rattle.vs_plan.specs.declared.plans.plan.Store.{Store}
use Rattle.vs_plan.specs.declared.plans.request.Request.{Request}
use Rattle.vs_plan.specs.declared.plans.request.Request.TheVariants.{Map, Unmap, Protect}
use Rattle.vs_plan.specs.declared.plans.target.Target.{Target}
use Rattle.vs_types.specs.Bits.{with_rights, unflagged}
use Rattle.vs_plan.specs.Flushed.{while_stored}
use Rattle.vs_plan.specs.Lived.{AreButFlags}
use Rattle.vs_plan.specs.Processor.{Moment, IsUpToDate}
use Rattle.vs_plan.specs.Answered.{Changes}
use Rattle.vs_plan.specs.Stores.{stored, stored_all, FindTheirWords}
use Rattle.vs_range.specs.declared.run.Change.{Change}
use Rattle.vs_range.specs.declared.run.Change.TheVariants.{Write, Clear, Allow, Unflag}
use Rattle.vs_range.specs.declared.run.Forget.{Forget}
use Rattle.vs_range.specs.declared.run.Forget.TheVariants.{Nothing, Pages}
use Rattle.vs_range.specs.declared.run.Run.{Run}
use Rattle.vs_range.specs.Several.{Call, AreRight, ended_all, unlinked_by, HaveAll, flushed_while}

-- ---- the stores of a run

-- what the word of the page with this number becomes
abbrev pub word_after : Change → ℕ → ℕ → ℕ
word_after (Write first step) number word = first + number * step
word_after Clear number word = 0
word_after (Allow rights) number word = with_rights word rights
word_after Unflag number word = unflagged word

-- a store, if it changes its word
abbrev pub if_new : Store → List Store
if_new store = if nat_eq store.old store.new then [] else store ∷ []

-- the store of the page with this number, where the frame has these words
abbrev pub store_of : Run → List ℕ → ℕ → Store
store_of run words number = record {
  frame = run.frame;
  index = run.index + number;
  old = slice_index words (run.index + number);
  new = word_after run.change number (slice_index words (run.index + number));
}

-- the stores of so many pages, from one of a number on
abbrev pub stores_from : Run → List ℕ → ℕ → ℕ → List Store
stores_from run words number zero = []
stores_from run words number (suc count) = if_new (store_of run words number) ++ stores_from run words (suc number) count

-- all stores of a run, in their order
abbrev pub stores_of : Memory → Run → List Store
stores_of memory run = stores_from run (unwrap_or (finite.get memory run.frame) []) 0 run.count

-- ---- the calls of its pages

-- the request for the page so many pages on
abbrev pub pages_on : Request → Size → ℕ → Request
pages_on (Map page bits) size number =
    Map (record page { base = page.base + number * bytes_of size; phys = page.phys + number * bytes_of size }) bits
pages_on (Unmap base) size number = Unmap (base + number * bytes_of size)
pages_on (Protect base rights) size number = Protect (base + number * bytes_of size) rights
pages_on request size number = request

-- the calls ask for one page after another
abbrev pub AskInTurn : Request → Size → ℕ → List Call → Type 0
AskInTurn request size number [] = Unit {0}
AskInTurn request size number (call ∷ calls) = (call.request ≡ pages_on request size number) × AskInTurn request size (suc number) calls

-- ---- what a walk finds meanwhile

-- an address is walked alike after each of the stores
abbrev pub IsWalkedAlike : Depth → ℕ → ℕ → Memory → List Store → Type 0
IsWalkedAlike depth root address memory [] = Unit {0}
IsWalkedAlike depth root address memory (store ∷ later) =
    (walk depth (stored memory store) root address ≡ walk depth memory root address) × IsWalkedAlike depth root address (stored memory store) later

-- at most one of the stores changes how it is walked
abbrev pub SwitchesOnce : Depth → ℕ → ℕ → Memory → List Store → Type 0
SwitchesOnce depth root address memory [] = Unit {0}
SwitchesOnce depth root address memory (store ∷ later) =
    IsWalkedAlike depth root address (stored memory store) later
    ⊎ ((walk depth (stored memory store) root address ≡ walk depth memory root address) × SwitchesOnce depth root address (stored memory store) later)

-- ---- what is flushed

-- the flushes of so many pages, from one of a number on
abbrev pub pages_flushed : ℕ → Size → ℕ → ℕ → List Flush
pages_flushed base size number zero = []
pages_flushed base size number (suc count) = flushes.Page (base + number * bytes_of size) size ∷ pages_flushed base size (suc number) count

-- the flushes that a run names
abbrev pub flushes_in : Forget → List Flush
flushes_in Nothing = []
flushes_in (Pages base size count) = pages_flushed base size 0 count

-- ---- all of it

-- after the stores and the flushes each processor that was up to date before them is so again, whatever it reads between two of them, and whatever
-- flags are set meanwhile
abbrev pub SufficesAfter : Depth → ℕ → Memory → List Store → List Flush → Type 0
SufficesAfter depth root memory stores flushes = (earlier lived : List Moment) (now : Memory) → IsUpToDate depth root memory earlier
    → AreButFlags lived (flushed_while (stored_all memory stores) flushes (while_stored memory stores earlier))
    → AreSameButFlags (stored_all memory stores) now → IsUpToDate depth root now lived

-- a run for a request, in a memory that translates as the space
pub record IsRunRight (target : Target) (request : Request) (memory : Memory) (space : Space) (run : Run) : Type 0 where
  -- what came of it is what comes of a call for each page: each is done, by a plan that is right for the memory and the space after those before it.
  -- Any frames may have been unlinked before but the run's own
  pub calls : List Call
  pub count : length calls ≡ run.count
  pub asked : AskInTurn request run.size 0 calls
  pub right : (gone : List ℕ) → (Contains gone run.frame → ⊥) → AreRight target memory space gone calls
  pub done : All (λ (call : Call). Changes call.plan.reply) calls
  pub ended : ended_all memory calls ≡ stored_all memory (stores_of memory run)
  pub unlinked : unlinked_by calls ≡ []
  -- its stores find their words, and each address is walked as before up to one of them at most, and from it on as after all
  pub found : FindTheirWords memory (stores_of memory run)
  pub switches : (address : ℕ) → SwitchesOnce target.depth target.root address memory (stores_of memory run)
  -- its flushes have all that theirs drop, and suffice
  pub flushed : HaveAll (flushes_in run.forget) calls
  pub suffices : SufficesAfter target.depth target.root memory (stores_of memory run) (flushes_in run.forget)
