-- The moments from which a touch may be answered, as they are looked for. No public clause cites this file.
use Rattle.std.specs.Prelude.{◌≡◌, ◌≢◌, ℕ, ◌+◌, ◌<◌, ◌≤◌, ◌⊎◌, Bool, true, false, not, length, List, All, AllPairs, Contains, IsTrue}
use Rattle.vs_types.specs.Space.{Space}
use Rattle.vs_types.specs.declared.requests.answer.Answer.{Answer}
use Rattle.vs_types.specs.declared.requests.answer.Answer.TheVariants.{Mapped}
use Rattle.vs_types.specs.declared.addresses.page.Rights.{Rights}
use Rattle.vs_types.specs.declared.addresses.page.Size.{Size}
use Rattle.nr_trace.specs.Recording.{Recording}
use Rattle.nr_touch.specs.Touches.{ChangesLook, Includes, IsAnsweredBefore, IsMadeAfter}
use Rattle.nr_explain.specs.Facts.{looks_from}
use Rattle.nr_explain.specs.ChainFacts.{is_mapped, EndsFinding, IsChangedAt, IsOpenEnd}
use Rattle.nr_explain.specs.declared.chain.evidence.Moment.{Moment}
use Rattle.nr_explain.specs.declared.chain.windows.Window.{Window}

-- the update of the place ends what a touch of the address finds, and is answered before the event; or it changes how the address looks, and is made
-- after it
abbrev pub IsFlushed : Space → Recording → ℕ → ℕ → Bool → ℕ → Type 0
IsFlushed start segment address made with_page place = EndsFinding start segment address with_page place × IsAnsweredBefore segment place made

abbrev pub IsForeseen : Space → Recording → ℕ → ℕ → ℕ → Type 0
IsForeseen start segment address answered place = ChangesLook start segment address place × IsMadeAfter segment place answered

-- a number of entries is none, or the last of them is such an update
abbrev pub HasReached : Space → Recording → ℕ → ℕ → Bool → ℕ → Type 0
HasReached start segment address made with_page first =
    (first ≡ 0) ⊎ ((place : ℕ) × (place + 1 ≡ first) × (place < length segment.log) × IsFlushed start segment address made with_page place)

-- of the places below an end, those behind and those before which the window lies, and the first that is open
pub record IsWindowBelow (start : Space) (segment : Recording) (address made answered : ℕ) (with_page : Bool) (end : ℕ) (window : Window) : Type 0 where
  pub flushed : (place : ℕ) → place < end → IsFlushed start segment address made with_page place → place < window.first
  pub reached : (window.first ≡ 0) ⊎ ((place : ℕ) × (place + 1 ≡ window.first) × (place < end) × IsFlushed start segment address made with_page place)
  pub not_foreseen : (place : ℕ) → place < end → IsForeseen start segment address answered place → window.last ≤ place
  pub met : (window.last ≡ length segment.log) ⊎ ((window.last < end) × IsForeseen start segment address answered window.last)
  pub within : window.last ≤ length segment.log
  pub not_open : (place : ℕ) → place < end → IsOpenEnd start segment address made with_page place → window.still_open ≤ place
  pub found : (window.still_open ≡ length segment.log) ⊎ ((window.still_open < end) × IsOpenEnd start segment address made with_page window.still_open)

-- the window of all places
abbrev pub IsWindowOf : Space → Recording → ℕ → ℕ → ℕ → Bool → Window → Type 0
IsWindowOf start segment address made answered with_page window =
    IsWindowBelow start segment address made answered with_page (length segment.log) window

-- of the moments up to after so many entries these are listed
pub record AreLooksBelow (start : Space) (segment : Recording) (address first end : ℕ) (looks : List Moment) : Type 0 where
  pub within : All (λ moment. (first ≤ moment.entries) × (moment.entries < end)) looks
  pub are : All (λ moment. moment.look ≡ looks_from start segment address moment.entries) looks
  pub rising : AllPairs (λ moment later. moment.entries < later.entries) looks
  pub changed : All (λ moment. (moment.entries ≡ first) ⊎ IsChangedAt start segment address moment.entries) looks
  pub all : (n : ℕ) → first ≤ n → n < end → (n ≡ first) ⊎ IsChangedAt start segment address n
      → (moment : Moment) × Contains looks moment × (moment.entries ≡ n)

-- an address looks as by the same page before, with rights that include those that it had
pub record StillLooks (before then : Answer) : Type 0 where
  pub phys : ℕ
  pub size : Size
  pub old : Rights
  pub new : Rights
  pub was : before ≡ Mapped phys size old
  pub is : then ≡ Mapped phys size new
  pub more : Includes old new

-- an address looks as by a page before, and then no longer so
abbrev pub IsTakenLook : Answer → Answer → Type 0
IsTakenLook before then = IsTrue (is_mapped before) × (StillLooks before then → ⊥)

-- so it is no longer found with a page, or without one
abbrev pub EndsBetween : Bool → Answer → Answer → Type 0
EndsBetween true before then = IsTakenLook before then
EndsBetween false before then = before ≢ then

-- whether a page covers an address that looks so, or none does, as is asked
abbrev pub is_found : Bool → Answer → Bool
is_found true look = is_mapped look
is_found false look = not (is_mapped look)
