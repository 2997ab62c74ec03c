-- What an update does to one page, and the changes that the updates of a trace make. Public clauses cite page_before alone.
use Rattle.std.specs.Prelude.{◌≡◌, ◌≢◌, ℕ, ◌+◌, ◌-◌, ◌%◌, ◌<◌, ◌^◌, ◌↔◌, if◌then◌else◌, nat_lt, Bool, true, false, List, [], ◌∷◌, length, slice_get, slice_index, Option}
use Rattle.std.specs.Prelude.{Some, None, Contains, IsTrue}
use Rattle.std.specs.FinMap as finite
use Rattle.vs_types.specs.Page.{bytes_of, covers, level_of, IsPage}
use Rattle.vs_types.specs.Space.{Space, page_at}
use Rattle.vs_types.specs.declared.addresses.depth.Depth.{Depth}
use Rattle.vs_types.specs.declared.addresses.page.Page.{Page}
use Rattle.vs_types.specs.declared.addresses.page.Size.{Size}
use Rattle.nr_trace.specs.Recording.{Recording}
use Rattle.nr_trace.specs.Calls.{Answers}
use Rattle.nr_touch.specs.Touches.{page_after, ChangesLook, IsTaken, TakesAway}
use Rattle.nr_touch.specs.declared.changes.change.Change.{Change}
use Rattle.nr_touch.specs.declared.changes.change.PlacedChange.{PlacedChange}

-- what covers the addresses of the page before the change
abbrev pub page_before : Change → Option Page
page_before change = if change.was_mapped then Some change.page else None

-- the addresses of one page look otherwise in the second space, and no others; and no page begins otherwise but at the base of that one
pub record IsPageChange (depth : Depth) (before after : Space) (change : Change) : Type 0 where
  pub well_formed : IsPage depth change.page
  pub was : (address : ℕ) → IsTrue (covers change.page address) → page_at before address ≡ page_before change
  pub differs : (address : ℕ) → IsTrue (covers change.page address) → page_at before address ≢ page_at after address
  pub takes : (address : ℕ) → IsTrue (covers change.page address) → IsTrue change.takes ↔ IsTaken (page_at before address) (page_at after address)
  pub others : (address : ℕ) → covers change.page address ≡ false → page_at before address ≡ page_at after address
  pub elsewhere : finite.remove after change.page.base ≡ finite.remove before change.page.base

-- what a step changes: one page, or no address looks otherwise
abbrev pub IsChange : Depth → Space → Space → Option Change → Type 0
IsChange depth before after None = (address : ℕ) → page_at before address ≡ page_at after address
IsChange depth before after (Some change) = IsPageChange depth before after change

-- the number of a page: no two pages with another base or size have the same
abbrev pub number_of : Page → ℕ
number_of page = page.base + level_of page.size

-- the number of the page of this size that has the address
abbrev pub number_at : ℕ → Size → ℕ
number_at address size = address - address % bytes_of size + level_of size

-- the change that the update of a place makes, with the event at which that was made, and the first one at which it was answered
pub record IsPlaced (start : Space) (trace : Recording) (c : PlacedChange) : Type 0 where
  pub made : slice_get trace.log c.place ≡ Some c.made
  pub well_formed : IsPage trace.layout.depth c.change.page
  pub number : c.number ≡ number_of c.change.page
  pub was : (address : ℕ) → IsTrue (covers c.change.page address) → page_after start trace address c.place ≡ page_before c.change
  pub differs : (address : ℕ) → IsTrue (covers c.change.page address) → ChangesLook start trace address c.place
  pub takes : (address : ℕ) → IsTrue (covers c.change.page address) → IsTrue c.change.takes ↔ TakesAway start trace address c.place
  pub answered : (event : ℕ) → event < 2 ^ 32 → (c.answered < event) ↔ ((reply : ℕ) × (reply < event) × Answers trace reply c.made)

-- when the update of a change was answered, if it takes away: after all events where it doesn't, or never was
abbrev pub taken_at : PlacedChange → ℕ
taken_at c = if c.change.takes then c.answered else 4294967295

-- when the answer of a change ends that its addresses are found to look as they do: with a page, or with none
abbrev pub ended_at : Bool → PlacedChange → ℕ
ended_at true c = taken_at c
ended_at false c = c.answered

-- some change that is listed is that of a place, and of a page that has the address
abbrev pub Lists : List PlacedChange → ℕ → ℕ → Type 0
Lists changes address place = (c : PlacedChange) × Contains changes c × (c.place ≡ place) × IsTrue (covers c.change.page address)

-- the changes of the first places, this many
pub record AreChangesBelow (start : Space) (trace : Recording) (changes : List PlacedChange) (end : ℕ) : Type 0 where
  pub each : (c : PlacedChange) → Contains changes c → IsPlaced start trace c × (c.place < end)
  pub all : (place address : ℕ) → place < end → ChangesLook start trace address place → Lists changes address place

abbrev pub AreChanges : Space → Recording → List PlacedChange → Type 0
AreChanges start trace changes = AreChangesBelow start trace changes (length trace.log)

-- what is listed of the change of a place
abbrev pub listed : Option Change → ℕ → ℕ → ℕ → List PlacedChange
listed None place made answered = []
listed (Some change) place made answered =
    record { change = change; number = number_of change.page; place = place; made = made; answered = answered } ∷ []

-- the first replies to all calls, of the events below an end
pub record AreRepliesBelow (trace : Recording) (replies : List ℕ) (end : ℕ) : Type 0 where
  pub one_each : length replies ≡ length trace.events
  pub first : (call event : ℕ) → call < length replies → event < 2 ^ 32
      → (slice_index replies call < event) ↔ ((reply : ℕ) × (reply < event) × (reply < end) × Answers trace reply call)

-- the earlier one of two changes, if there is one
abbrev pub earlier : Option PlacedChange → Option PlacedChange → Option PlacedChange
earlier None second = second
earlier (Some one) None = Some one
earlier (Some one) (Some other) = if nat_lt other.place one.place then Some other else Some one
