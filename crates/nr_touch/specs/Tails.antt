-- What a run leaves for the touches of later segments: how addresses may still be found to look.
use Rattle.std.specs.Prelude.{◌≡◌, ℕ, ◌+◌, ◌%◌, ◌<◌, ◌≤◌, ◌^◌, ◌↔◌, ◌⊎◌, ◌&&◌, Bool, List, [], ◌∷◌, length, slice_get, take, false, Option, None, Some, ⊤}
use Rattle.std.specs.Prelude.{Contains, IfSome, IsTrue}
use Rattle.vs_types.specs.Page.{bytes_of, covers}
use Rattle.vs_types.specs.Space.{Space}
use Rattle.vs_types.specs.declared.addresses.page.Page.{Page}
use Rattle.nr_trace.specs.Recording.{Recording}
use Rattle.nr_trace.specs.Calls.{Answers}
use Rattle.nr_trace.specs.Run.{Run, end_of, IsOrderly}
use Rattle.nr_touch.specs.Touches.{page_after, ChangesLook, EndsLook}
use Rattle.nr_touch.specs.inside.Changes.{page_before}
use Rattle.nr_touch.specs.inside.Indexed.{HasPages}
use Rattle.nr_touch.specs.inside.Levels.{AreLevels}
use Rattle.nr_touch.specs.inside.Listed.{AreListed, HasRoom}
use Rattle.nr_touch.specs.declared.touches.tail.Left.{Left}
use Rattle.nr_touch.specs.declared.touches.tail.Tail.{Tail}

-- the call that the log has at the place has no reply
abbrev pub IsNeverAnswered : Recording → ℕ → Type 0
IsNeverAnswered trace place = (call reply : ℕ) → slice_get trace.log place ≡ Some call → Answers trace reply call → ⊥

-- no update from the place on that ends that the address is found to look so is answered
abbrev pub AreOpenFrom : Space → Recording → ℕ → Option Page → ℕ → Type 0
AreOpenFrom start trace address page from = (place : ℕ) → from ≤ place → EndsLook start trace address page place → IsNeverAnswered trace place

-- behind a run an address may still be found to look so: it did before an update that changes it, and no update from that one on that ends this was
-- ever answered
pub record Lingers (start : Space) (trace : Recording) (address : ℕ) (page : Option Page) : Type 0 where
  pub place : ℕ
  pub changes : ChangesLook start trace address place
  pub still_open : AreOpenFrom start trace address page place
  pub looks : page_after start trace address place ≡ page

-- the change ends that its addresses are found to look so: it is over, and takes away where a page is found
abbrev pub ends_look : Left → Option Page → Bool
ends_look left None = left.over
ends_look left (Some page) = left.over && left.change.takes

-- none of the changes that have the address ends that it is found to look so
abbrev pub HasNoEnd : List Left → ℕ → Option Page → Type 0
HasNoEnd changes address page =
    (left : Left) → Contains changes left → IsTrue (covers left.change.page address) → ends_look left page ≡ false

-- a look of changes is left: that before a change which has the address, where neither that one nor a later one that has it ends it
abbrev pub IsLeft : List Left → ℕ → Option Page → Type 0
IsLeft [] address page = ⊥
IsLeft (left ∷ later) address page =
    (IsTrue (covers left.change.page address) × (ends_look left page ≡ false) × HasNoEnd later address page × (page_before left.change ≡ page))
    ⊎ IsLeft later address page

-- the page of a change has room
pub record IsSoundLeft (left : Left) : Type 0 where
  pub aligned : left.change.page.base % bytes_of left.change.page.size ≡ 0
  pub ends : left.change.page.base + bytes_of left.change.page.size ≤ 2 ^ 64
  pub frame : left.change.page.phys % bytes_of left.change.page.size ≡ 0
  pub low : left.change.page.phys + bytes_of left.change.page.size < 2 ^ 64

-- what is left has room, and is little enough to be counted
pub record AreSound (changes : List Left) : Type 0 where
  pub few : length changes < 4294967295
  pub each : (left : Left) → Contains changes left → IsSoundLeft left

-- each change of a tail has room, and they are little enough to be counted; its levels have their columns, and the pages that it lists have room
abbrev pub IsSoundTail : Tail → Type 0
IsSoundTail tail = AreSound tail.changes.items × AreLevels tail.changes.items tail.levels.items × IfSome tail.index (λ index. HasRoom index.lingering)

-- the indexes of a tail, if there are any, have each page of a space, and each page that its changes leave
abbrev pub HasIndexes : Tail → Space → Type 0
HasIndexes tail space = IfSome tail.index (λ index.
    HasPages index.pages space × AreListed (IsLeft tail.changes.items) index.lingering index.gone)

-- what is left behind a run: just the looks that linger; and the indexes, if there are any, have each page of the space at its end, and each page that is left
pub record IsTailOfRun (run : Run) (tail : Tail) : Type 0 where
  pub orderly : IsOrderly run.trace
  pub left : (address : ℕ) (page : Option Page) → IsLeft tail.changes.items address page ↔ Lingers run.start run.trace address page
  pub index : HasIndexes tail (end_of run)

-- a segment goes on where a run ends, and is laid out as that
abbrev pub GoesOn : Option Run → Recording → Space → Type 0
GoesOn None segment start = ⊤
GoesOn (Some run) segment start = (start ≡ end_of run) × (segment.layout ≡ run.trace.layout)

-- the changes that are said to be kept are those that were there before
abbrev pub KeepsChanges : Tail → Tail → Type 0
KeepsChanges before after = take after.kept after.changes.items ≡ take after.kept before.changes.items

-- all of them are said to be kept, and are
abbrev pub KeepsAll : Tail → Tail → Type 0
KeepsAll before after = (after.changes.items ≡ before.changes.items) × (after.kept ≡ length after.changes.items)

-- what is left behind a run; behind none nothing is left, and no index is built
abbrev pub IsTailOf : Option Run → Tail → Type 0
IsTailOf None tail = (tail.changes.items ≡ []) × (tail.index ≡ None)
IsTailOf (Some run) tail = IsTailOfRun run tail
