-- The touches of a segment, and which are stale.
use Rattle.std.specs.Prelude.{◌≡◌, ◌==◌, ℕ, if◌then◌else◌, map, max, take, fold, filter_map, Option, Some}
use Rattle.std.specs.Option.{option_map_or}
use Rattle.vs_types.specs.Space.{Space}
use Rattle.nr_trace.specs.Recording.{Recording}
use Rattle.nr_trace.specs.Calls.{call_of, touch_of, Response, reply_in, reply_of}
use Rattle.nr_trace.specs.declared.recordings.event.Asked.TheVariants as askeds
use Rattle.nr_trace.specs.Orders.{known_by}
use Rattle.nr_trace.specs.Run.{Run}
use Rattle.nr_touch.specs.Touches.{IsRightBehind}
use Rattle.nr_touch.specs.declared.touches.touch.Touch.{Touch}

-- how many entries a reply shows that a replica has applied: those that are known by it, if its call was made there
abbrev pub known_to : Recording → ℕ → Response → ℕ
known_to segment replica reply =
    option_map_or (λ made. if made.replica == replica then known_by segment reply else 0) (call_of segment reply.call) 0

-- the most entries that the replies before an event show that a replica has applied
abbrev pub known_at : Recording → ℕ → ℕ → ℕ
known_at segment replica event = fold max 0 (map (known_to segment replica) (filter_map reply_in (take event segment.events)))

-- how many entries its replica was known to have applied when a call was made
abbrev pub known_when : Recording → ℕ → ℕ
known_when segment call = option_map_or (λ made. known_at segment made.replica call) (call_of segment call) 0

-- the segment has this touch: it asks so as the event at which it is made, and the event at which it is answered is its reply. Its replica was
-- known to have applied so many entries when it was made
pub record HasTouch (segment : Recording) (touch : Touch) : Type 0 where
  pub asks : touch_of segment touch.made ≡ Some (askeds.Touch touch.address touch.mode touch.access)
  pub reply : Response
  pub is_reply : reply_of segment touch.answered ≡ Some reply
  pub of_it : reply.call ≡ touch.made
  pub answer : reply.answer ≡ touch.answer
  pub known : touch.known ≡ known_when segment touch.made

-- every answered touch of a segment behind a run is right, where the segment begins with this space
abbrev pub HasRightTouches : Option Run → Space → Recording → Type 0
HasRightTouches before start segment = (touch : Touch) → HasTouch segment touch → IsRightBehind before start segment touch

-- the call of this number is an answered touch that is not right
abbrev pub IsStale : Option Run → Space → Recording → ℕ → Type 0
IsStale before start segment call = (touch : Touch) × HasTouch segment touch × (touch.made ≡ call) × (IsRightBehind before start segment touch → ⊥)
