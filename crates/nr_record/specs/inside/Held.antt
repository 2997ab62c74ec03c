-- What the type of a pen keeps. No public clause cites this file.
use Rattle.std.specs.Prelude.{◌≡◌, ℕ, ◌+◌, ◌*◌, ◌<◌, ◌≤◌, List, All, Contains, length, map, Option, Some, None, ⊤}
use Rattle.vs_types.specs.Config.{Layout}
use Rattle.vs_types.specs.declared.requests.request.Query.{Query}
use Rattle.nr_trace.specs.Recording.{IsEvent}
use Rattle.nr_trace.specs.declared.recordings.event.Event.{Event}
use Rattle.nr_trace.specs.declared.recordings.event.Event.TheVariants.{Call, Reply}
use Rattle.nr_trace.specs.declared.recordings.event.Asked.TheVariants as askeds
use Rattle.nr_trace.specs.declared.formats.version.Version.TheVariants.{V2}
use Rattle.nr_record.specs.Stamps.{Rise}
use Rattle.nr_record.specs.Pen.{PenState, call_by, calls_in, home_of, stamped, stamps_of}
use Rattle.nr_record.specs.declared.stamped.Stamped.{Stamped}
use Rattle.nr_record.specs.declared.view.View.{View}

-- the pen has made this call
abbrev pub HasMade : Layout → ℕ → List Stamped → ℕ → Type 0
HasMade layout thread made call = (request : Query) × Contains made (stamped call (call_by layout thread request))

-- a call of the thread, or the reply to one; a pen makes no touches and no releases
abbrev pub IsOwn : Layout → ℕ → List Stamped → Event → Type 0
IsOwn layout thread made (Call replica caller (askeds.Request request)) = (replica ≡ home_of layout thread) × (caller ≡ thread)
IsOwn layout thread made (Reply call at answer) = HasMade layout thread made call
IsOwn layout thread made event = ⊥

abbrev pub waits : Option ℕ → ℕ
waits None = 0
waits (Some call) = 1

abbrev pub IsWaiting : Layout → ℕ → List Stamped → Option ℕ → Type 0
IsWaiting layout thread made None = ⊤
IsWaiting layout thread made (Some call) = HasMade layout thread made call

-- a pen's notes are of the stamps that its seat has drawn, and are those of its thread; there is room for all that its quota allows
pub record IsHeld (view : View) (replica thread : ℕ) (waiting : Option ℕ) (room : ℕ) (made : List Stamped) : Type 0 where
  pub same : map (λ item. item.stamp) made ≡ view.stamps
  pub replica_is : replica ≡ home_of view.plan.config thread
  pub is_replica : replica < view.plan.config.replicas
  pub is_thread : thread < view.plan.config.threads
  pub room_is : 2 * view.quota ≤ room
  pub pairs : length made + waits waiting ≡ 2 * calls_in made
  pub within : calls_in made ≤ view.quota
  pub rising : Rise view.stamps
  pub events : All (λ item. IsEvent V2 view.plan.config item.event) made
  pub own : All (λ item. IsOwn view.plan.config thread made item.event) made
  pub is_waiting : IsWaiting view.plan.config thread made waiting

-- and this is what each pen is seen to be
pub record IsTrueOf (pen : PenState) : Type 0 where
  pub rising : Rise (stamps_of pen)
  pub events : All (λ item. IsEvent V2 pen.clock.layout item.event) pen.made
  pub own : All (λ item. IsOwn pen.clock.layout pen.thread pen.made item.event) pen.made
