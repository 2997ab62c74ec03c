-- What the calls on a log show the pass that makes them.
use Rattle.std.specs.Prelude.{◌≡◌, ◌≢◌, ℕ, ◌+◌, ◌<◌, ◌≤◌, List, [], ◌∷◌, ◌++◌, All, Contains, length}
use Rattle.vs_types.specs.declared.addresses.depth.Depth.{Depth}
use Rattle.nr_ring.specs.LogHistory.{IsLogHistory, local_of, log_after, tail}
use Rattle.nr_ring.specs.View.{HasSeenAdvances, StartsWith}
use Rattle.nr_ring.specs.declared.ring.log_event.LogEvent.{LogEvent}
use Rattle.nr_ring.specs.declared.ring.log_event.LogEvent.TheVariants.{Append, Advance}
use Rattle.nr_ring.specs.declared.cells.stored.Stored.{Stored}
use Rattle.nr_ring.specs.declared.ring.view.View.{View}

-- after a look: the pass has seen a history that begins with all that it had seen and was given; it made no event, and nobody advanced a
-- replica that it owns
pub record HasLooked (depth : Depth) (replicas : ℕ) (before after : View) : Type 0 where
  pub is_history : IsLogHistory depth replicas after.seen
  pub seen : StartsWith after.seen before.seen
  pub told : All (StartsWith after.seen) before.told
  pub advances : All (λ replica. HasSeenAdvances replica after.seen before.seen) before.owns
  pub told_stays : after.told ≡ before.told
  pub mine : after.mine ≡ before.mine
  pub owns : after.owns ≡ before.owns
  pub rights : after.rights ≡ before.rights

-- and the value that it found is that history, with the ring of each entry; it has no more entries than the log has places
pub record Looks (depth : Depth) (replicas passes places : ℕ) (found : Stored) (before after : View) : Type 0 where
  pub looked : HasLooked depth replicas before after
  pub found_is : found.history ≡ after.seen
  pub each_ring : length found.rings ≡ tail (log_after replicas found.history)
  pub rings_below : All (λ ring. ring < passes) found.rings
  pub ends : tail (log_after replicas found.history) ≤ places

-- a pass that makes an event has a right to; and only the owner of a replica advances it
abbrev pub MayMake : View → LogEvent → Type 0
MayMake view (Append batch) = 1 ≤ view.rights
MayMake view (Advance replica to) = (1 ≤ view.rights) × Contains view.owns replica

-- the view of a pass that made an event when it had seen all
abbrev pub with_event : View → LogEvent → View
with_event view event = record {
  seen = view.seen ++ event ∷ [];
  mine = view.mine ++ length view.seen ∷ [];
  owns = view.owns;
  rights = view.rights;
  told = view.told;
}

-- and of one that made these, one after another
abbrev pub with_events : View → List LogEvent → View
with_events view [] = view
with_events view (event ∷ events) = with_events (with_event view event) events

-- what a pass owns is cut in two, of which it keeps the first
pub record IsCut (owned kept given : List ℕ) : Type 0 where
  pub kept_of : (replica : ℕ) → Contains kept replica → Contains owned replica
  pub given_of : (replica : ℕ) → Contains given replica → Contains owned replica
  pub apart : (replica : ℕ) → Contains kept replica → Contains given replica → ⊥

-- and so are its rights, of which it keeps one at least where it has made events
pub record AreCut (view : View) (kept given : ℕ) : Type 0 where
  pub all : kept + given ≡ view.rights
  pub of_makers : kept ≡ 0 → view.mine ≡ []

-- the view of a pass that keeps these replicas and so many rights
abbrev pub left_view : View → List ℕ → ℕ → View
left_view view kept rights = record { seen = view.seen; mine = view.mine; owns = kept; rights = rights; told = view.told }

-- and of the new pass: it has seen as much, and has made nothing
abbrev pub offshoot : View → List ℕ → ℕ → View
offshoot view given rights = record { seen = view.seen; mine = []; owns = given; rights = rights; told = [] }

-- a copy of a pass has seen as much, and can make no event
abbrev pub copy_of : View → View
copy_of view = offshoot view [] 0

-- the view of a pass that another was joined to: it was given what the other had seen, and has its rights. What it has seen
-- itself stays
abbrev pub joint_view : View → View → View
joint_view view other = record {
  seen = view.seen;
  mine = view.mine;
  owns = view.owns;
  rights = view.rights + other.rights;
  told = other.seen ∷ view.told;
}

-- the view of a pass that was joined away
abbrev pub empty_view : View
empty_view = record { seen = []; mine = []; owns = []; rights = 0; told = [] }

-- another pass's event has come: one that this pass had not seen before, and did not make
abbrev pub HasMoved : View → View → Type 0
HasMoved before after = (number : ℕ) × (length before.seen ≤ number) × (number < length after.seen) × (Contains after.mine number → ⊥)

-- a pass that owns a replica may take the entries up to a place: one from its local tail to the tail, as far as the pass has seen
pub record MayTake (replicas : ℕ) (view : View) (to : ℕ) : Type 0 where
  pub replica : ℕ
  pub owns : view.owns ≡ replica ∷ []
  pub above : local_of (log_after replicas view.seen) replica ≤ to
  pub written : to ≤ tail (log_after replicas view.seen)

-- the place lies ahead of the local tail of the replica that a pass owns, as far as the pass has seen
abbrev pub LiesAhead : ℕ → View → ℕ → Type 0
LiesAhead replicas view to = (replica : ℕ) → view.owns ≡ replica ∷ [] → local_of (log_after replicas view.seen) replica < to

-- it has made one advance of its replica to the place and has seen nothing else; where the local tail was there, nothing has changed
pub record HasTaken (replicas : ℕ) (before : View) (to : ℕ) (after : View) : Type 0 where
  pub replica : ℕ
  pub owns : before.owns ≡ replica ∷ []
  pub there : local_of (log_after replicas before.seen) replica ≡ to → after ≡ before
  pub below : local_of (log_after replicas before.seen) replica ≢ to → after ≡ with_event before (Advance replica to)
