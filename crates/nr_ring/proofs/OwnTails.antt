-- What a history begins with; and the local tail of a replica as its owner sees it.
use Rattle.std.proofs.Common.{◌≡◌, ℕ, zero, suc, ◌<◌, ◌≤◌, List, [], ◌∷◌, ◌++◌, All, Contains, Option, None, Some, length, length-append, ⊎_elim, refl, ap, sym}
use Rattle.std.proofs.Common.{subst, ◌∙◌, arith}
use Rattle.std.proofs.lemmas.List.{get_or-set_same}
use Rattle.std.proofs.lemmas.Bool.Decides.{eqb_tells}
use Rattle.version_cell.specs.Passes.{CellPass}
use Rattle.vs_types.specs.declared.addresses.depth.Depth.{Depth}
use Rattle.vs_types.specs.declared.log_entry.LogEntry.{LogEntry}
use Rattle.nr_ring.specs.LogHistory.{Log, IsLogHistory, MayGoOn, MayFollow, local_of, log_after, log_after_event, log_after_events, new_log, tail}
use Rattle.nr_ring.specs.View.{HasSeenAdvances}
use Rattle.nr_ring.specs.Calls.{HasLooked, HasTaken, LiesAhead, with_event}
use Rattle.nr_ring.specs.Entries.{HasAppended}
use Rattle.nr_ring.specs.declared.ring.log_event.LogEvent.{LogEvent}
use Rattle.nr_ring.specs.declared.ring.log_event.LogEvent.TheVariants.{Append, Advance}
use Rattle.nr_ring.specs.declared.cells.stored.Stored.{Stored}
use Rattle.nr_ring.specs.declared.ring.view.View.{View}
use Rattle.nr_ring.specs.inside.Held.{Remembers, owned, IsBelow}
use Rattle.nr_ring.proofs.Advances.{same_replica}
use Rattle.nr_ring.proofs.Histories.{beginning_goes_on, goes_on_after, local_since}
use Rattle.nr_ring.proofs.Splits.{holds_of}
use Rattle.nr_ring.proofs.Views.{after_one_more}

pub look_keeps : (depth : Depth) (replicas replica : ℕ) (before after : View) → HasLooked depth replicas before after → Contains before.owns replica
    → local_of (log_after replicas after.seen) replica ≡ local_of (log_after replicas before.seen) replica
look_keeps depth replicas replica before after looked has =
    local_since replicas replica after.seen before.seen
    (holds_of (λ r. HasSeenAdvances r after.seen before.seen) before.owns replica looked.advances has)

-- where a replica had entries to take, it has them still after a look
pub ahead_still : (depth : Depth) (replicas replica : ℕ) (before after : View) → HasLooked depth replicas before after → before.owns ≡ replica ∷ []
    → local_of (log_after replicas before.seen) replica < tail (log_after replicas before.seen)
    → LiesAhead replicas after (tail (log_after replicas after.seen))
ahead_still depth replicas replica before after looked owns ahead = λ r now.
    let same : r ≡ replica = same_replica after.owns r replica now (looked.owns ∙ owns) in
    let Has : List ℕ → Type 0 = λ l. Contains l replica in
    let stays = look_keeps depth replicas replica before after looked (subst Has (sym owns) (0, omega arith, refl)) in
    let on = beginning_goes_on depth replicas after.seen before.seen looked.is_history looked.seen in
    let first = log_after replicas before.seen in
    let longer : tail first ≤ tail (log_after replicas after.seen) =
    omega (arith, ap (λ (l : List LogEntry). length l) on.entries.1, length-append first.entries on.entries.0) in
    omega (arith, ap (λ p. local_of (log_after replicas after.seen) p) same, stays, ahead, longer)

one_more : (replicas : ℕ) (v w : View) (event : LogEvent) → w ≡ with_event v event
    → log_after replicas w.seen ≡ log_after_event (log_after replicas v.seen) event
one_more replicas v w event made = ap (λ (u : View). log_after replicas u.seen) made ∙ after_one_more (new_log replicas) v.seen event

pub append_keeps : (depth : Depth) (replicas replica place : ℕ) (batch : List LogEntry) (before after : View)
    → HasAppended depth replicas before batch place after → Contains before.owns replica
    → local_of (log_after replicas after.seen) replica ≡ local_of (log_after replicas before.seen) replica
append_keeps depth replicas replica place batch before after is has =
    ap (λ (log : Log). local_of log replica) (one_more replicas is.seen_before after (Append batch) is.appended)
    ∙ look_keeps depth replicas replica before is.seen_before is.looked has

-- the last event of a history may follow those before it
last_follows : (depth : Depth) (log : Log) (seen : List LogEvent) (event : LogEvent) → MayGoOn depth log (seen ++ event ∷ [])
    → MayFollow depth (log_after_events log seen) event
last_follows depth log seen event may = (goes_on_after depth log seen (event ∷ []) may).0

pub advance_sets : (depth : Depth) (replicas replica to : ℕ) (before after : View) → IsLogHistory depth replicas after.seen
    → HasTaken replicas before to after → before.owns ≡ replica ∷ [] → local_of (log_after replicas after.seen) replica ≡ to
advance_sets depth replicas replica to before after is taken owns =
    let same : taken.replica ≡ replica = same_replica before.owns taken.replica replica taken.owns owns in
    let local : ℕ → ℕ = λ r. local_of (log_after replicas before.seen) r in
    ap (λ r. local_of (log_after replicas after.seen) r) (sym same)
    ∙ ⊎_elim
    (λ t. ap (λ (u : View). local_of (log_after replicas u.seen) taken.replica) (taken.there t.1) ∙ t.1)
    (λ t.
    let made = taken.below t.1 in
    let Is : View → Type 0 = λ u. IsLogHistory depth replicas u.seen in
    let may = last_follows depth (new_log replicas) before.seen (Advance taken.replica to) (subst Is made is) in
    ap (λ (log : Log). local_of log taken.replica) (one_more replicas before after (Advance taken.replica to) made)
    ∙ get_or-set_same (log_after replicas before.seen).locals taken.replica to 0 may.there)
    (eqb_tells (local taken.replica) to)

pub advance_entries : (replicas to : ℕ) (before after : View) → HasTaken replicas before to after
    → (log_after replicas after.seen).entries ≡ (log_after replicas before.seen).entries
advance_entries replicas to before after taken =
    ⊎_elim
    (λ t. ap (λ (u : View). (log_after replicas u.seen).entries) (taken.there t.1))
    (λ t. ap (λ (log : Log). log.entries) (one_more replicas before after (Advance taken.replica to) (taken.below t.1)))
    (eqb_tells (local_of (log_after replicas before.seen) taken.replica) to)

below : (replicas : ℕ) (replica : Option ℕ) → IsBelow replicas replica → All (λ r. r < replicas) (owned replica)
below replicas None is k d lt = absurd (omega arith)
below replicas (Some r) is zero d lt = is r refl
below replicas (Some r) is (suc k) d lt = absurd (omega arith)

pub owned_below : (depth : Depth) (replicas passes places : ℕ) (replica : Option ℕ) (ring : ℕ) (p : CellPass View Stored)
    → Remembers depth replicas passes places replica ring p → All (λ r. r < replicas) p.view.owns
owned_below depth replicas passes places replica ring p is =
    let Below : List ℕ → Type 0 = λ l. All (λ r. r < replicas) l in
    subst Below (sym is.owns) (below replicas replica is.owned_below)
