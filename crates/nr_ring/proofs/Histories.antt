-- What events change.
use Rattle.std.proofs.Common.{◌≡◌, ℕ, zero, suc, ◌+◌, ◌≤◌, List, [], ◌∷◌, ◌++◌, All, length, get_or, replicate, subst, ◌⊎◌, inl, inr, ⊎_elim, refl, ap}
use Rattle.std.proofs.Common.{sym, ◌∙◌, le_refl, le_trans, arith}
use Rattle.std.proofs.Math.ListN.{length-append, length-set, length-replicate}
use Rattle.std.proofs.lemmas.List.{append-nil, append_assoc, get_or-set_other, get_or-set_same}
use Rattle.vs_types.specs.LogEntry.{IsLogEntry}
use Rattle.vs_types.specs.declared.addresses.depth.Depth.{Depth}
use Rattle.nr_ring.specs.declared.cells.words.TheConstants.{MOST_PLACES}
use Rattle.vs_types.specs.declared.log_entry.LogEntry.{LogEntry}
use Rattle.nr_ring.specs.LogHistory.{Log, new_log, tail, local_of, completed, MayAppend, MayFollow, MayGoOn, IsLogHistory, IsEnded, IsFull, log_after_event}
use Rattle.nr_ring.specs.LogHistory.{log_after_events}
use Rattle.nr_ring.specs.LogHistory.{log_after}
use Rattle.nr_ring.specs.View.{HasSeenAdvances, IsElse, StartsWith}
use Rattle.nr_ring.specs.Laws.{HasGoneOn, HasSameTails, FitsTheRing}
use Rattle.nr_ring.specs.declared.ring.log_event.LogEvent.{LogEvent}
use Rattle.nr_ring.specs.declared.ring.log_event.LogEvent.TheVariants.{Append, Advance}
use Rattle.nr_ring.proofs.LocalTails.{below_greatest, greatest_least, raised, still_below, le_or_lt, all_or_one}

gone_on : (p q : Log) → (rest : List LogEntry) × (q.entries ≡ p.entries ++ rest) → length q.locals ≡ length p.locals
    → ((replica : ℕ) → local_of p replica ≤ local_of q replica) → HasGoneOn p q
gone_on p q more same higher = record {
  entries = more;
  replicas = same;
  locals = higher;
  completed = greatest_least p.locals (completed q) (λ i. le_trans (higher i) (below_greatest q.locals i));
}

stands : (p : Log) → HasGoneOn p p
stands p = gone_on p p ([], sym (append-nil p.entries)) refl (λ r. le_refl _)

goes_on : (p q r : Log) → HasGoneOn p q → HasGoneOn q r → HasGoneOn p r
goes_on p q r a b =
    gone_on p r
    (a.entries.0 ++ b.entries.0, b.entries.1 ∙ ap (λ (l : List LogEntry). l ++ b.entries.0) a.entries.1 ∙ append_assoc p.entries a.entries.0 b.entries.0)
    (b.replicas ∙ a.replicas)
    (λ i. le_trans (a.locals i) (b.locals i))

one_event : (depth : Depth) (log : Log) (event : LogEvent) → MayFollow depth log event → HasGoneOn log (log_after_event log event)
one_event depth log (Append batch) may = gone_on log (log_after_event log (Append batch)) (batch, refl) refl (λ r. le_refl _)
one_event depth log (Advance replica to) may =
    gone_on log (log_after_event log (Advance replica to)) ([], sym (append-nil log.entries)) (length-set log.locals replica to)
    (λ r. raised log.locals replica to r (omega (arith, may.some)))

pub events_go_on : (depth : Depth) (log : Log) (events : List LogEvent) → MayGoOn depth log events → HasGoneOn log (log_after_events log events)
events_go_on depth log [] may = stands log
events_go_on depth log (event ∷ events) may =
    goes_on log (log_after_event log event) (log_after_events (log_after_event log event) events) (one_event depth log event may.0)
    (events_go_on depth (log_after_event log event) events may.1)

pub tail_rises : (p q : Log) → HasGoneOn p q → tail p ≤ tail q
tail_rises p q on = omega (arith, length-append p.entries on.entries.0, ap (λ (l : List LogEntry). length l) on.entries.1)

pub no_event : (depth : Depth) (log : Log) (events : List LogEvent) → MayGoOn depth log events → HasSameTails (log_after_events log events) log → events ≡ []
no_event depth log [] may same = refl
no_event depth log (Append batch ∷ events) may same =
    let later = tail_rises (log_after_event log (Append batch)) (log_after_events (log_after_event log (Append batch)) events)
    (events_go_on depth (log_after_event log (Append batch)) events may.1) in
    absurd (omega (arith, later, same.tail, may.0.some, length-append log.entries batch))
no_event depth log (Advance replica to ∷ events) may same =
    let later = (events_go_on depth (log_after_event log (Advance replica to)) events may.1).locals replica in
    let there = get_or-set_same log.locals replica to 0 may.0.there in
    absurd (omega (arith, later, there, same.locals replica, may.0.some))

fits_new : (replicas : ℕ) → FitsTheRing (new_log replicas)
fits_new replicas = record { written = zeros replicas; kept_up = λ r lt. omega arith; ends = omega arith } where
  zeros : (n r : ℕ) → get_or (replicate n 0) r 0 ≤ 0
  zeros zero r = le_refl 0
  zeros (suc n) zero = le_refl 0
  zeros (suc n) (suc r) = zeros n r

pub fits_after : (depth : Depth) (log : Log) (event : LogEvent) → MayFollow depth log event → FitsTheRing log → FitsTheRing (log_after_event log event)
fits_after depth log (Append batch) may is = record {
  written = λ r. omega (arith, is.written r, length-append log.entries batch);
  kept_up = λ r lt. omega (arith, may.kept_up r lt, length-append log.entries batch);
  ends = omega (arith, may.room, length-append log.entries batch);
}
fits_after depth log (Advance replica to) may is = record {
  written = λ r. still_below log.locals replica to r (tail log) may.written is.written;
  kept_up = λ r lt.
      let before = is.kept_up r (omega (arith, lt, length-set log.locals replica to)) in
      let higher = raised log.locals replica to r (omega (arith, may.some)) in
      omega (arith, before, higher);
  ends = is.ends;
}

fits_all : (depth : Depth) (log : Log) (events : List LogEvent) → MayGoOn depth log events → FitsTheRing log → FitsTheRing (log_after_events log events)
fits_all depth log [] may is = is
fits_all depth log (event ∷ events) may is = fits_all depth (log_after_event log event) events may.1 (fits_after depth log event may.0 is)

pub history_fits : (depth : Depth) (replicas : ℕ) (events : List LogEvent) → IsLogHistory depth replicas events → FitsTheRing (log_after replicas events)
history_fits depth replicas events is = fits_all depth (new_log replicas) events is (fits_new replicas)

pub refused : (depth : Depth) (log : Log) (batch : List LogEntry) → 1 ≤ length batch → length batch ≤ 16 → All (IsLogEntry depth) batch
    → MayAppend depth log batch ⊎ (IsEnded MOST_PLACES log (length batch) ⊎ IsFull log (length batch))
refused depth log batch some few fit =
    ⊎_elim
    (λ room. ⊎_elim (λ up. inl (record { some = some; few = few; entries = fit; room = room; kept_up = up })) (λ behind. inr (inr behind))
    (all_or_one (tail log + length batch) log.locals))
    (λ ended. inr (inl ended))
    (le_or_lt (tail log + length batch) MOST_PLACES)

pub goes_on_after : (depth : Depth) (log : Log) (seen rest : List LogEvent) → MayGoOn depth log (seen ++ rest) → MayGoOn depth (log_after_events log seen) rest
goes_on_after depth log [] rest may = may
goes_on_after depth log (event ∷ seen) rest may = goes_on_after depth (log_after_event log event) seen rest may.1

pub after_both : (log : Log) (seen rest : List LogEvent) → log_after_events log (seen ++ rest) ≡ log_after_events (log_after_events log seen) rest
after_both log [] rest = refl
after_both log (event ∷ seen) rest = after_both (log_after_event log event) seen rest

-- events that are no advance of a replica leave its local tail
local_stays : (replica : ℕ) (log : Log) (events : List LogEvent) → All (IsElse replica) events
    → local_of (log_after_events log events) replica ≡ local_of log replica
local_stays replica log [] all = refl
local_stays replica log (Append batch ∷ events) all = local_stays replica (log_after_event log (Append batch)) events (λ k d lt. all (suc k) d (omega arith))
local_stays replica log (Advance other to ∷ events) all =
    let differ : other ≡ replica → ⊥ = all 0 (Advance other to) (omega arith) in
    local_stays replica (log_after_event log (Advance other to)) events (λ k d lt. all (suc k) d (omega arith))
    ∙ get_or-set_other log.locals other replica to 0 (λ e. differ (sym e))

pub local_since : (replicas replica : ℕ) (events seen : List LogEvent) → HasSeenAdvances replica events seen
    → local_of (log_after replicas events) replica ≡ local_of (log_after replicas seen) replica
local_since replicas replica events seen is =
    ap (λ (l : List LogEvent). local_of (log_after replicas l) replica) is.1
    ∙ ap (λ (log : Log). local_of log replica) (after_both (new_log replicas) seen is.0)
    ∙ local_stays replica (log_after replicas seen) is.0 is.2

pub goes_on_before : (depth : Depth) (log : Log) (seen rest : List LogEvent) → MayGoOn depth log (seen ++ rest) → MayGoOn depth log seen
goes_on_before depth log [] rest may = tt
goes_on_before depth log (event ∷ seen) rest may = (may.0, goes_on_before depth (log_after_event log event) seen rest may.1)

pub as_many_locals : (depth : Depth) (replicas : ℕ) (events : List LogEvent) → IsLogHistory depth replicas events
    → length (log_after replicas events).locals ≡ replicas
as_many_locals depth replicas events is = (events_go_on depth (new_log replicas) events is).replicas ∙ length-replicate replicas 0

pub beginning_is : (depth : Depth) (replicas : ℕ) (events seen : List LogEvent) → IsLogHistory depth replicas events → StartsWith events seen
    → IsLogHistory depth replicas seen
beginning_is depth replicas events seen is begins =
    let Is : List LogEvent → Type 0 = λ l. IsLogHistory depth replicas l in
    goes_on_before depth (new_log replicas) seen begins.0 (subst Is begins.1 is)

pub beginning_goes_on : (depth : Depth) (replicas : ℕ) (events seen : List LogEvent) → IsLogHistory depth replicas events → StartsWith events seen
    → HasGoneOn (log_after replicas seen) (log_after replicas events)
beginning_goes_on depth replicas events seen is begins =
    let Is : List LogEvent → Type 0 = λ l. IsLogHistory depth replicas l in
    let To : Log → Type 0 = λ log. HasGoneOn (log_after replicas seen) log in
    let rest = goes_on_after depth (new_log replicas) seen begins.0 (subst Is begins.1 is) in
    subst To (sym (ap (log_after replicas) begins.1 ∙ after_both (new_log replicas) seen begins.0))
    (events_go_on depth (log_after replicas seen) begins.0 rest)

unfoldable pub begins : (a b c : List LogEvent) → StartsWith b a → StartsWith c b → StartsWith c a
begins a b c first second = (first.0 ++ second.0, second.1 ∙ ap (λ (l : List LogEvent). l ++ second.0) first.1 ∙ append_assoc a first.0 second.0)
