-- The words that a value needs: after an event those that were needed, and the entries of the batch that was appended.
use Rattle.std.proofs.Common.{◌≡◌, ℕ, zero, suc, ◌+◌, ◌-◌, ◌%◌, ◌<◌, ◌≤◌, List, [], ◌∷◌, ◌++◌, Contains, Some, length, replicate, ◌⊎◌, inl}
use Rattle.std.proofs.Common.{inr, ⊎_elim}
use Rattle.std.proofs.Common.{ap, sym, subst, ◌∙◌, arith}
use Rattle.std.specs.Option.{unwrap_or}
use Rattle.std.specs.Prelude.{slice_get, slice_index}
use Rattle.std.proofs.Math.ListN.{get_or-append, length-append, length-set}
use Rattle.std.proofs.lemmas.List.{get_or-append-add, get_or-replicate, get_or-set_other}
use Rattle.std.proofs.lemmas.Option.{slice_get_within}
use Rattle.vs_types.specs.declared.addresses.depth.Depth.{Depth}
use Rattle.vs_types.specs.declared.log_entry.LogEntry.{LogEntry}
use Rattle.vs_types.proofs.Lists.{get_left, get_right}
use Rattle.nr_ring.specs.Calls.{with_event}
use Rattle.nr_ring.specs.Laws.{FitsTheRing}
use Rattle.nr_ring.specs.LogHistory.{AllKeepUp, IsLogHistory, Log, MayAdvance, log_after, log_after_event, new_log, tail}
use Rattle.nr_ring.specs.View.{IsElse}
use Rattle.nr_ring.specs.Words.{IsOfBatch, NeededBy, Needs, last_ring, link, ring_before, rings_after, spot, stored_after, stored_after_event, stored_words}
use Rattle.nr_ring.specs.declared.ring.log_event.LogEvent.{LogEvent}
use Rattle.nr_ring.specs.declared.ring.log_event.LogEvent.TheVariants.{Append, Advance}
use Rattle.nr_ring.specs.declared.cells.stored.Stored.{Stored}
use Rattle.nr_ring.specs.declared.ring.view.View.{View}
use Rattle.nr_ring.specs.inside.Held.{LeadTo}
use Rattle.nr_ring.proofs.Histories.{history_fits}
use Rattle.nr_ring.proofs.LocalTails.{le_or_lt, raised}
use Rattle.nr_ring.proofs.Turns.{else_of, rings_long}
use Rattle.nr_ring.proofs.Views.{after_one_more}

-- ---- places

-- two places less than 16 apart share a spot only where they are one
pub same_place : (a b p q j k : ℕ) → spot a p + j ≡ spot b q + k → j < 2 → k < 2 → p < q + 16 → q < p + 16 → (p ≡ q) × (j ≡ k) × (a ≡ b)
same_place a b p q j k e j2 k2 near near' =
    let x = p % 16 in
    let y = q % 16 in
    let ring : a ≡ b = omega arith in
    let turn : x ≡ y = omega (arith, e, ring) in
    let word : j ≡ k = omega (arith, e, ring, turn) in
    (omega (arith, turn), word, ring)

-- the entries that replicas have still to take are the last 16
pub near_others : (log : Log) (rings : List ℕ) (r s at word other : ℕ) → FitsTheRing log → (m : NeededBy log rings r at word)
    → (n : NeededBy log rings s at other) → (m.place ≡ n.place) × (m.k ≡ n.k)
near_others log rings r s at word other fits m n =
    let first = slice_get_within log.entries m.place m.entry m.there in
    let second = slice_get_within log.entries n.place n.entry n.there in
    let same = same_place (slice_index rings m.place) (slice_index rings n.place) m.place n.place m.k n.k (sym m.at_is ∙ n.at_is) m.two n.two
    (omega (arith, first, n.untaken, fits.kept_up s n.present)) (omega (arith, second, m.untaken, fits.kept_up r m.present)) in
    (same.0, same.1)

-- at most one word is needed at a place
pub one_word : (depth : Depth) (replicas : ℕ) (x : Stored) (at word other : ℕ) → IsLogHistory depth replicas x.history → Needs replicas x at word
    → Needs replicas x at other → word ≡ other
one_word depth replicas x at word other is (r, m) (s, n) =
    let log = log_after replicas x.history in
    let same = near_others log x.rings r s at word other (history_fits depth replicas x.history is) m n in
    let one : Some m.entry ≡ Some n.entry = sym m.there ∙ ap (slice_get log.entries) same.0 ∙ n.there in
    let entry : m.entry ≡ n.entry = ap (λ o. unwrap_or o n.entry) one in
    m.word_is ∙ (λ i. slice_index (stored_words (entry i) (ring_before x.rings (same.0 i))) (same.1 i)) ∙ sym n.word_is

-- where there is room for so many entries, their places are free
pub free_place : (log : Log) (rings : List ℕ) (ring count i k r other : ℕ) → AllKeepUp log count → i < count → k < 2
    → NeededBy log rings r (spot ring (tail log + i) + k) other → ⊥
free_place log rings ring count i k r other room lt two n =
    let below = slice_get_within log.entries n.place n.entry n.there in
    let up = room r n.present in
    let same = same_place ring (slice_index rings n.place) (tail log + i) n.place k n.k n.at_is two n.two
    (omega (arith, below, n.untaken, up, lt)) (omega (arith, below)) in
    omega (arith, below, same.0)

pub places_free : (replicas ring count i k : ℕ) (x : Stored) (other : ℕ) → AllKeepUp (log_after replicas x.history) count → i < count → k < 2
    → Needs replicas x (spot ring (tail (log_after replicas x.history) + i) + k) other → ⊥
places_free replicas ring count i k x other room lt two (r, n) = free_place (log_after replicas x.history) x.rings ring count i k r other room lt two n

-- ---- an event keeps what a replica needs that it doesn't advance

pub kept_need : (log : Log) (rings : List ℕ) (ring : ℕ) (event : LogEvent) (r at word : ℕ) → length rings ≡ tail log → IsElse r event
    → NeededBy log rings r at word → NeededBy (log_after_event log event) (rings_after ring rings event) r at word
kept_need log rings ring (Append batch) r at word each apart n =
    let lt = slice_get_within log.entries n.place n.entry n.there in
    let more = replicate (length batch) ring in
    record {
      place = n.place;
      entry = n.entry;
      k = n.k;
      present = n.present;
      untaken = n.untaken;
      there = get_left log.entries batch n.place lt ∙ n.there;
      two = n.two;
      at_is = n.at_is ∙ ap (λ (a : ℕ). spot a n.place + n.k) (sym (get_or-append rings more 0 n.place (omega (arith, lt, each))));
      word_is = n.word_is
          ∙ ap (λ (b : ℕ). slice_index (stored_words n.entry b) n.k) (sym (get_or-append (0 ∷ rings) more 0 n.place (omega (arith, lt, each))));
    }
kept_need log rings ring (Advance other to) r at word each apart n = record {
  place = n.place;
  entry = n.entry;
  k = n.k;
  present = omega (arith, n.present, length-set log.locals other to);
  untaken = omega (arith, n.untaken, get_or-set_other log.locals other r to 0 (λ e. apart (sym e)));
  there = n.there;
  two = n.two;
  at_is = n.at_is;
  word_is = n.word_is;
}

-- and so do events of a pass that doesn't own the replica
pub needs_kept : (depth : Depth) (replicas places ring : ℕ) (v : View) (events : List LogEvent) (x : Stored) (r at word : ℕ)
    → length x.rings ≡ tail (log_after replicas x.history) → LeadTo depth replicas places v events → (Contains v.owns r → ⊥)
    → NeededBy (log_after replicas x.history) x.rings r at word
    → NeededBy (log_after replicas (stored_after ring x events).history) (stored_after ring x events).rings r at word
needs_kept depth replicas places ring v [] x r at word each lead apart n = n
needs_kept depth replicas places ring v (event ∷ events) x r at word each lead apart n =
    let log = log_after replicas x.history in
    let one = sym (after_one_more (new_log replicas) x.history event) in
    let At : Log → Type 0 = λ l. NeededBy l (rings_after ring x.rings event) r at word in
    needs_kept depth replicas places ring (with_event v event) events (stored_after_event ring x event) r at word
    (rings_long ring x.rings log event each ∙ ap tail one) lead.2 apart
    (subst At one (kept_need log x.rings ring event r at word each (else_of event v r lead.1 apart) n))

-- ---- what is needed after an event was needed before, or is of the batch

advance_needed : (log : Log) (rings : List ℕ) (replica to r at word : ℕ) → MayAdvance log replica to
    → NeededBy (log_after_event log (Advance replica to)) rings r at word → NeededBy log rings r at word
advance_needed log rings replica to r at word may n = record {
  place = n.place;
  entry = n.entry;
  k = n.k;
  present = omega (arith, n.present, length-set log.locals replica to);
  untaken = omega (arith, n.untaken, raised log.locals replica to r (omega (arith, may.some)));
  there = n.there;
  two = n.two;
  at_is = n.at_is;
  word_is = n.word_is;
}

pub advance_needs : (replicas ring replica to : ℕ) (x : Stored) (at word : ℕ) → MayAdvance (log_after replicas x.history) replica to
    → Needs replicas (stored_after_event ring x (Advance replica to)) at word → Needs replicas x at word
advance_needs replicas ring replica to x at word may (r, n) =
    let At : Log → Type 0 = λ l. NeededBy l x.rings r at word in (
      r,
      advance_needed (log_after replicas x.history) x.rings replica to r at word may
          (subst At (after_one_more (new_log replicas) x.history (Advance replica to)) n),
    )

-- the rings of the entries of a batch, and of those before them
batch_ring : (rings : List ℕ) (n ring i : ℕ) → i < n → slice_index (rings ++ replicate n ring) (length rings + i) ≡ ring
batch_ring rings n ring i lt = get_or-append-add rings (replicate n ring) i 0 ∙ get_or-replicate n i ring 0 lt

pub batch_link : (rings : List ℕ) (n ring i : ℕ) → i ≤ n
    → ring_before (rings ++ replicate n ring) (length rings + i) ≡ link (ring_before rings (length rings)) ring i
batch_link rings n ring zero le =
    ap (ring_before (rings ++ replicate n ring)) (Rattle.std.proofs.Common.add-zero (length rings))
    ∙ get_or-append (0 ∷ rings) (replicate n ring) 0 (length rings) (omega arith)
batch_link rings n ring (suc i) le =
    let at : length rings + suc i ≡ suc (length rings + i) = omega arith in
    ap (ring_before (rings ++ replicate n ring)) at ∙ batch_ring rings n ring i (omega arith)

append_needed : (log : Log) (rings : List ℕ) (ring : ℕ) (batch : List LogEntry) (r at word : ℕ) → length rings ≡ tail log
    → NeededBy (log_after_event log (Append batch)) (rings ++ replicate (length batch) ring) r at word
    → NeededBy log rings r at word ⊎ IsOfBatch ring (ring_before rings (length rings)) (tail log) batch at word
append_needed log rings ring batch r at word each n =
    let more = replicate (length batch) ring in
    let lt = slice_get_within (log.entries ++ batch) n.place n.entry n.there in
    ⊎_elim
    (λ (le : tail log ≤ n.place).
    let i = n.place - tail log in
    let at_place : n.place ≡ length log.entries + i = omega arith in
    let here : n.place ≡ length rings + i = omega (arith, each) in
    let within : i < length batch = omega (arith, lt, length-append log.entries batch) in
    inr record {
      i = i;
      entry = n.entry;
      k = n.k;
      there = sym (get_right log.entries batch i) ∙ ap (slice_get (log.entries ++ batch)) (sym at_place) ∙ n.there;
      two = n.two;
      at_is = n.at_is ∙ (λ j. spot ((ap (slice_index (rings ++ more)) here ∙ batch_ring rings (length batch) ring i within) j) (at_place j) + n.k);
      word_is = n.word_is ∙ ap (λ (b : ℕ). slice_index (stored_words n.entry b) n.k)
          (ap (ring_before (rings ++ more)) here ∙ batch_link rings (length batch) ring i (omega arith));
    })
    (λ (old : n.place < tail log).
    inl record {
      place = n.place;
      entry = n.entry;
      k = n.k;
      present = n.present;
      untaken = n.untaken;
      there = sym (get_left log.entries batch n.place old) ∙ n.there;
      two = n.two;
      at_is = n.at_is ∙ ap (λ (a : ℕ). spot a n.place + n.k) (get_or-append rings more 0 n.place (omega (arith, each)));
      word_is = n.word_is ∙ ap (λ (b : ℕ). slice_index (stored_words n.entry b) n.k) (get_or-append (0 ∷ rings) more 0 n.place (omega (arith, each)));
    })
    (le_or_lt (tail log) n.place)

pub append_needs : (replicas ring : ℕ) (batch : List LogEntry) (x : Stored) (at word : ℕ) → length x.rings ≡ tail (log_after replicas x.history)
    → Needs replicas (stored_after_event ring x (Append batch)) at word
    → Needs replicas x at word ⊎ IsOfBatch ring (last_ring x) (tail (log_after replicas x.history)) batch at word
append_needs replicas ring batch x at word each (r, n) =
    let log = log_after replicas x.history in
    let At : Log → Type 0 = λ l. NeededBy l (x.rings ++ replicate (length batch) ring) r at word in
    ⊎_elim (λ (old : NeededBy log x.rings r at word). inl (r, old))
    (λ (new : IsOfBatch ring (last_ring x) (tail log) batch at word). inr new)
    (append_needed log x.rings ring batch r at word each (subst At (after_one_more (new_log replicas) x.history (Append batch)) n))
