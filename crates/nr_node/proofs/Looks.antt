-- What looks, and taking entries, leave as it was.
use Rattle.std.proofs.Common.{◌≡◌, ℕ, ◌+◌, ◌≤◌, List, [], ◌∷◌, ◌++◌, All, length, drop, ⊎_elim, refl, ap, sym, subst, ◌∙◌, arith}
use Rattle.std.proofs.Math.ListN.{length-append}
use Rattle.std.proofs.lemmas.List.{drop-drop, length-drop}
use Rattle.std.proofs.lemmas.List.Elements.{All-drop}
use Rattle.std.proofs.lemmas.Bool.{cases_eq}
use Rattle.vs_types.specs.LogEntry.{IsLogEntry}
use Rattle.vs_types.specs.declared.addresses.depth.Depth.{Depth}
use Rattle.vs_types.specs.declared.log_entry.LogEntry.{LogEntry}
use Rattle.nr_ring.specs.Calls.{HasLooked, HasTaken}
use Rattle.nr_ring.specs.Entries.{HasTakenAll, to_take}
use Rattle.nr_ring.specs.LogHistory.{IsLogHistory, local_of, log_after, tail}
use Rattle.nr_ring.specs.Laws.{HasGoneOn, FitsTheRing}
use Rattle.nr_ring.specs.View.{HasSeenAdvances}
use Rattle.nr_ring.specs.declared.ring.view.View.{View}
use Rattle.nr_ring.proofs.Fetches.{history_entries}
use Rattle.nr_ring.proofs.Histories.{beginning_goes_on, history_fits, local_since}
use Rattle.nr_ring.proofs.OwnTails.{advance_entries, advance_sets}
use Rattle.nr_node.specs.Node.{replica_of, taken_by}

-- ---- looks

pub looked_owner : (depth : Depth) (replicas : ℕ) (a b : View) → HasLooked depth replicas a b → a.owns ≡ replica_of a ∷ [] → b.owns ≡ replica_of b ∷ []
looked_owner depth replicas a b p owner =
    let P : List ℕ → Type 0 = λ l. l ≡ Rattle.std.specs.Prelude.slice_index l 0 ∷ [] in subst P (sym p.owns) owner

pub looked_replica : (depth : Depth) (replicas : ℕ) (a b : View) → HasLooked depth replicas a b → replica_of b ≡ replica_of a
looked_replica depth replicas a b p = ap (λ (l : List ℕ). Rattle.std.specs.Prelude.slice_index l 0) p.owns

-- a look leaves the local tail of the replica that a pass owns
pub looked_taken : (depth : Depth) (replicas : ℕ) (a b : View) → HasLooked depth replicas a b → a.owns ≡ replica_of a ∷ []
    → taken_by replicas b ≡ taken_by replicas a
looked_taken depth replicas a b p owner =
    let Q : List ℕ → Type 0 = λ l. All (λ replica. HasSeenAdvances replica b.seen a.seen) l in
    ap (λ r. local_of (log_after replicas b.seen) r) (looked_replica depth replicas a b p)
    ∙ local_since replicas (replica_of a) b.seen a.seen (subst Q owner p.advances 0 0 (omega arith))

pub looked_on : (depth : Depth) (replicas : ℕ) (a b : View) → HasLooked depth replicas a b → HasGoneOn (log_after replicas a.seen) (log_after replicas b.seen)
looked_on depth replicas a b p = beginning_goes_on depth replicas b.seen a.seen p.is_history p.seen

pub looked_fits : (depth : Depth) (replicas : ℕ) (a b : View) → HasLooked depth replicas a b → FitsTheRing (log_after replicas b.seen)
looked_fits depth replicas a b p = history_fits depth replicas b.seen p.is_history

-- ---- fetching and advancing

taken_owns : (replicas : ℕ) (b c : View) (to : ℕ) → HasTaken replicas b to c → c.owns ≡ b.owns
taken_owns replicas b c to taken =
    ⊎_elim (λ at. ap (λ (v : View). v.owns) (taken.there at)) (λ other. ap (λ (v : View). v.owns) (taken.below other))
    (cases_eq (local_of (log_after replicas b.seen) taken.replica) to)

taken_local : (depth : Depth) (replicas : ℕ) (b c : View) (to : ℕ) → HasTaken replicas b to c → IsLogHistory depth replicas c.seen → taken_by replicas c ≡ to
taken_local depth replicas b c to taken is =
    let own : replica_of c ≡ taken.replica =
    ap (λ (l : List ℕ). Rattle.std.specs.Prelude.slice_index l 0) (taken_owns replicas b c to taken ∙ taken.owns) in
    ap (λ r. local_of (log_after replicas c.seen) r) own ∙ advance_sets depth replicas taken.replica to b c is taken taken.owns

-- what a pass has that saw all entries, from the one behind so many on
pub record TookAll (depth : Depth) (replicas : ℕ) (before : View) (n : ℕ) (entries : List LogEntry) (after : View) : Type 0 where
  pub owns : after.owns ≡ before.owns
  pub more : (rest : List LogEntry) × ((log_after replicas after.seen).entries ≡ (log_after replicas before.seen).entries ++ rest)
  pub low : taken_by replicas after ≤ tail (log_after replicas after.seen)
  pub risen : taken_by replicas before ≤ taken_by replicas after
  pub count : n + length entries ≡ tail (log_after replicas after.seen)
  pub entries_are : entries ≡ drop n (log_after replicas after.seen).entries
  pub fit : All (IsLogEntry depth) entries

-- those above a local tail, and of them those that are new
above_local : (depth : Depth) (replicas : ℕ) (a c : View) (entries rest : List LogEntry) (local ahead n : ℕ) → IsLogHistory depth replicas c.seen
    → (log_after replicas c.seen).entries ≡ (log_after replicas a.seen).entries ++ rest → c.owns ≡ a.owns
    → taken_by replicas c ≤ tail (log_after replicas c.seen) → taken_by replicas a ≤ taken_by replicas c
    → entries ≡ drop local (log_after replicas c.seen).entries
    → local + ahead ≡ n → n ≤ tail (log_after replicas a.seen) → TookAll depth replicas a n (drop ahead entries) c
above_local depth replicas a c entries rest local ahead n history more owns low risen are sum written =
    let all = (log_after replicas c.seen).entries in
    let new : drop ahead entries ≡ drop n all =
    ap (λ (l : List LogEntry). drop ahead l) are ∙ drop-drop ahead local all ∙ ap (λ (k : ℕ). drop k all) sum in
    let longer : tail (log_after replicas a.seen) ≤ length all =
    omega (arith, ap (λ (l : List LogEntry). length l) more, length-append (log_after replicas a.seen).entries rest) in
    record {
      owns = owns;
      more = (rest, more);
      low = low;
      risen = risen;
      count = omega (arith, ap (λ (l : List LogEntry). length l) new, length-drop n all, longer, written);
      entries_are = new;
      fit = subst (All (IsLogEntry depth)) (sym new) (All-drop (IsLogEntry depth) n all (history_entries depth replicas c.seen history));
    }

-- no more are ahead than lie above the local tail
few_above : (replicas : ℕ) (a c : View) (entries rest : List LogEntry) (local ahead n : ℕ)
    → (log_after replicas c.seen).entries ≡ (log_after replicas a.seen).entries ++ rest → entries ≡ drop local (log_after replicas c.seen).entries
    → local + ahead ≡ n → n ≤ tail (log_after replicas a.seen) → ahead ≤ length entries
few_above replicas a c entries rest local ahead n more are sum written =
    omega (
      arith,
      sum,
      written,
      ap (λ (l : List LogEntry). length l) are,
      length-drop local (log_after replicas c.seen).entries,
      ap (λ (l : List LogEntry). length l) more,
      length-append (log_after replicas a.seen).entries rest,
    )

pub took_local : (depth : Depth) (replicas : ℕ) (a c : View) (entries : List LogEntry) → HasTakenAll depth replicas a entries c
    → taken_by replicas c ≡ tail (log_after replicas c.seen)
took_local depth replicas a c entries took =
    let to = tail (log_after replicas took.between.seen) in
    taken_local depth replicas took.between c to took.taken took.history
    ∙ sym (ap (λ (l : List LogEntry). length l) (advance_entries replicas to took.between c took.taken))

pub took_all : (depth : Depth) (replicas : ℕ) (a c : View) (entries : List LogEntry) (ahead n : ℕ) → HasTakenAll depth replicas a entries c
    → a.owns ≡ replica_of a ∷ [] → taken_by replicas a + ahead ≡ n → n ≤ tail (log_after replicas a.seen)
    → TookAll depth replicas a n (drop ahead entries) c
took_all depth replicas a c entries ahead n took owner sum written =
    let b = took.between in
    let to = tail (log_after replicas b.seen) in
    let same : (log_after replicas c.seen).entries ≡ (log_after replicas b.seen).entries = advance_entries replicas to b c took.taken in
    let on = looked_on depth replicas a b took.looked in
    let log = log_after replicas b.seen in
    let here : local_of log (replica_of a) ≡ taken_by replicas a =
    ap (λ r. local_of log r) (sym (looked_replica depth replicas a b took.looked)) ∙ looked_taken depth replicas a b took.looked owner in
    let are : entries ≡ drop (taken_by replicas a) (log_after replicas c.seen).entries =
    took.entries_are (replica_of a) owner ∙ ap (λ n. drop n log.entries) here ∙ ap (drop (taken_by replicas a)) (sym same) in
    above_local depth replicas a c entries on.entries.0 (taken_by replicas a) ahead n took.history (same ∙ on.entries.1)
    (taken_owns replicas b c to took.taken ∙ took.looked.owns) (omega (arith, took_local depth replicas a c entries took))
    (omega (
      arith,
      took_local depth replicas a c entries took,
      sum,
      written,
      ap (λ (l : List LogEntry). length l) (same ∙ on.entries.1),
      length-append (log_after replicas a.seen).entries on.entries.0,
    )) are sum written

pub took_few : (depth : Depth) (replicas : ℕ) (a c : View) (entries : List LogEntry) (ahead n : ℕ) → HasTakenAll depth replicas a entries c
    → a.owns ≡ replica_of a ∷ [] → taken_by replicas a + ahead ≡ n → n ≤ tail (log_after replicas a.seen) → ahead ≤ length entries
took_few depth replicas a c entries ahead n took owner sum written =
    let b = took.between in
    let on = looked_on depth replicas a b took.looked in
    let log = log_after replicas b.seen in
    let here : local_of log (replica_of a) ≡ taken_by replicas a =
    ap (λ r. local_of log r) (sym (looked_replica depth replicas a b took.looked)) ∙ looked_taken depth replicas a b took.looked owner in
    few_above replicas a b entries on.entries.0 (taken_by replicas a) ahead n on.entries.1
    (took.entries_are (replica_of a) owner ∙ ap (λ k. drop k log.entries) here) sum written

-- and so where it only looked
pub peeked_few : (depth : Depth) (replicas : ℕ) (a b : View) (entries : List LogEntry) (ahead n : ℕ) → HasLooked depth replicas a b
    → a.owns ≡ replica_of a ∷ [] → ((replica : ℕ) → a.owns ≡ replica ∷ [] → entries ≡ to_take (log_after replicas b.seen) replica)
    → taken_by replicas a + ahead ≡ n → n ≤ tail (log_after replicas a.seen) → ahead ≤ length entries
peeked_few depth replicas a b entries ahead n looked owner fetched sum written =
    let on = looked_on depth replicas a b looked in
    let log = log_after replicas b.seen in
    let here : local_of log (replica_of a) ≡ taken_by replicas a =
    ap (λ r. local_of log r) (sym (looked_replica depth replicas a b looked)) ∙ looked_taken depth replicas a b looked owner in
    few_above replicas a b entries on.entries.0 (taken_by replicas a) ahead n on.entries.1
    (fetched (replica_of a) owner ∙ ap (λ k. drop k log.entries) here) sum written

pub peeked_all : (depth : Depth) (replicas : ℕ) (a b : View) (entries : List LogEntry) (ahead n : ℕ) → HasLooked depth replicas a b
    → a.owns ≡ replica_of a ∷ [] → ((replica : ℕ) → a.owns ≡ replica ∷ [] → entries ≡ to_take (log_after replicas b.seen) replica)
    → taken_by replicas a + ahead ≡ n → n ≤ tail (log_after replicas a.seen) → TookAll depth replicas a n (drop ahead entries) b
peeked_all depth replicas a b entries ahead n looked owner fetched sum written =
    let on = looked_on depth replicas a b looked in
    let log = log_after replicas b.seen in
    let here : local_of log (replica_of a) ≡ taken_by replicas a =
    ap (λ r. local_of log r) (sym (looked_replica depth replicas a b looked)) ∙ looked_taken depth replicas a b looked owner in
    above_local depth replicas a b entries on.entries.0 (taken_by replicas a) ahead n looked.is_history on.entries.1 looked.owns
    ((looked_fits depth replicas a b looked).written (replica_of b)) (omega (arith, looked_taken depth replicas a b looked owner))
    (fetched (replica_of a) owner ∙ ap (λ k. drop k log.entries) here) sum written
