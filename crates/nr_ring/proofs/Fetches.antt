-- The entries that a replica has still to take, read from the rings.
use Rattle.std.proofs.Common.{◌≡◌, ℕ, zero, suc, ◌+◌, ◌*◌, ◌/◌, ◌%◌, ◌^◌, ◌<◌, ◌≤◌, List, [], ◌∷◌, ◌++◌, All, Contains, Some, Option, length, take, drop}
use Rattle.std.proofs.Common.{reverse, refl, ap, sym}
use Rattle.std.proofs.Common.{subst, ◌∙◌, arith}
use Rattle.std.specs.Prelude.{slice_get, slice_index}
use Rattle.std.proofs.lemmas.List.Elements.{All-append}
use Rattle.std.proofs.Math.Seq.{drop-cons}
use Rattle.std.specs.List.{refill}
use Rattle.std.proofs.Math.ListN.{drop_of_length-le}
use Rattle.std.proofs.lemmas.List.{append-nil, reverse-append, take_all}
use Rattle.std.proofs.lemmas.Option.{slice_get_within, get_or_from_slice_get}
use Rattle.version_cell.specs.Passes.{CellPass}
use Rattle.vs_types.specs.Fields.{request_fields}
use Rattle.vs_types.specs.Operation.{IsAction}
use Rattle.vs_types.specs.Page.{bytes_of}
use Rattle.vs_types.specs.declared.requests.op.Action.{Action}
use Rattle.vs_types.specs.declared.requests.op.Action.TheVariants.{Map, Unmap, Protect}
use Rattle.vs_types.specs.declared.addresses.page.Size.{Size}
use Rattle.vs_types.specs.declared.addresses.page.Size.TheVariants.{K4, M2, G1}
use Rattle.vs_types.specs.declared.requests.request.Query.TheVariants.{Update}
use Rattle.vs_types.specs.LogEntry.{IsLogEntry, SpellsEntry, log_words}
use Rattle.vs_types.specs.declared.addresses.depth.Depth.{Depth}
use Rattle.vs_types.specs.declared.log_entry.LogEntry.{LogEntry}
use Rattle.nr_ring.specs.LogHistory.{Log, MayGoOn, IsLogHistory, local_of, log_after_event, log_after_events, log_after, new_log}
use Rattle.nr_ring.specs.Words.{Lasts, Needs, NeededBy, ring_before, spot, stored_words}
use Rattle.nr_ring.specs.declared.cells.stored.Stored.{Stored}
use Rattle.nr_ring.specs.declared.ring.view.View.{View}
use Rattle.nr_ring.specs.inside.Held.{Remembers}
use Rattle.nr_ring.proofs.Histories.{as_many_locals}
use Rattle.nr_ring.specs.declared.ring.log_event.LogEvent.{LogEvent}
use Rattle.nr_ring.specs.declared.ring.log_event.LogEvent.TheVariants.{Append, Advance}

-- all entries of a log are at its depth
entries_fit : (depth : Depth) (log : Log) (events : List LogEvent) → MayGoOn depth log events → All (IsLogEntry depth) log.entries
    → All (IsLogEntry depth) (log_after_events log events).entries
entries_fit depth log [] may fit = fit
entries_fit depth log (Append batch ∷ events) may fit =
    entries_fit depth (log_after_event log (Append batch)) events may.1 (All-append (IsLogEntry depth) log.entries batch fit may.0.entries)
entries_fit depth log (Advance replica to ∷ events) may fit = entries_fit depth (log_after_event log (Advance replica to)) events may.1 fit

pub history_entries : (depth : Depth) (replicas : ℕ) (events : List LogEvent) → IsLogHistory depth replicas events
    → All (IsLogEntry depth) (log_after replicas events).entries
history_entries depth replicas events is = entries_fit depth (new_log replicas) events is (λ k d lt. absurd (omega arith))

pub item_holds : (P : LogEntry → Type 0) (xs : List LogEntry) (i : ℕ) (x : LogEntry) → slice_get xs i ≡ Some x → All P xs → P x
item_holds P [] i x e all = absurd (cc)
item_holds P (y ∷ ys) zero x e all = let Q : Option LogEntry → Type 0 = λ o. Rattle.std.specs.Prelude.IfSome o P in subst Q e (all 0 y (omega arith))
item_holds P (y ∷ ys) (suc i) x e all = item_holds P ys i x e (λ k d lt. all (suc k) d (omega arith))

-- the second word of an entry has 56 bits
page_low : (size : Size) (phys : ℕ) → phys + bytes_of size ≤ 2 ^ 51 → phys < 2 ^ 51
page_low K4 phys le = omega arith
page_low M2 phys le = omega arith
page_low G1 phys le = omega arith

op_low : (depth : Depth) (op : Action) (call : ℕ) → IsAction depth op → call < 131072
    → (request_fields (Update op)).physical / 4096 + call * 2 ^ 39 < 2 ^ 56
op_low depth (Map page) call is lt = omega (arith, page_low page.size page.phys is.phys_range)
op_low depth (Unmap base) call is lt = omega arith
op_low depth (Protect base rights) call is lt = omega arith

pub rest_low : (depth : Depth) (entry : LogEntry) → IsLogEntry depth entry → slice_index (log_words entry) 1 < 2 ^ 56
rest_low depth entry is = op_low depth entry.op entry.call is.well_formed is.in_range

parts : (rest before : ℕ) → rest < 2 ^ 56 → ((rest + before * 2 ^ 56) % 2 ^ 56 ≡ rest) × ((rest + before * 2 ^ 56) / 2 ^ 56 ≡ before)
parts rest before low = (omega arith, omega arith)

-- the two words of an entry spell it, and name the ring of the one before it
pub record TellsEntry (depth : Depth) (operation rest before : ℕ) (entry : LogEntry) : Type 0 where
  pub spells : SpellsEntry depth (operation ∷ (rest % 2 ^ 56) ∷ []) entry
  pub links : rest / 2 ^ 56 ≡ before

pub tells : (depth : Depth) (entry : LogEntry) (operation rest before : ℕ) → IsLogEntry depth entry
    → operation ≡ slice_index (stored_words entry before) 0 → rest ≡ slice_index (stored_words entry before) 1 → TellsEntry depth operation rest before entry
tells depth entry operation rest before is first second =
    let two = parts (slice_index (log_words entry) 1) before (rest_low depth entry is) in
    let low : rest % 2 ^ 56 ≡ slice_index (log_words entry) 1 = ap (λ (n : ℕ). n % 2 ^ 56) second ∙ two.0 in
    record {
      spells = record { is_entry = is; spelled = λ i. first i ∷ low i ∷ [] };
      links = ap (λ (n : ℕ). n / 2 ^ 56) second ∙ two.1;
    }

-- the word is needed, and the pass can count on it
abbrev pub CanCountOn : ℕ → ℕ → ℕ → CellPass View Stored → Type 0
CanCountOn replicas at word pass = Lasts replicas pass.view pass.value at word × Needs replicas pass.value at word

-- what the owner of a replica can count on: the two words of an entry that the replica has still to take
module _ (depth : Depth) (replicas passes places r ring : ℕ) (p : CellPass View Stored) (is : Remembers depth replicas passes places (Some r) ring p)
    (place : ℕ) (entry : LogEntry) (untaken : local_of (log_after replicas p.view.seen) r ≤ place)
    (there : slice_get (log_after replicas p.view.seen).entries place ≡ Some entry) where
  needed : (k : ℕ) → k < 2 → NeededBy (log_after replicas p.view.seen) p.value.rings r (spot (slice_index p.value.rings place) place + k)
      (slice_index (stored_words entry (ring_before p.value.rings place)) k)
  needed k two = record {
    place = place;
    entry = entry;
    k = k;
    present = omega (arith, as_many_locals depth replicas p.view.seen is.is_history, is.owned_below r refl);
    untaken = untaken;
    there = there;
    two = two;
    at_is = refl;
    word_is = refl;
  }

  owned : Contains p.view.owns r
  owned = let Has : List ℕ → Type 0 = λ l. Contains l r in subst Has (sym is.owns) (0, omega arith, refl)

  pub counted_on : (k : ℕ) → k < 2
      → CanCountOn replicas (spot (slice_index p.value.rings place) place + k) (slice_index (stored_words entry (ring_before p.value.rings place)) k) p
  counted_on k two =
      let By : List LogEvent → Type 0 = λ history. NeededBy (log_after replicas history) p.value.rings r (spot (slice_index p.value.rings place) place + k)
      (slice_index (stored_words entry (ring_before p.value.rings place)) k) in
      let need = subst By (sym is.value_is) (needed k two) in
      ((is.value_is, (r, owned, need)), (r, need))

-- one entry more, read backwards
pub one_more_read : (xs : List LogEntry) (at : ℕ) (x : LogEntry) → slice_get xs at ≡ Some x → reverse (drop (at + 1) xs) ++ x ∷ [] ≡ reverse (drop at xs)
one_more_read xs at x e =
    let lt = slice_get_within xs at x e in
    let more : suc at ≡ at + 1 = omega arith in
    sym (ap (λ (l : List LogEntry). reverse l)
    (drop-cons xs at x lt ∙ (λ i. get_or_from_slice_get xs at x x e i ∷ drop (more i) xs))
    ∙ reverse-append (x ∷ []) (drop (at + 1) xs))

-- as many entries written over others
pub refilled : (xs ws : List LogEntry) → length ws ≡ length xs → refill (length xs) xs ws ≡ ws
refilled xs ws long =
    let rest : drop (length ws) xs ≡ [] = drop_of_length-le xs (omega arith) in
    ap (λ (l : List LogEntry). take (length xs) (ws ++ l)) rest ∙ ap (λ (l : List LogEntry). take (length xs) l) (append-nil ws)
    ∙ take_all (length xs) ws (omega arith)
