-- A batch is written into the words of a ring entry by entry, at places that no replica needs.
use Rattle.std.proofs.Common.{◌≡◌, ◌≢◌, ℕ, zero, suc, ◌+◌, ◌*◌, ◌%◌, ◌<◌, ◌≤◌, List, Option, Some, length, set, ⊎_elim, ap, sym}
use Rattle.std.proofs.Common.{subst, ◌∙◌, arith}
use Rattle.std.specs.Option.{unwrap_or}
use Rattle.std.specs.Prelude.{slice_get, slice_index}
use Rattle.std.proofs.Math.ListN.{length-set}
use Rattle.std.proofs.lemmas.List.{get_or-set_same, get_or-set_other}
use Rattle.std.proofs.lemmas.Option.{slice_get_within}
use Rattle.std.proofs.lemmas.Bool.Decides.{eqb_tells}
use Rattle.version_cell.specs.Passes.{CellPass}
use Rattle.vs_types.specs.declared.addresses.depth.Depth.{Depth}
use Rattle.vs_types.specs.declared.log_entry.LogEntry.{LogEntry}
use Rattle.nr_ring.specs.LogHistory.{MayAppend, local_of, log_after, tail}
use Rattle.nr_ring.specs.Words.{Needs, NeededBy, link, spot, stored_words}
use Rattle.nr_ring.specs.declared.ring.log_event.LogEvent.{LogEvent}
use Rattle.nr_ring.specs.declared.cells.stored.Stored.{Stored}
use Rattle.nr_ring.specs.declared.ring.view.View.{View}
use Rattle.nr_ring.specs.inside.Batch.{IsWritten}
use Rattle.nr_ring.specs.inside.Held.{Remembers}

apart : (place i n : ℕ) → i < n → n < 16 → (place + i) % 16 ≡ (place + n) % 16 → ⊥
apart place i n lt few e = absurd (omega arith)

pub nothing_written : (ring before place : ℕ) (batch : List LogEntry) (own : List ℕ) → length own ≡ 32 → IsWritten ring before place 0 batch own
nothing_written ring before place batch own long = record { long = long; entries_are = λ i entry k lt there two. absurd (omega arith) }

-- two words that were set one after the other
either_of : (a b first second k : ℕ) (own two : List ℕ) → b ≡ a + 1 → b < length own → first ≡ slice_index two 0 → second ≡ slice_index two 1 → k < 2
    → slice_index (set (set own a first) b second) (a + k) ≡ slice_index two k
either_of a b first second zero own two next lt is is' le =
    let here : a + 0 ≡ a = omega arith in
    let low : a < length own = omega arith in
    let other : a ≢ b = λ e. absurd (omega arith) in
    ap (slice_index (set (set own a first) b second)) here ∙ get_or-set_other (set own a first) b a second 0 other ∙ get_or-set_same own a first 0 low ∙ is
either_of a b first second (suc zero) own two next lt is is' le =
    let low : b < length (set own a first) = omega (arith, length-set own a first) in
    ap (slice_index (set (set own a first) b second)) (sym next) ∙ get_or-set_same (set own a first) b second 0 low ∙ is'
either_of a b first second (suc (suc k)) own two next lt is is' le = absurd (omega arith)

pub one_more_written : (ring before place n a b first second : ℕ) (batch : List LogEntry) (entry : LogEntry) (own : List ℕ)
    → IsWritten ring before place n batch own → n < 16 → slice_get batch n ≡ Some entry → a ≡ 2 * ((place + n) % 16) → b ≡ a + 1
    → first ≡ slice_index (stored_words entry (link before ring n)) 0 → second ≡ slice_index (stored_words entry (link before ring n)) 1
    → IsWritten ring before place (n + 1) batch (set (set own a first) b second)
one_more_written ring before place n a b first second batch entry own is few there at next is_first is_second = record {
  long = length-set (set own a first) b second ∙ length-set own a first ∙ is.long;
  entries_are = λ i other k lt here two. ⊎_elim
      (λ t. let same : i ≡ n = t.1 in
      let one : Some other ≡ Some entry = sym here ∙ ap (slice_get batch) same ∙ there in
      let it : entry ≡ other = ap (λ o. unwrap_or o entry) (sym one) in
      let spot_is : 2 * ((place + i) % 16) + k ≡ a + k = ap (λ (j : ℕ). 2 * ((place + j) % 16) + k) same ∙ ap (λ (j : ℕ). j + k) (sym at) in
      ap (slice_index (set (set own a first) b second)) spot_is
      ∙ either_of a b first second k own (stored_words entry (link before ring n)) next (omega (arith, is.long)) is_first is_second two
      ∙ ap (λ (e : LogEntry). slice_index (stored_words e (link before ring n)) k) it
      ∙ ap (λ (j : ℕ). slice_index (stored_words other (link before ring j)) k) (sym same))
      (λ t. let differ : i ≢ n = t.1 in
      let below : i < n = omega arith in
      let clear : (place + i) % 16 ≡ (place + n) % 16 → ⊥ = apart place i n below few in
      let word = 2 * ((place + i) % 16) + k in
      let first_other : word ≢ a = λ e. clear (omega arith) in
      let second_other : word ≢ b = λ e. clear (omega arith) in
      get_or-set_other (set own a first) b word second 0 second_other ∙ get_or-set_other own a word first 0 first_other
      ∙ is.entries_are i other k below here two)
      (eqb_tells i n);
}

-- where an append puts an entry, no entry is that a replica has still to take
pub unneeded : (depth : Depth) (replicas passes places : ℕ) (own : Option ℕ) (ring : ℕ) (p : CellPass View Stored) (batch : List LogEntry) (i k at : ℕ)
    → Remembers depth replicas passes places own ring p → MayAppend depth (log_after replicas p.view.seen) batch → i < length batch → k < 2
    → at ≡ spot ring (tail (log_after replicas p.view.seen) + i) + k → (other : ℕ) → Needs replicas p.value at other → ⊥
unneeded depth replicas passes places own ring p batch i k at is may lt two at_is other needs =
    let By : List LogEvent → Type 0 = λ history. NeededBy (log_after replicas history) p.value.rings needs.0 at other in
    let need = subst By is.value_is needs.1 in
    let log = log_after replicas p.view.seen in
    let below : need.place < tail log = slice_get_within log.entries need.place need.entry need.there in
    let kept : tail log + length batch ≤ local_of log needs.0 + 16 = may.kept_up needs.0 need.present in
    let high : local_of log needs.0 ≤ need.place = need.untaken in
    same_place (slice_index p.value.rings need.place) ring need.place (tail log + i) need.k k (sym need.at_is ∙ at_is) need.two two
    (omega arith) (omega arith) where
      same_place : (a b p q k l : ℕ) → spot a p + k ≡ spot b q + l → k < 2 → l < 2 → p < q → q < p + 16 → ⊥
      same_place a b p q k l e low low' less near =
          let same : p % 16 ≡ q % 16 = omega arith in
          absurd (omega arith)
