-- The words of a log are a function of it; and what lies in the rings, and what the code of the cell says, are of them.
use Rattle.std.proofs.Common.{◌≡◌, ℕ, zero, suc, ◌+◌, ◌-◌, ◌*◌, ◌/◌, ◌%◌, ◌^◌, ◌<◌, ◌≤◌, List, length, ⊎_elim, ap, sym, ◌∙◌, arith}
use Rattle.std.specs.Prelude.{slice_index}
use Rattle.std.proofs.lemmas.List.{ext_get_or}
use Rattle.vs_types.specs.LogEntry.{log_words}
use Rattle.vs_types.specs.declared.addresses.depth.Depth.{Depth}
use Rattle.vs_types.specs.declared.log_entry.LogEntry.{LogEntry}
use Rattle.nr_ring.specs.Laws.{FitsTheRing}
use Rattle.nr_ring.specs.LogHistory.{IsLogHistory, Log, log_after, tail}
use Rattle.nr_ring.specs.Words.{IsWordOfLog, IsWordsOf, NeededBy, last_ring, ring_before, stored_words, word_of}
use Rattle.nr_ring.specs.declared.cells.stored.Stored.{Stored}
use Rattle.nr_ring.specs.inside.Codes.{code_in, code_of_log, tails_word, word_in}
use Rattle.nr_ring.proofs.Codes.{completed_told, local_told, tells_count, tells_tail, word_early}
use Rattle.nr_ring.proofs.Histories.{as_many_locals, history_fits}
use Rattle.nr_ring.proofs.LocalTails.{le_or_lt}
use Rattle.vs_types.proofs.Lists.{item_of}

-- a word of the ring is 0, or one of those of the last place that is there
pub record StandsAt (end word : ℕ) : Type 0 where
  pub place : ℕ
  pub k : ℕ
  pub below : place < end
  pub near : end ≤ place + 16
  pub two : k < 2
  pub at : word ≡ word_of place + k

last_place : (end word : ℕ) → 7 ≤ word → word < 39 → word < 7 + 2 * end → StandsAt end word
last_place end word low high some =
    let i = (word - 7) / 2 in
    let rounds = (end - 1 - i) / 16 in
    let place = i + 16 * rounds in
    let small : i < 16 = omega arith in
    let same : place % 16 ≡ i = omega arith in
    record {
      place = place;
      k = (word - 7) % 2;
      below = omega arith;
      near = omega arith;
      two = omega arith;
      at = omega (arith, same);
    }

same_ring : (log : Log) (p q : List ℕ) → IsWordsOf log p → IsWordsOf log q → (word : ℕ) → 7 ≤ word → word < 39 → slice_index p word ≡ slice_index q word
same_ring log p q a b word low high =
    ⊎_elim
    (λ (unused : 7 + 2 * tail log ≤ word). a.unused word unused ∙ sym (b.unused word unused))
    (λ (used : word < 7 + 2 * tail log).
    let s = last_place (tail log) word low high used in
    let e = item_of log.entries s.place s.below in
    ap (slice_index p) s.at ∙ a.entries_are s.place e.0 s.k e.1 s.near s.two ∙ sym (b.entries_are s.place e.0 s.k e.1 s.near s.two)
    ∙ ap (slice_index q) (sym s.at))
    (le_or_lt (7 + 2 * tail log) word)

same_head : (log : Log) (p q : List ℕ) → IsWordsOf log p → IsWordsOf log q → (word : ℕ) → word < 7 → slice_index p word ≡ slice_index q word
same_head log p q a b zero lt = a.tail_is ∙ sym b.tail_is
same_head log p q a b (suc zero) lt = a.completed_is ∙ sym b.completed_is
same_head log p q a b (suc (suc r)) lt =
    let at : suc (suc r) ≡ 2 + r = omega arith in
    ⊎_elim
    (λ (last : 4 ≤ r). let six : suc (suc r) ≡ 6 = omega arith in ap (slice_index p) six ∙ a.replicas_are ∙ sym b.replicas_are ∙ ap (slice_index q) (sym six))
    (λ (local : r < 4). ap (slice_index p) at ∙ a.locals_are r local ∙ sym (b.locals_are r local) ∙ ap (slice_index q) (sym at))
    (le_or_lt 4 r)

pub words_same : (log : Log) (p q : List ℕ) → IsWordsOf log p → IsWordsOf log q → p ≡ q
words_same log p q a b =
    ext_get_or 0 p q (a.long ∙ sym b.long)
    (λ word lt. ⊎_elim (λ (low : 7 ≤ word). same_ring log p q a b word low (omega (arith, lt, a.long)))
    (λ (head : word < 7). same_head log p q a b word head) (le_or_lt 7 word))

-- what a replica needs is a word of the log
entry_word : (words : List ℕ) (entry : LogEntry) (before place k : ℕ) → k < 2 → slice_index words (word_of place + k) ≡ slice_index (log_words entry) k
    → slice_index (stored_words entry before) k ≡ slice_index words (word_of place + k) + k * (before * 2 ^ 56)
entry_word words entry before place zero two is = omega (arith, is)
entry_word words entry before place (suc zero) two is = omega (arith, is)
entry_word words entry before place (suc (suc k)) two is = absurd (omega arith)

pub rings_hold : (log : Log) (rings words : List ℕ) (r at word : ℕ) → FitsTheRing log → IsWordsOf log words → NeededBy log rings r at word
    → IsWordOfLog rings words at word
rings_hold log rings words r at word fits are n =
    let here = are.entries_are n.place n.entry n.k n.there (omega (arith, n.untaken, fits.kept_up r n.present)) n.two in
    record {
      place = n.place;
      k = n.k;
      two = n.two;
      at_is = n.at_is;
      word_is = n.word_is ∙ entry_word words n.entry (ring_before rings n.place) n.place n.k n.two here;
    }

-- the first words are what the code says
told : (log : Log) → FitsTheRing log → length log.locals ≤ 4 → (words : List ℕ) → IsWordsOf log words → (place : ℕ) → place < 7
    → slice_index words place ≡ tails_word (code_of_log log) place
told log fits few words is zero lt = is.tail_is ∙ sym (tells_tail log fits few)
told log fits few words is (suc zero) lt = is.completed_is ∙ sym (completed_told log fits few)
told log fits few words is (suc (suc r)) lt =
    let at : suc (suc r) ≡ 2 + r = omega arith in
    ⊎_elim
    (λ (last : 4 ≤ r). let six : suc (suc r) ≡ 6 = omega arith in
    ap (slice_index words) six ∙ (is.replicas_are ∙ sym (tells_count log fits few)) ∙ ap (tails_word (code_of_log log)) (sym six))
    (λ (local : r < 4). ap (slice_index words) at ∙ (is.locals_are r local ∙ sym (local_told log fits few r local))
    ∙ ap (tails_word (code_of_log log)) (sym at))
    (le_or_lt 4 r)

first_said : (code last place : ℕ) → last < 128 → place < 7 → tails_word code place ≡ word_in (code * 128 + last) place
first_said code last place low lt =
    let is : code ≡ (code * 128 + last) / 128 = omega arith in
    ap (λ (z : ℕ). tails_word z place) is ∙ sym (word_early (code * 128 + last) place lt)

pub first_told : (depth : Depth) (replicas : ℕ) (x : Stored) (words : List ℕ) (place : ℕ) → replicas ≤ 4 → IsLogHistory depth replicas x.history
    → last_ring x < 128 → IsWordsOf (log_after replicas x.history) words → place < 7 → slice_index words place ≡ word_in (code_in replicas x) place
first_told depth replicas x words place few is low are lt =
    let log = log_after replicas x.history in
    told log (history_fits depth replicas x.history is) (omega (arith, as_many_locals depth replicas x.history is, few)) words are place lt
    ∙ first_said (code_of_log log) (last_ring x) place low lt
