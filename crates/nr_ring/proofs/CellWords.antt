-- The words of a log after an advance and after an append, and of a new one.
use Rattle.std.proofs.Common.{◌≡◌, ◌≢◌, ℕ, zero, suc, ◌+◌, ◌-◌, ◌*◌, ◌%◌, ◌<◌, ◌≤◌, max, List, ◌++◌, Some, length, get_or, replicate, set, ◌⊎◌, inl}
use Rattle.std.proofs.Common.{inr, ⊎_elim}
use Rattle.std.proofs.Common.{refl, ap, sym, ◌∙◌, arith}
use Rattle.std.specs.Prelude.{slice_get, slice_index}
use Rattle.std.proofs.Math.ListN.{length-append, length-replicate, length-set}
use Rattle.std.proofs.lemmas.List.{get_or-set_same, get_or-set_other}
use Rattle.std.proofs.lemmas.Bool.Decides.{eqb_tells}
use Rattle.vs_types.specs.declared.addresses.depth.Depth.{Depth}
use Rattle.vs_types.specs.declared.log_entry.LogEntry.{LogEntry}
use Rattle.nr_ring.specs.LogHistory.{Log, greatest, tail, MayAdvance, MayAppend, log_after_event, new_log}
use Rattle.nr_ring.specs.Words.{word_of, IsWordsOf, advanced_words, IsAppended, new_words}
use Rattle.nr_ring.specs.declared.ring.log_event.LogEvent.TheVariants.{Append, Advance}
use Rattle.nr_ring.proofs.LocalTails.{greatest_raised, le_or_lt}
use Rattle.vs_types.proofs.Lists.{get_left, get_right}

-- a word that an advance leaves
left_alone : (words : List ℕ) (replica to word : ℕ) → word ≢ 1 → word ≢ 2 + replica
    → slice_index (advanced_words replica to words) word ≡ slice_index words word
left_alone words replica to word one two =
    get_or-set_other (set words 1 (max (slice_index words 1) to)) (2 + replica) word to 0 two
    ∙ get_or-set_other words 1 word (max (slice_index words 1) to) 0 one

pub advance_words : (log : Log) (replica to : ℕ) (words : List ℕ) → replica < 4 → IsWordsOf log words → MayAdvance log replica to
    → IsWordsOf (log_after_event log (Advance replica to)) (advanced_words replica to words)
advance_words log replica to words few is may =
    let middle = set words 1 (max (slice_index words 1) to) in
    let wide : length middle ≡ 39 = length-set words 1 (max (slice_index words 1) to) ∙ is.long in
    record {
      long = length-set middle (2 + replica) to ∙ wide;
      tail_is = left_alone words replica to 0 (λ e. absurd (omega arith)) (λ e. absurd (omega arith)) ∙ is.tail_is;
      completed_is =
          get_or-set_other middle (2 + replica) 1 to 0 (λ e. absurd (omega arith))
          ∙ get_or-set_same words 1 (max (slice_index words 1) to) 0 (omega (arith, is.long))
          ∙ ap (λ n. max n to) is.completed_is
          ∙ sym (greatest_raised log.locals replica to may.there (omega (arith, may.some)));
      locals_are = λ r lt. ⊎_elim
          (λ t. let same : r ≡ replica = t.1 in
          ap (λ i. get_or (set middle (2 + replica) to) (2 + i) 0) same
          ∙ get_or-set_same middle (2 + replica) to 0 (omega arith)
          ∙ sym (get_or-set_same log.locals replica to 0 may.there)
          ∙ ap (λ i. get_or (set log.locals replica to) i 0) (sym same))
          (λ t. let other : r ≢ replica = t.1 in
          left_alone words replica to (2 + r) (λ e. absurd (omega arith)) (λ e. other (omega arith))
          ∙ is.locals_are r lt
          ∙ sym (get_or-set_other log.locals replica r to 0 other))
          (eqb_tells r replica);
      replicas_are = left_alone words replica to 6 (λ e. absurd (omega arith)) (λ e. absurd (omega arith)) ∙ is.replicas_are
          ∙ sym (length-set log.locals replica to);
      entries_are = λ place entry k there near lt. left_alone words replica to (word_of place + k) (λ e. absurd (omega arith)) (λ e. absurd (omega arith))
          ∙ is.entries_are place entry k there near lt;
      unused = λ word le. left_alone words replica to word (λ e. absurd (omega arith)) (λ e. absurd (omega arith)) ∙ is.unused word le;
    }

-- places less than 16 apart have words of their own
pub apart : (place later : ℕ) → place < later → later < place + 16 → (word_of place + 2 ≤ word_of later) ⊎ (word_of later + 2 ≤ word_of place)
apart place later lt near = ⊎_elim (λ le. let differ : place % 16 ≢ later % 16 = λ e. absurd (omega arith) in
    inl (omega arith)) (λ gt. inr (omega arith)) (le_or_lt (place % 16) (later % 16))

-- an append changes no entry that a replica has still to take
pub append_words : (depth : Depth) (log : Log) (batch : List LogEntry) (before words : List ℕ) → IsWordsOf log before → MayAppend depth log batch
    → IsAppended log batch before words → IsWordsOf (log_after_event log (Append batch)) words
append_words depth log batch before words is may new =
    let long = length-append log.entries batch in
    record {
      long = new.long;
      tail_is = new.tail_is ∙ sym long;
      completed_is = new.head_stays 1 (omega arith) (omega arith) ∙ is.completed_is;
      locals_are = λ r lt. new.head_stays (2 + r) (omega arith) (omega arith) ∙ is.locals_are r lt;
      replicas_are = new.head_stays 6 (omega arith) (omega arith) ∙ is.replicas_are;
      entries_are = λ place entry k there near lt.
          ⊎_elim
          (λ (le : tail log ≤ place).
          let i = place - tail log in
          let at : place ≡ tail log + i = omega arith in
          let found : slice_get batch i ≡ Some entry = sym (get_right log.entries batch i) ∙ ap (slice_get (log.entries ++ batch)) (sym at) ∙ there in
          ap (λ p. slice_index words (word_of p + k)) at ∙ new.entries_are i entry k found lt)
          (λ (old : place < tail log).
          let found : slice_get log.entries place ≡ Some entry = sym (get_left log.entries batch place old) ∙ there in
          let later : tail log + length batch ≤ place + 16 = omega (arith, near, long) in
          new.others_stay (word_of place + k) (omega arith)
          (λ i within. ⊎_elim (λ l. inl (omega arith)) (λ l. inr (omega arith)) (apart place (tail log + i) (omega arith) (omega arith)))
          ∙ is.entries_are place entry k found (omega arith) lt)
          (le_or_lt (tail log) place);
      unused = λ word le.
          new.others_stay word (omega arith) (λ i within. inr (unused_later (tail log) (length batch) i word within (omega (arith, le, long))))
          ∙ is.unused word (omega (arith, le, long));
    } where
      unused_later : (t n i word : ℕ) → i < n → 7 + 2 * (t + n) ≤ word → word_of (t + i) + 2 ≤ word
      unused_later t n i word lt le = omega arith

-- ---- a new log

pub zeros : (n i : ℕ) → slice_index (replicate n 0) i ≡ 0
zeros zero i = refl
zeros (suc n) zero = refl
zeros (suc n) (suc i) = zeros n i

no_greatest : (n : ℕ) → greatest (replicate n 0) ≡ 0
no_greatest zero = refl
no_greatest (suc n) = ap (Rattle.std.proofs.Common.max 0) (no_greatest n)

low : (replicas r : ℕ) → r < 4 → slice_index (new_words replicas) (2 + r) ≡ 0
low replicas zero lt = refl
low replicas (suc zero) lt = refl
low replicas (suc (suc zero)) lt = refl
low replicas (suc (suc (suc zero))) lt = refl
low replicas (suc (suc (suc (suc r)))) lt = absurd (omega arith)

high : (replicas word : ℕ) → 7 ≤ word → slice_index (new_words replicas) word ≡ 0
high replicas zero le = refl
high replicas (suc zero) le = refl
high replicas (suc (suc zero)) le = refl
high replicas (suc (suc (suc zero))) le = refl
high replicas (suc (suc (suc (suc zero)))) le = refl
high replicas (suc (suc (suc (suc (suc zero))))) le = refl
high replicas (suc (suc (suc (suc (suc (suc zero)))))) le = absurd (omega arith)
high replicas (suc (suc (suc (suc (suc (suc (suc word))))))) le = zeros 32 word

pub new_is : (replicas : ℕ) → IsWordsOf (new_log replicas) (new_words replicas)
new_is replicas = record {
  long = refl;
  tail_is = refl;
  completed_is = sym (no_greatest replicas);
  locals_are = λ r lt. low replicas r lt ∙ sym (zeros replicas r);
  replicas_are = sym (length-replicate replicas 0);
  entries_are = λ place entry k there near lt. cc;
  unused = λ word le. high replicas word (omega arith);
}
