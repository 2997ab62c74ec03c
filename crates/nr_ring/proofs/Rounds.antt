-- Rounds of an append of 16 entries and an advance past them, until the log ends.
use Rattle.std.proofs.Common.{◌≡◌, ℕ, zero, suc, ◌+◌, ◌*◌, ◌<◌, ◌≤◌, List, [], ◌∷◌, All, length, get_or, set, refl, ap, ◌∙◌, subst, arith, rules}
use Rattle.std.proofs.Math.ListN.{length-append}
use Rattle.std.proofs.lemmas.List.{get_or-replicate}
use Rattle.vs_types.specs.LogEntry.{IsLogEntry}
use Rattle.vs_types.specs.declared.addresses.depth.Depth.TheVariants.{Four}
use Rattle.nr_ring.specs.Examples.{a_map, batch_of, rounds}
use Rattle.nr_ring.specs.LogHistory.{Log, new_log, tail, MayAppend, MayAdvance, MayGoOn, log_after_event, log_after_events}
use Rattle.nr_ring.specs.declared.ring.log_event.LogEvent.TheVariants.{Append, Advance}

is_entry : IsLogEntry Four a_map
is_entry = search rules

all_entries : All (IsLogEntry Four) (batch_of 16)
all_entries k d lt = rw (get_or-replicate 16 k a_map d lt) is_entry

-- the one replica has taken all entries, of which there are so many
pub record IsAt (place : ℕ) (log : Log) : Type 0 where
  pub tail : tail log ≡ place
  pub locals : log.locals ≡ place ∷ []

appends : (place : ℕ) (log : Log) → IsAt place log → place + 16 ≤ 65536 → MayAppend Four log (batch_of 16)
appends place log at room = record {
  some = omega arith;
  few = omega arith;
  entries = all_entries;
  room = omega (arith, at.tail);
  kept_up = λ r lt. kept r (rw at.locals at lt);
} where
  kept : (r : ℕ) → r < 1 → tail log + 16 ≤ get_or log.locals r 0 + 16
  kept zero lt = rw at.locals (omega (arith, at.tail))
  kept (suc r) lt = absurd (omega arith)

appended : (place : ℕ) (log : Log) → IsAt place log → tail (log_after_event log (Append (batch_of 16))) ≡ place + 16
appended place log at = length-append log.entries (batch_of 16) ∙ ap (λ n. n + 16) at.tail

advances : (place : ℕ) (log : Log) → IsAt place log → MayAdvance (log_after_event log (Append (batch_of 16))) 0 (place + 16)
advances place log at =
    let one : length log.locals ≡ 1 = ap (λ (l : List ℕ). length l) at.locals in
    let local : get_or log.locals 0 0 ≡ place = ap (λ (l : List ℕ). get_or l 0 0) at.locals in
    record { there = omega arith; some = omega arith; written = omega (arith, appended place log at) }

abbrev pub round : ℕ → Log → Log
round place log = log_after_event (log_after_event log (Append (batch_of 16))) (Advance 0 (place + 16))

pub goes_round : (n place : ℕ) (log : Log) → IsAt place log → place + 16 * n ≤ 65536
    → MayGoOn Four log (rounds n place) × IsAt (place + 16 * n) (log_after_events log (rounds n place))
unfolding rounds
goes_round zero place log at room = (tt, record { tail = at.tail ∙ omega arith; locals = at.locals ∙ ap (λ p. p ∷ []) (omega arith) })
goes_round (suc n) place log at room =
    let written = appended place log at in
    let is : IsAt (place + 16) (round place log) = record { tail = written; locals = ap (λ (l : List ℕ). set l 0 (place + 16)) at.locals } in
    let rest = goes_round n (place + 16) (round place log) is (omega arith) in
    let P : ℕ → Type 0 = λ end. IsAt end (log_after_events (round place log) (rounds n (place + 16))) in
    let end : place + 16 + 16 * n ≡ place + 16 * suc n = omega arith in
    ((appends place log at (omega arith), (advances place log at, rest.0)), subst P end rest.1)

-- the log of one replica after 4,096 rounds
pub to_the_end : MayGoOn Four (new_log 1) (rounds 4096 0) × IsAt 65536 (log_after_events (new_log 1) (rounds 4096 0))
to_the_end = goes_round 4096 0 (new_log 1) (record { tail = refl; locals = refl }) (omega arith)
