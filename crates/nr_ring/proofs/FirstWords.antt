-- The head that a pass keeps: what the code of the value that it saw last says.
use Rattle.std.proofs.Common.{◌≡◌, ℕ, zero, suc, ◌+◌, ◌<◌, ◌≤◌, List, [], ◌∷◌, Option, length, ap, subst, le_trans, arith}
use Rattle.std.specs.Prelude.{slice_index}
use Rattle.version_cell.specs.Passes.{CellPass}
use Rattle.vs_types.specs.declared.addresses.depth.Depth.{Depth}
use Rattle.nr_ring.specs.LogHistory.{Log, local_of, log_after}
use Rattle.nr_ring.specs.Pass.{tails_of}
use Rattle.nr_ring.specs.Words.{last_ring}
use Rattle.nr_ring.specs.declared.ring.log_event.LogEvent.{LogEvent}
use Rattle.nr_ring.specs.declared.cells.stored.Stored.{Stored}
use Rattle.nr_ring.specs.declared.ring.view.View.{View}
use Rattle.nr_ring.specs.inside.Batch.{AreSmall}
use Rattle.nr_ring.specs.inside.Codes.{code_in, word_in}
use Rattle.nr_ring.specs.inside.Held.{IsHeadOf, Remembers, tails_of_head}
use Rattle.nr_ring.proofs.Codes.{head_of_code}
use Rattle.nr_ring.proofs.Further.{last_below}
use Rattle.nr_ring.proofs.Histories.{as_many_locals, history_fits}
use Rattle.nr_ring.proofs.LocalTails.{greatest_least}

-- a list is what the code of a value says
abbrev pub Tells : ℕ → Stored → List ℕ → Type 0
Tells replicas stored head = (place : ℕ) → place < 8 → slice_index head place ≡ word_in (code_in replicas stored) place

module _ (depth : Depth) (replicas passes places : ℕ) (own : Option ℕ) (ring : ℕ) (p : CellPass View Stored)
    (is : Remembers depth replicas passes places own ring p) where
  pub ring_low : (place : ℕ) → slice_index p.value.rings place < passes
  ring_low place = last_below passes p.value.rings (suc place) (omega (arith, is.ring_below)) is.rings_below

  pub before_low : (place : ℕ) → slice_index (0 ∷ p.value.rings) place < passes
  before_low place = last_below passes p.value.rings place (omega (arith, is.ring_below)) is.rings_below

  pub head_is : (head : List ℕ) → Tells replicas p.value head → IsHeadOf (log_after replicas p.view.seen) (last_ring p.value) head
  head_is head tells =
      let log = log_after replicas p.view.seen in
      let Tell : List LogEvent → Type 0 = λ history. Tells replicas (record { history = history; rings = p.value.rings }) head in
      head_of_code log (history_fits depth replicas p.view.seen is.is_history)
      (omega (arith, as_many_locals depth replicas p.view.seen is.is_history, is.few)) (last_ring p.value) head
      (omega (arith, before_low (length p.value.rings), is.few_rings)) (subst Tell is.value_is tells)

  pub head_small : (head : List ℕ) → Tells replicas p.value head → AreSmall head
  head_small head tells =
      let log = log_after replicas p.view.seen in
      let are = head_is head tells in
      let fits = history_fits depth replicas p.view.seen is.is_history in
      let local : (r : ℕ) → local_of log r ≤ 16106127360 = λ r. le_trans (fits.written r) fits.ends in
      record {
        tails = by_word head log (last_ring p.value) are fits.ends local;
        replicas = omega (arith, are.replicas_are, as_many_locals depth replicas p.view.seen is.is_history, is.few);
        last = omega (arith, are.last_is, before_low (length p.value.rings), is.few_rings);
      } where
        by_word : (head : List ℕ) (log : Log) (last : ℕ) → IsHeadOf log last head → length log.entries ≤ 16106127360 → ((r : ℕ) → local_of log r ≤ 16106127360)
            → (word : ℕ) → word < 6 → slice_index head word ≤ 16106127360
        by_word head log last are ends local zero lt = omega (arith, are.tail_is)
        by_word head log last are ends local (suc zero) lt = omega (arith, are.completed_is, greatest_least log.locals 16106127360 local)
        by_word head log last are ends local (suc (suc r)) lt = let e : suc (suc r) ≡ 2 + r = omega arith in
            omega (arith, ap (slice_index head) e, are.locals_are r (omega arith), local r)

pub tails_are : (log : Log) (last : ℕ) (head : List ℕ) → IsHeadOf log last head → tails_of_head head ≡ tails_of log
tails_are log last head are = λ i. record {
  tail = are.tail_is i;
  completed = are.completed_is i;
  local = are.locals_are 0 (omega arith) i ∷ are.locals_are 1 (omega arith) i ∷ are.locals_are 2 (omega arith) i ∷ are.locals_are 3 (omega arith) i ∷ [];
}
