-- What a machine makes of a head that it sees, by a load or by an exchange.
use Rattle.std.proofs.Common.{◌≡◌, ℕ, ◌+◌, ◌-◌, ◌*◌, ◌/◌, ◌%◌, ◌<◌, ◌≤◌, ◌==◌, Bool, true, false, cond, Option, Some, None, length, refl, ap, sym, ◌∙◌, ◌⊎◌, inl, inr, arith}
use Rattle.std.specs.Prelude.{min}
use Rattle.std.proofs.lemmas.Bool.Decides.{nat_tests}
use Rattle.nr_machine.specs.declared.asked.Asked.TheVariants as asks
use Rattle.nr_machine.specs.declared.node.Node.{Node}
use Rattle.nr_machine.specs.declared.phase.Phase.{Phase}
use Rattle.nr_machine.specs.declared.phase.Phase.TheVariants as phases
use Rattle.nr_machine.specs.declared.words.Operation.TheVariants.{Load}
use Rattle.nr_machine.specs.declared.words.Word.TheVariants as words
use Rattle.nr_machine.specs.Words.{packed}
use Rattle.nr_machine.specs.Actor.{Actor, sees}
use Rattle.nr_machine.specs.Bound.{attempt, left, left_in, price, wants}
use Rattle.nr_machine.specs.Fields.{batch_of, number_of, phase_of, replies_of, standing_of}
use Rattle.nr_machine.specs.Machine.{IsHead, actor_of, asked_by, asked_in, exchange_of}
use Rattle.nr_machine.specs.Sound.{IsSound, Replied}
use Rattle.nr_machine.specs.inside.Told.{IsTold, looked}
use Rattle.nr_machine.proofs.Spending.{cond_most, looks_on, lost, won}
use Rattle.nr_machine.proofs.Still.{few_updates, in_phase}
use Rattle.nr_machine.proofs.Told.{is_lagging, silent, told_operation, works}

-- a machine is broken in one phase alone
pub broken_phase : (phase : Phase) (node : Node) → asked_in phase node ≡ asks.Broken → phase ≡ phases.Broken
broken_phase phases.Broken node is = refl
broken_phase phases.Lags node is = absurd (let e : is_lagging (asks.Lags node.next) ≡ false = ap is_lagging is in cc)
broken_phase phase node is = absurd (works (asked_in phase node) refl is)

-- and it names a node in one phase alone
silent_phase : {A : Type 0} (phase : Phase) (node : Node) → (phase ≡ phases.Lags → ⊥) → (r : ℕ) → asked_in phase node ≡ asks.Lags r → A
silent_phase {A} phases.Lags node never r is = absurd (never refl)
silent_phase {A} phases.Broken node never r is = absurd (let e : is_lagging asks.Broken ≡ true = ap is_lagging is in cc)
silent_phase {A} phase node never r is = silent (asked_in phase node) refl r is

-- it saw a head, by a load or by an exchange that failed
pub record HasSeen (old : Node) (head : ℕ) (new : Node) : Type 0 where
  pub sound : IsSound new
  pub learned : (phase_of new ≡ phases.Broken → ⊥) → actor_of new ≡ sees (actor_of old) (head / 128) (head % 128)
  pub fits : IsHead old.nodes (actor_of old) head → phase_of new ≡ phases.Broken → ⊥
  pub names : phase_of new ≡ phases.Lags → ⊥
  pub same : (new.nodes ≡ old.nodes) × (new.number ≡ old.number) × (replies_of new ≡ replies_of old)
  pub batch : batch_of new ≡ batch_of old
  pub spent : left new + 1 ≤ 5 + cond (wants old) (attempt old) 0 + 6 * (new.seen - old.taken)

-- then it has seen that tail
tail_is : (old new : Node) (head : ℕ) → HasSeen old head new → IsHead old.nodes (actor_of old) head → new.seen ≡ head / 128
tail_is old new head seen fit = ap (λ (a : Actor). a.seen) (seen.learned (seen.fits fit))

pub told_head : (old new : Node) (head : ℕ) → phase_of old ≡ phases.Looks → HasSeen old head new → IsTold old head new
told_head old new head is seen =
    told_operation old new head phases.Looks (Load words.Head) is refl seen.sound seen.same.0 seen.same.1 seen.same.2
    (λ fine. seen.learned (λ broken. fine (ap (λ (p : Phase). asked_in p new) broken)))
    (λ fit broken. seen.fits fit (broken_phase (phase_of new) new broken))
    (λ r lagging. silent_phase (phase_of new) new seen.names r lagging) seen.batch
    (λ fit. let at = tail_is old new head seen fit in let from = fit.1 in let le : old.seen ≤ new.seen = omega (arith, at, from) in
    (le, looks_on (left new) (cond (wants old) (attempt old) 0) old.seen old.taken new.seen (attempt old) le seen.spent))

pub told_other : (old new : Node) (head : ℕ) → phase_of old ≡ phases.Swaps → (head ≡ packed old.seen old.last → ⊥) → HasSeen old head new
    → IsTold old head new
told_other old new head is apart seen =
    told_operation old new head phases.Swaps (exchange_of old) is refl seen.sound seen.same.0 seen.same.1 seen.same.2
    (λ fine. by_test (head == packed old.seen old.last) refl fine)
    (λ fit broken. seen.fits (fits_of fit).0 (broken_phase (phase_of new) new broken))
    (λ r lagging. silent_phase (phase_of new) new seen.names r lagging) seen.batch
    (λ fit. further (fits_of fit)) where
      fits_of : (head ≡ packed old.seen old.last) ⊎ (IsHead old.nodes (actor_of old) head × (old.seen < head / 128))
          → IsHead old.nodes (actor_of old) head × (old.seen < head / 128)
      fits_of (inl same) = absurd (apart same)
      fits_of (inr is) = is

      further : IsHead old.nodes (actor_of old) head × (old.seen < head / 128)
          → (old.seen ≤ new.seen) × (left new + 1 ≤ left_in phases.Swaps old + price old * (new.seen - old.seen))
      further (fit, more) =
          let at = tail_is old new head seen fit in
          let lt : old.seen < new.seen = omega (arith, at, more) in (
            omega (arith, lt),
            lost (left new) (cond (wants old) (attempt old) 0) old.seen old.taken new.seen (attempt old)
                (cond_most (wants old) (attempt old)) lt seen.spent,
          )

      by_test : (b : Bool) → (head == packed old.seen old.last) ≡ b → (asked_by new ≡ asks.Broken → ⊥)
          → actor_of new ≡ cond b (record (sees (actor_of old) (old.seen + length (batch_of old)) old.number) { standing = Some old.seen })
          (sees (actor_of old) (head / 128) (head % 128))
      by_test true e fine = absurd (apart (grind (arith, nat_tests, e)))
      by_test false e fine = seen.learned (λ broken. fine (ap (λ (p : Phase). asked_in p new) broken))

pub told_append : (node : Node) (head : ℕ) → IsSound node → phase_of node ≡ phases.Swaps → head ≡ packed node.seen node.last
    → IsTold node head (record (looked node (node.seen + length (batch_of node)) node.number)
    { stands = 1; first = node.seen; phase = number_of phases.LoadsFirst })
told_append node head k is same =
    let new = record (looked node (node.seen + length (batch_of node)) node.number)
    { stands = 1; first = node.seen; phase = number_of phases.LoadsFirst } in
    let here = in_phase node phases.Swaps k is in
    let wants = here.0 in
    let some = wants.some in
    let even = wants.even in
    let room = wants.room in
    let within = wants.within in
    let few = few_updates node k in
    let order = k.order in
    let taken = order.1 in
    let sound : IsSound new = record {
      nodes = k.nodes;
      number = k.number;
      links = (k.number, k.number);
      few = (k.few.0, omega arith, k.few.2);
      small = k.small;
      seen = omega (arith, within, few);
      order = (order.0, omega (arith, taken), room);
      count = omega arith;
      standing = omega arith;
      replied = none_yet (standing_of node) (length (replies_of node)) wants.standing k.replied (omega (arith, even, taken));
      phase = (even, omega (arith, taken, some));
    } in
    told_operation node new head phases.Swaps (exchange_of node) is refl sound refl refl refl
    (λ fine. by_test (head == packed node.seen node.last) refl) (λ fit. works (asked_in phases.LoadsFirst new) refl)
    (λ r lagging. silent (asked_in phases.LoadsFirst new) refl r lagging) refl
    (λ fit. (omega arith, won node.seen (length (batch_of node)) node.taken node.applied (attempt node) even taken)) where
      none_yet : (standing : Option ℕ) (replies : ℕ) → standing ≡ None → Replied standing (length (batch_of node)) node.applied replies
          → node.applied ≤ node.seen
          → replies ≡ min (node.applied - node.seen) (length (batch_of node))
      none_yet None replies none is le = omega (arith, is, le)
      none_yet (Some first) replies none is le = absurd (cc)

      by_test : (b : Bool) → (head == packed node.seen node.last) ≡ b
          → actor_of (record (looked node (node.seen + length (batch_of node)) node.number)
          { stands = 1; first = node.seen; phase = number_of phases.LoadsFirst })
          ≡ cond b (record (sees (actor_of node) (node.seen + length (batch_of node)) node.number) { standing = Some node.seen })
          (sees (actor_of node) (head / 128) (head % 128))
      by_test true e = refl
      by_test false e = absurd (grind (arith, nat_tests, e, same))
