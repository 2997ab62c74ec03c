-- What a machine makes of a value that it is given: it asked for an operation, and learns from it.
use Rattle.std.proofs.Common.{◌≡◌, ℕ, ◌+◌, ◌-◌, ◌*◌, ◌%◌, ◌<◌, ◌≤◌, nat_lt, Bool, true, false, cond, Option, Some, None, length, refl, ap, sym, subst, ◌∙◌, arith}
use Rattle.std.specs.Prelude.{max}
use Rattle.std.proofs.lemmas.Bool.Decides.{nat_tests}
use Rattle.nr_machine.specs.declared.asked.Asked.{Asked}
use Rattle.nr_machine.specs.declared.asked.Asked.TheVariants as asks
use Rattle.nr_machine.specs.declared.node.Node.{Node}
use Rattle.nr_machine.specs.declared.phase.Phase.{Phase}
use Rattle.nr_machine.specs.declared.phase.Phase.TheVariants as phases
use Rattle.nr_machine.specs.declared.words.Operation.{Operation}
use Rattle.nr_machine.specs.declared.words.Operation.TheVariants.{Load, Store, Max}
use Rattle.nr_machine.specs.declared.words.Word.TheVariants as words
use Rattle.nr_machine.specs.Actor.{learned}
use Rattle.nr_machine.specs.Bound.{attempt, left, left_in, price, wants, wants_at}
use Rattle.nr_machine.specs.Fields.{batch_of, number_of, phase_of, replies_of, standing_of}
use Rattle.nr_machine.specs.Machine.{IsFit, actor_of, asked_by, asked_in, exchange_of, first_store_of, second_store_of}
use Rattle.nr_machine.specs.Sound.{IsIn, IsSettled, IsSound, IsUpToDate}
use Rattle.nr_machine.specs.inside.Told.{IsTold}
use Rattle.nr_machine.proofs.Spending.{attempt_most, cond_most, flushed_again, flushed_last, quietly}
use Rattle.nr_machine.proofs.Still.{Core, core_of, in_phase, still, wanting_still}

abbrev operation_of : Asked → Operation
operation_of (asks.Carry operation) = operation
operation_of other = Load words.Head

abbrev pub carries : Asked → Bool
carries (asks.Carry operation) = true
carries other = false

pub told_operation : (old new : Node) (value : ℕ) (phase : Phase) (operation : Operation) → phase_of old ≡ phase
    → asked_in phase old ≡ asks.Carry operation
    → IsSound new → new.nodes ≡ old.nodes → new.number ≡ old.number → replies_of new ≡ replies_of old
    → ((asked_by new ≡ asks.Broken → ⊥) → actor_of new ≡ learned old.number (actor_of old) operation value)
    → (IsFit old.nodes (actor_of old) operation value → asked_by new ≡ asks.Broken → ⊥)
    → ((r : ℕ) → asked_by new ≡ asks.Lags r → (operation ≡ Load (words.Local r)) × (value + 16 < new.seen + length (batch_of new)))
    → batch_of new ≡ batch_of old
    → (IsFit old.nodes (actor_of old) operation value
    → (old.seen ≤ new.seen) × (left new + 1 ≤ left_in phase old + price old * (new.seen - old.seen)))
    → IsTold old value new
told_operation old new value phase operation is carry sound nodes number replies learns fits names batch spent = record {
  sound = sound;
  nodes = nodes;
  number = number;
  replies = replies;
  learned = λ op asked works. learns works ∙ ap (λ (o : Operation). learned old.number (actor_of old) o value) (same op asked);
  fits = λ op asked fit. fits (subst (λ o. IsFit old.nodes (actor_of old) o value) (sym (same op asked)) fit);
  spends = λ op asked fit.
      let now = spent (subst (λ o. IsFit old.nodes (actor_of old) o value) (sym (same op asked)) fit) in
      let less = subst (λ (p : Phase). left new + 1 ≤ left_in p old + price old * (new.seen - old.seen)) (sym is) now.1 in
      record { nodes = nodes; batch = batch; seen = now.0; spent = omega (arith, less) };
  lags = λ r asked. let differ : carries (asks.Carry operation) ≡ carries (asks.Lags r) = ap carries (sym here ∙ asked) in absurd (cc);
  named = λ r lagging. (here ∙ ap asks.Carry (names r lagging).0, (names r lagging).1);
  others = λ none noone. absurd (none operation here);
} where
  here : asked_by old ≡ asks.Carry operation
  here = ap (λ (p : Phase). asked_in p old) is ∙ carry

  same : (op : Operation) → asked_by old ≡ asks.Carry op → operation ≡ op
  same op asked = ap operation_of (sym here ∙ asked)

abbrev pub is_lagging : Asked → Bool
is_lagging (asks.Lags r) = true
is_lagging other = false

-- it is neither broken nor names a node
abbrev pub is_plain : Asked → Bool
is_plain asks.Broken = false
is_plain (asks.Lags r) = false
is_plain other = true

pub works : (a : Asked) → is_plain a ≡ true → a ≡ asks.Broken → ⊥
works a plain is = let e : is_plain a ≡ false = ap is_plain is in absurd (cc)

-- where it names no node
pub silent : {A : Type 0} (a : Asked) → is_plain a ≡ true → (r : ℕ) → a ≡ asks.Lags r → A
silent {A} a plain r is = let e : is_plain a ≡ false = ap is_plain is in absurd (cc)

-- a step after which it is in another phase, sees no other tail, and asks for the next thing
pub told_step : (old new : Node) (value : ℕ) (phase next : Phase) (operation : Operation) → IsSound old → phase_of old ≡ phase
    → phase_of new ≡ next → core_of new ≡ core_of old → asked_in phase old ≡ asks.Carry operation → IsIn next new
    → actor_of new ≡ learned old.number (actor_of old) operation value → is_plain (asked_in next new) ≡ true
    → left_in next new + 1 ≤ left_in phase old → IsTold old value new
told_step old new value phase next operation k is now same carry within learns plain spent =
    let back = sym now in
    let plainly = subst (λ (p : Phase). is_plain (asked_in p new) ≡ true) back plain in
    told_operation old new value phase operation is carry (still old new same k (subst (λ (p : Phase). IsIn p new) back within))
    (ap (λ (c : Core). c.nodes) same) (ap (λ (c : Core). c.number) same) (ap (λ (c : Core). c.replies) same) (λ good. learns)
    (λ fit. works (asked_by new) plainly) (λ r lagging. silent (asked_by new) plainly r lagging) (ap (λ (c : Core). c.batch) same)
    (quietly (left new) old.seen new.seen (price old) (left_in phase old) (ap (λ (c : Core). c.seen) same)
    (subst (λ (p : Phase). left_in p new + 1 ≤ left_in phase old) back spent))

pub told_lags : (node : Node) (value : ℕ) → IsSound node → phase_of node ≡ phases.Lags
    → IsTold node value (record node { phase = number_of phases.Looks })
told_lags node value k is =
    let new = record node { phase = number_of phases.Looks } in
    let here : asked_by node ≡ asks.Lags node.next = ap (λ (p : Phase). asked_in p node) is in
    let known = in_phase node phases.Lags k is in
    record {
      sound = still node new refl k (known.0, known.1);
      nodes = refl;
      number = refl;
      replies = refl;
      learned = λ op asked works. let differ : carries (asks.Lags node.next) ≡ carries (asks.Carry op) = ap carries (sym here ∙ asked) in
          absurd (cc);
      fits = λ op asked fit. works (asks.Carry (Load words.Head)) refl;
      spends = λ op asked fit. let differ : carries (asks.Lags node.next) ≡ carries (asks.Carry op) = ap carries (sym here ∙ asked) in
          absurd (cc);
      lags = λ r asked. (
        refl,
        refl,
        record {
          nodes = refl;
          batch = refl;
          seen = omega arith;
          spent =
              let most = attempt_most node.nodes (batch_of node) in
              let least = cond_most (wants node) (attempt node) in
              subst (λ (p : Phase). left_in phases.Looks new + 1 ≤ left_in p node + price node * (node.seen - node.seen)
              + (node.nodes + 2) * 1)
              (sym is) (omega (arith, most, least));
        },
      );
      named = λ r lagging. silent (asks.Carry (Load words.Head)) refl r lagging;
      others = λ none noone. absurd (noone node.next here);
    }

pub told_first : (node : Node) (value : ℕ) → IsSound node → phase_of node ≡ phases.StoresFirst
    → IsTold node value (record node { firsts = node.firsts + 1; phase = number_of phases.StoresSecond })
told_first node value k is =
    let new = record node { firsts = node.firsts + 1; phase = number_of phases.StoresSecond } in
    let (storing, same) = in_phase node phases.StoresFirst k is in
    let below = storing.below in
    told_step node new value phases.StoresFirst phases.StoresSecond (first_store_of node) k is refl refl refl (
      record { wants = wanting_still node new refl storing.wants; room = storing.room; below = omega (arith, below, same) },
      omega (arith, same),
    ) refl refl (omega (arith, same))

pub told_second : (node : Node) (value : ℕ) → IsSound node → phase_of node ≡ phases.StoresSecond
    → IsTold node value (record node {
      seconds = node.seconds + 1;
      phase = number_of (cond (nat_lt (node.seconds + 1) (length (batch_of node))) phases.StoresFirst phases.Swaps);
    })
told_second node value k is = by_test (nat_lt (node.seconds + 1) (length (batch_of node))) refl where
  by_test : (b : Bool) → nat_lt (node.seconds + 1) (length (batch_of node)) ≡ b
      → IsTold node value (record node { seconds = node.seconds + 1; phase = number_of (cond b phases.StoresFirst phases.Swaps) })
  by_test true e =
      let new = record node { seconds = node.seconds + 1; phase = number_of phases.StoresFirst } in
      let (storing, same) = in_phase node phases.StoresSecond k is in
      let below : node.seconds + 1 < length (batch_of node) = grind (arith, nat_tests, e) in
      told_step node new value phases.StoresSecond phases.StoresFirst (second_store_of node) k is refl refl refl (
        record { wants = wanting_still node new refl storing.wants; room = storing.room; below = omega (arith, below, same) },
        omega (arith, same),
      ) refl refl (omega (arith, same, below))
  by_test false e =
      let new = record node { seconds = node.seconds + 1; phase = number_of phases.Swaps } in
      let (storing, same) = in_phase node phases.StoresSecond k is in
      let below = storing.below in
      let past : length (batch_of node) ≤ node.seconds + 1 = grind (arith, nat_tests, e) in
      told_step node new value phases.StoresSecond phases.Swaps (second_store_of node) k is refl refl refl
      (wanting_still node new refl storing.wants, storing.room, omega (arith, same, past, below), omega (arith, past, below)) refl refl
      (omega (arith, below))

pub told_half : (node : Node) (value : ℕ) → IsSound node → phase_of node ≡ phases.LoadsFirst
    → IsTold node value (record node { has_half = 1; half = value; phase = number_of phases.LoadsSecond })
told_half node value k is =
    let here = in_phase node phases.LoadsFirst k is in
    told_step node (record node { has_half = 1; half = value; phase = number_of phases.LoadsSecond }) value phases.LoadsFirst
    phases.LoadsSecond (Load (words.First node.ring ((node.from - 1) % 16))) k is refl refl refl (here.0, here.1, refl) refl refl
    (omega arith)

pub told_raised : (node : Node) (value : ℕ) → IsSound node → phase_of node ≡ phases.Raises
    → IsTold node value (record node { taken = node.seen; phase = number_of phases.Applies })
told_raised node value k is =
    let new = record node { taken = node.seen; phase = number_of phases.Applies } in
    let (even, from, some) = in_phase node phases.Raises k is in
    let count = k.count in
    let one = k.order.0 in
    let two = k.order.1 in
    let sound : IsSound new = record {
      nodes = k.nodes;
      number = k.number;
      links = k.links;
      few = k.few;
      small = k.small;
      seen = k.seen;
      count = k.count;
      standing = k.standing;
      replied = k.replied;
      order = (omega (arith, one, two), omega arith, omega arith);
      phase = (refl, omega (arith, even, from), omega (arith, count, from, some));
    } in
    told_operation node new value phases.Raises (Store (words.Local node.number) node.seen) is refl sound refl refl refl (λ fine. refl)
    (λ fit. works (asked_in phases.Applies new) refl) (λ r lagging. silent (asked_in phases.Applies new) refl r lagging) refl
    (quietly (left_in phases.Applies new) node.seen new.seen (price node) (left_in phases.Raises node) refl (omega arith))

-- its updates are in the log, or it has none
settled : (standing : Option ℕ) (count : ℕ) → wants_at standing count ≡ false → IsSettled standing count
settled None count never = let le : count ≤ 0 = grind (arith, nat_tests, never) in omega (arith, le)
settled (Some first) count never = tt

none : (standing : Option ℕ) (count : ℕ) → wants_at standing count ≡ true → standing ≡ None
none None count is = refl
none (Some first) count is = absurd (cc)

pub told_flushed : (node : Node) (value : ℕ) → IsSound node → phase_of node ≡ phases.Flushes
    → IsTold node value (record node { phase = number_of (cond (wants node) phases.Looks phases.Checks) })
told_flushed node value k is = by_test (wants node) refl where
  here : IsUpToDate node
  here = in_phase node phases.Flushes k is

  by_test : (b : Bool) → wants node ≡ b → IsTold node value (record node { phase = number_of (cond b phases.Looks phases.Checks) })
  by_test true e =
      told_step node (record node { phase = number_of phases.Looks }) value phases.Flushes phases.Looks
      (Store (words.Done node.number) node.applied) k is refl refl refl (here.0, none (standing_of node) (length (batch_of node)) e)
      refl refl
      (flushed_again (wants node) (attempt node) (node.seen - node.taken) e (let even = here.1 in omega (arith, even)))
  by_test false e =
      told_step node (record node { phase = number_of phases.Checks }) value phases.Flushes phases.Checks
      (Store (words.Done node.number) node.applied) k is refl refl refl (here, settled (standing_of node) (length (batch_of node)) e)
      refl refl
      (flushed_last (wants node) (attempt node))

at_most : (a t p : ℕ) → a ≡ t → t ≤ p → a ≤ p
at_most a t p e le = omega (arith, e, le)

pub told_check : (node : Node) (value : ℕ) → IsSound node → phase_of node ≡ phases.Checks
    → IsTold node value (record node {
      published = max node.published value;
      phase = number_of (cond (nat_lt (max node.published value) node.taken) phases.Publishes phases.Rest);
    })
told_check node value k is = by_test (nat_lt (max node.published value) node.taken) refl where
  here : IsUpToDate node × IsSettled (standing_of node) (length (batch_of node))
  here = in_phase node phases.Checks k is

  by_test : (b : Bool) → nat_lt (max node.published value) node.taken ≡ b
      → IsTold node value (record node { published = max node.published value; phase = number_of (cond b phases.Publishes phases.Rest) })
  by_test true e =
      told_step node (record node { published = max node.published value; phase = number_of phases.Publishes }) value phases.Checks
      phases.Publishes (Load words.Completed) k is refl refl refl here refl refl (omega arith)
  by_test false e =
      let most : node.taken ≤ max node.published value = grind (arith, nat_tests, e) in
      told_step node (record node { published = max node.published value; phase = number_of phases.Rest }) value phases.Checks
      phases.Rest (Load words.Completed) k is refl refl refl
      (here.0, at_most node.applied node.taken (max node.published value) here.0.0 most, here.1) refl refl (omega arith)

pub told_publish : (node : Node) (value : ℕ) → IsSound node → phase_of node ≡ phases.Publishes
    → IsTold node value (record node { published = max node.published node.taken; phase = number_of phases.Rest })
told_publish node value k is =
    let here = in_phase node phases.Publishes k is in
    let even = here.0.0 in
    told_step node (record node { published = max node.published node.taken; phase = number_of phases.Rest }) value phases.Publishes
    phases.Rest (Max words.Completed node.taken) k is refl refl refl (here.0, omega (arith, even), here.1) refl refl (omega arith)
