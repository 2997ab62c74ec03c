-- What a machine makes of the tails of other nodes, and of entries.
use Rattle.std.proofs.Common.{◌≡◌, ℕ, ◌+◌, ◌-◌, ◌/◌, ◌%◌, ◌<◌, ◌≤◌, ◌==◌, nat_lt, nat_eq, Bool, true, false, cond, Option, Some, None, List, [], ◌∷◌, ◌++◌, length, take, drop, get_or, suc, refl, ap, sym, subst, ◌∙◌, arith}
use Rattle.std.specs.Prelude.{min, reverse, IsSome}
use Rattle.std.proofs.lemmas.List.{length-append, reverse-append}
use Rattle.std.proofs.Math.Seq.{take-suc}
use Rattle.std.proofs.lemmas.Bool.Decides.{nat_tests}
use Rattle.nr_machine.specs.declared.asked.Asked.TheVariants as asks
use Rattle.nr_machine.specs.declared.node.Node.{Node}
use Rattle.nr_machine.specs.declared.phase.Phase.{Phase}
use Rattle.nr_machine.specs.declared.phase.Phase.TheVariants as phases
use Rattle.nr_machine.specs.declared.words.Operation.TheVariants.{Load}
use Rattle.nr_machine.specs.declared.words.Word.TheVariants as words
use Rattle.nr_machine.specs.declared.words.Update.{Update}
use Rattle.nr_machine.specs.Actor.{got_entry}
use Rattle.nr_machine.specs.Bound.{left, left_in, price}
use Rattle.nr_machine.specs.Fields.{batch_of, got_of, number_of, option_in, phase_of}
use Rattle.nr_machine.specs.Machine.{actor_of, asked_by, asked_in}
use Rattle.nr_machine.specs.Sound.{IsIn, IsSound}
use Rattle.nr_machine.specs.inside.Told.{IsTold}
use Rattle.nr_machine.proofs.Spending.{quietly}
use Rattle.nr_machine.proofs.Still.{core_of, in_phase, still, wanting_still}
use Rattle.nr_machine.proofs.Told.{is_lagging, is_plain, silent, told_operation, told_step, works}

-- it has loaded how many entries the next node has taken
abbrev pub scanned : Node → ℕ → Phase → ℕ → Node
scanned node value phase next = record node {
  asked = node.next + 1;
  least = cond (node.next == 0) value (min node.least value);
  phase = number_of phase;
  next = next;
}

-- the least is enough where it was, and what is loaded is
enough : (node : Node) (value need : ℕ) → (0 < node.next → need ≤ node.least + 16) → need - 16 ≤ value
    → need ≤ cond (node.next == 0) value (min node.least value) + 16
enough node value need before now = by_test (node.next == 0) refl where
  both : (x y : ℕ) → need ≤ x + 16 → need - 16 ≤ y → need ≤ min x y + 16
  both x y one two = omega (arith, one, two)

  by_test : (b : Bool) → (node.next == 0) ≡ b → need ≤ cond b value (min node.least value) + 16
  by_test true e = omega (arith, now)
  by_test false e = both node.least value (before (grind (arith, nat_tests, e))) now

-- a number that is not another, and at most that, is below it
below_it : (x y : ℕ) → (x ≡ y → ⊥) → x ≤ y → x < y
below_it x y never le = by_test (nat_lt x y) refl where
  by_test : (b : Bool) → nat_lt x y ≡ b → x < y
  by_test true e = grind (arith, nat_tests, e)
  by_test false e = absurd (never (let past : y ≤ x = grind (arith, nat_tests, e) in omega (arith, past, le)))

pub told_lagging : (node : Node) (value : ℕ) → IsSound node → phase_of node ≡ phases.Scans
    → value + 16 < node.seen + length (batch_of node)
    → IsTold node value (scanned node value phases.Lags node.next)
told_lagging node value k is behind =
    let new = scanned node value phases.Lags node.next in
    let here = in_phase node phases.Scans k is in
    let below = here.1 in
    let broken : asks.Lags node.next ≡ asks.Broken → ⊥ = λ same. absurd (let e : is_lagging asks.Broken ≡ true = ap is_lagging (sym same) in cc) in
    told_operation node new value phases.Scans (Load (words.Local node.next)) is refl (still node new refl k (
      here.0.even,
      here.0.standing,
      here.1,
      refl,
      least_behind (node.next == 0) node.least value (node.seen + length (batch_of node)) behind,
    )) refl refl refl (λ good. refl) (λ fit. broken)
    (λ r lags. (ap (λ (s : ℕ). Load (words.Local s)) (named_one node.next r lags), behind)) refl
    (quietly (left_in phases.Lags new) node.seen node.seen (price node) (left_in phases.Scans node) refl (omega (arith, below))) where
      named_one : (s r : ℕ) → asks.Lags s ≡ asks.Lags r → s ≡ r
      named_one s r lags = let same : s ≡ r = cc in same

      least_behind : (b : Bool) (x y need : ℕ) → y + 16 < need → cond b y (min x y) + 16 < need
      least_behind true x y need behind = behind
      least_behind false x y need behind = omega (arith, behind)

pub told_last : (node : Node) (value : ℕ) → IsSound node → phase_of node ≡ phases.Scans → node.seen + length (batch_of node) - 16 ≤ value
    → node.next + 1 ≡ node.nodes
    → IsTold node value (scanned node value phases.StoresFirst node.next)
told_last node value k is fits last =
    let new = scanned node value phases.StoresFirst node.next in
    let (wants, below, reached, firsts, seconds, before) = in_phase node phases.Scans k is in
    let some = wants.some in
    told_step node new value phases.Scans phases.StoresFirst (Load (words.Local node.next)) k is refl refl refl (
      record {
        wants = wanting_still node new refl wants;
        room = (last, enough node value (node.seen + length (batch_of node)) (λ past. (before past).1) fits);
        below = omega (arith, some, firsts);
      },
      omega (arith, firsts, seconds),
    ) refl refl (omega (arith, below))

pub told_next : (node : Node) (value : ℕ) → IsSound node → phase_of node ≡ phases.Scans → node.seen + length (batch_of node) - 16 ≤ value
    → (node.next + 1 ≡ node.nodes → ⊥)
    → IsTold node value (scanned node value phases.Scans (node.next + 1))
told_next node value k is fits more =
    let new = scanned node value phases.Scans (node.next + 1) in
    let (wants, below, reached, firsts, seconds, before) = in_phase node phases.Scans k is in
    told_step node new value phases.Scans phases.Scans (Load (words.Local node.next)) k is refl refl refl (
      wanting_still node new refl wants,
      below_it (node.next + 1) node.nodes more (omega (arith, below)),
      omega arith,
      firsts,
      seconds,
      λ past. (refl, enough node value (node.seen + length (batch_of node)) (λ past. (before past).1) fits),
    ) refl refl (omega (arith, below))

-- a link to no node
pub told_stray : (node : Node) (value : ℕ) → IsSound node → phase_of node ≡ phases.LoadsSecond → node.nodes ≤ value % 128
    → IsTold node value (record node { phase = number_of phases.Broken })
told_stray node value k is past =
    let new = record node { phase = number_of phases.Broken } in
    told_operation node new value phases.LoadsSecond (Load (words.Second node.ring ((node.from - 1) % 16))) is refl
    (still node new refl k tt) refl refl refl (λ fine. absurd (fine refl)) (λ fit broken. omega (arith, fit, past))
    (λ r lagging. absurd (let e : is_lagging asks.Broken ≡ true = ap is_lagging lagging in cc)) refl
    (quietly 0 node.seen node.seen (price node) (left_in phases.LoadsSecond node) refl (omega arith))

abbrev entry_of : ℕ → ℕ → Update
entry_of first value = record { first = first; second = value / 128 }

-- it has kept the entry
abbrev pub kept : Node → List Update → ℕ → Phase → Node
kept node got value phase = record node {
  got_count = node.got_count + 1;
  got = got;
  from = node.from - 1;
  ring = value % 128;
  has_half = 0;
  half = 0;
  phase = number_of phase;
}

-- the first word is there
half_there : (has number : ℕ) → IsSome (option_in has number) → option_in has number ≡ Some number
half_there has number is = by_test (nat_eq has 1) is where
  by_test : (b : Bool) → IsSome (cond b (Some number) None) → cond b (Some number) None ≡ Some number
  by_test true is = refl
  by_test false is = absurd (cc)

told_kept : (node : Node) (value : ℕ) (got : List Update) (phase : Phase) → IsSound node → phase_of node ≡ phases.LoadsSecond
    → value % 128 < node.nodes → node.got_count + 1 ≤ 16 → take (node.got_count + 1) got ≡ got_of node ++ (entry_of node.half value ∷ [])
    → phase_of (kept node got value phase) ≡ phase → IsIn phase (kept node got value phase)
    → is_plain (asked_in phase (kept node got value phase)) ≡ true
    → left_in phase (kept node got value phase) + 1 ≤ left_in phases.LoadsSecond node → IsTold node value (kept node got value phase)
told_kept node value got phase k is link room adds now within plain spent =
    let new = kept node got value phase in
    let back = sym now in
    let plainly = subst (λ (p : Phase). is_plain (asked_in p new) ≡ true) back plain in
    let (even, below, half) = in_phase node phases.LoadsSecond k is in
    let count = k.count in
    let more : length (got_of new) ≡ length (got_of node) + 1 =
    ap (λ (us : List Update). length us) adds ∙ length-append (got_of node) (entry_of node.half value ∷ []) in
    let sound : IsSound new = record {
      nodes = k.nodes;
      number = k.number;
      links = (k.links.0, link);
      few = (k.few.0, room, k.few.2);
      small = k.small;
      seen = k.seen;
      order = k.order;
      count = omega (arith, count, more, below);
      standing = k.standing;
      replied = k.replied;
      phase = subst (λ (p : Phase). IsIn p new) back within;
    } in
    told_operation node new value phases.LoadsSecond (Load (words.Second node.ring ((node.from - 1) % 16))) is refl sound refl refl refl
    (λ good. ap (λ (us : List Update). record (actor_of new) { got = us })
    (ap (λ (us : List Update). reverse us) adds ∙ reverse-append (got_of node) (entry_of node.half value ∷ []))
    ∙ ap (λ (h : Option ℕ). got_entry (actor_of node) h value) (sym (half_there node.has_half node.half half)))
    (λ fit. works (asked_by new) plainly) (λ r lagging. silent (asked_by new) plainly r lagging) refl
    (quietly (left new) node.seen node.seen (price node) (left_in phases.LoadsSecond node) refl
    (subst (λ (p : Phase). left_in p new + 1 ≤ left_in phases.LoadsSecond node) back spent))

pub told_entry : (node : Node) (value : ℕ) (got : List Update) → IsSound node → phase_of node ≡ phases.LoadsSecond
    → value % 128 < node.nodes → node.got_count + 1 ≤ 16 → take (node.got_count + 1) got ≡ got_of node ++ (entry_of node.half value ∷ [])
    → IsTold node value (kept node got value (cond (nat_eq (node.from - 1) node.taken) phases.Raises phases.LoadsFirst))
told_entry node value got k is link room adds = by_test (nat_eq (node.from - 1) node.taken) refl where
  here : IsIn phases.LoadsSecond node
  here = in_phase node phases.LoadsSecond k is

  by_test : (b : Bool) → nat_eq (node.from - 1) node.taken ≡ b
      → IsTold node value (kept node got value (cond b phases.Raises phases.LoadsFirst))
  by_test true e =
      let below = here.1 in
      let count = k.count in
      let last : node.from - 1 ≡ node.taken = grind (arith, nat_tests, e) in
      told_kept node value got phases.Raises k is link room adds refl (here.0, last, omega (arith, below, count)) refl
      (omega (arith, below, last))
  by_test false e =
      let below = here.1 in
      told_kept node value got phases.LoadsFirst k is link room adds refl
      (here.0, below_it node.taken (node.from - 1) (λ same. grind (arith, nat_tests, e, same)) (omega (arith, below))) refl
      (omega (arith, below))

-- without the last of those that are taken, it is without the first of them the other way round
pub less : (d : Update) (us : List Update) (n : ℕ) → 0 < n → n ≤ length us → reverse (take (n - 1) us) ≡ drop 1 (reverse (take n us))
less d us n some within =
    let same : n ≡ suc (n - 1) = omega (arith, some) in
    let below : n - 1 < length us = omega (arith, some, within) in
    sym (ap (λ (xs : List Update). drop 1 (reverse xs)) (ap (λ (m : ℕ). take m us) same ∙ take-suc us (n - 1) d below)
    ∙ ap (λ (xs : List Update). drop 1 xs) (reverse-append (take (n - 1) us) (get_or us (n - 1) d ∷ [])))
