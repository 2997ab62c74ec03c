-- Tests of what is asked of steps. They compute, so a schedule that is written out is one by `refl`.
use Rattle.std.proofs.Common.{◌≡◌, ℕ, ◌+◌, ◌-◌, ◌%◌, ◌<◌, ◌≤◌, ◌==◌, ◌&&◌, nat_lt, nat_le, Bool, true, false, Option, Some, None, List, [], ◌∷◌, length, refl, arith}
use Rattle.std.specs.Prelude.{IsNone, IsSome, ⊤}
use Rattle.std.proofs.lemmas.Bool.Decides.{nat_tests}
use Rattle.nr_machine.specs.declared.words.Operation.{Operation}
use Rattle.nr_machine.specs.declared.words.Operation.TheVariants.{Load, Store, Exchange, Max}
use Rattle.nr_machine.specs.declared.words.Word.TheVariants.{Head, Completed, Local, Done, First, Second}
use Rattle.nr_machine.specs.declared.words.Update.{Update}
use Rattle.nr_machine.specs.Words.{packed}
use Rattle.nr_machine.specs.Actor.{Actor, HasRoom, MayAppend, MayApply, MayBegin, MayDo, MayEndAt, MayLoad, MayStore, link_of, update_at}
use Rattle.nr_machine.specs.World.{Act, MayAct, MayEndRead, Plays, Read, World, acted}
use Rattle.nr_machine.specs.World.Act.{Begins, Does, Applies, Ends, ReadBegins, ReadEnds}

-- a test of a fact: where it comes out true, the fact holds
pub record Test (Fact : Type 0) : Type 0 where
  pub value : Bool
  pub sound : value ≡ true → Fact

pub none_true : {Fact : Type 0} → false ≡ true → Fact
none_true {Fact} e = absurd (cc)

pub same_true : (x y : ℕ) → (x == y) ≡ true → x ≡ y
same_true x y e = grind (arith, nat_tests, e)

pub below_true : (x y : ℕ) → nat_lt x y ≡ true → x < y
below_true x y e = grind (arith, nat_tests, e)

pub at_most_true : (x y : ℕ) → nat_le x y ≡ true → x ≤ y
at_most_true x y e = grind (arith, nat_tests, e)

abbrev pub yes : Test ⊤
yes = record { value = true; sound = λ e. tt }

abbrev pub never : {Fact : Type 0} → Test Fact
never {Fact} = record { value = false; sound = none_true }

abbrev pub same : (x y : ℕ) → Test (x ≡ y)
same x y = record { value = x == y; sound = same_true x y }

abbrev pub below : (x y : ℕ) → Test (x < y)
below x y = record { value = nat_lt x y; sound = below_true x y }

abbrev at_most : (x y : ℕ) → Test (x ≤ y)
at_most x y = record { value = nat_le x y; sound = at_most_true x y }

abbrev is_true : (b : Bool) → Test (b ≡ true)
is_true b = record { value = b; sound = λ e. e }

abbrev none : {A : Type 0} (o : Option A) → Test (IsNone o)
none {A} None = record { value = true; sound = λ e. refl }
none {A} (Some x) = never

abbrev some : {A : Type 0} (o : Option A) → Test (IsSome o)
some {A} None = never
some {A} (Some x) = record { value = true; sound = λ e. refl }

abbrev empty : (xs : List Update) → Test (xs ≡ [])
empty [] = record { value = true; sound = λ e. refl }
empty (x ∷ xs) = never

pub first_true : (a b : Bool) → (a && b) ≡ true → a ≡ true
first_true true b e = refl
first_true false b e = e

pub second_true : (a b : Bool) → (a && b) ≡ true → b ≡ true
second_true true b e = e
second_true false b e = absurd (cc)

abbrev pub both : {P Q : Type 0} → Test P → Test Q → Test (P × Q)
both {P} {Q} one two = record {
  value = one.value && two.value;
  sound = λ e. (one.sound (first_true one.value two.value e), two.sound (second_true one.value two.value e));
}

abbrev pub fits : {P Q : Type 0} → (P → Q) → Test P → Test Q
fits {P} {Q} then test = record { value = test.value; sound = λ e. then (test.sound e) }

abbrev pub three : {P Q R : Type 0} → Test P → Test Q → Test R → Test (P × Q × R)
three {P} {Q} {R} a b c = fits (λ p. (p.0, p.1.0, p.1.1)) (both a (both b c))

abbrev pub four : {P Q R S : Type 0} → Test P → Test Q → Test R → Test S → Test (P × Q × R × S)
four {P} {Q} {R} {S} a b c d = fits (λ p. (p.0, p.1.0, p.1.1, p.1.2)) (both a (three b c d))

abbrev five : {P Q R S T : Type 0} → Test P → Test Q → Test R → Test S → Test T → Test (P × Q × R × S × T)
five {P} {Q} {R} {S} {T} a b c d e = fits (λ p. (p.0, p.1.0, p.1.1, p.1.2, p.1.3)) (both a (four b c d e))

-- ---- what is asked of the one at a node

abbrev has_room : (nodes : ℕ) (a : Actor) → Test (HasRoom nodes a)
has_room nodes a = both (same a.asked nodes) (at_most (a.seen + length a.batch) (a.least + 16))

abbrev may_store : (nodes n : ℕ) (a : Actor) (count r i : ℕ) → Test (MayStore nodes n a count r i)
may_store nodes n a count r i =
    five (same r n) (none a.standing) (has_room nodes a) (below count (length a.batch)) (same i ((a.seen + count) % 16))

abbrev may_load : (a : Actor) (r i : ℕ) → Test (MayLoad a r i)
may_load a r i = three (below a.taken a.from) (same r a.ring) (same i ((a.from - 1) % 16))

abbrev may_append : (nodes n : ℕ) (a : Actor) (old new : ℕ) → Test (MayAppend nodes n a old new)
may_append nodes n a old new =
    fits (λ p. record {
      wants = p.0.0;
      some = p.0.1;
      room = p.0.2;
      firsts = p.0.3;
      seconds = p.1.0;
      applied = p.1.1;
      expects = p.1.2;
      becomes = p.1.3;
    })
    (both (four (none a.standing) (below 0 (length a.batch)) (has_room nodes a) (same a.firsts (length a.batch)))
    (four (same a.seconds (length a.batch)) (same a.applied a.taken) (same old (packed a.seen a.last))
    (same new (packed (a.seen + length a.batch) n))))

abbrev pub may_do : (nodes n : ℕ) (a : Actor) (operation : Operation) → Test (MayDo nodes n a operation)
may_do nodes n a (Load Head) = same a.applied a.taken
may_do nodes n a (Load Completed) = yes
may_do nodes n a (Load (Local r)) = both (below r nodes) (at_most r a.asked)
may_do nodes n a (Load (Done r)) = yes
may_do nodes n a (Load (First r i)) = may_load a r i
may_do nodes n a (Load (Second r i)) = both (may_load a r i) (some a.half)
may_do nodes n a (Store (Local r) value) = four (same r n) (same value a.seen) (same a.from a.taken) (same a.applied a.taken)
may_do nodes n a (Store (Done r) value) = both (same r n) (same value a.applied)
may_do nodes n a (Store (First r i) value) = both (may_store nodes n a a.firsts r i) (same value (update_at a.batch a.firsts).first)
may_do nodes n a (Store (Second r i) value) =
    both (may_store nodes n a a.seconds r i) (same value (packed (update_at a.batch a.seconds).second (link_of n a a.seconds)))
may_do nodes n a (Exchange Head old new) = may_append nodes n a old new
may_do nodes n a (Max Completed value) = at_most value a.taken
may_do nodes n a operation = never

abbrev pub may_begin : (a : Actor) (batch : List Update) → Test (MayBegin a batch)
may_begin a batch = three (empty a.batch) (at_most 1 (length batch)) (at_most (length batch) 16)

abbrev pub may_apply : (a : Actor) → Test (MayApply a)
may_apply a = fits (λ p. record { taken = p.0; next = p.1; some = p.2 })
    (three (same a.taken a.seen) (same a.from a.applied) (below 0 (length a.got)))

abbrev may_end : (standing : Option ℕ) (count applied published : ℕ) → Test (MayEndAt standing count applied published)
may_end None count applied published = same count 0
may_end (Some first) count applied published = both (at_most (first + count) applied) (at_most (first + count) published)

-- ---- schedules

abbrev act_may : (nodes : ℕ) (w : World) (act : Act) → Test (MayAct nodes w act)
act_may nodes w (Begins n batch) = both (below n nodes) (may_begin (w.actor n) batch)
act_may nodes w (Does n operation) = both (below n nodes) (may_do nodes n (w.actor n) operation)
act_may nodes w (Applies n) = both (below n nodes) (may_apply (w.actor n))
act_may nodes w (Ends n) =
    both (below n nodes) (may_end (w.actor n).standing (length (w.actor n).batch) (w.actor n).applied (w.actor n).published)
act_may nodes w (ReadBegins n) = below n nodes
act_may nodes w (ReadEnds c) = let read = w.read c in
    three (is_true read.waits) (at_most read.loaded (w.actor read.node).applied)
    (at_most (w.actor read.node).applied (w.actor read.node).published)

abbrev pub plays : (nodes : ℕ) (w : World) (acts : List Act) → Test (Plays nodes w acts)
plays nodes w [] = yes
plays nodes w (act ∷ acts) = both (act_may nodes w act) (plays nodes (acted w act) acts)
