-- What each step holds of calls, and the laws that follow from it.
use Rattle.std.proofs.Common.{◌≡◌, ℕ, ◌+◌, ◌-◌, ◌/◌, ◌%◌, ◌<◌, ◌≤◌, ◌==◌, nat_lt, Bool, true, false, cond, Option, Some, None, List, [], ◌∷◌, ◌++◌, length, refl, ap, sym, subst, ◌∙◌, arith}
use Rattle.std.specs.Prelude.{⊤, max}
use Rattle.std.proofs.lemmas.Bool.Decides.{nat_tests}
use Rattle.nr_machine.specs.declared.words.Update.{Update}
use Rattle.nr_machine.specs.declared.words.Operation.{Operation}
use Rattle.nr_machine.specs.declared.words.Operation.TheVariants.{Load, Store, Exchange, Max}
use Rattle.nr_machine.specs.declared.words.Word.TheVariants.{Head, Completed, Local, Done, First, Second}
use Rattle.nr_machine.specs.Words.{Words, carried_out, packed, stored, told_by, with_at}
use Rattle.nr_machine.specs.Actor.{Actor, MayAppend, MayDo, MayEnd, MayEndAt, applies, begins, ends, got_entry, learned, new_actor, no_update, sees, update_at}
use Rattle.nr_machine.specs.World.{Act, Event, Log, Read, World, MayAct, Plays, acted, appended, log_after, opening, played, with_end}
use Rattle.nr_machine.specs.World.Act.{Begins, Does, Applies, Ends, ReadBegins, ReadEnds}
use Rattle.nr_machine.specs.World.Event.{Began, Ended}
use Rattle.nr_machine.specs.Laws.{AreWritten, Everywhere, KeepsPrecedence, StandInOrder}
use Rattle.nr_machine.proofs.Cases.{at_cases, at_it, below_cases, elsewhere, not_last, same_high}
use Rattle.nr_machine.proofs.Kept.{IsActor, IsKept, last_small, with_actor}
use Rattle.nr_machine.proofs.Teaching.{actor_alone, applies_next, begins_call, loads_completed, loads_first, loads_local, loads_second, sees_head}
use Rattle.nr_machine.proofs.Stores.{appends, other_words, stores_first, stores_local, stores_second}

-- every end in the list is so
abbrev pub EveryEnd : (ℕ → ℕ → ℕ → Type 0) → List Event → Type 0
EveryEnd P [] = ⊤
EveryEnd P (Began call ∷ events) = EveryEnd P events
EveryEnd P (Ended call position reach ∷ events) = P call position reach × EveryEnd P events

-- what ended before a call began reaches no further than `completed` was then
abbrev pub BeginsAbove : ℕ → (ℕ → ℕ) → List Event → Type 0
BeginsAbove calls floor [] = ⊤
BeginsAbove calls floor (Began call ∷ events) =
    (call < calls) × EveryEnd (λ c position reach. reach ≤ floor call) events × BeginsAbove calls floor events
BeginsAbove calls floor (Ended call position reach ∷ events) = BeginsAbove calls floor events

pub every_more : (P Q : ℕ → ℕ → ℕ → Type 0) → ((c p r : ℕ) → P c p r → Q c p r) → (events : List Event) → EveryEnd P events
    → EveryEnd Q events
every_more P Q more [] all = tt
every_more P Q more (Began call ∷ events) all = every_more P Q more events all
every_more P Q more (Ended call position reach ∷ events) all = (more call position reach all.0, every_more P Q more events all.1)

pub every_at : (P : ℕ → ℕ → ℕ → Type 0) (c p r : ℕ) (later events : List Event) → EveryEnd P (later ++ (Ended c p r ∷ events)) → P c p r
every_at P c p r [] events all = all.0
every_at P c p r (Began call ∷ later) events all = every_at P c p r later events all
every_at P c p r (Ended call position reach ∷ later) events all = every_at P c p r later events all.1

pub begin_at : (calls : ℕ) (floor : ℕ → ℕ) (call : ℕ) (later events : List Event) → BeginsAbove calls floor (later ++ (Began call ∷ events))
    → EveryEnd (λ c position reach. reach ≤ floor call) events
begin_at calls floor call [] events all = all.1
begin_at calls floor call (Began c ∷ later) events all = begin_at calls floor call later events all.2
begin_at calls floor call (Ended c position reach ∷ later) events all = begin_at calls floor call later events all

pub begin_past : (calls : ℕ) (floor : ℕ → ℕ) (later events : List Event) → BeginsAbove calls floor (later ++ events)
    → BeginsAbove calls floor events
begin_past calls floor [] events all = all
begin_past calls floor (Began c ∷ later) events all = begin_past calls floor later events all.2
begin_past calls floor (Ended c position reach ∷ later) events all = begin_past calls floor later events all

abbrev pub IsEndOf : ℕ → (ℕ → ℕ) → ℕ → ℕ → ℕ → ℕ → Type 0
IsEndOf calls floor completed c position reach = (c < calls) × (floor c ≤ position) × (reach ≤ completed)

-- updates that are in the log: their call began when no more was completed than their first place
abbrev pub Stands : ℕ → (ℕ → ℕ) → Log → ℕ → List Update → Option ℕ → Type 0
Stands calls floor log call batch None = ⊤
Stands calls floor log call batch (Some first) = (call < calls) × (floor call ≤ first) × (first + length batch ≤ log.tail)
    × ((i : ℕ) → i < length batch → (log.call (first + i) ≡ call) × (log.entry (first + i) ≡ update_at batch i))

pub record IsHeld (nodes : ℕ) (w : World) : Type 0 where
  pub kept : IsKept nodes w.words w.log w.actor
  pub below : w.words.completed ≤ w.log.tail
  pub done : (n : ℕ) → n < nodes → w.words.done n ≤ (w.actor n).applied
  pub published : (n : ℕ) → (w.actor n).published ≤ w.words.completed
  pub floor : (c : ℕ) → c < w.calls → w.floor c ≤ w.words.completed
  pub wants : (n : ℕ) → 0 < length (w.actor n).batch → w.call n < w.calls
  pub stands : (n : ℕ) → Stands w.calls w.floor w.log (w.call n) (w.actor n).batch (w.actor n).standing
  pub read : (c : ℕ) → (w.read c).waits ≡ true → (c < w.calls) × (w.floor c ≤ (w.read c).loaded)
  pub ended : EveryEnd (IsEndOf w.calls w.floor w.words.completed) w.events
  pub began : BeginsAbove w.calls w.floor w.events

-- the log of which the first is the beginning
pub record IsBeginning (log log' : Log) : Type 0 where
  pub tail : log.tail ≤ log'.tail
  pub entry : (p : ℕ) → p < log.tail → log'.entry p ≡ log.entry p
  pub call : (p : ℕ) → p < log.tail → log'.call p ≡ log.call p

pub same_log : (log : Log) → IsBeginning log log
same_log log = record { tail = omega arith; entry = λ p lt. refl; call = λ p lt. refl }

pub more_log : (log : Log) (n call : ℕ) (batch : List Update) → IsBeginning log (appended log n call batch)
more_log log n call batch = record {
  tail = omega arith;
  entry = λ p lt. below_cases (λ x. x ≡ log.entry p) p log.tail (log.entry p) (update_at batch (p - log.tail)) (λ before. refl)
      (λ past. absurd (omega (arith, lt, past)));
  call = λ p lt. below_cases (λ x. x ≡ log.call p) p log.tail (log.call p) call (λ before. refl) (λ past. absurd (omega (arith, lt, past)));
}

pub stands_on : (calls : ℕ) (floor : ℕ → ℕ) (log log' : Log) (call : ℕ) (batch : List Update) (standing : Option ℕ) → IsBeginning log log'
    → Stands calls floor log call batch standing → Stands calls floor log' call batch standing
stands_on calls floor log log' call batch None later stands = tt
stands_on calls floor log log' call batch (Some first) later stands =
    let most = stands.2 in
    let more = later.tail in (
      stands.0,
      stands.1,
      omega (arith, most, more),
      λ i lt. let at : first + i < log.tail = omega (arith, most, lt) in
          (later.call (first + i) at ∙ (stands.3 i lt).0, later.entry (first + i) at ∙ (stands.3 i lt).1),
    )

-- what an operation changes beside what is kept
pub record Holds (nodes : ℕ) (w : World) (n : ℕ) (words : Words) (log : Log) (a : Actor) : Type 0 where
  pub kept : IsKept nodes words log (with_at w.actor n a)
  pub completed : w.words.completed ≤ words.completed
  pub below : words.completed ≤ log.tail
  pub done : (m : ℕ) → m < nodes → words.done m ≤ (with_at w.actor n a m).applied
  pub published : a.published ≤ words.completed
  pub batch : a.batch ≡ (w.actor n).batch
  pub later : IsBeginning w.log log
  pub stands : Stands w.calls w.floor log (w.call n) a.batch a.standing

pub does_hold : (nodes : ℕ) (w : World) (n : ℕ) (words : Words) (log : Log) (a : Actor) → IsHeld nodes w → Holds nodes w n words log a
    → IsHeld nodes (record w { words = words; log = log; actor = with_at w.actor n a })
does_hold nodes w n words log a held new = record {
  kept = new.kept;
  below = new.below;
  done = new.done;
  read = held.read;
  began = held.began;
  published = λ m. at_cases (λ x. x.published ≤ words.completed) w.actor n a m (λ e. new.published)
      (λ e. let one = held.published m in let two = new.completed in omega (arith, one, two));
  floor = λ c lt. let one = held.floor c lt in let two = new.completed in omega (arith, one, two);
  wants = λ m. at_cases (λ x. 0 < length x.batch → w.call m < w.calls) w.actor n a m
      (λ e some. subst (λ k. w.call k < w.calls) (sym e) (held.wants n (subst (λ us. 0 < length us) new.batch some))) (λ e. held.wants m);
  stands = λ m. at_cases (λ x. Stands w.calls w.floor log (w.call m) x.batch x.standing) w.actor n a m
      (λ e. subst (λ k. Stands w.calls w.floor log (w.call k) a.batch a.standing) (sym e) new.stands)
      (λ e. stands_on w.calls w.floor w.log log (w.call m) (w.actor m).batch (w.actor m).standing new.later (held.stands m));
  ended = every_more (IsEndOf w.calls w.floor w.words.completed) (IsEndOf w.calls w.floor words.completed)
      (λ c p r k. let three = k.2 in let two = new.completed in (k.0, k.1, omega (arith, three, two))) w.events held.ended;
}

-- the log and the call stay
pub quiet : (nodes : ℕ) (w : World) (n : ℕ) (words : Words) (a : Actor) → IsHeld nodes w → n < nodes
    → IsKept nodes words w.log (with_at w.actor n a) → words.completed ≡ w.words.completed → ((m : ℕ) → words.done m ≡ w.words.done m)
    → (w.actor n).applied ≤ a.applied → a.published ≤ w.words.completed → a.batch ≡ (w.actor n).batch → a.standing ≡ (w.actor n).standing
    → Holds nodes w n words w.log a
quiet nodes w n words a held lt kept completed done applied published batch standing = record {
  kept = kept;
  batch = batch;
  later = same_log w.log;
  completed = omega (arith, completed);
  below = let one = held.below in omega (arith, one, completed);
  done = λ m there. at_cases (λ x. words.done m ≤ x.applied) w.actor n a m
      (λ e. let one = held.done n lt in let two = done m in let same : w.words.done m ≡ w.words.done n = ap w.words.done e in
      omega (arith, one, two, same, applied))
      (λ e. let one = held.done m there in let two = done m in omega (arith, one, two));
  published = omega (arith, published, completed);
  stands = subst (λ us. Stands w.calls w.floor w.log (w.call n) us a.standing) (sym batch)
      (subst (λ s. Stands w.calls w.floor w.log (w.call n) (w.actor n).batch s) (sym standing) (held.stands n));
}

max_below : (x y z : ℕ) → x ≤ z → y ≤ z → max x y ≤ z
max_below x y z one two = omega (arith, one, two)

-- a step that only teaches
teaches : (nodes : ℕ) (w : World) (n : ℕ) (a : Actor) → IsHeld nodes w → n < nodes → IsActor w.words w.log n a
    → (w.actor n).applied ≤ a.applied → a.published ≤ w.words.completed → a.batch ≡ (w.actor n).batch → a.standing ≡ (w.actor n).standing
    → Holds nodes w n w.words w.log a
teaches nodes w n a held lt is applied published batch standing =
    quiet nodes w n w.words a held lt (actor_alone nodes w.words w.log w.actor n a held.kept is) refl (λ m. refl) applied published batch
    standing

second_holds : (nodes : ℕ) (w : World) (n value : ℕ) (h : Option ℕ) → IsHeld nodes w → n < nodes
    → IsActor w.words w.log n (got_entry (w.actor n) h value)
    → Holds nodes w n w.words w.log (got_entry (w.actor n) h value)
second_holds nodes w n value None held lt is = teaches nodes w n (w.actor n) held lt is (omega arith) (held.published n) refl refl
second_holds nodes w n value (Some first) held lt is =
    teaches nodes w n (got_entry (w.actor n) (Some first) value) held lt is (omega arith) (held.published n) refl refl

tail_of : (nodes : ℕ) (w : World) (n old new : ℕ) → IsHeld nodes w → n < nodes → MayAppend nodes n (w.actor n) old new
    → w.words.head ≡ old → (w.actor n).seen ≡ w.log.tail
tail_of nodes w n old new held lt may found =
    same_high (w.actor n).seen (w.actor n).last w.log.tail (w.log.link w.log.tail) (last_small nodes w.words w.log w.actor n held.kept lt)
    (held.kept.small w.log.tail)
    (sym may.expects ∙ sym found ∙ held.kept.head)

exchange_holds : (nodes : ℕ) (w : World) (n old new : ℕ) → IsHeld nodes w → n < nodes → nodes ≤ 64 → MayAppend nodes n (w.actor n) old new
    → (b : Bool) → (w.words.head == old) ≡ b
    → Holds nodes w n (cond b (stored w.words Head new) w.words) (cond b (appended w.log n (w.call n) (w.actor n).batch) w.log)
    (cond b (record (sees (w.actor n) ((w.actor n).seen + length (w.actor n).batch) n) { standing = Some (w.actor n).seen })
    (sees (w.actor n) (w.words.head / 128) (w.words.head % 128)))
exchange_holds nodes w n old new held lt most may false e =
    let k = held.kept.actors n lt in
    teaches nodes w n (sees (w.actor n) (w.words.head / 128) (w.words.head % 128)) held lt
    (sees_head w.words w.log n (w.actor n) w.words.head k (held.kept.small w.log.tail) held.kept.head) (omega arith) (held.published n)
    refl refl
exchange_holds nodes w n old new held lt most may true e =
    let a = w.actor n in
    let found : w.words.head ≡ old = grind (arith, nat_tests, e) in
    let done = record (sees a (a.seen + length a.batch) n) { standing = Some a.seen } in
    let below = held.below in
    let is_tail = tail_of nodes w n old new held lt may found in
    record {
      kept = appends nodes w.words w.log w.actor n (w.call n) old new held.kept lt most may found;
      completed = omega arith;
      below = omega (arith, below);
      done = λ m there. at_cases (λ x. w.words.done m ≤ x.applied) w.actor n done m
          (λ e. let one = held.done n lt in let same : w.words.done m ≡ w.words.done n = ap w.words.done e in omega (arith, one, same))
          (λ e. held.done m there);
      published = held.published n;
      batch = refl;
      later = more_log w.log n (w.call n) a.batch;
      stands = (
        held.wants n may.some,
        let one = held.floor (w.call n) (held.wants n may.some) in omega (arith, one, below, is_tail),
        omega (arith, is_tail),
        λ i lt. (
          below_cases (λ x. x ≡ w.call n) (a.seen + i) w.log.tail (w.log.call (a.seen + i)) (w.call n)
              (λ before. absurd (omega (arith, before, is_tail))) (λ past. refl),
          below_cases (λ x. x ≡ update_at a.batch i) (a.seen + i) w.log.tail (w.log.entry (a.seen + i))
              (update_at a.batch (a.seen + i - w.log.tail))
              (λ before. absurd (omega (arith, before, is_tail)))
              (λ past. ap (update_at a.batch) (let e : a.seen + i - w.log.tail ≡ i = omega (arith, is_tail) in e)),
        ),
      );
    }

pub operation_holds : (nodes : ℕ) (w : World) (n : ℕ) (operation : Operation) → IsHeld nodes w → n < nodes → nodes ≤ 64
    → MayDo nodes n (w.actor n) operation
    → Holds nodes w n (carried_out w.words operation) (log_after w n operation)
    (learned n (w.actor n) operation (told_by w.words operation))
operation_holds nodes w n (Load Head) held lt most may =
    teaches nodes w n (sees (w.actor n) (w.words.head / 128) (w.words.head % 128)) held lt
    (sees_head w.words w.log n (w.actor n) w.words.head (held.kept.actors n lt) (held.kept.small w.log.tail) held.kept.head) (omega arith)
    (held.published n) refl refl
operation_holds nodes w n (Load Completed) held lt most may =
    teaches nodes w n (record (w.actor n) { published = max (w.actor n).published w.words.completed }) held lt
    (loads_completed w.words w.log n (w.actor n) (max (w.actor n).published w.words.completed) (held.kept.actors n lt)) (omega arith)
    (max_below (w.actor n).published w.words.completed w.words.completed (held.published n) (omega arith)) refl refl
operation_holds nodes w n (Load (Local r)) held lt most may =
    teaches nodes w n (learned n (w.actor n) (Load (Local r)) (w.words.local r)) held lt
    (loads_local w.words w.log n (w.actor n) r (held.kept.actors n lt) may.1) (omega arith) (held.published n) refl refl
operation_holds nodes w n (Load (Done r)) held lt most may =
    teaches nodes w n (w.actor n) held lt (held.kept.actors n lt) (omega arith) (held.published n) refl refl
operation_holds nodes w n (Load (First r i)) held lt most may =
    teaches nodes w n (record (w.actor n) { half = Some (w.words.first r i) }) held lt
    (loads_first nodes w.words w.log w.actor n r i held.kept lt may) (omega arith) (held.published n) refl refl
operation_holds nodes w n (Load (Second r i)) held lt most may =
    second_holds nodes w n (w.words.second r i) (w.actor n).half held lt
    (loads_second nodes w.words w.log w.actor n r i held.kept lt may.0 may.1)
operation_holds nodes w n (Store (Local r) value) held lt most may =
    let a = w.actor n in
    quiet nodes w n (stored w.words (Local r) value) (record a { taken = value }) held lt
    (subst (λ s. IsKept nodes (stored w.words (Local s) value) w.log (with_at w.actor n (record a { taken = value }))) (sym may.0)
    (subst (λ x. IsKept nodes (stored w.words (Local n) x) w.log (with_at w.actor n (record a { taken = x }))) (sym may.1)
    (stores_local nodes w.words w.log w.actor n held.kept lt may.2 may.3))) refl (λ m. refl) (omega arith) (held.published n) refl refl
operation_holds nodes w n (Store (Done r) value) held lt most may =
    let a = w.actor n in
    let r_is = may.0 in
    let value_is = may.1 in
    let kept = other_words nodes w.words w.log w.actor w.words.completed (with_at w.words.done r value) held.kept in
    record {
      kept = actor_alone nodes (stored w.words (Done r) value) w.log w.actor n a kept (kept.actors n lt);
      completed = omega arith;
      below = held.below;
      done = λ m there. at_cases (λ x. with_at w.words.done r value m ≤ x.applied) w.actor n a m
          (λ e. at_cases (λ d. d ≤ a.applied) w.words.done r value m (λ same. omega (arith, value_is))
          (λ apart. absurd (apart (e ∙ sym r_is))))
          (λ e. at_cases (λ d. d ≤ (w.actor m).applied) w.words.done r value m (λ same. absurd (e (same ∙ r_is)))
          (λ apart. held.done m there));
      published = held.published n;
      batch = refl;
      later = same_log w.log;
      stands = held.stands n;
    }
operation_holds nodes w n (Store (First r i) value) held lt most may =
    let a = w.actor n in
    let it = may.0 in
    quiet nodes w n (stored w.words (First r i) value) (record a { firsts = a.firsts + 1 }) held lt
    (subst (λ s. IsKept nodes (stored w.words (First s i) value) w.log (with_at w.actor n (record a { firsts = a.firsts + 1 }))) (sym it.0)
    (subst (λ x. IsKept nodes (stored w.words (First n i) x) w.log (with_at w.actor n (record a { firsts = a.firsts + 1 }))) (sym may.1)
    (stores_first nodes w.words w.log w.actor n i held.kept lt (refl, it.1, it.2, it.3, it.4)))) refl (λ m. refl) (omega arith)
    (held.published n) refl refl
operation_holds nodes w n (Store (Second r i) value) held lt most may =
    let a = w.actor n in
    let it = may.0 in
    quiet nodes w n (stored w.words (Second r i) value) (record a { seconds = a.seconds + 1 }) held lt
    (subst (λ s. IsKept nodes (stored w.words (Second s i) value) w.log (with_at w.actor n (record a { seconds = a.seconds + 1 })))
    (sym it.0)
    (subst (λ x. IsKept nodes (stored w.words (Second n i) x) w.log (with_at w.actor n (record a { seconds = a.seconds + 1 }))) (sym may.1)
    (stores_second nodes w.words w.log w.actor n i held.kept lt (refl, it.1, it.2, it.3, it.4)))) refl (λ m. refl) (omega arith)
    (held.published n) refl refl
operation_holds nodes w n (Store word value) held lt most may = absurd may
operation_holds nodes w n (Exchange Head old new) held lt most may =
    exchange_holds nodes w n old new held lt most may (w.words.head == old) refl
operation_holds nodes w n (Exchange word old new) held lt most may = absurd may
operation_holds nodes w n (Max Completed value) held lt most may =
    let a = w.actor n in
    let kept = other_words nodes w.words w.log w.actor (max w.words.completed value) w.words.done held.kept in
    let k = held.kept.actors n lt in
    let order = k.order in
    let taken = order.1 in
    let seen = k.seen in
    let one = held.published n in
    let below = held.below in
    record {
      kept = actor_alone nodes (stored w.words Completed (max w.words.completed value)) w.log w.actor n
          (record a { published = max a.published value }) kept
          (loads_completed (stored w.words Completed (max w.words.completed value)) w.log n a (max a.published value) (kept.actors n lt));
      completed = omega arith;
      below = max_below w.words.completed value w.log.tail below (omega (arith, may, taken, seen));
      done = λ m there. at_cases (λ x. w.words.done m ≤ x.applied) w.actor n (record a { published = max a.published value }) m
          (λ e. let two = held.done n lt in let same : w.words.done m ≡ w.words.done n = ap w.words.done e in omega (arith, two, same))
          (λ e. held.done m there);
      published = omega (arith, one);
      batch = refl;
      later = same_log w.log;
      stands = held.stands n;
    }
operation_holds nodes w n (Max word value) held lt most may = absurd may
