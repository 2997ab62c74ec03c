-- What calls hold as they begin and end, and the laws on words and calls.
use Rattle.std.proofs.Common.{◌≡◌, ℕ, ◌+◌, ◌-◌, ◌%◌, ◌<◌, ◌≤◌, ◌==◌, nat_lt, Bool, true, false, cond, Option, Some, None, List, [], ◌∷◌, ◌++◌, length, refl, ap, sym, subst, ◌∙◌, arith}
use Rattle.std.specs.Prelude.{⊤}
use Rattle.std.proofs.lemmas.Bool.Decides.{nat_tests}
use Rattle.nr_machine.specs.declared.words.Update.{Update}
use Rattle.nr_machine.specs.declared.words.Operation.TheVariants.{Load, Store, Exchange, Max}
use Rattle.nr_machine.specs.declared.words.Word.TheVariants.{Head, Completed, Local, Done, First, Second}
use Rattle.nr_machine.specs.Words.{stored, with_at}
use Rattle.nr_machine.specs.Actor.{Actor, MayEndAt, applies, begins, ends, new_actor}
use Rattle.nr_machine.specs.World.{Act, Event, Log, Read, World, MayAct, Plays, acted, opening, played, with_end}
use Rattle.nr_machine.specs.World.Act.{Begins, Does, Applies, Ends, ReadBegins, ReadEnds}
use Rattle.nr_machine.specs.World.Event.{Began, Ended}
use Rattle.nr_machine.specs.Laws.{AllApplied, AreWritten, Everywhere, KeepsPrecedence, StandInOrder}
use Rattle.nr_machine.proofs.Cases.{at_cases, at_it, elsewhere, not_last}
use Rattle.nr_machine.proofs.Kept.{IsActor, IsKept}
use Rattle.nr_machine.proofs.Teaching.{actor_alone, applies_next, begins_call}
use Rattle.nr_machine.proofs.Held.{BeginsAbove, EveryEnd, IsEndOf, IsHeld, Stands, begin_at, begin_past, does_hold, every_at, every_more, operation_holds, quiet}

-- a call that begins changes nothing for the earlier ones
earlier : (f : ℕ → ℕ) (n x m : ℕ) → m < n → with_at f n x m ≡ f m
earlier f n x m lt = elsewhere f n x m (λ e. omega (arith, e, lt))

began_more : (calls : ℕ) (floor : ℕ → ℕ) (x : ℕ) (events : List Event) → BeginsAbove calls floor events
    → BeginsAbove (calls + 1) (with_at floor calls x) events
began_more calls floor x [] all = tt
began_more calls floor x (Began call ∷ events) all =
    let same = earlier floor calls x call all.0 in
    let one = all.0 in (
      omega (arith, one),
      every_more (λ c p r. r ≤ floor call) (λ c p r. r ≤ with_at floor calls x call) (λ c p r k. omega (arith, k, same)) events all.1,
      began_more calls floor x events all.2,
    )
began_more calls floor x (Ended call position reach ∷ events) all = began_more calls floor x events all

ended_more : (calls : ℕ) (floor : ℕ → ℕ) (x completed : ℕ) (events : List Event) → EveryEnd (IsEndOf calls floor completed) events
    → EveryEnd (IsEndOf (calls + 1) (with_at floor calls x) completed) events
ended_more calls floor x completed = every_more (IsEndOf calls floor completed) (IsEndOf (calls + 1) (with_at floor calls x) completed)
    (λ c p r k. let same = earlier floor calls x c k.0 in let one = k.0 in let two = k.1 in
    (omega (arith, one), omega (arith, two, same), k.2))

stands_more : (calls : ℕ) (floor : ℕ → ℕ) (x : ℕ) (log : Log) (call : ℕ) (batch : List Update) (standing : Option ℕ)
    → Stands calls floor log call batch standing
    → Stands (calls + 1) (with_at floor calls x) log call batch standing
stands_more calls floor x log call batch None stands = tt
stands_more calls floor x log call batch (Some first) stands =
    let same = earlier floor calls x call stands.0 in let one = stands.0 in let two = stands.1 in
    (omega (arith, one), omega (arith, two, same), stands.2, stands.3)

-- what is known of calls once another has begun
record HasBegun (w : World) : Type 0 where
  pub floor : (c : ℕ) → c < w.calls + 1 → with_at w.floor w.calls w.words.completed c ≤ w.words.completed
  pub ended : EveryEnd (IsEndOf (w.calls + 1) (with_at w.floor w.calls w.words.completed) w.words.completed) w.events
  pub began : BeginsAbove (w.calls + 1) (with_at w.floor w.calls w.words.completed) (Began w.calls ∷ w.events)

has_begun : (nodes : ℕ) (w : World) → IsHeld nodes w → HasBegun w
has_begun nodes w held = record {
  floor = λ c lt. at_cases (λ x. x ≤ w.words.completed) w.floor w.calls w.words.completed c (λ e. omega arith)
      (λ apart. held.floor c (not_last c w.calls lt apart));
  ended = ended_more w.calls w.floor w.words.completed w.words.completed w.events held.ended;
  began = (
    omega arith,
    every_more (IsEndOf w.calls w.floor w.words.completed) (λ c p r. r ≤ with_at w.floor w.calls w.words.completed w.calls)
        (λ c p r k. let same = at_it w.floor w.calls w.words.completed in let three = k.2 in omega (arith, three, same)) w.events
        held.ended,
    began_more w.calls w.floor w.words.completed w.events held.began,
  );
}

-- the end of an update
end_holds : (calls : ℕ) (floor : ℕ → ℕ) (log : Log) (completed call applied published : ℕ) (batch : List Update) (standing : Option ℕ)
    (events : List Event)
    → Stands calls floor log call batch standing → MayEndAt standing (length batch) applied published → published ≤ completed
    → EveryEnd (IsEndOf calls floor completed) events
    → EveryEnd (IsEndOf calls floor completed) (with_end standing call (length batch) events)
end_holds calls floor log completed call applied published batch None events stands may most all = all
end_holds calls floor log completed call applied published batch (Some first) events stands may most all =
    let reach = may.1 in ((stands.0, stands.1, omega (arith, reach, most)), all)

end_begins : (calls : ℕ) (floor : ℕ → ℕ) (call count : ℕ) (standing : Option ℕ) (events : List Event) → BeginsAbove calls floor events
    → BeginsAbove calls floor (with_end standing call count events)
end_begins calls floor call count None events all = all
end_begins calls floor call count (Some first) events all = all

pub acts_hold : (nodes : ℕ) (w : World) (act : Act) → nodes ≤ 64 → IsHeld nodes w → MayAct nodes w act → IsHeld nodes (acted w act)
acts_hold nodes w (Does n operation) most held may =
    does_hold nodes w n _ _ _ held (operation_holds nodes w n operation held may.0 most may.1)
acts_hold nodes w (Applies n) most held may =
    let a = w.actor n in
    does_hold nodes w n w.words w.log (applies a) held
    (quiet nodes w n w.words (applies a) held may.0
    (actor_alone nodes w.words w.log w.actor n (applies a) held.kept (applies_next w.words w.log n a (held.kept.actors n may.0) may.1))
    refl (λ m. refl) (omega arith) (held.published n) refl refl)
acts_hold nodes w (Begins n batch) most held may =
    let a = begins (w.actor n) batch in
    let begun = has_begun nodes w held in
    let few = may.1.2 in
    record {
      kept = actor_alone nodes w.words w.log w.actor n a held.kept
          (begins_call w.words w.log n (w.actor n) batch (held.kept.actors n may.0) few);
      below = held.below;
      done = λ m lt. at_cases (λ x. w.words.done m ≤ x.applied) w.actor n a m
          (λ e. let one = held.done n may.0 in let same : w.words.done m ≡ w.words.done n = ap w.words.done e in omega (arith, one, same))
          (λ e. held.done m lt);
      published = λ m. at_cases (λ x. x.published ≤ w.words.completed) w.actor n a m (λ e. held.published n) (λ e. held.published m);
      floor = begun.floor;
      wants = λ m. at_cases (λ x. 0 < length x.batch → with_at w.call n w.calls m < w.calls + 1) w.actor n a m
          (λ e some. at_cases (λ c. c < w.calls + 1) w.call n w.calls m (λ same. omega arith) (λ apart. absurd (apart e)))
          (λ e some. at_cases (λ c. c < w.calls + 1) w.call n w.calls m (λ same. omega arith)
          (λ apart. let one = held.wants m some in omega (arith, one)));
      stands =
          λ m. at_cases (λ x. Stands (w.calls + 1) (with_at w.floor w.calls w.words.completed) w.log (with_at w.call n w.calls m) x.batch
          x.standing) w.actor n a m
          (λ e. tt)
          (λ e. subst (λ c. Stands (w.calls + 1) (with_at w.floor w.calls w.words.completed) w.log c (w.actor m).batch (w.actor m).standing)
          (sym (elsewhere w.call n w.calls m e))
          (stands_more w.calls w.floor w.words.completed w.log (w.call m) (w.actor m).batch (w.actor m).standing (held.stands m)));
      read = λ c waits. let k = held.read c waits in let same = earlier w.floor w.calls w.words.completed c k.0 in let one = k.0 in
          let two = k.1 in
          (omega (arith, one), omega (arith, two, same));
      ended = begun.ended;
      began = begun.began;
    }
acts_hold nodes w (Ends n) most held may =
    let old = w.actor n in
    let a = ends old in
    record {
      kept = actor_alone nodes w.words w.log w.actor n a held.kept
          (begins_call w.words w.log n (w.actor n) [] (held.kept.actors n may.0) (omega arith));
      below = held.below;
      done = λ m lt. at_cases (λ x. w.words.done m ≤ x.applied) w.actor n a m
          (λ e. let one = held.done n may.0 in let same : w.words.done m ≡ w.words.done n = ap w.words.done e in omega (arith, one, same))
          (λ e. held.done m lt);
      published = λ m. at_cases (λ x. x.published ≤ w.words.completed) w.actor n a m (λ e. held.published n) (λ e. held.published m);
      floor = held.floor;
      wants = λ m. at_cases (λ x. 0 < length x.batch → w.call m < w.calls) w.actor n a m (λ e some. absurd (omega (arith, some)))
          (λ e. held.wants m);
      stands = λ m. at_cases (λ x. Stands w.calls w.floor w.log (w.call m) x.batch x.standing) w.actor n a m (λ e. tt) (λ e. held.stands m);
      read = held.read;
      ended = end_holds w.calls w.floor w.log w.words.completed (w.call n) old.applied old.published old.batch old.standing w.events
          (held.stands n) may.1 (held.published n) held.ended;
      began = end_begins w.calls w.floor (w.call n) (length old.batch) old.standing w.events held.began;
    }
acts_hold nodes w (ReadBegins n) most held may =
    let fresh : Read = record { waits = true; node = n; loaded = w.words.completed } in
    let begun = has_begun nodes w held in
    record {
      kept = held.kept;
      below = held.below;
      done = held.done;
      published = held.published;
      floor = begun.floor;
      wants = λ m some. let one = held.wants m some in omega (arith, one);
      stands = λ m. stands_more w.calls w.floor w.words.completed w.log (w.call m) (w.actor m).batch (w.actor m).standing (held.stands m);
      read = λ c. at_cases (λ x. x.waits ≡ true → (c < w.calls + 1) × (with_at w.floor w.calls w.words.completed c ≤ x.loaded)) w.read
          w.calls fresh c
          (λ e
          waits. (
            omega (arith, e),
            at_cases (λ x. x ≤ w.words.completed) w.floor w.calls w.words.completed c (λ same. omega arith)
                (λ apart. absurd (apart e)),
          ))
          (λ e waits. let k = held.read c waits in let same = elsewhere w.floor w.calls w.words.completed c e in let one = k.0 in
          let two = k.1 in
          (omega (arith, one), omega (arith, two, same)));
      ended = begun.ended;
      began = begun.began;
    }
acts_hold nodes w (ReadEnds c) most held may =
    let shut : Read = record { waits = false; node = (w.read c).node; loaded = (w.read c).loaded } in
    let k = held.read c may.0 in
    let two = k.1 in
    let reached = may.1 in
    let told = may.2 in
    let published = held.published (w.read c).node in
    record {
      kept = held.kept;
      below = held.below;
      done = held.done;
      published = held.published;
      floor = held.floor;
      wants = held.wants;
      stands = held.stands;
      read = λ d. at_cases (λ x. x.waits ≡ true → (d < w.calls) × (w.floor d ≤ x.loaded)) w.read c shut d (λ e waits. absurd (cc))
          (λ e. held.read d);
      ended = ((k.0, omega (arith, two, reached), omega (arith, told, published)), held.ended);
      began = held.began;
    }

pub opening_held : (nodes : ℕ) → IsHeld nodes (opening nodes)
opening_held nodes = record {
  kept = record {
    head = refl;
    small = λ p. omega arith;
    makers = λ p some. some;
    near = λ r lt. omega arith;
    there = λ r p lt from to. absurd (omega (arith, to));
    actors = λ n lt. record {
      seen = omega arith;
      alone = λ p from to. absurd (omega (arith, to));
      scan = λ r lt. omega arith;
      wrote = λ i none. absurd (omega (arith, none));
      linked = λ i none. absurd (omega (arith, none));
      few = (omega arith, omega arith, omega arith);
      local = refl;
      order = (omega arith, omega arith);
      count = refl;
      got = tt;
      ring = λ some. refl;
      last = refl;
      half = λ v some is. absurd (cc);
    };
  };
  below = omega arith;
  done = λ n lt. omega arith;
  published = λ n. omega arith;
  floor = λ c lt. omega arith;
  wants = λ n some. absurd (omega (arith, some));
  stands = λ n. tt;
  read = λ c waits. absurd (cc);
  ended = tt;
  began = tt;
}

pub schedules_hold : (nodes : ℕ) (w : World) (acts : List Act) → nodes ≤ 64 → IsHeld nodes w → Plays nodes w acts
    → IsHeld nodes (played w acts)
schedules_hold nodes w [] most held plays = held
schedules_hold nodes w (act ∷ acts) most held plays =
    schedules_hold nodes (acted w act) acts most (acts_hold nodes w act most held plays.0) plays.1

pub all_held : (nodes : ℕ) (acts : List Act) → nodes ≤ 64 → Plays nodes (opening nodes) acts → IsHeld nodes (played (opening nodes) acts)
all_held nodes acts most plays = schedules_hold nodes (opening nodes) acts most (opening_held nodes) plays

pub all_stand : (nodes : ℕ) (acts : List Act) → nodes ≤ 64 → Plays nodes (opening nodes) acts
    → StandInOrder nodes (played (opening nodes) acts)
all_stand nodes acts most plays =
    let held = all_held nodes acts most plays in (
      held.kept.head,
      held.below,
      λ n lt.
          let k = held.kept.actors n lt in
          let local = k.local in
          let order = k.order in
          let one = order.0 in
          let two = order.1 in
          let seen = k.seen in
          (held.done n lt, omega (arith, local, one), omega (arith, local, two, seen), held.kept.near n lt, held.published n),
    )

pub all_written : (nodes : ℕ) (acts : List Act) → nodes ≤ 64 → Plays nodes (opening nodes) acts
    → AreWritten nodes (played (opening nodes) acts)
all_written nodes acts most plays = (all_held nodes acts most plays).kept.there

pub all_precede : (nodes : ℕ) (acts : List Act) → nodes ≤ 64 → Plays nodes (opening nodes) acts
    → KeepsPrecedence (played (opening nodes) acts).events
all_precede nodes acts many plays later during between earlier first place reach second position end is =
    let v = played (opening nodes) acts in
    let held = all_held nodes acts many plays in
    let from_begin = during ++ (Began second ∷ (between ++ (Ended first place reach ∷ earlier))) in
    let ended = every_at (IsEndOf v.calls v.floor v.words.completed) second position end later from_begin
    (subst (λ es. EveryEnd (IsEndOf v.calls v.floor v.words.completed) es) is held.ended) in
    let past = begin_past v.calls v.floor later (Ended second position end ∷ from_begin)
    (subst (λ es. BeginsAbove v.calls v.floor es) is held.began) in
    let began = begin_at v.calls v.floor second during (between ++ (Ended first place reach ∷ earlier)) past in
    let most = every_at (λ c p r. r ≤ v.floor second) first place reach between earlier began in
    let least = ended.1 in
    omega (arith, most, least)

-- what a node has flushed doesn't become less
done_grows : (nodes : ℕ) (w : World) (act : Act) → IsHeld nodes w → MayAct nodes w act → (m : ℕ)
    → w.words.done m ≤ (acted w act).words.done m
done_grows nodes w (Does n (Load word)) held may m = omega arith
done_grows nodes w (Does n (Store (Done r) value)) held may m = at_cases (λ x. w.words.done m ≤ x) w.words.done r value m
    (λ e. let one = held.done n may.0 in let same : w.words.done m ≡ w.words.done n = ap w.words.done (e ∙ may.1.0) in let is = may.1.1 in
    omega (arith, one, same, is))
    (λ e. omega arith)
done_grows nodes w (Does n (Store (Local r) value)) held may m = omega arith
done_grows nodes w (Does n (Store (First r i) value)) held may m = omega arith
done_grows nodes w (Does n (Store (Second r i) value)) held may m = omega arith
done_grows nodes w (Does n (Store word value)) held may m = absurd may.1
done_grows nodes w (Does n (Exchange Head old new)) held may m = by_test (w.words.head == old) where
  by_test : (b : Bool) → w.words.done m ≤ (cond b (stored w.words Head new) w.words).done m
  by_test true = omega arith
  by_test false = omega arith
done_grows nodes w (Does n (Exchange word old new)) held may m = absurd may.1
done_grows nodes w (Does n (Max Completed value)) held may m = omega arith
done_grows nodes w (Does n (Max word value)) held may m = absurd may.1
done_grows nodes w (Begins n batch) held may m = omega arith
done_grows nodes w (Applies n) held may m = omega arith
done_grows nodes w (Ends n) held may m = omega arith
done_grows nodes w (ReadBegins n) held may m = omega arith
done_grows nodes w (ReadEnds c) held may m = omega arith

everywhere_from : (nodes : ℕ) (w : World) (acts : List Act) (p : ℕ) → nodes ≤ 64 → IsHeld nodes w → Plays nodes w acts
    → Everywhere nodes w p → Everywhere nodes (played w acts) p
everywhere_from nodes w [] p most held plays all = all
everywhere_from nodes w (act ∷ acts) p most held plays all =
    everywhere_from nodes (acted w act) acts p most (acts_hold nodes w act most held plays.0) plays.1
    (λ n lt. let k = all n lt in let more = done_grows nodes w act held plays.0 n in omega (arith, k, more))

pub everywhere_on : (nodes : ℕ) (acts more : List Act) (p : ℕ) → nodes ≤ 64 → Plays nodes (opening nodes) acts
    → Plays nodes (played (opening nodes) acts) more
    → Everywhere nodes (played (opening nodes) acts) p → Everywhere nodes (played (played (opening nodes) acts) more) p
everywhere_on nodes acts more p most plays then =
    everywhere_from nodes (played (opening nodes) acts) more p most (all_held nodes acts most plays) then

pub everywhere_applied : (nodes : ℕ) (acts : List Act) (p : ℕ) → nodes ≤ 64 → Plays nodes (opening nodes) acts
    → Everywhere nodes (played (opening nodes) acts) p
    → AllApplied nodes (played (opening nodes) acts) p
everywhere_applied nodes acts p most plays all =
    λ n lt. let k = all n lt in let most = (all_held nodes acts most plays).done n lt in omega (arith, k, most)

pub done_stays : (nodes : ℕ) (acts more : List Act) → nodes ≤ 64 → Plays nodes (opening nodes) acts
    → Plays nodes (played (opening nodes) acts) more
    → (m : ℕ) → (played (opening nodes) acts).words.done m ≤ (played (played (opening nodes) acts) more).words.done m
done_stays nodes acts more most plays then = grown nodes (played (opening nodes) acts) more most (all_held nodes acts most plays) then where
  grown : (nodes : ℕ) (w : World) (acts : List Act) → nodes ≤ 64 → IsHeld nodes w → Plays nodes w acts → (m : ℕ)
      → w.words.done m ≤ (played w acts).words.done m
  grown nodes w [] most held plays m = omega arith
  grown nodes w (act ∷ acts) most held plays m =
      let one = done_grows nodes w act held plays.0 m in
      let rest = grown nodes (acted w act) acts most (acts_hold nodes w act most held plays.0) plays.1 m in
      omega (arith, one, rest)

-- what is completed doesn't become less
completed_grows : (nodes : ℕ) (w : World) (act : Act) → nodes ≤ 64 → IsHeld nodes w → MayAct nodes w act
    → w.words.completed ≤ (acted w act).words.completed
completed_grows nodes w (Does n operation) most held may = (operation_holds nodes w n operation held may.0 most may.1).completed
completed_grows nodes w (Begins n batch) most held may = omega arith
completed_grows nodes w (Applies n) most held may = omega arith
completed_grows nodes w (Ends n) most held may = omega arith
completed_grows nodes w (ReadBegins n) most held may = omega arith
completed_grows nodes w (ReadEnds c) most held may = omega arith

pub completed_stays : (nodes : ℕ) (acts more : List Act) → nodes ≤ 64 → Plays nodes (opening nodes) acts
    → Plays nodes (played (opening nodes) acts) more
    → (played (opening nodes) acts).words.completed ≤ (played (played (opening nodes) acts) more).words.completed
completed_stays nodes acts more most plays then =
    grown nodes (played (opening nodes) acts) more most (all_held nodes acts most plays) then where
      grown : (nodes : ℕ) (w : World) (acts : List Act) → nodes ≤ 64 → IsHeld nodes w → Plays nodes w acts
          → w.words.completed ≤ (played w acts).words.completed
      grown nodes w [] most held plays = omega arith
      grown nodes w (act ∷ acts) most held plays =
          let one = completed_grows nodes w act most held plays.0 in
          let rest = grown nodes (acted w act) acts most (acts_hold nodes w act most held plays.0) plays.1 in
          omega (arith, one, rest)
