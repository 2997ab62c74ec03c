-- The laws on states and answers.
use Rattle.std.proofs.Common.{◌≡◌, ℕ, ◌+◌, ◌-◌, ◌<◌, ◌≤◌, ◌==◌, Bool, true, false, cond, Option, Some, None, List, [], ◌∷◌, ◌++◌, length, refl, ap, sym, subst, ◌∙◌, arith}
use Rattle.std.specs.Prelude.{min}
use Rattle.nr_machine.specs.declared.words.Update.{Update}
use Rattle.nr_machine.specs.declared.words.Operation.{Operation}
use Rattle.nr_machine.specs.Words.{carried_out, told_by, with_at}
use Rattle.nr_machine.specs.Actor.{Actor, MayEndAt, applies, begins, ends, is_own, learned, update_at}
use Rattle.nr_machine.specs.World.{Act, Event, Log, World, MayAct, Plays, Read, acted, log_after, opening, played, with_end}
use Rattle.nr_machine.specs.World.Act.{Begins, Does, Applies, Ends, ReadBegins, ReadEnds}
use Rattle.nr_machine.specs.World.Event.{Ended}
use Rattle.nr_machine.specs.States.{Kind, Nodes, Reply, AllRight, IsRight, StatesFollow, answers_from, at_first, ends_among, ends_of, followed, run, state_after, with_reply}
use Rattle.nr_machine.specs.States.Reply.{Updated, Saw}
use Rattle.nr_machine.proofs.Cases.{at_cases}
use Rattle.nr_machine.proofs.Held.{IsBeginning, IsHeld, Stands, operation_holds, same_log}
use Rattle.nr_machine.proofs.Ending.{acts_hold, opening_held}
use Rattle.nr_machine.proofs.Stated.{Answered, IsStated, all_more, answered_goes_on, answered_on, goes_on, more_answers, more_state, next_entry, same_state}

applied_below : (nodes : ℕ) (w : World) (n : ℕ) → IsHeld nodes w → n < nodes → (w.actor n).applied ≤ w.log.tail
applied_below nodes w n held lt =
    let k = held.kept.actors n lt in let order = k.order in let one = order.0 in let two = order.1 in let three = k.seen in
    omega (arith, one, two, three)

-- the reply of an update that ends: its updates are all applied
reply_right : {S A : Type 0} (kind : Kind S A) (w : World) (n call applied published : ℕ) (batch : List Update) (standing : Option ℕ)
    (answers : List A) (replies : List (Reply S A))
    → Stands w.calls w.floor w.log call batch standing → Answered kind w.log.entry applied (length batch) standing answers
    → MayEndAt standing (length batch) applied published → AllRight kind w replies
    → AllRight kind w (with_reply standing call batch answers replies)
reply_right {S} {A} kind w n call applied published batch None answers replies stands is may all = all
reply_right {S} {A} kind w n call applied published batch (Some first) answers replies stands is may all =
    let has = may.0 in (
      (
        stands.2,
        is ∙ ap (answers_from kind w.log.entry first)
            (let e : min (applied - first) (length batch) ≡ length batch = omega (arith, has) in e),
        stands.3,
      ),
      all,
    )

does_state : {S A : Type 0} (nodes : ℕ) (kind : Kind S A) (w : Nodes S A) (n : ℕ) (operation : Operation) → nodes ≤ 64
    → IsStated nodes kind w
    → MayAct nodes w.world (Does n operation) → IsStated nodes kind (followed kind w (Does n operation))
does_state {S} {A} nodes kind w n operation most stated may =
    let v = w.world in
    let held = stated.held in
    let a = v.actor n in
    let b = learned n a operation (told_by v.words operation) in
    let log' = log_after v n operation in
    let on = goes_on nodes n a operation (told_by v.words operation) may.1 in
    let later = (operation_holds nodes v n operation held may.0 most may.1).later in
    record {
      held = acts_hold nodes v (Does n operation) most held may;
      state = λ m lt. stated.state m lt ∙ sym (same_state kind log'.entry v.log.entry (v.actor m).applied
          (λ p below. later.entry p (let le = applied_below nodes v m held lt in omega (arith, below, le))))
          ∙ at_cases (λ x. state_after kind log'.entry (v.actor m).applied ≡ state_after kind log'.entry x.applied) v.actor n b m
          (λ e. ap (λ (k : ℕ). state_after kind log'.entry (v.actor k).applied) e ∙ ap (state_after kind log'.entry) (sym on.applied))
          (λ apart. refl);
      answers = λ m lt. at_cases (λ x. Answered kind log'.entry x.applied (length x.batch) x.standing (w.answers m)) v.actor n b m
          (λ e. subst (λ k. Answered kind log'.entry b.applied (length b.batch) b.standing (w.answers k)) (sym e)
          (answered_goes_on kind log'.entry a b (w.answers n) on
          (let k = held.kept.actors n may.0 in let order = k.order in let one = order.0 in let two = order.1 in omega (arith, one, two))
          (answered_on kind v.calls v.floor v.log log' (v.call n) a.applied a.batch a.standing (w.answers n) later (held.stands n)
          (stated.answers n may.0))))
          (λ e. answered_on kind v.calls v.floor v.log log' (v.call m) (v.actor m).applied (v.actor m).batch (v.actor m).standing
          (w.answers m) later (held.stands m) (stated.answers m lt));
      readers = stated.readers;
      replies = all_more kind v (acted v (Does n operation)) w.replies later stated.replies;
    }

applies_state : {S A : Type 0} (nodes : ℕ) (kind : Kind S A) (w : Nodes S A) (n : ℕ) → nodes ≤ 64 → IsStated nodes kind w
    → MayAct nodes w.world (Applies n) → IsStated nodes kind (followed kind w (Applies n))
applies_state {S} {A} nodes kind w n most stated may =
    let v = w.world in
    let held = stated.held in
    let a = v.actor n in
    let u = update_at a.got 0 in
    let k = held.kept.actors n may.0 in
    let is_next = may.1.next in
    let entry = next_entry v.log.entry a.from a.got k.got may.1.some ∙ ap v.log.entry is_next in
    let state = stated.state n may.0 in
    let answers = cond (is_own a) (w.answers n ++ (kind.answer (w.state n) u ∷ [])) (w.answers n) in
    record {
      held = acts_hold nodes v (Applies n) most held may;
      state =
          λ m lt. two {X = S} w.state v.actor n (kind.step (w.state n) u) (applies a) (λ s x. s ≡ state_after kind v.log.entry x.applied)
          m
          (more_state kind v.log.entry (w.state n) u a.applied state entry) (stated.state m lt);
      answers = λ m lt. two {X = List A} w.answers v.actor n answers (applies a)
          (λ xs x. Answered kind v.log.entry x.applied (length x.batch) x.standing xs) m
          (more_answers kind v.log.entry (w.state n) u a.applied (length a.batch) a.standing (w.answers n) state entry
          (stated.answers n may.0)) (stated.answers m lt);
      readers = stated.readers;
      replies = all_more kind v (acted v (Applies n)) w.replies (same_log v.log) stated.replies;
    } where
      two : {X : Type 0} (f : ℕ → X) (g : ℕ → Actor) (n : ℕ) (x : X) (b : Actor) (P : X → Actor → Type 0) (m : ℕ) → P x b → P (f m) (g m)
          → P (with_at f n x m) (with_at g n b m)
      two {X} f g n x b P m one other = by_test (m == n) where
        by_test : (t : Bool) → P (cond t x (f m)) (cond t b (g m))
        by_test true = one
        by_test false = other

-- a call that begins or ends at a node leaves its state, and begins with no answers
call_state : {S A : Type 0} (kind : Kind S A) (entries : ℕ → Update) (actor : ℕ → Actor) (n : ℕ) (b : Actor) (m : ℕ) (s : S)
    → b.applied ≡ (actor n).applied
    → s ≡ state_after kind entries (actor m).applied → s ≡ state_after kind entries (with_at actor n b m).applied
call_state {S} {A} kind entries actor n b m s same is = at_cases (λ x. s ≡ state_after kind entries x.applied) actor n b m
    (λ e. is ∙ ap (state_after kind entries) (ap (λ (k : ℕ). (actor k).applied) e ∙ sym same)) (λ apart. is)

call_answers : {S A : Type 0} (kind : Kind S A) (entries : ℕ → Update) (actor : ℕ → Actor) (n : ℕ) (b : Actor) (m : ℕ) (answers : ℕ
    → List A) → b.standing ≡ None
    → Answered kind entries (actor m).applied (length (actor m).batch) (actor m).standing (answers m)
    → Answered kind entries (with_at actor n b m).applied (length (with_at actor n b m).batch) (with_at actor n b m).standing
    (with_at answers n [] m)
call_answers {S} {A} kind entries actor n b m answers none is = by_test (m == n) where
  by_test : (t : Bool) → Answered kind entries (cond t b (actor m)).applied (length (cond t b (actor m)).batch)
      (cond t b (actor m)).standing (cond t [] (answers m))
  by_test true = subst (λ (s : Option ℕ). Answered kind entries b.applied (length b.batch) s []) (sym none) refl
  by_test false = is

pub acts_state : {S A : Type 0} (nodes : ℕ) (kind : Kind S A) (w : Nodes S A) (act : Act) → nodes ≤ 64 → IsStated nodes kind w
    → MayAct nodes w.world act → IsStated nodes kind (followed kind w act)
acts_state {S} {A} nodes kind w (Does n operation) most stated may = does_state nodes kind w n operation most stated may
acts_state {S} {A} nodes kind w (Applies n) most stated may = applies_state nodes kind w n most stated may
acts_state {S} {A} nodes kind w (Begins n batch) most stated may = record {
  held = acts_hold nodes w.world (Begins n batch) most stated.held may;
  state = λ m lt. call_state kind w.world.log.entry w.world.actor n (begins (w.world.actor n) batch) m (w.state m) refl (stated.state m lt);
  answers =
      λ m lt. call_answers kind w.world.log.entry w.world.actor n (begins (w.world.actor n) batch) m w.answers refl (stated.answers m lt);
  readers = stated.readers;
  replies = all_more kind w.world (acted w.world (Begins n batch)) w.replies (same_log w.world.log) stated.replies;
}
acts_state {S} {A} nodes kind w (Ends n) most stated may = record {
  held = acts_hold nodes w.world (Ends n) most stated.held may;
  state = λ m lt. call_state kind w.world.log.entry w.world.actor n (ends (w.world.actor n)) m (w.state m) refl (stated.state m lt);
  answers = λ m lt. call_answers kind w.world.log.entry w.world.actor n (ends (w.world.actor n)) m w.answers refl (stated.answers m lt);
  readers = stated.readers;
  replies = all_more kind w.world (acted w.world (Ends n)) _ (same_log w.world.log)
      (reply_right kind w.world n (w.world.call n) (w.world.actor n).applied (w.world.actor n).published (w.world.actor n).batch
      (w.world.actor n).standing (w.answers n) w.replies
      (stated.held.stands n) (stated.answers n may.0) may.1 stated.replies);
}
acts_state {S} {A} nodes kind w (ReadBegins n) most stated may = record {
  held = acts_hold nodes w.world (ReadBegins n) most stated.held may;
  state = stated.state;
  answers = stated.answers;
  readers = λ c. at_cases (λ x. x.waits ≡ true → x.node < nodes) w.world.read w.world.calls
      (record { waits = true; node = n; loaded = w.world.words.completed }) c
      (λ e waits. may) (λ e. stated.readers c);
  replies = all_more kind w.world (acted w.world (ReadBegins n)) w.replies (same_log w.world.log) stated.replies;
}
acts_state {S} {A} nodes kind w (ReadEnds c) most stated may =
    let n = (w.world.read c).node in
    let lt = stated.readers c may.0 in
    record {
      held = acts_hold nodes w.world (ReadEnds c) most stated.held may;
      state = stated.state;
      answers = stated.answers;
      readers = λ d. at_cases (λ x. x.waits ≡ true → x.node < nodes) w.world.read c
          (record { waits = false; node = n; loaded = (w.world.read c).loaded }) d
          (λ e waits. absurd (cc)) (λ e. stated.readers d);
      replies = all_more kind w.world (acted w.world (ReadEnds c)) (Saw c (w.world.actor n).applied (w.state n) ∷ w.replies)
          (same_log w.world.log)
          ((applied_below nodes w.world n stated.held lt, stated.state n lt), stated.replies);
    }

one_world : {S A : Type 0} (kind : Kind S A) (w : Nodes S A) (act : Act) → (followed kind w act).world ≡ acted w.world act
one_world {S} {A} kind w (Begins n batch) = refl
one_world {S} {A} kind w (Does n operation) = refl
one_world {S} {A} kind w (Applies n) = refl
one_world {S} {A} kind w (Ends n) = refl
one_world {S} {A} kind w (ReadBegins n) = refl
one_world {S} {A} kind w (ReadEnds c) = refl

pub same_world : {S A : Type 0} (kind : Kind S A) (w : Nodes S A) (acts : List Act) → (run kind w acts).world ≡ played w.world acts
same_world {S} {A} kind w [] = refl
same_world {S} {A} kind w (act ∷ acts) =
    same_world kind (followed kind w act) acts ∙ ap (λ (v : World). played v acts) (one_world kind w act)

schedules_state : {S A : Type 0} (nodes : ℕ) (kind : Kind S A) (w : Nodes S A) (acts : List Act) → nodes ≤ 64 → IsStated nodes kind w
    → Plays nodes w.world acts → IsStated nodes kind (run kind w acts)
schedules_state {S} {A} nodes kind w [] most stated plays = stated
schedules_state {S} {A} nodes kind w (act ∷ acts) most stated plays =
    schedules_state nodes kind (followed kind w act) acts most (acts_state nodes kind w act most stated plays.0)
    (subst (λ v. Plays nodes v acts) (sym (one_world kind w act)) plays.1)

pub first_stated : {S A : Type 0} (nodes : ℕ) (kind : Kind S A) → IsStated nodes kind (at_first nodes kind)
first_stated {S} {A} nodes kind = record {
  held = opening_held nodes;
  state = λ n lt. refl;
  answers = λ n lt. refl;
  readers = λ c waits. absurd (cc);
  replies = tt;
}

pub all_stated : {S A : Type 0} (nodes : ℕ) (kind : Kind S A) (acts : List Act) → nodes ≤ 64 → Plays nodes (opening nodes) acts
    → IsStated nodes kind (run kind (at_first nodes kind) acts)
all_stated {S} {A} nodes kind acts most plays = schedules_state nodes kind (at_first nodes kind) acts most (first_stated nodes kind) plays

pub all_follow : {S A : Type 0} (nodes : ℕ) (kind : Kind S A) (acts : List Act) → nodes ≤ 64 → Plays nodes (opening nodes) acts
    → StatesFollow nodes kind (run kind (at_first nodes kind) acts)
all_follow {S} {A} nodes kind acts most plays = (all_stated nodes kind acts most plays).state

pub all_right : {S A : Type 0} (nodes : ℕ) (kind : Kind S A) (acts : List Act) → nodes ≤ 64 → Plays nodes (opening nodes) acts
    → AllRight kind (run kind (at_first nodes kind) acts).world (run kind (at_first nodes kind) acts).replies
all_right {S} {A} nodes kind acts most plays = (all_stated nodes kind acts most plays).replies

-- the replies are those of the ends
end_more : {S A : Type 0} (standing : Option ℕ) (call : ℕ) (batch : List Update) (answers : List A) (events : List Event)
    (replies : List (Reply S A))
    → ends_among events ≡ ends_of replies
    → ends_among (with_end standing call (length batch) events) ≡ ends_of (with_reply standing call batch answers replies)
end_more {S} {A} None call batch answers events replies is = is
end_more {S} {A} (Some first) call batch answers events replies is =
    ap (λ (es : List Event). Ended call first (first + length batch) ∷ es) is

ends_step : {S A : Type 0} (kind : Kind S A) (w : Nodes S A) (act : Act) → ends_among w.world.events ≡ ends_of w.replies
    → ends_among (followed kind w act).world.events ≡ ends_of (followed kind w act).replies
ends_step {S} {A} kind w (Begins n batch) is = is
ends_step {S} {A} kind w (Does n operation) is = is
ends_step {S} {A} kind w (Applies n) is = is
ends_step {S} {A} kind w (Ends n) is =
    end_more (w.world.actor n).standing (w.world.call n) (w.world.actor n).batch (w.answers n) w.world.events w.replies is
ends_step {S} {A} kind w (ReadBegins n) is = is
ends_step {S} {A} kind w (ReadEnds c) is =
    let applied = (w.world.actor (w.world.read c).node).applied in ap (λ (es : List Event). Ended c applied applied ∷ es) is

ends_run : {S A : Type 0} (kind : Kind S A) (w : Nodes S A) (acts : List Act) → ends_among w.world.events ≡ ends_of w.replies
    → ends_among (run kind w acts).world.events ≡ ends_of (run kind w acts).replies
ends_run {S} {A} kind w [] is = is
ends_run {S} {A} kind w (act ∷ acts) is = ends_run kind (followed kind w act) acts (ends_step kind w act is)

pub all_ends : {S A : Type 0} (nodes : ℕ) (kind : Kind S A) (acts : List Act)
    → ends_among (run kind (at_first nodes kind) acts).world.events ≡ ends_of (run kind (at_first nodes kind) acts).replies
all_ends {S} {A} nodes kind acts = ends_run kind (at_first nodes kind) acts refl
