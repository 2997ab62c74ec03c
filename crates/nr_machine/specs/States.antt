-- What entries mean is a parameter: each node keeps a state of any kind, which entries change, and an update's answers come from it.
use Rattle.std.specs.Prelude.{◌≡◌, ℕ, zero, suc, ◌+◌, ◌<◌, ◌≤◌, if◌then◌else◌, Option, Some, None, List, [], ◌∷◌, ◌++◌, length, ⊤}
use Rattle.nr_machine.specs.declared.words.Operation.{Operation}
use Rattle.nr_machine.specs.declared.words.Update.{Update}
use Rattle.nr_machine.specs.Words.{with_at}
use Rattle.nr_machine.specs.Actor.{Actor, is_own, update_at}
use Rattle.nr_machine.specs.World.{Act, Event, World, acted, opening}
use Rattle.nr_machine.specs.World.Act.{Begins, Does, Applies, Ends, ReadBegins, ReadEnds}
use Rattle.nr_machine.specs.World.Event.{Began, Ended}

-- a kind of state: what an entry makes of it, what it answers to the entry, and where it begins
pub record Kind (State Answer : Type 0) : Type 0 where
  pub step : State → Update → State
  pub answer : State → Update → Answer
  pub initial : State

-- the state after so many entries
abbrev pub state_after : {State Answer : Type 0} → Kind State Answer → (ℕ → Update) → ℕ → State
state_after kind entries zero = kind.initial
state_after kind entries (suc count) = kind.step (state_after kind entries count) (entries count)

-- the answers to so many entries from a place on, each after all entries before it
abbrev pub answers_from : {State Answer : Type 0} → Kind State Answer → (ℕ → Update) → ℕ → ℕ → List Answer
answers_from kind entries first zero = []
answers_from kind entries first (suc count) =
    answers_from kind entries first count ++ (kind.answer (state_after kind entries (first + count)) (entries (first + count)) ∷ [])

-- what a call that ended gave its caller: of an update the answers, of a read how many entries its node had applied, and its state
pub data Reply (State Answer : Type 0) : Type 0 where
  Updated : (call first : ℕ) → (batch : List Update) → (answers : List Answer) → Reply State Answer
  Saw : (call count : ℕ) → (state : State) → Reply State Answer

-- the world, of each node its state and the answers to the updates of its call so far, and the replies, the latest first
pub record Nodes (State Answer : Type 0) : Type 0 where
  pub world : World
  pub state : ℕ → State
  pub answers : ℕ → List Answer
  pub replies : List (Reply State Answer)

-- the replies with that of a call whose updates are in the log
abbrev pub with_reply : {State Answer : Type 0} → Option ℕ → ℕ → List Update → List Answer → List (Reply State Answer) → List (Reply State Answer)
with_reply None call batch answers replies = replies
with_reply (Some first) call batch answers replies = Updated call first batch answers ∷ replies

-- a node that applies an entry makes its state the next one, and keeps the answer if the entry is one of its own
abbrev pub followed : {State Answer : Type 0} → Kind State Answer → Nodes State Answer → Act → Nodes State Answer
followed kind w (Begins n batch) = record w { world = acted w.world (Begins n batch); answers = with_at w.answers n [] }
followed kind w (Does n operation) = record w { world = acted w.world (Does n operation) }
followed kind w (Applies n) =
    let a = w.world.actor n in
    let entry = update_at a.got 0 in
    record w {
      world = acted w.world (Applies n);
      state = with_at w.state n (kind.step (w.state n) entry);
      answers = with_at w.answers n
          (if is_own a then w.answers n ++ (kind.answer (w.state n) entry ∷ []) else w.answers n);
    }
followed kind w (Ends n) =
    let a = w.world.actor n in
    record w {
      world = acted w.world (Ends n);
      answers = with_at w.answers n [];
      replies = with_reply a.standing (w.world.call n) a.batch (w.answers n) w.replies;
    }
followed kind w (ReadBegins n) = record w { world = acted w.world (ReadBegins n) }
followed kind w (ReadEnds c) =
    let n = (w.world.read c).node in
    record w { world = acted w.world (ReadEnds c); replies = Saw c (w.world.actor n).applied (w.state n) ∷ w.replies }

-- the nodes after the steps of a schedule
abbrev pub run : {State Answer : Type 0} → Kind State Answer → Nodes State Answer → List Act → Nodes State Answer
run kind w [] = w
run kind w (act ∷ acts) = run kind (followed kind w act) acts

-- the nodes before the first step
abbrev pub at_first : {State Answer : Type 0} → ℕ → Kind State Answer → Nodes State Answer
at_first nodes kind = record { world = opening nodes; state = λ n. kind.initial; answers = λ n. []; replies = [] }

-- each node's state is that after the beginning of the one log that it has applied
abbrev pub StatesFollow : {State Answer : Type 0} → ℕ → Kind State Answer → Nodes State Answer → Type 0
StatesFollow nodes kind w = (n : ℕ) → n < nodes → w.state n ≡ state_after kind w.world.log.entry (w.world.actor n).applied

-- the updates of a call are at its places, which are no other call's, and the answers are those there; a read saw the state after as many
-- entries as it reports
abbrev pub IsRight : {State Answer : Type 0} → Kind State Answer → World → Reply State Answer → Type 0
IsRight kind w (Updated call first batch answers) = (first + length batch ≤ w.log.tail)
    × (answers ≡ answers_from kind w.log.entry first (length batch))
    × ((i : ℕ) → i < length batch → (w.log.call (first + i) ≡ call) × (w.log.entry (first + i) ≡ update_at batch i))
IsRight kind w (Saw call count state) = (count ≤ w.log.tail) × (state ≡ state_after kind w.log.entry count)

-- each reply is right
abbrev pub AllRight : {State Answer : Type 0} → Kind State Answer → World → List (Reply State Answer) → Type 0
AllRight kind w [] = ⊤
AllRight kind w (reply ∷ replies) = IsRight kind w reply × AllRight kind w replies

-- the ends among the events, and those that go with the replies
abbrev pub ends_among : List Event → List Event
ends_among [] = []
ends_among (Began call ∷ events) = ends_among events
ends_among (Ended call position reach ∷ events) = Ended call position reach ∷ ends_among events

-- the ends of the calls that have a reply
abbrev pub ends_of : {State Answer : Type 0} → List (Reply State Answer) → List Event
ends_of [] = []
ends_of (Updated call first batch answers ∷ replies) = Ended call first (first + length batch) ∷ ends_of replies
ends_of (Saw call count state ∷ replies) = Ended call count count ∷ ends_of replies
