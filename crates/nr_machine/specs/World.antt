-- The words, the log that they represent, who works at each node, and the calls. A step is one atomic operation on one word, or one that
-- touches none of the words, whatever the other nodes do.
use Rattle.std.specs.Prelude.{◌≡◌, ℕ, ◌+◌, ◌-◌, ◌<◌, ◌≤◌, ◌==◌, nat_lt, if◌then◌else◌, Bool, true, false, Option, Some, None, List, [], ◌∷◌, ◌++◌, length, ⊤}
use Rattle.nr_machine.specs.declared.words.Operation.{Operation}
use Rattle.nr_machine.specs.declared.words.Operation.TheVariants.{Load, Store, Exchange, Max}
use Rattle.nr_machine.specs.declared.words.Update.{Update}
use Rattle.nr_machine.specs.Words.{Words, carried_out, loaded, told_by, with_at}
use Rattle.nr_machine.specs.Actor.{Actor, MayApply, MayBegin, MayDo, MayEnd, applies, begins, ends, learned, new_actor, no_update, update_at}

-- the log, which no word has as a whole: its length, and of each place the entry, its call, and the node that appended the entry before
pub record Log : Type 0 where
  pub tail : ℕ
  pub entry : ℕ → Update
  pub call : ℕ → ℕ
  pub link : ℕ → ℕ

-- the node that appended the entry at a place
abbrev pub maker : Log → ℕ → ℕ
maker log p = log.link (p + 1)

-- a call that reads: whether it waits, at which node, and what it loaded of `completed`
pub record Read : Type 0 where
  pub waits : Bool
  pub node : ℕ
  pub loaded : ℕ

-- what callers see: a call began; or it ended, at this position of the log, and this much of the log is in what it saw or did. The position
-- of an update is its first place, and it reaches past its last one; for a read both are the number of entries that it reports
pub data Event : Type 0 where
  Began : (call : ℕ) → Event
  Ended : (call position reach : ℕ) → Event

-- the words, the log, who works at each node; then the number of calls, the call at each node, what `completed` was as each call began, the
-- calls that read, and the events, the latest first
pub record World : Type 0 where
  pub words : Words
  pub log : Log
  pub actor : ℕ → Actor
  pub calls : ℕ
  pub call : ℕ → ℕ
  pub floor : ℕ → ℕ
  pub read : ℕ → Read
  pub events : List Event

-- the steps. At a node: a call with these updates begins; an operation; the next entry is applied; the call ends. A call that reads begins at
-- a node, by a load of `completed`, and it ends
pub data Act : Type 0 where
  Begins : (node : ℕ) → (batch : List Update) → Act
  Does : (node : ℕ) → (operation : Operation) → Act
  Applies : (node : ℕ) → Act
  Ends : (node : ℕ) → Act
  ReadBegins : (node : ℕ) → Act
  ReadEnds : (call : ℕ) → Act

-- a read ends where its node has applied what it loaded, and nobody could miss what it reports: as much is completed
abbrev pub MayEndRead : Read → Actor → Type 0
MayEndRead read a = (read.waits ≡ true) × (read.loaded ≤ a.applied) × (a.applied ≤ a.published)

-- what is asked of each step. Nothing is asked of the other nodes
abbrev pub MayAct : ℕ → World → Act → Type 0
MayAct nodes w (Begins n batch) = (n < nodes) × MayBegin (w.actor n) batch
MayAct nodes w (Does n operation) = (n < nodes) × MayDo nodes n (w.actor n) operation
MayAct nodes w (Applies n) = (n < nodes) × MayApply (w.actor n)
MayAct nodes w (Ends n) = (n < nodes) × MayEnd (w.actor n)
MayAct nodes w (ReadBegins n) = n < nodes
MayAct nodes w (ReadEnds c) = MayEndRead (w.read c) (w.actor (w.read c).node)

-- the log with a batch at its end
abbrev pub appended : Log → ℕ → ℕ → List Update → Log
appended log n call batch = record {
  tail = log.tail + length batch;
  entry = λ p. if nat_lt p log.tail then log.entry p else update_at batch (p - log.tail);
  call = λ p. if nat_lt p log.tail then log.call p else call;
  link = λ p. if nat_lt log.tail p then n else log.link p;
}

-- an exchange of the head that finds what it compares with appends, and nothing else does
abbrev pub log_after : World → ℕ → Operation → Log
log_after w n (Load word) = w.log
log_after w n (Store word value) = w.log
log_after w n (Exchange word old new) =
    if loaded w.words word == old then appended w.log n (w.call n) (w.actor n).batch else w.log
log_after w n (Max word value) = w.log

-- a call that begins takes the next number
abbrev pub call_begun : World → World
call_begun w = record w {
  calls = w.calls + 1;
  floor = with_at w.floor w.calls w.words.completed;
  events = Began w.calls ∷ w.events;
}

-- the events with the end of a call, if it has updates in the log
abbrev pub with_end : Option ℕ → ℕ → ℕ → List Event → List Event
with_end None call count events = events
with_end (Some first) call count events = Ended call first (first + count) ∷ events

-- the world after a step
abbrev pub acted : World → Act → World
acted w (Begins n batch) =
    record (call_begun w) { call = with_at w.call n w.calls; actor = with_at w.actor n (begins (w.actor n) batch) }
acted w (Does n operation) = record w {
  words = carried_out w.words operation;
  log = log_after w n operation;
  actor = with_at w.actor n (learned n (w.actor n) operation (told_by w.words operation));
}
acted w (Applies n) = record w { actor = with_at w.actor n (applies (w.actor n)) }
acted w (Ends n) = record w {
  actor = with_at w.actor n (ends (w.actor n));
  events = with_end (w.actor n).standing (w.call n) (length (w.actor n).batch) w.events;
}
acted w (ReadBegins n) =
    record (call_begun w) { read = with_at w.read w.calls (record { waits = true; node = n; loaded = w.words.completed }) }
acted w (ReadEnds c) =
    let read = w.read c in
    let applied = (w.actor read.node).applied in
    record w {
      read = with_at w.read c (record { waits = false; node = read.node; loaded = read.loaded });
      events = Ended c applied applied ∷ w.events;
    }

-- a schedule: each step may be taken where it is
abbrev pub Plays : ℕ → World → List Act → Type 0
Plays nodes w [] = ⊤
Plays nodes w (act ∷ acts) = MayAct nodes w act × Plays nodes (acted w act) acts

-- the world after the steps
abbrev pub played : World → List Act → World
played w [] = w
played w (act ∷ acts) = played (acted w act) acts

-- at the start all words are 0
abbrev pub opening : ℕ → World
opening nodes = record {
  words = record { head = 0; completed = 0; local = λ r. 0; done = λ r. 0; first = λ r i. 0; second = λ r i. 0 };
  log = record { tail = 0; entry = λ p. no_update; call = λ p. 0; link = λ p. 0 };
  actor = λ n. new_actor nodes;
  calls = 0;
  call = λ n. 0;
  floor = λ c. 0;
  read = λ c. record { waits = false; node = 0; loaded = 0 };
  events = [];
}
