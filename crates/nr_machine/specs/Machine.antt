-- Which one at its node a machine is, and what it asks for.
use Rattle.std.specs.Prelude.{◌≡◌, ℕ, ◌+◌, ◌-◌, ◌*◌, ◌/◌, ◌%◌, ◌^◌, ◌<◌, ◌≤◌, ◌⊎◌, nat_lt, Bool, true, false, if◌then◌else◌, Option, Some, None, List, [], length, reverse, nat_eq, not, ⊤}
use Rattle.std.specs.List.{list_all}
use Rattle.nr_machine.specs.declared.asked.Asked.{Asked}
use Rattle.nr_machine.specs.declared.asked.Asked.TheVariants.{Carry, Apply, Lags, Done, Broken}
use Rattle.nr_machine.specs.declared.asked.Refusal.{Refusal}
use Rattle.nr_machine.specs.declared.asked.Refusal.TheVariants.{Busy, Empty, TooMany, TooLarge}
use Rattle.nr_machine.specs.declared.node.Node.{Node}
use Rattle.nr_machine.specs.declared.phase.Phase.{Phase}
use Rattle.nr_machine.specs.declared.phase.Phase.TheVariants as phases
use Rattle.nr_machine.specs.declared.words.Operation.{Operation}
use Rattle.nr_machine.specs.declared.words.Operation.TheVariants.{Load, Store, Exchange, Max}
use Rattle.nr_machine.specs.declared.words.Word.{Word}
use Rattle.nr_machine.specs.declared.words.Word.TheVariants as words
use Rattle.nr_machine.specs.declared.words.Update.{Update}
use Rattle.nr_machine.specs.Fields.{batch_of, got_of, half_of, phase_of, standing_of}
use Rattle.nr_machine.specs.Words.{packed}
use Rattle.nr_machine.specs.Actor.{Actor, MayApply, MayDo, MayEnd, link_of, update_at}

-- the one who works at its node. The machine has the entries that it got in the order in which it got them, the last first
abbrev pub actor_of : Node → Actor
actor_of node = record {
  taken = node.taken;
  applied = node.applied;
  published = node.published;
  asked = node.asked;
  least = node.least;
  batch = batch_of node;
  standing = standing_of node;
  seen = node.seen;
  last = node.last;
  firsts = node.firsts;
  seconds = node.seconds;
  from = node.from;
  ring = node.ring;
  half = half_of node;
  got = reverse (got_of node);
}

-- the stores of the words of its next update, ahead of the tail, and the exchange of the head
abbrev pub first_store_of : Node → Operation
first_store_of node = Store (words.First node.number ((node.seen + node.firsts) % 16)) (update_at (batch_of node) node.firsts).first

-- the store of the second word of its next update
abbrev pub second_store_of : Node → Operation
second_store_of node = Store (words.Second node.number ((node.seen + node.seconds) % 16))
    (packed (update_at (batch_of node) node.seconds).second (link_of node.number (actor_of node) node.seconds))

-- the exchange of the head that appends its updates
abbrev pub exchange_of : Node → Operation
exchange_of node =
    Exchange words.Head (packed node.seen node.last) (packed (node.seen + length (batch_of node)) node.number)

-- what a machine asks for in each phase
abbrev pub asked_in : Phase → Node → Asked
asked_in phases.Rest node = Done
asked_in phases.Looks node = Carry (Load words.Head)
asked_in phases.Scans node = Carry (Load (words.Local node.next))
asked_in phases.Lags node = Lags node.next
asked_in phases.StoresFirst node = Carry (first_store_of node)
asked_in phases.StoresSecond node = Carry (second_store_of node)
asked_in phases.Swaps node = Carry (exchange_of node)
asked_in phases.LoadsFirst node = Carry (Load (words.First node.ring ((node.from - 1) % 16)))
asked_in phases.LoadsSecond node = Carry (Load (words.Second node.ring ((node.from - 1) % 16)))
asked_in phases.Raises node = Carry (Store (words.Local node.number) node.seen)
asked_in phases.Applies node = Apply (update_at (actor_of node).got 0)
asked_in phases.Flushes node = Carry (Store (words.Done node.number) node.applied)
asked_in phases.Checks node = Carry (Load words.Completed)
asked_in phases.Publishes node = Carry (Max words.Completed node.taken)
asked_in phases.Broken node = Broken

-- what a machine asks for
abbrev pub asked_by : Node → Asked
asked_by node = asked_in (phase_of node) node

-- a word that nodes of this number have: its node is one of them, and its index is one of a ring
abbrev pub IsWordOf : ℕ → Word → Type 0
IsWordOf nodes words.Head = ⊤
IsWordOf nodes words.Completed = ⊤
IsWordOf nodes (words.Local r) = r < nodes
IsWordOf nodes (words.Done r) = r < nodes
IsWordOf nodes (words.First r i) = (r < nodes) × (i < 16)
IsWordOf nodes (words.Second r i) = (r < nodes) × (i < 16)

-- the word of an operation
abbrev pub word_of : Operation → Word
word_of (Load word) = word
word_of (Store word value) = word
word_of (Exchange word old new) = word
word_of (Max word value) = word

-- what is asked for is a step of the schedule: an operation that may be done, on a word that there is, the next entry, or the end of the
-- call. At the end all updates and entries of the call are completed. A node is said to lag if it is the last one that was asked how many entries it has taken,
-- and those that were asked have taken fewer than the updates of the call need
abbrev pub MayAsk : ℕ → ℕ → Actor → Asked → Type 0
MayAsk nodes n a (Carry operation) = MayDo nodes n a operation × IsWordOf nodes (word_of operation)
MayAsk nodes n a (Apply update) = MayApply a × (update ≡ update_at a.got 0)
MayAsk nodes n a (Lags r) = (r < nodes) × (a.asked ≡ r + 1) × (a.least + 16 < a.seen + length a.batch)
MayAsk nodes n a Done = MayEnd a × (a.applied ≡ a.taken) × (a.applied ≤ a.published)
MayAsk nodes n a Broken = ⊤

-- a head that a schedule can have, far from the end of the numbers: no less than it saw, and at most a ring past what its node has taken
abbrev pub IsHead : ℕ → Actor → ℕ → Type 0
IsHead nodes a head = (head % 128 < nodes) × (a.seen ≤ head / 128) × (head / 128 ≤ a.taken + 16) × (head / 128 + 16 < 2 ^ 57)

-- a value that an operation of a schedule can give: an exchange is lost only where another node has appended
abbrev pub IsFit : ℕ → Actor → Operation → ℕ → Type 0
IsFit nodes a (Load words.Head) value = IsHead nodes a value
IsFit nodes a (Load (words.Second r i)) value = value % 128 < nodes
IsFit nodes a (Exchange word old new) value = (value ≡ old) ⊎ (IsHead nodes a value × (a.seen < value / 128))
IsFit nodes a operation value = ⊤

-- whether no call is under way
abbrev pub is_at_rest : Phase → Bool
is_at_rest phases.Rest = true
is_at_rest phase = false

-- the first reason why a call that appends these updates is refused
abbrev pub refusal_of : Node → List Update → Option Refusal
refusal_of node updates =
    if not (is_at_rest (phase_of node)) then Some Busy
    else if nat_eq (length updates) 0 then Some Empty
    else if nat_lt 16 (length updates) then Some TooMany
    else if list_all (λ (update : Update). nat_lt update.second (2 ^ 57)) updates then None
    else Some TooLarge
