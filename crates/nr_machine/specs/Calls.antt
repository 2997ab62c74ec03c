-- Calls of machines, and the schedule that they make. A machine is given something and is then another one, as its calls' clauses say.
use Rattle.std.specs.Prelude.{◌≡◌, ℕ, ◌+◌, ◌^◌, ◌<◌, ◌≤◌, if◌then◌else◌, Bool, true, false, List, [], ◌∷◌, ◌++◌, ⊤}
use Rattle.nr_machine.specs.declared.asked.Asked.{Asked}
use Rattle.nr_machine.specs.declared.asked.Asked.TheVariants.{Carry, Apply, Lags, Done, Broken}
use Rattle.nr_machine.specs.declared.asked.Reply.{Reply}
use Rattle.nr_machine.specs.declared.node.Node.{Node}
use Rattle.nr_machine.specs.declared.words.Operation.TheVariants.{Load}
use Rattle.nr_machine.specs.declared.words.Update.{Update}
use Rattle.nr_machine.specs.declared.words.Word.TheVariants.{Head}
use Rattle.nr_machine.specs.Actor.{Actor, MayBegin, applies, begins, ends, learned, new_actor}
use Rattle.nr_machine.specs.Machine.{IsFit, MayAsk, actor_of, asked_by}
use Rattle.nr_machine.specs.Words.{told_by, with_at}
use Rattle.nr_machine.specs.World.{Act, World, opening, played}
use Rattle.nr_machine.specs.World.Act.{Begins, Does, Applies, Ends, ReadBegins, ReadEnds}

-- what a call gives a machine: updates to append, how many entries its node is to have, or the reply to an entry. Or it is what the
-- word was before the operation that it asked for, or any value where a node lags
pub data Given : Type 0 where
  Updates : (updates : List Update) → Given
  Wanted : (at_least : ℕ) → Given
  Value : (value : ℕ) → Given
  Replied : (reply : Reply) → Given

-- what a machine makes of a value, by what it asked for. The value is one that the operation can give
abbrev pub Learns : Asked → Node → ℕ → Node → Type 0
Learns (Carry operation) old value new = IsFit old.nodes (actor_of old) operation value
    → (actor_of new ≡ learned old.number (actor_of old) operation value) × (asked_by new ≡ Broken → ⊥)
Learns (Lags node) old value new = (actor_of new ≡ actor_of old) × (asked_by new ≡ Carry (Load Head))
Learns asked old value new = new ≡ old

-- what a machine makes of a reply, by what it asked for
abbrev pub Counts : Asked → Node → Node → Type 0
Counts (Apply update) old new = actor_of new ≡ applies (actor_of old)
Counts asked old new = new ≡ old

-- what a machine makes of what it is given. A call begins where the one before is over
abbrev pub Makes : Node → Given → Node → Type 0
Makes old (Updates updates) new = (asked_by old ≡ Done) × MayBegin (ends (actor_of old)) updates
    × (actor_of new ≡ begins (ends (actor_of old)) updates) × (asked_by new ≡ Carry (Load Head))
Makes old (Wanted at_least) new = (asked_by old ≡ Done) × (actor_of new ≡ ends (actor_of old))
Makes old (Value value) new = Learns (asked_by old) old value new
Makes old (Replied reply) new = Counts (asked_by old) old new

-- a call makes of a machine another one of its node, and what that one asks for may be done
pub record IsCall (old : Node) (given : Given) (new : Node) : Type 0 where
  pub nodes : new.nodes ≡ old.nodes
  pub number : new.number ≡ old.number
  pub may : MayAsk new.nodes new.number (actor_of new) (asked_by new)
  pub makes : Makes old given new

-- what callers do. The machine of a node is given something, and is this one then; a read begins at a node; and the one of a call ends there
pub data Move : Type 0 where
  Gives : (node : ℕ) → (given : Given) → (after : Node) → Move
  BeginsRead : (node : ℕ) → Move
  EndsRead : (node call : ℕ) → Move

-- the world, and the machine of each node
pub record Machines : Type 0 where
  pub world : World
  pub machine : ℕ → Node

-- whether a machine's call is over
abbrev pub is_over : Asked → Bool
is_over Done = true
is_over asked = false

-- the step that a call begins or goes on with
abbrev pub step_of : ℕ → Asked → Given → List Act
step_of n asked (Updates updates) = Begins n updates ∷ []
step_of n (Carry operation) (Value value) = Does n operation ∷ []
step_of n (Apply update) (Replied reply) = Applies n ∷ []
step_of n asked given = []

-- its end, where it was not over before and is now
abbrev pub end_of : ℕ → Asked → Asked → List Act
end_of n before after = if is_over before then [] else if is_over after then Ends n ∷ [] else []

-- the steps of a schedule that a move makes
abbrev pub steps_of : Machines → Move → List Act
steps_of m (Gives n given after) = step_of n (asked_by (m.machine n)) given ++ end_of n (asked_by (m.machine n)) (asked_by after)
steps_of m (BeginsRead n) = ReadBegins n ∷ []
steps_of m (EndsRead n call) = ReadEnds call ∷ []

-- a value is what the operation that was asked for gives, in a log that is far from its end
abbrev pub IsTold : World → Asked → Given → Type 0
IsTold w (Carry operation) (Value value) = (value ≡ told_by w.words operation) × (w.log.tail + 16 < 2 ^ 57)
IsTold w asked given = ⊤

-- what is asked of a move. A read ends at its node while no call is open there, where the node has applied what the read loaded
abbrev pub MayMove : ℕ → Machines → Move → Type 0
MayMove nodes m (Gives n given after) =
    (n < nodes) × IsCall (m.machine n) given after × IsTold m.world (asked_by (m.machine n)) given
MayMove nodes m (BeginsRead n) = n < nodes
MayMove nodes m (EndsRead n call) = (n < nodes) × ((m.world.read call).node ≡ n) × ((m.world.read call).waits ≡ true)
    × (asked_by (m.machine n) ≡ Done) × ((m.world.read call).loaded ≤ (m.machine n).applied)

-- the machines after a move
abbrev pub machines_after : (ℕ → Node) → Move → ℕ → Node
machines_after machine (Gives n given after) = with_at machine n after
machines_after machine move = machine

-- the world and the machines after a move
abbrev pub moved : Machines → Move → Machines
moved m move = record { world = played m.world (steps_of m move); machine = machines_after m.machine move }

-- each move may be made where it is
abbrev pub MayMoveAll : ℕ → Machines → List Move → Type 0
MayMoveAll nodes m [] = ⊤
MayMoveAll nodes m (move ∷ moves) = MayMove nodes m move × MayMoveAll nodes (moved m move) moves

-- the world and the machines after all moves
abbrev pub moved_all : Machines → List Move → Machines
moved_all m [] = m
moved_all m (move ∷ moves) = moved_all (moved m move) moves

-- the steps that all moves make
abbrev pub schedule_of : Machines → List Move → List Act
schedule_of m [] = []
schedule_of m (move ∷ moves) = steps_of m move ++ schedule_of (moved m move) moves

-- a machine that `Node::new` made, of this node
pub record IsNew (nodes n : ℕ) (machine : Node) : Type 0 where
  pub all : machine.nodes ≡ nodes
  pub number : machine.number ≡ n
  pub over : asked_by machine ≡ Done
  pub actor : actor_of machine ≡ new_actor nodes

-- new machines, before the first move
abbrev pub at_start : ℕ → (ℕ → Node) → Machines
at_start nodes machine = record { world = opening nodes; machine = machine }

-- who works at a machine's node: once its call is over, it has ended that
abbrev pub worker_of : Node → Actor
worker_of machine = if is_over (asked_by machine) then ends (actor_of machine) else actor_of machine
