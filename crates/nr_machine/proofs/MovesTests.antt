-- Tests of what is asked of calls of machines. They compute, but for what a machine becomes.
use Rattle.std.proofs.Common.{◌≡◌, ℕ, ◌+◌, ◌^◌, Bool, true, false, List, [], ◌∷◌, length, refl, ap, subst, ◌∙◌}
use Rattle.std.specs.Prelude.{⊤}
use Rattle.nr_machine.specs.declared.asked.Asked.{Asked}
use Rattle.nr_machine.specs.declared.asked.Asked.TheVariants.{Carry, Apply, Lags, Done, Broken}
use Rattle.nr_machine.specs.declared.asked.Reply.{Reply}
use Rattle.nr_machine.specs.declared.node.Node.{Node}
use Rattle.nr_machine.specs.declared.words.Operation.TheVariants.{Load}
use Rattle.nr_machine.specs.declared.words.Update.{Update}
use Rattle.nr_machine.specs.declared.words.Word.{Word}
use Rattle.nr_machine.specs.declared.words.Word.TheVariants as words
use Rattle.nr_machine.specs.Actor.{Actor, applies, begins, ends, learned, update_at}
use Rattle.nr_machine.specs.Calls.{Counts, Given, IsTold, Learns, Machines, Makes, MayMove, MayMoveAll, Move, moved}
use Rattle.nr_machine.specs.Calls.Given.{Updates, Wanted, Value, Replied}
use Rattle.nr_machine.specs.Calls.Move.{Gives, BeginsRead, EndsRead}
use Rattle.nr_machine.specs.Machine.{IsWordOf, MayAsk, actor_of, asked_by, word_of}
use Rattle.nr_machine.specs.Words.{told_by}
use Rattle.nr_machine.specs.World.{World}
use Rattle.nr_machine.proofs.Tests.{Test, below, both, fits, four, may_apply, may_begin, may_do, never, none_true, same, three, yes}

abbrev pub same_update : (u v : Update) → Test (u ≡ v)
same_update u v =
    fits (λ p. ap (λ (x : ℕ). record { first = x; second = u.second }) p.0 ∙ ap (λ (y : ℕ). record { first = v.first; second = y }) p.1)
    (both (same u.first v.first) (same u.second v.second))

abbrev is_word : (nodes : ℕ) (word : Word) → Test (IsWordOf nodes word)
is_word nodes words.Head = yes
is_word nodes words.Completed = yes
is_word nodes (words.Local r) = below r nodes
is_word nodes (words.Done r) = below r nodes
is_word nodes (words.First r i) = both (below r nodes) (below i 16)
is_word nodes (words.Second r i) = both (below r nodes) (below i 16)

abbrev may_ask : (nodes n : ℕ) (a : Actor) (asked : Asked) → Test (MayAsk nodes n a asked)
may_ask nodes n a (Carry operation) = both (may_do nodes n a operation) (is_word nodes (word_of operation))
may_ask nodes n a (Apply update) = both (may_apply a) (same_update update (update_at a.got 0))
may_ask nodes n a (Lags r) = three (below r nodes) (same a.asked (r + 1)) (below (a.least + 16) (a.seen + length a.batch))
may_ask nodes n a asked = never

-- who works at the node once its machine was given something
abbrev becomes : Asked → Node → Given → Actor
becomes asked old (Updates updates) = begins (ends (actor_of old)) updates
becomes (Carry operation) old (Value value) = learned old.number (actor_of old) operation value
becomes (Apply update) old (Replied reply) = applies (actor_of old)
becomes asked old given = actor_of old

abbrev works : Asked → Bool
works Broken = false
works asked = true

pub works_true : (asked : Asked) → works asked ≡ true → asked ≡ Broken → ⊥
works_true asked e is = none_true (subst (λ (q : Asked). works q ≡ true) is e)

abbrev looks : (asked : Asked) → Test (asked ≡ Carry (Load words.Head))
looks (Carry (Load words.Head)) = record { value = true; sound = λ e. refl }
looks asked = never

abbrev rests : (asked : Asked) → Test (asked ≡ Done)
rests Done = record { value = true; sound = λ e. refl }
rests asked = never

abbrev learns : (asked : Asked) (old : Node) (value : ℕ) (new : Node) → actor_of new ≡ becomes asked old (Value value)
    → Test (Learns asked old value new)
learns (Carry operation) old value new is =
    record { value = works (asked_by new); sound = λ e fit. (is, works_true (asked_by new) e) }
learns (Lags r) old value new is = fits (λ same. (is, same)) (looks (asked_by new))
learns asked old value new is = never

abbrev counts : (asked : Asked) (old : Node) (reply : Reply) (new : Node) → actor_of new ≡ becomes asked old (Replied reply)
    → Test (Counts asked old new)
counts (Apply update) old reply new is = record { value = true; sound = λ e. is }
counts asked old reply new is = never

abbrev makes : (old : Node) (given : Given) (new : Node) → actor_of new ≡ becomes (asked_by old) old given → Test (Makes old given new)
makes old (Updates updates) new is = fits (λ p. (p.0, p.1, is, p.2))
    (three (rests (asked_by old)) (may_begin (ends (actor_of old)) updates) (looks (asked_by new)))
makes old (Wanted at_least) new is = never
makes old (Value value) new is = learns (asked_by old) old value new is
makes old (Replied reply) new is = counts (asked_by old) old reply new is

abbrev told : (w : World) (asked : Asked) (given : Given) → Test (IsTold w asked given)
told w (Carry operation) (Value value) = both (same value (told_by w.words operation)) (below (w.log.tail + 16) (2 ^ 57))
told w asked given = yes

abbrev IsMade : Machines → Move → Type 0
IsMade m (Gives n given after) = actor_of after ≡ becomes (asked_by (m.machine n)) (m.machine n) given
IsMade m move = ⊤

abbrev may_move : (nodes : ℕ) (m : Machines) (move : Move) → IsMade m move → Test (MayMove nodes m move)
may_move nodes m (Gives n given after) is = let old = m.machine n in three (below n nodes)
    (fits (λ p. record { nodes = p.0; number = p.1; may = p.2; makes = p.3 })
    (four (same after.nodes old.nodes) (same after.number old.number) (may_ask after.nodes after.number (actor_of after) (asked_by after))
    (makes old given after is)))
    (told m.world (asked_by old) given)
may_move nodes m move is = never

abbrev pub AreMade : Machines → List Move → Type 0
AreMade m [] = ⊤
AreMade m (move ∷ moves) = IsMade m move × AreMade (moved m move) moves

-- each move may be made, where it makes of a machine what it becomes
abbrev pub may_move_all : (nodes : ℕ) (m : Machines) (moves : List Move) → AreMade m moves → Test (MayMoveAll nodes m moves)
may_move_all nodes m [] are = yes
may_move_all nodes m (move ∷ moves) are = both (may_move nodes m move are.0) (may_move_all nodes (moved m move) moves are.1)
