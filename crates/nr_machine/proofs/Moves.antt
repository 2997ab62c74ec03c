-- Moves of callers make a schedule: each call's step may be taken, and after it who works at the node is its machine.
use Rattle.std.proofs.Common.{◌≡◌, ℕ, ◌+◌, ◌<◌, ◌≤◌, Bool, true, false, cond, List, [], ◌∷◌, ◌++◌, refl, ap, sym, subst, ◌∙◌, arith}
use Rattle.nr_machine.specs.declared.asked.Asked.{Asked}
use Rattle.nr_machine.specs.declared.asked.Asked.TheVariants.{Carry, Apply, Lags, Done, Broken}
use Rattle.nr_machine.specs.declared.node.Node.{Node}
use Rattle.nr_machine.specs.Actor.{Actor, MayBegin, applies, begins, ends, learned}
use Rattle.nr_machine.specs.Machine.{IsFit, MayAsk, actor_of, asked_by}
use Rattle.nr_machine.specs.Words.{told_by, with_at}
use Rattle.nr_machine.specs.World.{Act, MayAct, Plays, World, acted, opening, played}
use Rattle.nr_machine.specs.World.Act.{Begins, Does, Applies, Ends}
use Rattle.nr_machine.specs.Calls.{Given, IsCall, IsNew, IsTold, Learns, Counts, Machines, Makes, MayMove, MayMoveAll, Move, at_start, end_of, is_over, moved, moved_all, schedule_of, step_of, steps_of, worker_of}
use Rattle.nr_machine.specs.Calls.Given.{Updates, Wanted, Value, Replied}
use Rattle.nr_machine.specs.Calls.Move.{BeginsRead, EndsRead, Gives}
use Rattle.nr_machine.proofs.Cases.{at_cases, at_it, elsewhere}
use Rattle.nr_machine.proofs.Held.{IsHeld}
use Rattle.nr_machine.proofs.Ending.{opening_held, schedules_hold}
use Rattle.nr_machine.proofs.Fitting.{fits}

-- a schedule, and another after it
pub plays_both : (nodes : ℕ) (w : World) (acts more : List Act) → Plays nodes w acts → Plays nodes (played w acts) more
    → Plays nodes w (acts ++ more)
plays_both nodes w [] more plays rest = rest
plays_both nodes w (act ∷ acts) more plays rest = (plays.0, plays_both nodes (acted w act) acts more plays.1 rest)

played_both : (w : World) (acts more : List Act) → played w (acts ++ more) ≡ played (played w acts) more
played_both w [] more = refl
played_both w (act ∷ acts) more = played_both (acted w act) acts more

-- a machine, and the one who works at its node
pub record IsAt (nodes n : ℕ) (a : Actor) (machine : Node) : Type 0 where
  pub all : machine.nodes ≡ nodes
  pub number : machine.number ≡ n
  pub may : MayAsk nodes n (actor_of machine) (asked_by machine)
  pub actor : a ≡ worker_of machine

abbrev pub AreAt : ℕ → (ℕ → Actor) → (ℕ → Node) → Type 0
AreAt nodes actor machine = (n : ℕ) → n < nodes → IsAt nodes n (actor n) (machine n)

-- steps at a node may be taken, after which its machine is this one; the others stay
record Goes (nodes n : ℕ) (w : World) (acts : List Act) (after : Node) : Type 0 where
  pub plays : Plays nodes w acts
  pub at : IsAt nodes n ((played w acts).actor n) after
  pub same : (k : ℕ) → (k ≡ n → ⊥) → (played w acts).actor k ≡ w.actor k

-- what a call says of its machine, without what it was given
record IsNext (nodes n : ℕ) (after : Node) : Type 0 where
  pub all : after.nodes ≡ nodes
  pub number : after.number ≡ n
  pub may : MayAsk nodes n (actor_of after) (asked_by after)

at_worker : (nodes n : ℕ) (a : Actor) (after : Node) → IsNext nodes n after → a ≡ worker_of after → IsAt nodes n a after
at_worker nodes n a after next is = record { all = next.all; number = next.number; may = next.may; actor = is }

over : (asked : Asked) → is_over asked ≡ true → asked ≡ Done
over Done is = refl
over (Carry operation) is = absurd (cc)
over (Apply update) is = absurd (cc)
over (Lags r) is = absurd (cc)
over Broken is = absurd (cc)

-- the call of a machine that the one at its node is: it is over, or goes on
closes : (nodes n : ℕ) (w : World) (after : Node) → n < nodes → IsNext nodes n after → w.actor n ≡ actor_of after
    → Goes nodes n w (cond (is_over (asked_by after)) (Ends n ∷ []) []) after
closes nodes n w after lt next is = by_test (is_over (asked_by after)) refl where
  by_test : (b : Bool) → is_over (asked_by after) ≡ b → Goes nodes n w (cond b (Ends n ∷ []) []) after
  by_test true e =
      let done : MayAsk nodes n (actor_of after) Done = subst (λ (q : Asked). MayAsk nodes n (actor_of after) q) (over
      (asked_by after) e) next.may in
      let may = subst (λ (a : Actor). MayAsk nodes n a Done) (sym is) done in
      record {
        plays = ((lt, may.0), tt);
        at = at_worker nodes n (with_at w.actor n (ends (w.actor n)) n) after next
            (at_it w.actor n (ends (w.actor n)) ∙ ap ends is
            ∙ ap (λ (b : Bool). cond b (ends (actor_of after)) (actor_of after)) (sym e));
        same = λ k apart. elsewhere w.actor n (ends (w.actor n)) k apart;
      }
  by_test false e = record {
    plays = tt;
    at = at_worker nodes n (w.actor n) after next
        (is ∙ ap (λ (b : Bool). cond b (ends (actor_of after)) (actor_of after)) (sym e));
    same = λ k apart. refl;
  }

-- one step more before
steps : (nodes n : ℕ) (w : World) (act : Act) (acts : List Act) (after : Node) → MayAct nodes w act
    → ((k : ℕ) → (k ≡ n → ⊥) → (acted w act).actor k ≡ w.actor k) → Goes nodes n (acted w act) acts after
    → Goes nodes n w (act ∷ acts) after
steps nodes n w act acts after may same goes =
    record { plays = (may, goes.plays); at = goes.at; same = λ k apart. goes.same k apart ∙ same k apart }

-- a machine that stays as it was
stays : (nodes n : ℕ) (w : World) (machine after : Node) → IsAt nodes n (w.actor n) machine → after ≡ machine → Goes nodes n w [] after
stays nodes n w machine after at is =
    record { plays = tt; at = subst (λ (m : Node). IsAt nodes n (w.actor n) m) (sym is) at; same = λ k apart. refl }

-- and one whose call is open
stays_open : (nodes n : ℕ) (w : World) (machine after : Node) → n < nodes → IsNext nodes n after → w.actor n ≡ actor_of machine
    → after ≡ machine
    → Goes nodes n w (cond (is_over (asked_by after)) (Ends n ∷ []) []) after
stays_open nodes n w machine after lt next is same = closes nodes n w after lt next (is ∙ ap actor_of (sym same))

-- what a machine asks for, it asks for alone
not_over : {A : Type 0} (q : Asked) → is_over q ≡ false → q ≡ Done → A
not_over {A} q never is = let e : is_over q ≡ true = ap is_over is in absurd (cc)

goes_with : (nodes n : ℕ) (w : World) (machine after : Node) (given : Given) (q : Asked) → n < nodes → IsHeld nodes w
    → IsAt nodes n (w.actor n) machine → w.actor n ≡ cond (is_over q) (ends (actor_of machine)) (actor_of machine)
    → MayAsk nodes n (actor_of machine) q → asked_by machine ≡ q → IsNext nodes n after
    → Makes machine given after → IsTold w q given
    → Goes nodes n w (step_of n q given ++ end_of n q (asked_by after)) after
goes_with nodes n w machine after (Value value) (Carry operation) lt held at is may asked next makes told =
    let can = subst (λ (a : Actor). MayAsk nodes n a (Carry operation)) (sym is) may in
    let fit : IsFit nodes (w.actor n) operation value =
    subst (λ (v : ℕ). IsFit nodes (w.actor n) operation v) (sym told.0) (fits nodes w n operation held lt told.1 can.0) in
    let learns : Learns (Carry operation) machine value after = subst (λ (p : Asked). Learns p machine value after) asked makes in
    let right = learns (subst (λ (m : ℕ). IsFit m (actor_of machine) operation value) (sym at.all)
    (subst (λ (a : Actor). IsFit nodes a operation value) is fit)) in
    let now : with_at w.actor n (learned n (w.actor n) operation (told_by w.words operation)) n ≡ actor_of after =
    at_it w.actor n (learned n (w.actor n) operation (told_by w.words operation))
    ∙ ap (λ (a : Actor). learned n a operation (told_by w.words operation)) is
    ∙ ap (λ (v : ℕ). learned n (actor_of machine) operation v) (sym told.0)
    ∙ ap (λ (m : ℕ). learned m (actor_of machine) operation value) (sym at.number)
    ∙ sym right.0 in
    steps nodes n w (Does n operation) (cond (is_over (asked_by after)) (Ends n ∷ []) []) after (lt, can.0)
    (λ k apart. elsewhere w.actor n (learned n (w.actor n) operation (told_by w.words operation)) k apart)
    (closes nodes n (acted w (Does n operation)) after lt next now)
goes_with nodes n w machine after (Value value) (Lags r) lt held at is may asked next makes told =
    let learns : Learns (Lags r) machine value after = subst (λ (p : Asked). Learns p machine value after) asked makes in
    closes nodes n w after lt next (is ∙ sym learns.0)
goes_with nodes n w machine after (Value value) (Apply update) lt held at is may asked next makes told =
    stays_open nodes n w machine after lt next is (subst (λ (p : Asked). Learns p machine value after) asked makes)
goes_with nodes n w machine after (Value value) Broken lt held at is may asked next makes told =
    stays_open nodes n w machine after lt next is (subst (λ (p : Asked). Learns p machine value after) asked makes)
goes_with nodes n w machine after (Value value) Done lt held at is may asked next makes told =
    stays nodes n w machine after at (subst (λ (p : Asked). Learns p machine value after) asked makes)
goes_with nodes n w machine after (Replied reply) (Apply update) lt held at is may asked next makes told =
    let counts : Counts (Apply update) machine after = subst (λ (p : Asked). Counts p machine after) asked makes in
    let ready = subst (λ (a : Actor). MayAsk nodes n a (Apply update)) (sym is) may in
    steps nodes n w (Applies n) (cond (is_over (asked_by after)) (Ends n ∷ []) []) after (lt, ready.0)
    (λ k apart. elsewhere w.actor n (applies (w.actor n)) k apart)
    (closes nodes n (acted w (Applies n)) after lt next (at_it w.actor n (applies (w.actor n)) ∙ ap applies is ∙ sym counts))
goes_with nodes n w machine after (Replied reply) (Carry operation) lt held at is may asked next makes told =
    stays_open nodes n w machine after lt next is (subst (λ (p : Asked). Counts p machine after) asked makes)
goes_with nodes n w machine after (Replied reply) (Lags r) lt held at is may asked next makes told =
    stays_open nodes n w machine after lt next is (subst (λ (p : Asked). Counts p machine after) asked makes)
goes_with nodes n w machine after (Replied reply) Broken lt held at is may asked next makes told =
    stays_open nodes n w machine after lt next is (subst (λ (p : Asked). Counts p machine after) asked makes)
goes_with nodes n w machine after (Replied reply) Done lt held at is may asked next makes told =
    stays nodes n w machine after at (subst (λ (p : Asked). Counts p machine after) asked makes)
goes_with nodes n w machine after (Updates updates) Done lt held at is may asked next makes told =
    let begun : with_at w.actor n (begins (w.actor n) updates) n ≡ actor_of after =
    at_it w.actor n (begins (w.actor n) updates) ∙ ap (λ (a : Actor). begins a updates) is ∙ sym makes.2 in
    let goes : is_over (asked_by after) ≡ false = ap is_over makes.3 in
    let first : MayBegin (w.actor n) updates = subst (λ (a : Actor). MayBegin a updates) (sym is) makes.1 in
    steps nodes n w (Begins n updates) [] after (lt, first) (λ k apart. elsewhere w.actor n (begins (w.actor n) updates) k apart)
    (subst (λ (b : Bool). Goes nodes n (acted w (Begins n updates)) (cond b (Ends n ∷ []) []) after) goes
    (closes nodes n (acted w (Begins n updates)) after lt next begun))
goes_with nodes n w machine after (Wanted at_least) Done lt held at is may asked next makes told =
    let same : w.actor n ≡ worker_of after = is ∙ rests (is_over (asked_by after)) in
    record { plays = tt; at = at_worker nodes n (w.actor n) after next same; same = λ k apart. refl } where
      rests : (b : Bool) → ends (actor_of machine) ≡ cond b (ends (actor_of after)) (actor_of after)
      rests true = sym (ap ends makes.1)
      rests false = sym makes.1
goes_with nodes n w machine after (Updates updates) (Carry operation) lt held at is may asked next makes told =
    not_over (Carry operation) refl (sym asked ∙ makes.0)
goes_with nodes n w machine after (Updates updates) (Apply update) lt held at is may asked next makes told =
    not_over (Apply update) refl (sym asked ∙ makes.0)
goes_with nodes n w machine after (Updates updates) (Lags r) lt held at is may asked next makes told =
    not_over (Lags r) refl (sym asked ∙ makes.0)
goes_with nodes n w machine after (Updates updates) Broken lt held at is may asked next makes told =
    not_over Broken refl (sym asked ∙ makes.0)
goes_with nodes n w machine after (Wanted at_least) (Carry operation) lt held at is may asked next makes told =
    not_over (Carry operation) refl (sym asked ∙ makes.0)
goes_with nodes n w machine after (Wanted at_least) (Apply update) lt held at is may asked next makes told =
    not_over (Apply update) refl (sym asked ∙ makes.0)
goes_with nodes n w machine after (Wanted at_least) (Lags r) lt held at is may asked next makes told =
    not_over (Lags r) refl (sym asked ∙ makes.0)
goes_with nodes n w machine after (Wanted at_least) Broken lt held at is may asked next makes told =
    not_over Broken refl (sym asked ∙ makes.0)

-- a call at a node
call_goes : (nodes n : ℕ) (w : World) (machine after : Node) (given : Given) → n < nodes → IsHeld nodes w → IsAt nodes n (w.actor n) machine
    → IsCall machine given after → IsTold w (asked_by machine) given
    → Goes nodes n w (step_of n (asked_by machine) given ++ end_of n (asked_by machine) (asked_by after)) after
call_goes nodes n w machine after given lt held at call told =
    let one : after.nodes ≡ nodes = call.nodes ∙ at.all in
    let two : after.number ≡ n = call.number ∙ at.number in
    goes_with nodes n w machine after given (asked_by machine) lt held at at.actor at.may refl (record {
      all = one;
      number = two;
      may = subst (λ (k : ℕ). MayAsk nodes k (actor_of after) (asked_by after)) two
          (subst (λ (k : ℕ). MayAsk k after.number (actor_of after) (asked_by after)) one call.may);
    }) call.makes told

-- what holds between two moves
pub record AreMoved (nodes : ℕ) (m : Machines) : Type 0 where
  pub held : IsHeld nodes m.world
  pub at : AreAt nodes m.world.actor m.machine

-- at one node the machine is another one, and the others are as they were
at_others : (nodes n : ℕ) (actor now : ℕ → Actor) (machine : ℕ → Node) (after : Node) → AreAt nodes actor machine
    → IsAt nodes n (now n) after
    → ((k : ℕ) → (k ≡ n → ⊥) → now k ≡ actor k) → AreAt nodes now (with_at machine n after)
at_others nodes n actor now machine after all at same k lt =
    at_cases (λ (m : Node). IsAt nodes k (now k) m) machine n after k
    (λ e. subst (λ (j : ℕ). IsAt nodes j (now j) after) (sym e) at)
    (λ apart. subst (λ (a : Actor). IsAt nodes k a (machine k)) (sym (same k apart)) (all k lt))

-- what a node has applied is completed while no call is open there
completed_there : (nodes n : ℕ) (a : Actor) (machine : Node) → IsAt nodes n a machine → asked_by machine ≡ Done
    → (a.applied ≡ machine.applied) × (a.applied ≤ a.published)
completed_there nodes n a machine at done =
    let may = subst (λ (q : Asked). MayAsk nodes n (actor_of machine) q) done at.may in
    let is : a ≡ ends (actor_of machine) =
    at.actor ∙ ap (λ (q : Asked). cond (is_over q) (ends (actor_of machine)) (actor_of machine)) done in
    let le = may.2 in
    (ap (λ (b : Actor). b.applied) is, subst (λ (b : Actor). b.applied ≤ b.published) (sym is) le)

plays_move : (nodes : ℕ) (m : Machines) (move : Move) → nodes ≤ 64 → AreMoved nodes m → MayMove nodes m move
    → Plays nodes m.world (steps_of m move)
plays_move nodes m (Gives n given after) most is may =
    (call_goes nodes n m.world (m.machine n) after given may.0 is.held (is.at n may.0) may.1 may.2).plays
plays_move nodes m (BeginsRead n) most is may = (may, tt)
plays_move nodes m (EndsRead n call) most is may =
    let there = completed_there nodes n (m.world.actor n) (m.machine n) (is.at n may.0) may.3 in
    let same = there.0 in
    let loaded = may.4 in
    let reached : (m.world.read call).loaded ≤ (m.world.actor n).applied = omega (arith, same, loaded) in
    let here : ((m.world.read call).loaded ≤ (m.world.actor n).applied) × ((m.world.actor n).applied ≤ (m.world.actor n).published) =
    (reached, there.1) in
    let ends = subst (λ (k : ℕ). ((m.world.read call).loaded ≤ (m.world.actor k).applied)
    × ((m.world.actor k).applied ≤ (m.world.actor k).published))
    (sym may.1) here in
    ((may.2, ends.0, ends.1), tt)

at_move : (nodes : ℕ) (m : Machines) (move : Move) → nodes ≤ 64 → AreMoved nodes m → MayMove nodes m move
    → AreAt nodes (moved m move).world.actor (moved m move).machine
at_move nodes m (Gives n given after) most is may =
    let goes = call_goes nodes n m.world (m.machine n) after given may.0 is.held (is.at n may.0) may.1 may.2 in
    at_others nodes n m.world.actor (moved m (Gives n given after)).world.actor m.machine after is.at goes.at goes.same
at_move nodes m (BeginsRead n) most is may = is.at
at_move nodes m (EndsRead n call) most is may = is.at

moves_hold : (nodes : ℕ) (m : Machines) (move : Move) → nodes ≤ 64 → AreMoved nodes m → MayMove nodes m move → AreMoved nodes (moved m move)
moves_hold nodes m move most is may = record {
  held = schedules_hold nodes m.world (steps_of m move) most is.held (plays_move nodes m move most is may);
  at = at_move nodes m move most is may;
}

plays_moves : (nodes : ℕ) (m : Machines) (moves : List Move) → nodes ≤ 64 → AreMoved nodes m → MayMoveAll nodes m moves
    → Plays nodes m.world (schedule_of m moves)
plays_moves nodes m [] most is may = tt
plays_moves nodes m (move ∷ moves) most is may =
    plays_both nodes m.world (steps_of m move) (schedule_of (moved m move) moves) (plays_move nodes m move most is may.0)
    (plays_moves nodes (moved m move) moves most (moves_hold nodes m move most is may.0) may.1)

all_at : (nodes : ℕ) (m : Machines) (moves : List Move) → nodes ≤ 64 → AreMoved nodes m → MayMoveAll nodes m moves
    → AreAt nodes (moved_all m moves).world.actor (moved_all m moves).machine
all_at nodes m [] most is may = is.at
all_at nodes m (move ∷ moves) most is may = all_at nodes (moved m move) moves most (moves_hold nodes m move most is may.0) may.1

world_of : (m : Machines) (moves : List Move) → (moved_all m moves).world ≡ played m.world (schedule_of m moves)
world_of m [] = refl
world_of m (move ∷ moves) =
    world_of (moved m move) moves ∙ sym (played_both m.world (steps_of m move) (schedule_of (moved m move) moves))

new_at : (nodes : ℕ) (machine : ℕ → Node) → ((n : ℕ) → n < nodes → IsNew nodes n (machine n)) → AreMoved nodes (at_start nodes machine)
new_at nodes machine new = record {
  held = opening_held nodes;
  at = λ n lt.
      let is = new n lt in
      let over = is.over in
      record {
        all = is.all;
        number = is.number;
        may = subst (λ (q : Asked). MayAsk nodes n (actor_of (machine n)) q) (sym over)
            (subst (λ (a : Actor). MayAsk nodes n a Done) (sym is.actor) (refl, refl, omega arith));
        actor = sym (ap (λ (q : Asked). cond (is_over q) (ends (actor_of (machine n))) (actor_of (machine n))) over ∙ ap ends is.actor);
      };
}

pub moves_play : (nodes : ℕ) (machine : ℕ → Node) (moves : List Move) → nodes ≤ 64 → ((n : ℕ) → n < nodes → IsNew nodes n (machine n))
    → MayMoveAll nodes (at_start nodes machine) moves → Plays nodes (opening nodes) (schedule_of (at_start nodes machine) moves)
moves_play nodes machine moves most new may = plays_moves nodes (at_start nodes machine) moves most (new_at nodes machine new) may

pub moves_reach : (nodes : ℕ) (machine : ℕ → Node) (moves : List Move)
    → (moved_all (at_start nodes machine) moves).world ≡ played (opening nodes) (schedule_of (at_start nodes machine) moves)
moves_reach nodes machine moves = world_of (at_start nodes machine) moves

pub moves_work : (nodes : ℕ) (machine : ℕ → Node) (moves : List Move) (n : ℕ) → nodes ≤ 64 → n < nodes
    → ((n : ℕ) → n < nodes → IsNew nodes n (machine n)) → MayMoveAll nodes (at_start nodes machine) moves
    → (played (opening nodes) (schedule_of (at_start nodes machine) moves)).actor n
    ≡ worker_of ((moved_all (at_start nodes machine) moves).machine n)
moves_work nodes machine moves n most lt new may =
    ap (λ (w : World). w.actor n) (sym (world_of (at_start nodes machine) moves))
    ∙ (all_at nodes (at_start nodes machine) moves most (new_at nodes machine new) may n lt).actor
