-- What a machine makes of a value that it is given. No public clause cites it.
use Rattle.std.specs.Prelude.{◌≡◌, ℕ, ◌+◌, ◌<◌, length}
use Rattle.nr_machine.specs.declared.asked.Asked.TheVariants.{Carry, Lags, Broken}
use Rattle.nr_machine.specs.declared.node.Node.{Node}
use Rattle.nr_machine.specs.declared.words.Operation.{Operation}
use Rattle.nr_machine.specs.declared.words.Operation.TheVariants.{Load}
use Rattle.nr_machine.specs.declared.words.Word.TheVariants.{Head, Local}
use Rattle.nr_machine.specs.Actor.{learned}
use Rattle.nr_machine.specs.Bound.{Spends}
use Rattle.nr_machine.specs.Fields.{batch_of, replies_of}
use Rattle.nr_machine.specs.Machine.{IsFit, actor_of, asked_by}
use Rattle.nr_machine.specs.Sound.{IsSound}

-- the machine after it was given a value
pub record IsTold (old : Node) (value : ℕ) (new : Node) : Type 0 where
  pub sound : IsSound new
  pub nodes : new.nodes ≡ old.nodes
  pub number : new.number ≡ old.number
  pub replies : replies_of new ≡ replies_of old
  pub learned : (operation : Operation) → asked_by old ≡ Carry operation → (asked_by new ≡ Broken → ⊥)
      → actor_of new ≡ learned old.number (actor_of old) operation value
  pub fits : (operation : Operation) → asked_by old ≡ Carry operation → IsFit old.nodes (actor_of old) operation value
      → asked_by new ≡ Broken → ⊥
  pub spends : (operation : Operation) → asked_by old ≡ Carry operation → IsFit old.nodes (actor_of old) operation value → Spends 0 old new
  pub lags : (r : ℕ) → asked_by old ≡ Lags r → (asked_by new ≡ Carry (Load Head)) × (actor_of new ≡ actor_of old) × Spends 1 old new
  pub named : (r : ℕ) → asked_by new ≡ Lags r
      → (asked_by old ≡ Carry (Load (Local r))) × (value + 16 < new.seen + length (batch_of new))
  pub others : ((operation : Operation) → asked_by old ≡ Carry operation → ⊥) → ((r : ℕ) → asked_by old ≡ Lags r → ⊥) → new ≡ old

-- the machine once it has seen a tail, and nothing else of it
abbrev pub looked : Node → ℕ → ℕ → Node
looked node tail last = record node {
  seen = tail;
  last = last;
  firsts = 0;
  seconds = 0;
  from = tail;
  ring = last;
  has_half = 0;
  half = 0;
  got_count = 0;
  next = 0;
}
