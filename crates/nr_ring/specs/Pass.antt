-- What contracts see of a log and of its passes.
use Rattle.std.specs.Prelude.{ℕ, List, [], ◌∷◌, ◌++◌, Contains, ⊤, map, replicate}
use Rattle.std.specs.List.{range_with_len}
pub use Rattle.atomic_table.specs.Seated.{TableId}
use Rattle.nr_ring.specs.LogHistory.{Log, tail, local_of, completed}
use Rattle.nr_ring.specs.declared.ring.view.View.{View}
use Rattle.nr_ring.specs.declared.ring.tails.Tails.{Tails}

-- a pass: which log it is of, and what it knows of it
pub record Known : Type 0 where
  pub log : TableId
  pub view : View

-- a pass that has seen and made nothing, owns these replicas, and has one right to make events
abbrev pub new_pass : TableId → List ℕ → Known
new_pass log owns = record { log = log; view = record { seen = []; mine = []; owns = owns; rights = 1; told = [] } }

-- the passes of a new log: one for each replica, which owns it, and others, which own none
abbrev pub new_passes : TableId → ℕ → ℕ → List Known
new_passes log replicas others = map (λ replica. new_pass log (replica ∷ [])) (range_with_len 0 replicas) ++ replicate others (new_pass log [])

-- the tails of a log
abbrev pub tails_of : Log → Tails
tails_of log = record { tail = tail log; completed = completed log; local = local_of log 0 ∷ local_of log 1 ∷ local_of log 2 ∷ local_of log 3 ∷ [] }

-- none of these lists of replicas has one that is among the owned, or that a list before it has
abbrev pub AreApart : List ℕ → List (List ℕ) → Type 0
AreApart owned [] = ⊤
AreApart owned (given ∷ lists) = ((replica : ℕ) → Contains owned replica → Contains given replica → ⊥) × AreApart (owned ++ given) lists
