use Rattle.std.proofs.Common.{◌≡◌, ◌<◌, ◌≤◌, ◌+◌, ◌^◌, ℕ, None, Contains, IsTrue, subst}
use Rattle.std.specs.FinMap as finite
use Rattle.vs_types.specs.Space as spaces
use Rattle.vs_walk.specs.Traversal.{traversal, reached, walk_fault}
use Rattle.vs_space.specs.Table.{PageTable, IsTableOf}
use Rattle.vs_space.specs.Written.{IsWrittenTable}
use Rattle.vs_space.proofs.Protects.{own_space}
use Rattle.vs_space.proofs.Traversed.{no_fault, in_use, each, numbers_fit}
use Rattle.vs_space.proofs.space.Space.root.Goals as goal

pub returns-clause-some_space : goal.returns-clause-some_space
returns-clause-some_space g c = subst (λ (t : PageTable). (space : spaces.Space) × IsTableOf t space) c.self.view_is
    (own_space c.self.invariant.0)

pub returns-clause-faultless : goal.returns-clause-faultless
returns-clause-faultless g c = subst (λ (t : PageTable). walk_fault t.depth t.memory t.root ≡ None) c.self.view_is
    (no_fault c.self.invariant.0)

pub returns-clause-in_use : goal.returns-clause-in_use
returns-clause-in_use g c = subst (λ (t : PageTable). (number : ℕ) → Contains (reached (traversal t.depth t.memory t.root)) number
    → IsTrue (finite.contains_key t.memory number)) c.self.view_is
    (in_use c.self.invariant.0)

pub returns-clause-each : goal.returns-clause-each
returns-clause-each g c = subst (λ (t : PageTable). (number : ℕ) → IsTrue (finite.contains_key t.memory number)
    → Contains (reached (traversal t.depth t.memory t.root)) number) c.self.view_is
    (each c.self.invariant.0)

pub returns-clause-in_range : goal.returns-clause-in_range
returns-clause-in_range g c = subst (λ (t : PageTable). (number : ℕ) → IsTrue (finite.contains_key t.memory number) → number < 2 ^ 40) c.self.view_is
    (numbers_fit c.self.invariant.0)

pub returns-clause-from_base : goal.returns-clause-from_base
returns-clause-from_base g c = subst (λ (t : PageTable). (number : ℕ) → IsTrue (finite.contains_key t.memory number) → t.base ≤ number) c.self.view_is
    c.self.invariant.1.from_base

pub returns-clause-below_limit : goal.returns-clause-below_limit
returns-clause-below_limit g c = subst (λ (t : PageTable). (number : ℕ) → IsTrue (finite.contains_key t.memory number) → number < t.base + t.limit)
    c.self.view_is
    c.self.invariant.1.below

pub returns-clause-written : goal.returns-clause-written
returns-clause-written g c = subst (λ (t : PageTable). (number : ℕ) → IsTrue (finite.contains_key t.memory number)
    → IsWrittenTable t.depth t.memory t.root number) c.self.view_is
    (λ number used. let table = c.self.invariant.0.reached.path number used in
    record { level = table.0; address = table.1; reached = table.2; written = table.3 })
