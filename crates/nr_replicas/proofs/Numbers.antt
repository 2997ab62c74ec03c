-- Nodes by the numbers of their replicas.
use Rattle.std.proofs.Common.{◌≡◌, ℕ, zero, suc, ◌+◌, ◌<◌, ◌≤◌, List, [], ◌∷◌, ◌++◌, All, Contains, Some, length, map, take, refl, ap, sym, subst, ◌∙◌, arith}
use Rattle.std.specs.Prelude.{slice_get}
use Rattle.std.specs.List.{insert}
use Rattle.std.proofs.lemmas.List.Elements.{All-cons, Contains-append_right}
use Rattle.std.proofs.lemmas.List.Sorted.{All-permutation, IsPermutation-insert}
use Rattle.nr_ring.specs.Pass.{AreApart, Known}
use Rattle.nr_node.specs.Node.{NodeState, replica_of}
use Rattle.nr_replicas.specs.inside.Settling.{OwnInTurn, OwnRising}

abbrev known_of : NodeState → Known
known_of node = node.known

abbrev owned_by : Known → List ℕ
owned_by pass = pass.view.owns

-- what holds of all and of one more holds where it goes in
pub all_and_one : {X : Type 0} (P : X → Type 0) (xs : List X) (place : ℕ) (x : X) → All P xs → P x → All P (insert xs place x)
all_and_one P xs place x all one = All-permutation P (x ∷ xs) (insert xs place x) (IsPermutation-insert xs place x) (All-cons P x xs one all)

-- a node goes in behind those of no greater number
pub one_goes_in : (least : ℕ) (nodes : List NodeState) (place : ℕ) (node : NodeState) → OwnRising least (map known_of nodes)
    → node.known.view.owns ≡ replica_of node.known.view ∷ [] → least ≤ replica_of node.known.view → place ≤ length nodes
    → All (λ n. replica_of n.known.view ≤ replica_of node.known.view) (take place nodes)
    → ((n : NodeState) → slice_get nodes place ≡ Some n → replica_of node.known.view ≤ replica_of n.known.view)
    → OwnRising least (map known_of (insert nodes place node))
one_goes_in least [] zero node rising own low within before behind = (own, low, tt)
one_goes_in least [] (suc place) node rising own low within before behind = absurd (omega (arith, within))
one_goes_in least (n ∷ ns) zero node rising own low within before behind = (own, low, (rising.0, behind n refl, rising.2))
one_goes_in least (n ∷ ns) (suc place) node rising own low within before behind = (
  rising.0,
  rising.1,
  one_goes_in (replica_of n.known.view) ns place node rising.2 own (before 0 n (omega arith)) (omega (arith, within))
      (λ k d lt. before (suc k) d (omega (arith, lt))) behind,
)

-- all below this many
abbrev pub AreBelow : ℕ → List Known → Type 0
AreBelow n passes = All (λ pass. All (λ replica. replica < n) pass.view.owns) passes

first_below : (n : ℕ) (pass : Known) (passes : List Known) → AreBelow n (pass ∷ passes) → pass.view.owns ≡ replica_of pass.view ∷ []
    → replica_of pass.view < n
first_below n pass passes below own =
    let P : List ℕ → Type 0 = λ l. All (λ replica. replica < n) l in (subst P own (below 0 pass (omega arith))) 0 0 (omega arith)

rest_below : (n : ℕ) (pass : Known) (passes : List Known) → AreBelow n (pass ∷ passes) → AreBelow n passes
rest_below n pass passes below k d lt = below (suc k) d (omega (arith, lt))

-- the one that a pass owns
owns_it : (pass : Known) → pass.view.owns ≡ replica_of pass.view ∷ [] → Contains pass.view.owns (replica_of pass.view)
owns_it pass own = let P : List ℕ → Type 0 = λ l. Contains l (replica_of pass.view) in subst P (sym own) (0, omega arith, refl)

-- the next pass owns a greater one than the last
rises : (last : ℕ) (owned : List ℕ) (pass : Known) → Contains owned last → pass.view.owns ≡ replica_of pass.view ∷ [] → last ≤ replica_of pass.view
    → ((replica : ℕ) → Contains owned replica → Contains pass.view.owns replica → ⊥) → last < replica_of pass.view
rises last owned pass has own least apart =
    let P : ℕ → Type 0 = λ r. Contains owned r in
    let other : last ≡ replica_of pass.view → ⊥ = λ e. apart (replica_of pass.view) (subst P e has) (owns_it pass own) in
    omega (arith, least, other)

-- so there is room for as many as there are
room : (last n : ℕ) (owned : List ℕ) (passes : List Known) → Contains owned last → last < n → OwnRising last passes → AreApart owned (map owned_by passes)
    → AreBelow n passes → last + length passes < n
room last n owned [] has lt rising apart below = omega (arith, lt)
room last n owned (p ∷ ps) has lt rising apart below =
    let r = replica_of p.view in
    let up = rises last owned p has rising.0 rising.1 apart.0 in
    let more = room r n (owned ++ p.view.owns) ps (Contains-append_right owned p.view.owns r (owns_it p rising.0)) (first_below n p ps below rising.0) rising.2
    apart.1 (rest_below n p ps below) in
    omega (arith, up, more)

-- and where they are as many as fit, each owns the next one
each_next : (last n : ℕ) (owned : List ℕ) (passes : List Known) → Contains owned last → OwnRising last passes → AreApart owned (map owned_by passes)
    → AreBelow n passes → n ≡ last + 1 + length passes → OwnInTurn (last + 1) passes
each_next last n owned [] has rising apart below all = tt
each_next last n owned (p ∷ ps) has rising apart below all =
    let r = replica_of p.view in
    let up = rises last owned p has rising.0 rising.1 apart.0 in
    let its = Contains-append_right owned p.view.owns r (owns_it p rising.0) in
    let more = room r n (owned ++ p.view.owns) ps its (first_below n p ps below rising.0) rising.2 apart.1 (rest_below n p ps below) in
    let next : r ≡ last + 1 = omega (arith, up, more, all) in
    let Turn : ℕ → Type 0 = λ k. OwnInTurn (k + 1) ps in (
      rising.0 ∙ ap (λ k. k ∷ []) next,
      subst Turn next (each_next r n (owned ++ p.view.owns) ps its rising.2 apart.1 (rest_below n p ps below) (omega (arith, all, next))),
    )

-- passes by rising number, which own different ones of as many as they are, own each in turn
pub own_in_turn : (n : ℕ) (first : Known) (others : List Known) → OwnRising 0 (first ∷ others) → AreApart first.view.owns (map owned_by others)
    → AreBelow n (first ∷ others) → length (first ∷ others) ≡ n → OwnInTurn 0 (first ∷ others)
own_in_turn n first others rising apart below all =
    let r = replica_of first.view in
    let its = owns_it first rising.0 in
    let rest = rest_below n first others below in
    let more = room r n first.view.owns others its (first_below n first others below rising.0) rising.2 apart rest in
    let none : r ≡ 0 = omega (arith, more, all) in
    let Turn : ℕ → Type 0 = λ k. OwnInTurn (k + 1) others in (
      rising.0 ∙ ap (λ k. k ∷ []) none,
      subst Turn none (each_next r n first.view.owns others its rising.2 apart rest (omega (arith, all, none))),
    )
