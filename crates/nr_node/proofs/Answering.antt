-- What an entry that was applied is answered stays so as more are applied.
use Rattle.std.proofs.Common.{◌≡◌, ◌≢◌, ℕ, ◌+◌, ◌<◌, ◌≤◌, List, [], ◌∷◌, ◌++◌, Option, Some, None, IfNone, IfSome, MatchOption, length, length-append}
use Rattle.std.proofs.Common.{take, drop, get_or, refl, ap, sym, subst, ◌∙◌, arith, append_assoc}
use Rattle.std.specs.Prelude.{slice_get}
use Rattle.std.proofs.lemmas.List.{length-map, length-take-le, take-append-drop, take-append-le}
use Rattle.std.proofs.lemmas.List.Elements.{All-push}
use Rattle.std.proofs.lemmas.Option.{slice_get_read, slice_get_within}
use Rattle.vs_types.specs.Step.{step}
use Rattle.vs_types.specs.declared.requests.answer.Answer.{Answer}
use Rattle.vs_types.specs.declared.addresses.depth.Depth.{Depth}
use Rattle.vs_types.specs.declared.log_entry.LogEntry.{LogEntry}
use Rattle.vs_types.proofs.Lists.{get_left, get_right}
use Rattle.nr_slots.specs.Updates.{Waiting}
use Rattle.nr_node.specs.Calls.{IsAnsweredIn, IsOwnPlace, LacksUpdate, entries_of, entry_of}
use Rattle.nr_node.specs.Spaces.{answer_at, space_of}
use Rattle.nr_node.specs.Node.{IsNode, NodeState, log_of}
use Rattle.nr_node.specs.inside.Node.{Follows}
use Rattle.nr_node.specs.inside.Replica.{ReplicaState}
use Rattle.nr_node.proofs.Lists.{map_one_more, take_to_one_more}
use Rattle.nr_node.proofs.Nodes.{had_taken, slice_more}

pub if_some_on : {T : Type 0} (o : Option T) (P Q : T → Type 0) → ((x : T) → P x → Q x) → IfSome o P → IfSome o Q
if_some_on (Some x) P Q on is = on x is
if_some_on None P Q on is = tt

answered_on : (depth : Depth) (tables : ℕ) (entries more : List LogEntry) (entry : LogEntry) (place : ℕ) (answer : Answer)
    → IsAnsweredIn depth tables entries entry place answer → IsAnsweredIn depth tables (entries ++ more) entry place answer
answered_on depth tables entries more entry place answer is =
    let within = slice_get_within entries place entry is.stands in
    record {
      stands = slice_more entries more place entry is.stands;
      answered = is.answered
          ∙ ap (λ (l : List LogEntry). (step depth tables (space_of depth tables l) entry.op).answer) (sym (take-append-le place entries more (omega arith)));
    }

answered_last : (depth : Depth) (tables : ℕ) (entries : List LogEntry) (entry : LogEntry) (place : ℕ) (answer : Answer)
    → place ≡ length entries → answer ≡ answer_at depth tables entries (length entries) entry.op
    → IsAnsweredIn depth tables (entries ++ entry ∷ []) entry place answer
answered_last depth tables entries entry place answer at made =
    let here : place ≡ length entries + 0 = omega arith in
    record {
      stands = ap (slice_get (entries ++ entry ∷ [])) here ∙ get_right entries (entry ∷ []) 0;
      answered = made
          ∙ ap (λ (n : ℕ). answer_at depth tables entries n entry.op) (sym at)
          ∙ ap (λ (l : List LogEntry). (step depth tables (space_of depth tables l) entry.op).answer)
          (sym (take-append-le place entries (entry ∷ []) (omega arith)));
    }

pub if_none_on : {T : Type 0} (o : Option T) (P Q : Type 0) → (P → Q) → IfNone o P → IfNone o Q
if_none_on (Some x) P Q on is = tt
if_none_on None P Q on is = on is

-- the next update of a batch isn't the one either that a thread asks for
pub lacks_more : (thread : ℕ) (entry : LogEntry) (batch : List Waiting) (i : ℕ) (x : Waiting) → i < length batch → x ≡ get_or batch i x
    → (x.thread ≡ thread → entry_of x ≢ entry) → LacksUpdate thread entry (take i batch) → LacksUpdate thread entry (take (i + 1) batch)
lacks_more thread entry batch i x lt here other before =
    let Other : Waiting → Type 0 = λ w. w.thread ≡ thread → entry_of w ≢ entry in
    subst (LacksUpdate thread entry) (sym (take_to_one_more batch i x lt here))
    (All-push Other (take i batch) x before other)

-- the next update of a batch is the one that a thread asks for, and its place is the next
pub own_placed : (start now : ReplicaState) (batch : List Waiting) (i : ℕ) (x : Waiting) (thread : ℕ) (entry wanted : LogEntry) (place : ℕ)
    → i < length batch → x ≡ get_or batch i x → x.thread ≡ thread → entry ≡ entry_of x → entry ≡ wanted
    → now ≡ record start { entries = start.entries ++ entries_of (take i batch) } → place ≡ length now.entries
    → IsOwnPlace thread wanted batch (length start.entries) place
own_placed start now batch i x thread entry wanted place lt here its is same was at = record {
  waiting = x;
  i = i;
  there = slice_get_read batch (length batch) i x refl lt here;
  its = its;
  asks = sym is ∙ same;
  at = omega (
    arith,
    at,
    ap (λ (r : ReplicaState). length r.entries) was,
    length-append start.entries (entries_of (take i batch)),
    length-map (take i batch) entry_of,
    length-take-le i batch (omega (arith, lt)),
  );
}

-- an entry more is applied, and is the one that is wanted
pub own_made : (start now next : ReplicaState) (mid : List LogEntry) (entry wanted : LogEntry) (place : ℕ) (answer : Answer)
    → now ≡ record start { entries = mid } → next ≡ record now { entries = now.entries ++ entry ∷ [] } → place ≡ length now.entries → entry ≡ wanted
    → answer ≡ answer_at now.depth now.tables now.entries (length now.entries) entry.op
    → IsAnsweredIn start.depth start.tables next.entries wanted place answer
own_made start now next mid entry wanted place answer was made at same answered =
    let entries : next.entries ≡ now.entries ++ entry ∷ [] = ap (λ (r : ReplicaState). r.entries) made in
    let ByDepth : Depth → Type 0 = λ d. IsAnsweredIn d now.tables (now.entries ++ entry ∷ []) entry place answer in
    let ByTables : ℕ → Type 0 = λ t. IsAnsweredIn start.depth t (now.entries ++ entry ∷ []) entry place answer in
    let ByEntries : List LogEntry → Type 0 = λ l. IsAnsweredIn start.depth start.tables l entry place answer in
    let ByEntry : LogEntry → Type 0 = λ e. IsAnsweredIn start.depth start.tables next.entries e place answer in
    subst ByEntry same (subst ByEntries (sym entries) (subst ByTables (ap (λ (r : ReplicaState). r.tables) was)
    (subst ByDepth (ap (λ (r : ReplicaState). r.depth) was) (answered_last now.depth now.tables now.entries entry place answer at answered))))

-- an entry more is applied, and the one that is wanted was before
pub own_stays : (start now next : ReplicaState) (entry wanted : LogEntry) (place : ℕ) (answer : Answer)
    → next ≡ record now { entries = now.entries ++ entry ∷ [] } → IsAnsweredIn start.depth start.tables now.entries wanted place answer
    → IsAnsweredIn start.depth start.tables next.entries wanted place answer
own_stays start now next entry wanted place answer made is =
    let ByEntries : List LogEntry → Type 0 = λ l. IsAnsweredIn start.depth start.tables l wanted place answer in
    subst ByEntries (sym (ap (λ (r : ReplicaState). r.entries) made)) (answered_on start.depth start.tables now.entries (entry ∷ []) wanted place answer is)

-- the next entry of a batch is applied
pub applied_more : (start now next : ReplicaState) (batch : List Waiting) (i : ℕ) (x : Waiting) (entry : LogEntry)
    → i < length batch → x ≡ get_or batch i x → entry ≡ entry_of x
    → now ≡ record start { entries = start.entries ++ entries_of (take i batch) } → next ≡ record now { entries = now.entries ++ entry ∷ [] }
    → next ≡ record start { entries = start.entries ++ entries_of (take (i + 1) batch) }
applied_more start now next batch i x entry lt here is was made =
    let Next : ReplicaState → ReplicaState = λ r. record r { entries = r.entries ++ entry ∷ [] } in
    let With : List LogEntry → ReplicaState = λ l. record start { entries = l } in
    let more : entries_of (take i batch) ++ entry ∷ [] ≡ entries_of (take (i + 1) batch) =
    ap (λ (e : LogEntry). entries_of (take i batch) ++ e ∷ []) is ∙ sym (map_one_more entry_of batch i x lt here) in
    made ∙ ap Next was ∙ ap With (append_assoc start.entries (entries_of (take i batch)) (entry ∷ []) ∙ ap (λ (l : List LogEntry). start.entries ++ l) more)

-- entries are applied, and then a batch
pub both_applied : (start mid next : ReplicaState) (first entries second : List LogEntry)
    → mid ≡ record start { entries = start.entries ++ first } → first ≡ entries → next ≡ record mid { entries = mid.entries ++ second }
    → next ≡ record start { entries = start.entries ++ (entries ++ second) }
both_applied start mid next first entries second was are made =
    let Next : ReplicaState → ReplicaState = λ r. record r { entries = r.entries ++ second } in
    let With : List LogEntry → ReplicaState = λ l. record start { entries = l } in
    made ∙ ap Next (was ∙ ap With (ap (λ (l : List LogEntry). start.entries ++ l) are)) ∙ ap With (append_assoc start.entries entries second)

-- ---- what is kept of a place

-- what is among the first entries is among all of them
first_there : (entries : List LogEntry) (n place : ℕ) (entry : LogEntry) → place < length (take n entries) → slice_get entries place ≡ Some entry
    → slice_get (take n entries) place ≡ Some entry
first_there entries n place entry lt there =
    sym (get_left (take n entries) (drop n entries) place lt) ∙ ap (λ (l : List LogEntry). slice_get l place) (take-append-drop n entries) ∙ there

-- the answer of a replica is that of its node, where the replica has applied the first entries of the log
pub answer_there : (depth : Depth) (replicas : ℕ) (node view : NodeState) (replica : ReplicaState) (place : ℕ) (entry : LogEntry) (result : Option Answer)
    → IsNode depth replicas node → Follows depth replicas node replica → node ≡ view
    → MatchOption result (node.base ≤ place → slice_get replica.entries place ≢ Some entry)
    (λ answer. (slice_get replica.entries place ≡ Some entry)
    × (answer ≡ answer_at replica.depth node.tables replica.entries place entry.op))
    → MatchOption result (view.base ≤ place → place < view.applied → slice_get (log_of replicas view).entries place ≢ Some entry)
    (λ answer. (slice_get (log_of replicas view).entries place ≡ Some entry)
    × (answer ≡ answer_at depth view.tables (log_of replicas view).entries place entry.op) × (place + 1 ≤ view.applied))
answer_there depth replicas node view replica place entry None is follows same none =
    let Is : NodeState → Type 0 = λ v. v.base ≤ place → place < v.applied → slice_get (log_of replicas v).entries place ≢ Some entry in
    let had = had_taken depth replicas node replica is follows in
    let all = (log_of replicas node).entries in
    let n = node.applied in
    let here : length (take n all) ≡ n = length-take-le n all is.written in
    subst Is same (λ low lt there.
    none low (ap (λ (l : List LogEntry). slice_get l place) follows.entries ∙ first_there all n place entry (omega (arith, here, lt)) there))
answer_there depth replicas node view replica place entry (Some answer) is follows same some =
    let Is : NodeState → Type 0 = λ v. (slice_get (log_of replicas v).entries place ≡ Some entry)
    × (answer ≡ answer_at depth v.tables (log_of replicas v).entries place entry.op) × (place + 1 ≤ v.applied) in
    let all = (log_of replicas node).entries in
    let n = node.applied in
    let first : slice_get (take n all) place ≡ Some entry = ap (λ (l : List LogEntry). slice_get l place) (sym follows.entries) ∙ some.0 in
    let within = slice_get_within (take n all) place entry first in
    let here : length (take n all) ≡ n = length-take-le n all is.written in
    let there : slice_get all place ≡ Some entry =
    ap (λ (l : List LogEntry). slice_get l place) (sym (take-append-drop n all)) ∙ slice_more (take n all) (drop n all) place entry first in
    let before : take place replica.entries ≡ take place all =
    ap (take place) follows.entries
    ∙ sym (take-append-le place (take n all) (drop n all) (omega (arith, within)))
    ∙ ap (take place) (take-append-drop n all) in
    let answered : answer ≡ answer_at depth node.tables all place entry.op =
    some.1
    ∙ ap (λ (d : Depth). answer_at d node.tables replica.entries place entry.op) follows.depth_is
    ∙ ap (λ (l : List LogEntry). (step depth node.tables (space_of depth node.tables l) entry.op).answer) before in
    subst Is same (there, answered, omega (arith, within, here))
