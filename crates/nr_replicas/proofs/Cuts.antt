-- What a cut shows, and the loops of a cut.
use Rattle.std.proofs.Common.{◌≡◌, ℕ, zero, suc, ◌+◌, ◌-◌, ◌<◌, ◌≤◌, List, [], ◌∷◌, ◌++◌, All, Option, Some, None, length, map, take, drop, get_or, refl, ap}
use Rattle.std.proofs.Common.{sym, subst, ◌∙◌, arith}
use Rattle.std.specs.List.{AllZip}
use Rattle.std.proofs.lemmas.List.{drop_all, length-drop, length-map, take_all}
use Rattle.std.proofs.lemmas.List.Elements.{All-map}
use Rattle.vs_types.specs.Config.{Layout}
use Rattle.vs_types.specs.declared.addresses.depth.Depth.{Depth}
use Rattle.vs_types.specs.declared.log_entry.LogEntry.{LogEntry}
use Rattle.vs_walk.specs.Dump.{Image}
use Rattle.nr_ring.specs.LogHistory.{Log, IsLogHistory, completed, local_of, log_after, tail}
use Rattle.nr_ring.specs.Pass.{Known, TableId}
use Rattle.nr_ring.specs.View.{StartsWith}
use Rattle.nr_ring.specs.declared.ring.log_event.LogEvent.{LogEvent}
use Rattle.nr_ring.proofs.Histories.{beginning_goes_on, history_fits, tail_rises}
use Rattle.nr_ring.proofs.LocalTails.{below_greatest, greatest_least}
use Rattle.nr_slots.specs.Updates.{Waiting}
use Rattle.nr_node.specs.Node.{IsNode, NodeState, held_of, log_of, replica_of, taken_by}
use Rattle.nr_node.specs.declared.held.Held.TheVariants.{Nothing}
use Rattle.nr_node.proofs.Nodes.{take_still}
use Rattle.nr_replicas.specs.Replicas.{HasHeard}
use Rattle.nr_replicas.specs.Settled.{IsCut}
use Rattle.nr_replicas.specs.inside.Replicas.{AreNodes, AreShared, IsNodeOf}
use Rattle.nr_replicas.specs.inside.Settling.{AreDumpsOf, HaveMet, IsDone, WasTold, forgotten}
use Rattle.nr_replicas.proofs.Settled.{all_dumps_stay, call_of, known_of}

-- what holds of the items of two lists, place by place, is what follows from it
pub zip_on : {X Y : Type 0} (R S : X → Y → Type 0) (xs : List X) (ys : List Y) → ((x : X) (y : Y) → R x y → S x y) → AllZip R xs ys → AllZip S xs ys
zip_on R S [] [] on all = tt
zip_on R S (x ∷ xs) (y ∷ ys) on all = (on x y all.0, zip_on R S xs ys on all.1)
zip_on R S [] (y ∷ ys) on all = absurd all
zip_on R S (x ∷ xs) [] on all = absurd all

-- and of the second of the two
pub zip_right : {X Y : Type 0} (R : X → Y → Type 0) (Q : Y → Type 0) (xs : List X) (ys : List Y) → ((x : X) (y : Y) → R x y → Q y)
    → AllZip R xs ys → All Q ys
zip_right R Q [] [] on all k d lt = absurd (omega (arith, lt))
zip_right R Q (x ∷ xs) (y ∷ ys) on all zero d lt = on x y all.0
zip_right R Q (x ∷ xs) (y ∷ ys) on all (suc k) d lt = zip_right R Q xs ys on all.1 k d (omega (arith, lt))
zip_right R Q [] (y ∷ ys) on all k d lt = absurd all
zip_right R Q (x ∷ xs) [] on all k d lt = absurd all

-- a node that holds nothing has no batch
pub held_nothing : (batch : List Waiting) (first : Option ℕ) → held_of batch first ≡ Nothing → batch ≡ []
held_nothing [] first e = refl
held_nothing (w ∷ ws) None e = absurd cc
held_nothing (w ∷ ws) (Some place) e = absurd cc

-- the nodes when they have forgotten what they have applied
pub forgotten_nodes : (depth : Depth) (replicas tables base count : ℕ) (log : TableId) (layout : Layout) (slots : List ℕ) (nodes : List NodeState)
    → AreShared depth replicas tables layout slots → length nodes ≡ length slots → All (IsNodeOf log tables base) nodes
    → All (IsDone replicas count) nodes → AreNodes depth replicas log layout count (map forgotten nodes)
forgotten_nodes depth replicas tables base count log layout slots nodes are many each done =
    let Of : NodeState → Type 0 = IsNodeOf log layout.tables count in
    let Idle : NodeState → Type 0 = λ n. n.batch ≡ [] in
    record {
      depth_is = are.depth_is;
      replicas_are = are.replicas_are;
      some = are.some;
      count = length-map nodes forgotten ∙ many ∙ are.count;
      each = All-map Of forgotten nodes (λ k d lt.
          let is = each k d lt in
          record { log_is = is.log_is; tables_are = is.tables_are ∙ sym are.tables_are; base_is = (done k d lt).all });
      idle = All-map Idle forgotten nodes (λ k d lt. (done k d lt).idle);
    }

-- the dumps of nodes that have applied so many entries, which are all that there are
all_applied_are : (depth : Depth) (replicas tables base count : ℕ) (history : List LogEvent) (nodes : List NodeState) (dumps : List Image)
    → IsLogHistory depth replicas history → count ≡ tail (log_after replicas history) → All (λ node. StartsWith history node.known.view.seen) nodes
    → AreDumpsOf depth replicas tables base (map (λ node. node.known) nodes) dumps → All (IsDone replicas count) nodes
    → All (λ dump. base + dump.applied ≡ count) dumps
all_applied_are depth replicas tables base count history [] [] is end begin are done k d lt = absurd (omega (arith, lt))
all_applied_are depth replicas tables base count history (n ∷ ns) (x ∷ xs) is end begin are done zero d lt =
    let own = done 0 n (omega arith) in
    let on = beginning_goes_on depth replicas history n.known.view.seen is (begin 0 n (omega arith)) in
    omega (arith, are.0.applied, are.1, own.taken, own.all, end, tail_rises (log_after replicas n.known.view.seen) (log_after replicas history) on)
all_applied_are depth replicas tables base count history (n ∷ ns) (x ∷ xs) is end begin are done (suc k) d lt =
    all_applied_are depth replicas tables base count history ns xs is end (λ j e l. begin (suc j) e (omega (arith, l))) are.2
    (λ j e l. done (suc j) e (omega (arith, l))) k d (omega (arith, lt))
all_applied_are depth replicas tables base count history [] (x ∷ xs) is end begin are done k d lt = absurd are
all_applied_are depth replicas tables base count history (n ∷ ns) [] is end begin are done k d lt = absurd are

-- a log of which one replica has taken all is completed
all_completed : (depth : Depth) (replicas : ℕ) (history : List LogEvent) (node : NodeState) → IsLogHistory depth replicas history
    → StartsWith history node.known.view.seen → taken_by replicas node.known.view ≡ tail (log_after replicas history)
    → completed (log_after replicas history) ≡ tail (log_after replicas history)
all_completed depth replicas history node is begins all =
    let log = log_after replicas history in
    let own = replica_of node.known.view in
    let on = beginning_goes_on depth replicas history node.known.view.seen is begins in
    let fits = history_fits depth replicas history is in
    let high = greatest_least log.locals (tail log) fits.written in
    let low = below_greatest log.locals own in
    omega (arith, all, on.locals own, high, low)

-- nodes that have applied all are cut
pub cut_is : (depth : Depth) (replicas places tables base count : ℕ) (log : TableId) (node : NodeState) (nodes : List NodeState)
    (before after : List Known) (calls : List ℕ) (dumps : List Image)
    → HaveMet depth replicas places count nodes before after → All (IsNodeOf log tables base) nodes → All (IsDone replicas count) nodes
    → 0 < length nodes → length nodes ≡ replicas → node ≡ get_or nodes 0 node → IsNode depth replicas node
    → calls ≡ map (λ entry. entry.call) (drop node.base (take (taken_by replicas node.known.view) (log_of replicas node).entries))
    → AreDumpsOf depth replicas tables base (map (λ node. node.known) nodes) dumps → length dumps ≡ length nodes
    → IsCut depth replicas places tables base before after calls dumps × (count ≡ base + length calls)
cut_is depth replicas places tables base count log node nodes before after calls dumps met each done some many here is first_calls are one_each =
    let history = met.history in
    let later = log_after replicas history in
    let earlier = log_of replicas node in
    let Begins : NodeState → Type 0 = λ n. StartsWith history n.known.view.seen in
    let begins : Begins node = subst Begins (sym here) (met.nodes_begin 0 node some) in
    let on = beginning_goes_on depth replicas history node.known.view.seen met.is_history begins in
    let Done : NodeState → Type 0 = IsDone replicas count in
    let done_first : Done node = subst Done (sym here) (done 0 node some) in
    let node_base : node.base ≡ base = ap (λ (n : NodeState). n.base) here ∙ (each 0 node some).base_is in
    let n = taken_by replicas node.known.view in
    let all : n ≡ tail later = done_first.taken ∙ done_first.all ∙ met.count_is in
    let entries : take n earlier.entries ≡ later.entries =
    sym (take_still earlier.entries later.entries on.entries.0 n on.entries.1 (omega (arith, is.behind, is.written)))
    ∙ take_all n later.entries (omega (arith, all)) in
    let calls_are : calls ≡ map call_of (drop base later.entries) =
    first_calls
    ∙ ap (λ (k : ℕ). map call_of (drop k (take n earlier.entries))) node_base
    ∙ ap (λ (l : List LogEntry). map call_of (drop base l)) entries in
    let low : base ≤ tail later = omega (arith, node_base, is.kept, all) in
    let Passes : Known → Type 0 = λ pass. StartsWith history pass.view.seen in (
      record {
        history = history;
        is_history = met.is_history;
        begins = met.begins;
        heard = zip_right (WasTold depth replicas history) (λ (p : Known). StartsWith p.view.seen history) before after (λ x y told. told.1) met.told;
        ends = met.ends;
        base_below = low;
        calls_are = calls_are;
        one_each = one_each ∙ many;
        dumps_are = all_dumps_stay depth replicas tables base history (map known_of nodes) dumps met.is_history
            (All-map Passes known_of nodes met.nodes_begin) are;
        all_applied = subst (λ (n : ℕ). All (λ (dump : Image). base + dump.applied ≡ n) dumps) met.count_is
            (all_applied_are depth replicas tables base count history nodes dumps met.is_history met.count_is met.nodes_begin are done);
        completed_is = all_completed depth replicas history node met.is_history begins all;
      },
      omega (
        arith,
        met.count_is,
        low,
        ap (λ (l : List ℕ). length l) calls_are,
        length-map (drop base later.entries) call_of,
        length-drop base later.entries,
      ),
    )
