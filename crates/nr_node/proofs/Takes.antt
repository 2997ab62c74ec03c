-- What a node is where it takes, or follows, all entries.
use Rattle.std.proofs.Common.{◌≡◌, ℕ, ◌+◌, ◌-◌, ◌≤◌, List, [], ◌∷◌, ◌++◌, All, Option, Some, None, length, drop, take, get_or, ap, sym, subst}
use Rattle.std.proofs.Common.{◌∙◌, arith}
use Rattle.std.proofs.Math.ListN.{length-append}
use Rattle.std.proofs.Math.Seq.{take-length}
use Rattle.std.proofs.lemmas.List.{length-drop, take-append-drop}
use Rattle.vs_types.specs.LogEntry.{IsLogEntry}
use Rattle.vs_types.specs.Operation.{IsAction}
use Rattle.vs_types.specs.declared.addresses.depth.Depth.{Depth}
use Rattle.vs_types.specs.declared.log_entry.LogEntry.{LogEntry}
use Rattle.nr_ring.specs.Calls.{HasLooked}
use Rattle.nr_ring.specs.Entries.{HasTakenAll}
use Rattle.nr_ring.specs.LogHistory.{log_after, tail}
use Rattle.nr_ring.specs.Pass.{Known}
use Rattle.nr_ring.specs.declared.ring.view.View.{View}
use Rattle.vs_types.specs.declared.limits.TheConstants.{RING}
use Rattle.nr_slots.specs.Updates.{Waiting}
use Rattle.nr_node.specs.Calls.{HasCaughtUp, HasFollowed, answers_of, left_of}
use Rattle.nr_node.specs.Node.{IsNode, StandFrom, replica_of}
use Rattle.nr_node.specs.inside.Node.{Follows, IsAhead, node_state}
use Rattle.nr_node.specs.inside.Replica.{ReplicaState}
use Rattle.nr_node.proofs.Lists.{slice_from}
use Rattle.nr_node.proofs.Looks.{TookAll, looked_taken, took_local}
use Rattle.nr_node.proofs.Nodes.{ends_within, stand_still, take_still}

-- a replica with what a slice has from a place on, by the list of which the slice is
pub applied_from : (replica : ReplicaState) (ahead : ℕ) (slice whole : List LogEntry) → slice ≡ whole
    → record replica { entries = replica.entries ++ take (length slice - ahead) (drop ahead slice) }
    ≡ record replica { entries = replica.entries ++ drop ahead whole }
applied_from replica ahead slice whole same =
    ap (λ (l : List LogEntry). record replica { entries = replica.entries ++ l }) (slice_from ahead slice whole same)

-- ---- all entries taken

-- the entries that it had and those that it took are all that there are
pub all_entries : (depth : Depth) (replicas : ℕ) (known after : Known) (replica : ReplicaState) (batch : List Waiting) (first : Option ℕ)
    (entries : List LogEntry)
    → TookAll depth replicas known.view (length replica.entries) entries after.view → IsNode depth replicas (node_state known replica batch first)
    → Follows depth replicas (node_state known replica batch first) replica
    → replica.entries ++ entries ≡ (log_after replicas after.view.seen).entries
all_entries depth replicas known after replica batch first entries took is follows =
    let n = length replica.entries in
    let log = log_after replicas known.view.seen in
    let later = log_after replicas after.view.seen in
    ap (λ l. l ++ entries) (follows.entries ∙ sym (take_still log.entries later.entries took.more.0 n took.more.1 is.written))
    ∙ ap (λ l. take n later.entries ++ l) took.entries_are
    ∙ take-append-drop n later.entries

left_holds : (P : Waiting → Type 0) (first : Option ℕ) (batch : List Waiting) → All P batch → All P (left_of first batch)
left_holds P None batch all = all
left_holds P (Some place) batch all = λ k d lt. absurd (omega arith)

left_few : (first : Option ℕ) (batch : List Waiting) → length batch ≤ RING → length (left_of first batch) ≤ RING
left_few None batch few = few
left_few (Some place) batch few = omega arith

-- a replica that has these entries too is its node's, with calls that are as they were or fewer, none of which is placed
moved_node : (depth : Depth) (replicas : ℕ) (known after : Known) (replica next : ReplicaState) (batch left : List Waiting) (first now : Option ℕ)
    (entries : List LogEntry) → ((place : ℕ) → now ≡ Some place → ⊥) → All (λ waiting. IsAction depth waiting.op) left → length left ≤ RING
    → TookAll depth replicas known.view (length replica.entries) entries after.view → IsNode depth replicas (node_state known replica batch first)
    → next ≡ record replica { entries = replica.entries ++ entries } → IsNode depth replicas (node_state after next left now)
moved_node depth replicas known after replica next batch left first now entries unplaced fit few took is same =
    let P : List ℕ → Type 0 = λ l. l ≡ Rattle.std.specs.Prelude.slice_index l 0 ∷ [] in
    let many : length next.entries ≡ tail (log_after replicas after.view.seen) =
    ap (λ (r : ReplicaState). length r.entries) same ∙ length-append replica.entries entries ∙ took.count in
    record {
      owner = subst P (sym took.owns) is.owner;
      behind = omega (arith, took.low, many);
      written = omega (arith, many);
      kept = omega (arith, ap (λ (r : ReplicaState). r.base) same, is.kept, took.risen);
      fit = fit;
      few = few;
      placed = λ place at. absurd (unplaced place at);
    }

pub took_node : (depth : Depth) (replicas : ℕ) (known after : Known) (replica next : ReplicaState) (batch : List Waiting) (first : Option ℕ)
    (entries : List LogEntry)
    → TookAll depth replicas known.view (length replica.entries) entries after.view → IsNode depth replicas (node_state known replica batch first)
    → next ≡ record replica { entries = replica.entries ++ entries }
    → IsNode depth replicas (node_state after next (left_of first batch) None)
took_node depth replicas known after replica next batch first entries took is same =
    moved_node depth replicas known after replica next batch (left_of first batch) first None entries (λ place at. cc)
    (left_holds (λ waiting. IsAction depth waiting.op) first batch is.fit) (left_few first batch is.few) took is same

pub took_follows : (depth : Depth) (replicas : ℕ) (known after : Known) (replica next : ReplicaState) (batch left : List Waiting) (first now : Option ℕ)
    (entries : List LogEntry)
    → TookAll depth replicas known.view (length replica.entries) entries after.view → IsNode depth replicas (node_state known replica batch first)
    → Follows depth replicas (node_state known replica batch first) replica → next ≡ record replica { entries = replica.entries ++ entries }
    → Follows depth replicas (node_state after next left now) next
took_follows depth replicas known after replica next batch left first now entries took is follows same =
    let later = log_after replicas after.view.seen in
    let all : next.entries ≡ later.entries =
    ap (λ (r : ReplicaState). r.entries) same ∙ all_entries depth replicas known after replica batch first entries took is follows in
    record {
      depth_is = ap (λ (r : ReplicaState). r.depth) same ∙ follows.depth_is;
      entries = all ∙ sym (take-length later.entries) ∙ ap (λ n. take n later.entries) (sym (ap (λ (l : List LogEntry). length l) all));
    }

-- where it took them it is not ahead
pub took_ahead : (depth : Depth) (replicas : ℕ) (known after : Known) (replica next : ReplicaState) (whole entries : List LogEntry)
    → HasTakenAll depth replicas known.view whole after.view → TookAll depth replicas known.view (length replica.entries) entries after.view
    → next ≡ record replica { entries = replica.entries ++ entries } → IsAhead replicas after.view next 0
took_ahead depth replicas known after replica next whole entries taken took same =
    let many : length next.entries ≡ tail (log_after replicas after.view.seen) =
    ap (λ (r : ReplicaState). length r.entries) same ∙ length-append replica.entries entries ∙ took.count in
    omega (arith, many, took_local depth replicas known.view after.view whole taken)

pub caught_up : (depth : Depth) (replicas : ℕ) (known after : Known) (replica next : ReplicaState) (batch : List Waiting) (first : Option ℕ)
    (whole entries : List LogEntry)
    → HasTakenAll depth replicas known.view whole after.view → TookAll depth replicas known.view (length replica.entries) entries after.view
    → IsNode depth replicas (node_state known replica batch first) → next ≡ record replica { entries = replica.entries ++ entries }
    → HasCaughtUp depth replicas (node_state known replica batch first) (length entries) (node_state after next (left_of first batch) None)
caught_up depth replicas known after replica next batch first whole entries took all is same =
    let log = log_after replicas known.view.seen in
    let later = log_after replicas after.view.seen in
    let longer : tail log ≤ tail later = omega (arith, ap (λ (l : List LogEntry). length l) all.more.1, length-append log.entries all.more.0) in
    let risen : length next.entries ≡ length replica.entries + length entries =
    ap (λ (r : ReplicaState). length r.entries) same ∙ length-append replica.entries entries in
    record {
      seen_before = took.between;
      looked = took.looked;
      taken = took.taken;
      risen = risen;
      all = omega (arith, risen, all.count);
      fresh = omega (arith, risen, all.count, longer);
      held = λ place at.
          let was = is.placed place at in
          let ends = ends_within log.entries place batch was.some was.stand in
          record {
            above = was.above;
            below = omega (arith, ends, longer, risen, all.count);
            stand = subst (λ l. StandFrom l place batch) (sym all.more.1) (stand_still log.entries all.more.0 place batch was.stand);
          };
      left = ap (λ (r : ReplicaState). record {
        known = after;
        tables = r.tables;
        base = r.base;
        applied = length next.entries;
        batch = left_of first batch;
        first = None;
      }) same;
    }

-- ---- all entries followed

pub followed_node : (depth : Depth) (replicas : ℕ) (known after : Known) (replica next : ReplicaState) (batch : List Waiting) (first : Option ℕ)
    (entries : List LogEntry) → ((place : ℕ) → first ≡ Some place → ⊥)
    → TookAll depth replicas known.view (length replica.entries) entries after.view → IsNode depth replicas (node_state known replica batch first)
    → next ≡ record replica { entries = replica.entries ++ entries } → IsNode depth replicas (node_state after next batch first)
followed_node depth replicas known after replica next batch first entries unplaced took is same =
    moved_node depth replicas known after replica next batch batch first first entries unplaced is.fit is.few took is same

pub followed : (depth : Depth) (replicas : ℕ) (known after : Known) (replica next : ReplicaState) (batch : List Waiting) (first : Option ℕ)
    (entries : List LogEntry)
    → HasLooked depth replicas known.view after.view → TookAll depth replicas known.view (length replica.entries) entries after.view
    → next ≡ record replica { entries = replica.entries ++ entries }
    → HasFollowed depth replicas (node_state known replica batch first) (node_state after next batch first)
followed depth replicas known after replica next batch first entries looked all same =
    let log = log_after replicas known.view.seen in
    let longer : tail log ≤ tail (log_after replicas after.view.seen) =
    omega (arith, ap (λ (l : List LogEntry). length l) all.more.1, length-append log.entries all.more.0) in
    let risen : length next.entries ≡ length replica.entries + length entries =
    ap (λ (r : ReplicaState). length r.entries) same ∙ length-append replica.entries entries in
    record {
      looked = looked;
      all = omega (arith, risen, all.count);
      fresh = omega (arith, risen, all.count, longer);
      left = ap (λ (r : ReplicaState). record {
        known = after;
        tables = r.tables;
        base = r.base;
        applied = length next.entries;
        batch = batch;
        first = first;
      }) same;
    }

-- what it peeked at are as many entries as it is then ahead
pub peeked_ahead : (depth : Depth) (replicas : ℕ) (known after : Known) (replica next : ReplicaState) (ahead : ℕ) (whole : List LogEntry)
    → HasLooked depth replicas known.view after.view → known.view.owns ≡ replica_of known.view ∷ [] → IsAhead replicas known.view replica ahead
    → ahead ≤ length whole → next ≡ record replica { entries = replica.entries ++ drop ahead whole } → IsAhead replicas after.view next (length whole)
peeked_ahead depth replicas known after replica next ahead whole looked owner is few same =
    omega (
      arith,
      is,
      few,
      looked_taken depth replicas known.view after.view looked owner,
      ap (λ (r : ReplicaState). length r.entries) same,
      length-append replica.entries (drop ahead whole),
      length-drop ahead whole,
    )

pub next_entries : (depth : Depth) (replicas : ℕ) (known after : Known) (replica next : ReplicaState) (batch : List Waiting) (first : Option ℕ)
    (entries : List LogEntry)
    → TookAll depth replicas known.view (length replica.entries) entries after.view → IsNode depth replicas (node_state known replica batch first)
    → Follows depth replicas (node_state known replica batch first) replica → next ≡ record replica { entries = replica.entries ++ entries }
    → next.entries ≡ (log_after replicas after.view.seen).entries
next_entries depth replicas known after replica next batch first entries took is follows same =
    ap (λ (r : ReplicaState). r.entries) same ∙ all_entries depth replicas known after replica batch first entries took is follows

pub stands_after : (depth : Depth) (replicas : ℕ) (known after : Known) (replica next : ReplicaState) (batch : List Waiting) (first : Option ℕ)
    (entries : List LogEntry)
    → TookAll depth replicas known.view (length replica.entries) entries after.view → IsNode depth replicas (node_state known replica batch first)
    → next.entries ≡ (log_after replicas after.view.seen).entries → (place : ℕ) → first ≡ Some place → StandFrom next.entries place batch
stands_after depth replicas known after replica next batch first entries took is same place at =
    subst (λ l. StandFrom l place batch) (sym (same ∙ took.more.1))
    (stand_still (log_after replicas known.view.seen).entries took.more.0 place batch (is.placed place at).stand)

pub answers_after : (depth : Depth) (replica next : ReplicaState) (batch : List Waiting) (first : Option ℕ) (entries later : List LogEntry)
    → next ≡ record replica { entries = replica.entries ++ entries } → next.entries ≡ later → replica.depth ≡ depth
    → answers_of next.depth next.tables next.entries first batch ≡ answers_of depth replica.tables later first batch
answers_after depth replica next batch first entries later same are is =
    ap (λ (r : ReplicaState). answers_of r.depth r.tables next.entries first batch) same
    ∙ ap (λ d. answers_of d replica.tables next.entries first batch) is
    ∙ ap (λ l. answers_of depth replica.tables l first batch) are

-- the entries fit that it took
pub took_fit : (depth : Depth) (replicas n : ℕ) (a c : View) (entries : List LogEntry) (d : Depth) → TookAll depth replicas a n entries c → d ≡ depth
    → All (IsLogEntry d) entries
took_fit depth replicas n a c entries d took is k e lt =
    subst (λ z. IsLogEntry z (get_or entries k e)) (sym is) (took.fit k e lt)
