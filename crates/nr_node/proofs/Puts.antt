-- What a node is where its batch is put.
use Rattle.std.proofs.Common.{◌≡◌, ℕ, zero, suc, ◌+◌, ◌<◌, ◌≤◌, List, [], ◌∷◌, ◌++◌, All, Option, Some, None, length, drop, take, option_map, ap, sym, subst}
use Rattle.std.proofs.Common.{◌∙◌, arith, refl}
use Rattle.std.specs.Prelude.{slice_get}
use Rattle.std.proofs.Math.ListN.{length-append, get_or-append}
use Rattle.std.proofs.lemmas.List.{drop-append-le, length-drop}
use Rattle.std.proofs.lemmas.Option.{slice_get-map}
use Rattle.vs_types.specs.LogEntry.{IsLogEntry}
use Rattle.vs_types.specs.Operation.{IsAction}
use Rattle.vs_types.specs.declared.addresses.depth.Depth.{Depth}
use Rattle.vs_types.specs.declared.limits.TheConstants.{CALLS}
use Rattle.vs_types.specs.declared.log_entry.LogEntry.{LogEntry}
use Rattle.vs_types.proofs.Lists.{get_right}
use Rattle.nr_ring.specs.Calls.{with_event}
use Rattle.nr_ring.specs.Entries.{HasAppended, HasAppendedAndTaken, HasTakenAll}
use Rattle.nr_ring.specs.LogHistory.{Log, local_of, log_after, log_after_event, new_log, tail}
use Rattle.nr_ring.specs.Pass.{Known}
use Rattle.nr_ring.specs.declared.ring.log_event.LogEvent.TheVariants.{Append}
use Rattle.nr_ring.specs.declared.ring.view.View.{View}
use Rattle.nr_ring.proofs.Views.{after_one_more}
use Rattle.nr_slots.specs.Updates.{Waiting}
use Rattle.nr_node.specs.Calls.{HasPutAndCaughtUp, entries_of, entry_of}
use Rattle.nr_node.specs.Node.{IsNode, NodeState, replica_of, taken_by}
use Rattle.nr_node.specs.inside.Node.{Follows, IsAhead, node_state}
use Rattle.nr_node.specs.inside.Replica.{ReplicaState}
use Rattle.nr_node.proofs.Lists.{same_some}
use Rattle.nr_node.proofs.Looks.{TookAll, looked_on, looked_replica, looked_taken, took_all}
use Rattle.nr_node.proofs.Nodes.{looked_follows, looked_node, take_still}
use Rattle.nr_node.proofs.Takes.{caught_up, next_entries, took_ahead, took_fit, took_follows, took_node}

-- ---- an append

-- the entries of a batch fit
pub batch_fits : (depth : Depth) (batch : List Waiting) → All (λ waiting. IsAction depth waiting.op) batch
    → All (λ entry. entry.call < CALLS) (entries_of batch)
    → All (IsLogEntry depth) (entries_of batch)
batch_fits depth [] fit calls k d lt = absurd (omega arith)
batch_fits depth (w ∷ ws) fit calls zero d lt = record { well_formed = fit zero w (omega arith); in_range = calls zero d (omega arith) }
batch_fits depth (w ∷ ws) fit calls (suc k) d lt =
    batch_fits depth ws (λ j e l. fit (suc j) e (omega arith)) (λ j e l. calls (suc j) e (omega arith)) k d (omega arith)

pub appended_node : (depth : Depth) (replicas : ℕ) (known after : Known) (replica : ReplicaState) (batch : List Waiting) (first : Option ℕ) (place : ℕ)
    → HasAppended depth replicas known.view (entries_of batch) place after.view → 1 ≤ length batch
    → IsNode depth replicas (node_state known replica batch first) → Follows depth replicas (node_state known replica batch first) replica
    → IsNode depth replicas (node_state after replica batch (Some place)) × Follows depth replicas (node_state after replica batch (Some place)) replica
    × (taken_by replicas after.view ≡ taken_by replicas known.view)
appended_node depth replicas known after replica batch first place h some is follows =
    subst Stays (sym h.appended) (
      record {
        owner = now.owner;
        behind = omega (arith, low, now.behind);
        written = omega (arith, now.written, longer);
        kept = omega (arith, low, now.kept);
        fit = is.fit;
        few = is.few;
        placed = λ p at.
            let here : place ≡ p = same_some at in
            record {
              some = some;
              above = omega (arith, now.written, h.place_is, here);
              stand = λ i waiting e.
                  let sum : p + i ≡ length log.entries + i = omega (arith, h.place_is, here) in
                  ap (λ l. slice_get l (p + i)) entries
                  ∙ ap (slice_get (log.entries ++ entries_of batch)) sum
                  ∙ get_right log.entries (entries_of batch) i
                  ∙ slice_get-map entry_of batch i
                  ∙ ap (option_map entry_of) e;
            };
      },
      record {
        depth_is = follows.depth_is;
        entries = was.entries ∙ sym (take_still log.entries later.entries (entries_of batch) (length replica.entries) entries now.written);
      },
      low ∙ looked_taken depth replicas known.view h.seen_before h.looked is.owner,
    ) where
      before : Known
      before = record { log = known.log; view = h.seen_before }

      now : IsNode depth replicas (node_state before replica batch first)
      now = looked_node depth replicas known before replica batch first h.looked is

      was : Follows depth replicas (node_state before replica batch first) replica
      was = looked_follows depth replicas known before replica batch first h.looked is follows

      Stays : View → Type 0
      Stays v = IsNode depth replicas (node_state (record { log = after.log; view = v }) replica batch (Some place))
          × Follows depth replicas (node_state (record { log = after.log; view = v }) replica batch (Some place)) replica
          × (taken_by replicas v ≡ taken_by replicas known.view)

      log : Log
      log = log_after replicas h.seen_before.seen

      later : Log
      later = log_after replicas (with_event h.seen_before (Append (entries_of batch))).seen

      is_later : later ≡ log_after_event log (Append (entries_of batch))
      is_later = after_one_more (new_log replicas) h.seen_before.seen (Append (entries_of batch))

      entries : later.entries ≡ log.entries ++ entries_of batch
      entries = ap (λ (l : Log). l.entries) is_later

      low : taken_by replicas (with_event h.seen_before (Append (entries_of batch))) ≡ taken_by replicas h.seen_before
      low = ap (λ (l : Log). local_of l (replica_of h.seen_before)) is_later

      longer : tail later ≡ tail log + length (entries_of batch)
      longer = ap (λ (l : List LogEntry). length l) entries ∙ length-append log.entries (entries_of batch)

-- ---- a batch put and all entries taken

-- what a pass knows of its log after these events
abbrev pub middle : Known → View → Known
middle known view = record { log = known.log; view = view }

all_front : {X : Type 0} (P : X → Type 0) (xs ys : List X) → All P (xs ++ ys) → All P xs
all_front P xs ys all k d lt = subst P (get_or-append xs ys d k lt) (all k d (omega (arith, length-append xs ys)))

all_back : {X : Type 0} (P : X → Type 0) (xs ys : List X) → All P (xs ++ ys) → All P ys
all_back P [] ys all = all
all_back P (x ∷ xs) ys all = all_back P xs ys (λ k d lt. all (suc k) d (omega arith))

-- what a node is whose pass has appended its batch from a place on, and has then taken all entries, of which the node had so many
pub record PutAndTook (depth : Depth) (replicas : ℕ) (known after : Known) (replica : ReplicaState) (batch : List Waiting) (place ahead : ℕ)
    (entries : List LogEntry) : Type 0 where
  pub between : View
  pub appended : HasAppended depth replicas known.view (entries_of batch) place between
  pub taken : HasTakenAll depth replicas between (entries ++ entries_of batch) after.view
  pub is : IsNode depth replicas (node_state (middle known between) replica batch (Some place))
  pub follows : Follows depth replicas (node_state (middle known between) replica batch (Some place)) replica
  pub few : ahead ≤ length entries
  pub all : TookAll depth replicas between (length replica.entries) (drop ahead entries ++ entries_of batch) after.view

-- what a node has applied lies before its batch
before_batch : (depth : Depth) (replicas : ℕ) (known between after : View) (entries batch : List LogEntry) (place ahead n : ℕ)
    → HasAppended depth replicas known batch place between → HasTakenAll depth replicas between (entries ++ batch) after
    → between.owns ≡ replica_of between ∷ [] → taken_by replicas between + ahead ≡ n → n ≤ tail (log_after replicas known.seen)
    → ahead ≤ length entries
before_batch depth replicas known between after entries batch place ahead n put taken owner sum written =
    let log = log_after replicas put.seen_before.seen in
    let mid = log_after replicas taken.between.seen in
    let on = looked_on depth replicas known put.seen_before put.looked in
    let last = looked_on depth replicas between taken.between taken.looked in
    let here : local_of mid (replica_of between) ≡ taken_by replicas between =
    ap (λ r. local_of mid r) (sym (looked_replica depth replicas between taken.between taken.looked))
    ∙ looked_taken depth replicas between taken.between taken.looked owner in
    let with_batch : (log_after replicas between.seen).entries ≡ log.entries ++ batch =
    ap (λ (v : View). (log_after replicas v.seen).entries) put.appended
    ∙ ap (λ (l : Log). l.entries) (after_one_more (new_log replicas) put.seen_before.seen (Append batch)) in
    omega (
      arith,
      sum,
      written,
      here,
      ap (λ (l : List LogEntry). length l) (taken.entries_are (replica_of between) owner),
      length-drop (local_of mid (replica_of between)) mid.entries,
      length-append entries batch,
      ap (λ (l : List LogEntry). length l) last.entries.1,
      length-append (log_after replicas between.seen).entries last.entries.0,
      ap (λ (l : List LogEntry). length l) with_batch,
      length-append log.entries batch,
      ap (λ (l : List LogEntry). length l) on.entries.1,
      length-append (log_after replicas known.seen).entries on.entries.0,
    )

-- the batch is what a node holds, and its entries are asked for by the first places of an array
pub put_and_took : (depth : Depth) (replicas : ℕ) (known after : Known) (replica : ReplicaState) (batch : List Waiting) (first : Option ℕ)
    (old : NodeState) (asked entries : List LogEntry) (count place ahead : ℕ) → node_state known replica batch first ≡ old → 1 ≤ length old.batch
    → count ≡ length batch → take (length batch) asked ≡ entries_of batch
    → HasAppendedAndTaken depth replicas known.view (take count asked) place entries after.view
    → IsNode depth replicas (node_state known replica batch first) × Follows depth replicas (node_state known replica batch first) replica
    × IsAhead replicas known.view replica ahead
    → PutAndTook depth replicas known after replica batch place ahead entries
put_and_took depth replicas known after replica batch first old asked entries count place ahead holds some counts asks done is =
    let same : take count asked ≡ entries_of batch = ap (λ (n : ℕ). take n asked) counts ∙ asks in
    let Holds : NodeState → Type 0 = λ n. 1 ≤ length n.batch in
    let Appends : List LogEntry → Type 0 = λ l. HasAppended depth replicas known.view l place done.between in
    let Takes : List LogEntry → Type 0 = λ l. HasTakenAll depth replicas done.between (entries ++ l) after.view in
    let appended = subst Appends same done.appended in
    let taken = subst Takes same done.taken in
    let put = appended_node depth replicas known (middle known done.between) replica batch first place appended (subst Holds (sym holds) some) is.0 is.1 in
    let n = length replica.entries in
    let log = log_after replicas known.view.seen in
    let sum : taken_by replicas done.between + ahead ≡ n = omega (arith, is.2, put.2) in
    let all = took_all depth replicas done.between after.view (entries ++ entries_of batch) ahead n taken put.0.owner sum put.0.written in
    let Took : List LogEntry → Type 0 = λ l. TookAll depth replicas done.between n l after.view in
    let few : ahead ≤ length entries = before_batch depth replicas known.view done.between after.view entries (entries_of batch) place ahead n appended taken
    put.0.owner sum is.0.written in
    record {
      between = done.between;
      appended = appended;
      taken = taken;
      is = put.0;
      follows = put.1;
      few = few;
      all = subst Took (drop-append-le ahead entries (entries_of batch) few) all;
    }

module _ (depth : Depth) (replicas : ℕ) (known after : Known) (replica : ReplicaState) (batch : List Waiting) (place ahead : ℕ) (entries : List LogEntry)
    (did : PutAndTook depth replicas known after replica batch place ahead entries) where
  abbrev mid : Known
  mid = middle known did.between

  -- the entries before the batch fit, and those of the batch
  pub put_fit : (d : Depth) → d ≡ depth → All (IsLogEntry d) (drop ahead entries) × All (IsLogEntry d) (entries_of batch)
  put_fit d same =
      let all = took_fit depth replicas (length replica.entries) did.between after.view (drop ahead entries ++ entries_of batch) d did.all same in
      (all_front (IsLogEntry d) (drop ahead entries) (entries_of batch) all, all_back (IsLogEntry d) (drop ahead entries) (entries_of batch) all)

  module _ (next : ReplicaState) (same : next ≡ record replica { entries = replica.entries ++ (drop ahead entries ++ entries_of batch) }) where
    -- its entries are all that there are, and it is a node that has caught up
    pub put_entries : next.entries ≡ (log_after replicas after.view.seen).entries
    put_entries = next_entries depth replicas mid after replica next batch (Some place) (drop ahead entries ++ entries_of batch) did.all did.is did.follows same

    put_node : IsNode depth replicas (node_state after next [] None) × Follows depth replicas (node_state after next [] None) next
        × IsAhead replicas after.view next 0
    put_node = (
      took_node depth replicas mid after replica next batch (Some place) (drop ahead entries ++ entries_of batch) did.all did.is same,
      took_follows depth replicas mid after replica next batch [] (Some place) None (drop ahead entries ++ entries_of batch) did.all did.is did.follows same,
      took_ahead depth replicas mid after replica next (entries ++ entries_of batch) (drop ahead entries ++ entries_of batch) did.taken did.all same,
    )

    put_caught_up : (first : Option ℕ)
        → HasPutAndCaughtUp depth replicas (node_state known replica batch first) (node_state after next [] None)
    put_caught_up first = record {
      between = node_state mid replica batch (Some place);
      first = place;
      count = length (drop ahead entries ++ entries_of batch);
      appended = did.appended;
      placed = refl;
      caught_up = caught_up depth replicas mid after replica next batch (Some place) (entries ++ entries_of batch)
          (drop ahead entries ++ entries_of batch) did.taken did.all did.is same;
    }

    -- the batch had no place, and is emptied
    pub put_left : (old : NodeState) (left : List Waiting) (first : Option ℕ) → node_state known replica batch first ≡ old → old.first ≡ None → left ≡ []
        → HasPutAndCaughtUp depth replicas old (node_state after next left first)
        × (IsNode depth replicas (node_state after next left first) × Follows depth replicas (node_state after next left first) next
        × IsAhead replicas after.view next 0)
    put_left old left first holds unplaced empty =
        let Is : NodeState → NodeState → Type 0 = λ n now. HasPutAndCaughtUp depth replicas n now
        × (IsNode depth replicas now × Follows depth replicas now next × IsAhead replicas after.view next 0) in
        let before : NodeState = node_state known replica batch first in
        let none : first ≡ None = ap (λ (n : NodeState). n.first) holds ∙ unplaced in
        let ByFirst : Option ℕ → Type 0 = λ f. Is before (node_state after next [] f) in
        let ByLeft : List Waiting → Type 0 = λ l. Is before (node_state after next l first) in
        let ByOld : NodeState → Type 0 = λ n. Is n (node_state after next left first) in
        subst ByOld holds (subst ByLeft (sym empty) (subst ByFirst (sym none) (put_caught_up first, put_node)))
