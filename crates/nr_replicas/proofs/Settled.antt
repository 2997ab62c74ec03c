-- What the dumps and the calls of a log are in each later one.
use Rattle.std.proofs.Common.{◌≡◌, ℕ, zero, suc, ◌+◌, ◌<◌, ◌≤◌, List, [], ◌∷◌, ◌++◌, All, Some, length, map, take, drop, get_or, ⊎_elim, refl, ap, sym, subst}
use Rattle.std.proofs.Common.{◌∙◌, arith}
use Rattle.std.specs.Prelude.{slice_get, slice_index}
use Rattle.std.specs.List.{remove}
use Rattle.std.proofs.Math.ListN.{length-append}
use Rattle.std.proofs.Math.Nat.{eq-or-lt_of_le}
use Rattle.std.proofs.lemmas.List.{append_assoc, append_cancel_left, drop-append-le, get_or_append_left, length-map, length-set, length-take-le, map-append}
use Rattle.std.proofs.lemmas.List.{get_or-set_other, get_or-set_same}
use Rattle.std.proofs.lemmas.List.{take-append-drop}
use Rattle.std.proofs.lemmas.List.Elements.{All-cons, All-map}
use Rattle.std.proofs.lemmas.Option.{slice_get_within}
use Rattle.vs_types.specs.Config.{Layout}
use Rattle.vs_types.specs.Space.{table_count}
use Rattle.vs_types.specs.declared.addresses.depth.Depth.{Depth}
use Rattle.vs_types.specs.declared.log_entry.LogEntry.{LogEntry}
use Rattle.vs_walk.specs.Dump.{Image}
use Rattle.vs_walk.specs.Walk.{TranslatesAs}
use Rattle.nr_ring.specs.Laws.{HasGoneOn}
use Rattle.nr_ring.specs.LogHistory.{Log, IsLogHistory, MayGoOn, local_of, log_after, log_after_event, log_after_events, new_log, tail}
use Rattle.nr_ring.specs.Pass.{Known, TableId}
use Rattle.nr_ring.specs.View.{HasSeenAdvances, IsElse, StartsWith}
use Rattle.nr_ring.specs.declared.ring.log_event.LogEvent.{LogEvent}
use Rattle.nr_ring.specs.declared.ring.log_event.LogEvent.TheVariants.{Advance}
use Rattle.nr_ring.specs.declared.ring.view.View.{View}
use Rattle.nr_ring.proofs.Histories.{after_both, as_many_locals, beginning_goes_on, events_go_on, local_since, tail_rises}
use Rattle.nr_node.specs.Node.{IsNode, NodeState, log_of, replica_of, taken_by}
use Rattle.nr_node.proofs.LaterLogs.{same_space}
use Rattle.nr_node.proofs.Lists.{same_some}
use Rattle.nr_ring.proofs.Appends.{begins}
use Rattle.nr_node.proofs.Nodes.{take_still}
use Rattle.nr_replicas.specs.Replicas.{HasHeard}
use Rattle.nr_replicas.specs.Settled.{IsDumpOf, IsSettled}
use Rattle.nr_replicas.specs.inside.Replicas.{AreShared, IsNodeOf}
use Rattle.nr_replicas.specs.inside.Settling.{AreDumpsOf, HasAppliedOwn, HasSeenOwnAdvances, OwnInTurn}
use Rattle.nr_replicas.proofs.Hearing.{heard_on, heard_twice}
use Rattle.nr_replicas.proofs.Rests.{first_and_rest}

-- ---- what passes have seen

-- what begins with all that they have seen goes on to a longer list that does
pub all_begin_later : (seen later : List LogEvent) (passes : List Known) → StartsWith later seen → All (λ pass. StartsWith seen pass.view.seen) passes
    → All (λ pass. StartsWith later pass.view.seen) passes
all_begin_later seen later passes on all k d lt = begins (get_or passes k d).view.seen seen later (all k d lt) on

-- a pass that has heard of more has taken as many entries for its replica
pub heard_taken : (depth : Depth) (replicas : ℕ) (a b : View) → HasHeard depth replicas a b → a.owns ≡ replica_of a ∷ []
    → taken_by replicas b ≡ taken_by replicas a
heard_taken depth replicas a b is owner =
    let Q : List ℕ → Type 0 = λ l. All (λ replica. HasSeenAdvances replica b.seen a.seen) l in
    ap (λ (l : List ℕ). local_of (log_after replicas b.seen) (slice_index l 0)) is.owns
    ∙ local_since replicas (replica_of a) b.seen a.seen (subst Q owner is.advances 0 0 (omega arith))

-- what has no advance of a replica up to a later history has none up to one between
advances_between : (replica : ℕ) (seen history later : List LogEvent) → StartsWith history seen → StartsWith later history
    → HasSeenAdvances replica later seen → HasSeenAdvances replica history seen
advances_between replica seen history later on further is =
    let whole : seen ++ is.0 ≡ seen ++ (on.0 ++ further.0) =
    sym is.1 ∙ further.1 ∙ ap (λ (l : List LogEvent). l ++ further.0) on.1 ∙ append_assoc seen on.0 further.0 in
    let same : is.0 ≡ on.0 ++ further.0 = append_cancel_left seen is.0 (on.0 ++ further.0) whole in
    let all : All (IsElse replica) (on.0 ++ further.0) = subst (All (IsElse replica)) same is.2 in (
      on.0,
      on.1,
      λ k d lt.
          let long : k < length (on.0 ++ further.0) = omega (arith, lt, length-append on.0 further.0) in
          subst (IsElse replica) (get_or_append_left on.0 further.0 d k lt) (all k d long),
    )

-- a pass that hears of all this history, and that nobody has advanced its replica, knows that nobody has in this history
pub own_between : (history : List LogEvent) (pass : Known) (later : View) → StartsWith history pass.view.seen → StartsWith later.seen history
    → All (λ replica. HasSeenAdvances replica later.seen pass.view.seen) pass.view.owns → HasSeenOwnAdvances history pass
own_between history pass later on further all k d lt =
    advances_between (get_or pass.view.owns k d) pass.view.seen history later.seen on further (all k d lt)

-- in such a history the replica of a pass has taken no more than the pass has seen
own_applied : (replicas base replica : ℕ) (history : List LogEvent) (pass : Known) (dump : Image) → HasAppliedOwn replicas base pass dump
    → pass.view.owns ≡ replica ∷ [] → HasSeenOwnAdvances history pass → local_of (log_after replicas history) replica ≤ base + dump.applied
own_applied replicas base replica history pass dump is owner all =
    let Q : List ℕ → Type 0 = λ l. All (λ r. HasSeenAdvances r history pass.view.seen) l in
    let same : replica_of pass.view ≡ replica = ap (λ (l : List ℕ). slice_index l 0) owner in
    let still = local_since replicas replica history pass.view.seen (subst Q owner all 0 0 (omega arith)) in
    omega (arith, is, ap (local_of (log_after replicas pass.view.seen)) same, still)

-- ---- dumps

-- one node more with its dump
pub one_dump_more : (depth : Depth) (replicas tables base : ℕ) (passes : List Known) (dumps : List Image) (log : TableId) (node : NodeState) (dump : Image)
    → AreDumpsOf depth replicas tables base passes dumps → IsNodeOf log tables base node
    → IsDumpOf depth node.tables node.base (log_of replicas node) dump → HasAppliedOwn replicas node.base node.known dump
    → AreDumpsOf depth replicas tables base (passes ++ node.known ∷ []) (dumps ++ dump ∷ [])
one_dump_more depth replicas tables base [] [] log node dump are of is applied =
    let ByTables : ℕ → Type 0 = λ n. IsDumpOf depth n node.base (log_of replicas node) dump in
    let ByBase : ℕ → Type 0 = λ n. IsDumpOf depth tables n (log_of replicas node) dump in
    let Applied : ℕ → Type 0 = λ n. HasAppliedOwn replicas n node.known dump in
    (subst ByBase of.base_is (subst ByTables of.tables_are is), subst Applied of.base_is applied, tt)
one_dump_more depth replicas tables base (p ∷ ps) (d ∷ ds) log node dump are of is applied =
    (are.0, are.1, one_dump_more depth replicas tables base ps ds log node dump are.2 of is applied)
one_dump_more depth replicas tables base [] (d ∷ ds) log node dump are of is applied = absurd are
one_dump_more depth replicas tables base (p ∷ ps) [] log node dump are of is applied = absurd are

dump_stays : (depth : Depth) (tables base : ℕ) (p q : Log) (dump : Image) → HasGoneOn p q → IsDumpOf depth tables base p dump
    → IsDumpOf depth tables base q dump
dump_stays depth tables base p q dump on is =
    let same = same_space depth tables (base + dump.applied) p q on is.applied in
    record {
      applied = omega (arith, is.applied, tail_rises p q on);
      translates = subst (TranslatesAs depth dump.frames dump.root) (sym same) is.translates;
      frames = is.frames ∙ ap (table_count depth) (sym same);
      few = is.few;
    }

-- the dumps are of each log that begins with all that the passes have seen
pub all_dumps_stay : (depth : Depth) (replicas tables base : ℕ) (history : List LogEvent) (passes : List Known) (dumps : List Image)
    → IsLogHistory depth replicas history → All (λ pass. StartsWith history pass.view.seen) passes → AreDumpsOf depth replicas tables base passes dumps
    → All (IsDumpOf depth tables base (log_after replicas history)) dumps
all_dumps_stay depth replicas tables base history [] [] is begins are k d lt = absurd (omega (arith, lt))
all_dumps_stay depth replicas tables base history (p ∷ ps) (dump ∷ dumps) is begins are zero d lt =
    dump_stays depth tables base (log_after replicas p.view.seen) (log_after replicas history) dump
    (beginning_goes_on depth replicas history p.view.seen is (begins 0 p (omega arith))) are.0
all_dumps_stay depth replicas tables base history (p ∷ ps) (dump ∷ dumps) is begins are (suc k) d lt =
    all_dumps_stay depth replicas tables base history ps dumps is (λ j e l. begins (suc j) e (omega (arith, l))) are.2 k d (omega (arith, lt))
all_dumps_stay depth replicas tables base history [] (dump ∷ dumps) is begins are k d lt = absurd are
all_dumps_stay depth replicas tables base history (p ∷ ps) [] is begins are k d lt = absurd are

-- where each pass has seen all advances of its replica, its dump has applied what the replica has taken, or more
all_taken : (depth : Depth) (replicas tables base replica : ℕ) (history : List LogEvent) (passes : List Known) (dumps : List Image)
    → AreDumpsOf depth replicas tables base passes dumps → OwnInTurn replica passes → All (HasSeenOwnAdvances history) passes
    → (i : ℕ) (dump : Image) → slice_get dumps i ≡ Some dump → local_of (log_after replicas history) (replica + i) ≤ base + dump.applied
all_taken depth replicas tables base replica history [] [] are own seen i dump e = absurd (omega (arith, slice_get_within [] i dump e))
all_taken depth replicas tables base replica history (p ∷ ps) (d ∷ ds) are own seen zero dump e =
    let same : d ≡ dump = same_some e in
    let at : replica + 0 ≡ replica = omega arith in
    omega (
      arith,
      ap (λ (x : Image). x.applied) same,
      own_applied replicas base replica history p d are.1 own.0 (seen 0 p (omega arith)),
      ap (local_of (log_after replicas history)) at,
    )
all_taken depth replicas tables base replica history (p ∷ ps) (d ∷ ds) are own seen (suc i) dump e =
    let at : replica + suc i ≡ (replica + 1) + i = omega arith in
    omega (
      arith,
      all_taken depth replicas tables base (replica + 1) history ps ds are.2 own.1 (λ j x l. seen (suc j) x (omega (arith, l))) i dump e,
      ap (local_of (log_after replicas history)) at,
    )
all_taken depth replicas tables base replica history [] (d ∷ ds) are own seen i dump e = absurd are
all_taken depth replicas tables base replica history (p ∷ ps) [] are own seen i dump e = absurd are

-- ---- calls

abbrev pub call_of : LogEntry → ℕ
call_of entry = entry.call

-- the calls of the entries from a place on, as the earlier log has the first n and the later one the rest
pub all_calls : (p q : Log) (base n : ℕ) → HasGoneOn p q → base ≤ n → n ≤ tail p
    → map (λ entry. entry.call) (drop base (take n p.entries)) ++ map (λ entry. entry.call) (drop n q.entries)
    ≡ map (λ entry. entry.call) (drop base q.entries)
all_calls p q base n on low le =
    let first = take n q.entries in
    let rest = drop n q.entries in
    let long : length first ≡ n = length-take-le n q.entries (omega (arith, le, tail_rises p q on)) in
    ap (λ (l : List LogEntry). map call_of (drop base l) ++ map call_of rest)
    (sym (take_still p.entries q.entries on.entries.0 n on.entries.1 le))
    ∙ sym (map-append call_of (drop base first) rest)
    ∙ ap (map call_of) (sym (drop-append-le base first rest (omega (arith, low, long))))
    ∙ ap (λ (l : List LogEntry). map call_of (drop base l)) (take-append-drop n q.entries)

-- ---- the nodes' passes

abbrev pub known_of : NodeState → Known
known_of node = node.known

-- the first node's pass, and the others
first_known : (nodes : List NodeState) (passes others : List Known) (node : NodeState) (first : Known) → 0 < length nodes
    → passes ≡ map (λ node. node.known) nodes → node ≡ get_or nodes 0 node → first ≡ get_or passes 0 first → others ≡ remove passes 0
    → (first ≡ node.known) × (passes ≡ node.known ∷ others)
first_known [] passes others node first lt are here taken left = absurd (omega (arith, lt))
first_known (n ∷ ns) passes others node first lt are here taken left =
    let same : n.known ≡ node.known = ap known_of (sym here) in
    let is : first ≡ n.known = taken ∙ ap (λ (l : List Known). get_or l 0 first) are in
    let rest : others ≡ map known_of ns = left ∙ ap (λ (l : List Known). remove l 0) are in
    (is ∙ same, are ∙ ap (λ (k : Known). k ∷ map known_of ns) same ∙ ap (λ (l : List Known). node.known ∷ l) (sym rest))

all_of_log : (log : TableId) (tables base : ℕ) (nodes : List NodeState) (passes : List Known) → passes ≡ map (λ node. node.known) nodes
    → All (IsNodeOf log tables base) nodes → All (λ pass. pass.log ≡ log) passes
all_of_log log tables base nodes passes are each =
    let Of : Known → Type 0 = λ pass. pass.log ≡ log in
    subst (All Of) (sym are) (All-map Of known_of nodes (λ k d lt. (each k d lt).log_is))

-- the passes of nodes of one log: the first one's, and the others
pub record AreParted (log : TableId) (base : ℕ) (passes others : List Known) (node : NodeState) (first : Known) : Type 0 where
  pub first_is : first ≡ node.known
  pub first_base : node.base ≡ base
  pub split : passes ≡ node.known ∷ others
  pub first_log : first.log ≡ log
  pub others_log : All (λ pass. pass.log ≡ log) others

-- of replicas that are shared there is one at least
pub parted : {S : Type 0} {depth : Depth} {replicas tables base : ℕ} {own log : TableId} {layout : Layout} {passes others : List Known}
    {node : NodeState} {first : Known} (slots : S → ℕ) (shared : List S) (nodes : List NodeState) → own ≡ log
    → AreShared depth replicas tables layout (map slots shared) → length nodes ≡ length shared
    → All (IsNodeOf log tables base) nodes → passes ≡ map (λ node. node.known) nodes
    → node ≡ get_or nodes 0 node → first ≡ get_or passes 0 first → others ≡ remove passes 0 → AreParted own base passes others node first
parted {S} {depth} {replicas} {tables} {base} {own} {log} {layout} {passes} {others} {node} {first} slots shared nodes of are count each known here taken left =
    let many : 0 < length nodes = omega (arith, count, length-map shared slots, are.count, are.some) in
    let split = first_known nodes passes others node first many known here taken left in
    let Of : Known → Type 0 = λ pass. pass.log ≡ log in
    let logs = first_and_rest Of passes others node.known split.1 (all_of_log log tables base nodes passes known each) in
    record {
      first_is = split.0;
      first_base = ap (λ (n : NodeState). n.base) here ∙ (each 0 node many).base_is;
      split = split.1;
      first_log = ap (λ (k : Known). k.log) split.0 ∙ logs.0 ∙ sym of;
      others_log = λ k d lt. logs.1 k d lt ∙ sym of;
    }

-- ---- what has been applied is taken

-- one event more, and then others
pub goes_on_join : (depth : Depth) (log : Log) (seen rest : List LogEvent) → MayGoOn depth log seen → MayGoOn depth (log_after_events log seen) rest
    → MayGoOn depth log (seen ++ rest)
goes_on_join depth log [] rest first last = last
goes_on_join depth log (event ∷ seen) rest first last = (first.0, goes_on_join depth (log_after_event log event) seen rest first.1 last)

-- events by which each of these replicas, from this one on, takes what its dump has applied. They add no entry, and leave the others
pub record AllRaised (depth : Depth) (base replica : ℕ) (dumps : List Image) (log : Log) : Type 0 where
  pub events : List LogEvent
  pub may : MayGoOn depth log events
  pub entries : (log_after_events log events).entries ≡ log.entries
  pub taken : (i : ℕ) (dump : Image) → slice_get dumps i ≡ Some dump → base + dump.applied ≡ local_of (log_after_events log events) (replica + i)
  pub others : (j : ℕ) → j < replica → local_of (log_after_events log events) j ≡ local_of log j

-- where the first of the replicas has taken what its dump has applied, and the others have
raised_taken : (base replica : ℕ) (d : Image) (ds : List Image) (last : Log) → base + d.applied ≡ local_of last replica
    → ((i : ℕ) (dump : Image) → slice_get ds i ≡ Some dump → base + dump.applied ≡ local_of last ((replica + 1) + i))
    → (i : ℕ) (dump : Image) → slice_get (d ∷ ds) i ≡ Some dump → base + dump.applied ≡ local_of last (replica + i)
raised_taken base replica d ds last here rest zero dump e =
    let at : replica + 0 ≡ replica = omega arith in
    ap (λ (x : Image). base + x.applied) (sym (same_some e)) ∙ here ∙ ap (local_of last) (sym at)
raised_taken base replica d ds last here rest (suc i) dump e =
    let at : replica + suc i ≡ (replica + 1) + i = omega arith in
    rest i dump e ∙ ap (local_of last) (sym at)

-- the first of the replicas takes what its dump has applied, if it has not, and the others follow
one_raised : (depth : Depth) (base replica : ℕ) (d : Image) (ds : List Image) (log next : Log) (first : List LogEvent) → MayGoOn depth log first
    → log_after_events log first ≡ next → next.entries ≡ log.entries → base + d.applied ≡ local_of next replica
    → ((j : ℕ) → j < replica → local_of next j ≡ local_of log j) → AllRaised depth base (replica + 1) ds next
    → AllRaised depth base replica (d ∷ ds) log
one_raised depth base replica d ds log next first may made entries here others is =
    let Goes : Log → Type 0 = λ l. MayGoOn depth l is.events in
    let events : List LogEvent = first ++ is.events in
    let last : log_after_events log events ≡ log_after_events next is.events =
    after_both log first is.events ∙ ap (λ (l : Log). log_after_events l is.events) made in
    let taken_first : base + d.applied ≡ local_of (log_after_events log events) replica =
    here ∙ sym (is.others replica (omega arith)) ∙ ap (λ (l : Log). local_of l replica) (sym last) in
    record {
      events = events;
      may = goes_on_join depth log first is.events may (subst Goes (sym made) is.may);
      entries = ap (λ (l : Log). l.entries) last ∙ is.entries ∙ entries;
      taken = raised_taken base replica d ds (log_after_events log events) taken_first
          (λ i dump e. is.taken i dump e ∙ ap (λ (l : Log). local_of l ((replica + 1) + i)) (sym last));
      others = λ j lt. ap (λ (l : Log). local_of l j) last ∙ is.others j (omega (arith, lt)) ∙ others j lt;
    }

pub all_raised : (depth : Depth) (tables base replica : ℕ) (dumps : List Image) (log : Log) → All (IsDumpOf depth tables base log) dumps
    → ((i : ℕ) (dump : Image) → slice_get dumps i ≡ Some dump → local_of log (replica + i) ≤ base + dump.applied)
    → replica + length dumps ≤ length log.locals → AllRaised depth base replica dumps log
all_raised depth tables base replica [] log are low many = record {
  events = [];
  may = tt;
  entries = refl;
  taken = λ i dump e. absurd (omega (arith, slice_get_within [] i dump e));
  others = λ j lt. refl;
}
all_raised depth tables base replica (d ∷ ds) log are low many =
    let to = base + d.applied in
    let at : replica + 0 ≡ replica = omega arith in
    let mine : local_of log replica ≤ to = omega (arith, low 0 d refl, ap (local_of log) at) in
    let written : to ≤ tail log = (are 0 d (omega arith)).applied in
    let rest : All (IsDumpOf depth tables base log) ds = λ k x lt. are (suc k) x (omega (arith, lt)) in
    let later : (i : ℕ) (dump : Image) → slice_get ds i ≡ Some dump → local_of log ((replica + 1) + i) ≤ base + dump.applied =
    λ i dump e.
    let same : replica + suc i ≡ (replica + 1) + i = omega arith in
    omega (arith, low (suc i) dump e, ap (local_of log) same) in
    ⊎_elim
    (λ (same : local_of log replica ≡ to).
    one_raised depth base replica d ds log log [] tt refl refl (sym same) (λ j lt. refl)
    (all_raised depth tables base (replica + 1) ds log rest later (omega (arith, many))))
    (λ (below : local_of log replica < to).
    let next = log_after_event log (Advance replica to) in
    let still : (j : ℕ) → (j ≡ replica → ⊥) → local_of next j ≡ local_of log j = λ j other. get_or-set_other log.locals replica j to 0 other in
    let may : MayGoOn depth log (Advance replica to ∷ []) = (record { there = omega (arith, many); some = below; written = written }, tt) in
    let on = events_go_on depth log (Advance replica to ∷ []) may in
    one_raised depth base replica d ds log next (Advance replica to ∷ []) may refl refl
    (sym (get_or-set_same log.locals replica to 0 (omega (arith, many)))) (λ j lt. still j (λ e. absurd (omega (arith, lt, e))))
    (all_raised depth tables base (replica + 1) ds next (λ k x lt. dump_stays depth tables base log next (get_or ds k x) on (rest k x lt))
    (λ i dump e. omega (arith, later i dump e, still ((replica + 1) + i) (λ s. absurd (omega (arith, s)))))
    (omega (arith, many, length-set log.locals replica to))))
    (eq-or-lt_of_le mine)

-- ---- settling

-- the first node's pass heard of all that the others, then the handed ones, then nobody had seen, and then the rest of the log was added
pub settled : (depth : Depth) (replicas places tables base : ℕ) (handed passes others : List Known) (first : NodeState) (dumps : List Image)
    (calls all : List ℕ)
    (a b c : View) → IsNode depth replicas first → first.base ≡ base → passes ≡ first.known ∷ others
    → HasHeard depth replicas first.known.view a → All (λ pass. StartsWith a.seen pass.view.seen) others
    → HasHeard depth replicas a b → All (λ pass. StartsWith b.seen pass.view.seen) handed
    → HasHeard depth replicas b c
    → AreDumpsOf depth replicas tables base passes dumps → OwnInTurn 0 passes → length dumps ≡ replicas
    → calls ≡ map (λ entry. entry.call) (drop first.base (take (taken_by replicas first.known.view) (log_of replicas first).entries))
    → all ≡ calls ++ map (λ entry. entry.call) (drop (taken_by replicas c) (log_after replicas c.seen).entries)
    → All (HasSeenOwnAdvances c.seen) others
    → tail (log_after replicas c.seen) ≤ places
    → IsSettled depth replicas places tables base handed all dumps
settled depth replicas places tables base handed passes others first dumps calls all a b c is_node first_base split heard_a begin_a heard_b
    begin_b heard_c are own
    count first_calls all_are known ends =
    let v = first.known.view in
    let ab = heard_twice heard_b heard_c in
    let whole = heard_twice heard_a ab in
    let log = log_of replicas first in
    let later = log_after replicas c.seen in
    let n = taken_by replicas first.known.view in
    let same : taken_by replicas c ≡ n = heard_taken depth replicas v c whole is_node.owner in
    let Begins : Known → Type 0 = λ pass. StartsWith c.seen pass.view.seen in
    let others_begin : All Begins others = all_begin_later a.seen c.seen others ab.seen begin_a in
    let Own : Known → Type 0 = HasSeenOwnAdvances c.seen in
    let all_own : All Own passes = subst (All Own) (sym split) (All-cons Own first.known others whole.advances known) in
    let every : All Begins passes = subst (All Begins) (sym split) (All-cons Begins first.known others whole.seen others_begin) in
    let stay = all_dumps_stay depth replicas tables base c.seen passes dumps whole.is_history every are in
    let low : (i : ℕ) (dump : Image) → slice_get dumps i ≡ Some dump → local_of later (0 + i) ≤ base + dump.applied =
    all_taken depth replicas tables base 0 c.seen passes dumps are own all_own in
    let raise = all_raised depth tables base 0 dumps later stay low (omega (arith, count, as_many_locals depth replicas c.seen whole.is_history)) in
    let history : List LogEvent = c.seen ++ raise.events in
    let after : log_after replicas history ≡ log_after_events later raise.events = after_both (new_log replicas) c.seen raise.events in
    let is : IsLogHistory depth replicas history = goes_on_join depth (new_log replicas) c.seen raise.events whole.is_history raise.may in
    let entries : (log_after replicas history).entries ≡ later.entries = ap (λ (l : Log). l.entries) after ∙ raise.entries in
    let begin_later : StartsWith history c.seen = (raise.events, refl) in
    record {
      history = history;
      is_history = is;
      begins = all_begin_later c.seen history handed begin_later (all_begin_later b.seen c.seen handed heard_c.seen begin_b);
      ends = omega (arith, ends, ap (λ (l : List LogEntry). length l) entries);
      calls_are = all_are
          ∙ ap (λ (l : List ℕ). l ++ map call_of (drop (taken_by replicas c) later.entries)) first_calls
          ∙ ap (λ (k : ℕ). map call_of (drop k (take n log.entries)) ++ map call_of (drop (taken_by replicas c) later.entries)) first_base
          ∙ ap (λ (k : ℕ). map call_of (drop base (take n log.entries)) ++ map call_of (drop k later.entries)) same
          ∙ all_calls log later base n (heard_on depth replicas v c whole) (omega (arith, first_base, is_node.kept))
          (omega (arith, is_node.behind, is_node.written))
          ∙ ap (λ (l : List LogEntry). map call_of (drop base l)) (sym entries);
      one_each = count;
      dumps_are = all_dumps_stay depth replicas tables base history passes dumps is (all_begin_later c.seen history passes begin_later every) are;
      taken = λ replica dump e.
          let at : 0 + replica ≡ replica = omega arith in
          raise.taken replica dump e ∙ ap (local_of (log_after_events later raise.events)) at ∙ ap (λ (l : Log). local_of l replica) (sym after);
    }
