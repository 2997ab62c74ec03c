-- Segments one after another: one chain, and one log.
use Rattle.std.proofs.Common.{◌≡◌, ℕ, ◌+◌, ◌<◌, ◌≤◌, List, [], ◌∷◌, ◌++◌, All, length, map, refl, ap, sym, subst, ◌∙◌, arith, Option, None, Some, append_assoc}
use Rattle.std.specs.Prelude.{drop, flat_map}
use Rattle.std.specs.List.{AllZip}
use Rattle.std.proofs.Math.ListN.{length-append}
use Rattle.std.proofs.Math.Seq.{drop-append_seam}
use Rattle.std.proofs.lemmas.List.{append-nil, length-map, length-replicate, map-append}
use Rattle.std.proofs.lemmas.List.Elements.{All-replicate}
use Rattle.std.proofs.lemmas.List.Concat.{flat_map-cons}
use Rattle.std.proofs.lemmas.Grind.{flat_map-append}
use Rattle.vs_types.specs.Config.{Layout}
use Rattle.vs_types.specs.declared.log_entry.LogEntry.{LogEntry}
use Rattle.nr_trace.specs.Spelling.{SpellsSegment}
use Rattle.nr_trace.specs.Run.{Run}
use Rattle.nr_audit.specs.Segments.{run_after}
use Rattle.nr_chain.specs.Bytes.{layout_before, BeginsWith, GoesOnSo}
use Rattle.nr_chain.specs.Fed.{IsKeptOf}
use Rattle.nr_chain.specs.Headline.{IsRightChain}
use Rattle.nr_chain.proofs.Betweens.{layouts_alike}
use Rattle.nr_chain.proofs.FoundChains.{right_chain}
use Rattle.nr_ring.specs.LogHistory.{IsLogHistory, log_after}
use Rattle.nr_ring.specs.Pass.{Known, TableId, new_pass}
use Rattle.nr_ring.specs.View.{StartsWith}
use Rattle.nr_ring.specs.declared.ring.log_event.LogEvent.{LogEvent}
use Rattle.nr_ring.proofs.Histories.{beginning_goes_on, begins}
use Rattle.nr_serve.specs.ChainOfRun.{RunsOn, logs_of, orders_of, run_through}
use Rattle.nr_serve.specs.Run.{IsLogOf}
use Rattle.nr_serve.specs.RunState.{HasOneLog, RunState, new_run}
use Rattle.nr_serve.specs.SegmentRun.{GoesOn, HasSeenMore, IsRightSegment, IsSegmentOf, Ran}

pub runs_on : (state : RunState) (bytes : List ℕ) (segments : List Ran) (mid : RunState) (segment : Ran) (passes : List Known)
    (history : List LogEvent) (end : RunState) → RunsOn state bytes segments mid → IsRightSegment mid segment passes history
    → GoesOn mid segment history end → RunsOn state (bytes ++ segment.bytes) (segments ++ segment ∷ []) end
runs_on state bytes [] mid segment passes history end (none, same) right on = (
  passes,
  history,
  end,
  [],
  ap (λ (front : List ℕ). front ++ segment.bytes) none ∙ sym (append-nil segment.bytes),
  subst (λ (s : RunState). IsRightSegment s segment passes history) (sym same) right,
  subst (λ (s : RunState). GoesOn s segment history end) (sym same) on,
  (refl, refl),
)
runs_on state bytes (first ∷ segments) mid segment passes history end (seen, events, next, rest, is, first_right, first_on, more) right on = (
  seen,
  events,
  next,
  rest ++ segment.bytes,
  ap (λ (front : List ℕ). front ++ segment.bytes) is ∙ append_assoc first.bytes rest segment.bytes,
  first_right,
  first_on,
  runs_on next rest segments mid segment passes history end more right on,
)

-- ---- one chain

-- a segment is spelled behind a run of which this is kept
begins_so : (before : Option Run) (state : RunState) (segment : Ran) (passes : List Known) (history : List LogEvent) (bytes rest : List ℕ)
    → IsKeptOf before state.kept → IsSegmentOf state segment passes history → bytes ≡ segment.bytes ++ rest
    → BeginsWith (layout_before before) bytes segment.trace rest
begins_so before state segment passes history bytes rest held is cut = record {
  own = segment.bytes;
  is = cut;
  spelled = subst (λ (l : Option Layout). SpellsSegment l segment.bytes segment.trace) (layouts_alike before state.kept held) is.spelled;
}

-- what is found of the bytes of a run is what is found of those behind it
found_then : (before : Option Run) (state : RunState) (bytes : List ℕ) (segments : List Ran) (end : RunState) (back : List ℕ) (orders : List (List ℕ))
    → IsKeptOf before state.kept → RunsOn state bytes segments end
    → ((last : Option Run) → IsKeptOf last end.kept → GoesOnSo last back orders None) → GoesOnSo before (bytes ++ back) (orders_of segments ++ orders) None
found_then before state bytes [] end back orders held (none, same) found =
    subst (λ (front : List ℕ). GoesOnSo before (front ++ back) orders None) (sym none)
    (found before (subst (λ (s : RunState). IsKeptOf before s.kept) same held))
found_then before state bytes (first ∷ segments) end back orders held (passes, history, next, rest, is, right, on, more) found = (
  first.trace,
  rest ++ back,
  begins_so before state first passes history (bytes ++ back) (rest ++ back) held right.segment
      (ap (λ (front : List ℕ). front ++ back) is ∙ append_assoc first.bytes rest back),
  right.sound before held,
  right.order_is,
  found_then (Some (run_after before first.trace)) next rest segments end back orders (on.kept before held) more found,
)

-- the bytes of a last segment
found_last : (state : RunState) (segment : Ran) (passes : List Known) (history : List LogEvent) → IsRightSegment state segment passes history
    → (before : Option Run) → IsKeptOf before state.kept → GoesOnSo before segment.bytes (segment.order ∷ []) None
found_last state segment passes history right before held = (
  segment.trace,
  [],
  begins_so before state segment passes history segment.bytes [] held right.segment (sym (append-nil segment.bytes)),
  right.sound before held,
  right.order_is,
  refl,
)

-- they are a right chain, with a last segment
pub right_with_last : (layout : Layout) (log : TableId) (bytes : List ℕ) (segments : List Ran) (end : RunState) (segment : Ran) (passes : List Known)
    (history : List LogEvent) → RunsOn (new_run layout log) bytes segments end → IsRightSegment end segment passes history
    → IsRightChain (bytes ++ segment.bytes) (orders_of (segments ++ segment ∷ []))
right_with_last layout log bytes segments end segment passes history on right =
    let orders : orders_of segments ++ segment.order ∷ [] ≡ orders_of (segments ++ segment ∷ []) =
    sym (map-append (λ (ran : Ran). ran.order) segments (segment ∷ [])) in
    subst (IsRightChain (bytes ++ segment.bytes)) orders
    (right_chain (bytes ++ segment.bytes) (orders_of segments ++ segment.order ∷ [])
    (found_then None (new_run layout log) bytes segments end segment.bytes (segment.order ∷ []) tt on
    (found_last end segment passes history right)))

-- what is found of the bytes of one segment or more
found_all : (before : Option Run) (state : RunState) (bytes : List ℕ) (first : Ran) (segments : List Ran) (end : RunState)
    → IsKeptOf before state.kept → RunsOn state bytes (first ∷ segments) end → GoesOnSo before bytes (orders_of (first ∷ segments)) None
found_all before state bytes first [] end held (passes, history, next, rest, is, right, on, more) = (
  first.trace,
  rest,
  begins_so before state first passes history bytes rest held right.segment is,
  right.sound before held,
  right.order_is,
  subst (λ (r : List ℕ). GoesOnSo (Some (run_after before first.trace)) r [] None) (sym more.0) refl,
)
found_all before state bytes first (second ∷ segments) end held (passes, history, next, rest, is, right, on, more) = (
  first.trace,
  rest,
  begins_so before state first passes history bytes rest held right.segment is,
  right.sound before held,
  right.order_is,
  found_all (Some (run_after before first.trace)) next rest second segments end (on.kept before held) more,
)

-- and without one
pub right_run : (layout : Layout) (log : TableId) (bytes : List ℕ) (first : Ran) (segments : List Ran) (end : RunState)
    → RunsOn (new_run layout log) bytes (first ∷ segments) end → IsRightChain bytes (orders_of (first ∷ segments))
right_run layout log bytes first segments end on =
    right_chain bytes (orders_of (first ∷ segments)) (found_all None (new_run layout log) bytes first segments end tt on)

-- what is kept behind some segments is kept of the run that they are
kept_from : (before : Option Run) (state : RunState) (bytes : List ℕ) (segments : List Ran) (end : RunState) → IsKeptOf before state.kept
    → RunsOn state bytes segments end → IsKeptOf (run_through before segments) end.kept
kept_from before state bytes [] end held (none, same) = subst (λ (s : RunState). IsKeptOf before s.kept) same held
kept_from before state bytes (first ∷ segments) end held (passes, history, next, rest, is, right, on, more) =
    kept_from (Some (run_after before first.trace)) next rest segments end (on.kept before held) more

pub kept_through : (layout : Layout) (log : TableId) (bytes : List ℕ) (segments : List Ran) (end : RunState)
    → RunsOn (new_run layout log) bytes segments end → IsKeptOf (run_through None segments) end.kept
kept_through layout log bytes segments end on = kept_from None (new_run layout log) bytes segments end tt on

-- ---- one log

-- the history of a segment begins with that of the last cut, which a pass had seen before
first_begins : (before history : List LogEvent) (old new : List Known) → 0 < length old → All (λ pass. StartsWith pass.view.seen before) old
    → AllZip HasSeenMore old new → All (λ pass. StartsWith history pass.view.seen) new → StartsWith history before
first_begins before history [] new lt known each begun = absurd (omega (arith, lt))
first_begins before history (p ∷ old) [] lt known each begun = absurd each
first_begins before history (p ∷ old) (q ∷ new) lt known each begun =
    begins before q.view.seen history (begins before p.view.seen q.view.seen (known 0 p (omega arith)) each.0) (begun 0 q (omega arith))

-- the calls of a log up to the last cut, and those of a segment, are those of its history
joined_log : (state : RunState) (calls : List ℕ) (segment : Ran) (passes : List Known) (history : List LogEvent) → 1 ≤ state.layout.threads
    → HasOneLog state calls → IsSegmentOf state segment passes history
    → calls ++ segment.trace.log ≡ map (λ entry. entry.call) (log_after state.layout.replicas history).entries
joined_log state calls segment passes history some one is =
    let call_of : LogEntry → ℕ = λ entry. entry.call in
    let replicas = state.layout.replicas in
    let begun = first_begins one.history history state.passes passes (omega (arith, some, one.one_each)) one.known is.heard is.log.begins in
    let on = beginning_goes_on state.layout.depth replicas history one.history is.log.is_history begun in
    let rest = on.entries.0 in
    let old = (log_after replicas one.history).entries in
    let long : state.base ≡ length old =
    sym one.ends ∙ ap (λ (l : List ℕ). length l) one.calls_are ∙ length-map old call_of in
    let dropped : drop state.base (log_after replicas history).entries ≡ rest =
    ap (λ (n : ℕ). drop n (log_after replicas history).entries) long ∙ ap (drop (length old)) on.entries.1 ∙ drop-append_seam old rest in
    ap (λ (l : List ℕ). calls ++ l) (is.log.calls_are ∙ ap (map call_of) dropped)
    ∙ ap (λ (l : List ℕ). l ++ map call_of rest) one.calls_are
    ∙ sym (map-append call_of old rest)
    ∙ ap (map call_of) (sym on.entries.1)

-- a segment more
one_log_more : (state : RunState) (calls : List ℕ) (segment : Ran) (passes : List Known) (history : List LogEvent) (next : RunState)
    → 1 ≤ state.layout.threads → HasOneLog state calls → IsSegmentOf state segment passes history → GoesOn state segment history next
    → HasOneLog next (calls ++ segment.trace.log)
one_log_more state calls segment passes history next some one is on = record {
  one_each = on.passes_each ∙ ap (λ (l : Layout). l.threads) (sym on.layout_is);
  of_log = subst (λ (log : TableId). All (λ (pass : Known). pass.log ≡ log) next.passes) (sym on.log_is) on.of_log;
  history = history;
  is_history = subst (λ (l : Layout). IsLogHistory l.depth l.replicas history) (sym on.layout_is) is.log.is_history;
  known = on.known;
  calls_are = joined_log state calls segment passes history some one is
      ∙ ap (λ (l : Layout). map (λ (entry : LogEntry). entry.call) (log_after l.replicas history).entries) (sym on.layout_is);
  ends = omega (arith, length-append calls segment.trace.log, one.ends, on.base_is);
}

one_log_from : (state : RunState) (calls : List ℕ) (bytes : List ℕ) (segments : List Ran) (end : RunState) → 1 ≤ state.layout.threads
    → HasOneLog state calls → RunsOn state bytes segments end → HasOneLog end (calls ++ logs_of segments)
one_log_from state calls bytes [] end some one (none, same) =
    subst (λ (s : RunState). HasOneLog s (calls ++ [])) same (subst (HasOneLog state) (sym (append-nil calls)) one)
one_log_from state calls bytes (first ∷ segments) end some one (passes, history, next, rest, is, right, on, more) =
    let further = one_log_more state calls first passes history next some one right.segment on in
    let some' : 1 ≤ next.layout.threads = omega (arith, some, ap (λ (l : Layout). l.threads) on.layout_is) in
    let all = one_log_from next (calls ++ first.trace.log) rest segments end some' further more in
    let joined : (calls ++ first.trace.log) ++ logs_of segments ≡ calls ++ logs_of (first ∷ segments) =
    append_assoc calls first.trace.log (logs_of segments)
    ∙ ap (λ (l : List ℕ). calls ++ l) (sym (flat_map-cons (λ (ran : Ran). ran.trace.log) first segments)) in
    subst (HasOneLog end) joined all

-- nothing is run
one_log_new : (layout : Layout) (log : TableId) → HasOneLog (new_run layout log) []
one_log_new layout log = record {
  one_each = length-replicate layout.threads (new_pass log []);
  of_log = All-replicate (λ (pass : Known). pass.log ≡ log) layout.threads (new_pass log []) refl;
  history = [];
  is_history = tt;
  known = All-replicate (λ (pass : Known). StartsWith pass.view.seen []) layout.threads (new_pass log []) ([], refl);
  calls_are = refl;
  ends = refl;
}

pub one_log : (layout : Layout) (log : TableId) (bytes : List ℕ) (segments : List Ran) (end : RunState) → 1 ≤ layout.threads
    → RunsOn (new_run layout log) bytes segments end → HasOneLog end (logs_of segments)
one_log layout log bytes segments end some on = one_log_from (new_run layout log) [] bytes segments end some (one_log_new layout log) on

same_layout : (state : RunState) (bytes : List ℕ) (segments : List Ran) (end : RunState) → RunsOn state bytes segments end → end.layout ≡ state.layout
same_layout state bytes [] end (none, same) = ap (λ (s : RunState). s.layout) (sym same)
same_layout state bytes (first ∷ segments) end (passes, history, next, rest, is, right, on, more) =
    same_layout next rest segments end more ∙ on.layout_is

pub one_log_with_last : (layout : Layout) (log : TableId) (bytes : List ℕ) (segments : List Ran) (end : RunState) (segment : Ran) (passes : List Known)
    (history : List LogEvent) → 1 ≤ layout.threads → RunsOn (new_run layout log) bytes segments end → IsRightSegment end segment passes history
    → IsLogOf layout (logs_of (segments ++ segment ∷ [])) passes
one_log_with_last layout log bytes segments end segment passes history some on right =
    let laid = same_layout (new_run layout log) bytes segments end on in
    let some' : 1 ≤ end.layout.threads = omega (arith, some, ap (λ (l : Layout). l.threads) laid) in
    let is = right.segment in
    let calls : logs_of (segments ++ segment ∷ []) ≡ logs_of segments ++ segment.trace.log =
    flat_map-append (λ (ran : Ran). ran.trace.log) segments (segment ∷ [])
    ∙ ap (λ (l : List ℕ). logs_of segments ++ l) (flat_map-cons (λ (ran : Ran). ran.trace.log) segment [] ∙ append-nil segment.trace.log) in
    record {
      log = end.log;
      of_log = is.log.of_log;
      history = history;
      is_history = subst (λ (l : Layout). IsLogHistory l.depth l.replicas history) laid is.log.is_history;
      begins = is.log.begins;
      calls_are = calls ∙ joined_log end (logs_of segments) segment passes history some' (one_log layout log bytes segments end some on) is
          ∙ ap (λ (l : Layout). map (λ (entry : LogEntry). entry.call) (log_after l.replicas history).entries) laid;
    }
