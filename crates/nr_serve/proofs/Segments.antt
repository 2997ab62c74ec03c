-- The end of a segment: what its threads have handed back, written down and judged; and segments one after another.
use Rattle.std.proofs.Common.{◌≡◌, ℕ, ◌+◌, List, [], ◌∷◌, ◌++◌, All, length, get_or, map, inl, inr, refl, ap, sym, subst, ◌∙◌, arith, Option, None, Some, Result, Ok, Err}
use Rattle.std.specs.FinMap as finite
use Rattle.std.specs.Prelude.{IfOk, IfSome, drop, replicate}
use Rattle.std.specs.List.{AllZip}
use Rattle.std.proofs.lemmas.List.{get_or-map, length-map}
use Rattle.std.proofs.lemmas.List.Elements.{All-tail}
use Rattle.std.proofs.lemmas.Option.{slice_get-get_or}
use Rattle.vs_types.specs.Config.{Layout}
use Rattle.vs_types.proofs.Lists.{item_of}
use Rattle.vs_types.specs.declared.log_entry.LogEntry.{LogEntry}
use Rattle.vs_types.specs.declared.requests.request.Query.{Query}
use Rattle.vs_types.specs.declared.addresses.depth.Depth.{Depth}
use Rattle.vs_walk.specs.Dump.{Image}
use Rattle.nr_trace.specs.Recording.{Recording}
use Rattle.nr_trace.specs.Parts.{HasFrames}
use Rattle.nr_trace.specs.Versions.{Follows}
use Rattle.nr_trace.specs.declared.formats.version.Form.TheVariants as forms
use Rattle.nr_trace.specs.declared.formats.version.Version.TheVariants.{Segment}
use Rattle.nr_trace.specs.Orders.{recorded_order}
use Rattle.nr_trace.specs.Spelling.{SpellsSegment}
use Rattle.nr_trace.specs.declared.refusals.fault.Fault.{Fault}
use Rattle.nr_trace.specs.Run.{Run}
use Rattle.nr_audit.specs.Faults.{IsFirstAfter, IsSoundAfter}
use Rattle.nr_audit.specs.Segments.{run_after, FitsPast, IsBehind, IsKept}
use Rattle.nr_audit.specs.declared.histories.past.Past.{Past}
use Rattle.nr_chain.specs.Fed.{IsKeptOf}
use Rattle.nr_ring.specs.LogHistory.{IsLogHistory, Log, log_after}
use Rattle.nr_ring.specs.Pass.{Known, TableId, new_pass}
use Rattle.nr_ring.specs.View.{StartsWith}
use Rattle.nr_ring.specs.declared.ring.log_event.LogEvent.{LogEvent}
use Rattle.nr_replicas.specs.Replicas.{OpenState}
use Rattle.nr_replicas.specs.Settled.{IsDumpOf}
use Rattle.nr_record.specs.Events.{AreEventsOf}
use Rattle.nr_record.specs.Pen.{ClockId, PenState}
use Rattle.nr_serve.specs.Run.{AreAllCallsOf, HasAllOrStopped}
use Rattle.nr_serve.specs.RunState.{RunState, new_run}
use Rattle.nr_serve.specs.ChainOfRun.{HasEnded, HasFailed, HasGone, IsOutcomeOf, ran_of}
use Rattle.nr_serve.specs.SegmentRun.{layout_so_far, AreAllAnswered, HasSeenMore, HaveSeenAnswersFrom, IsAnswer, IsRightSegment, IsSegmentOf}
use Rattle.nr_serve.specs.declared.endings.call_outcome.CallOutcome.{CallOutcome}
use Rattle.nr_serve.specs.declared.endings.call_outcome.CallOutcome.TheVariants.{Stopped}
use Rattle.nr_serve.specs.declared.endings.segment_outcome.SegmentOutcome.{SegmentOutcome}
use Rattle.nr_serve.specs.inside.Calls.{Since, WorkerState, since}
use Rattle.nr_serve.specs.inside.Segment.{HaveServed, state_of, state_with}
use Rattle.nr_serve.specs.inside.SegmentEnd.{IsEndOf, MayEnd}
use Rattle.nr_serve.proofs.Made.{all_at, are_calls, have_seen_from}

-- the calls of a log from its first place on are all
pub calls_from_first : (base : ℕ) (entries : List LogEntry) (calls : List ℕ) → calls ≡ map (λ entry. entry.call) (drop base entries) → base ≡ 0
    → calls ≡ map (λ entry. entry.call) entries
calls_from_first base entries calls are none = are ∙ ap (λ (b : ℕ). map (λ (entry : LogEntry). entry.call) (drop b entries)) none

-- a segment may be laid out as the one before it, if there is one
pub laid_as_before : (of : Since) (before : List Known) (layout : Layout) (past : Option Past)
    → IfSome (layout_so_far (state_with of before layout past).kept) (λ other. other ≡ layout)
laid_as_before of before layout None = tt
laid_as_before of before layout (Some past) = refl

-- behind a run of which this is kept, the segment comes behind what is kept
behind_it : (of : Since) (before : List Known) (layout : Layout) (past : Option Past) (trace : Recording) (run : Option Run)
    → IsKeptOf run (state_with of before layout past).kept → trace.layout ≡ layout → IsBehind run past trace
behind_it of before layout None trace None kept laid = tt
behind_it of before layout (Some past) trace (Some run) (same, kept) laid = (kept, laid ∙ same)
behind_it of before layout _ trace _ kept laid = absurd kept

-- the run with the segment more is laid out as before
laid_after : (of : Since) (before : List Known) (layout : Layout) (past : Option Past) (trace : Recording) (run : Option Run)
    → IsKeptOf run (state_with of before layout past).kept → trace.layout ≡ layout → layout ≡ (run_after run trace).trace.layout
laid_after of before layout past trace None kept laid = sym laid
laid_after of before layout (Some past) trace (Some run) (same, kept) laid = same
laid_after of before layout None trace (Some run) kept laid = absurd kept

-- a segment is laid out as the one before it, if there is one
pub follows : (before : Option Layout) (layout own : Layout) → IfSome before (λ other. other ≡ layout) → own ≡ layout → Follows (forms.Segment before) own
follows None layout own laid is = tt
follows (Some other) layout own laid is = laid ∙ sym is

-- dumps of replicas may be those of a segment
pub fitting_frames : (depth : Depth) (tables base : ℕ) (log : Log) (dumps : List Image) → All (IsDumpOf depth tables base log) dumps
    → All (HasFrames Segment) dumps
fitting_frames depth tables base log dumps are = λ k d lt.
    let is = are k d lt in
    (omega arith, omega (arith, is.few), λ none. absurd (omega (arith, is.frames, none)))

-- what fits a layout fits the same layout
pub still_fits : (past : Option Past) (layout own : Layout) → IfSome past (FitsPast layout) → own ≡ layout → IfSome past (FitsPast own)
still_fits past layout own fits is = subst (λ (l : Layout). IfSome past (FitsPast l)) (sym is) fits

not_the_last : (front : List CallOutcome) → All IsAnswer (front ++ Stopped ∷ []) → ⊥
not_the_last [] all = all 0 Stopped (omega arith)
not_the_last (item ∷ front) all = not_the_last front (All-tail IsAnswer item (front ++ Stopped ∷ []) all)

to_the_end : (script : List Query) (items : List CallOutcome) → HasAllOrStopped script items → All IsAnswer items → length items ≡ length script
to_the_end script items (inl same) all = same
to_the_end script items (inr stopped) all = absurd (not_the_last stopped.0 (subst (All IsAnswer) stopped.1 all))

-- where no item says that its call was stopped, all was asked and answered
are_all_answered : (trace : Recording) (scripts : List (List Query)) (answers : List (List CallOutcome)) → AreAllCallsOf trace scripts answers
    → All (All IsAnswer) answers → AreAllAnswered scripts answers
are_all_answered trace scripts answers calls all thread script items at_script at_items =
    let answered = all_at (All IsAnswer) answers thread items all at_items in
    record { each = to_the_end script items (calls thread script items at_script at_items).to_the_end answered; answered = answered }

-- what holds of all that lists are seen as, holds of all lists
pub all_unmapped : {X Y : Type 0} (P : X → Type 0) (f : Y → X) (ys : List Y) → All P (map f ys) → All (λ y. P (f y)) ys
all_unmapped P f ys all = λ k d lt.
    subst P (get_or-map f ys k d (f d) lt) (all k (f d) (omega (arith, lt, length-map ys f)))

-- where all was asked and answered, no item says that its call was stopped
none_stopped : (scripts : List (List Query)) (answers : List (List CallOutcome)) → length answers ≡ length scripts → AreAllAnswered scripts answers
    → All (All IsAnswer) answers
none_stopped scripts answers each all = λ k items lt.
    let its = item_of scripts k (omega (arith, lt, each)) in
    (all k its.0 (get_or answers k items) its.1 (slice_get-get_or answers k items lt)).answered

-- ---- one segment

-- what is known of a segment that was written, with the history of its log
pub record IsMade (clock : ClockId) (of : Since) (layout : Layout) (past : Option Past) (before : List Known) (scripts : List (List Query))
    (pens : List PenState) (passes : List Known) (answers : List (List CallOutcome)) (trace : Recording) (bytes : List ℕ)
    (history : List LogEvent) : Type 0 where
  pub of_clock : layout ≡ clock.layout
  pub served : HaveServed clock of before scripts pens passes answers
  pub laid : trace.layout ≡ layout
  pub recorded : AreEventsOf trace.events pens
  pub spelled : SpellsSegment (layout_so_far (state_with of before layout past).kept) bytes trace
  pub of_log : All (λ pass. pass.log ≡ of.log) passes
  pub is_history : IsLogHistory layout.depth layout.replicas history
  pub begins : All (λ pass. StartsWith history pass.view.seen) passes
  pub calls_are : trace.log ≡ map (λ entry. entry.call) (drop of.from (log_after layout.replicas history).entries)

-- a segment is made of what the threads handed back, and of the log from the last cut on
pub made_segment : (depth : Depth) (replicas : ℕ) (clock : ClockId) (of : Since) (replicated layout : Layout) (past : Option Past) (before : List Known)
    (scripts : List (List Query)) (pens : List PenState) (passes : List Known) (answers : List (List CallOutcome)) (trace : Recording) (bytes : List ℕ)
    (history : List LogEvent) (calls : List ℕ) → MayEnd depth replicas clock of replicated layout past pens passes
    → HaveServed clock of before scripts pens passes answers → trace.layout ≡ layout → AreEventsOf trace.events pens → trace.log ≡ calls
    → SpellsSegment (layout_so_far (state_with of before layout past).kept) bytes trace → IsLogHistory depth replicas history
    → All (λ pass. StartsWith history pass.view.seen) passes → calls ≡ map (λ entry. entry.call) (drop of.from (log_after replicas history).entries)
    → IsMade clock of layout past before scripts pens passes answers trace bytes history
made_segment depth replicas clock of replicated layout past before scripts pens passes answers trace bytes history calls may served laid recorded log
    spelled is begun calls_are =
    let same = sym may.run.replicas_are in
    record {
      of_clock = may.of_clock;
      served = served;
      laid = laid;
      recorded = recorded;
      spelled = spelled;
      of_log = may.run.of_log;
      is_history = subst (λ (d : Depth). IsLogHistory d layout.replicas history) (sym may.run.depth_is)
          (subst (λ (r : ℕ). IsLogHistory depth r history) same is);
      begins = begun;
      calls_are = log ∙ calls_are ∙ ap (λ (r : ℕ). map (λ (entry : LogEntry). entry.call) (drop of.from (log_after r history).entries)) same;
    }

-- what comes of a segment whose threads had seen this before, and were given these scripts
pub comes_of : {J E : Type 0} (result : Result (SegmentOutcome J) E) (clock : ClockId) (of : Since) (layout : Layout) (past : Option Past)
    (pens : List PenState) (passes : List Known) (answers : List (List CallOutcome)) (before : List Known) (scripts : List (List Query))
    → IfOk result (IsEndOf clock of layout past pens passes answers) → HaveServed clock of before scripts pens passes answers
    → IfOk result (IsOutcomeOf (state_with of before layout past) scripts)
comes_of (Ok outcome) clock of layout past pens passes answers before scripts ends served = ends before scripts served
comes_of (Err fault) clock of layout past pens passes answers before scripts ends served = tt

-- what is shown of a segment is what it has
pub gone_as : (state : RunState) (scripts : List (List Query)) (answers shown : List (List CallOutcome)) (bytes written order : List ℕ) (next run : RunState)
    → shown ≡ answers → written ≡ bytes → run ≡ next → HasGone state scripts answers bytes order next → HasGone state scripts shown written order run
gone_as state scripts answers shown bytes written order next run of_shown of_written of_run gone =
    subst (λ (r : RunState). HasGone state scripts shown written order r) (sym of_run)
    (subst (λ (b : List ℕ). HasGone state scripts shown b order next) (sym of_written)
    (subst (λ (a : List (List CallOutcome)). HasGone state scripts a bytes order next) (sym of_shown) gone))

pub ended_as : (state : RunState) (scripts : List (List Query)) (answers shown : List (List CallOutcome)) (bytes written order : List ℕ)
    (passes seen : List Known)
    → shown ≡ answers → written ≡ bytes → seen ≡ passes → HasEnded state scripts answers bytes order passes
    → HasEnded state scripts shown written order seen
ended_as state scripts answers shown bytes written order passes seen of_shown of_written of_seen ended =
    subst (λ (p : List Known). HasEnded state scripts shown written order p) (sym of_seen)
    (subst (λ (b : List ℕ). HasEnded state scripts shown b order passes) (sym of_written)
    (subst (λ (a : List (List CallOutcome)). HasEnded state scripts a bytes order passes) (sym of_shown) ended))

pub failed_as : (state : RunState) (scripts : List (List Query)) (bytes written : List ℕ) (fault : Fault) → written ≡ bytes
    → HasFailed state scripts bytes fault → HasFailed state scripts written fault
failed_as state scripts bytes written fault of_written failed = subst (λ (b : List ℕ). HasFailed state scripts b fault) (sym of_written) failed

-- the log and the place of the last cut are the same
pub same_state : (of other : Since) (passes : List Known) (layout : Layout) (past : Option Past) → of.log ≡ other.log → of.from ≡ other.from
    → state_with of passes layout past ≡ state_with other passes layout past
same_state of other passes layout past logs bases =
    ap (λ (log : TableId). state_with (since log of.from) passes layout past) logs
    ∙ ap (λ (base : ℕ). state_with (since other.log base) passes layout past) bases

-- a run of which no segment is made is new
pub new_state : (layout : Layout) (opened : OpenState) (passes : List Known) → opened.base ≡ 0
    → passes ≡ replicate layout.threads (new_pass opened.log []) → state_of opened passes layout None ≡ new_run layout opened.log
new_state layout opened passes none new =
    ap (λ (base : ℕ). state_with (since opened.log base) passes layout None) none
    ∙ ap (λ (each : List Known). state_with (since opened.log 0) each layout None) new

-- what a segment leaves fits its layout
pub fits_after : (layout own : Layout) (after : Past) → FitsPast own after → own ≡ layout → FitsPast layout after
fits_after layout own after fits laid = subst (λ (l : Layout). FitsPast l after) laid fits

module _ (clock : ClockId) (of : Since) (layout : Layout) (past : Option Past) (before : List Known) (scripts : List (List Query))
    (pens : List PenState) (passes : List Known) (answers : List (List CallOutcome)) (trace : Recording) (bytes : List ℕ) (history : List LogEvent)
    (made : IsMade clock of layout past before scripts pens passes answers trace bytes history) where
  abbrev state : RunState
  state = state_with of before layout past

  abbrev workers : List WorkerState
  workers = made.served.workers

  threads : length workers ≡ layout.threads
  threads = made.served.served.one_each ∙ made.served.one_each ∙ ap (λ (l : Layout). l.threads) (sym made.of_clock)

  pub is_segment : (order : List ℕ) → IsSegmentOf state (ran_of trace scripts answers bytes order) passes history
  is_segment order =
      let recorded = subst (λ (ps : List PenState). AreEventsOf trace.events ps) made.served.pens_are made.recorded in
      let same = made.laid ∙ made.of_clock in
      record {
        spelled = made.spelled;
        layout_is = made.laid;
        answers_each = ap (λ (a : List (List CallOutcome)). length a) made.served.answers_are ∙ length-map workers (λ (w : WorkerState). w.said) ∙ threads;
        calls = subst (λ (a : List (List CallOutcome)). AreAllCallsOf trace scripts a) (sym made.served.answers_are)
            (are_calls clock of scripts workers trace made.served.served recorded same);
        heard = subst (λ (p : List Known). AllZip HasSeenMore before p) (sym made.served.passes_are) made.served.heard;
        log = record {
          of_log = made.of_log;
          is_history = made.is_history;
          begins = made.begins;
          calls_are = made.calls_are;
        };
        seen = subst (λ (p : List Known). HaveSeenAnswersFrom of.from trace p) (sym made.served.passes_are)
            (have_seen_from clock of scripts workers trace made.served.served recorded same);
      }

  pub is_right : (order : List ℕ) → ((run : Option Run) → IsBehind run past trace → IsSoundAfter run trace) → order ≡ recorded_order trace
      → IsRightSegment state (ran_of trace scripts answers bytes order) passes history
  is_right order sound is = record {
    segment = is_segment order;
    sound = λ run kept. sound run (behind_it of before layout past trace run kept made.laid);
    order_is = is;
  }

  pub is_wrong : (fault : Fault) → ((run : Option Run) → IsBehind run past trace → IsFirstAfter run trace fault) → HasFailed state scripts bytes fault
  is_wrong fault first = record {
    trace = trace;
    answers = answers;
    passes = passes;
    history = history;
    wrong = record { segment = is_segment []; first = λ run kept. first run (behind_it of before layout past trace run kept made.laid) };
  }

  pub has_ended : (order : List ℕ) → ((run : Option Run) → IsBehind run past trace → IsSoundAfter run trace) → order ≡ recorded_order trace
      → (All (All IsAnswer) answers → ⊥) → HasEnded state scripts answers bytes order passes
  has_ended order sound is stopped =
      let each : length answers ≡ length scripts =
      ap (λ (a : List (List CallOutcome)). length a) made.served.answers_are ∙ length-map workers (λ (w : WorkerState). w.said)
      ∙ made.served.served.one_each in
      record {
        trace = trace;
        history = history;
        right = is_right order sound is;
        stopped = λ all. stopped (none_stopped scripts answers each all);
      }

  pub has_gone : (order : List ℕ) (after : Past) (new : List Known) → ((run : Option Run) → IsBehind run past trace → IsSoundAfter run trace)
      → order ≡ recorded_order trace → All (All IsAnswer) answers
      → ((run : Option Run) → IsBehind run past trace → IsKept (run_after run trace) after) → All (λ pass. pass.log ≡ of.log) new
      → All (λ pass. StartsWith pass.view.seen history) new → length new ≡ length passes
      → HasGone state scripts answers bytes order (state_with (since of.log (of.from + length trace.log)) new layout (Some after))
  has_gone order after new sound is answered kept logs known same =
      let long : length passes ≡ layout.threads =
      ap (λ (p : List Known). length p) made.served.passes_are ∙ length-map workers (λ (w : WorkerState). w.pass) ∙ threads in
      let right = is_right order sound is in
      record {
        trace = trace;
        passes = passes;
        history = history;
        right = right;
        on = record {
          answered = are_all_answered trace scripts answers right.segment.calls answered;
          layout_is = refl;
          kept = λ run held. (
            laid_after of before layout past trace run held made.laid,
            kept run (behind_it of before layout past trace run held made.laid),
          );
          log_is = refl;
          base_is = refl;
          of_log = logs;
          known = known;
          passes_each = same ∙ long;
        };
      }
