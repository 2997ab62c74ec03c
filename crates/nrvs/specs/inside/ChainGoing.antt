-- How far a run in segments has come. No public clause cites this file.
use Rattle.std.specs.Prelude.{◌≡◌, ◌≤◌, ◌⊎◌, ℕ, ◌++◌, Bool, List, [], Option, Some, None, length, slice_index_or}
use Rattle.std.specs.List.{AllZip}
use Rattle.std.specs.Io.KnownBytes.{Appends}
use Rattle.vs_types.specs.declared.addresses.depth.Depth.{Depth}
use Rattle.vs_types.specs.declared.requests.request.Query.{Query}
use Rattle.nr_ring.specs.Pass.{TableId}
use Rattle.nr_serve.specs.ChainOfRun.{IsOutcomeOf, RunsOn}
use Rattle.nr_serve.specs.RunState.{RunState, new_run}
use Rattle.nr_serve.specs.SegmentRun.{Ran}
use Rattle.nr_serve.specs.declared.endings.segment_outcome.SegmentOutcome.{SegmentOutcome}
use Rattle.nr_serve.specs.declared.endings.segment_outcome.SegmentOutcome.TheVariants.{Right, Last, Wrong}
use Rattle.nr_script.specs.Fed.{EndsIn}
use Rattle.nr_script.specs.Lines.{Says}
use Rattle.nr_script.specs.Portion.{PortionState, number_behind, request_count}
use Rattle.nr_script.specs.Script.{steps_of}
use Rattle.nr_script.specs.declared.line.Line.{Line}
use Rattle.audit_readers.specs.declared.fault.ProgFault.{ProgFault}
use Rattle.audit_readers.specs.declared.fault.ProgFault.TheVariants.{BadLine}
use Rattle.nrvs.specs.RunText.{refused_text, said_lines, verified_text}
use Rattle.nrvs.specs.ServedChain.{AreFull, AreGivenBut, BeginsAsScript, HasNoRequestLine, IsServedChain, TellsStopped, TellsWrong, chain_layout, segments_text}
use Rattle.nrvs.specs.ServedRun.{IsRunEnd, asked_for}
use Rattle.nrvs.specs.declared.runs.served_chain.After.{After}
use Rattle.nrvs.specs.declared.runs.served_chain.After.TheVariants.{GoesOn, Ends}
use Rattle.nrvs.specs.declared.runs.chain_setup.ChainSetup.{ChainSetup}
use Rattle.nrvs.specs.declared.runs.setup.Setup.{Setup}

-- what is written of a segment
abbrev pub told_of_segment : {J : Type 0} → Bool → SegmentOutcome J → List ℕ
told_of_segment as_trace (Right answers bytes order run) = asked_for as_trace bytes (said_lines answers)
told_of_segment as_trace (Last answers bytes order passes) = asked_for as_trace bytes (verified_text answers)
told_of_segment as_trace (Wrong bytes fault) = asked_for as_trace bytes (refused_text fault)

-- the run goes on from there, or ends with this status
abbrev pub IsAfter : {J : Type 0} → SegmentOutcome J → After J → Type 0
IsAfter (Right answers bytes order run) (GoesOn next) = run ≡ next
IsAfter (Last answers bytes order passes) (Ends status) = status ≡ 0
IsAfter (Wrong bytes fault) (Ends status) = status ≡ 1
IsAfter _ _ = ⊥

-- the status with which the run ends there, if it does
abbrev pub status_of : {J : Type 0} → After J → Option ℕ
status_of (GoesOn next) = None
status_of (Ends status) = Some status

-- a segment of these scripts was run from this state on, and written
pub record HasRunSegment {J : Type 0} (as_trace : Bool) (state : RunState) (scripts : List (List Query)) (old new : Option (List ℕ)) (after : After J) : Type 0
  where
    pub outcome : SegmentOutcome J
    pub of_scripts : IsOutcomeOf state scripts outcome
    pub goes_so : IsAfter outcome after
    pub written : Appends old new (told_of_segment as_trace outcome)

-- what lines ask was given in right segments, but for these lists, and what came of the segments was written
pub record HasAsked (setup : Setup) (chain : ChainSetup) (said : List Line) (lists : List (List Query)) (old new : Option (List ℕ)) (run : RunState) : Type 0
  where
    pub log : TableId
    pub own : List ℕ
    pub segments : List Ran
    pub runs : RunsOn (new_run (chain_layout setup) log) own segments run
    pub full : AreFull chain.most segments
    pub one_each : length lists ≡ 64
    pub given : AreGivenBut (λ thread. slice_index_or lists thread []) said segments
    pub written : Appends old new (segments_text chain.as_trace segments)

-- these bytes have come: lines of requests, which were asked but for what is gathered, and a line that has begun
pub record HasCome (setup : Setup) (chain : ChainSetup) (bytes : List ℕ) (old new : Option (List ℕ)) (run : RunState) (portion : PortionState) : Type 0 where
  pub depth_is : portion.depth ≡ setup.depth
  pub before : List (List ℕ)
  pub ends_in : EndsIn bytes before portion.begun
  pub said : List Line
  pub each_says : AllZip (Says setup.depth) before said
  pub no_step : steps_of said ≡ []
  pub number_is : portion.number ≡ number_behind 1 (length said)
  pub asked : HasAsked setup chain said portion.lists old new run

-- between two lines of a piece, of which so much is left: whatever had come, and was written
pub record IsUnderWay (setup : Setup) (chain : ChainSetup) (piece rest : List ℕ) (first now : Option (List ℕ)) (initial run : RunState)
    (begun portion : PortionState) : Type 0 where
  pub taken : List ℕ
  pub split : piece ≡ taken ++ rest
  pub come : (bytes : List ℕ) (old : Option (List ℕ)) → HasCome setup chain bytes old first initial begun
      → HasCome setup chain (bytes ++ taken) old now run portion

-- a text ends the answer on bytes that begin with lines that say this: a thread was stopped, or a segment is wrong
pub record HasEnded (setup : Setup) (chain : ChainSetup) (said : List Line) (old new : Option (List ℕ)) (status : ℕ) : Type 0 where
  pub text : List ℕ
  pub written : Appends old new text
  pub tells : (front behind : List ℕ) (rest : List (List ℕ)) → BeginsAsScript setup.depth front said rest → length rest ≤ 1
      → TellsStopped setup chain front (front ++ behind) text status ⊎ TellsWrong setup chain front (front ++ behind) text status

-- it ends the answer on these bytes, whatever comes behind them; nothing was asked of so many of them at most
pub record EndsHere (setup : Setup) (chain : ChainSetup) (most : ℕ) (bytes : List ℕ) (old new : Option (List ℕ)) (status : ℕ) : Type 0 where
  pub front : List ℕ
  pub behind : List ℕ
  pub split : bytes ≡ front ++ behind
  pub short : length behind ≤ most
  pub text : List ℕ
  pub written : Appends old new text
  pub tells : (more : List ℕ) → IsServedChain setup chain front (bytes ++ more) text status

-- after these bytes
abbrev pub HasFed : {J : Type 0} → Setup → ChainSetup → ℕ → List ℕ → Option (List ℕ) → Option (List ℕ) → PortionState → After J → Type 0
HasFed setup chain most bytes old new portion (GoesOn run) = HasCome setup chain bytes old new run portion
HasFed setup chain most bytes old new portion (Ends status) = EndsHere setup chain most bytes old new status

-- right segments were written, in which lines at the front of these bytes were asked, but for requests that fill no more than a segment; behind
-- the front are so many bytes at most
pub record HasWrittenSome (setup : Setup) (chain : ChainSetup) (most : ℕ) (bytes : List ℕ) (old new : Option (List ℕ)) : Type 0 where
  pub front : List ℕ
  pub behind : List ℕ
  pub split : bytes ≡ front ++ behind
  pub short : length behind ≤ most
  pub run : RunState
  pub portion : PortionState
  pub few : request_count portion.lists ≤ chain.most
  pub come : HasCome setup chain front old new run portion

-- why bytes are not taken: a line in them, whatever comes behind them; or what no contract says
abbrev pub IsLastingFault : Depth → List ℕ → ProgFault → Type 0
IsLastingFault depth bytes (BadLine number) = (behind : List ℕ) → HasNoRequestLine depth (Some (bytes ++ behind)) number
IsLastingFault depth bytes fault = IsRunEnd fault

-- why the script that these bytes are is not run to its end: its last line, or what no contract says
abbrev pub IsLastFault : Depth → List ℕ → ProgFault → Type 0
IsLastFault depth bytes (BadLine number) = HasNoRequestLine depth (Some bytes) number
IsLastFault depth bytes fault = IsRunEnd fault
