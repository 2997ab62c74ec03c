-- What holds while a thread works through its script.
use Rattle.std.specs.Prelude.{◌≡◌, ℕ, ◌+◌, ◌<◌, List, [], ◌∷◌, ◌++◌, All, None, flat_map, length, map, take}
use Rattle.vs_types.specs.Config.{Layout}
use Rattle.vs_types.specs.Query.{IsQuery}
use Rattle.vs_types.specs.declared.addresses.depth.Depth.{Depth}
use Rattle.vs_types.specs.declared.requests.request.Query.{Query}
use Rattle.nr_ring.specs.LogHistory.{IsLogHistory, log_after}
use Rattle.nr_ring.specs.Pass.{Known, TableId}
use Rattle.nr_record.specs.Pen.{ClockId, PenState, calls_in, new_pen}
use Rattle.nr_serve.specs.SegmentRun.{HasSeenMore, IsAnswer}
use Rattle.nr_serve.specs.inside.Calls.{IsServed, IsTrueOf, MadeCall, Since, WorkerState, notes_of}
use Rattle.nr_serve.specs.declared.endings.call_outcome.CallOutcome.{CallOutcome}

-- the layout, and the place from which on places are counted, are those of the names of a log and of its replicas
pub record IsNamed (layout : Layout) (base : ℕ) (depth : Depth) (replicas tables from : ℕ) : Type 0 where
  pub depth_is : layout.depth ≡ depth
  pub replicas_are : layout.replicas ≡ replicas
  pub tables_are : layout.tables ≡ tables
  pub base_is : base ≡ from

-- what a thread is given
pub record JobState : Type 0 where
  pub thread : ℕ
  pub script : List Query
  pub pen : PenState
  pub pass : Known

-- the jobs of these scripts, pens and passes, from this thread on
abbrev pub jobs_from : ℕ → List (List Query) → List PenState → List Known → List JobState
jobs_from thread (script ∷ scripts) (pen ∷ pens) (pass ∷ passes) =
    record { thread = thread; script = script; pen = pen; pass = pass } ∷ jobs_from (thread + 1) scripts pens passes
jobs_from thread scripts pens passes = []

-- a thread may work through its script: its pen is new and may make as many calls, and its requests are well formed
pub record IsReady (clock : ClockId) (log : TableId) (thread : ℕ) (script : List Query) (pen : PenState) (pass : Known) : Type 0 where
  pub pen_is : pen ≡ new_pen clock thread (length script)
  pub of_log : pass.log ≡ log
  pub is_thread : thread < clock.layout.threads
  pub well_formed : All (IsQuery clock.layout.depth) script

abbrev pub IsReadyJob : ClockId → TableId → JobState → Type 0
IsReadyJob clock log job = IsReady clock log job.thread job.script job.pen job.pass

-- what a job's thread hands back: it has done what its script asks, and its pass has seen what it had seen, and perhaps more
abbrev pub IsDone : ClockId → Since → JobState → WorkerState → Type 0
IsDone clock of job worker = IsServed clock of job.thread job.script worker × HasSeenMore job.pass worker.pass

-- a pen has noted one call more, and its reply where there is one; what came of it is true of the log that the pass has seen
pub record HasCalled (layout : Layout) (from : ℕ) (request : Query) (before after : PenState) (pass : Known) (said : CallOutcome) : Type 0 where
  pub number : ℕ
  pub replied : ℕ
  pub of_clock : after.clock ≡ before.clock
  pub of_thread : after.thread ≡ before.thread
  pub quota : after.quota ≡ before.quota
  pub notes : after.made
      ≡ before.made ++ notes_of layout before.thread (record { request = request; number = number; said = said; replied = replied })
  pub none_waits : IsAnswer said → after.waiting ≡ None
  pub true_call : IsTrueOf layout from (log_after layout.replicas pass.view.seen) number request said

-- so many requests of the script are answered
pub record IsUnderWay (clock : ClockId) (of : Since) (thread : ℕ) (script : List Query) (done : ℕ) (pen : PenState) (pass : Known) (said : List CallOutcome)
    : Type 0 where
  pub of_clock : pen.clock ≡ clock
  pub of_thread : pen.thread ≡ thread
  pub quota : pen.quota ≡ length script
  pub of_log : pass.log ≡ of.log
  pub history : IsLogHistory clock.layout.depth clock.layout.replicas pass.view.seen
  pub calls : List MadeCall
  pub count : length calls ≡ done
  pub requests : map (λ call. call.request) calls ≡ take done script
  pub said_is : said ≡ map (λ call. call.said) calls
  pub notes : pen.made ≡ flat_map (notes_of clock.layout thread) calls
  pub answered : All IsAnswer said
  pub none_waits : pen.waiting ≡ None
  pub calls_noted : calls_in pen.made ≡ done
  pub true_calls : All (λ call. IsTrueOf clock.layout of.from (log_after clock.layout.replicas pass.view.seen) call.number call.request call.said) calls
