-- Runs of the protocol: any steps in turn, and what a recording of the state after them is.
use Rattle.std.specs.Prelude.{◌≡◌, ◌↔◌, ℕ, List, map, Bool, true, false, unwrap_or, Option, Some, None}
use Rattle.std.specs.List.{fold, AllZip}
use Rattle.vs_types.specs.Config.{Layout}
use Rattle.vs_types.specs.declared.addresses.depth.Depth.{Depth}
use Rattle.vs_types.specs.declared.requests.request.Query.{Query}
use Rattle.vs_walk.specs.Differences.{IsStray}
use Rattle.vs_walk.specs.Dump.{Image}
use Rattle.vs_walk.specs.Traversal.{walk_fault}
use Rattle.vs_walk.specs.Walk.{TranslatesAs}
use Rattle.nr_trace.specs.Recording.{IsThere, Recording}
use Rattle.nr_trace.specs.Versions.{FitsFirst, IsVersionOf}
use Rattle.nr_trace.specs.declared.formats.version.Form.TheVariants as forms
use Rattle.nr_trace.specs.declared.formats.version.Version.TheVariants.{V1}
use Rattle.nr_core.specs.State.{State, Replica, start}
use Rattle.nr_core.specs.Steps.{after_step}
use Rattle.nr_core.specs.declared.runs.step.Step.{Step}

-- a call that makes a step: it has made it where that is enabled, and else nothing
abbrev pub IsStepped : State → Option State → Bool → State → Type 0
IsStepped old None done new = (done ≡ false) × (new ≡ old)
IsStepped old (Some next) done new = (done ≡ true) × (new ≡ next)

-- the state after steps in turn: those that are not enabled are passed over
abbrev pub after_steps : State → List Step → State
after_steps state steps = fold (λ before step. unwrap_or (after_step before step) before) state steps

-- some steps reach the state, from the start of some layout and scripts
abbrev pub IsReachable : State → Type 0
IsReachable state = (layout : Layout) × (scripts : List (List Query)) × (steps : List Step) × (state ≡ after_steps (start layout scripts) steps)

-- a dump of a replica: it has a frame, it translates as its space, and its walk meets no fault and reaches each of its frames
pub record IsDumpOfReplica (depth : Depth) (replica : Replica) (dump : Image) : Type 0 where
  pub there : IsThere dump
  pub applied : dump.applied ≡ replica.applied
  pub translates : TranslatesAs depth dump.frames dump.root replica.space
  pub faultless : walk_fault depth dump.frames dump.root ≡ None
  pub none_stray : (number : ℕ) → IsStray depth dump.frames dump.root number → ⊥

-- a recording of a state: its events, the call at each place of its log, and a dump of each replica, in version 1 of the format where
-- that knows the depth and each event
pub record IsRecordingOf (state : State) (trace : Recording) : Type 0 where
  pub of_trace : IsVersionOf forms.Trace trace.version
  pub version : (trace.version ≡ V1) ↔ FitsFirst state.layout.depth state.events
  pub layout : trace.layout ≡ state.layout
  pub start : trace.start ≡ None
  pub log : trace.log ≡ map (λ entry. entry.call) state.log
  pub events : trace.events ≡ state.events
  pub dumps : AllZip (IsDumpOfReplica state.layout.depth) state.replicas trace.dumps
