-- What a run in segments has come to between two of them.
use Rattle.std.specs.Prelude.{◌≡◌, ℕ, List, [], All, None, Option, length, map, replicate}
use Rattle.vs_types.specs.Config.{Layout}
use Rattle.nr_chain.specs.Fed.{Kept}
use Rattle.nr_ring.specs.LogHistory.{IsLogHistory, log_after}
use Rattle.nr_ring.specs.Pass.{Known, TableId, new_pass}
use Rattle.nr_ring.specs.View.{StartsWith}
use Rattle.nr_ring.specs.declared.ring.log_event.LogEvent.{LogEvent}

-- how the run is laid out, and what the chain of its segments has come to, if there are some. Its log, how many entries that had at the
-- last cut, and what the threads' passes have seen of it
pub record RunState : Type 0 where
  pub layout : Layout
  pub kept : Option Kept
  pub log : TableId
  pub base : ℕ
  pub passes : List Known

-- the state of a run of which nothing is run yet
abbrev pub new_run : Layout → TableId → RunState
new_run layout log = record {
  layout = layout;
  kept = None;
  log = log;
  base = 0;
  passes = replicate layout.threads (new_pass log []);
}

-- these are the calls of one log up to the last cut, by place: of a history that each thread's pass has seen
pub record HasOneLog (state : RunState) (calls : List ℕ) : Type 0 where
  pub one_each : length state.passes ≡ state.layout.threads
  pub of_log : All (λ pass. pass.log ≡ state.log) state.passes
  pub history : List LogEvent
  pub is_history : IsLogHistory state.layout.depth state.layout.replicas history
  pub known : All (λ pass. StartsWith pass.view.seen history) state.passes
  pub calls_are : calls ≡ map (λ entry. entry.call) (log_after state.layout.replicas history).entries
  pub ends : length calls ≡ state.base
