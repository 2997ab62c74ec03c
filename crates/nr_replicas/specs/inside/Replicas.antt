-- What holds inside the calls of the replicas.
use Rattle.std.specs.Prelude.{◌≡◌, ℕ, ◌+◌, ◌-◌, ◌/◌, ◌≤◌, List, [], ◌∷◌, All, IfSome, Option, length}
use Rattle.vs_types.specs.Config.{Layout}
use Rattle.vs_types.specs.Space.{Space}
use Rattle.vs_types.specs.Step.{allow, look}
use Rattle.vs_types.specs.declared.requests.answer.Answer.{Answer}
use Rattle.vs_types.specs.declared.addresses.depth.Depth.{Depth}
use Rattle.vs_types.specs.declared.log_entry.LogEntry.{LogEntry}
use Rattle.nr_ring.specs.LogHistory.{Log}
use Rattle.nr_node.specs.Node.{NodeState}
use Rattle.nr_ring.specs.Pass.{Known, TableId, new_pass}
use Rattle.nr_replicas.specs.Replicas.{IsAnsweredAt}
use Rattle.nr_replicas.specs.declared.question.Question.{Question}
use Rattle.nr_replicas.specs.declared.question.Question.TheVariants.{Resolve, Access}

-- what a question about an address is answered in a space
abbrev pub answer_in : Question → ℕ → Space → Answer
answer_in Resolve address space = look space address
answer_in (Access mode access) address space = allow space address mode access

-- where a combiner's own update was answered, it is in the log at that place, which is not below this one, and was answered so there
abbrev pub IsOwnAnswer : Depth → ℕ → ℕ → Log → LogEntry → Option (ℕ × Answer) → Type 0
IsOwnAnswer depth tables from log entry own = IfSome own (λ update. IsAnsweredAt depth tables from log entry update.0 update.1)

-- how many slots each replica has, so that there is one for each of its threads: replica 0 has the most, and no slot too many
abbrev pub slots_each : Layout → ℕ
slots_each layout = (layout.threads + (layout.replicas - 1)) / layout.replicas

-- the layout of some replicas is that of their names, and each has a slot for each of its threads
pub record AreShared (depth : Depth) (replicas tables : ℕ) (layout : Layout) (slots : List ℕ) : Type 0 where
  pub depth_is : layout.depth ≡ depth
  pub replicas_are : layout.replicas ≡ replicas
  pub tables_are : layout.tables ≡ tables
  pub some : 1 ≤ layout.replicas
  pub count : length slots ≡ layout.replicas
  pub for_each : All (λ n. n ≡ slots_each layout) slots

-- the pass of a new log that owns some replica
abbrev pub IsNewPass : TableId → Known → Type 0
IsNewPass log pass = (replica : ℕ) × (pass ≡ new_pass log (replica ∷ []))

-- a node is of this log, may have so many tables and keeps the entries from this place on
pub record IsNodeOf (log : TableId) (tables base : ℕ) (node : NodeState) : Type 0 where
  pub log_is : node.known.log ≡ log
  pub tables_are : node.tables ≡ tables
  pub base_is : node.base ≡ base

-- the nodes of replicas without a name: one for each, of this log, which keeps the entries from this place on and holds no update
pub record AreNodes (depth : Depth) (replicas : ℕ) (log : TableId) (layout : Layout) (base : ℕ) (nodes : List NodeState) : Type 0 where
  pub depth_is : layout.depth ≡ depth
  pub replicas_are : layout.replicas ≡ replicas
  pub some : 1 ≤ layout.replicas
  pub count : length nodes ≡ layout.replicas
  pub each : All (IsNodeOf log layout.tables base) nodes
  pub idle : All (λ node. node.batch ≡ []) nodes
