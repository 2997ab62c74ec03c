-- The laws: what a later log says of the places of an earlier one, and the spaces that entries make.
use Rattle.std.proofs.Common.{◌≡◌, ℕ, zero, suc, ◌+◌, ◌≤◌, List, [], ◌∷◌, ◌++◌, All, Some, take, ap, ◌∙◌, arith}
use Rattle.std.specs.Prelude.{slice_get}
use Rattle.std.proofs.lemmas.List.{take_more}
use Rattle.std.proofs.lemmas.Option.{slice_get_within, get_or_from_slice_get}
use Rattle.vs_types.specs.LogEntry.{IsLogEntry}
use Rattle.vs_types.specs.Space.{Space, IsSpace, no_pages}
use Rattle.vs_types.specs.Step.{step}
use Rattle.vs_types.specs.declared.addresses.depth.Depth.{Depth}
use Rattle.vs_types.specs.declared.log_entry.LogEntry.{LogEntry}
use Rattle.vs_types.specs.declared.requests.op.Action.{Action}
use Rattle.vs_types.proofs.Spaces.{no_pages_space}
use Rattle.vs_types.proofs.Steps.{step_space}
use Rattle.nr_ring.specs.Laws.{HasGoneOn}
use Rattle.nr_ring.specs.LogHistory.{Log, IsLogHistory, log_after, tail}
use Rattle.nr_ring.specs.declared.ring.log_event.LogEvent.{LogEvent}
use Rattle.nr_ring.proofs.Fetches.{history_entries}
use Rattle.nr_node.specs.Spaces.{answer_at, space_at, space_of}
use Rattle.nr_node.proofs.Nodes.{slice_more, take_still}
use Rattle.nr_node.proofs.Spaces.{space_after_one}

pub same_entry : (earlier later : Log) (place : ℕ) (entry : LogEntry) → HasGoneOn earlier later → slice_get earlier.entries place ≡ Some entry
    → slice_get later.entries place ≡ Some entry
same_entry earlier later place entry on e =
    ap (λ l. slice_get l place) on.entries.1 ∙ slice_more earlier.entries on.entries.0 place entry e

pub same_space : (depth : Depth) (tables n : ℕ) (earlier later : Log) → HasGoneOn earlier later → n ≤ tail earlier
    → space_at depth tables later.entries n ≡ space_at depth tables earlier.entries n
same_space depth tables n earlier later on le =
    ap (space_of depth tables) (take_still earlier.entries later.entries on.entries.0 n on.entries.1 le)

pub same_answer : (depth : Depth) (tables place : ℕ) (op : Action) (earlier later : Log) → HasGoneOn earlier later → place ≤ tail earlier
    → answer_at depth tables later.entries place op ≡ answer_at depth tables earlier.entries place op
same_answer depth tables place op earlier later on le =
    ap (λ s. (step depth tables s op).answer) (same_space depth tables place earlier later on le)

pub one_entry_more : (depth : Depth) (tables place : ℕ) (log : Log) (entry : LogEntry) → slice_get log.entries place ≡ Some entry
    → space_at depth tables log.entries (place + 1) ≡ (step depth tables (space_at depth tables log.entries place) entry.op).space
one_entry_more depth tables place log entry e =
    let lt = slice_get_within log.entries place entry e in
    ap (space_of depth tables) (take_more log.entries place entry lt
    ∙ ap (λ x. take place log.entries ++ x ∷ []) (get_or_from_slice_get log.entries place entry entry e))
    ∙ space_after_one depth tables (take place log.entries) entry

first_spaces : (depth : Depth) (tables n : ℕ) (space : Space) (entries : List LogEntry) → IsSpace depth space → All (IsLogEntry depth) entries
    → IsSpace depth (Rattle.vs_types.specs.Step.after_all depth tables space (Rattle.std.proofs.Common.map (λ (e : LogEntry). e.op) (take n entries)))
first_spaces depth tables zero space entries is fit = is
first_spaces depth tables (suc n) space [] is fit = is
first_spaces depth tables (suc n) space (entry ∷ entries) is fit =
    first_spaces depth tables n (step depth tables space entry.op).space entries
    (step_space tables is entry.op (fit 0 entry (omega arith)).well_formed) (λ k d lt. fit (suc k) d (omega arith))

pub spaces_of_entries : (depth : Depth) (tables replicas n : ℕ) (events : List LogEvent) → IsLogHistory depth replicas events
    → IsSpace depth (space_at depth tables (log_after replicas events).entries n)
spaces_of_entries depth tables replicas n events is =
    first_spaces depth tables n no_pages (log_after replicas events).entries (no_pages_space depth) (history_entries depth replicas events is)
