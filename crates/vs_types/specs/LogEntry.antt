-- Entries of the log: an operation with the number of its call, and the two words that spell it.
use Rattle.std.specs.Prelude.{◌≡◌, ℕ, ◌+◌, ◌*◌, ◌/◌, ◌^◌, ◌<◌, List, [], ◌∷◌}
use Rattle.vs_types.specs.Fields.{request_fields}
use Rattle.vs_types.specs.Operation.{IsAction}
use Rattle.vs_types.specs.declared.limits.TheConstants.{CALLS}
use Rattle.vs_types.specs.declared.addresses.depth.Depth.{Depth}
use Rattle.vs_types.specs.declared.requests.request.Query.TheVariants.{Update}
use Rattle.vs_types.specs.declared.log_entry.LogEntry.{LogEntry}

-- an entry of the log: its operation is well formed at this depth, and its call is in range
pub record IsLogEntry (depth : Depth) (entry : LogEntry) : Type 0 where
  pub well_formed : IsAction depth entry.op
  pub in_range : entry.call < CALLS

-- address + kind + 4 * size + 16 * rights, and the physical address / 4096 + call * 2 ^ 39
abbrev pub log_words : LogEntry → List ℕ
log_words entry =
    let fields = request_fields (Update entry.op) in
    (fields.address + fields.kind + 4 * fields.size + 16 * fields.rights) ∷ (fields.physical / 4096 + entry.call * 2 ^ 39) ∷ []

-- an entry at this depth that the words spell
pub record SpellsEntry (depth : Depth) (words : List ℕ) (entry : LogEntry) : Type 0 where
  pub is_entry : IsLogEntry depth entry
  pub spelled : words ≡ log_words entry
