-- Two packed entries are the same where their words are.
use Rattle.std.proofs.Common.{◌≡◌, ◌∷◌, [], get_or}
use Rattle.vs_types.specs.LogEntry.{log_words}
use Rattle.vs_types.specs.declared.log_entry.LogEntry.{LogEntry}

-- two entries whose two words are the same have the same words
pub same_words : (a b : LogEntry) → get_or (log_words a) 0 0 ≡ get_or (log_words b) 0 0 → get_or (log_words a) 1 0 ≡ get_or (log_words b) 1 0
    → log_words a ≡ log_words b
same_words a b first second = λ i. first i ∷ second i ∷ []
