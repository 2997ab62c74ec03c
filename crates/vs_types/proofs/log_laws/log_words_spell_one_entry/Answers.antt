use Rattle.vs_types.proofs.OneEntry.{one_entry}
use Rattle.vs_types.proofs.log_laws.log_words_spell_one_entry.Goals as goal

pub returns : goal.returns
returns c = one_entry
