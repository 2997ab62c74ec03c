use Rattle.std.proofs.Common.{[], ◌∷◌, arith}
use Rattle.vs_types.proofs.LogWords.{finds_again}
use Rattle.vs_types.proofs.log_laws.words_of_entries.Goals as goal

pub returns-clause-reserved_bit : goal.returns-clause-reserved_bit
returns-clause-reserved_bit c = λ depth entry is. let found = finds_again depth (0x4000F0 ∷ 0x1 ∷ []) entry is in omega (arith, found.codes)
