use Rattle.std.proofs.Common.{rules, refl, [], ◌∷◌, lit<}
use Rattle.vs_types.specs.declared.addresses.depth.Depth.TheVariants.{Five}
use Rattle.vs_types.specs.declared.requests.op.Action.TheVariants.{Unmap}
use Rattle.vs_types.proofs.OneEntry.{spells_told}
use Rattle.nr_ring.proofs.cells.packed.PackedEntryDefault.default.Goals as goal

pub invariant_of-result : goal.invariant_of-result
invariant_of-result c =
    spells_told Five (1 ∷ 0 ∷ []) (record { call = 0; op = Unmap 0 }) (record { well_formed = search rules; in_range = lit< tt }) refl
