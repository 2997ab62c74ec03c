use Rattle.vs_types.specs.declared.addresses.depth.Depth.TheVariants.{Five}
use Rattle.vs_types.proofs.Depths.{entry_in_five}
use Rattle.vs_types.proofs.OneEntry.{spells_told, tells_it}
use Rattle.nr_ring.proofs.cells.packed.PackedEntry.of.Goals as goal

pub invariant_of-result : goal.invariant_of-result
invariant_of-result c =
    let spells = c.requires.2 in spells_told Five c.args.words c.requires.1 (entry_in_five c.requires.0 c.requires.1 spells.is_entry) spells.spelled

pub returns : goal.returns
returns c = λ depth entry spells. tells_it depth c.args.words entry spells
