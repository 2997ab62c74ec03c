use Rattle.vs_types.specs.LogEntry.{IsLogEntry}
use Rattle.vs_types.specs.declared.addresses.depth.Depth.TheVariants.{Five}
use Rattle.vs_types.proofs.Depths.{entry_in_five}
use Rattle.vs_types.proofs.OneEntry.{spells_told, tells_it}
use Rattle.nr_ring.proofs.cells.packed.PackedEntry.new.Goals as goal

pub invariant_of-result : goal.invariant_of-result
invariant_of-result c =
    let is : IsLogEntry c.is_well_formed.ensures.0 c.args.entry = record { well_formed = c.is_well_formed.ensures.1; in_range = c.requires } in
    spells_told Five c.pack.result c.args.entry (entry_in_five c.is_well_formed.ensures.0 c.args.entry is) c.pack.ensures

pub returns : goal.returns
returns c =
    let is : IsLogEntry c.is_well_formed.ensures.0 c.args.entry = record { well_formed = c.is_well_formed.ensures.1; in_range = c.requires } in
    tells_it c.is_well_formed.ensures.0 c.pack.result c.args.entry (record { is_entry = is; spelled = c.pack.ensures })
