use Rattle.std.proofs.Common.{◌<◌, subst}
use Rattle.vs_types.specs.declared.limits.TheConstants.{LOG_PLACES}
use Rattle.nr_core.specs.declared.states.parts.Marks.{Marks}
use Rattle.nr_core.proofs.states.state.Core.apply.Goals as goal

pub apply_entry-requires : goal.apply_entry-requires
apply_entry-requires c =
    let held = c.in-Some.ensures in
    let entry = c.in-Some-entry.ensures in
    let marks = c.marks-marks.ensures held.replica held.is in
    record { replica = held.replica; there = held.is; fits = entry.1; in_range = subst (λ (m : Marks). m.applied < LOG_PLACES) marks entry.2 }
