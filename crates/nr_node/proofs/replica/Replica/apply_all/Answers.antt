use Rattle.std.proofs.Common.{◌≡◌, ◌++◌, length, take, ap, sym, subst, arith, length-append}
use Rattle.std.proofs.lemmas.List.{length-take-le}
use Rattle.vs_types.specs.LogEntry.{IsLogEntry}
use Rattle.vs_types.specs.declared.addresses.depth.Depth.{Depth}
use Rattle.vs_types.specs.declared.log_entry.LogEntry.{LogEntry}
use Rattle.nr_node.specs.inside.Replica.{ReplicaState}
use Rattle.nr_node.proofs.replica.Replica.apply_all.Goals as goal

pub apply-answer-requires-clause-fits : goal.apply-answer-requires-clause-fits
apply-answer-requires-clause-fits g c =
    let i = c.loop-entry.entry-index in
    let x = c.entry-item.result in
    let Fits : Depth → Type 0 = λ d. IsLogEntry d x in
    let P : LogEntry → Type 0 = λ e. IsLogEntry c.args.self.now.depth e in
    subst Fits (ap (λ (r : ReplicaState). r.depth) (sym c.loop-entry.invariant))
    (subst P (sym c.entry-item.is) (c.requires.fit i x c.loop-entry-test.true))

pub apply-answer-requires-clause-room : goal.apply-answer-requires-clause-room
apply-answer-requires-clause-room g c =
    let entries = c.args.entries.now in
    let i = c.loop-entry.entry-index in
    let before = c.args.self.now.entries in
    let count : length c.loop-entry.self.entries ≡ length (before ++ take i entries) = ap (λ (r : ReplicaState). length r.entries) c.loop-entry.invariant in
    omega (
      arith,
      c.loop-entry-test.true,
      count,
      length-append before (take i entries),
      length-take-le i entries (omega arith),
      ap (λ (r : ReplicaState). r.base) c.loop-entry.invariant,
      c.requires.room,
    )
