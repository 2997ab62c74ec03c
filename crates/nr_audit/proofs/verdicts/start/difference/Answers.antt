use Rattle.std.proofs.Common.{sym, subst, lit≤}
use Rattle.nr_dump.specs.Faults.{IsFirstOfDump}
use Rattle.nr_dump.specs.declared.fault.DumpFault.{DumpFault}
use Rattle.nr_audit.proofs.Starts.{faultless_tables, right_tables, stray_first}
use Rattle.nr_audit.proofs.verdicts.start.difference.Goals as goal

pub returns-in-Ok-clause-tables : goal.returns-in-Ok-clause-tables
returns-in-Ok-clause-tables c = faultless_tables c.args.space.now.depth c.args.start.now c.args.space.now.space c.in-Ok.ensures.faultless

pub returns-in-StrayFrame-clause-first : goal.returns-in-StrayFrame-clause-first
returns-in-StrayFrame-clause-first c = λ before.
    let space = c.args.space.now in
    let fault = subst (λ (f : DumpFault). IsFirstOfDump space.depth c.args.start.now space.space f) (sym c.in-Err-Refused.fault-is)
    (rw c.in-Err-Refused.field-0-is at c.in-Err-Refused.ensures.first) in
    stray_first space.depth before c.args.start.now space.space c.in-StrayFrame.number
    (subst (λ (f : DumpFault). IsFirstOfDump space.depth c.args.start.now space.space f) c.in-StrayFrame.is fault)

pub returns-in-Differs-clause-tables : goal.returns-in-Differs-clause-tables
returns-in-Differs-clause-tables c =
    let space = c.args.space.now in
    let fault = subst (λ (f : DumpFault). IsFirstOfDump space.depth c.args.start.now space.space f) (sym c.in-Err-Refused.fault-is)
    (rw c.in-Err-Refused.field-0-is at c.in-Err-Refused.ensures.first) in
    let first = subst (λ (f : DumpFault). IsFirstOfDump space.depth c.args.start.now space.space f) c.in-Differs.is fault in
    right_tables space.depth c.args.start.now space.space 3 (lit≤ tt) first.none_earlier
