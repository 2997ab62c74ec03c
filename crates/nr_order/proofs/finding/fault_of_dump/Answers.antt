use Rattle.std.proofs.Common.{None, Option, subst}
use Rattle.nr_dump.specs.declared.fault.DumpFault.{DumpFault}
use Rattle.nr_audit.specs.Dumps.{IsFoundBeside}
use Rattle.nr_order.proofs.FirstFaults.{beside_empty, found_alone}
use Rattle.nr_order.proofs.finding.fault_of_dump.Goals as goal

pub returns-in-None : goal.returns-in-None
returns-in-None c =
    found_alone c.args.layout.depth c.args.dump.now
    (beside_empty c.args.layout.depth c.depth.result c.tables.result c.args.dump.now c.new-empty.result None c.new-empty.ensures c.depth.ensures
    (subst (λ (found : Option DumpFault). IsFoundBeside c.args.dump.now c.new-empty.result found) c.in-None.is c.in_ok-table_fault.ensures))
