use Rattle.std.proofs.Common.{◌≢◌, ◌∙◌, ℕ, List, Option, ap, map, sym, subst, arith}
use Rattle.vs_types.specs.declared.requests.request.Query.{Query}
use Rattle.audit_readers.proofs.Going.{passed_on}
use Rattle.audit_readers.specs.declared.fault.ProgFault.{ProgFault}
use Rattle.audit_readers.specs.declared.fault.ProgFault.TheVariants.{CannotWrite}
use Rattle.nrvs.specs.inside.ChainGoing.{HasWrittenSome, IsLastFault}
use Rattle.nrvs.proofs.ServedBlocks.{end_line_fault, end_told, stop_told, written_here}
use Rattle.nrvs.proofs.ServedChains.{last_scripts}
use Rattle.nrvs.proofs.ServedFaults.{run_last_fault}
use Rattle.nrvs.proofs.runs.served_chain.end_chain.Goals as goal

pub returns-in-Err-clause-err : goal.returns-in-Err-clause-err
returns-in-Err-clause-err g c = λ bytes old come.
    subst (IsLastFault c.args.setup.depth bytes) (sym c.script_fault.ensures)
    (end_line_fault c.args.setup c.args.chain bytes old _ c.args.run c.args.portion c.in-Err.fail come c.in-Err.ensures.bad)

pub returns-in-Err-clause-first : goal.returns-in-Err-clause-first
returns-in-Err-clause-first g c = λ bytes old come written.
    written_here c.args.setup c.args.chain bytes old _ c.args.run c.args.portion come (omega (arith, c.requires.few))

pub run_segment-requires-clause-scripts : goal.run_segment-requires-clause-scripts
run_segment-requires-clause-scripts g c κs within =
    let (bytes, old, come) = c.requires.come in
    let lists : List (List Query) = map (λ script. script.items) c.in-Ok.scripts.items in
    last_scripts c.args.setup c.args.chain bytes old _ c.args.run c.args.portion lists come c.in-Ok.ensures.ends
    (omega (arith, c.in-Ok.ensures.few, c.requires.few, c.args.chain.in_range.1))

pub returns-in_err-after-clause-err : goal.returns-in_err-after-clause-err
returns-in_err-after-clause-err g c = λ bytes old come.
    passed_on c.from_residual.result c.in_err-after.field-0.0 (IsLastFault c.args.setup.depth bytes) c.from_residual.ensures.1
    (run_last_fault c.args.setup.depth bytes c.in_err-after.field-0.0 c.in_err-after.ensures.err)

pub returns-in_err-after-clause-first : goal.returns-in_err-after-clause-first
returns-in_err-after-clause-first g c = λ bytes old come.
    let contents = g.W.Write.contents in
    let Written = λ (now : Option (List ℕ)). HasWrittenSome c.args.setup c.args.chain 0 bytes old now in
    passed_on c.from_residual.result c.in_err-after.field-0.0
    (λ (fault : ProgFault). fault ≢ CannotWrite → Written (contents c.run_segment.new.writer)) c.from_residual.ensures.1
    (λ written. subst Written (sym (ap contents (c.in_err-after.ensures.alone written)))
    (written_here c.args.setup c.args.chain bytes old (contents c.args.writer.now) c.args.run c.args.portion come (omega (arith, c.requires.few))))

pub returns-in-None-clause-ok : goal.returns-in-None-clause-ok
returns-in-None-clause-ok g c = λ bytes old come.
    let contents = g.W.Write.contents in
    let lists : List (List Query) = map (λ script. script.items) c.in-Ok.scripts.items in
    end_told c.args.setup c.args.chain bytes old (contents c.args.writer.now) (contents c.run_segment.new.writer) (contents c.write_end.new.writer)
    c.args.run c.args.portion lists _ c.write_end.result come c.in-Ok.ensures.ends (omega (arith, c.in-Ok.ensures.few, c.requires.few))
    c.in_ok-after.ensures.ok (sym c.status_of.ensures ∙ c.in-None.is) c.write_end.ensures.ok

pub returns-in-Some-clause-ok : goal.returns-in-Some-clause-ok
returns-in-Some-clause-ok g c = λ bytes old come.
    let contents = g.W.Write.contents in
    let lists : List (List Query) = map (λ script. script.items) c.in-Ok.scripts.items in
    stop_told c.args.setup c.args.chain bytes old (contents c.args.writer.now) (contents c.run_segment.new.writer) c.args.run c.args.portion lists _
    c.in-Some.status come c.in-Ok.ensures.ends (omega (arith, c.in-Ok.ensures.few, c.requires.few)) c.in_ok-after.ensures.ok
    (sym c.status_of.ensures ∙ c.in-Some.is)
