use Rattle.audit_readers.proofs.Reading.{answers_end, answers_wrong, end_refused, more_at_once, reports_end, reports_wrong}
use Rattle.audit_readers.proofs.chain.audit.audit_chain_io.Goals as goal

pub returns-in-Ended-clause-ok : goal.returns-in-Ended-clause-ok
returns-in-Ended-clause-ok g c =
    let judged = rw c.in-Ended.is at c.in_ok-chain.ensures.ok in
    reports_end c.depends-counts.result c.args.least c.depends-counts.ensures _ c.totals_told-totals.result c.totals_told-totals.ensures c.end-found.result
    c.tell_end.result judged.2 (c.end-found.ensures judged.0 judged.1) c.tell_end.ensures.ok judged.3

pub returns-in-Ended-clause-read : goal.returns-in-Ended-clause-read
returns-in-Ended-clause-read g c =
    let judged = rw c.in-Ended.is at c.in_ok-chain.ensures.ok in
    answers_end c.depends-counts.result c.args.least c.depends-counts.ensures _ c.totals_told-totals.result c.totals_told-totals.ensures c.end-found.result
    c.tell_end.result judged.2 (c.end-found.ensures judged.0 judged.1) c.tell_end.ensures.ok

pub returns-in-Ended-clause-first : goal.returns-in-Ended-clause-first
returns-in-Ended-clause-first g c =
    let judged = rw c.in-Ended.is at c.in_ok-chain.ensures.ok in
    end_refused g.W.Write.contents c.judge_blocks.new.writer c.tell_end.new.writer c.tell_end.result judged.2 c.tell_end.ensures.err

pub returns-in-Faulty-clause-ok : goal.returns-in-Faulty-clause-ok
returns-in-Faulty-clause-ok g c =
    let judged = rw c.in-Faulty.is at c.in_ok-chain.ensures.ok in
    reports_wrong c.args.least _ _ c.in-Faulty.fault c.write_end.result judged.3 judged.4 judged.5 c.write_end.ensures.ok

pub returns-in-Faulty-clause-read : goal.returns-in-Faulty-clause-read
returns-in-Faulty-clause-read g c =
    let judged = rw c.in-Faulty.is at c.in_ok-chain.ensures.ok in
    answers_wrong c.args.least _ _ c.in-Faulty.fault c.write_end.result judged.3 judged.4 judged.5 c.write_end.ensures.ok

pub returns-in-Faulty-clause-first : goal.returns-in-Faulty-clause-first
returns-in-Faulty-clause-first g c =
    let judged = rw c.in-Faulty.is at c.in_ok-chain.ensures.ok in
    end_refused g.W.Write.contents c.judge_blocks.new.writer c.write_end.new.writer c.write_end.result judged.3
    c.write_end.ensures.err

pub returns-in-Ended-clause-at_once : goal.returns-in-Ended-clause-at_once
returns-in-Ended-clause-at_once g c = more_at_once c.in_ok-chain.ensures.at_once c.tell_end.ensures.grown

pub returns-in-Faulty-clause-at_once : goal.returns-in-Faulty-clause-at_once
returns-in-Faulty-clause-at_once g c = more_at_once c.in_ok-chain.ensures.at_once c.write_end.ensures.grown
