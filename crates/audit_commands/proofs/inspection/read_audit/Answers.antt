use Rattle.std.proofs.Common.{inl, inr, subst, sym}
use Rattle.clap.specs.Words.{found_of, rows_of}
use Rattle.audit_commands.specs.Words.{IsMisuse}
use Rattle.audit_commands.proofs.CommandLines.{asks_traces, flag_is}
use Rattle.audit_commands.proofs.inspection.read_audit.Goals as goal

pub read_chain-requires-clause-chain : goal.read_chain-requires-clause-chain
read_chain-requires-clause-chain c = flag_is c.is_given.ensures c.if-is_given.true

pub returns-then-is_given-2-clause-misused : goal.returns-then-is_given-2-clause-misused
returns-then-is_given-2-clause-misused c =
    let rows = rows_of (found_of c.args.given.now) in
    inr (subst (IsMisuse rows) (sym c.in_ok-alone.ensures.kind)
    (flag_is c.is_given.ensures c.if-is_given.false, inl (flag_is c.is_given-2.ensures c.if-is_given-2.true)))

pub returns-then-is_given-3-clause-misused : goal.returns-then-is_given-3-clause-misused
returns-then-is_given-3-clause-misused c =
    let rows = rows_of (found_of c.args.given.now) in
    inr (subst (IsMisuse rows) (sym c.in_ok-unchained.ensures.kind) (
      flag_is c.is_given.ensures c.if-is_given.false,
      inr (flag_is c.is_given-3.ensures c.if-is_given-3.true),
    ))

pub returns-clause-asks : goal.returns-clause-asks
returns-clause-asks c =
    let rows = rows_of (found_of c.args.given.now) in
    asks_traces rows c.in_ok-asked.asked (flag_is c.is_given.ensures c.if-is_given.false) (flag_is c.is_given-2.ensures c.if-is_given-2.false)
    (flag_is c.is_given-3.ensures c.if-is_given-3.false) c.in_ok-asked.ensures.asks
