use Rattle.std.proofs.Common.{inl, inr, subst, sym}
use Rattle.clap.specs.Words.{found_of, rows_of}
use Rattle.audit_commands.specs.Words.{AsksTraces, IsMisuse}
use Rattle.audit_commands.proofs.CommandLines.{asks_chain, several_files}
use Rattle.audit_commands.proofs.inspection.read_chain.Goals as goal

pub returns-in-One-clause-asks : goal.returns-in-One-clause-asks
returns-in-One-clause-asks c =
    let rows = rows_of (found_of c.args.given.now) in
    asks_chain rows c.in-One.field-0 c.in-One.input record { as_json = c.is_given-as_json.result; quiet = c.is_given-quiet.result } c.is_given-watched.result
    c.args.least c.requires.chain c.is_given-quiet.ensures c.is_given-as_json.ensures c.is_given-watched.ensures c.requires.least
    (subst (AsksTraces rows) c.in-One.is c.requires.asked)

pub returns-in_default-clause-misused : goal.returns-in_default-clause-misused
returns-in_default-clause-misused c =
    let rows = rows_of (found_of c.args.given.now) in
    inr (subst (IsMisuse rows) (sym c.in_ok-several-in_default.ensures.kind) (
      inl c.requires.chain,
      several_files rows c.args.asked c.requires.asked c.in_default.not-One,
    ))
