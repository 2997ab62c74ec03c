use Rattle.std.proofs.Common.{inr, subst}
use Rattle.clap.specs.Words.{found_of, rows_of}
use Rattle.audit_commands.specs.Words.{IsLeast}
use Rattle.audit_commands.proofs.CommandLines.{none_asked, other_option}
use Rattle.audit_commands.proofs.inspection.has_other_option.Goals as goal

pub returns-then-least-gt0 : goal.returns-then-least-gt0
returns-then-least-gt0 c = inr (inr (inr (inr (c.read_least-least.result, c.read_least-least.ensures, c.if-least-gt0.true))))

pub returns : goal.returns
returns c =
    let rows = rows_of (found_of c.args.given.now) in
    other_option rows _ _ _ _ c.is_given-json.ensures c.is_given-chain.ensures c.is_given-quiet.ensures c.is_given-progress.ensures
    (subst (IsLeast rows) (none_asked c.read_least-least.result c.if-least-gt0.false) c.read_least-least.ensures)
