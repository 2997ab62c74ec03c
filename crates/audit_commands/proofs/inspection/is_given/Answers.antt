use Rattle.clap.specs.Words.{found_of}
use Rattle.clap.proofs.WalkLemmas.{one_text-rows}
use Rattle.audit_commands.proofs.CommandLines.{flag_of}
use Rattle.audit_commands.proofs.inspection.is_given.Goals as goal

pub returns : goal.returns
returns c =
    let flag = c.get_flag.ensures in flag_of _ _ _ (one_text-rows (found_of c.args.given.now) c.args.id.now) flag.none flag.value flag.other
