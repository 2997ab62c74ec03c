use Rattle.std.proofs.Common.{◌∙◌, codes, sym}
use Rattle.std.proofs.lemmas.Bool.{true≢false}
use Rattle.std.proofs.lemmas.Slice.Eq.{bytes_eq-Decides}
use Rattle.audit_commands.proofs.tap.judge_file.Goals as goal

-- the name of a file that was opened isn't that of standard input
pub returns-in-Ok-clause-own : goal.returns-in-Ok-clause-own
returns-in-Ok-clause-own g c =
    λ same. absurd (true≢false (sym (c.eq.ensures ∙ (bytes_eq-Decides c.args.name.now (codes "-")).1 same) ∙ c.if-eq.false))
