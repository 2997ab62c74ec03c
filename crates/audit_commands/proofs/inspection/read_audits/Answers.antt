use Rattle.std.proofs.Common.{inl, inr}
use Rattle.std.proofs.lemmas.Result.{IfErr-weaker, IfOk-weaker}
use Rattle.clap.specs.Words.{found_of, kind_of, rows_of}
use Rattle.audit_commands.proofs.CommandLines.{flag_is, misuse_of_others, misuse_of_tests}
use Rattle.audit_commands.proofs.inspection.read_audits.Goals as goal

pub returns-then-tap : goal.returns-then-tap
returns-then-tap c = record {
  asks = IfOk-weaker c.read_tests.result _ _ (λ asked h. inr (flag_is c.is_given-tap.ensures c.if-tap.true, h)) c.read_tests.ensures.asks;
  misused = IfErr-weaker c.read_tests.result _ _ (λ error h. misuse_of_tests (rows_of (found_of c.args.given.now)) (kind_of error)
      (flag_is c.is_given-tap.ensures c.if-tap.true) h)
      c.read_tests.ensures.misused;
}

pub returns : goal.returns
returns c = record {
  asks = IfOk-weaker c.read_audit.result _ _ (λ asked h. inl (flag_is c.is_given-tap.ensures c.if-tap.false, h)) c.read_audit.ensures.asks;
  misused = IfErr-weaker c.read_audit.result _ _ (λ error h. misuse_of_others (rows_of (found_of c.args.given.now)) (kind_of error)
      (flag_is c.is_given-tap.ensures c.if-tap.false) h)
      c.read_audit.ensures.misused;
}
