use Rattle.std.proofs.Common.{Bool, codes, subst}
use Rattle.clap.specs.Words.{found_of, rows_of}
use Rattle.clap.specs.Walk.{one_of}
use Rattle.clap.proofs.WalkLemmas.{one_text-rows}
use Rattle.audit_commands.proofs.CommandLines.{flag_of}
use Rattle.audit_commands.specs.Words.{IsFlag}
use Rattle.nrvs.specs.CommandLine.{IsSegmentSize, IsTurns}
use Rattle.nrvs.proofs.words.read_run.Goals as goal

pub returns-then-get_flag : goal.returns-then-get_flag
returns-then-get_flag c =
    let found = found_of c.args.given.now in
    let flag = c.get_flag-as_trace.ensures in
    let chain = c.get_flag.ensures in (
      c.read_setup-setup.ensures,
      subst (λ t. IsTurns t c.read_turns-turns.result) (one_text-rows found (codes "turns")) c.read_turns-turns.ensures,
      flag_of _ _ _ (one_text-rows found (codes "trace")) flag.none flag.value flag.other,
      subst (λ (b : Bool). IsFlag (one_of (codes "chain") (rows_of found)) b) c.if-get_flag.true
          (flag_of _ _ _ (one_text-rows found (codes "chain")) chain.none chain.value chain.other),
      subst (λ t. IsSegmentSize t c.read_segment-most.result) (one_text-rows found (codes "segment")) c.read_segment-most.ensures.size,
    )

pub returns-else-get_flag : goal.returns-else-get_flag
returns-else-get_flag c =
    let found = found_of c.args.given.now in
    let flag = c.get_flag-as_trace.ensures in
    let chain = c.get_flag.ensures in (
      c.read_setup-setup.ensures,
      subst (λ t. IsTurns t c.read_turns-turns.result) (one_text-rows found (codes "turns")) c.read_turns-turns.ensures,
      flag_of _ _ _ (one_text-rows found (codes "trace")) flag.none flag.value flag.other,
      subst (λ (b : Bool). IsFlag (one_of (codes "chain") (rows_of found)) b) c.if-get_flag.false
          (flag_of _ _ _ (one_text-rows found (codes "chain")) chain.none chain.value chain.other),
    )
