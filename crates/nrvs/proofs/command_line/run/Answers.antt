use Rattle.std.proofs.Common.{◌∙◌, ap}
use Rattle.std.proofs.lemmas.Result.{IfOk-weaker}
use Rattle.clap.specs.Simple.{app_of_fields}
use Rattle.clap.specs.declared.builder.command.Command.{Command}
use Rattle.clap.specs.declared.builder.command.Command.TheOpen.{Command-F}
use Rattle.audit_commands.proofs.CommandLines.{so_far, with_option}
use Rattle.nrvs.proofs.command_line.run.Goals as goal

pub returns : goal.returns
returns c =
    let globals = λ (f : Command-F Command). f.has_globals in
    let none = so_far (ap app_of_fields c.about.ensures ∙ c.new.ensures.app) (ap globals c.about.ensures ∙ c.new.ensures.local) in
    let one = with_option c.in_ok-arg.ensures none c.levels.ensures.rule c.levels.ensures.local in
    let two = with_option c.in_ok-arg-2.ensures one c.replicas.ensures.rule c.replicas.ensures.local in
    let three = with_option c.in_ok-arg-3.ensures two c.tables.ensures.rule c.tables.ensures.local in
    let four = with_option c.in_ok-arg-4.ensures three c.turns.ensures.rule c.turns.ensures.local in
    let five = with_option c.in_ok-arg-5.ensures four c.chain.ensures.rule c.chain.ensures.local in
    let six = with_option c.in_ok-arg-6.ensures five c.segment.ensures.rule c.segment.ensures.local in
    record {
      app = IfOk-weaker c.arg-7.result _ _ (λ command h. (with_option h six c.trace.ensures.rule c.trace.ensures.local).app_is) c.arg-7.ensures;
      local = IfOk-weaker c.arg-7.result _ _ (λ command h. (with_option h six c.trace.ensures.rule c.trace.ensures.local).local) c.arg-7.ensures;
    }
