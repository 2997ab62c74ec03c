use Rattle.std.proofs.Common.{◌∙◌, ap}
use Rattle.std.proofs.lemmas.Result.{IfOk-weaker}
use Rattle.clap.specs.Simple.{app_of_fields}
use Rattle.clap.specs.declared.builder.command.Command.{Command}
use Rattle.clap.specs.declared.builder.command.Command.TheOpen.{Command-F}
use Rattle.audit_commands.proofs.CommandLines.{so_far, with_option}
use Rattle.audit_commands.proofs.words.order.Goals as goal

pub returns : goal.returns
returns c =
    let globals = λ (f : Command-F Command). f.has_globals in
    let none = so_far (ap app_of_fields c.about.ensures ∙ c.new.ensures.app) (ap globals c.about.ensures ∙ c.new.ensures.local) in
    let one = with_option c.in_ok-arg.ensures none c.flag.ensures.rule c.flag.ensures.local in
    let two = with_option c.in_ok-arg-2.ensures one c.most_steps.ensures.rule c.most_steps.ensures.local in
    record {
      app = IfOk-weaker c.arg-3.result _ _ (λ command h. (with_option h two c.file.ensures.rule c.file.ensures.local).app_is) c.arg-3.ensures;
      local = IfOk-weaker c.arg-3.result _ _ (λ command h. (with_option h two c.file.ensures.rule c.file.ensures.local).local) c.arg-3.ensures;
    }
