use Rattle.std.proofs.Common.{◌∙◌, ap}
use Rattle.std.proofs.lemmas.Result.{IfOk-weaker}
use Rattle.clap.specs.Simple.{app_of_fields}
use Rattle.clap.specs.declared.builder.command.Command.{Command}
use Rattle.clap.specs.declared.builder.command.Command.TheOpen.{Command-F}
use Rattle.audit_commands.proofs.CommandLines.{so_far, with_option}
use Rattle.audit_commands.proofs.words.audit.Goals as goal

pub returns : goal.returns
returns c =
    let globals = λ (f : Command-F Command). f.has_globals in
    let none = so_far (ap app_of_fields c.about.ensures ∙ c.new.ensures.app) (ap globals c.about.ensures ∙ c.new.ensures.local) in
    let one = with_option c.in_ok-arg.ensures none c.flag.ensures.rule c.flag.ensures.local in
    let two = with_option c.in_ok-arg-2.ensures one c.flag-2.ensures.rule c.flag-2.ensures.local in
    let three = with_option c.in_ok-arg-3.ensures two c.flag-3.ensures.rule c.flag-3.ensures.local in
    let four = with_option c.in_ok-arg-4.ensures three c.flag-4.ensures.rule c.flag-4.ensures.local in
    let five = with_option c.in_ok-arg-5.ensures four c.least_overlap.ensures.rule c.least_overlap.ensures.local in
    let six = with_option c.in_ok-arg-6.ensures five c.flag-5.ensures.rule c.flag-5.ensures.local in
    record {
      app = IfOk-weaker c.arg-7.result _ _ (λ command h. (with_option h six c.files.ensures.rule c.files.ensures.local).app_is) c.arg-7.ensures;
      local = IfOk-weaker c.arg-7.result _ _ (λ command h. (with_option h six c.files.ensures.rule c.files.ensures.local).local) c.arg-7.ensures;
    }
