use Rattle.std.proofs.Common.{◌∙◌, ap, Some}
use Rattle.clap.specs.Words.{Rule, rule_of}
use Rattle.clap.specs.declared.builder.action.ArgAction.TheVariants.{Append}
use Rattle.clap.specs.declared.builder.arg.Arg.{Arg}
use Rattle.audit_commands.proofs.words.files.Goals as goal

pub returns : goal.returns
returns c =
    let named_is = ap rule_of c.value_name.ensures ∙ ap (λ (r : Rule). record r { value_names = 1 }) c.new.ensures.rule in
    let global = λ (a : Arg). a.global in
    record {
      rule = ap rule_of c.help.ensures ∙ ap rule_of c.action.ensures ∙ ap (λ (r : Rule). record r { action = Some Append }) named_is;
      local = ap global c.help.ensures ∙ ap global c.action.ensures ∙ ap global c.value_name.ensures ∙ c.new.ensures.optional.1;
    }
