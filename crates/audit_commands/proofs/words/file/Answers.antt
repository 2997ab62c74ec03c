use Rattle.std.proofs.Common.{◌∙◌, ap}
use Rattle.clap.specs.Words.{Rule, rule_of}
use Rattle.clap.specs.declared.builder.arg.Arg.{Arg}
use Rattle.audit_commands.proofs.words.file.Goals as goal

pub returns : goal.returns
returns c =
    let named_is = ap rule_of c.value_name.ensures ∙ ap (λ (r : Rule). record r { value_names = 1 }) c.new.ensures.rule in
    let global = λ (a : Arg). a.global in
    record {
      rule = ap rule_of c.help.ensures ∙ named_is;
      local = ap global c.help.ensures ∙ ap global c.value_name.ensures ∙ c.new.ensures.optional.1;
    }
