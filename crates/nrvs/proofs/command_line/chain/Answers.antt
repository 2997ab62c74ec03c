use Rattle.std.proofs.Common.{◌∙◌, ap, Some, codes}
use Rattle.clap.specs.Words.{Rule, rule_of}
use Rattle.clap.specs.declared.builder.action.ArgAction.TheVariants.{SetTrue}
use Rattle.clap.specs.declared.builder.arg.Arg.{Arg}
use Rattle.nrvs.proofs.command_line.chain.Goals as goal

pub returns : goal.returns
returns c =
    let long_is = ap rule_of c.long.ensures ∙ ap (λ (r : Rule). record r { long = Some (codes "chain") }) c.new.ensures.rule in
    let global = λ (a : Arg). a.global in
    record {
      rule = ap rule_of c.help.ensures ∙ ap rule_of c.action.ensures ∙ ap (λ (r : Rule). record r { action = Some SetTrue }) long_is;
      local = ap global c.help.ensures ∙ ap global c.action.ensures ∙ ap global c.long.ensures ∙ c.new.ensures.optional.1;
    }
