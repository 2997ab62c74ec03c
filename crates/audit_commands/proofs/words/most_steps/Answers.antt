use Rattle.std.proofs.Common.{◌≡◌, ◌∙◌, ap, ap₂, Some, [], ◌∷◌, codes}
use Rattle.std.specs.Prelude.{pos}
use Rattle.clap.specs.Words.{Rule, rule_of}
use Rattle.clap.specs.declared.builder.arg.Arg.{Arg}
use Rattle.clap.specs.declared.builder.value_parser.ValueParser.TheVariants as parsers
use Rattle.audit_commands.proofs.words.most_steps.Goals as goal

pub returns : goal.returns
returns c =
    let given = c.value_parser.ensures.given in
    let parser_is : c.value_parser.result.value_parser ≡ Some (parsers.Signed (pos 1) (pos 4294967295)) = given.1 ∙ ap Some (given.2 ∙ c.signed.ensures) in
    let long_is = ap rule_of c.long.ensures ∙ ap (λ (r : Rule). record r { long = Some (codes "steps") }) c.new.ensures.rule in
    let parsed_is = ap rule_of c.value_parser.ensures.others ∙ ap₂ (λ (r : Rule) p. record r { parser = p }) long_is parser_is in
    let global = λ (a : Arg). a.global in
    record {
      rule = ap rule_of c.help.ensures ∙ ap rule_of c.default_value.ensures ∙ ap (λ (r : Rule). record r { defaults = codes "8000000" ∷ [] }) parsed_is;
      local = ap global c.help.ensures ∙ ap global c.default_value.ensures ∙ ap global c.value_parser.ensures.others ∙ ap global c.long.ensures
          ∙ c.new.ensures.optional.1;
    }
