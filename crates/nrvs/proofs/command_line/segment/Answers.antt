use Rattle.std.proofs.Common.{◌∙◌, ap, codes}
use Rattle.clap.specs.declared.builder.value_parser.ValueParser.{ValueParser}
use Rattle.nrvs.specs.CommandLine.{number_option}
use Rattle.nrvs.proofs.command_line.segment.Goals as goal

pub returns : goal.returns
returns c = record {
  rule = c.number.ensures.rule ∙ ap (λ (p : ValueParser). number_option (codes "segment") p (codes "65536")) c.signed-parser.ensures;
  local = c.number.ensures.local;
}
