use Rattle.std.proofs.Common.{arith}
use Rattle.vs_text.proofs.Texts.{found_alone}
use Rattle.vs_text.proofs.request.parse_one.Goals as goal

pub returns : goal.returns
returns c = found_alone c.args.words.now _ c.parse_address.result (omega arith) c.parse_address.ensures
