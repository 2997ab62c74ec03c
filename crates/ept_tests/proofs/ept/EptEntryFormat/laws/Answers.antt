use Rattle.ept_tests.proofs.EptWords.{is_format}
use Rattle.ept_tests.proofs.ept.EptEntryFormat.laws.Goals as goal

pub returns : goal.returns
returns c = is_format c.args.self
