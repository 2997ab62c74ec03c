use Rattle.vs_text.proofs.ReadBack.{request_back}
use Rattle.vs_text.proofs.laws.requests_are_read_back.Goals as goal

pub returns : goal.returns
returns c = request_back
