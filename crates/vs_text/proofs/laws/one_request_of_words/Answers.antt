use Rattle.vs_text.proofs.OneRequest.{one_request}
use Rattle.vs_text.proofs.laws.one_request_of_words.Goals as goal

pub returns : goal.returns
returns c = one_request
