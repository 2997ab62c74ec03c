use Rattle.std.proofs.Common.{decimal}
use Rattle.vs_text.specs.Requests.{request_text}
use Rattle.vs_text.specs.Words.{words}
use Rattle.vs_text.proofs.Cuts.{first_word}
use Rattle.vs_text.proofs.ReadBack.{request_back}
use Rattle.nr_script.proofs.Numbers.{number_alone}
use Rattle.nr_script.proofs.laws.written_requests_are_lines.Goals as goal

pub returns : goal.returns
returns c = λ depth thread query fits is. record {
  asks = words (request_text query);
  words_are = first_word (decimal thread) (request_text query) (number_alone thread fits);
  thread_fits = fits;
  query_is = request_back depth query is;
}
