use Rattle.std.proofs.Common.{None, Some, [], refl, ◌∙◌}
use Rattle.nr_explain.proofs.Verdicts.{counted_all, goes_on_so, orders_in}
use Rattle.nr_explain.proofs.laws.explanations_are_verdicts.Goals as goal

pub returns-clause-yes : goal.returns-clause-yes
returns-clause-yes c = λ bytes counts (segments, last, goes, same).
    (orders_in segments, goes_on_so None (Some last) bytes [] segments None goes refl)

pub returns-clause-no : goal.returns-clause-no
returns-clause-no c = λ bytes number fault shown (segments, last, rest, goes, number_is, ends, shows).
    (orders_in segments, goes_on_so None last bytes rest segments (Some fault) goes ends, number_is ∙ counted_all last bytes rest segments goes)
