use Rattle.vs_types.proofs.Spaces.{holds_listed, page_at_means, no_pages_space, look_of_nothing, look_of_page}
use Rattle.vs_types.proofs.laws.holds_is_listed.Goals as goal

pub returns-clause-listed : goal.returns-clause-listed
returns-clause-listed c = λ depth space page is. holds_listed is page

pub returns-clause-found : goal.returns-clause-found
returns-clause-found c = λ depth space address page is. page_at_means is address page

pub returns-clause-look : goal.returns-clause-look
returns-clause-look c = λ depth space address page is holds covered. look_of_page is address page holds covered

pub returns-clause-empty : goal.returns-clause-empty
returns-clause-empty c = no_pages_space

pub returns-clause-empty_look : goal.returns-clause-empty_look
returns-clause-empty_look c = look_of_nothing
