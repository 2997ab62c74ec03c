use Rattle.vs_plain.proofs.Listed.{nothing_listed}
use Rattle.vs_plain.proofs.page_map.PageMap.new.Goals as goal

pub returns : goal.returns
returns c = nothing_listed _ c.new.ensures.empty c.new.ensures.ordered
