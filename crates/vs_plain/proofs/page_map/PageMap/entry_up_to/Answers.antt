use Rattle.std.proofs.Common.{option_map, subst}
use Rattle.vs_plain.specs.inside.Listed.{page_from}
use Rattle.vs_plain.specs.inside.PageMap.{IsLastUpTo}
use Rattle.vs_plain.proofs.Listed.{last_given}
use Rattle.vs_plain.proofs.page_map.PageMap.entry_up_to.Goals as goal

pub returns : goal.returns
returns c =
    subst (λ s. IsLastUpTo s c.args.address (option_map (λ entry. page_from entry.0.now entry.1.now) c.next_back.result)) c.self.view_is
    (last_given c.self.inside.by_base c.self.invariant c.args.address c.range.result (c.range.ensures.in_range tt) _ _ c.next_back.ensures.steps)
