use Rattle.std.proofs.Common.{◌≡◌, ℕ, List, ap, ◌∙◌}
use Rattle.std.specs.FinMap as finite
use Rattle.std.specs.Ordering.{nat_cmp}
use Rattle.vs_walk.specs.inside.Kept.{paired}
use Rattle.vs_walk.proofs.Dumps.{no_frames, no_numbers}
use Rattle.vs_walk.proofs.dump.Dump.new.Goals as goal

made : (c : goal.After-new-5) → finite.from_sorted {R = nat_cmp}
    (paired c.new.result.items c.new-2.result.items c.new-3.result.items c.new-4.result.items) ≡ finite.empty
made c = ap (λ numbers. finite.from_sorted {R = nat_cmp} (paired numbers c.new-2.result.items c.new-3.result.items c.new-4.result.items))
    c.new.ensures.items ∙ no_frames

pub returns-clause-made : goal.returns-clause-made
returns-clause-made c = λ i. record { applied = c.args.applied; root = c.args.root; frames = made c i }

pub returns-clause-numbers : goal.returns-clause-numbers
returns-clause-numbers c = ap finite.keys (made c) ∙ no_numbers

pub returns-clause-count : goal.returns-clause-count
returns-clause-count c = ap finite.len (made c) ∙ finite.len-empty nat_cmp (List ℕ)
