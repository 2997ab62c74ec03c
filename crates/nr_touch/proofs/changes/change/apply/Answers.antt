use Rattle.std.proofs.Common.{◌≡◌, ap}
use Rattle.vs_types.proofs.Steps.{step_space}
use Rattle.nr_touch.proofs.Undone.{change_leads}
use Rattle.nr_touch.proofs.changes.change.apply.Goals as goal

pub returns-clause-change : goal.returns-clause-change
returns-clause-change c =
    let left = c.in_ok-answer.ensures.ok.1 in
    let depth : c.apply.new.self.depth ≡ c.args.space.now.depth = ap (λ s. s.depth) left in
    let limit : c.apply.new.self.limit ≡ c.args.space.now.limit = ap (λ s. s.limit) left in
    let changed = rw (depth, limit) at c.change_of.ensures in
    changed c.args.space.now.space c.in_ok-answer.ensures.apart c.requires c.in_ok-answer.ensures.ok.0 (ap (λ s. s.space) left)

pub returns-clause-leads : goal.returns-clause-leads
returns-clause-leads c =
    let is = c.in_ok-answer.ensures.apart in
    change_leads is (rw (ap (λ s. s.space) c.in_ok-answer.ensures.ok.1) (step_space c.args.space.now.limit is c.args.op c.requires)) c.change_of.result
    (returns-clause-change c)
