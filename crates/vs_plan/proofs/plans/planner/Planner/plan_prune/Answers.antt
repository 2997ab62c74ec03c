use Rattle.std.proofs.Common.{ℕ, List, [], ◌∷◌, ◌++◌, refl, ap, ◌∙◌, arith}
use Rattle.vs_plan.proofs.Parts.{only_store}
use Rattle.vs_plan.proofs.Pruning.{stays_right, prune_right}
use Rattle.vs_plan.proofs.plans.planner.Planner.plan_prune.Goals as goal

pub returns-then-not-can_prune : goal.returns-then-not-can_prune
returns-then-not-can_prune g c =
    stays_right c.requires.end c.requires.request (g.W.FrameWords.words c.args.words.now) (c.if-not-can_prune.ensures.stays refl) _ c.nothing-plan.ensures

pub returns : goal.returns
returns g c =
    let empty = c.if-not-can_prune.ensures.empty refl in
    prune_right c.requires.end c.requires.request (g.W.FrameWords.words c.args.words.now) empty.0 empty.1 empty.2
    c.nothing-plan.ensures.reply_is c.nothing-plan.ensures.bits_are c.nothing-plan.ensures.fill (omega arith)
    (c.push.ensures.items ∙ only_store _ c.nothing-plan.ensures.stores _ _ c.index_at.ensures.is refl)
    refl
    (c.push-2.ensures.items ∙ ap (λ (xs : List ℕ). xs ++ c.args.self.now.number ∷ []) c.nothing-plan.ensures.unlinked)
