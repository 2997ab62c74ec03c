use Rattle.std.proofs.Common.{rules, ◌≡◌, All, [], ◌∷◌, ◌++◌, sym, subst}
use Rattle.std.proofs.lemmas.List.Elements.{All-push}
use Rattle.nr_ring.specs.Pass.{Known}
use Rattle.replicas_tests.proofs.scene.passes_of.Goals as goal

pub loop-caller-preserved : goal.loop-caller-preserved
loop-caller-preserved g c =
    let passes = c.loop-caller.passes.items in
    let items : c.push.new.self.items ≡ passes ++ c.into_pass.result ∷ [] = search rules in
    subst (All (λ (pass : Known). pass.log ≡ g.K.ReplicasName.log)) (sym items)
    (All-push (λ (pass : Known). pass.log ≡ g.K.ReplicasName.log) passes c.into_pass.result c.loop-caller.invariant c.into_pass.ensures)
