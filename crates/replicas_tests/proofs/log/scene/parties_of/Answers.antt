use Rattle.std.proofs.Common.{◌≡◌, ◌∷◌, sym}
use Rattle.std.proofs.lemmas.List.Elements.{All-head, All-rest, All-same}
use Rattle.nr_ring.specs.Pass.{new_passes}
use Rattle.replicas_tests.proofs.Passes.{IsOf, new_are_of}
use Rattle.replicas_tests.proofs.log.scene.parties_of.Goals as goal

pub loop-pass-init : goal.loop-pass-init
loop-pass-init g c =
    let log = g.K.OfLog.log in
    let made = new_passes log c.args.layout.replicas c.args.layout.others in
    let is : c.into_iter-pass-iterator.result.rest.items ≡ made = cc in
    All-same (IsOf log) c.into_iter-pass-iterator.result.rest.items made is
    (new_are_of log c.args.layout.replicas c.args.layout.others)

pub new-requires-clause-log : goal.new-requires-clause-log
new-requires-clause-log g c =
    let rest = c.loop-pass.pass-iterator.rest.items in
    let all = c.in-Some.pass ∷ c.next.new.self.rest.items in (
      c.requires.log,
      All-head (λ pass. pass.log ≡ g.K.OfLog.log) c.in-Some.pass c.next.new.self.rest.items
          (All-same (λ pass. pass.log ≡ g.K.OfLog.log) all rest (sym c.in-Some.ensures.steps.0) c.loop-pass.invariant),
    )

pub loop-pass-preserved : goal.loop-pass-preserved
loop-pass-preserved g c =
    All-rest (λ pass. pass.log ≡ g.K.OfLog.log) c.in-Some.pass c.next.new.self.rest.items c.loop-pass.pass-iterator.rest.items
    c.in-Some.ensures.steps.0 c.loop-pass.invariant
