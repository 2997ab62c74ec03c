use Rattle.std.proofs.Common.{◌≡◌, List, All, length, ap, sym, subst, ◌∙◌}
use Rattle.std.proofs.lemmas.Slice.Zip.{AllZip-long}
use Rattle.nr_ring.specs.Pass.{Known}
use Rattle.nr_replicas.specs.Settled.{IsCut}
use Rattle.nr_serve.proofs.Shown.{written_back}
use Rattle.nr_serve.proofs.endings.segment_ending.cut_log.Goals as goal

pub returns-in-Ok : goal.returns-in-Ok
returns-in-Ok g c =
    let made = c.in-Ok.ensures in
    let old = c.deref_mut.ensures.value in
    let count = AllZip-long _ _ _ made.heard ∙ ap (λ (l : List Known). length l) old in
    let new = written_back c.args.passes c.cut.new.passes count in
    record {
      opened = made.opened;
      cut = subst (λ (after : List Known). IsCut g.J.LogName.depth g.J.LogName.replicas g.J.LogName.places g.K.ReplicasName.tables g.K.ReplicasName.base
          c.args.passes.items after c.in-Ok.cut.calls.items c.in-Ok.cut.dumps.items) (sym new)
          (subst (λ (before : List Known). IsCut g.J.LogName.depth g.J.LogName.replicas g.J.LogName.places g.K.ReplicasName.tables g.K.ReplicasName.base
          before c.cut.new.passes c.in-Ok.cut.calls.items c.in-Ok.cut.dumps.items) old made.cut);
      count = ap (λ (l : List Known). length l) new ∙ count;
      log = subst (All (λ (pass : Known). pass.log ≡ g.K.ReplicasName.log)) (sym new) made.log;
    }
