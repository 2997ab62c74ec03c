use Rattle.std.proofs.Common.{rules, ℕ, ◌-◌, List, length, ap, ◌∙◌, sym, subst, drop, take, arith, length-drop}
use Rattle.std.proofs.lemmas.List.{length-take-le}
use Rattle.nr_ring.specs.declared.ring.view.View.{View}
use Rattle.nr_ring.specs.Calls.{AreCut, IsCut, left_view, offshoot}
use Rattle.nr_ring.specs.inside.Held.{new_view}
use Rattle.nr_ring.proofs.Splits.{split_forks}
use Rattle.nr_ring.proofs.Passes.{cut_owned, gives_first, keeps_rest, new_remembers}
use Rattle.nr_ring.proofs.ring.ring_log.RingLog.split_off.Goals as goal

pub split_pass-pass-requires : goal.split_pass-pass-requires
split_pass-pass-requires g c =
    let replicas = g.J.LogName.replicas in
    let P : View → Type 0 = λ v. IsCut v.owns (drop 1 v.owns) (take 1 v.owns) in
    let view = c.args.first.now.view in
    let shares : AreCut view (view.rights - 1) 1 =
    record { all = omega (arith, c.requires.right); of_makers = λ _. ap (λ (v : View). v.mine) c.requires.first.1 } in (
      search rules,
      (
        search rules,
        (
          c.requires.first.0 ∙ sym c.self.view_is,
          (c.requires.rings.1, split_forks _ _ _ _ _ _ _ _ _ _ (subst P (sym c.requires.first.1) (cut_owned replicas c.args.replica)) shares),
        ),
      ),
    )

pub new-requires : goal.new-requires
new-requires g c =
    let replicas = g.J.LogName.replicas in
    let given = c.split_pass-pass.ensures.given in
    let view = given.1 ∙ ap (λ (v : View). offshoot v (take 1 v.owns) 1) c.requires.first.1
    ∙ ap (λ owns. new_view owns 1) (gives_first replicas c.args.replica c.requires.few.1) in (
      omega arith,
      new_remembers g.J.LogName.depth replicas g.J.LogName.passes g.J.LogName.places c.args.replica c.args.ring c.split_pass-pass.result c.requires.few.0
          (omega (arith, c.requires.few.2)) c.requires.few.1 c.requires.rings.2 view (given.2 ∙ c.requires.value) (given.3 ∙ c.requires.rings.0)
          (ap (λ (l : List ℕ). length l) given.4 ∙ length-take-le 32 c.args.first.now.own c.requires.rings.1),
    )

pub returns-clause-first : goal.returns-clause-first
returns-clause-first g c =
    let replicas = g.J.LogName.replicas in
    let rights = c.args.first.now.view.rights in
    let same = c.split_pass-pass.ensures.same in (
      same.0,
      same.2,
      c.split_pass-pass.ensures.kept.0 ∙ ap (λ (v : View). left_view v (drop 1 v.owns) (rights - 1)) c.requires.first.1
          ∙ ap (λ owns. new_view owns (rights - 1)) (keeps_rest replicas c.args.replica c.requires.few.1),
    )

pub returns-clause-rings : goal.returns-clause-rings
returns-clause-rings g c =
    let kept = c.split_pass-pass.ensures.kept in
    (kept.1, ap (λ (l : List ℕ). length l) kept.2 ∙ length-drop 32 c.args.first.now.own)

pub returns-clause-pass : goal.returns-clause-pass
returns-clause-pass g c =
    let replicas = g.J.LogName.replicas in
    let given = c.split_pass-pass.ensures.given in
    let log = given.0 ∙ c.self.view_is in
    let view = given.1 ∙ ap (λ (v : View). offshoot v (take 1 v.owns) 1) c.requires.first.1
    ∙ ap (λ owns. new_view owns 1) (gives_first replicas c.args.replica c.requires.few.1) in
    λ i. record { log = (c.new.ensures.0 ∙ log) i; view = (c.new.ensures.1 ∙ view) i }
