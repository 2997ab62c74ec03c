use Rattle.std.proofs.Common.{ℕ, List, [], All, length, take, drop, replicate, ap, sym, subst, ◌∙◌, arith}
use Rattle.nr_ring.specs.Pass.{Known, new_pass}
use Rattle.nr_replicas.specs.inside.Replicas.{IsNewPass}
use Rattle.nr_replicas.proofs.NewPasses.{enough, first_are_new, rest_are}
use Rattle.nr_replicas.proofs.opened.OpenReplicas.with_places.Goals as goal

pub split_off-requires : goal.split_off-requires
split_off-requires g c =
    let log = c.in_ok-log.log in
    omega (arith, c.from.ensures, enough log c.replicas-replicas.result c.threads.result, ap (λ (l : List Known). length l) c.in_ok-log.ensures)

pub new_nodes-requires-clause-passes : goal.new_nodes-requires-clause-passes
new_nodes-requires-clause-passes g c =
    let log = c.in_ok-log.log in
    let r = c.replicas-replicas.result in
    let is = c.in_ok-others.ensures.items ∙ ap (λ (n : ℕ). take n c.in_ok-log.passes.items) c.from.ensures
    ∙ ap (λ (l : List Known). take r l) c.in_ok-log.ensures in
    subst (λ (l : List Known). All (IsNewPass log) l) (sym is) (first_are_new log r c.threads.result)

pub returns-clause-passes : goal.returns-clause-passes
returns-clause-passes g c =
    let log = c.in_ok-log.log in
    let r = c.replicas-replicas.result in
    c.in_ok-others.ensures.tail ∙ ap (λ (n : ℕ). drop n c.in_ok-log.passes.items) c.from.ensures
    ∙ ap (λ (l : List Known). drop r l) c.in_ok-log.ensures
    ∙ rest_are log r c.threads.result
    ∙ ap (λ (n : ℕ). replicate n (new_pass log [])) c.threads.ensures.reads
