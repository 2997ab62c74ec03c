use Rattle.std.proofs.Common.{◌≡◌, List, [], ◌∷◌, All, get_or, sym, ap, subst, ◌∙◌}
use Rattle.std.specs.List.{AllZip}
use Rattle.std.proofs.lemmas.List.{append-nil}
use Rattle.std.proofs.lemmas.List.Elements.{All-cons}
use Rattle.nr_ring.specs.Pass.{Known}
use Rattle.nr_ring.specs.View.{StartsWith}
use Rattle.nr_ring.specs.declared.ring.tails.Tails.{Tails}
use Rattle.nr_ring.proofs.Appends.{begins}
use Rattle.nr_replicas.specs.Replicas.{HasHeard}
use Rattle.nr_replicas.specs.inside.Settling.{WasTold}
use Rattle.nr_replicas.proofs.Hearing.{heard_twice, looked_heard}
use Rattle.nr_replicas.proofs.Settled.{all_begin_later}
use Rattle.nr_replicas.proofs.cutting.meet_passes.Goals as goal

pub tell_each-requires : goal.tell_each-requires
tell_each-requires g c =
    let Of : Known → Type 0 = λ pass. pass.log ≡ c.args.log.now in
    record {
      log = (
        c.look-tails.ensures.log ∙ c.hear_all.ensures.log ∙ c.hear_nodes.ensures.log ∙ c.requires.log.0,
        subst (All Of) (sym c.hear_all.ensures.passes) c.requires.log.1,
      );
    }

pub returns-clause-log : goal.returns-clause-log
returns-clause-log g c = (
  ap (λ (p : Known). p.log) c.tell_each.ensures.first
      ∙ c.look-tails.ensures.log
      ∙ c.hear_all.ensures.log
      ∙ c.hear_nodes.ensures.log
      ∙ c.requires.log.0,
  c.tell_each.ensures.log,
)

pub returns-clause-met : goal.returns-clause-met
returns-clause-met g c =
    let depth = g.J.LogName.depth in
    let replicas = g.J.LogName.replicas in
    let nodes = c.args.nodes.now in
    let first = c.args.first.now in
    let others = c.args.others.now in
    let a = c.hear_nodes.new.first.view in
    let b = c.hear_all.new.first.view in
    let last = c.look-tails.new.pass in
    let looked : HasHeard depth replicas b last.view = looked_heard c.look-tails.ensures.looked in
    let after : HasHeard depth replicas a last.view = heard_twice c.hear_all.ensures.heard looked in
    let whole : HasHeard depth replicas first.view last.view = heard_twice c.hear_nodes.ensures.heard after in
    let Told : Known → Known → Type 0 = WasTold depth replicas last.view.seen in
    let First : Known → Type 0 = λ p. Told first p in
    let told_first : First c.tell_each.new.first =
    subst First (sym c.tell_each.ensures.first) (whole, ([], sym (append-nil last.view.seen))) in
    let Rest : List Known → Type 0 = λ l. AllZip Told l c.tell_each.new.others in
    let Begins : Known → Type 0 = λ pass. StartsWith last.view.seen pass.view.seen in
    record {
      history = last.view.seen;
      is_history = looked.is_history;
      nodes_begin = λ k d lt.
          begins (get_or nodes k d).known.view.seen a.seen last.view.seen (c.hear_nodes.ensures.begins k d lt) after.seen;
      begins = All-cons Begins first others whole.seen (all_begin_later b.seen last.view.seen others looked.seen c.hear_all.ensures.begins);
      told = (told_first, subst Rest c.hear_all.ensures.passes c.tell_each.ensures.told);
      count_is = ap (λ (t : Tails). t.tail) c.look-tails.ensures.tails;
      ends = c.has_seen_a_history.ensures.ends;
    }
