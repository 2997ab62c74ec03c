use Rattle.std.proofs.Common.{◌≡◌, ℕ, ◌<◌, List, All, length, map, ap, sym, subst, ◌∙◌, arith}
use Rattle.std.specs.Arc.{arc_value}
use Rattle.std.proofs.lemmas.List.{length-map}
use Rattle.nr_ring.specs.Pass.{AreApart, Known}
use Rattle.nr_ring.specs.View.{StartsWith}
use Rattle.nr_node.specs.Node.{NodeState}
use Rattle.nr_replicas.specs.Replicas.{HasHeard}
use Rattle.nr_replicas.specs.inside.Settling.{HasSeenOwnAdvances, OwnInTurn, OwnRising}
use Rattle.nr_replicas.proofs.Hearing.{heard_twice}
use Rattle.nr_replicas.proofs.Numbers.{AreBelow, own_in_turn}
use Rattle.nr_replicas.proofs.Rests.{written_back}
use Rattle.nr_replicas.proofs.Settled.{all_begin_later, parted, settled}
use Rattle.nr_replicas.proofs.replicas.Replicas.settle.Goals as goal

pub hear_all-requires : goal.hear_all-requires
hear_all-requires g c =
    let parts = parted (λ (s : _). arc_value s.slots) c.self.inside.shared.items c.in_ok-nodes.nodes.items c.self.invariant.0 c.self.invariant.1
    c.in_ok-nodes.ensures.count c.in_ok-nodes.ensures.each c.in_ok-others.ensures.passes c.index.ensures c.remove-first.ensures.value
    c.remove-first.ensures.items in
    let Here : Known → Type 0 = λ pass. pass.log ≡ c.self.inside.log in
    record { log = (parts.first_log, subst (All Here) (sym c.deref_mut.ensures.value) parts.others_log) }

pub hear_all-requires-2 : goal.hear_all-requires-2
hear_all-requires-2 g c =
    let parts = parted (λ (s : _). arc_value s.slots) c.self.inside.shared.items c.in_ok-nodes.nodes.items c.self.invariant.0 c.self.invariant.1
    c.in_ok-nodes.ensures.count c.in_ok-nodes.ensures.each c.in_ok-others.ensures.passes c.index.ensures c.remove-first.ensures.value
    c.remove-first.ensures.items in
    record { log = (c.hear_all.ensures.log ∙ parts.first_log, λ k d lt. c.requires k d lt ∙ sym c.self.invariant.0) }

pub add_rest-requires-clause-log : goal.add_rest-requires-clause-log
add_rest-requires-clause-log g c =
    let parts = parted (λ (s : _). arc_value s.slots) c.self.inside.shared.items c.in_ok-nodes.nodes.items c.self.invariant.0 c.self.invariant.1
    c.in_ok-nodes.ensures.count c.in_ok-nodes.ensures.each c.in_ok-others.ensures.passes c.index.ensures c.remove-first.ensures.value
    c.remove-first.ensures.items in
    c.hear_all-2.ensures.log ∙ c.hear_all.ensures.log ∙ parts.first_log

pub gather_all-requires-clause-log : goal.gather_all-requires-clause-log
gather_all-requires-clause-log g c =
    let parts = parted (λ (s : _). arc_value s.slots) c.self.inside.shared.items c.in_ok-nodes.nodes.items c.self.invariant.0 c.self.invariant.1
    c.in_ok-nodes.ensures.count c.in_ok-nodes.ensures.each c.in_ok-others.ensures.passes c.index.ensures c.remove-first.ensures.value
    c.remove-first.ensures.items in
    let others = c.remove-first.new.self.items in
    let Here : Known → Type 0 = λ pass. pass.log ≡ c.self.inside.log in
    let back = written_back c.remove-first.new.self.len c.hear_all.new.passes others (c.hear_all.ensures.passes ∙ c.deref_mut.ensures.value)
    c.remove-first.new.self.ok.0 in
    (c.add_rest.ensures.log ∙ c.hear_all-2.ensures.log ∙ c.hear_all.ensures.log ∙ parts.first_log, subst (All Here) (sym back) parts.others_log)

pub gather_all-requires-clause-begins : goal.gather_all-requires-clause-begins
gather_all-requires-clause-begins g c =
    let depth = g.J.LogName.depth in
    let replicas = g.J.LogName.replicas in
    let others = c.remove-first.new.self.items in
    let a = c.hear_all.new.first.view in
    let b = c.hear_all-2.new.first.view in
    let last = c.add_rest.new.pass.view in
    let Begins : Known → Type 0 = λ pass. StartsWith a.seen pass.view.seen in
    let Last : Known → Type 0 = λ pass. StartsWith last.seen pass.view.seen in
    let begins : All Begins others = subst (All Begins) c.deref_mut.ensures.value c.hear_all.ensures.begins in
    let on = heard_twice c.hear_all-2.ensures.heard c.in_ok-add_rest.ensures.heard in
    let back = written_back c.remove-first.new.self.len c.hear_all.new.passes others (c.hear_all.ensures.passes ∙ c.deref_mut.ensures.value)
    c.remove-first.new.self.ok.0 in
    subst (All Last) (sym back) (all_begin_later a.seen last.seen others on.seen begins)

pub returns-clause-settled : goal.returns-clause-settled
returns-clause-settled g c =
    let depth = g.J.LogName.depth in
    let replicas = g.J.LogName.replicas in
    let tables = g.K.ReplicasName.tables in
    let nodes = c.in_ok-nodes.nodes.items in
    let passes = c.in_ok-others.others.items in
    let others = c.remove-first.new.self.items in
    let node = c.index.result.now in
    let shared = c.self.inside.shared.items in
    let parts = parted (λ (s : _). arc_value s.slots) c.self.inside.shared.items c.in_ok-nodes.nodes.items c.self.invariant.0 c.self.invariant.1
    c.in_ok-nodes.ensures.count c.in_ok-nodes.ensures.each c.in_ok-others.ensures.passes c.index.ensures c.remove-first.ensures.value
    c.remove-first.ensures.items in
    let a = c.hear_all.new.first.view in
    let b = c.hear_all-2.new.first.view in
    let last = c.add_rest.new.pass.view in
    let Heard : Known → Type 0 = λ pass. HasHeard depth replicas pass.view a in
    let heard : HasHeard depth replicas node.known.view a = subst Heard parts.first_is c.hear_all.ensures.heard in
    let Begins : Known → Type 0 = λ pass. StartsWith a.seen pass.view.seen in
    let begins : All Begins others = subst (All Begins) c.deref_mut.ensures.value c.hear_all.ensures.begins in
    let count : length c.in_ok-others.dumps.items ≡ replicas =
    c.in_ok-others.ensures.count ∙ c.in_ok-nodes.ensures.count ∙ sym (length-map shared (λ (s : _). arc_value s.slots)) ∙ c.self.invariant.1.count
    ∙ c.self.invariant.1.replicas_are in
    let back = written_back c.remove-first.new.self.len c.hear_all.new.passes others (c.hear_all.ensures.passes ∙ c.deref_mut.ensures.value)
    c.remove-first.new.self.ok.0 in
    let own_advances = subst (All (HasSeenOwnAdvances last.seen)) back c.gather_all.ensures.taken in
    let owns = c.in_ok-add_rest.ensures.heard.owns ∙ c.hear_all-2.ensures.heard.owns ∙ c.hear_all.ensures.heard.owns
    ∙ ap (λ (k : Known). k.view.owns) parts.first_is in
    let Apart : List Known → Type 0 = λ l. AreApart last.owns (map (λ (p : Known). p.view.owns) l) in
    let Owned : List ℕ → Type 0 = λ l. AreApart l (map (λ (p : Known). p.view.owns) others) in
    let apart = subst Owned owns (subst Apart back c.gather_all.ensures.apart) in
    let Rising : List Known → Type 0 = OwnRising 0 in
    let rising = subst Rising (sym c.in_ok-others.ensures.passes ∙ parts.split) c.in_ok-nodes.ensures.rising in
    let below = subst (AreBelow replicas) parts.split c.in_ok-others.ensures.below in
    let all = ap (λ (l : List Known). length l) (sym parts.split ∙ c.in_ok-others.ensures.passes) ∙ length-map nodes (λ (n : _). n.known)
    ∙ sym c.in_ok-others.ensures.count ∙ count in
    let Turn : List Known → Type 0 = OwnInTurn 0 in
    let own : OwnInTurn 0 passes = subst Turn (sym parts.split) (own_in_turn replicas node.known others rising apart below all) in
    settled depth replicas g.J.LogName.places tables g.K.ReplicasName.base c.args.passes.now passes others node c.in_ok-others.dumps.items
    c.in_ok-calls.calls.items c.add_rest.new.calls.items a b last
    c.in_ok-calls.ensures.is_node parts.first_base parts.split heard begins c.hear_all-2.ensures.heard c.hear_all-2.ensures.begins
    c.in_ok-add_rest.ensures.heard
    c.in_ok-others.ensures.dumps own count c.in_ok-calls.ensures.calls c.in_ok-add_rest.ensures.rest
    own_advances c.has_seen_a_history.ensures.ends
