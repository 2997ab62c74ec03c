use Rattle.std.proofs.Common.{◌≡◌, ℕ, List, All, length, map, ap, sym, subst, ◌∙◌, arith}
use Rattle.nr_ring.specs.Pass.{AreApart, Known}
use Rattle.nr_ring.specs.View.{StartsWith}
use Rattle.nr_replicas.specs.inside.Settling.{HasSeenOwnAdvances}
use Rattle.nr_replicas.proofs.Rests.{written_back, written_over}
use Rattle.nr_replicas.proofs.settling.gather_all.Goals as goal

abbrev owned_by : Known → List ℕ
owned_by pass = pass.view.owns

abbrev many : List Known → ℕ
many passes = length passes

pub tell_all-requires-clause-log : goal.tell_all-requires-clause-log
tell_all-requires-clause-log g c =
    let Of : Known → Type 0 = λ pass. pass.log ≡ c.args.log.now in (c.requires.log.0, subst (All Of) (sym c.deref_mut.ensures.value) c.requires.log.1)

pub tell_all-requires-clause-begins : goal.tell_all-requires-clause-begins
tell_all-requires-clause-begins g c =
    let Begins : Known → Type 0 = λ pass. StartsWith c.args.first.view.seen pass.view.seen in
    subst (All Begins) (sym c.deref_mut.ensures.value) c.requires.begins

pub hear_all-requires : goal.hear_all-requires
hear_all-requires g c =
    let Of : Known → Type 0 = λ pass. pass.log ≡ c.args.log.now in
    let items = c.args.others.items in
    let told = c.tell_all.new.others in
    let over = written_over c.args.others.len told items (c.tell_all.ensures.count ∙ ap many c.deref_mut.ensures.value) c.args.others.ok.0 in
    let same = c.deref_mut-2.ensures.value ∙ over in
    record { log = (ap (λ (k : Known). k.log) c.tell_all.ensures.first ∙ c.requires.log.0, subst (All Of) (sym same) c.tell_all.ensures.log) }

pub gather-requires-clause-log : goal.gather-requires-clause-log
gather-requires-clause-log g c =
    let Of : Known → Type 0 = λ pass. pass.log ≡ c.args.log.now in
    let items = c.args.others.items in
    let told = c.tell_all.new.others in
    let count = c.tell_all.ensures.count ∙ ap many c.deref_mut.ensures.value in
    let over = written_over c.args.others.len told items count c.args.others.ok.0 in
    let back = written_back c.args.others.len c.hear_all.new.passes _ (c.hear_all.ensures.passes ∙ c.deref_mut-2.ensures.value)
    (omega (arith, c.args.others.ok.0, count, ap many over)) in (
      c.hear_all.ensures.log ∙ ap (λ (k : Known). k.log) c.tell_all.ensures.first ∙ c.requires.log.0,
      subst (All Of) (sym (back ∙ over)) c.tell_all.ensures.log,
    )

pub gather-requires-clause-seen : goal.gather-requires-clause-seen
gather-requires-clause-seen g c =
    let Begins : Known → Type 0 = λ pass. StartsWith c.hear_all.new.first.view.seen pass.view.seen in
    let items = c.args.others.items in
    let told = c.tell_all.new.others in
    let count = c.tell_all.ensures.count ∙ ap many c.deref_mut.ensures.value in
    let over = written_over c.args.others.len told items count c.args.others.ok.0 in
    let back = written_back c.args.others.len c.hear_all.new.passes _ (c.hear_all.ensures.passes ∙ c.deref_mut-2.ensures.value)
    (omega (arith, c.args.others.ok.0, count, ap many over)) in
    subst (All Begins) (c.deref_mut-2.ensures.value ∙ sym back) c.hear_all.ensures.begins

pub returns-clause-taken : goal.returns-clause-taken
returns-clause-taken g c = subst (All (HasSeenOwnAdvances c.args.first.view.seen)) c.deref_mut.ensures.value c.tell_all.ensures.taken

pub returns-clause-apart : goal.returns-clause-apart
returns-clause-apart g c =
    let items = c.args.others.items in
    let told = c.tell_all.new.others in
    let count = c.tell_all.ensures.count ∙ ap many c.deref_mut.ensures.value in
    let over = written_over c.args.others.len told items count c.args.others.ok.0 in
    let back = written_back c.args.others.len c.hear_all.new.passes _ (c.hear_all.ensures.passes ∙ c.deref_mut-2.ensures.value)
    (omega (arith, c.args.others.ok.0, count, ap many over)) in
    let own = c.hear_all.ensures.heard.owns ∙ ap owned_by c.tell_all.ensures.first in
    let lists = ap (map owned_by) (back ∙ over) ∙ c.tell_all.ensures.owns ∙ ap (map owned_by) c.deref_mut.ensures.value in
    let First : List ℕ → Type 0 = λ l. AreApart l (map owned_by items) in
    subst First own (subst (AreApart c.hear_all.new.first.view.owns) lists c.gather.ensures)
