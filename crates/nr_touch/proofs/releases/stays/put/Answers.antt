use Rattle.std.proofs.Common.{◌≡◌, sym, ap, ◌∙◌, subst}
use Rattle.std.proofs.lemmas.List.{append-nil}
use Rattle.nr_touch.specs.inside.Reached.{IsRoomy}
use Rattle.nr_touch.specs.inside.Stays.{AreRoomy}
use Rattle.nr_touch.specs.declared.releases.stays.Stay.{Stay}
use Rattle.nr_touch.proofs.IndexRows.{one_more}
use Rattle.nr_touch.proofs.StaysFound.{joined_kept, joined_roomy}
use Rattle.nr_touch.proofs.releases.stays.put.Goals as goal
use Rattle.nr_touch.proofs.releases.stays.put.Goals.{in-Some+else-meets+in_ok-push-2, in_default}

pub returns-then-meets-clause-kept : goal.returns-then-meets-clause-kept
returns-then-meets-clause-kept c =
    joined_kept c.args.stays.now.items c.pop.new.self.items c.push.new.self.items c.in-Some.last c.args.stay c.with.result c.in-Some.ensures.items
    c.in_ok-push.ensures.items c.with.ensures.page c.with.ensures.places c.with.ensures.own c.with.ensures.other (c.meets.ensures c.if-meets.true)

pub returns-then-meets-clause-roomy : goal.returns-then-meets-clause-roomy
returns-then-meets-clause-roomy c = λ roomy own.
    joined_roomy c.args.stays.now.items c.pop.new.self.items c.push.new.self.items c.in-Some.last c.args.stay c.with.result c.in-Some.ensures.items
    c.in_ok-push.ensures.items c.with.ensures.page roomy

pub returns-clause-roomy : goal.returns-clause-roomy
returns-clause-roomy c = λ roomy own.
    let same : c.match-pop.stays.items ≡ c.args.stays.now.items = elim c.match-pop.branch [
      | in-Some+else-meets+in_ok-push-2 w ↦ ap (λ v. v.items) w.stays-is ∙ w.in_ok-push-2.ensures.items ∙ sym w.in-Some.ensures.items
      | in_default w ↦ ap (λ v. v.items) w.stays-is ∙ sym (w.in_default.ensures.items ∙ append-nil c.pop.new.self.items)
    ] in
    subst AreRoomy (sym c.in_ok-push-3.ensures.items)
    (one_more (λ (s : Stay). IsRoomy s.page) c.match-pop.stays.items c.args.stay (subst AreRoomy (sym same) roomy) own)
