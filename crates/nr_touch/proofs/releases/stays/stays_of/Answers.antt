use Rattle.std.proofs.Common.{List, Contains, sym, subst}
use Rattle.std.proofs.lemmas.List.Sorted.{Contains-permutation, IsPermutation-sym}
use Rattle.std.proofs.lemmas.Result.{IfOk-weaker}
use Rattle.nr_touch.specs.inside.Stays.{HaveStays}
use Rattle.nr_touch.specs.declared.releases.seen.Seen.{Seen}
use Rattle.nr_touch.proofs.releases.stays.stays_of.Goals as goal

pub listed-requires-clause-roomy : goal.listed-requires-clause-roomy
listed-requires-clause-roomy c = λ s has.
    c.requires.roomy s (Contains-permutation c.sort.new.seen.items c.args.seen.items s
    (IsPermutation-sym c.args.seen.items c.sort.new.seen.items c.in_ok-sort.ensures)
    (subst (λ (xs : List Seen). Contains xs s) c.deref.ensures.value has))

pub returns-clause-stays : goal.returns-clause-stays
returns-clause-stays c =
    let changes = c.args.history.now.changes.items in
    IfOk-weaker c.listed.result (λ stays. HaveStays changes c.deref.result.now stays.items) (λ stays. HaveStays changes c.args.seen.items stays.items)
    (λ stays have s event has. have s event
    (subst (λ (xs : List Seen). Contains xs s) (sym c.deref.ensures.value)
    (Contains-permutation c.args.seen.items c.sort.new.seen.items s c.in_ok-sort.ensures has))) c.listed.ensures.stays
