use Rattle.std.proofs.Common.{◌≡◌, ℕ, ◌-◌, ◌≤◌, List, Some, length, refl, subst, arith}
use Rattle.std.specs.Prelude.{slice_get}
use Rattle.std.proofs.lemmas.Option.{slice_get_read}
use Rattle.nr_node.specs.inside.AppliedEntry.{AppliedEntry}
use Rattle.nr_node.proofs.Replicas.{kept_at}
use Rattle.nr_node.proofs.replica.Replica.kept.Goals as goal

pub returns-clause-kept : goal.returns-clause-kept
returns-clause-kept g c =
    let self = c.self.inside in
    let place = c.args.place in
    let told = c.in_ok-told.told.now in
    let all = c.deref.result.now in
    let read = c.in_ok-told.ensures.lookup in
    let base : c.count-base.result ≡ self.past.count = c.count-base.ensures in
    let above : self.past.count ≤ place = omega (arith, base, c.if-place-base.false) in
    let At : ℕ → Type 0 = λ n. slice_get self.told.items (place - n) ≡ Some told in
    let In : List AppliedEntry → Type 0 = λ l. slice_get l (place - c.count-base.result) ≡ Some told in
    let there : slice_get self.told.items (place - self.past.count) ≡ Some told =
    subst At base (subst In c.deref.ensures.value (slice_get_read all (length all) _ told refl read.3.0 read.1)) in
    (kept_at self.space self.past.count self.past.entries self.told.items _ place told c.args.self.now c.self.invariant c.self.view_is above there).0
