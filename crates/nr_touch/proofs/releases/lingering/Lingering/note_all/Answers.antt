use Rattle.std.proofs.Common.{◌≡◌, ℕ, false, Some, ap, ◌∙◌, arith}
use Rattle.std.proofs.lemmas.List.Elements.{Contains-get_or}
use Rattle.vs_types.specs.declared.addresses.page.Page.{Page}
use Rattle.nr_touch.specs.Tails.{ends_look}
use Rattle.nr_touch.specs.inside.Changes.{page_before}
use Rattle.nr_touch.specs.inside.Listed.{AreWithin, IsListed}
use Rattle.nr_touch.specs.declared.releases.overs.Overs.{Overs}
use Rattle.nr_touch.specs.declared.touches.tail.Left.{Left}
use Rattle.nr_touch.proofs.IndexRows.{one_further}
use Rattle.nr_touch.proofs.ListedPages.{all_listed}
use Rattle.nr_touch.proofs.releases.lingering.Lingering.note_all.Goals as goal

pub note-requires : goal.note-requires
note-requires c = c.requires _ (Contains-get_or c.args.lefts.now c.loop-left.left-index _ c.loop-left-test.true)

pub loop-left-preserved : goal.loop-left-preserved
loop-left-preserved c =
    let inv = c.loop-left.invariant in
    let note = c.in_ok-note.ensures in
    let low = inv.grown in
    let up = note.grown in
    record {
      room = λ room. note.room (inv.room room);
      grown = omega (arith, low, up);
      others = λ gone page frame it. note.others gone page frame (inv.others gone page frame it);
      own = one_further (λ (left : Left). (gone : Overs) (page : Page) (frame : ℕ) → AreWithin c.args.self.now gone → page_before left.change ≡ Some page
          → ends_look left (Some page) ≡ false → IsListed c.note.new.self gone page frame) c.args.lefts.now c.loop-left.left-index _ c.loop-left-test.true
          (λ k d l gone page frame within looks open_so. note.others gone page frame (inv.own k d l gone page frame within looks open_so))
          (λ gone page frame within looks open_so.
          note.own gone page frame (λ key over at. let few = within key over at in omega (arith, few, low)) looks open_so);
    }

pub returns-clause-own : goal.returns-clause-own
returns-clause-own c = λ gone within.
    let inv = c.loop-left.invariant in
    let low = inv.grown in
    all_listed c.args.lefts.now c.loop-left.self gone (λ key over at. let few = within key over at in omega (arith, few, low))
    (λ left page frame has looks open_so.
    let (k, l, is) = has in
    inv.own k left (omega (arith, l)) gone page frame within (ap (λ (q : Left). page_before q.change) is ∙ looks)
    (ap (λ (q : Left). ends_look q (Some page)) is ∙ open_so))
