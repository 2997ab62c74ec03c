use Rattle.std.proofs.Common.{◌≡◌, ℕ, ◌<◌, ◌≤◌, false, get_or, length, Some}
use Rattle.vs_types.specs.declared.addresses.page.Page.{Page}
use Rattle.nr_touch.specs.Tails.{ends_look}
use Rattle.nr_touch.specs.inside.Changes.{page_before}
use Rattle.nr_touch.specs.inside.Listed.{AreWithin, HasRoom, IsListed}
use Rattle.nr_touch.specs.declared.releases.overs.Overs.{Overs}
use Rattle.nr_touch.specs.declared.touches.tail.Left.{Left}
use Rattle.nr_touch.proofs.releases.lingering.Lingering.note_all.Given as goal

abbrev pub invariant-loop-left : goal.invariant-loop-left
invariant-loop-left l = record {
  room : HasRoom l.fn.self → HasRoom l.self;
  grown : length l.fn.self.pages.items ≤ length l.self.pages.items;
  others : (gone : Overs) (page : Page) (frame : ℕ) → IsListed l.fn.self gone page frame → IsListed l.self gone page frame;
  own : (k : ℕ) (d : Left) → k < l.left-index → (gone : Overs) (page : Page) (frame : ℕ) → AreWithin l.fn.self gone
      → page_before (get_or l.lefts k d).change ≡ Some page → ends_look (get_or l.lefts k d) (Some page) ≡ false → IsListed l.self gone page frame;
}
