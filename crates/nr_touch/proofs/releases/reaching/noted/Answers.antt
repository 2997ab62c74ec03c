use Rattle.std.proofs.Common.{inl, inr}
use Rattle.nr_touch.proofs.IndexedPages.{own_or_not}
use Rattle.nr_touch.proofs.releases.reaching.noted.Goals as goal

pub returns : goal.returns
returns c = λ joined quiet present page holds. elim (own_or_not joined.history.changes.items page) [
  | inl own ↦ c.in_ok-note_all.ensures.own page (present page holds own)
  | inr none ↦ c.in_ok-note_all.ensures.others page (quiet page holds none)
]
