use Rattle.std.proofs.Common.{◌≡◌, ◌⊎◌, inl, inr, Bool, true, false, cond, Option, Some, sym, ap, ◌∙◌}
use Rattle.std.specs.BTreeMap.{get, is_at}
use Rattle.std.proofs.lemmas.Option.{same_Some}
use Rattle.nr_touch.specs.inside.Indexed.{row_cmp}
use Rattle.nr_touch.specs.declared.releases.overs.Over.{Over}
use Rattle.nr_touch.proofs.releases.overs.Overs.note.Goals as goal

-- what was noted, or the row more
noted : (over it : Over) (was after : Option Over) (here : Bool) → after ≡ cond here (Some over) was → after ≡ Some it
    → (was ≡ Some it) ⊎ ((it.release ≡ over.release) × (it.block ≡ over.block) × (it.rows ≡ over.rows))
noted over it was after true e at =
    let same = same_Some it over (sym at ∙ e) in
    inr (ap (λ (o : Over). o.release) same, ap (λ (o : Over). o.block) same, ap (λ (o : Over). o.rows) same)
noted over it was after false e at = inl (sym e ∙ at)

pub returns : goal.returns
returns c = λ key it at.
    noted (record { release = c.args.release.now; block = c.args.block; rows = c.args.rows }) it (get row_cmp c.args.self.now.known key) _
    (is_at (row_cmp (c.memory_of.result, c.args.block)) key) (c.in_ok-insert.ensures.updates.0 key) at
