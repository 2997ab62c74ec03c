use Rattle.std.proofs.Common.{◌≡◌, None, ap}
use Rattle.std.specs.BTreeMap.{get, is_at}
use Rattle.std.specs.Map.{lookup}
use Rattle.nr_touch.specs.inside.Indexed.{row_cmp}
use Rattle.nr_touch.proofs.releases.overs.Overs.none.Goals as goal

pub returns : goal.returns
returns c = λ key over at.
    let none : get row_cmp c.new.result key ≡ None = ap (lookup (is_at (row_cmp key))) c.new.ensures.empty in
    absurd (cc)
