-- The rights of all passes, when the view of one is changed.
use Rattle.std.proofs.Common.{◌≡◌, ℕ, zero, suc, ◌+◌, ◌≤◌, List, [], ◌∷◌, get_or, set, ap, sym, ◌∙◌}
use Rattle.std.specs.List.{sum_by}
use Rattle.std.proofs.lemmas.List.Sums.{sum_by-set}
use mathlib.Core.Option.{some, some-injective, some-ne-none}
use lib.ListN.{get_elem?}
use Rattle.nr_ring.specs.Calls.{MayMake}
use Rattle.nr_ring.specs.declared.ring.log_event.LogEvent.{LogEvent}
use Rattle.nr_ring.specs.declared.ring.log_event.LogEvent.TheVariants.{Append, Advance}
use Rattle.nr_ring.specs.declared.ring.view.View.{View}
use Rattle.nr_ring.proofs.Views.{below_end, views_changed}

view_at : (views : List View) (pass : ℕ) (v : View) → get_elem? views pass ≡ some v → get_or views pass v ≡ v
view_at [] pass v at = absurd (some-ne-none v (sym at))
view_at (u ∷ us) zero v at = some-injective u v at
view_at (u ∷ us) (suc pass) v at = view_at us pass v at

-- one pass has more rights or fewer
pub rights_changed : (views : List View) (pass : ℕ) (v w : View) → get_elem? views pass ≡ some v
    → sum_by (λ (z : View). z.rights) (set views pass w) + v.rights ≡ sum_by (λ (z : View). z.rights) views + w.rights
rights_changed views pass v w at =
    ap (λ (z : View). sum_by (λ (y : View). y.rights) (set views pass w) + z.rights) (sym (view_at views pass v at))
    ∙ sum_by-set (λ (z : View). z.rights) views pass w v (below_end views pass v at)

-- a pass with no right has made nothing
abbrev pub Idles : View → Type 0
Idles v = v.rights ≡ 0 → v.mine ≡ []

pub idle_still : (views : List View) (pass : ℕ) (w : View) → Idles w
    → ((j : ℕ) (u : View) → get_elem? views j ≡ some u → Idles u) → (j : ℕ) (u : View) → get_elem? (set views pass w) j ≡ some u → Idles u
idle_still views pass w here others = views_changed (λ j u. Idles u) views pass w here (λ j u other there. others j u there)

pub has_right : (event : LogEvent) (v : View) → MayMake v event → 1 ≤ v.rights
has_right (Append batch) v may = may
has_right (Advance replica to) v may = may.0
