use Rattle.std.proofs.Common.{◌≡◌, Option, Some, None, IfSome, refl, sym, subst}
use Rattle.vs_types.specs.Space.{Space, Holds}
use Rattle.vs_types.specs.declared.addresses.page.Page.{Page}
use Rattle.nr_touch.specs.Tails.{IsLeft}
use Rattle.nr_touch.specs.inside.Indexed.{HasPages, IsIndexed}
use Rattle.nr_touch.specs.inside.Listed.{AreListed, HasRoom}
use Rattle.nr_touch.specs.declared.releases.lingering.Indexes.{Indexes}
use Rattle.nr_touch.proofs.releases.reaching.quiet_of.Goals as goal

-- what holds of the indexes that were kept, and of those that are built
of_built : (P : Indexes → Type 0) (index : Option Indexes) (built : Indexes) → IfSome index (λ i. built ≡ i) → (index ≡ None → P built) → IfSome index P
    → P built
of_built P None built kept new has = new refl
of_built P (Some index) built kept new has = subst P (sym kept) has

-- a page that was there, and is there, is in the index that was kept or is built
in_built : (index : Option Indexes) (start space : Space) (built : Indexes) → IfSome index (λ i. built ≡ i) → (index ≡ None → HasPages built.pages space)
    → IfSome index (λ i. HasPages i.pages start) → (page : Page) → Holds start page → Holds space page → IsIndexed built.pages page
in_built None start space built kept new has page was is = new refl page is
in_built (Some index) start space built kept new has page was is = subst (λ (i : Indexes). IsIndexed i.pages page) (sym kept) (has page was)

pub returns-clause-quiet : goal.returns-clause-quiet
returns-clause-quiet c = λ start has stayed page holds none. c.forget_all.ensures page (λ own. none (rw c.deref.ensures.value at own))
    (in_built c.args.index start c.args.joined.now.space.space c.in_ok-quiet.quiet c.in_ok-quiet.ensures.kept (λ gone. (c.in_ok-quiet.ensures.new gone).0)
    has page (stayed page holds none) holds)

pub returns-clause-listed : goal.returns-clause-listed
returns-clause-listed c =
    of_built (λ i. AreListed (IsLeft c.args.left.now) i.lingering i.gone) c.args.index c.in_ok-quiet.quiet c.in_ok-quiet.ensures.kept
    (λ gone. (c.in_ok-quiet.ensures.new gone).1)

pub returns-clause-room : goal.returns-clause-room
returns-clause-room c =
    of_built (λ i. HasRoom i.lingering) c.args.index c.in_ok-quiet.quiet c.in_ok-quiet.ensures.kept (λ gone. (c.in_ok-quiet.ensures.new gone).2)
