-- Inside the comparison of a dump's pages with those of a space. No public clause cites this.
use Rattle.std.specs.Prelude.{◌≡◌, ◌≢◌, ℕ, List, [], ◌∷◌, ◌++◌, Option, Some, None, Contains, min}
use Rattle.vs_types.specs.Entry.{all_rights}
use Rattle.vs_types.specs.declared.addresses.page.Page.{Page}
use Rattle.vs_types.specs.declared.addresses.page.Size.TheVariants.{K4}

-- the two lists do not begin with the same page, and this is the lesser base of their first pages
abbrev pub HeadsDiffer : List Page → List Page → ℕ → Type 0
HeadsDiffer [] [] base = ⊥
HeadsDiffer [] (q ∷ qs) base = base ≡ q.base
HeadsDiffer (p ∷ ps) [] base = base ≡ p.base
HeadsDiffer (p ∷ ps) (q ∷ qs) base = (p ≢ q) × (base ≡ min p.base q.base)

-- the lists are equal, or this is the lesser base where they first differ
abbrev pub IsCompared : List Page → List Page → Option ℕ → Type 0
IsCompared ps qs None = ps ≡ qs
IsCompared ps qs (Some base) = (common left right : List Page) × (ps ≡ common ++ left) × (qs ≡ common ++ right) × HeadsDiffer left right base

-- the pages that were taken and those that are left are the pages of the space; or the first difference is known
abbrev pub AreTaken : List Page → List Page → Option ℕ → List Page → Type 0
AreTaken pages left None taken = pages ≡ taken ++ left
AreTaken pages left (Some base) taken =
    (common rest right : List Page) × (first : Page) × (taken ≡ common ++ first ∷ rest) × (pages ≡ common ++ right) × HeadsDiffer (first ∷ rest) right base

-- no page of a space: its base is no multiple of 4,096
abbrev pub mark : Page
mark = record { base = 1; size = K4; phys = 0; rights = all_rights }

-- a visitor knows what it has taken, and not with which space it compares: so the list begins with the pages of the
-- space, up to the mark, and those that were taken come after it
abbrev pub HasCompared : List Page → Option ℕ → List Page → Type 0
HasCompared left difference told =
    (pages taken : List Page) × (told ≡ pages ++ mark ∷ taken) × (Contains pages mark → ⊥) × AreTaken pages left difference taken
