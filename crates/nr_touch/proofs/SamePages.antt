-- Two pages are one, or they aren't, as a test of them says.
use Rattle.std.proofs.Common.{◌≡◌, ◌≢◌, ◌⊎◌, inl, inr, Bool, true, false, Option, None, Some, refl, ap, subst, arith}
use Rattle.std.specs.Bool.{Decides}
use Rattle.std.specs.Option.{option_eq}
use Rattle.std.proofs.lemmas.Bool.Decides.{not_from_Decides, Decides-and, Decides-eqb, Decides-like}
use Rattle.std.proofs.lemmas.Option.{same_Some}
use Rattle.vs_types.specs.Page.{level_of}
use Rattle.vs_types.specs.declared.addresses.page.Page.{Page}
use Rattle.vs_types.specs.declared.addresses.page.Size.{Size}
use Rattle.vs_types.specs.declared.addresses.page.Size.TheVariants.{K4, M2, G1}
use Rattle.vs_types.proofs.Pages.{same_page}
use Rattle.nr_touch.specs.Beside.{is_alike, is_same_page}

alike_means : (a b : Bool) → Decides (is_alike a b) (a ≡ b)
alike_means true true = (λ t. refl, λ e. refl)
alike_means false false = (λ t. refl, λ e. refl)
alike_means _ _ = (λ t. absurd (cc), λ e. absurd (cc))

size_of_level : (s t : Size) → level_of s ≡ level_of t → s ≡ t
size_of_level K4 K4 e = refl
size_of_level M2 M2 e = refl
size_of_level G1 G1 e = refl
size_of_level _ _ e = absurd (omega arith)

abbrev HasSame : Page → Page → Type 0
HasSame p q = (p.base ≡ q.base) × ((level_of p.size ≡ level_of q.size) × ((p.phys ≡ q.phys)
    × ((p.rights.write ≡ q.rights.write) × ((p.rights.user ≡ q.rights.user) × (p.rights.exec ≡ q.rights.exec)))))

same_from : (p q : Page) → HasSame p q → p ≡ q
same_from p q (base, (size, (phys, (write, (user, exec))))) =
    same_page p q base (size_of_level p.size q.size size) phys (λ i. record { write = write i; user = user i; exec = exec i })

same_to : (p q : Page) → p ≡ q → HasSame p q
same_to p q e = subst (HasSame p) e (refl, (refl, (refl, (refl, (refl, refl)))))

page_means : (p q : Page) → Decides (is_same_page p q) (p ≡ q)
page_means p q = Decides-like (is_same_page p q) (same_from p q) (same_to p q)
    (Decides-and _ _ (Decides-eqb p.base q.base) (Decides-and _ _ (Decides-eqb (level_of p.size) (level_of q.size))
    (Decides-and _ _ (Decides-eqb p.phys q.phys) (Decides-and _ _ (alike_means p.rights.write q.rights.write)
    (Decides-and _ _ (alike_means p.rights.user q.rights.user) (alike_means p.rights.exec q.rights.exec))))))

pub look_means : (x y : Option Page) → Decides (option_eq is_same_page x y) (x ≡ y)
look_means None None = (λ t. refl, λ e. refl)
look_means (Some p) (Some q) = Decides-like (is_same_page p q) (λ (e : p ≡ q). ap (λ (r : Page). Some r) e) (same_Some p q) (page_means p q)
look_means _ _ = (λ t. absurd (cc), λ e. absurd (cc))

by_test : {P : Type 0} (b : Bool) → Decides b P → P ⊎ (P → ⊥)
by_test true means = inl (means.0 refl)
by_test false means = inr (not_from_Decides false means refl)

pub page_or_not : (p q : Page) → (p ≡ q) ⊎ (p ≢ q)
page_or_not p q = by_test (is_same_page p q) (page_means p q)

pub look_or_not : (x y : Option Page) → (x ≡ y) ⊎ (x ≢ y)
look_or_not x y = by_test (option_eq is_same_page x y) (look_means x y)

-- what covers an address is the same where it doesn't differ
pub same_look : (x y : Option Page) → ((x ≢ y) → ⊥) → x ≡ y
same_look x y same = elim (look_or_not x y) [ inl e ↦ e | inr differs ↦ absurd (same differs) ]
