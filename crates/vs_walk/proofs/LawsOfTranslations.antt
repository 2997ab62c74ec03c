-- What a memory translates as.
use Rattle.std.proofs.Common.{◌≡◌, ◌≢◌, ℕ, ◌+◌, ◌-◌, Option, Some, None, refl, sym, ap, ◌∙◌}
use Rattle.vs_types.specs.Depth.{IsCanonical}
use Rattle.vs_types.specs.Space.{Space, IsSpace, page_at}
use Rattle.vs_types.specs.Step.{look}
use Rattle.vs_types.specs.declared.addresses.depth.Depth.{Depth}
use Rattle.vs_types.specs.declared.addresses.page.Page.{Page}
use Rattle.vs_types.specs.declared.requests.answer.Answer.{Answer}
use Rattle.vs_types.specs.declared.requests.answer.Answer.TheVariants as answers
use Rattle.vs_types.proofs.Alike.{alike_equal}
use Rattle.vs_walk.specs.Memory.{Memory}
use Rattle.vs_walk.specs.Walk.{walk, as_walk, TranslatesAs}
use Rattle.vs_walk.specs.declared.walk.Walk.TheVariants.{Reserved, Missing}

-- how an address looks in a page, or in none
in_page : ℕ → Option Page → Answer
in_page address None = answers.NotMapped
in_page address (Some page) = answers.Mapped (page.phys + (address - page.base)) page.size page.rights

look_found : (space : Space) (address : ℕ) (found : Option Page) → page_at space address ≡ found → look space address ≡ in_page address found
unfolding in_page
look_found space address None e = rw e refl
look_found space address (Some page) e = rw e refl

look_in : (space : Space) (address : ℕ) → look space address ≡ in_page address (page_at space address)
look_in space address = look_found space address (page_at space address) refl

same_in_page : (address : ℕ) (p q : Option Page) → as_walk (in_page address p) ≡ as_walk (in_page address q) → in_page address p ≡ in_page address q
unfolding in_page
same_in_page address None None is = refl
same_in_page address (Some p) (Some q) is = cc
same_in_page address _ _ is = cc

faultless : (address : ℕ) (p : Option Page) → (as_walk (in_page address p) ≢ Reserved) × (as_walk (in_page address p) ≢ Missing)
unfolding in_page
faultless address None = (λ is. cc, λ is. cc)
faultless address (Some p) = (λ is. cc, λ is. cc)

-- an address that is walked alike looks alike
pub looks_alike : (s t : Space) (address : ℕ) → as_walk (look s address) ≡ as_walk (look t address) → look s address ≡ look t address
looks_alike s t address is =
    look_in s address ∙ same_in_page address (page_at s address) (page_at t address)
    (ap as_walk (sym (look_in s address)) ∙ is ∙ ap as_walk (look_in t address)) ∙ sym (look_in t address)

pub one_space : (depth : Depth) (memory : Memory) (root : ℕ) (s t : Space) → IsSpace depth s → IsSpace depth t → TranslatesAs depth memory root s
    → TranslatesAs depth memory root t → s ≡ t
one_space depth memory root s t is_s is_t as_s as_t =
    alike_equal is_s is_t (λ address canonical. looks_alike s t address (sym (as_s address canonical) ∙ as_t address canonical))

pub not_reserved : (depth : Depth) (memory : Memory) (root : ℕ) (space : Space) (address : ℕ) → TranslatesAs depth memory root space
    → IsCanonical depth address → walk depth memory root address ≢ Reserved
not_reserved depth memory root space address translates canonical is =
    (faultless address (page_at space address)).0 (ap as_walk (sym (look_in space address)) ∙ sym (translates address canonical) ∙ is)

pub not_missing : (depth : Depth) (memory : Memory) (root : ℕ) (space : Space) (address : ℕ) → TranslatesAs depth memory root space → IsCanonical depth address
    → walk depth memory root address ≢ Missing
not_missing depth memory root space address translates canonical is =
    (faultless address (page_at space address)).1 (ap as_walk (sym (look_in space address)) ∙ sym (translates address canonical) ∙ is)
