-- The space after a split, and an unmap of each of some parts.
use Rattle.std.proofs.Common.{◌≡◌, ℕ, zero, suc, ◌+◌, None, subst}
use Rattle.vs_types.specs.Space.{Space, IsSpace}
use Rattle.vs_types.specs.Step.{Stepped}
use Rattle.vs_types.specs.declared.addresses.depth.Depth.{Depth}
use Rattle.vs_types.specs.declared.addresses.page.Page.{Page}
use Rattle.vs_types.proofs.Spaces.{remove_space}
use Rattle.vs_types.proofs.Steps.{unmap_cases}
use Rattle.vs_plan.specs.Changes.{part, split_refusal, unmap_each, unmap_part}
use Rattle.vs_plan.proofs.Changing.{change_cases}
use Rattle.vs_plan.proofs.PartSpaces.{split_space, split_stays_space, split_there}

-- an unmap leaves a space
pub unmap_stays : {depth : Depth} {space : Space} → IsSpace depth space → (page : Page) (first n : ℕ) → IsSpace depth (unmap_each depth space page first n)
unfolding unmap_each
unmap_stays is page first zero = is
unmap_stays {depth} {space} is page first (suc n) =
    let before = unmap_stays is page first n in
    unmap_cases (λ (s : Stepped). IsSpace depth s.space) depth 0 (unmap_each depth space page first n) (part page (first + n)).base
    (λ e. before) (λ p e same. remove_space before (part page (first + n)).base) (λ p e other. before)

pub unmap_part_stays_space : {depth : Depth} {space : Space} → IsSpace depth space → (base first count : ℕ) → split_refusal space base ≡ None
    → IsSpace depth (unmap_part depth space base first count).space
unmap_part_stays_space {depth} {space} is base first count none =
    change_cases space base (λ (page : Page). unmap_each depth (split_space space page) page first count) (IsSpace depth) is (λ page here begins.
    unmap_stays (subst (λ (s : Stepped). IsSpace depth s.space) (split_there space base page here begins) (split_stays_space is base none)) page first count)
