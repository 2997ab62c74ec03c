-- What a step that changes one page answers, and which space a memory then translates as.
use Rattle.std.proofs.Common.{◌≡◌, ℕ, ◌+◌, ◌-◌, ◌%◌, Some, sym, ap, subst, ◌∙◌, arith}
use Rattle.std.specs.FinMap as finite
use Rattle.vs_types.specs.Depth.{levels, entry_bytes, IsCanonical}
use Rattle.vs_types.specs.Entry.{size_at}
use Rattle.vs_types.specs.Laws.{as_in, LooksChanged}
use Rattle.vs_types.specs.Page.{bytes_of}
use Rattle.vs_types.specs.Space.{Space, page_at}
use Rattle.vs_types.specs.Step.{step, Stepped}
use Rattle.vs_types.specs.declared.requests.answer.Answer.{Answer}
use Rattle.vs_types.specs.declared.requests.answer.Answer.TheVariants as answers
use Rattle.vs_types.specs.declared.addresses.depth.Depth.{Depth}
use Rattle.vs_types.specs.declared.requests.op.Action.TheVariants.{Unmap, Protect}
use Rattle.vs_types.specs.declared.addresses.page.Page.{Page}
use Rattle.vs_types.specs.declared.addresses.page.Rights.{Rights}
use Rattle.vs_types.proofs.Looks.{removed_looks, changed_looks}
use Rattle.vs_types.proofs.Steps.{unmap_cases, protect_cases}
use Rattle.vs_walk.specs.Memory.{Memory}
use Rattle.vs_walk.specs.Walk.{walk, as_walk, TranslatesAs}
use Rattle.vs_walk.specs.declared.walk.Walk.TheVariants.{NotMapped, Mapped}
use Rattle.vs_space.specs.Path.{SamePath}
use Rattle.vs_space.specs.Table.{PageTable, IsTableOf}
use Rattle.vs_space.proofs.Regions.{IsLeafPage, walk_in, page_path, translates_changed, path_covers}

protect_changes : (depth : Depth) (limit : ℕ) (space : Space) (base : ℕ) (rights : Rights) (q : Page) → page_at space base ≡ Some q → q.base ≡ base
    → (step depth limit space (Protect base rights)).answer ≡ answers.Changed q.rights
protect_changes depth limit space base rights q here same =
    protect_cases (λ s. s.answer ≡ answers.Changed q.rights) depth limit space base rights (λ e. absurd (cc))
    (λ p e is. let one : p ≡ q = cc in ap (λ (z : Page). answers.Changed z.rights) one)
    (λ p e differs. let one : p ≡ q = cc in absurd (differs (ap (λ (z : Page). z.base) one ∙ same)))

pub unmap_removes : (depth : Depth) (limit : ℕ) (space : Space) (base : ℕ) (q : Page) → page_at space base ≡ Some q → q.base ≡ base
    → step depth limit space (Unmap base) ≡ record { space = finite.remove space base; answer = answers.Removed q.phys q.size q.rights }
unmap_removes depth limit space base q here same =
    unmap_cases (λ s. s ≡ record { space = finite.remove space base; answer = answers.Removed q.phys q.size q.rights }) depth limit space base
    (λ e. absurd (cc))
    (λ p e is. let one : p ≡ q = cc in ap (λ (z : Page). let s : Stepped =
    record { space = finite.remove space base; answer = answers.Removed z.phys z.size z.rights } in s) one)
    (λ p e differs. let one : p ≡ q = cc in absurd (differs (ap (λ (z : Page). z.base) one ∙ same)))

-- a page of which an aligned address is the base
pub begins_at : {depth : Depth} {space : Space} {base level phys : ℕ} {given : Rights} {q : Page} → IsLeafPage depth space base level phys given q
    → base % bytes_of (size_at level) ≡ 0 → q.base ≡ base
begins_at {base = base} {level} {q = q} leaf aligned =
    let offset : base % bytes_of q.size ≡ base % bytes_of (size_at level) = ap (λ n. base % n) (ap bytes_of leaf.size) in
    omega (arith, leaf.base, offset, aligned)

-- ---- a page that begins at the address

module _ {t : PageTable} {space : Space} (of : IsTableOf t space) {base level phys : ℕ} {given : Rights} {q : Page}
    (leaf : IsLeafPage t.depth space base level phys given q) (begins : q.base ≡ base) where
  -- the memory translates as a space that looks otherwise at the page alone
  pub leaf_translates : {after : Space} {inside : ℕ → Answer} (m' : Memory) → LooksChanged q inside space after
      → ((b : ℕ) → IsCanonical t.depth b → SamePath (levels t.depth) level base b → b % entry_bytes level ≡ b - q.base
      → walk t.depth m' t.root b ≡ as_walk (inside b))
      → ((b : ℕ) → IsCanonical t.depth b → (SamePath (levels t.depth) level base b → ⊥) → walk t.depth m' t.root b ≡ walk_in t b)
      → TranslatesAs t.depth m' t.root after
  leaf_translates m' looks there elsewhere = translates_changed m' of leaf.good looks
      (λ b canonical same.
      let at = (path_covers t.depth q leaf.good b canonical same).1 in
      there b canonical ((page_path leaf begins b).0 same) (subst (λ l. b % entry_bytes l ≡ b - q.base) leaf.level_is (omega (arith, at))))
      (λ b canonical apart. elsewhere b canonical (λ same. apart ((page_path leaf begins b).1 same)))

module _ (limit : ℕ) {t : PageTable} {space : Space} (of : IsTableOf t space) {base level phys : ℕ} {given : Rights} {q : Page}
    (leaf : IsLeafPage t.depth space base level phys given q) (begins : q.base ≡ base) where
  -- its rights change
  module _ (rights : Rights) where
    pub changed_answer : (step t.depth limit space (Protect base rights)).answer ≡ answers.Changed given
    changed_answer = protect_changes t.depth limit space base rights q leaf.here begins ∙ ap answers.Changed leaf.rights

    changed_look : LooksChanged q (as_in (record q { rights = rights })) space (step t.depth limit space (Protect base rights)).space
    changed_look = subst (λ a. LooksChanged q (as_in (record q { rights = rights })) space (step t.depth limit space (Protect a rights)).space) begins
        (changed_looks limit of.is_space q rights given leaf.held
        (subst (λ a. (step t.depth limit space (Protect a rights)).answer ≡ answers.Changed given) (sym begins) changed_answer))

    pub changed_translates : (m' : Memory)
        → ((b : ℕ) → SamePath (levels t.depth) level base b
        → walk t.depth m' t.root b ≡ Mapped (phys + b % entry_bytes level) (size_at level) rights)
        → ((b : ℕ) → (SamePath (levels t.depth) level base b → ⊥) → walk t.depth m' t.root b ≡ walk_in t b)
        → TranslatesAs t.depth m' t.root (step t.depth limit space (Protect base rights)).space
    changed_translates m' there elsewhere = leaf_translates of leaf begins m' changed_look
        (λ b canonical same at.
        let place : phys + b % entry_bytes level ≡ q.phys + (b - q.base) = omega (arith, at, leaf.phys_is) in
        there b same ∙ ap (λ p. Mapped p (size_at level) rights) place ∙ ap (λ z. Mapped (q.phys + (b - q.base)) z rights) (sym leaf.size))
        (λ b canonical apart. elsewhere b apart)

  -- it is removed
  pub removed_answer : (step t.depth limit space (Unmap base)).answer ≡ answers.Removed phys (size_at level) given
  removed_answer = ap (λ (s : Stepped). s.answer) (unmap_removes t.depth limit space base q leaf.here begins) ∙ cc (leaf.phys_is, leaf.size, leaf.rights)

  removed_look : LooksChanged q (λ address. answers.NotMapped) space (step t.depth limit space (Unmap base)).space
  removed_look = subst (λ a. LooksChanged q (λ address. answers.NotMapped) space (step t.depth limit space (Unmap a)).space) begins
      (removed_looks limit of.is_space q
      (subst (λ a. (step t.depth limit space (Unmap a)).answer ≡ answers.Removed q.phys q.size q.rights) (sym begins)
      (ap (λ (s : Stepped). s.answer) (unmap_removes t.depth limit space base q leaf.here begins))))

  pub removed_translates : (m' : Memory)
      → ((b : ℕ) → IsCanonical t.depth b → SamePath (levels t.depth) level base b → walk t.depth m' t.root b ≡ NotMapped)
      → ((b : ℕ) → IsCanonical t.depth b → (SamePath (levels t.depth) level base b → ⊥) → walk t.depth m' t.root b ≡ walk_in t b)
      → TranslatesAs t.depth m' t.root (step t.depth limit space (Unmap base)).space
  removed_translates m' there elsewhere = leaf_translates of leaf begins m' removed_look (λ b canonical same at. there b canonical same) elsewhere
