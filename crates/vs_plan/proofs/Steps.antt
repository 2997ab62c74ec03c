-- Which space a memory translates as whose walks are those of another but for the addresses of a page that is added.
use Rattle.std.proofs.Common.{◌≡◌, ℕ, ◌+◌, ◌-◌, ◌%◌, ◌^◌, None, IsTrue, ap, ◌∙◌, arith}
use Rattle.std.specs.FinMap as finite
use Rattle.vs_types.specs.Depth.{levels, IsCanonical}
use Rattle.vs_types.specs.Page.{level_of, bytes_of, covers, IsPage}
use Rattle.vs_types.specs.Space.{Space, page_at, table_count}
use Rattle.vs_types.specs.Step.{step, Stepped}
use Rattle.vs_types.specs.declared.addresses.depth.Depth.{Depth}
use Rattle.vs_types.specs.declared.requests.op.Action.TheVariants.{Map}
use Rattle.vs_types.specs.declared.addresses.page.Page.{Page}
use Rattle.vs_types.specs.declared.requests.answer.Answer.TheVariants as answers
use Rattle.vs_types.proofs.Looks.{done_looks}
use Rattle.vs_types.proofs.Pages.{covered_canonical}
use Rattle.vs_walk.specs.Memory.{Memory}
use Rattle.vs_walk.specs.Walk.{walk, TranslatesAs}
use Rattle.vs_walk.specs.declared.walk.Walk.TheVariants.{NotMapped, Mapped}
use Rattle.vs_space.specs.Path.{SamePath}
use Rattle.vs_space.specs.Table.{IsTableOf}
use Rattle.vs_space.proofs.Maps.{map_is_done}
use Rattle.vs_space.proofs.Overlaps.{overlapped_none}
use Rattle.vs_space.proofs.Regions.{nothing_at, translates_changed, covers_path, path_covers}
use Rattle.vs_plan.proofs.Pages.{table_from}

module _ {depth : Depth} {m : Memory} {root : ℕ} {space : Space} (of : IsTableOf (table_from depth m root) space) {page : Page} (good : IsPage depth page)
    (nothing : (b : ℕ) → IsCanonical depth b → SamePath (levels depth) (level_of page.size) page.base b → walk depth m root b ≡ NotMapped) where
  none_there : (a : ℕ) → IsTrue (covers page a) → page_at space a ≡ None
  none_there a covered =
      let is_a = covered_canonical (2 ^ 51) depth page a good covered in
      nothing_at of a is_a (nothing a is_a (covers_path depth page good a covered))

  abbrev limit : ℕ
  limit = table_count depth (finite.insert space page.base page)

  pub added_answer : (step depth limit space (Map page)).answer ≡ answers.Done
  added_answer = ap (λ (s : Stepped). s.answer) (map_is_done depth limit space page (overlapped_none of.is_space page none_there) (omega arith))

  pub added_translates : (m' : Memory)
      → ((b : ℕ) → IsCanonical depth b → SamePath (levels depth) (level_of page.size) page.base b
      → walk depth m' root b ≡ Mapped (page.phys + b % bytes_of page.size) page.size page.rights)
      → ((b : ℕ) → (SamePath (levels depth) (level_of page.size) page.base b → ⊥) → walk depth m' root b ≡ walk depth m root b)
      → TranslatesAs depth m' root (step depth limit space (Map page)).space
  added_translates m' there elsewhere = translates_changed m' of good (done_looks limit of.is_space page good added_answer)
      (λ b is_b same.
      let at = (path_covers depth page good b is_b same).1 in
      let offset : page.phys + b % bytes_of page.size ≡ page.phys + (b - page.base) = omega (arith, at) in
      there b is_b same ∙ ap (λ p. Mapped p page.size page.rights) offset)
      (λ b is_b apart. elsewhere b apart)
