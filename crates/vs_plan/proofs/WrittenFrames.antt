-- Plans of the same stores, but for flags, write the same frames.
use Rattle.std.proofs.Common.{◌≡◌, List, ◌∷◌, [], ◌++◌, ℕ, Option, Some, None, refl, sym, ap, ◌∙◌}
use Rattle.std.specs.List.{AllZip}
use Rattle.vs_plan.specs.declared.plans.plan.Fill.{Fill}
use Rattle.vs_plan.specs.declared.plans.plan.Store.{Store}
use Rattle.vs_plan.specs.Again.{fill_again}
use Rattle.vs_plan.specs.Right.{written_frames}
use Rattle.vs_plan.specs.Shown.{frames_of}
use Rattle.vs_plan.proofs.FlaggedEntries.{ArePaired}

paired_frames : (xs ys : List Store) → AllZip ArePaired xs ys → frames_of xs ≡ frames_of ys
paired_frames [] [] pairs = refl
paired_frames (s ∷ xs) (t ∷ ys) pairs =
    ap (λ (ns : List ℕ). s.frame ∷ ns) (paired_frames xs ys pairs.1) ∙ ap (λ (n : ℕ). n ∷ frames_of ys) (sym pairs.0.frame)
paired_frames _ _ pairs = absurd pairs

-- the frame of the fill, and those of the stores
both_frames : (fill : Option Fill) (stores : List Store) → written_frames fill stores ≡ written_frames fill [] ++ frames_of stores
both_frames None stores = refl
both_frames (Some fill) stores = refl

pub written_same : (fill other : Option Fill) (xs ys : List Store) → written_frames fill [] ≡ written_frames other [] → AllZip ArePaired xs ys
    → written_frames fill xs ≡ written_frames other ys
written_same fill other xs ys same pairs =
    both_frames fill xs ∙ ap (λ (ns : List ℕ). ns ++ frames_of xs) same ∙ ap (λ (ns : List ℕ). written_frames other [] ++ ns) (paired_frames xs ys pairs)
    ∙ sym (both_frames other ys)

pub again_frames : (word : ℕ) (fill : Option Fill) → written_frames fill [] ≡ written_frames (fill_again word fill) []
again_frames word None = refl
again_frames word (Some fill) = refl
