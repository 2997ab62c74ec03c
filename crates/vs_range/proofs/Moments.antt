-- Moments of which one processor lives through more than another.
use Rattle.std.proofs.Common.{ℕ, List, [], ◌∷◌}
use Rattle.vs_types.specs.declared.addresses.depth.Depth.{Depth}
use Rattle.vs_walk.specs.Memory.{Memory}
use Rattle.vs_plan.specs.Processor.{Kept, KeptBefore, OfRoot, OfTable, OfPage, Moment, Is, MayKeep}
use Rattle.vs_plan.proofs.Kept.{IsClosed, all_kept}

-- what may be kept after the first moments may be kept after the others
abbrev pub KeepsNoMore : Depth → ℕ → List Moment → List Moment → Type 0
KeepsNoMore depth root less more = (kept : Kept) → MayKeep depth root less kept → MayKeep depth root more kept

pub closed : (depth : Depth) (root : ℕ) (memory : Memory) (moments : List Moment) → IsClosed depth root memory (MayKeep depth root (Is memory ∷ moments))
closed depth root memory moments = record {
  of_root = λ address canonical. OfRoot address canonical;
  of_table = λ address below number next rights own canonical table found. OfTable address below number next rights own canonical table found;
  of_page = λ address below number phys rights own canonical table found. OfPage address below number phys rights own canonical table found;
}

-- one more moment
pub more_is : (depth : Depth) (root : ℕ) (memory : Memory) (less more : List Moment) → KeepsNoMore depth root less more
    → KeepsNoMore depth root (Is memory ∷ less) (Is memory ∷ more)
more_is depth root memory less more no_more kept held =
    all_kept (closed depth root memory more) (λ k before. KeptBefore k (no_more k before)) kept held
