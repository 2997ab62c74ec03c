-- A dump that is gathered from a memory all of whose frames are reached has just these frames.
use Rattle.std.proofs.Common.{◌≡◌, ℕ, List, Option, Some, None, Contains, IsTrue, is_some, sym, ap, subst, ◌∙◌, refl}
use Rattle.std.specs.Cmp.{nat_cmp_total}
use Rattle.std.specs.FinMap as finite
use Rattle.std.specs.FinMap.{nat_cmp-IsAntisymmetric}
use Rattle.vs_types.specs.declared.addresses.depth.Depth.{Depth}
use Rattle.vs_walk.specs.Memory.{Memory}
use Rattle.vs_walk.specs.Traversal.{traversal, reached}

all_gathered : (memory dump : Memory) (reached : List ℕ) → ((number : ℕ) → Contains reached number → IsTrue (finite.contains_key memory number))
    → ((number : ℕ) → IsTrue (finite.contains_key memory number) → Contains reached number)
    → ((number : ℕ) → Contains reached number → finite.get dump number ≡ finite.get memory number)
    → ((number : ℕ) → IsTrue (finite.contains_key dump number) → Contains reached number) → dump ≡ memory
all_gathered memory dump reached in_use each held only =
    finite.same_map nat_cmp_total nat_cmp-IsAntisymmetric dump memory (λ q. by_get q (finite.get memory q) (finite.get dump q) refl refl) where
      by_get : (q : ℕ) (here there : Option (List ℕ)) → finite.get memory q ≡ here → finite.get dump q ≡ there → finite.get dump q ≡ finite.get memory q
      by_get q (Some words) there e f = held q (each q (let P : Option (List ℕ) → Type 0 = λ o. IsTrue (is_some o) in subst P (sym e) refl))
      by_get q None None e f = f ∙ sym e
      by_get q None (Some words) e f = held q (only q (let P : Option (List ℕ) → Type 0 = λ o. IsTrue (is_some o) in subst P (sym f) refl))

pub same_reached : (memory : Memory) (depth d : Depth) (root r : ℕ) → d ≡ depth → r ≡ root
    → reached (traversal d memory r) ≡ reached (traversal depth memory root)
same_reached memory depth d root r ed er = ap (λ z. reached (traversal z memory r)) ed ∙ ap (λ z. reached (traversal depth memory z)) er

-- where all frames of the memory are reached, the dump has just these
pub same_frames : (memory dump : Memory) (depth d : Depth) (root r : ℕ) → d ≡ depth → r ≡ root
    → ((number : ℕ) → Contains (reached (traversal depth memory root)) number → IsTrue (finite.contains_key memory number))
    → ((number : ℕ) → IsTrue (finite.contains_key memory number) → Contains (reached (traversal depth memory root)) number)
    → ((number : ℕ) → Contains (reached (traversal d memory r)) number → finite.get dump number ≡ finite.get memory number)
    → ((number : ℕ) → IsTrue (finite.contains_key dump number) → Contains (reached (traversal d memory r)) number) → dump ≡ memory
same_frames memory dump depth d root r same_depth same_root in_use each held only =
    let same = same_reached memory depth d root r same_depth same_root in
    all_gathered memory dump (reached (traversal depth memory root)) in_use each
    (λ n h. held n (subst (λ l. Contains l n) (sym same) h)) (λ n h. subst (λ l. Contains l n) same (only n h))
