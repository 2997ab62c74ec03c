-- The frames of a dump.
use Rattle.std.proofs.Common.{◌≡◌, ℕ, true, false, cond, List, [], ◌∷◌, Some, sym, subst, ◌∙◌, Contains}
use Rattle.std.specs.FinMap as finite
use Rattle.std.specs.FinMap.Entries as entries
use Rattle.std.specs.Ordering.{nat_cmp, eq_by_cmp}
use Rattle.std.proofs.lemmas.List.Elements.{All-contains}
use Rattle.vs_types.proofs.Lists.{Contains-head, Contains-tail}
use Rattle.vs_types.specs.Frame.{IsFrame}
use Rattle.vs_walk.specs.Dump.{Image, IsDump}
use Rattle.vs_walk.specs.Memory.{AreWhole}

-- what is found at a number is the words of a frame that is listed
found_listed : (q : ℕ) (es : List (ℕ × List ℕ)) (words : List ℕ) → entries.find nat_cmp q es ≡ Some words → (number : ℕ) × Contains es (number, words)
found_listed q [] words e = cc
found_listed q (x ∷ es) words e =
    elim (eq_by_cmp nat_cmp q x.0) as (λ b. cond b (Some x.1) (entries.find nat_cmp q es) ≡ Some words → (number : ℕ) × Contains (x ∷ es) (number, words)) [
      | true ↦ λ is. let same : x.1 ≡ words = cc in (x.0, subst (λ v. Contains (x ∷ es) (x.0, v)) same (Contains-head x es))
      | false ↦ λ is. let later = found_listed q es words is in (later.0, Contains-tail x es (later.0, words) later.1)
    ] e

-- each frame that a dump has is one of its frames
pub dump_frame : (dump : Image) (number : ℕ) (words : List ℕ) → IsDump dump → finite.get dump.frames number ≡ Some words → IsFrame words
dump_frame dump number words is there =
    let listed = found_listed number (finite.entries dump.frames) words (sym (finite.get-entries dump.frames number) ∙ there) in
    All-contains (λ frame. IsFrame frame.1) (finite.entries dump.frames) (listed.0, words) is.whole listed.1

pub dump_is_whole : (dump : Image) → IsDump dump → AreWhole dump.frames
dump_is_whole dump is number words there = (dump_frame dump number words is there).whole
