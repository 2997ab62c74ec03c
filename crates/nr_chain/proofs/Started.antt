-- The start of a segment translates as the space after those before it.
use Rattle.std.proofs.Common.{◌≡◌, List, [], ◌∷◌, ◌++◌, Option, Some, None, refl, sym, subst}
use Rattle.std.specs.Prelude.{⊤}
use Rattle.vs_types.specs.Space.{Space, IsSpace}
use Rattle.vs_types.specs.declared.addresses.depth.Depth.{Depth}
use Rattle.vs_walk.specs.Dump.{Image}
use Rattle.nr_trace.specs.Recording.{Recording, IsRecording}
use Rattle.nr_trace.specs.Run.{Run, end_of}
use Rattle.nr_audit.specs.Faults.{IsSoundAfter}
use Rattle.nr_audit.proofs.StartSpaces.{first_translates}
use Rattle.nr_chain.specs.Headline.{GoesOnIn}
use Rattle.nr_chain.specs.Joined.{Segment, both, joined}
use Rattle.nr_chain.specs.Run.{AreRightFrom, IsRightFrom, space_behind}
use Rattle.nr_chain.proofs.Both.{right_both, space_behind_both}

-- ---- starts

-- a sound segment goes on in the space before it
pub goes_on_in : (segment : Recording) (run : Run) → IsRecording segment → IsSpace segment.layout.depth (end_of run) → IsSoundAfter (Some run) segment
    → GoesOnIn segment.layout.depth segment.start (end_of run)
goes_on_in segment run in_range is sound = by_start segment.start refl where
  by_start : (start : Option Image) → segment.start ≡ start → GoesOnIn segment.layout.depth segment.start (end_of run)
  by_start None has = subst (λ o. GoesOnIn segment.layout.depth o (end_of run)) (sym has) tt
  by_start (Some start) has =
      subst (λ o. GoesOnIn segment.layout.depth o (end_of run)) (sym has) (first_translates (Some run) segment start in_range has is sound.faultless)

-- each segment goes on in the space after those before it
abbrev pub AreStarted : Depth → Space → List Segment → Type 0
AreStarted depth space [] = ⊤
AreStarted depth space (segment ∷ more) = GoesOnIn depth segment.trace.start space × AreStarted depth (space_behind space segment) more

-- in the words of the one run
pub started_joined : (start : Space) (first : Segment) (more : List Segment) → IsRightFrom start first
    → AreRightFrom (space_behind start first) first.trace.layout more → AreStarted first.trace.layout.depth (space_behind start first) more
    → (front rest : List Segment) (next : Segment) → more ≡ front ++ next ∷ rest
    → GoesOnIn first.trace.layout.depth next.trace.start (space_behind start (joined first front))
started_joined start first more right behind started [] rest next is =
    let all = subst (AreStarted first.trace.layout.depth (space_behind start first)) is started in
    all.0
started_joined start first more right behind started (other ∷ front) rest next is =
    let (same_layout, other_right, rest_right) = subst (AreRightFrom (space_behind start first) first.trace.layout) is behind in
    let all = subst (AreStarted first.trace.layout.depth (space_behind start first)) is started in
    let space = sym (space_behind_both start first other same_layout right) in
    started_joined start (both first other) (front ++ next ∷ rest) (right_both start first other same_layout right other_right)
    (subst (λ (s : Space). AreRightFrom s first.trace.layout (front ++ next ∷ rest)) space rest_right)
    (subst (λ (s : Space). AreStarted first.trace.layout.depth s (front ++ next ∷ rest)) space all.1) front rest next refl
