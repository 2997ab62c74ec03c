-- Some segments, each right from the space after those before it, are one right run.
use Rattle.std.proofs.Common.{◌≡◌, List, [], ◌∷◌, ◌++◌, refl, ap, sym, ◌∙◌, subst}
use Rattle.vs_types.specs.Config.{Layout}
use Rattle.vs_types.specs.Space.{Space}
use Rattle.nr_chain.specs.Joined.{Segment, both, joined}
use Rattle.nr_chain.specs.Run.{IsRightFrom, IsRightRun, space_behind, space_behind_all, AreRightFrom, AreFaultlessFrom}
use Rattle.nr_chain.proofs.Both.{right_both, space_behind_both}

pub right_joined : (start : Space) (first : Segment) (more : List Segment) → IsRightFrom start first
    → AreRightFrom (space_behind start first) first.trace.layout more → IsRightFrom start (joined first more)
right_joined start first [] right rest = right
right_joined start first (next ∷ more) right (same_layout, next_right, rest) =
    right_joined start (both first next) more (right_both start first next same_layout right next_right)
    (subst (λ (space : Space). AreRightFrom space first.trace.layout more) (sym (space_behind_both start first next same_layout right)) rest)

right_front : (start : Space) (layout : Layout) (front rest : List Segment) → AreRightFrom start layout (front ++ rest) → AreRightFrom start layout front
right_front start layout [] rest right = tt
right_front start layout (segment ∷ front) rest (same_layout, right, more) =
    (same_layout, right, right_front (space_behind start segment) layout front rest more)

pub right_run : (start : Space) (first : Segment) (more : List Segment) → AreRightFrom start first.trace.layout (first ∷ more) → IsRightRun start first more
right_run start first more (same_layout, right, rest) =
    let whole = right_joined start first more right rest in
    record {
      events = whole.events;
      members = whole.members;
      precedence = whole.precedence;
      answers = whole.answers;
      log = whole.log;
      dumps = λ front others is.
          (right_joined start first front right (right_front (space_behind start first) first.trace.layout front others
          (subst (λ (segments : List Segment). AreRightFrom (space_behind start first) first.trace.layout segments) is rest))).dumps;
    }

-- parts of a chain, of which the second begins with the space after the first
pub right_parts : (start : Space) (layout : Layout) (front rest : List Segment) → AreRightFrom start layout front
    → AreRightFrom (space_behind_all start front) layout rest → AreRightFrom start layout (front ++ rest)
right_parts start layout [] rest right behind = behind
right_parts start layout (segment ∷ front) rest (same_layout, right, more) behind =
    (same_layout, right, right_parts (space_behind start segment) layout front rest more behind)

pub faultless_parts : (start : Space) (layout : Layout) (front rest : List Segment) → AreFaultlessFrom start layout front
    → AreFaultlessFrom (space_behind_all start front) layout rest → AreFaultlessFrom start layout (front ++ rest)
faultless_parts start layout [] rest right behind = behind
faultless_parts start layout (segment ∷ front) rest (same_layout, faultless, recorded, more) behind =
    (same_layout, faultless, recorded, faultless_parts (space_behind start segment) layout front rest more behind)

-- the space after a joined run is that after its segments
pub space_behind_joined : (start : Space) (first : Segment) (more : List Segment) → IsRightFrom start first
    → AreRightFrom (space_behind start first) first.trace.layout more
    → space_behind start (joined first more) ≡ space_behind_all (space_behind start first) more
space_behind_joined start first [] right rest = refl
space_behind_joined start first (next ∷ more) right (same_layout, next_right, rest) =
    space_behind_joined start (both first next) more (right_both start first next same_layout right next_right)
    (subst (λ (space : Space). AreRightFrom space first.trace.layout more) (sym (space_behind_both start first next same_layout right)) rest)
    ∙ ap (λ (space : Space). space_behind_all space more) (space_behind_both start first next same_layout right)
