-- Bytes spell at most one chain.
use Rattle.std.proofs.Common.{◌≡◌, ℕ, List, [], ◌∷◌, ◌++◌, Option, Some, refl, ap, ap₂, sym, ◌∙◌, subst}
use Rattle.vs_types.specs.Config.{Layout}
use Rattle.nr_trace.specs.Recording.{Recording}
use Rattle.nr_trace.specs.FirstFault.{HasFaultAs}
use Rattle.nr_trace.specs.Spelling.{SpellsSegment}
use Rattle.nr_trace.specs.declared.refusals.fault.Format.TheVariants.{Truncated}
use Rattle.nr_trace.specs.declared.formats.version.Form.TheVariants as forms
use Rattle.nr_trace.proofs.LawsOfFormat.{no_fault}
use Rattle.nr_trace.proofs.LawsOfFronts.{one_segment}
use Rattle.nr_chain.specs.Bytes.{BeginsWith, SpellAll}
use Rattle.nr_chain.proofs.Ends.{none_is_short}

-- no segment is spelled by no bytes
pub not_empty : (before : Option Layout) (own : List ℕ) (segment : Recording) → SpellsSegment before own segment → own ≡ [] → ⊥
not_empty before own segment spells none =
    no_fault (forms.Segment before) own segment Truncated spells
    (subst (λ bytes. HasFaultAs (forms.Segment before) bytes Truncated) (sym none) (none_is_short (forms.Segment before)))

pub begins_some : (before : Option Layout) (bytes : List ℕ) (segment : Recording) (rest : List ℕ) → BeginsWith before bytes segment rest → bytes ≡ [] → ⊥
begins_some before bytes segment rest begins none =
    not_empty before begins.own segment begins.spelled (front_none begins.own rest (sym begins.is ∙ none)) where
      front_none : (own rest : List ℕ) → own ++ rest ≡ [] → own ≡ []
      front_none [] rest e = refl
      front_none (x ∷ own) rest e = absurd cc

same_behind : (front rest other : List ℕ) → front ++ rest ≡ front ++ other → rest ≡ other
same_behind [] rest other e = e
same_behind (x ∷ front) rest other e = same_behind front rest other cc

-- the front of bytes spells one segment
pub one_front : (before : Option Layout) (bytes : List ℕ) (first second : Recording) (rest last : List ℕ) → BeginsWith before bytes first rest
    → BeginsWith before bytes second last → (rest ≡ last) × (first ≡ second)
one_front before bytes first second rest last begins starts =
    let same = one_segment before begins.own starts.own rest last first second begins.spelled starts.spelled (sym begins.is ∙ starts.is) in
    (same_behind begins.own rest last (sym begins.is ∙ starts.is ∙ ap (λ own. own ++ last) (sym same.0)), same.1)

pub one_chain : (before : Option Layout) (bytes : List ℕ) (first second : List Recording) → SpellAll before bytes first → SpellAll before bytes second
    → first ≡ second
one_chain before bytes [] [] h k = refl
one_chain before bytes [] (segment ∷ more) h (rest, begins, k) = absurd (begins_some before bytes segment rest begins h)
one_chain before bytes (segment ∷ more) [] (rest, begins, h) k = absurd (begins_some before bytes segment rest begins k)
one_chain before bytes (segment ∷ more) (other ∷ others) (rest, begins, h) (last, starts, k) =
    let (behind, same) = one_front before bytes segment other rest last begins starts in
    let layout = ap (λ (r : Recording). Some r.layout) same in
    let those : SpellAll (Some segment.layout) rest others =
    subst (λ (l : Option Layout). SpellAll l rest others) (sym layout)
    (subst (λ (b : List ℕ). SpellAll (Some other.layout) b others) (sym behind) k) in
    ap₂ (λ (x : Recording) (xs : List Recording). x ∷ xs) same (one_chain (Some segment.layout) rest more others h those)
