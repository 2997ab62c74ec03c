-- A line has one form only: it is passed over, a request or a step.
use Rattle.std.proofs.Common.{◌≡◌, ℕ, ◌<◌, List, [], ◌∷◌, codes, decimal, get_or, inl, inr, length, sym, ap, ◌∙◌, arith}
use Rattle.std.specs.List.{onto_first}
use Rattle.vs_types.specs.declared.addresses.depth.Depth.{Depth}
use Rattle.vs_types.specs.declared.requests.request.Query.{Query}
use Rattle.vs_text.specs.Words.{words}
use Rattle.nr_core.specs.declared.runs.step.Step.{Step}
use Rattle.nr_script.specs.Lines.{IsPassedOver, Says}
use Rattle.nr_script.specs.declared.line.Line.TheVariants as says
use Rattle.nr_script.proofs.InLines.{not_number}
use Rattle.nr_script.proofs.Numbers.{digits_of_number}

-- no number begins with the mark of a comment
no_mark : (thread : ℕ) (rest : List ℕ) → thread < 64 → 35 ∷ rest ≡ decimal thread → ⊥
no_mark thread rest fits same = elim (digits_of_number thread (35 ∷ rest) fits same) [
  | inl one ↦ omega (arith, ap (λ (text : List ℕ). get_or text 0 0) one.1)
  | inr two ↦ omega (arith, ap (λ (text : List ℕ). get_or text 0 0) two.1)
]

-- a word begins with the letter that the line begins with
begins : (letter : ℕ) (parts : List (List ℕ)) (first : List ℕ) (others : List (List ℕ)) → onto_first letter parts ≡ first ∷ others
    → (rest : List ℕ) × (first ≡ letter ∷ rest)
begins letter [] first others same = ([], cc (same))
begins letter (part ∷ parts) first others same = (part, cc (same))

-- the words of a line that is passed over: one that is empty, or a first that begins with the mark
passed_over : (line first second : List ℕ) (others : List (List ℕ)) → IsPassedOver line → words line ≡ first ∷ second ∷ others
    → (rest : List ℕ) × (first ≡ 35 ∷ rest)
passed_over line first second others (inl empty) same =
    let none : [] ∷ [] ≡ first ∷ second ∷ others = ap words (sym empty) ∙ same in
    absurd (omega (arith, ap length none))
passed_over line first second others (inr comment) same =
    begins 35 (words comment.0) first (second ∷ others) (ap words (sym comment.1) ∙ same)

pub not_request : (depth : Depth) (line : List ℕ) (thread : ℕ) (query : Query) → IsPassedOver line → Says depth line (says.Request thread query) → ⊥
not_request depth line thread query over said =
    let all = said.words_are ∙ ap (λ (asks : List (List ℕ)). decimal thread ∷ asks) said.query_is.words_are in
    let first = passed_over line (decimal thread) _ said.query_is.arguments over all in
    no_mark thread first.0 said.thread_fits (sym first.1)

pub not_step : (depth : Depth) (line : List ℕ) (step : Step) → IsPassedOver line → Says depth line (says.Step step) → ⊥
not_step depth line step over said =
    let first = passed_over line (codes "step") _ said.acts over said.words_are in
    omega (arith, ap (λ (text : List ℕ). get_or text 0 0) first.1)

pub not_both : (depth : Depth) (line : List ℕ) (thread : ℕ) (query : Query) (step : Step) → Says depth line (says.Request thread query)
    → Says depth line (says.Step step) → ⊥
not_both depth line thread query step request said =
    let joined = sym said.words_are ∙ request.words_are in
    not_number thread request.thread_fits (cc joined)
