-- The words of a line, and the line.
use Rattle.std.proofs.Common.{◌≡◌, ℕ, ◌-◌, ◌<◌, ◌≤◌, List, [], ◌∷◌, codes, decimal, length, take, drop, get_or, refl, sym, ap, subst, ◌∙◌, arith}
use Rattle.std.proofs.Common.{Option, Some, None, inl, inr}
use Rattle.std.specs.Borrow.{Bor}
use Rattle.std.proofs.lemmas.List.{length-take, take_all, take_rest}
use Rattle.vs_types.specs.Finds.{Finds}
use Rattle.vs_types.specs.declared.addresses.depth.Depth.{Depth}
use Rattle.vs_types.specs.declared.requests.request.Query.{Query}
use Rattle.nr_core.specs.declared.runs.step.Act.{Act}
use Rattle.nr_core.specs.declared.runs.step.Act.TheVariants.{Call}
use Rattle.nr_core.specs.declared.runs.step.Step.{Step}
use Rattle.nr_script.specs.Lines.{act_words, Says, SpellsRequest, SpellsStep}
use Rattle.vs_text.specs.Words.{texts, words}
use Rattle.vs_text.proofs.OneRequest.{few_words_of_request}
use Rattle.nr_script.specs.declared.line.Line.{Line}
use Rattle.nr_script.specs.declared.line.Line.TheVariants as says
use Rattle.nr_script.specs.inside.InWords.{SaysInWords}
use Rattle.nr_script.proofs.Numbers.{digits_of_number, length_of_number}

-- "step" is no number
pub not_number : (thread : ℕ) → thread < 64 → codes "step" ≡ decimal thread → ⊥
not_number thread fits same =
    let few = length_of_number thread (codes "step") (digits_of_number thread (codes "step") fits same) in
    omega arith

-- the first word and the others
texts_of_all : (them : List (Bor (List ℕ))) (d : Bor (List ℕ)) → 1 ≤ length them → texts them ≡ (get_or them 0 d).now ∷ texts (drop 1 them)
texts_of_all [] d some = absurd (omega arith)
texts_of_all (word ∷ them) d some = refl

pub split_off : (them : List (Bor (List ℕ))) (d : Bor (List ℕ)) → 1 ≤ length them
    → texts them ≡ (get_or them 0 d).now ∷ texts (take (length them - 1) (drop 1 them))
split_off them d some =
    texts_of_all them d some ∙ ap (λ (rest : List (Bor (List ℕ))). (get_or them 0 d).now ∷ texts rest) (sym (take_rest them 1))

-- the words after the first
pub rest_of : (them : List (Bor (List ℕ))) (first : List ℕ) (others : List (List ℕ)) → texts them ≡ first ∷ others
    → texts (take (length them - 1) (drop 1 them)) ≡ others
rest_of [] first others same = absurd (omega (arith, ap length same))
rest_of (word ∷ them) first others same =
    ap (λ (rest : List (Bor (List ℕ))). texts rest) (take_rest (word ∷ them) 1) ∙ ap (λ (parts : List (List ℕ)). drop 1 parts) same

-- after "step" there is no request
pub no_step : (depth : Depth) (them rest : List (List ℕ)) → them ≡ codes "step" ∷ rest → ((step : Step) → SpellsStep (codes "step" ∷ rest) step → ⊥)
    → (it : Line) → SaysInWords depth them it → ⊥
no_step depth them rest same none says.PassedOver said = said
no_step depth them rest same none (says.Request thread query) said =
    let joined = sym same ∙ said.words_are in
    not_number thread said.thread_fits (cc joined)
no_step depth them rest same none (says.Step step) said = none step (subst (λ (ws : List (List ℕ)). SpellsStep ws step) same said)

-- after another word there is no step
pub no_request : (depth : Depth) (first : List ℕ) (them rest : List (List ℕ)) → them ≡ first ∷ rest → (first ≡ codes "step" → ⊥)
    → ((it : ℕ × Query) → SpellsRequest depth them it.0 it.1 → ⊥) → (it : Line) → SaysInWords depth them it → ⊥
no_request depth first them rest same other none says.PassedOver said = said
no_request depth first them rest same other none (says.Request thread query) said = none (thread, query) said
no_request depth first them rest same other none (says.Step step) said =
    let joined = sym same ∙ said.words_are in
    other (cc joined)

-- no line that says something has more than six words
few_acts : (act : Act) → length (act_words act) < 3
few_acts Call = omega arith
few_acts _ = omega arith

few_words : (depth : Depth) (them : List (List ℕ)) (it : Line) → SaysInWords depth them it → length them < 7
few_words depth them says.PassedOver said = absurd said
few_words depth them (says.Request thread query) said =
    let few = few_words_of_request depth said.asks query said.query_is in
    omega (arith, ap length said.words_are)
few_words depth them (says.Step step) said =
    let few = few_acts step.act in
    omega (arith, ap length said.words_are, ap length said.act_is.words_are)

cut_short : (them : List (List ℕ)) → length (take 7 them) < 7 → take 7 them ≡ them
cut_short them few = take_all 7 them (omega (arith, length-take 7 them))

abbrev InWords : Depth → List ℕ → Line → Type 0
InWords depth line it = SaysInWords depth (words line) it

-- a line that is neither empty nor a comment says what its words say
by_words : (depth : Depth) (line : List ℕ) (it : Line) → 0 < length line → (get_or line 0 0 ≡ 35 → ⊥) → Says depth line it → InWords depth line it
by_words depth line says.PassedOver some other (inl empty) = absurd (omega (arith, ap length empty))
by_words depth line says.PassedOver some other (inr comment) = absurd (other (ap (λ (text : List ℕ). get_or text 0 0) comment.1))
by_words depth line _ some other said = said

from_words : (depth : Depth) (line : List ℕ) (it : Line) → InWords depth line it → Says depth line it
from_words depth line says.PassedOver said = absurd said
from_words depth line _ said = said

-- what the first seven words say
pub found_in_words : (depth : Depth) (line : List ℕ) (kept : List (List ℕ)) → kept ≡ take 7 (words line) → 0 < length line → (get_or line 0 0 ≡ 35 → ⊥)
    → (found : Option Line) → Finds (SaysInWords depth kept) found → Finds (Says depth line) found
found_in_words depth line kept is some other None none = λ it said.
    let in_words = by_words depth line it some other said in
    let whole : kept ≡ words line = is ∙ take_all 7 (words line) (omega (arith, few_words depth (words line) it in_words)) in
    none it (subst (λ (ws : List (List ℕ)). SaysInWords depth ws it) (sym whole) in_words)
found_in_words depth line kept is some other (Some it) said =
    let few = few_words depth kept it said in
    let whole : kept ≡ words line = is ∙ cut_short (words line) (subst (λ (ws : List (List ℕ)). length ws < 7) is few) in
    from_words depth line it (subst (λ (ws : List (List ℕ)). SaysInWords depth ws it) whole said)
