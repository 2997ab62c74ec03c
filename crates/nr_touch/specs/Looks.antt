-- How an address may still be found to look, as a list of answers.
use Rattle.std.specs.Prelude.{◌≡◌, ℕ, ◌↔◌, ◌++◌, ◌&&◌, ◌||◌, if◌then◌else◌, not, Bool, false, List, [], ◌∷◌, Option, Contains}
use Rattle.vs_types.specs.Page.{covers}
use Rattle.vs_types.specs.Step.{look_in_page}
use Rattle.vs_types.specs.declared.requests.answer.Answer.{Answer}
use Rattle.vs_types.specs.declared.addresses.page.Page.{Page}
use Rattle.nr_touch.specs.Tails.{ends_look, IsLeft}
use Rattle.nr_touch.specs.inside.Changes.{page_before}
use Rattle.nr_touch.specs.declared.touches.tail.Left.{Left}

-- an address with one of the looks that the changes leave it looks so
abbrev pub IsLookLeft : List Left → ℕ → Answer → Type 0
IsLookLeft changes address look = (page : Option Page) × IsLeft changes address page × (look ≡ look_in_page address page)

-- just these looks are left
abbrev pub AreLooksLeft : List Left → ℕ → List Answer → Type 0
AreLooksLeft changes address looks = (look : Answer) → Contains looks look ↔ IsLookLeft changes address look

-- some change that has the address ends that it is found to look so
abbrev pub is_ended : List Left → ℕ → Option Page → Bool
is_ended [] address page = false
is_ended (left ∷ later) address page = (covers left.change.page address && ends_look left page) || is_ended later address page

-- how an address may still be found to look, in the order of the changes: as before each that has it, where neither that one nor a later one that
-- has it ends this
abbrev pub looks_left : List Left → ℕ → List Answer
looks_left [] address = []
looks_left (left ∷ later) address =
    (if covers left.change.page address && not (is_ended (left ∷ later) address (page_before left.change))
    then look_in_page address (page_before left.change) ∷ [] else [])
    ++ looks_left later address
