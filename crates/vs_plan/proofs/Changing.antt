-- What a change of a page does to a space, by the page that covers its address.
use Rattle.std.proofs.Common.{◌≡◌, ◌≢◌, ℕ, Option, Some, None, refl, ap, ◌∙◌, sym, subst, ⊎_elim}
use Rattle.std.specs.Prelude.{Bool, if◌then◌else◌, true, false, ◌==◌}
use Rattle.std.proofs.lemmas.Bool.{eq-eqb, ne_eqb, cases_eq}
use Rattle.vs_types.specs.Space.{Space, page_at}
use Rattle.vs_types.specs.Step.{Stepped}
use Rattle.vs_types.specs.declared.addresses.page.Page.{Page}
use Rattle.vs_types.specs.declared.requests.answer.Answer.TheVariants as answers
use Rattle.vs_plan.specs.declared.plans.plan.Reply.{Reply}
use Rattle.vs_plan.specs.Changes.{change_page, why_not}

module _ (space : Space) (base : ℕ) (after : Page → Space) where
  by_test : (b : Bool) (q : Page) → Stepped
  by_test b q = if b then record { space = after q; answer = answers.Changed q.rights } else record { space = space; answer = answers.Inside q.base }

  -- no page covers the base
  pub change_none : {o : Option Page} → o ≡ None → change_page space base after o ≡ record { space = space; answer = answers.NotMapped }
  change_none e = ap (change_page space base after) e

  -- a page that begins elsewhere does
  pub change_inside : {o : Option Page} (q : Page) → o ≡ Some q → q.base ≢ base
      → change_page space base after o ≡ record { space = space; answer = answers.Inside q.base }
  unfolding by_test
  change_inside q e other = ap (change_page space base after) e ∙ ap (λ b. by_test b q) (ne_eqb q.base base other)

  -- a page begins there
  pub change_here : {o : Option Page} (q : Page) → o ≡ Some q → q.base ≡ base
      → change_page space base after o ≡ record { space = after q; answer = answers.Changed q.rights }
  unfolding by_test
  change_here q e same = ap (change_page space base after) e ∙ ap (λ b. by_test b q) (eq-eqb q.base base same)

  -- it isn't answered that it is done
  pub change_not_done : (o : Option Page) → (change_page space base after o).answer ≢ answers.Done
  unfolding by_test
  change_not_done None e = cc
  change_not_done (Some q) e = elim (q.base == base) as (λ b. (by_test b q).answer ≡ answers.Done → ⊥) [ true ↦ λ d. cc | false ↦ λ d. cc ] e

  -- the space is as it was, or changed by the page that begins there
  pub change_cases : (P : Space → Type 0) → P space → ((q : Page) → page_at space base ≡ Some q → q.base ≡ base → P (after q))
      → P (change_page space base after (page_at space base)).space
  change_cases P stays changed =
      elim (page_at space base) as (λ o. page_at space base ≡ o → P (change_page space base after (page_at space base)).space) [
        | None ↦ λ e. subst (λ (s : Stepped). P s.space) (sym (change_none e)) stays
        | Some q ↦ λ e. ⊎_elim
            (λ (same : q.base ≡ base). subst (λ (s : Stepped). P s.space) (sym (change_here q e same)) (changed q e same))
            (λ (other : q.base ≢ base). subst (λ (s : Stepped). P s.space) (sym (change_inside q e other)) stays)
            (cases_eq q.base base)
      ] refl

module _ (base : ℕ) (reason : Page → Option Reply) where
  by_reason : (b : Bool) (q : Page) → Option Reply
  by_reason b q = if b then reason q else None

  -- a page that doesn't begin at the base is refused nothing
  pub why_none : (o : Option Page) → ((q : Page) → o ≡ Some q → q.base ≢ base) → why_not base reason o ≡ None
  unfolding by_reason
  why_none None begins = refl
  why_none (Some q) begins = ap (λ b. by_reason b q) (ne_eqb q.base base (begins q refl))

  pub why_here : {o : Option Page} (q : Page) → o ≡ Some q → q.base ≡ base → why_not base reason o ≡ reason q
  unfolding by_reason
  why_here q e same = ap (why_not base reason) e ∙ ap (λ b. by_reason b q) (eq-eqb q.base base same)
