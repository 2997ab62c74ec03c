use Rattle.std.proofs.Common.{◌≡◌, Some, refl, sym, ap, ◌∙◌, subst}
use Rattle.std.specs.FinMap as finite
use Rattle.vs_types.specs.Space.{Holds, page_at}
use Rattle.vs_types.specs.declared.requests.op.Action.TheVariants.{Protect}
use Rattle.vs_types.specs.declared.requests.answer.Answer.TheVariants.{Changed}
use Rattle.vs_types.proofs.Steps.{protect_space}
use Rattle.vs_types.proofs.Tables.{rights_tables}
use Rattle.vs_plain.specs.Plain.{BoundedSpace}
use Rattle.vs_plain.specs.inside.Place.{no_page}
use Rattle.vs_plain.proofs.Neighbours.{protect_of_none, protect_of_page, plain_step}
use Rattle.vs_plain.proofs.plain.PlainSpace.protect.Goals as goal

pub invariant_of-self-in-Some : goal.invariant_of-self-in-Some
invariant_of-self-in-Some c =
    let p = c.in-Some.page in
    let begins : p.base ≡ c.args.base = c.self.invariant.is_space.under_base c.args.base p (sym c.in-Some.ensures.was) in
    let held : Holds c.self.inside.page_map p = subst (λ b. finite.get c.self.inside.page_map b ≡ Some p) (sym begins) (sym c.in-Some.ensures.was) in
    let left : c.protect.new.self ≡ finite.insert c.self.inside.page_map p.base (record p { rights = c.args.rights }) =
    c.in-Some.ensures.changed ∙ ap (λ b. finite.insert c.self.inside.page_map b (record p { rights = c.args.rights })) (sym begins) in
    rw left record {
      is_space = protect_space c.self.invariant.is_space p c.args.rights held;
      counted = c.self.invariant.counted ∙ sym (rights_tables c.self.invariant.is_space p c.args.rights held);
    }

pub returns-in-None-clause-step : goal.returns-in-None-clause-step
returns-in-None-clause-step c =
    let old : BoundedSpace = record { depth = c.self.inside.depth; limit = c.self.inside.limit; space = c.self.inside.page_map } in
    rw (← c.self.view_is) (plain_step old (Protect c.args.base c.args.rights) c.no_page.result c.protect.new.self _
    (protect_of_none c.self.invariant.is_space c.self.inside.limit c.args.base c.args.rights (sym c.in-None.ensures.was))
    (c.no_page.ensures ∙ ap (λ s. no_page (page_at s c.args.base)) c.in-None.ensures.unchanged)
    c.in-None.ensures.unchanged)

pub returns-in-Some-clause-step : goal.returns-in-Some-clause-step
returns-in-Some-clause-step c =
    let old : BoundedSpace = record { depth = c.self.inside.depth; limit = c.self.inside.limit; space = c.self.inside.page_map } in
    rw (← c.self.view_is) (plain_step old (Protect c.args.base c.args.rights) (Changed c.in-Some.page.rights) c.protect.new.self _
    (protect_of_page c.self.invariant.is_space c.self.inside.limit c.args.base c.args.rights c.in-Some.page c.in-Some.ensures.was)
    refl
    c.in-Some.ensures.changed)

pub returns-in-None-clause-apart : goal.returns-in-None-clause-apart
returns-in-None-clause-apart c = rw (← c.self.view_is) c.self.invariant.is_space

pub returns-in-Some-clause-apart : goal.returns-in-Some-clause-apart
returns-in-Some-clause-apart c = rw (← c.self.view_is) c.self.invariant.is_space
