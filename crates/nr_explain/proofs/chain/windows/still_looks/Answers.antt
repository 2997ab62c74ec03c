use Rattle.std.proofs.Common.{◌≡◌, sym, subst, ◌∙◌}
use Rattle.std.proofs.lemmas.Bool.{false≢true, iff_false}
use Rattle.vs_types.specs.declared.requests.answer.Answer.TheVariants.{Mapped}
use Rattle.vs_types.specs.declared.addresses.page.Rights.{Rights}
use Rattle.nr_touch.specs.Touches.{Includes}
use Rattle.nr_explain.proofs.chain.windows.still_looks.Goals as goal

pub returns-in_default : goal.returns-in_default
returns-in_default c = (λ t. absurd (false≢true t), λ it. absurd (c.in_default.not-Mapped _ _ _ it.was))

pub returns-in_default-after : goal.returns-in_default-after
returns-in_default-after c = (λ t. absurd (false≢true t), λ it. absurd (c.in_default-after.not-Mapped _ _ _ it.is))

pub returns-then-phys-then_phys : goal.returns-then-phys-then_phys
returns-then-phys-then_phys c = (
  λ t. absurd (false≢true t),
  λ it.
      let one : Mapped c.in-Mapped.phys c.in-Mapped.size c.in-Mapped.old ≡ Mapped it.phys it.size it.old = sym c.in-Mapped.is ∙ it.was in
      let two : Mapped c.in-Mapped-after.then_phys c.in-Mapped-after.then_size c.in-Mapped-after.new ≡ Mapped it.phys it.size it.new =
      sym c.in-Mapped-after.is ∙ it.is in
      absurd (c.if-phys-then_phys.true (let same : c.in-Mapped.phys ≡ c.in-Mapped-after.then_phys = cc in same)),
)

pub returns-then-not-is_size : goal.returns-then-not-is_size
returns-then-not-is_size c = (
  λ t. absurd (false≢true t),
  λ it.
      let one : Mapped c.in-Mapped.phys c.in-Mapped.size c.in-Mapped.old ≡ Mapped it.phys it.size it.old = sym c.in-Mapped.is ∙ it.was in
      let two : Mapped c.in-Mapped-after.then_phys c.in-Mapped-after.then_size c.in-Mapped-after.new ≡ Mapped it.phys it.size it.new =
      sym c.in-Mapped-after.is ∙ it.is in
      absurd (iff_false c.is_size.ensures c.if-not-is_size.true (let same : c.in-Mapped.size ≡ c.in-Mapped-after.then_size = cc in same)),
)

pub returns : goal.returns
returns c =
    let phys : c.in-Mapped.phys ≡ c.in-Mapped-after.then_phys = c.if-phys-then_phys.false in
    let size : c.in-Mapped.size ≡ c.in-Mapped-after.then_size = c.is_size.ensures.0 c.if-not-is_size.false in (
      (λ t. record {
        phys = c.in-Mapped.phys;
        size = c.in-Mapped.size;
        old = c.in-Mapped.old;
        new = c.in-Mapped-after.new;
        was = c.in-Mapped.is;
        is = c.in-Mapped-after.is ∙ (let same : Mapped c.in-Mapped-after.then_phys c.in-Mapped-after.then_size c.in-Mapped-after.new
            ≡ Mapped c.in-Mapped.phys c.in-Mapped.size c.in-Mapped-after.new = cc in same);
        more = c.includes.ensures.0 t;
      }),
      (λ it.
          let one : Mapped c.in-Mapped.phys c.in-Mapped.size c.in-Mapped.old ≡ Mapped it.phys it.size it.old = sym c.in-Mapped.is ∙ it.was in
          let two : Mapped c.in-Mapped-after.then_phys c.in-Mapped-after.then_size c.in-Mapped-after.new ≡ Mapped it.phys it.size it.new =
          sym c.in-Mapped-after.is ∙ it.is in
          let old : it.old ≡ c.in-Mapped.old = (let same : c.in-Mapped.old ≡ it.old = cc in sym same) in
          let new : it.new ≡ c.in-Mapped-after.new = (let same : c.in-Mapped-after.new ≡ it.new = cc in sym same) in
          c.includes.ensures.1 (subst (λ (r : Rights). Includes r c.in-Mapped-after.new) old (subst (Includes it.old) new it.more))),
    )
