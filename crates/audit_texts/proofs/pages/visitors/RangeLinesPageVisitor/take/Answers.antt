use Rattle.std.proofs.Common.{◌++◌, ◌∷◌, [], Some, sym, subst, string_bytes, ◌∙◌}
use Rattle.std.proofs.lemmas.Bool.{false≢true}
use Rattle.audit_texts.specs.inside.Taking.{HasJoined}
use Rattle.audit_texts.proofs.Taking.{first_taken, more_taken, next_taken}
use Rattle.audit_texts.proofs.pages.visitors.RangeLinesPageVisitor.take.Goals as goal

pub returns-in_default : goal.returns-in_default
returns-in_default c pages had =
    let text = string_bytes c.args.self.now.text in
    subst (λ range. HasJoined text (Some range) (pages ++ c.args.page ∷ [])) (sym c.alone.ensures)
    (first_taken text pages c.args.page (subst (λ open_range. HasJoined text open_range pages) c.in_default.is had))

pub returns-then-goes_on_with : goal.returns-then-goes_on_with
returns-then-goes_on_with c pages had =
    let text = string_bytes c.args.self.now.text in
    subst (λ range. HasJoined text (Some range) (pages ++ c.args.page ∷ [])) (sym c.longer.ensures)
    (more_taken text c.in-Some.range pages c.args.page (c.goes_on_with.ensures.0 c.if-goes_on_with.true)
    (subst (λ open_range. HasJoined text open_range pages) c.in-Some.is had))

pub returns : goal.returns
returns c pages had =
    let text = string_bytes c.args.self.now.text in
    let new_text = string_bytes c.push_range_line.new.text in
    subst (λ range. HasJoined new_text (Some range) (pages ++ c.args.page ∷ [])) (sym c.alone-2.ensures)
    (next_taken text new_text c.in-Some.range pages c.args.page
    (λ same. false≢true (sym c.if-goes_on_with.false ∙ c.goes_on_with.ensures.1 same))
    c.in_ok-push_range_line.ensures
    (subst (λ open_range. HasJoined text open_range pages) c.in-Some.is had))
