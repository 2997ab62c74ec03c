use Rattle.std.proofs.Common.{◌≡◌, ◌≢◌, ◌∷◌, ◌++◌, [], Some, sym, ap, ◌∙◌, subst}
use Rattle.nr_dump.specs.inside.Comparing.{HasCompared}
use Rattle.nr_dump.proofs.Taking.{keeps_known, meets_page, meets_other, meets_beyond}
use Rattle.nr_dump.proofs.comparison.ComparisonPageVisitor.take.Goals as goal

pub returns-then-is_some-clause-taken : goal.returns-then-is_some-clause-taken
returns-then-is_some-clause-taken c = λ told. keeps_known c.args.self.now.pages c.args.self.now.difference told c.args.page (sym c.if-is_some.ensures)

pub returns-in_default-clause-taken : goal.returns-in_default-clause-taken
returns-in_default-clause-taken c = λ told has.
    meets_beyond c.next.new.self c.args.self.now.difference told c.args.page (sym c.if-is_some.ensures)
    (subst (λ left. HasCompared left c.args.self.now.difference told) c.in_default.ensures.steps.0 has)

pub returns-then-not-are_equal-clause-taken : goal.returns-then-not-are_equal-clause-taken
returns-then-not-are_equal-clause-taken c =
    let differ : c.args.page ≢ c.in-Some.next = λ same. let equal = c.are_equal.ensures.1 same in let not = c.if-not-are_equal.true in cc in
    λ told has. subst (λ base. HasCompared c.next.new.self (Some base) (told ++ c.args.page ∷ [])) (sym c.min.ensures)
    (meets_other c.next.new.self c.next.new.self c.args.self.now.difference told c.args.page c.in-Some.next (sym c.if-is_some.ensures) differ
    (subst (λ left. HasCompared left c.args.self.now.difference told) c.in-Some.ensures.steps has))

pub returns-else-not-are_equal-clause-taken : goal.returns-else-not-are_equal-clause-taken
returns-else-not-are_equal-clause-taken c = λ told has.
    let same : c.in-Some.next ≡ c.args.page = sym (c.are_equal.ensures.0 c.if-not-are_equal.false) in
    let next = c.in-Some.ensures.steps ∙ ap (λ page. page ∷ c.next.new.self) same in
    meets_page c.next.new.self c.args.self.now.difference told c.args.page (sym c.if-is_some.ensures)
    (subst (λ left. HasCompared left c.args.self.now.difference told) next has)
