use Rattle.std.proofs.Common.{◌≡◌, ◌%◌, ◌<◌, sym, subst, ◌∙◌}
use Rattle.vs_types.proofs.Pages.{bytes_positive}
use Rattle.nr_explain.proofs.Asking.{none_aligned, none_mapped, page_begins}
use Rattle.nr_explain.proofs.search.asking.page_from.Goals as goal

pub nonzero_rem-base : goal.nonzero_rem-base
nonzero_rem-base c = subst (λ n. 0 < n) (sym c.bytes.ensures) (bytes_positive c.in-Mapped.size)

pub returns-then-base-bytes-eq0-clause-page : goal.returns-then-base-bytes-eq0-clause-page
returns-then-base-bytes-eq0-clause-page c =
    page_begins c.pages_are_a_space.ensures c.args.base c.in-Mapped.phys c.in-Mapped.size c.in-Mapped.rights (sym c.resolve.ensures ∙ c.in-Mapped.is)
    (subst (λ n. c.args.base % n ≡ 0) c.bytes.ensures c.if-base-bytes-eq0.true)

pub returns-else-base-bytes-eq0-clause-page : goal.returns-else-base-bytes-eq0-clause-page
returns-else-base-bytes-eq0-clause-page c =
    none_aligned c.pages_are_a_space.ensures c.args.base c.in-Mapped.phys c.in-Mapped.size c.in-Mapped.rights (sym c.resolve.ensures ∙ c.in-Mapped.is)
    (λ aligned. c.if-base-bytes-eq0.false (subst (λ n. c.args.base % n ≡ 0) (sym c.bytes.ensures) aligned))

pub returns-in_default : goal.returns-in_default
returns-in_default c = record {
  page = none_mapped c.pages_are_a_space.ensures c.args.base
      (λ phys size rights looks. c.in_default.not-Mapped phys size rights (c.resolve.ensures ∙ looks));
  is_space = c.pages_are_a_space.ensures;
}
