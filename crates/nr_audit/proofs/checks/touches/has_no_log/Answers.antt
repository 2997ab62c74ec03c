use Rattle.std.proofs.Common.{length, sym, ap, ◌∙◌}
use Rattle.std.proofs.lemmas.Bool.{eqb-true}
use Rattle.std.proofs.lemmas.List.{nil_from_length}
use Rattle.nr_audit.proofs.checks.touches.has_no_log.Goals as goal

pub returns-clause-empty : goal.returns-clause-empty
returns-clause-empty c = λ t.
    sym c.log.ensures.reads ∙ nil_from_length c.log.result.now (eqb-true (length c.log.result.now) 0 (sym c.is_empty.ensures ∙ t))
