use Rattle.std.proofs.Common.{◌-◌, ◌<◌, arith, subst}
use Rattle.nr_explain.proofs.Memories.{address_fits, address_leads}
use Rattle.nr_explain.proofs.search.memory.address_in.Goals as goal

pub overflow_add-result : goal.overflow_add-result
overflow_add-result c =
    let fits = address_fits c.args.page c.args.phys c.if-phys-page.false
    (subst (λ n. c.args.phys - c.args.page.phys < n) c.bytes.ensures c.if-offset-bytes.false) c.requires in
    omega (arith, fits)

pub returns-clause-some : goal.returns-clause-some
returns-clause-some c =
    address_leads c.args.page c.args.phys c.if-phys-page.false (subst (λ n. c.args.phys - c.args.page.phys < n) c.bytes.ensures c.if-offset-bytes.false)
