use Rattle.std.proofs.Common.{ℕ, ◌+◌, ◌<◌, ◌^◌, arith}
use Rattle.vs_types.specs.declared.addresses.page.Size.{Size}
use Rattle.vs_types.specs.declared.addresses.page.Size.TheVariants.{K4}
use Rattle.nr_touch.specs.inside.Changes.{number_at}
use Rattle.nr_touch.proofs.releases.block.whole.Goals as goal

low : (size : Size) (phys : ℕ) → phys < 2 ^ 64 → number_at phys size + 3 < 2 ^ 64
low K4 phys fits = omega (arith, fits)
low _ phys fits = omega (arith, fits)

pub overflow_add-result : goal.overflow_add-result
overflow_add-result c =
    let fits = low c.args.size c.args.phys (omega arith) in
    let same = c.number_at.ensures in
    omega (arith, fits, same)
