use Rattle.std.proofs.Common.{◌-◌, ◌^◌, ◌≤◌, arith}
use lib.Pow.{pow_mono}
use Rattle.vs_plan.proofs.plans.target.Target.frames_end.Goals as goal

pub returns-clause-most : goal.returns-clause-most
returns-clause-most c =
    let le : c.args.self.phys_bits - 12 ≤ 40 = omega (arith, c.requires.to) in
    let most : 2 ^ (c.args.self.phys_bits - 12) ≤ 2 ^ 40 = pow_mono {j = 40} le in
    omega (arith, most)
