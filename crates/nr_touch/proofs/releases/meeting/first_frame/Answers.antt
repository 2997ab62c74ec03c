use Rattle.std.proofs.Common.{arith}
use Rattle.nr_touch.proofs.Blocks.{of_frames}
use Rattle.nr_touch.proofs.releases.meeting.first_frame.Goals as goal

pub returns-clause-least : goal.returns-clause-least
returns-clause-least c = λ frame has. omega (arith, has.0)

pub returns-clause-has : goal.returns-clause-has
returns-clause-has c =
    let page = of_frames c.args.page.size c.args.page.phys c.requires.page.frame in
    let memory = of_frames c.args.release.now.size c.args.release.now.phys c.requires.memory.0 in
    omega (arith, page, memory, c.if-release-page.false)
