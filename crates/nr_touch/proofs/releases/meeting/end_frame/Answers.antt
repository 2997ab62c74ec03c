use Rattle.std.proofs.Common.{ℕ, ◌*◌, ◌/◌, ◌<◌, arith}
use Rattle.vs_types.specs.Page.{bytes_of}
use Rattle.vs_types.specs.declared.addresses.page.Size.{Size}
use Rattle.vs_types.specs.declared.addresses.page.Size.TheVariants.{K4}
use Rattle.nr_touch.proofs.releases.meeting.end_frame.Goals as goal

-- the frames of a page
few_frames : (size : Size) (frame : ℕ) → frame * 4096 < bytes_of size → frame < bytes_of size / 4096
few_frames K4 frame l = omega (arith, l)
few_frames _ frame l = omega (arith, l)

all_frames : (size : Size) (frame : ℕ) → frame < bytes_of size / 4096 → frame * 4096 < bytes_of size
all_frames K4 frame l = omega (arith, l)
all_frames _ frame l = omega (arith, l)

pub returns-then-until-page-clause-behind : goal.returns-then-until-page-clause-behind
returns-then-until-page-clause-behind c = λ frame within has. omega (arith, has.1, c.if-until-page.true, c.bytes.ensures)

pub returns-then-until-page-clause-within : goal.returns-then-until-page-clause-within
returns-then-until-page-clause-within c = λ frame low. absurd (omega (arith, low))

pub returns-clause-behind : goal.returns-clause-behind
returns-clause-behind c = λ frame within has.
    let few = few_frames c.args.page.size frame within in
    omega (arith, few, has.1, c.min.ensures, c.bytes.ensures, c.bytes-frames.ensures, c.if-until-page.false)

pub returns-clause-within : goal.returns-clause-within
returns-clause-within c = λ frame low. all_frames c.args.page.size frame (omega (arith, low, c.min.ensures, c.bytes-frames.ensures))
