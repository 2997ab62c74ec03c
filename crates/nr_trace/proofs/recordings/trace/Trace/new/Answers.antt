use Rattle.std.proofs.Common.{◌≡◌, ◌≤◌, length, All, refl, subst, arith, inr}
use Rattle.std.specs.List.{Any}
use Rattle.vs_types.specs.declared.limits.TheConstants.{LOG_PLACES, CALLS}
use Rattle.nr_trace.specs.Versions.{KnowsDepth}
use Rattle.nr_trace.specs.Recording.{Recording, IsEvent}
use Rattle.nr_trace.specs.Parts.{HasStart, LacksFrames}
use Rattle.nr_trace.proofs.Images.{good_counts}
use Rattle.nr_trace.proofs.recordings.trace.Trace.new.Goals as goal

pub returns-then-not-all_have_frames : goal.returns-then-not-all_have_frames
returns-then-not-all_have_frames c =
    let parts : Recording = record {
      version = c.args.version;
      layout = c.args.layout;
      start = c.args.start;
      log = c.args.log.items;
      events = c.args.events.items;
      dumps =
          c.args.dumps.items;
    } in
    let within = c.is_in.ensures.0 c.if-not-is_in.false in
    let start : HasStart parts = c.is_start.ensures.0 c.if-not-is_start.false in
    let known = subst (λ depth. KnowsDepth c.args.version depth) c.depth.ensures (c.knows_depth.ensures.0 c.if-not-knows_depth.false) in
    let places : length parts.log ≤ LOG_PLACES = omega (arith, c.args.log.ok.0, c.len.ensures, c.if-len.false) in
    let events : length parts.events ≤ CALLS = omega (arith, c.args.events.ok.0, c.len-2.ensures, c.if-len-2.false) in
    let dumps : length parts.dumps ≡ parts.layout.replicas =
    omega (arith, c.args.dumps.ok.0, c.len-3.ensures, c.replicas.ensures.reads, c.if-len-replicas.false) in
    inr (
      good_counts parts within known start places events dumps,
      subst (All (IsEvent c.args.version c.args.layout)) c.deref.ensures.value c.in_default.ensures,
      subst (Any (LacksFrames c.args.version)) c.deref-2.ensures.value (c.if-not-all_have_frames.ensures.no refl),
    )
