use Rattle.std.proofs.Common.{◌≡◌, All, List, refl, subst, arith, rules}
use Rattle.std.specs.Prelude.{Any}
use Rattle.vs_types.specs.declared.addresses.depth.Depth.{Depth}
use Rattle.nr_trace.specs.Parts.{HasFrames, LacksFrames}
use Rattle.nr_trace.specs.Recording.{IsImage}
use Rattle.nr_trace.specs.Versions.{FitsFirst}
use Rattle.nr_trace.specs.declared.recordings.event.Event.{Event}
use Rattle.nr_trace.specs.declared.formats.version.Version.TheVariants.{V1}
use Rattle.nr_trace.proofs.Runs.{as_first, known_in_least, of_config}
use Rattle.nr_trace.proofs.recordings.trace.Trace.of_run.Goals as goal

pub unreachable-requires : goal.unreachable-requires
unreachable-requires c =
    let version = c.least-version.result in
    let lacks = subst (Any (LacksFrames version)) c.deref-2.ensures.value (c.if-not-all_have_frames.ensures.no refl) in
    lacks.4 (subst (HasFrames version) lacks.3
    (as_first version _ c.least-version.ensures.of_trace (c.requires.dumps.1 lacks.0 lacks.1 lacks.2)))

pub of-requires : goal.of-requires
of-requires c =
    let config = c.args.config in
    let version = c.least-version.result in
    let least = c.least-version.ensures in
    let fits : version ≡ V1 → FitsFirst config.depth c.args.events.items = λ first.
    subst (λ (depth : Depth). FitsFirst depth c.args.events.items) c.depth.ensures
    (subst (λ (es : List Event). FitsFirst c.depth.result es) c.deref.ensures.value (least.first.0 first)) in
    let known = known_in_least version config c.args.events.items least.of_trace c.requires.events.1 fits in
    rw c.of-layout.ensures.is (record {
      layout = of_config version config least.of_trace c.of-layout.ensures.in_range;
      depth = known.0;
      start = tt;
      few_start = omega arith;
      few_places = c.requires.log;
      log = search rules;
      few_events = c.requires.events.0;
      events = known.1;
      one_dump_each = c.requires.dumps.0;
      dumps = subst (All (IsImage version)) c.deref-2.ensures.value (c.all_have_frames.ensures.yes c.if-not-all_have_frames.false);
    })

pub returns-clause-run : goal.returns-clause-run
returns-clause-run c = rw (c.of.ensures.is, c.of-layout.ensures.is) refl
