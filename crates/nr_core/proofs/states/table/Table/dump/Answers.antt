use Rattle.std.proofs.Common.{Contains, get_or, sym, subst, ◌∙◌, arith}
use Rattle.std.proofs.lemmas.List.Elements.{Contains-get_or}
use Rattle.vs_walk.specs.Traversal.{traversal, reached}
use Rattle.vs_walk.proofs.Gathered.{reached_few}
use Rattle.vs_walk.proofs.SameFrames.{same_reached}
use Rattle.nr_core.proofs.Dumped.{IsGathered, has_frames, is_dump}
use Rattle.nr_core.proofs.states.table.Table.dump.Goals as goal

pub gather-requires-clause-few : goal.gather-requires-clause-few
gather-requires-clause-few c none =
    omega (arith, reached_few c.depth-depth.result c.args.self.now.pages.memory c.root-root.result none, c.frames_are_counted.ensures.few)

pub gather-requires-clause-in_range : goal.gather-requires-clause-in_range
gather-requires-clause-in_range c none k d within =
    let pages = c.args.self.now.pages in
    let all = c.root-root.ensures in
    let numbers = reached (traversal c.depth-depth.result pages.memory c.root-root.result) in
    let same = same_reached pages.memory pages.depth c.depth-depth.result pages.root c.root-root.result c.depth-depth.ensures all.reads in
    let number = get_or numbers k d in
    all.in_range number (all.in_use number (subst (λ l. Contains l number) same (Contains-get_or numbers k d within)))

pub returns-in-Ok : goal.returns-in-Ok
returns-in-Ok c =
    let pages = c.args.self.now.pages in
    let of = c.args.self.now.of in
    let all = c.root-root.ensures in
    let made = c.in-Ok.ensures in
    let counted = c.frames_are_counted.ensures in
    let gathered : IsGathered pages c.depth-depth.result c.root-root.result c.in-Ok.dump = record {
      depth_is = c.depth-depth.ensures;
      root_is = all.reads;
      in_use = all.in_use;
      each = all.each;
      dump_root = made.root;
      held = made.held;
      only = made.only;
    } in
    let frames = has_frames pages of.0 c.depth-depth.result c.root-root.result c.in-Ok.dump gathered counted.counts counted.few in
    record {
      is = λ replica applied space.
          is_dump pages of.0 replica c.depth-depth.result c.root-root.result c.in-Ok.dump of.1 space frames.0
          (made.applied ∙ sym applied) all.faultless gathered;
      frames = frames;
    }
