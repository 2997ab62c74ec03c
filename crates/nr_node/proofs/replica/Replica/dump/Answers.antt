use Rattle.std.proofs.Common.{◌≡◌, ◌++◌, ℕ, Contains, get_or, ap, sym, subst, ◌∙◌, arith}
use Rattle.std.specs.FinMap as finite
use Rattle.vs_types.specs.Space.{table_count}
use Rattle.vs_walk.specs.Memory.{Memory}
use Rattle.vs_walk.specs.Traversal.{traversal, reached}
use Rattle.vs_walk.specs.Walk.{TranslatesAs}
use Rattle.vs_walk.proofs.Gathered.{reached_few}
use Rattle.nr_ring.proofs.Views.{contains_item}
use Rattle.nr_node.specs.Spaces.{space_of}
use Rattle.nr_node.specs.inside.Replica.{ReplicaState, entries_told}
use Rattle.vs_walk.proofs.SameFrames.{same_frames, same_reached}
use Rattle.nr_node.proofs.replica.Replica.dump.Goals as goal

pub gather-requires-clause-few : goal.gather-requires-clause-few
gather-requires-clause-few g c none =
    let few = reached_few c.depth-depth.result c.self.inside.space.memory c.root-root.result none in
    omega (arith, few, c.counts_tables.ensures.at_most, c.self.invariant.tables)

pub gather-requires-clause-in_range : goal.gather-requires-clause-in_range
gather-requires-clause-in_range g c none k d within =
    let space = c.self.inside.space in
    let numbers = reached (traversal c.depth-depth.result space.memory c.root-root.result) in
    let same = same_reached space.memory space.depth c.depth-depth.result space.root c.root-root.result c.depth-depth.ensures c.root-root.ensures.reads in
    let number = get_or numbers k d in
    c.root-root.ensures.in_range number
    (c.root-root.ensures.in_use number (subst (λ l. Contains l number) same (contains_item numbers k d within)))

pub returns-in-Ok-clause-translates : goal.returns-in-Ok-clause-translates
returns-in-Ok-clause-translates g c =
    let space = c.self.inside.space in
    let dump = c.in-Ok.dump in
    let all = c.root-root.ensures in
    let gathered = c.in-Ok.ensures in
    let frames = same_frames space.memory dump.frames space.depth c.depth-depth.result space.root c.root-root.result c.depth-depth.ensures all.reads
    all.in_use all.each gathered.held gathered.only in
    let root : dump.root ≡ space.root = gathered.root ∙ all.reads in
    let of = space_of space.depth space.limit (c.self.inside.past.entries ++ entries_told c.self.inside.told.items) in
    let ByRoot : ℕ → Type 0 = λ r. TranslatesAs space.depth space.memory r of in
    let ByFrames : Memory → Type 0 = λ m. TranslatesAs space.depth m dump.root of in
    let ByState : ReplicaState → Type 0 = λ r. TranslatesAs r.depth dump.frames dump.root (space_of r.depth r.tables r.entries) in
    subst ByState c.self.view_is (subst ByFrames (sym frames) (subst ByRoot (sym root) c.self.invariant.table_of.translates))

pub returns-in-Ok-clause-few : goal.returns-in-Ok-clause-few
returns-in-Ok-clause-few g c =
    let space = c.self.inside.space in
    let dump = c.in-Ok.dump in
    let all = c.root-root.ensures in
    let gathered = c.in-Ok.ensures in
    let frames = same_frames space.memory dump.frames space.depth c.depth-depth.result space.root c.root-root.result c.depth-depth.ensures all.reads
    all.in_use all.each gathered.held gathered.only in
    omega (arith, ap (λ (m : Memory). finite.len m) frames, c.counts_tables.ensures.at_most, c.self.invariant.tables)

pub returns-in-Ok-clause-frames : goal.returns-in-Ok-clause-frames
returns-in-Ok-clause-frames g c =
    let space = c.self.inside.space in
    let dump = c.in-Ok.dump in
    let all = c.root-root.ensures in
    let gathered = c.in-Ok.ensures in
    let frames = same_frames space.memory dump.frames space.depth c.depth-depth.result space.root c.root-root.result c.depth-depth.ensures all.reads
    all.in_use all.each gathered.held gathered.only in
    let of = space_of space.depth space.limit (c.self.inside.past.entries ++ entries_told c.self.inside.told.items) in
    let ByState : ReplicaState → Type 0 = λ r. finite.len dump.frames ≡ table_count r.depth (space_of r.depth r.tables r.entries) in
    subst ByState c.self.view_is
    (ap (λ (m : Memory). finite.len m) frames ∙ c.counts_tables.ensures.counts of c.self.invariant.table_of)
