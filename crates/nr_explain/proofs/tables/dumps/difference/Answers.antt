use Rattle.std.proofs.Common.{◌≡◌, ℕ, ap, sym, ◌∙◌, arith}
use Rattle.vs_types.specs.Config.{Layout}
use Rattle.vs_types.specs.Depth.{levels}
use Rattle.vs_types.specs.declared.addresses.depth.Depth.{Depth}
use Rattle.vs_walk.specs.Walk.{as_walk, walk}
use Rattle.nr_explain.specs.Facts.{entries_read, looks_from}
use Rattle.nr_explain.proofs.Dumped.{read_as}
use Rattle.nr_explain.proofs.tables.dumps.difference.Goals as goal

pub last_look-requires-clause-within : goal.last_look-requires-clause-within
last_look-requires-clause-within c =
    let trace = c.args.trace.now in
    let dump = c.index-dumps-replica.result in
    let (there, is_there, few) = read_as trace c.dumps.result.now c.args.replica _ dump c.requires.few c.dumps.ensures.reads c.index-dumps-replica.is in
    omega (arith, c.applied-applied.ensures)

pub returns-clause-is : goal.returns-clause-is
returns-clause-is c =
    let trace = c.args.trace.now in
    let start = c.args.start.space in
    let dump = c.index-dumps-replica.result in
    let (there, is_there, differs) = read_as trace c.dumps.result.now c.args.replica _ dump c.requires.differs c.dumps.ensures.reads
    c.index-dumps-replica.is in
    let address = c.args.address in
    let depth = trace.layout.depth in
    let given = c.depth-depth.ensures ∙ ap (λ (l : Layout). l.depth) c.layout.ensures.reads in
    let found : c.translate-found.result ≡ walk depth dump.frames dump.root address = c.translate-found.ensures
    ∙ ap (λ (d : Depth). walk d dump.frames c.root.result address) given ∙ ap (λ (r : ℕ). walk depth dump.frames r address) c.root.ensures in
    let applied = c.applied-applied.ensures in
    let wanted : c.in_ok-wanted.wanted ≡ looks_from start trace address c.applied-applied.result = c.in_ok-wanted.ensures.looks in
    let looks = ap (looks_from start trace address) applied in (
      dump,
      there,
      is_there,
      record {
        applied = applied;
        canonical = differs.0.0;
        found = found;
        path = c.in_ok-path.ensures ∙ ap (λ (d : Depth). entries_read dump.frames (levels d) dump.root address) given;
        wanted = wanted;
        differs = λ same. differs.0.1 (sym found ∙ same ∙ ap as_walk (wanted ∙ looks));
        changed = c.in_ok-wanted.ensures.changed;
      },
    )
