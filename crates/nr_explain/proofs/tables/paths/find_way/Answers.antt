use Rattle.std.proofs.Common.{ℕ, Bool, List, subst}
use Rattle.vs_types.specs.Depth.{levels}
use Rattle.nr_explain.specs.inside.Ways.{GoesNowhere, IsSearched}
use Rattle.nr_explain.specs.declared.trace.evidence.TableEntry.{TableEntry}
use Rattle.nr_explain.proofs.tables.paths.find_way.Goals as goal

pub returns : goal.returns
returns c =
    let memory = c.args.dump.now.frames in
    let target = c.args.target.now in
    let begun = c.new-way.result.items in
    let searched = subst (λ (b : Bool). IsSearched memory target c.levels.result c.root.result begun c.go_on.new.way.items b) c.if-branch.false
    c.in_ok-go_on.ensures in
    subst (λ (w : List TableEntry). GoesNowhere memory target (levels c.args.depth) c.args.dump.now.root w) c.new-way.ensures.items
    (subst (λ (n : ℕ). GoesNowhere memory target (levels c.args.depth) n begun) c.root.ensures
    (subst (λ (l : ℕ). GoesNowhere memory target l c.root.result begun) c.levels.ensures searched.1))
