use Rattle.std.proofs.Common.{ℕ, List, ◌++◌, sym, subst}
use Rattle.vs_walk.specs.InFormat.{table_visits_in}
use Rattle.vs_walk.specs.Reached.{AreJust}
use Rattle.vs_walk.specs.Traversal.{reached}
use Rattle.vs_walk.proofs.traversal.traverse_in.Goals as goal

pub returns-clause-reached : goal.returns-clause-reached
returns-clause-reached g c =
    let f = g.E.EntryFormat.format c.args.format in
    let memory = g.F.Frames.memory c.args.frames.now in
    let marked : AreJust c.go_through.new.marks
    (reached (table_visits_in f memory c.levels.result record { number = c.args.root; start = 0; rights = c.all.result })) =
    subst (λ (ks : List ℕ). AreJust c.go_through.new.marks
    (ks ++ reached (table_visits_in f memory c.levels.result record { number = c.args.root; start = 0; rights = c.all.result }))) c.new-marks.ensures
    c.in_ok-go_through.ensures.goes_on.marked in
    subst (λ ks. AreJust ks (reached (table_visits_in f memory f.levels record { number = c.args.root; start = 0; rights = f.all }))) (sym c.in_ok-list.ensures)
    (subst (λ rights. AreJust c.go_through.new.marks (reached (table_visits_in f memory f.levels record { number = c.args.root; start = 0; rights = rights })))
    c.all.ensures
    (subst (λ level. AreJust c.go_through.new.marks
    (reached (table_visits_in f memory level record { number = c.args.root; start = 0; rights = c.all.result }))) c.levels.ensures marked))
