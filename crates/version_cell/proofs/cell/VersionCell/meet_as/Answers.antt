use Rattle.std.proofs.Common.{rules, ◌≡◌, ℕ, ◌∙◌, ap, sym, subst, arith, if◌then◌else◌, nat_le}
use Rattle.crossbeam_utils.specs.Register.{Forks, Merges}
use Rattle.atomic_table.specs.Table.{Me}
use Rattle.version_cell.specs.Meetings.{Recalls}
use Rattle.version_cell.specs.declared.doing.Doing.{Doing}
use Rattle.version_cell.specs.Passes.{CellPass}
use Rattle.version_cell.proofs.Further.{come_further}
use Rattle.version_cell.proofs.Keeps.{joins, recalls, splits}
use Rattle.version_cell.proofs.cell.VersionCell.meet_as.Goals as goal

pub split_seat-part-requires : goal.split_seat-part-requires
split_seat-part-requires g c =
    let Cut : CellPass g.row.V.Denot g.row.X.Denot → Type 0 = λ k. Forks g.P.CellRule.holds k.number k.view (g.S.Split.left k.view) (g.S.Split.right k.view) in
    (search rules, search rules, splits _ _ _ _ _ _ _ _ 0 _ _ _ (omega arith) (subst Cut (sym c.pass.view_is) c.requires.cut))

pub join_seat-requires : goal.join_seat-requires
join_seat-requires g c =
    let V = g.row.V.Denot in
    let K = CellPass V g.row.X.Denot in
    let part = c.split_seat-part.result in
    let number : c.told.inside.seat.id ≡ c.args.told.now.number = ap (λ (k : K). k.number) c.told.view_is in
    let own : c.told.inside.seat.me.0.client ≡ c.args.told.now.view = ap (λ (k : K). k.view) c.told.view_is in
    let view : c.pass.inside.seat.me.0.client ≡ c.args.pass.now.view = ap (λ (k : K). k.view) c.pass.view_is in
    let given : part.me.0.client ≡ g.S.Split.right c.args.pass.now.view =
    ap (λ (m : Me (Unit {0}) (Doing V g.row.X.Denot)). m.0.client) c.split_seat-part.ensures.4 ∙ ap g.S.Split.right view in
    let Joined : ℕ × V × V → Type 0 = λ z. Merges g.P.CellRule.holds z.0 z.1 part.id z.2 (g.S.Join.both z.1 z.2) g.S.Join.spent in (
      search rules,
      search rules,
      search rules,
      search rules,
      joins _ _ _ _ _ _ _ _ _ _ _ _ _ (subst Joined (λ i. (sym number i, sym own i, sym given i)) (c.requires.joined part.id)),
    )

pub load-requires : goal.load-requires
load-requires g c =
    let V = g.row.V.Denot in
    let X = g.row.X.Denot in
    let K = CellPass V X in
    let code = g.P.CellRule.code in
    let part = c.split_seat-part.result in
    let seat = c.join_seat.new.seat in
    let number : seat.id ≡ c.args.told.now.number = c.join_seat.ensures.1 ∙ ap (λ (k : K). k.number) c.told.view_is in
    let own : c.told.inside.seat.me.0.client ≡ c.args.told.now.view = ap (λ (k : K). k.view) c.told.view_is in
    let view : c.pass.inside.seat.me.0.client ≡ c.args.pass.now.view = ap (λ (k : K). k.view) c.pass.view_is in
    let given : part.me.0.client ≡ g.S.Split.right c.args.pass.now.view =
    ap (λ (m : Me (Unit {0}) (Doing V X)). m.0.client) c.split_seat-part.ensures.4 ∙ ap g.S.Split.right view in
    let client : seat.me.0.client ≡ g.S.Join.both c.args.told.now.view (g.S.Split.right c.args.pass.now.view) =
    ap (λ (m : Me (Unit {0}) (Doing V X)). m.0.client) c.join_seat.ensures.2 ∙ (λ i. g.S.Join.both (own i) (given i)) in
    let first : c.told.inside.seat.me.0.value ≡ c.args.told.now.value = ap (λ (k : K). k.value) c.told.view_is in
    let second : part.me.0.value ≡ c.args.pass.now.value =
    ap (λ (m : Me (Unit {0}) (Doing V X)). m.0.value) c.split_seat-part.ensures.4 ∙ ap (λ (k : K). k.value) c.pass.view_is in
    let later : X → X → X = λ x y. if nat_le (code y) (code x) then x else y in
    let value : seat.me.0.value ≡ later c.args.told.now.value c.args.pass.now.value =
    ap (λ (m : Me (Unit {0}) (Doing V X)). m.0.value) c.join_seat.ensures.2 ∙ (λ i. later (first i) (second i)) in
    let asked = c.requires.recall (later c.args.told.now.value c.args.pass.now.value) (come_further code c.args.told.now.value c.args.pass.now.value) in
    let Asks : ℕ × V × X → Type 0 = λ z. Recalls g.P.CellRule.holds z.0 z.1 z.2 g.M.CellOutcome.then in
    (search rules, search rules, recalls _ _ _ _ _ _ _ g.M.CellOutcome.then _ _ seat.me (subst Asks (λ i. (sym number i, sym client i, sym value i)) asked))
