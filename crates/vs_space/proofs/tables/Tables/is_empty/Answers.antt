use Rattle.std.proofs.Common.{Some, sym, ap, ◌∙◌}
use Rattle.std.proofs.lemmas.Bool.{eqb-true, eqb-false}
use Rattle.std.specs.FinMap as finite
use Rattle.vs_space.specs.Held.{Held}
use Rattle.vs_space.proofs.Numbered.{some_at}
use Rattle.vs_space.proofs.Written.{entry_other}
use Rattle.vs_space.proofs.Counts.{clear_if_none, some_if_counted}
use Rattle.vs_space.proofs.tables.Tables.is_empty.Goals as goal

pub returns-clause-empty : goal.returns-clause-empty
returns-clause-empty g c = λ none.
    let clear = clear_if_none c.self.invariant.2 _ c.frame_of.ensures.in_use c.self.invariant.0 (sym c.note.ensures ∙ eqb-true c.note.result 0 none) in
    ap (λ (h : Held). finite.get h.memory c.args.number) (sym c.self.view_is)
    ∙ some_at _ _ c.args.number _ c.frame_of.ensures.numbered c.frame_of.ensures.in_use ∙ ap Some clear

pub returns-clause-present : goal.returns-clause-present
returns-clause-present g c = λ some level written.
    let own = ap (λ (h : Held). finite.get h.memory c.args.number) (sym c.self.view_is)
    ∙ some_at _ _ c.args.number _ c.frame_of.ensures.numbered c.frame_of.ensures.in_use in
    let other = some_if_counted c.self.invariant.2 _ c.frame_of.ensures.in_use c.self.invariant.0
    (λ none. eqb-false c.note.result 0 some (c.note.ensures ∙ none)) in
    entry_other level c.args.self.now.memory c.args.number other.0 _ own written other.1 other.2
