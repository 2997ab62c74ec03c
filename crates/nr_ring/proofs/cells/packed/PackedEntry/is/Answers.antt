use Rattle.std.proofs.Common.{◌≡◌, ℕ, List, get_or, ap, sym, ◌∙◌, eq-eqb}
use Rattle.std.proofs.lemmas.Bool.{eqb-true}
use Rattle.vs_types.specs.LogEntry.{log_words}
use Rattle.vs_types.specs.declared.log_entry.LogEntry.{LogEntry}
use Rattle.vs_types.specs.inside.Telling.{entry_in}
use Rattle.nr_ring.proofs.PackedWords.{same_words}
use Rattle.nr_ring.proofs.cells.packed.PackedEntry.is.Goals as goal

pub returns : goal.returns
returns c =
    let one : LogEntry = entry_in c.self.inside.words in
    let two : LogEntry = entry_in c.other.inside.words in
    let At : ℕ → List ℕ → ℕ = λ i l. get_or l i 0 in
    let own : c.self.inside.words ≡ log_words one = c.self.invariant.spelled in
    let others : c.other.inside.words ≡ log_words two = c.other.invariant.spelled in
    let first : get_or (log_words one) 0 0 ≡ get_or (log_words two) 0 0 =
    ap (At 0) (sym own) ∙ c.if-self-other.false ∙ ap (At 0) others in (
      λ same.
          let second : get_or (log_words one) 1 0 ≡ get_or (log_words two) 1 0 =
          ap (At 1) (sym own) ∙ eqb-true _ _ same ∙ ap (At 1) others in
          let words : c.self.inside.words ≡ c.other.inside.words = own ∙ same_words one two first second ∙ sym others in
          sym c.self.view_is ∙ ap entry_in words ∙ c.other.view_is,
      λ same.
          let entries : one ≡ two = c.self.view_is ∙ same ∙ sym c.other.view_is in
          eq-eqb _ _ (ap (At 1) (own ∙ ap log_words entries ∙ sym others)),
    )
