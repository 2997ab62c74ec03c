use Rattle.std.specs.Prelude.{MatchResult}
use Rattle.std.proofs.Common.{[], ap, sym, subst, ◌∙◌, ◌≡◌, ◌++◌, ℕ, List, length, rules, append_assoc, arith}
use Rattle.std.proofs.lemmas.List.{append-nil, length-append}
use Rattle.std.proofs.lemmas.Grind.{common_steps}
use Rattle.vs_types.specs.Refusal.{IfRefused}
use Rattle.nr_trace.specs.Feed.{IsRefusedAs}
use Rattle.nr_trace.specs.inside.Progress.{form_of, said, unit_bytes, IsRun}
use Rattle.nr_trace.specs.inside.Feeding.{HasTaken}
use Rattle.nr_trace.proofs.Feeding.{fewer_than, refused_behind, refuses, sound_after, starts, taken_behind, unit_completed}
use Rattle.nr_trace.proofs.Whole.{one_unit}
use Rattle.nr_trace.proofs.reading.feed.take_piece.Goals as goal

pub returns-in_err-reader-in-Some : goal.returns-in_err-reader-in-Some
returns-in_err-reader-in-Some c =
    let reader = c.args.reader in
    let begun = c.args.begun.items in
    let piece = c.args.piece.now in
    let refused : IfRefused (IsRefusedAs (form_of reader) (said reader ++ begun ++ piece) (length (begun ++ piece))) c.in_err-reader-in-Some.field-0.0 =
    subst (λ (l : List ℕ). IfRefused (IsRefusedAs (form_of reader) l (length (begun ++ piece))) c.in_err-reader-in-Some.field-0.0)
    (sym (append_assoc (said reader) begun piece))
    (refuses (form_of reader) (said reader) (begun ++ piece) reader (begun ++ piece) c.deref.result.now c.split_at.result.1.now
    c.in_err-reader-in-Some.field-0.0 (starts reader (begun ++ piece) c.requires.sound)
    (unit_completed begun piece c.split_at.result.0.now c.split_at.result.1.now c.deref.result.now (search rules) (c.deref.ensures.value
    ∙ c.in_ok-extend_from_slice-in-Some-2.ensures.items))
    c.in_err-reader-in-Some.ensures) in
    search rules

pub take_bytes-requires-clause-sound : goal.take_bytes-requires-clause-sound
take_bytes-requires-clause-sound c = sound_after c.args.reader c.in_ok-reader-in-Some.reader c.deref.result.now c.requires.sound c.in_ok-reader-in-Some.ensures

pub take_front-requires-clause-run : goal.take_front-requires-clause-run
take_front-requires-clause-run c =
    let whole : c.in-Some.len ≡ length c.deref.result.now =
    omega (
      arith,
      fewer_than (unit_bytes c.args.reader) c.in-Some.len c.args.begun.items (sym c.in-Some.ensures) c.requires.fewer,
      ap length c.in_ok-extend_from_slice-in-Some-2.ensures.items,
      length-append c.args.begun.items c.split_at.result.0.now,
      c.split_at.ensures.front_len,
      ap length c.deref.ensures.value,
      c.len.ensures,
      c.args.begun.ok.0,
    ) in
    subst (λ (n : ℕ). IsRun c.args.reader n) whole (one_unit c.args.reader c.in-Some.len c.requires.sound.ready (sym c.in-Some.ensures))

pub split_at-requires : goal.split_at-requires
split_at-requires c = c.if-piece-missing.false

pub returns-in_err-state-in-Some : goal.returns-in_err-state-in-Some
returns-in_err-state-in-Some c =
    let reader = c.args.reader in
    let begun = c.args.begun.items in
    let piece = c.args.piece.now in
    let has = c.in_ok-reader-in-Some.ensures in
    let refused : IfRefused (IsRefusedAs (form_of reader) (said reader ++ begun ++ piece) (length (begun ++ piece))) c.in_err-state-in-Some.field-0.0 =
    refused_behind (form_of reader) (said reader) begun piece c.split_at.result.0.now c.split_at.result.1.now c.deref.result.now
    c.in_ok-reader-in-Some.reader c.in_err-state-in-Some.field-0.0 has.form_is has.bytes_are
    (c.deref.ensures.value ∙ c.in_ok-extend_from_slice-in-Some-2.ensures.items) (search rules) c.in_err-state-in-Some.ensures in
    search rules

pub returns-in_ok-state-in-Some : goal.returns-in_ok-state-in-Some
returns-in_ok-state-in-Some c =
    let reader = c.args.reader in
    let has = c.in_ok-reader-in-Some.ensures in
    taken_behind (form_of reader) (said reader) c.args.begun.items c.args.piece.now c.split_at.result.0.now c.split_at.result.1.now c.deref.result.now
    c.in_ok-reader-in-Some.reader c.in_ok-state-in-Some.state _ c.in_ok-state-in-Some.count has.form_is has.bytes_are
    (c.deref.ensures.value ∙ c.in_ok-extend_from_slice-in-Some-2.ensures.items) (search rules) c.split_at.ensures.front_len c.in_ok-state-in-Some.ensures

pub returns-in_default : goal.returns-in_default
returns-in_default c =
    let reader = c.args.reader in
    let form = form_of reader in
    let piece = c.args.piece.now in
    let none : c.args.begun.items ≡ [] = grind (arith, common_steps) in
    subst (λ (b : List ℕ). MatchResult c.take_bytes-in_default.result (λ taken. HasTaken form (said reader ++ b) piece taken.0 taken.1)
    (IfRefused (IsRefusedAs form (said reader ++ b ++ piece) (length (b ++ piece))))) (sym none)
    (subst (λ (l : List ℕ). MatchResult c.take_bytes-in_default.result (λ taken. HasTaken form l piece taken.0 taken.1)
    (IfRefused (IsRefusedAs form (l ++ piece) (length piece)))) (sym (append-nil (said reader))) c.take_bytes-in_default.ensures)
