use Rattle.std.proofs.Common.{◌≡◌, ℕ, List, ◌∷◌, ◌-◌, length, take, drop, ap, subst, sym, refl, ◌∙◌, true, false}
use Rattle.nr_script.specs.Lines.{SpellsStep}
use Rattle.vs_text.specs.Words.{texts}
use Rattle.nr_script.proofs.InLines.{no_request, no_step, split_off}
use Rattle.nr_script.proofs.line.parse_words.Goals as goal

pub returns-in_err-step : goal.returns-in_err-step
returns-in_err-step c =
    let rest = texts (take (length c.args.words.now - 1) (drop 1 c.args.words.now)) in
    let split = split_off c.args.words.now _ c.in-len1-up.len_at_least ∙ ap (λ (first : List ℕ). first ∷ rest) (c.if-is_step.ensures.0 refl) in
    rw c.from_residual.ensures (no_step c.args.depth (texts c.args.words.now) rest split (λ step spelled. c.in_err-step.ensures step spelled))

pub returns-in_err-thread : goal.returns-in_err-thread
returns-in_err-thread c =
    let rest = texts (take (length c.args.words.now - 1) (drop 1 c.args.words.now)) in
    let split = split_off c.args.words.now _ c.in-len1-up.len_at_least in
    rw c.from_residual-in_err-thread.ensures
    (no_request c.args.depth _ (texts c.args.words.now) rest split (λ is. let no : false ≡ true = c.if-is_step.ensures.1 is in cc)
    (λ it spelled. c.in_err-thread.ensures it spelled))

pub returns-in_ok-step : goal.returns-in_ok-step
returns-in_ok-step c =
    let rest = texts (take (length c.args.words.now - 1) (drop 1 c.args.words.now)) in
    let split = split_off c.args.words.now _ c.in-len1-up.len_at_least ∙ ap (λ (first : List ℕ). first ∷ rest) (c.if-is_step.ensures.0 refl) in
    subst (λ (ws : List (List ℕ)). SpellsStep ws c.in_ok-step.step) (sym split) c.in_ok-step.ensures
