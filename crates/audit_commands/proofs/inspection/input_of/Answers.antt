use Rattle.std.proofs.Common.{◌∙◌, ap, codes, option_map, sym, List, ℕ, Bor}
use Rattle.clap.specs.Words.{found_of}
use Rattle.clap.proofs.WalkLemmas.{first_value-rows}
use Rattle.audit_commands.specs.Words.{input_of}
use Rattle.audit_commands.proofs.inspection.input_of.Goals as goal

pub returns-in-Some : goal.returns-in-Some
returns-in-Some c =
    let read = c.get_str.ensures ∙ first_value-rows (found_of c.args.given.now) (codes "file") in
    c.named_file.ensures ∙ ap input_of (ap (option_map (λ (s : Bor (List ℕ)). s.now)) (sym c.in-Some.is) ∙ read)

pub returns-in-None : goal.returns-in-None
returns-in-None c =
    let read = c.get_str.ensures ∙ first_value-rows (found_of c.args.given.now) (codes "file") in
    ap input_of (ap (option_map (λ (s : Bor (List ℕ)). s.now)) (sym c.in-None.is) ∙ read)
