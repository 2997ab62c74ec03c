use Rattle.std.proofs.Common.{ℕ, List, [], ◌∷◌, codes, ap, arith}
use Rattle.std.proofs.lemmas.Slice.Eq.{text_from_reads}
use Rattle.nr_script.proofs.step.parse_plain.Goals as goal

-- the bytes that were tested make the name
pub returns-in-append : goal.returns-in-append
returns-in-append c =
    let is = text_from_reads c.args.name.now (codes "append") (omega arith)
    (omega arith, (omega arith, (omega arith, (omega arith, (omega arith, (omega arith, tt)))))) in
    record { words_are = ap (λ (name : List ℕ). name ∷ []) is; number_fits = omega arith }

pub returns-in-advance : goal.returns-in-advance
returns-in-advance c =
    let is = text_from_reads c.args.name.now (codes "advance")
    (omega arith) (omega arith, (omega arith, (omega arith, (omega arith, (omega arith, (omega arith, (omega arith, tt))))))) in
    record { words_are = ap (λ (name : List ℕ). name ∷ []) is; number_fits = omega arith }

pub returns-in-release : goal.returns-in-release
returns-in-release c =
    let is = text_from_reads c.args.name.now (codes "release")
    (omega arith) (omega arith, (omega arith, (omega arith, (omega arith, (omega arith, (omega arith, (omega arith, tt))))))) in
    record { words_are = ap (λ (name : List ℕ). name ∷ []) is; number_fits = omega arith }
