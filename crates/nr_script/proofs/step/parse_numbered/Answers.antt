use Rattle.std.proofs.Common.{◌≡◌, ℕ, List, [], ◌∷◌, codes, decimal, ap, arith}
use Rattle.std.proofs.lemmas.Slice.Eq.{text_from_reads}
use Rattle.nr_script.proofs.step.parse_numbered.Goals as goal

numbered : (name text : List ℕ) (m n : ℕ) → name ≡ text → n ≡ m → ◌≡◌ {A = List (List ℕ)} (name ∷ decimal m ∷ []) (text ∷ decimal n ∷ [])
numbered name text m n same is = cc (ap decimal is)

pub returns-in-answer : goal.returns-in-answer
returns-in-answer c =
    let is = text_from_reads c.args.name.now (codes "answer") (omega arith)
    (omega arith, (omega arith, (omega arith, (omega arith, (omega arith, (omega arith, tt)))))) in
    record { words_are = numbered c.args.name.now (codes "answer") c.args.number c.from.result is c.from.ensures; number_fits = omega arith }

pub returns-in-collect : goal.returns-in-collect
returns-in-collect c =
    let is = text_from_reads c.args.name.now (codes "collect")
    (omega arith) (omega arith, (omega arith, (omega arith, (omega arith, (omega arith, (omega arith, (omega arith, tt))))))) in
    record {
      words_are = numbered c.args.name.now (codes "collect") c.args.number c.from-in-collect.result is c.from-in-collect.ensures;
      number_fits = omega arith;
    }
