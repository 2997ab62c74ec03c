-- The lines of one thread more.
use Rattle.std.proofs.Common.{◌≡◌, ℕ, zero, suc, ◌+◌, ◌<◌, List, [], ◌∷◌, ◌++◌, length, get_or, map, take, ap, sym, ◌∙◌, arith}
use Rattle.std.specs.List.{enumerate_from, flat_map}
use Rattle.std.proofs.lemmas.List.{append-nil, append_assoc}
use Rattle.nrvs.specs.RunText.{thread_lines}
use Rattle.nr_serve.specs.declared.endings.call_outcome.CallOutcome.{CallOutcome}

-- the lines of the threads from `first` on
abbrev pub lines_of : {X : Type 0} → (X → List CallOutcome) → ℕ → List X → List ℕ
lines_of said first threads = flat_map thread_lines (enumerate_from first (map said threads))

pub next_lines : {X : Type 0} (said : X → List CallOutcome) (first n : ℕ) (threads : List X) (d : X) → n < length threads
    → lines_of said first (take (suc n) threads) ≡ lines_of said first (take n threads) ++ thread_lines (first + n, said (get_or threads n d))
next_lines said first n [] d lt = absurd (omega arith)
next_lines said first zero (x ∷ xs) d lt =
    let same : first ≡ first + 0 = omega arith in
    append-nil (thread_lines (first, said x)) ∙ ap (λ (k : ℕ). thread_lines (k, said x)) same
next_lines said first (suc n) (x ∷ xs) d lt =
    let head = thread_lines (first, said x) in
    let front = lines_of said (first + 1) (take n xs) in
    let same : first + 1 + n ≡ first + suc n = omega arith in
    let rest = next_lines said (first + 1) n xs d (omega arith) ∙ ap (λ (k : ℕ). front ++ thread_lines (k, said (get_or xs n d))) same in
    ap (λ (lines : List ℕ). head ++ lines) rest ∙ sym (append_assoc head front (thread_lines (first + suc n, said (get_or xs n d))))
