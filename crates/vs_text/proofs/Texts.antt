-- The texts of words.
use Rattle.std.proofs.Common.{◌≡◌, ℕ, ◌<◌, List, [], ◌∷◌, zero, suc, length, get_or, refl, arith, ap, subst, sym, ◌∙◌, Option, Some, None}
use Rattle.std.specs.Borrow.{Bor}
use Rattle.vs_types.specs.Finds.{Finds}
use Rattle.vs_text.specs.Words.{SpellsAddress, texts}
use Rattle.vs_text.specs.Requests.{SpellsOne}

text_of : (words : List (Bor (List ℕ))) (k : ℕ) (d : Bor (List ℕ)) → k < length words → (get_or words k d).now ≡ get_or (texts words) k []
text_of [] k d within = absurd (omega arith)
text_of (word ∷ words) zero d within = refl
text_of (word ∷ words) (suc k) d within = text_of words k d (omega arith)

-- where the texts are these, each word has its text
pub text_at : (words : List (Bor (List ℕ))) (k : ℕ) (d : Bor (List ℕ)) (them : List (List ℕ)) → texts words ≡ them → k < length words
    → (get_or words k d).now ≡ get_or them k []
text_at words k d them same within = text_of words k d within ∙ ap (λ (ts : List (List ℕ)). get_or ts k []) same

only_text : (words : List (Bor (List ℕ))) (d : Bor (List ℕ)) → length words ≡ 1 → texts words ≡ (get_or words 0 d).now ∷ []
only_text (word ∷ []) d one = refl
only_text _ d one = absurd (omega arith)

-- an address that is alone
pub found_alone : (words : List (Bor (List ℕ))) (d : Bor (List ℕ)) (found : Option ℕ) → length words ≡ 1
    → Finds (SpellsAddress (get_or words 0 d).now) found → Finds (SpellsOne (texts words)) found
found_alone words d None one none = λ address spelled.
    let same = text_at words 0 d (spelled.word ∷ []) spelled.words_are (omega arith) in
    none address (subst (λ (word : List ℕ). SpellsAddress word address) (sym same) spelled.address_is)
found_alone words d (Some address) one is = record { word = (get_or words 0 d).now; words_are = only_text words d one; address_is = is }
