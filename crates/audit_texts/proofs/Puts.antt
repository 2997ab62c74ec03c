-- What is put in turn.
use Rattle.std.proofs.Common.{◌≡◌, ◌++◌, List, Result, ap, subst, ◌∙◌, sym, append_assoc}
use Rattle.std.specs.Prelude.{OnOk}
use Rattle.std.proofs.lemmas.Grind.{flat_map-append}
use Rattle.std.proofs.lemmas.List.Sums.{fold-append}
use Rattle.audit_texts.specs.Parts.{Part, Put, lines, members, part_text, parts_text, put_all, put_part}

pub put_all-append : (first more : List Part) (put : Put) → put_all (first ++ more) put ≡ put_all more (put_all first put)
unfolding put_all
put_all-append first more (lines it) =
    ap (λ t. lines (it ++ t)) (flat_map-append part_text first more) ∙ ap lines (sym (append_assoc it (parts_text first) (parts_text more)))
put_all-append first more (members them) = ap members (fold-append put_part them first more)

-- parts, and then more
pub then_put : (first more : List Part) (old put new : Put) → put ≡ put_all first old → new ≡ put_all more put → new ≡ put_all (first ++ more) old
then_put first more old put new put_first put_more = put_more ∙ (ap (put_all more) put_first ∙ sym (put_all-append first more old))

-- the same where the last call may fail
pub then_put_ok : {T E : Type 0} (result : Result T E) (first more : List Part) (old put new : Put) → put ≡ put_all first old
    → OnOk result (new ≡ put_all more put) → OnOk result (new ≡ put_all (first ++ more) old)
then_put_ok result first more old put new put_first put_more =
    subst (λ (p : Put). OnOk result (new ≡ p)) (ap (put_all more) put_first ∙ sym (put_all-append first more old)) put_more
