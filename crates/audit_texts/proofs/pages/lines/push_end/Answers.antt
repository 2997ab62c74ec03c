use Rattle.std.proofs.Common.{◌≡◌, ◌≤◌, ◌++◌, ℕ, List, Result, Ok, Err, OnOk, is_ok, if◌then◌else◌, ap, codes, refl, string_bytes, arith, ◌∙◌}
use Rattle.std.specs.Fmt.{digits}
use Rattle.std.proofs.lemmas.Result.{on_ok_weaker}
use Rattle.vs_text.specs.Words.{hexadecimal}
use Rattle.audit_texts.specs.Ranges.{range_end}
use Rattle.audit_texts.proofs.pages.lines.push_end.Goals as goal

last_end : codes "0x10000000000000000" ≡ hexadecimal 18446744073709551616
unfolding digits
last_end = refl

-- what a push says where it succeeds
on_push : {T E : Type 0} (r : Result T E) (old new added : List ℕ) → new ≡ (if is_ok r then old ++ added else old) → OnOk r (new ≡ old ++ added)
on_push (Ok done) old new added is = is
on_push (Err fault) old new added is = tt

at_end : (old : List ℕ) (new : List ℕ) (end : ℕ) → 18446744073709551616 ≤ end → new ≡ old ++ codes "0x10000000000000000" → end ≤ 18446744073709551616
    → new ≡ old ++ hexadecimal end
at_end old new end above added within =
    let same : 18446744073709551616 ≡ end = omega arith in
    added ∙ ap (λ (bytes : List ℕ). old ++ bytes) (last_end ∙ ap hexadecimal same)

pub returns-in-None : goal.returns-in-None
returns-in-None c =
    on_ok_weaker c.push_str.result
    (at_end (string_bytes c.args.text.now) (string_bytes c.push_str.new.self) (range_end c.args.range) c.in-None.ensures.none)
    (on_push c.push_str.result (string_bytes c.args.text.now) (string_bytes c.push_str.new.self) (codes "0x10000000000000000") c.push_str.ensures.bytes)
