-- What is found of a trace, as it is printed.
use Rattle.std.proofs.Common.{◌≡◌, ◌∙◌, ℕ, Bool, true, false, cond, List, ap, arith, nat_lt, refl, subst, sym}
use Rattle.std.proofs.lemmas.Bool.{false_from_ne_true, ltb-true, true≢false}
use Rattle.std.specs.Prelude.{if◌then◌else◌}
use Rattle.nr_audit.specs.Meetings.{overlapping}
use Rattle.nr_audit.specs.Headline.{AreRightWith}
use Rattle.nr_audit.specs.Verdict.{IfYes, IsVerdictOf, verdict_status}
use Rattle.nr_audit.specs.declared.verdicts.verdict.Verdict.{Verdict}
use Rattle.nr_audit.specs.declared.verdicts.verdict.Verdict.TheVariants.{Yes, No}
use Rattle.audit_texts.specs.AuditJson.{named_verdict, told_verdict}
use Rattle.audit_readers.specs.Answers.{audit_status, HasOverlapping, IsAudit, IsNamedAudit}
use Rattle.audit_readers.specs.declared.audit.Found.{Found}
use Rattle.audit_readers.specs.inside.Found.{IsFound}

-- no number is asked for
none_fewer : (n : ℕ) → ◌≡◌ {A = ℕ} (if nat_lt n 0 then 2 else 0) 0
none_fewer n =
    ap (λ (b : Bool). cond {A = ℕ} b 2 0)
    (false_from_ne_true (nat_lt n 0) (λ t. let below = ltb-true n 0 t in omega (arith, below)))

-- how many calls of a right trace overlap, where that isn't counted
abbrev truth : (bytes : List ℕ) (verdict : Verdict) → IsVerdictOf bytes verdict → ℕ
truth bytes (Yes order) is = overlapping is.0
truth bytes (No fault) is = 0

is_truth : (bytes : List ℕ) (verdict : Verdict) (is : IsVerdictOf bytes verdict) → IfYes (λ order. HasOverlapping bytes (truth bytes verdict is)) verdict
is_truth bytes (Yes order) is = (is.0, is.1, refl)
is_truth bytes (No fault) is = tt

-- a fact of every order
pub if_any_yes : (P : Type 0) (verdict : Verdict) → P → IfYes (λ order. P) verdict
if_any_yes P (Yes order) fact = fact
if_any_yes P (No fault) fact = tt

-- the status doesn't depend on it, where no number is asked for
pub same_status : (verdict : Verdict) (n : ℕ) → audit_status 0 verdict n ≡ verdict_status verdict
same_status (Yes order) n = none_fewer n
same_status (No fault) n = refl

-- nor does the text, where it isn't JSON
uncounted : (bytes text : List ℕ) (verdict : Verdict) (status n : ℕ) → IsVerdictOf bytes verdict → IfYes (AreRightWith bytes) verdict
    → text ≡ told_verdict false verdict n → status ≡ audit_status 0 verdict n → IsAudit false 0 bytes text status
uncounted bytes text verdict status n is right told stands = record {
  verdict = verdict;
  count = truth bytes verdict is;
  is_verdict = is;
  right = right;
  counted = is_truth bytes verdict is;
  text_is = told;
  status_is = stands ∙ same_status verdict n ∙ sym (same_status verdict (truth bytes verdict is));
}

-- the calls are counted wherever the answer depends on their number
pub is_audit : (as_json counts : Bool) (least : ℕ) (bytes text : List ℕ) (status : ℕ) (found : Found)
    → (counts ≡ false → (as_json ≡ false) × (least ≡ 0)) → IsFound counts bytes found
    → text ≡ told_verdict as_json found.verdict found.overlapping → status ≡ audit_status least found.verdict found.overlapping
    → IsAudit as_json least bytes text status
is_audit as_json true least bytes text status found unasked is told stands = record {
  verdict = found.verdict;
  count = found.overlapping;
  is_verdict = is.is_verdict;
  right = is.right;
  counted = is.counted refl;
  text_is = told;
  status_is = stands;
}
is_audit true false least bytes text status found unasked is told stands = absurd (true≢false (unasked refl).0)
is_audit false false least bytes text status found unasked is told stands =
    let none = (unasked refl).1 in
    subst (λ (n : ℕ). IsAudit false n bytes text status) (sym none)
    (uncounted bytes text found.verdict status found.overlapping is.is_verdict is.right told
    (stands ∙ subst (λ (n : ℕ). audit_status least found.verdict found.overlapping ≡ audit_status n found.verdict found.overlapping) none refl))

unnamed : (name bytes text : List ℕ) (verdict : Verdict) (status n : ℕ) → IsVerdictOf bytes verdict → IfYes (AreRightWith bytes) verdict
    → text ≡ named_verdict false name verdict n → status ≡ verdict_status verdict → IsNamedAudit false name bytes text status
unnamed name bytes text verdict status n is right told stands = record {
  verdict = verdict;
  count = truth bytes verdict is;
  is_verdict = is;
  right = right;
  counted = is_truth bytes verdict is;
  text_is = told;
  status_is = stands;
}

-- the same of one of several files
pub is_named_audit : (as_json counts : Bool) (name bytes text : List ℕ) (status : ℕ) (found : Found)
    → (counts ≡ false → as_json ≡ false) → IsFound counts bytes found
    → text ≡ named_verdict as_json name found.verdict found.overlapping → status ≡ verdict_status found.verdict
    → IsNamedAudit as_json name bytes text status
is_named_audit as_json true name bytes text status found unasked is told stands = record {
  verdict = found.verdict;
  count = found.overlapping;
  is_verdict = is.is_verdict;
  right = is.right;
  counted = is.counted refl;
  text_is = told;
  status_is = stands;
}
is_named_audit true false name bytes text status found unasked is told stands = absurd (true≢false (unasked refl))
is_named_audit false false name bytes text status found unasked is told stands =
    unnamed name bytes text found.verdict status found.overlapping is.is_verdict is.right told stands
