use Rattle.std.proofs.Common.{IfOk, inl, inr, string_bytes, subst, sym}
use Rattle.std.proofs.lemmas.Result.{IfOk-weaker}
use Rattle.nr_chain.specs.Bytes.{EndsWith}
use Rattle.audit_readers.specs.inside.Judged.{IsTextAfter, SaysEnd}
use Rattle.audit_readers.specs.declared.chain.audit.Judged.{Judged}
use Rattle.audit_readers.proofs.Ending.{pages_said}
use Rattle.audit_readers.proofs.chain.pages.end_report.Goals as goal

pub returns-in-None : goal.returns-in-None
returns-in-None c =
    let chain = c.in-Ended.chain in
    let text = string_bytes c.in_ok-text-in-Ended.text in
    subst (λ (j : Judged). SaysEnd c.args.as_ranges j text 0) (sym c.in-Ended.is) (λ run kept.
    let said : IsTextAfter c.args.as_ranges run text =
    subst (λ r. IfOk r (λ t. IsTextAfter c.args.as_ranges run (string_bytes t))) c.in_ok-text-in-Ended.was (c.last_text-text.ensures run kept) in
    inl (pages_said c.args.as_ranges run chain.bytes text (subst (EndsWith run chain.bytes) c.in-None.is (c.end-found.ensures run kept)) said))

pub returns-in-Some : goal.returns-in-Some
returns-in-Some c =
    let chain = c.in-Ended.chain in
    IfOk-weaker c.fault_report.result _ _
    (λ report says. subst (λ (j : Judged). SaysEnd c.args.as_ranges j (string_bytes report.text) report.status) (sym c.in-Ended.is) (λ run kept.
    inr (c.in-Some.fault, subst (EndsWith run chain.bytes) c.in-Some.is (c.end-found.ensures run kept), says)))
    c.fault_report.ensures
