use Rattle.std.proofs.Common.{refl, sym, ◌∙◌, ap}
use Rattle.audit_numbers.proofs.judging.write_told.Goals as goal

pub returns-clause-told : goal.returns-clause-told
returns-clause-told c = λ small bytes explained. record {
  told = c.as_bytes-bytes.result.now;
  is_explained = record {
    explanation = c.args.explanation.now;
    is_explanation = explained;
    text_is = c.as_bytes-bytes.ensures.value ∙ c.in-Ok.ensures;
    status_is = c.explanation_status.ensures.is;
  };
  count_is = refl;
  array_is = c.write_text.ensures;
}
