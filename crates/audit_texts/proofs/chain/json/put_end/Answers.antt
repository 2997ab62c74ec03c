use Rattle.audit_texts.proofs.chain.json.put_end.Goals as goal

pub returns-in-Some : goal.returns-in-Some
returns-in-Some c = rw c.in-Some.is (c.put_wrong.ensures c.args.totals)
