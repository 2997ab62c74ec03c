use Rattle.std.proofs.Common.{string_bytes}
use Rattle.audit_readers.proofs.Ending.{no_pages, text_of}
use Rattle.audit_readers.proofs.chain.pages.last_text.Goals as goal

pub returns-in-Some : goal.returns-in-Some
returns-in-Some c = λ run kept.
    text_of (λ text. string_bytes text) c.args.as_ranges run c.in-Some.space.now c.space_text.result (c.in-Some.ensures run kept)
    c.space_text.ensures.apart c.space_text.ensures.text

pub returns-in-None : goal.returns-in-None
returns-in-None c = λ run kept. no_pages c.args.as_ranges run _ (c.in-None.ensures run kept)
