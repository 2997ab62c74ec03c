use Rattle.std.proofs.Common.{[], subst, string_bytes}
use Rattle.vs_walk.specs.Traversal.{found, traversal, found_in}
use Rattle.audit_texts.specs.inside.Taking.{HasJoined}
use Rattle.audit_texts.proofs.Texts.{dump_ends}
use Rattle.audit_texts.proofs.pages.printing.lines_of_ranges.Goals as goal

pub returns-clause-text : goal.returns-clause-text
returns-clause-text c =
    let lines = c.traverse.new.visitor in
    c.in_ok-end.ensures (found_in c.args.depth c.args.dump.now)
    (subst (λ root. HasJoined (string_bytes lines.text) lines.open (found (traversal c.args.depth c.args.dump.now.frames root)))
    c.root.ensures (c.in_ok-traverse.ensures.pages [] c.new-lines.ensures))
    (dump_ends c.args.depth c.args.dump.now c.frames_are_a_dump.ensures)
