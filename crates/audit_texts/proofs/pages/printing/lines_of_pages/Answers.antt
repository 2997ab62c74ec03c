use Rattle.std.proofs.Common.{◌≡◌, [], subst, string_bytes}
use Rattle.vs_walk.specs.Traversal.{found, traversal}
use Rattle.audit_texts.specs.Listing.{page_lines}
use Rattle.audit_texts.proofs.pages.printing.lines_of_pages.Goals as goal

pub returns-clause-text : goal.returns-clause-text
returns-clause-text c =
    subst (λ root. string_bytes c.traverse.new.visitor.text ≡ page_lines (found (traversal c.args.depth c.args.dump.now.frames root)))
    c.root.ensures (c.in_ok-traverse.ensures.pages [] c.new-lines.ensures)
