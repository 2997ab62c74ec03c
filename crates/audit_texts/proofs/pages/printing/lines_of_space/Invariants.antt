use Rattle.std.proofs.Common.{◌≡◌, string_bytes}
use Rattle.audit_texts.specs.Listing.{page_lines}
use Rattle.audit_texts.proofs.pages.printing.lines_of_space.Given as goal

abbrev pub invariant-loop-page : goal.invariant-loop-page
invariant-loop-page l = string_bytes l.lines.text ≡ page_lines l.yielded
