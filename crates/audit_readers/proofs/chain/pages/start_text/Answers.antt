use Rattle.std.proofs.Common.{◌≡◌, ◌∙◌, None, Some, ap, option_copied, subst, sym}
use Rattle.vs_types.specs.declared.addresses.depth.Depth.{Depth}
use Rattle.vs_walk.specs.Traversal.{walk_fault}
use Rattle.audit_texts.specs.Dumps.{dump_text}
use Rattle.audit_readers.proofs.Beginning.{no_start_shown, start_shown, start_walked}
use Rattle.audit_readers.proofs.chain.pages.start_text.Goals as goal

pub returns-in_default : goal.returns-in_default
returns-in_default c =
    let has = sym c.start.ensures.reads ∙ ap option_copied c.in_default.is in
    c.new.ensures.bytes ∙ sym (no_start_shown c.args.as_ranges c.args.segment.now has)

pub returns-in-Ok : goal.returns-in-Ok
returns-in-Ok c =
    let segment = c.args.segment.now in
    let start = c.in-Some.start.now in
    let has : segment.start ≡ Some start = sym c.start.ensures.reads ∙ ap option_copied c.in-Some.is in
    let depth : c.depth-depth.result ≡ segment.layout.depth = c.depth-depth.ensures ∙ ap (λ l. l.depth) c.layout.ensures.reads in
    c.in-Ok.ensures.text ∙ ap (λ (d : Depth). dump_text c.args.as_ranges d start) depth
    ∙ start_shown c.args.as_ranges segment start c.start.ensures.in_range has c.requires

pub unreachable-requires : goal.unreachable-requires
unreachable-requires c =
    let segment = c.args.segment.now in
    let start = c.in-Some.start.now in
    let has : segment.start ≡ Some start = sym c.start.ensures.reads ∙ ap option_copied c.in-Some.is in
    let depth : c.depth-depth.result ≡ segment.layout.depth = c.depth-depth.ensures ∙ ap (λ l. l.depth) c.layout.ensures.reads in
    let walked = start_walked segment start has c.requires in
    let says = rw c.in-Err-Refused.field-0-is at c.in-Err-Refused.ensures.first in
    let first : walk_fault segment.layout.depth start.frames start.root ≡ Some c.in-Err-Refused.field-0-0 =
    subst (λ (d : Depth). walk_fault d start.frames start.root ≡ Some c.in-Err-Refused.field-0-0) depth says in
    let wrong : None ≡ Some c.in-Err-Refused.field-0-0 = sym walked ∙ first in cc
