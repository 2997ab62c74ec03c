use Rattle.std.proofs.Common.{◌≡◌, ℕ, List, Some, slice_get}
use Rattle.vs_walk.specs.Dump.{Image}
use Rattle.vs_walk.specs.Traversal.{walk_fault}
use Rattle.vs_walk.specs.declared.walk.WalkFault.{WalkFault}
use Rattle.vs_walk.specs.declared.walk.WalkFault.TheVariants.{Missing}
use Rattle.nr_trace.specs.Faults.{HasFault}
use Rattle.nr_trace.specs.Recording.{Recording}
use Rattle.nr_trace.specs.Spelling.{Spells}
use Rattle.nr_trace.proofs.LawsOfDumps.{dump_is_there}
use Rattle.audit_readers.specs.PagesAnswers.{dump_fault}
use Rattle.audit_readers.proofs.laws.named_faults_are_the_audits.Goals as goal

has_fault : (bytes : List ℕ) (trace : Recording) (replica : ℕ) (dump : Image) (fault : WalkFault) → Spells bytes trace
    → slice_get trace.dumps replica ≡ Some dump → walk_fault trace.layout.depth dump.frames dump.root ≡ Some fault → HasFault trace (dump_fault replica fault)
has_fault bytes trace replica dump (Missing number) spelled is first =
    (dump, is, dump_is_there trace replica dump spelled.of_form spelled.in_range is, first)
has_fault bytes trace replica dump _ spelled is first =
    (dump, is, dump_is_there trace replica dump spelled.of_form spelled.in_range is, first)

pub returns : goal.returns
returns c = has_fault
