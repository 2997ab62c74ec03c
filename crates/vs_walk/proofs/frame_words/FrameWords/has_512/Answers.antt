use Rattle.std.proofs.Common.{◌≡◌, length, sym, ap, ◌∙◌}
use Rattle.vs_types.specs.declared.addresses.frame.TheConstants.{FRAME_WORDS}
use Rattle.vs_walk.specs.declared.frame_words.Borrowed.{Borrowed}
use Rattle.vs_walk.specs.declared.frame_words.Borrowed.TheVariants.{Whole, Nonzero}
use Rattle.vs_walk.specs.inside.Borrowed.{AreBorrowed, all_words}
use Rattle.vs_walk.proofs.Filled.{length_kept}
use Rattle.vs_walk.proofs.frame_words.FrameWords.has_512.Goals as goal

all_512 : (borrowed : Borrowed) → AreBorrowed borrowed → length (all_words borrowed) ≡ FRAME_WORDS
all_512 (Whole words) is = is
all_512 (Nonzero places words) is = length_kept places.now words.now FRAME_WORDS is

pub returns : goal.returns
returns c = ap length (sym c.self.view_is) ∙ all_512 c.self.inside.borrowed c.self.invariant
