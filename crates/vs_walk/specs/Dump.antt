-- Dumps: the page table of a replica as it was after some entries of the log.
use Rattle.std.specs.Prelude.{ℕ, ◌^◌, ◌<◌, ◌≤◌, List, All, IsTrue, length, refl}
use Rattle.std.specs.Coded.{Coded, code_by, coded×, coded_ℕ, coded_list}
use Rattle.std.specs.FinMap as finite
use Rattle.std.specs.Ordering.{nat_cmp}
use Rattle.vs_types.specs.declared.limits.TheConstants.{FRAMES}
use Rattle.vs_types.specs.Frame.{IsFrame}
use Rattle.vs_walk.specs.Memory.{Memory}

-- the number of log entries that the table has taken, the frame of its root, and its frames
pub record Image : Type 0 where
  pub applied : ℕ
  pub root : ℕ
  pub frames : Memory

abbrev pub image_code : Coded Image
image_code = code_by (ℕ × (ℕ × Memory)) (coded× coded_ℕ (coded× coded_ℕ (finite.code {R = nat_cmp} coded_ℕ (coded_list coded_ℕ))))
    (λ d. (d.applied, (d.root, d.frames))) (λ p. record { applied = p.0; root = p.1.0; frames = p.1.1 }) (λ _. refl)

-- a dump, and of one frame more its number and the words that have come
pub record OpenImage : Type 0 where
  pub dump : Image
  pub number : ℕ
  pub coming : List ℕ

abbrev pub open_image_code : Coded OpenImage
open_image_code = code_by (Image × (ℕ × List ℕ)) (coded× image_code (coded× coded_ℕ (coded_list coded_ℕ)))
    (λ d. (d.dump, (d.number, d.coming))) (λ p. record { dump = p.0; number = p.1.0; coming = p.1.1 }) (λ _. refl)

-- what the parts of a dump are: at most 65,535 frames, whose numbers rise
pub record AreParts (applied root : ℕ) (frames : List (ℕ × List ℕ)) : Type 0 where
  pub applied_fits : applied < 2 ^ 32
  pub root_fits : root < 2 ^ 64
  pub few : length frames ≤ FRAMES
  pub rising : IsTrue (finite.is_sorted nat_cmp frames)
  pub in_range : All (λ frame. frame.0 < 2 ^ 40) frames
  pub whole : All (λ frame. IsFrame frame.1) frames

-- what each dump is
abbrev pub IsDump : Image → Type 0
IsDump image = AreParts image.applied image.root (finite.entries image.frames)
