-- The recording of `map_then_resolve` keeps all ranges, also with a second reply.
use Rattle.std.proofs.Common.{◌≡◌, ℕ, ◌-◌, ◌<◌, ◌≤◌, ◌^◌, List, [], ◌∷◌, ◌++◌, length, map, replicate, All, refl, sym, subst, ◌∙◌, arith, lit<, lit≤}
use Rattle.std.specs.FinMap as finite
use Rattle.std.specs.List.{AllByRecursion}
use Rattle.std.proofs.lemmas.List.Elements.{All-from_recursion, All-cons, All-append, All-replicate}
use Rattle.vs_types.specs.Config.{Layout, IsLayout}
use Rattle.vs_types.specs.Frame.{IsFrame}
use Rattle.nr_trace.specs.Recording.{IsRecording, IsEvent, IsImage}
use Rattle.nr_trace.specs.declared.formats.version.Version.TheVariants.{V1}
use Rattle.nr_trace.specs.Examples.{map_then_resolve, with_more, answered_again, frames_of_page, dump_of_page, frame_with}
use Rattle.nr_trace.specs.declared.recordings.event.Event.{Event}
use Rattle.nr_trace.specs.declared.recordings.event.Event.TheVariants.{Reply}
use Rattle.vs_types.specs.declared.requests.answer.Answer.TheVariants.{NotMapped}
use Rattle.vs_types.specs.declared.limits.TheConstants.{CALLS}
use Rattle.nr_trace.specs.Spelling.{spelling, Spells}
use Rattle.nr_trace.proofs.ExamplesOfSpelling.{entries_of_page, len_of_page}

abbrev layout : Layout
layout = map_then_resolve.layout

frame_fits : (index word : ℕ) → length (frame_with index word) ≡ 512 → word < 2 ^ 64 → IsFrame (frame_with index word)
frame_fits index word l h = record {
  whole = l;
  fit = All-append (λ w. w < 2 ^ 64) (replicate index 0) (word ∷ replicate (511 - index) 0) (All-replicate (λ w. w < 2 ^ 64) index 0 (lit< tt))
      (All-cons (λ w. w < 2 ^ 64) word (replicate (511 - index) 0) h (All-replicate (λ w. w < 2 ^ 64) (511 - index) 0 (lit< tt)));
}

abbrev numbers : List ℕ
numbers = 1 ∷ 2 ∷ 3 ∷ 4 ∷ []

keys_fit : All (λ n. n < 2 ^ 40) (finite.keys frames_of_page)
keys_fit = subst (λ (es : List (ℕ × List ℕ)). All (λ n. n < 2 ^ 40) (map (λ e. e.0) es)) (sym entries_of_page)
    (All-from_recursion (λ n. n < 2 ^ 40) numbers (lit< tt, (lit< tt, (lit< tt, (lit< tt, tt)))))

abbrev contents : List (List ℕ)
contents = frame_with 0 0x2007 ∷ frame_with 0 0x3007 ∷ frame_with 2 0x4007 ∷ frame_with 0 0x1007 ∷ []

words_fit : All IsFrame (finite.values frames_of_page)
words_fit = subst (λ (es : List (ℕ × List ℕ)). All IsFrame (map (λ e. e.1) es)) (sym entries_of_page)
    (All-from_recursion IsFrame contents (
      frame_fits 0 0x2007 refl (lit< tt),
      (frame_fits 0 0x3007 refl (lit< tt), (frame_fits 2 0x4007 refl (lit< tt), (frame_fits 0 0x1007 refl (lit< tt), tt))),
    ))

dump_fits : IsImage V1 dump_of_page
dump_fits = record {
  applied = lit< tt;
  root = lit< tt;
  some_frame = subst (λ n. 1 ≤ n) (sym len_of_page) (lit≤ tt);
  few_frames = subst (λ n. n ≤ 4096) (sym len_of_page) (lit≤ tt);
  nothing = λ none. let four = sym len_of_page ∙ none in absurd (omega arith);
  numbers = keys_fit;
  words = words_fit;
}

layout_fits : IsLayout layout
layout_fits = record {
  some_replica = lit≤ tt;
  few_replicas = lit≤ tt;
  some_thread = lit≤ tt;
  few_threads = lit≤ tt;
  some_table = lit≤ tt;
  few_tables = lit≤ tt;
}

abbrev EventsFit : List Event → Type 0
EventsFit events = AllByRecursion (IsEvent V1 layout) events

first_events_fit : (more : List Event) → EventsFit more → EventsFit (map_then_resolve.events ++ more)
first_events_fit more fit = (
  (lit< tt, lit< tt, record { canonical = refl; aligned = refl; phys_aligned = refl; phys_range = lit≤ tt }, tt),
  (
    (lit< tt, lit< tt, tt, tt),
    (
      (lit< tt, lit< tt, refl, tt),
      ((lit< tt, lit< tt, lit< tt, tt), fit),
    ),
  ),
)

in_range : (more : List Event) → length (map_then_resolve.events ++ more) ≤ CALLS → EventsFit more → IsRecording (with_more more)
in_range more few fit = record {
  layout = layout_fits;
  depth = tt;
  start = tt;
  few_start = lit≤ tt;
  few_places = lit≤ tt;
  log = All-from_recursion (λ call. call < 2 ^ 32) map_then_resolve.log (lit< tt, tt);
  few_events = few;
  events = All-from_recursion (IsEvent V1 layout) (map_then_resolve.events ++ more) (first_events_fit more fit);
  one_dump_each = refl;
  dumps = All-from_recursion (IsImage V1) map_then_resolve.dumps (dump_fits, tt);
}

pub spelled : Spells (spelling map_then_resolve) map_then_resolve
spelled = record { of_form = tt; follows = tt; in_range = in_range [] (lit≤ tt) tt; spelled = refl }

pub spelled_again : Spells (spelling answered_again) answered_again
spelled_again = record { of_form = tt; follows = tt; in_range = in_range (Reply 2 1 NotMapped ∷ []) (lit≤ tt) ((lit< tt, lit< tt, tt, tt), tt); spelled = refl }
