-- A segment with a touch: its ranges and its bytes.
use Rattle.std.proofs.Common.{◌≡◌, ℕ, zero, suc, ◌<◌, ◌≤◌, ◌^◌, List, [], drop, length, get_or, map, All, None, Some, inl, inr, refl, ap, sym, subst, ◌∙◌, arith}
use Rattle.std.proofs.Common.{lit<, lit≤}
use Rattle.std.specs.FinMap as finite
use Rattle.std.specs.Ordering.{nat_cmp}
use Rattle.std.proofs.lemmas.List.Elements.{All-from_recursion}
use Rattle.vs_types.specs.Config.{Layout, IsLayoutWithin}
use Rattle.vs_types.specs.Frame.{IsFrame}
use Rattle.vs_types.specs.declared.limits.TheConstants.{FRAMES}
use Rattle.nr_trace.specs.Recording.{IsRecording, IsEvent, IsImage}
use Rattle.std.proofs.lemmas.Option.{same_Some}
use Rattle.nr_trace.specs.Calls.{IsRead, Response}
use Rattle.nr_trace.specs.Examples.{map_then_resolve, map_then_touch, map_then_touch_bytes, no_dump}
use Rattle.nr_trace.specs.Faults.{HasFault}
use Rattle.nr_trace.specs.FirstFault.{HasFormatFault, HasSegmentFault}
use Rattle.nr_trace.specs.Spelling.{spelling, SpellsSegment}
use Rattle.nr_trace.specs.Versions.{Follows}
use Rattle.nr_trace.specs.declared.formats.version.Version.TheVariants.{Segment}
use Rattle.nr_trace.specs.declared.formats.version.Form.TheVariants as forms
use Rattle.nr_trace.specs.declared.refusals.fault.Fault.TheVariants.{PastLog}
use Rattle.nr_trace.specs.declared.refusals.refusal.TraceUnit.TheVariants as units
use Rattle.nr_trace.specs.declared.refusals.fault.Format.TheVariants.{BadChain, BadMagic}

no_entries : finite.entries no_dump.frames ≡ []
no_entries = finite.entries-from_sorted nat_cmp [] tt

none_there : finite.len no_dump.frames ≡ 0
none_there = finite.len-entries no_dump.frames ∙ ap length no_entries

dump_fits : IsImage Segment no_dump
dump_fits = record {
  applied = lit< tt;
  root = lit< tt;
  some_frame = omega arith;
  few_frames = subst (λ n. n ≤ FRAMES) (sym none_there) (lit≤ tt);
  nothing = λ _. (refl, refl);
  numbers = subst (λ (es : List (ℕ × List ℕ)). All (λ n. n < 2 ^ 40) (map (λ e. e.0) es)) (sym no_entries) (All-from_recursion (λ n. n < 2 ^ 40) [] tt);
  words = subst (λ (es : List (ℕ × List ℕ)). All IsFrame (map (λ e. e.1) es)) (sym no_entries) (All-from_recursion IsFrame [] tt);
}

layout_fits : IsLayoutWithin FRAMES FRAMES map_then_touch.layout
layout_fits = record {
  some_replica = lit≤ tt;
  few_replicas = lit≤ tt;
  some_thread = lit≤ tt;
  few_threads = lit≤ tt;
  some_table = lit≤ tt;
  few_tables = lit≤ tt;
}

in_range : IsRecording map_then_touch
in_range = record {
  layout = layout_fits;
  depth = tt;
  start = tt;
  few_start = lit≤ tt;
  few_places = lit≤ tt;
  log = All-from_recursion (λ call. call < 2 ^ 32) map_then_touch.log (lit< tt, tt);
  few_events = lit≤ tt;
  events = All-from_recursion (IsEvent Segment map_then_touch.layout) map_then_touch.events (
    (lit< tt, lit< tt, record { canonical = refl; aligned = refl; phys_aligned = refl; phys_range = lit≤ tt }, tt),
    ((lit< tt, lit< tt, tt, tt), ((lit< tt, lit< tt, refl, tt), ((lit< tt, lit< tt, lit< tt, tt), tt))),
  );
  one_dump_each = refl;
  dumps = All-from_recursion (IsImage Segment) map_then_touch.dumps (dump_fits, tt);
}

whole_bytes : map_then_touch_bytes ≡ spelling map_then_touch
whole_bytes = rw (none_there, no_entries) refl

pub first : SpellsSegment None map_then_touch_bytes map_then_touch
first = record { of_form = tt; follows = tt; in_range = in_range; spelled = whole_bytes }

pub further : SpellsSegment (Some map_then_touch.layout) map_then_touch_bytes map_then_touch
further = record { of_form = tt; follows = refl; in_range = in_range; spelled = whole_bytes }

-- it has two threads, and the segment before it has one
laid_otherwise : Follows (forms.Segment (Some map_then_resolve.layout)) map_then_touch.layout → ⊥
laid_otherwise e =
    let threads : suc zero ≡ suc (suc zero) = ap (λ (l : Layout). l.threads) e in
    cc

pub otherwise : HasSegmentFault (Some map_then_resolve.layout) map_then_touch_bytes BadChain
otherwise = (
  units.SegmentCounts,
  length (drop 6 map_then_touch_bytes),
  inr (inr (
    tt,
    _,
    tt,
    refl,
    inr (inr (
      Segment,
      _,
      tt,
      refl,
      inr (inr (
        record { layout = map_then_touch.layout; places = 1; events = 4; start = 0 },
        _,
        record { layout = layout_fits; depth = tt; few_places = lit≤ tt; few_events = lit≤ tt; few_start = lit≤ tt },
        refl,
        inl (laid_otherwise, refl),
      )),
    )),
  )),
)

pub no_trace : HasFormatFault map_then_touch_bytes BadMagic
no_trace = (
  units.Magic,
  length map_then_touch_bytes,
  inr (inl (lit≤ tt, refl, λ value fits e. let last : 83 ≡ 84 = ap (λ (bytes : List ℕ). get_or bytes 3 0) e in omega arith)),
)

pub within : HasFault map_then_touch (PastLog 3) → ⊥
within (reply, is, (read, past)) = no_read (subst (IsRead map_then_touch) (ap (λ (r : Response). r.call) (sym (same_Some _ reply is))) read) where
  no_read : IsRead map_then_touch 2 → ⊥
  no_read h = cc
