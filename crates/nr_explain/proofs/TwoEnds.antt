-- The two ends of bytes, as more come, and what they show.
use Rattle.std.proofs.Common.{◌≡◌, ℕ, ◌+◌, ◌-◌, ◌<◌, ◌≤◌, inl, inr, All, min, List, ◌++◌, length, take, drop, Ok, refl, ap, sym, ◌∙◌, subst, arith}
use Rattle.std.proofs.Common.{append_assoc}
use Rattle.std.proofs.Math.Seq.{drop-append-add, take-append-add}
use Rattle.std.proofs.lemmas.Bool.{cases_lt}
use Rattle.std.proofs.lemmas.List.{append-nil, drop-append-le, drop-drop, drop_all, length-append, length-drop, length-take-le, take-append-drop}
use Rattle.std.proofs.lemmas.List.{take-append-le, take_all, take_min}
use Rattle.std.proofs.lemmas.List.Elements.{All-append}
use Rattle.nr_trace.specs.Feed.{Fed, Feeds}
use Rattle.nr_trace.specs.Feed.Fed.{Taken}
use Rattle.nr_trace.specs.FirstFault.{HasRefusalAs}
use Rattle.nr_trace.specs.declared.refusals.refusal.Refusal.{Refusal}
use Rattle.nr_trace.specs.declared.formats.version.Form.{Form}
use Rattle.nr_explain.specs.Units.{IsBadUnitAs}
use Rattle.nr_explain.specs.inside.Ends.{AreEnds, IsFed, IsUnitOf, taken}
use Rattle.nr_explain.specs.declared.ends.Ends.{Ends}
use Rattle.nr_explain.specs.declared.ends.TheConstants.{TAIL_BYTES}
use Rattle.nr_explain.specs.declared.units.TheConstants.{HEADER_BYTES}
use Rattle.nr_explain.specs.declared.units.BadUnit.{BadUnit}
use Rattle.nr_explain.proofs.BadUnits.{bad_unit_of}
use Rattle.nr_explain.proofs.Bounds.{few_bytes}

-- ---- more bytes

-- the first bytes, with a piece more
pub more_first : (bytes piece header : List ℕ) (most missing : ℕ) → header ≡ take most bytes → missing ≡ min (most - length header) (length piece)
    → header ++ take missing piece ≡ take most (bytes ++ piece)
more_first bytes piece header most missing is few = elim (cases_lt (length bytes) most) [
  | inl short ↦ (
      let whole : header ≡ bytes = is ∙ take_all most bytes (omega (arith, short)) in
      let n = most - length bytes in
      let same : missing ≡ min n (length piece) = few ∙ ap (λ (l : List ℕ). min (most - length l) (length piece)) whole in
      let all : length bytes + n ≡ most = omega (arith, short) in
      ap (λ (l : List ℕ). l ++ take missing piece) whole ∙ ap (λ (k : ℕ). bytes ++ take k piece) same
      ∙ ap (λ (l : List ℕ). bytes ++ l) (take_min n piece)
      ∙ sym (take-append-add bytes piece n) ∙ ap (λ (k : ℕ). take k (bytes ++ piece)) all)
  | inr long ↦ (
      let none : missing ≡ 0 = omega (arith, few, ap length is, length-take-le most bytes long) in
      ap (λ (k : ℕ). header ++ take k piece) none ∙ append-nil header ∙ is ∙ sym (take-append-le most bytes piece long))
]

-- what is taken away behind a front, and at the front of what is behind
pub cut_two : (front behind : List ℕ) (all over from : ℕ) → over + from ≡ all → (all ≤ length front → from ≡ 0) → (length front ≤ all → over ≡ length front)
    → drop over front ++ drop from behind ≡ drop all (front ++ behind)
cut_two front behind all over from is short long = elim (cases_lt all (length front)) [
  | inl less ↦ (
      let none : from ≡ 0 = short (omega (arith, less)) in
      let same : over ≡ all = omega (arith, is, none) in
      ap (λ (n : ℕ). drop over front ++ drop n behind) none ∙ ap (λ (n : ℕ). drop n front ++ behind) same
      ∙ sym (drop-append-le all front behind (omega (arith, less))))
  | inr high ↦ (
      let whole : over ≡ length front = long high in
      let same : length front + from ≡ all = omega (arith, is, whole) in
      ap (λ (l : List ℕ). l ++ drop from behind) (drop_all over front (omega (arith, whole)))
      ∙ sym (drop-append-add front behind from) ∙ ap (λ (n : ℕ). drop n (front ++ behind)) same)
]

-- the last bytes, with a piece more
pub more_last : (bytes piece tail : List ℕ) (most : ℕ) → tail ≡ drop (length bytes - most) bytes
    → drop (length tail + length piece - most) (tail ++ piece) ≡ drop (length (bytes ++ piece) - most) (bytes ++ piece)
more_last bytes piece tail most is =
    let m = length bytes - most in
    let n = length tail + length piece - most in
    let long : length tail ≡ length bytes - m = ap length is ∙ length-drop m bytes in
    let all : m + n ≡ length (bytes ++ piece) - most = omega (arith, long, length-append bytes piece) in
    ap (λ (l : List ℕ). drop n (l ++ piece)) is ∙ ap (drop n) (sym (drop-append-le m bytes piece (omega arith)))
    ∙ drop-drop n m (bytes ++ piece) ∙ ap (λ (k : ℕ). drop k (bytes ++ piece)) all

-- ---- the bad unit

-- what comes before the last bytes
before_last : (bytes tail : List ℕ) (n : ℕ) → tail ≡ drop n bytes → bytes ≡ take n bytes ++ tail
before_last bytes tail n is = sym (take-append-drop n bytes) ∙ ap (λ (l : List ℕ). take n bytes ++ l) (sym is)

pub cut_off_of : (form : Form) (bytes : List ℕ) (ends : Ends) (refusal : Refusal) (header : List ℕ) (bad : BadUnit) → AreEnds bytes ends
    → HasRefusalAs form bytes refusal → refusal.left ≤ length ends.tail.items → header ≡ ends.header.items
    → IsUnitOf refusal ends.count header ends.tail.items bad → IsBadUnitAs form bytes bad
cut_off_of form bytes ends refusal header bad are given within header_is is =
    let n = length bytes - TAIL_BYTES in
    bad_unit_of form bytes (take n bytes) header ends.tail.items ends.count refusal bad given (before_last bytes ends.tail.items n are.tail) within
    are.count (header_is ∙ are.header) is

pub refused_of : (form : Form) (bytes piece : List ℕ) (ends : Ends) (refusal : Refusal) (header tail : List ℕ) (count : ℕ) (bad : BadUnit)
    → AreEnds bytes ends → HasRefusalAs form (bytes ++ piece) refusal → refusal.left ≤ length ends.tail.items + length piece
    → header ≡ ends.header.items ++ take (min (HEADER_BYTES - length ends.header.items) (length piece)) piece → tail ≡ ends.tail.items ++ piece
    → count ≡ ends.count + length piece → IsUnitOf refusal count header tail bad → IsBadUnitAs form (bytes ++ piece) bad
refused_of form bytes piece ends refusal header tail count bad are given within header_is tail_is count_is is =
    let n = length bytes - TAIL_BYTES in
    let cut : bytes ++ piece ≡ take n bytes ++ tail =
    ap (λ (l : List ℕ). l ++ piece) (before_last bytes ends.tail.items n are.tail) ∙ append_assoc (take n bytes) ends.tail.items piece
    ∙ ap (λ (l : List ℕ). take n bytes ++ l) (sym tail_is) in
    bad_unit_of form (bytes ++ piece) (take n bytes) header tail count refusal bad given cut
    (omega (arith, within, ap length tail_is, length-append ends.tail.items piece))
    (omega (arith, count_is, are.count, length-append bytes piece))
    (header_is ∙ more_first bytes piece ends.header.items HEADER_BYTES _ are.header refl) is

-- ---- the feed

-- with a piece more nothing is wrong yet
pub fed_more : (bytes piece : List ℕ) (old new : Fed) (ends grown : Ends) → IsFed bytes old ends → All (λ byte. byte < 256) piece
    → Feeds old piece new (Ok tt) → AreEnds (bytes ++ piece) grown → IsFed (taken new) new grown
fed_more bytes piece old new ends grown fed all feeds are =
    let here : Feeds (Taken bytes) piece new (Ok tt) = subst (λ (f : Fed). Feeds f piece new (Ok tt)) fed.fed feeds in
    let every : All (λ byte. byte < 256) (bytes ++ piece) = All-append (λ byte. byte < 256) bytes piece fed.all all in
    let whole : IsFed (bytes ++ piece) new grown = record {
      fed = here.0;
      right = here.1;
      all = every;
      few = few_bytes (bytes ++ piece) every here.1;
      are = are;
    } in
    subst (λ (l : List ℕ). IsFed l new grown) (sym (ap taken here.0)) whole
