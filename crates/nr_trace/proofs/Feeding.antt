-- A feed that takes whole units one after the other.
use Rattle.std.proofs.Common.{◌≡◌, ◌≢◌, ℕ, ◌+◌, ◌<◌, ◌≤◌, List, [], ◌∷◌, ◌++◌, length, take, drop, Option, Some, None, Result, Ok, Err, refl, sym, ap, subst, subst₂}
use Rattle.std.proofs.Common.{◌∙◌, append_assoc, arith, length-append, length-drop}
use Rattle.std.specs.Prelude.{IsNone, IsSome, MatchResult}
use Rattle.std.proofs.Common.{Vec, Global}
use Rattle.std.proofs.lemmas.List.{append-nil, take_all, take_at, take-append-drop}
use Rattle.std.proofs.Math.Seq.{take-length, take-append-add}
use Rattle.vs_types.specs.Refusal.{IfRefused}
use Rattle.vs_types.specs.declared.requests.refusal.Fail.{Fail}
use Rattle.vs_types.specs.declared.requests.refusal.Fail.TheVariants as fails
use Rattle.nr_trace.specs.Recording.{Recording}
use Rattle.nr_trace.specs.Spelling.{SpellsAs}
use Rattle.nr_trace.specs.FirstFault.{HasFaultAs, HasRefusalAs, IsRefusedBy, and_then, refusal_at, unit_size}
use Rattle.nr_trace.specs.Feed.{Fed, Ends, EndsRefused, Feeds, IsCutOff, IsFaultlessYet, IsRefusedAs, LastsAs, fault_alone, fault_of}
use Rattle.nr_trace.specs.Feed.Fed.{Taken}
use Rattle.nr_trace.specs.inside.Progress.{cut_off, form_of, unit_bytes, said, Ahead, HasRead}
use Rattle.nr_trace.specs.inside.Feeding.{IsSound, AreFewer, IsLeft, IsCut, HasCome, HasTaken, IsFeeding, fed}
use Rattle.nr_trace.specs.declared.refusals.refusal.Refusal.{Refusal}
use Rattle.nr_trace.specs.declared.refusals.refusal.TraceUnit.TheVariants as units
use Rattle.nr_trace.specs.declared.refusals.fault.Format.TheVariants.{Truncated, Trailing}
use Rattle.nr_trace.specs.declared.reading.reader.Reader.{Reader}
use Rattle.nr_trace.specs.declared.reading.reader.Reader.TheVariants.{Words}
use Rattle.nr_trace.specs.declared.formats.version.Form.{Form}
use Rattle.nr_trace.specs.declared.formats.version.Form.TheVariants as forms
use Rattle.nr_trace.specs.declared.reading.feed.State.{State}
use Rattle.nr_trace.specs.declared.reading.feed.State.TheVariants.{Open, Stopped}
use Rattle.nr_trace.proofs.LawsOfFormat.{no_fault, one_fault}
use Rattle.nr_trace.proofs.Units.{more_left, refused_by}
use Rattle.nr_trace.proofs.Whole.{cut_off_within, few_cut_off, most_bytes, ready_to_end, some_bytes, too_long, too_short}

-- of a piece that comes after these bytes, which are to have this form, the reader has read what comes before the rest
pub record IsBetween (form : Form) (bytes piece : List ℕ) (reader : Reader) (rest : List ℕ) : Type 0 where
  pub form_is : form_of reader ≡ form
  pub sound : IsSound reader
  pub front : List ℕ
  pub cut : piece ≡ front ++ rest
  pub read : said reader ≡ bytes ++ front

pub starts : (reader : Reader) (piece : List ℕ) → IsSound reader → IsBetween (form_of reader) (said reader) piece reader piece
starts reader piece sound = record { form_is = refl; sound = sound; front = []; cut = refl; read = sym (append-nil (said reader)) }

-- the bytes that a piece completes, of a unit or of all that is read, and what is behind them
pub unit_completed : (begun piece front behind unit : List ℕ) → piece ≡ front ++ behind → unit ≡ begun ++ front → begun ++ piece ≡ unit ++ behind
unit_completed begun piece front behind unit cut is =
    ap (λ (l : List ℕ). begun ++ l) cut ∙ sym (append_assoc begun front behind) ∙ ap (λ (l : List ℕ). l ++ behind) (sym is)

pub sound_from : (form : Form) (reader : Reader) → HasRead form [] (HasRefusalAs form) reader → IsSound reader
sound_from form reader has = record {
  ready = has.ready;
  faults = λ rest fault h. subst (λ (f : Form). HasRefusalAs f (said reader ++ rest) fault) (sym has.form_is)
      (subst (λ (l : List ℕ). HasRefusalAs form (l ++ rest) fault) (sym has.bytes_are) (has.faults rest fault h));
}

pub sound_after : (reader next : Reader) (unit : List ℕ) → IsSound reader
    → HasRead (form_of reader) (said reader ++ unit) (λ more fault. Ahead reader (unit ++ more) fault) next → IsSound next
sound_after reader next unit sound has = record {
  ready = has.ready;
  faults = λ rest fault h. subst (λ (f : Form). HasRefusalAs f (said next ++ rest) fault) (sym has.form_is)
      (subst (λ (l : List ℕ). HasRefusalAs (form_of reader) l fault)
      (sym (ap (λ (l : List ℕ). l ++ rest) has.bytes_are ∙ append_assoc (said reader) unit rest))
      (sound.faults (unit ++ rest) fault (has.faults rest fault h)));
}

pub goes : (form : Form) (bytes piece : List ℕ) (reader next : Reader) (rest unit behind : List ℕ) → IsBetween form bytes piece reader rest
    → rest ≡ unit ++ behind → HasRead (form_of reader) (said reader ++ unit) (λ more fault. Ahead reader (unit ++ more) fault) next
    → IsBetween form bytes piece next behind
goes form bytes piece reader next rest unit behind way cut has = record {
  form_is = has.form_is ∙ way.form_is;
  sound = sound_after reader next unit way.sound has;
  front = way.front ++ unit;
  cut = way.cut ∙ ap (λ (l : List ℕ). way.front ++ l) cut ∙ sym (append_assoc way.front unit behind);
  read = has.bytes_are ∙ ap (λ (l : List ℕ). l ++ unit) way.read ∙ append_assoc bytes way.front unit;
}

-- a refusal ahead of the reader, whatever comes, is one of all the bytes
settled : (form : Form) (bytes piece : List ℕ) (reader : Reader) (rest : List ℕ) (refusal : Refusal) → IsBetween form bytes piece reader rest
    → IsRefusedBy (Ahead reader) rest refusal → IsRefusedAs form (bytes ++ piece) (length piece) refusal
settled form bytes piece reader rest refusal way given =
    let parts : bytes ++ piece ≡ said reader ++ rest = unit_completed bytes piece way.front rest (said reader) way.cut way.read in
    record {
      near = omega (arith, given.within, ap length way.cut, length-append way.front rest);
      refused = record {
        within = omega (arith, given.within, ap length parts, length-append (said reader) rest);
        whole = given.whole;
        lasts = λ more. subst (λ (f : Form). HasRefusalAs f ((bytes ++ piece) ++ more) (and_then more refusal)) way.form_is
            (subst (λ (l : List ℕ). HasRefusalAs (form_of reader) l (and_then more refusal))
            (sym (ap (λ (l : List ℕ). l ++ more) parts ∙ append_assoc (said reader) rest more))
            (way.sound.faults (rest ++ more) (and_then more refusal) (given.lasts more)));
      };
    }

-- the unit begins in more last bytes
pub nearer : (form : Form) (bytes : List ℕ) (few many : ℕ) (fail : Fail Refusal) → few ≤ many → IfRefused (IsRefusedAs form bytes few) fail
    → IfRefused (IsRefusedAs form bytes many) fail
nearer form bytes few many fails.Memory more h = tt
nearer form bytes few many (fails.Refused refusal) more h = record { near = omega (arith, h.near, more); refused = h.refused }

-- a run at the front of bytes is refused, and so are they
pub front_refused : (Behind : List ℕ → Refusal → Type 0) (run behind : List ℕ) (refusal : Refusal) → IsRefusedBy Behind run refusal
    → IsRefusedBy Behind (run ++ behind) (and_then behind refusal)
front_refused Behind run behind refusal given = record {
  within = omega (arith, given.within, length-append run behind);
  whole = omega (arith, given.whole);
  lasts = λ rest. subst₂ Behind (sym (append_assoc run behind rest))
      (ap (λ (n : ℕ). let refusal : Refusal = record { fault = refusal.fault; unit = refusal.unit; left = n } in refusal)
      (let all : refusal.left + length (behind ++ rest) ≡ refusal.left + length behind + length rest = omega (arith, length-append behind rest) in all))
      (given.lasts (behind ++ rest));
}

pub refuses : (form : Form) (bytes piece : List ℕ) (reader : Reader) (rest unit behind : List ℕ) (fail : Fail Refusal) → IsBetween form bytes piece reader rest
    → rest ≡ unit ++ behind → IfRefused (IsRefusedBy (Ahead reader) (unit ++ behind)) fail → IfRefused (IsRefusedAs form (bytes ++ piece) (length piece)) fail
refuses form bytes piece reader rest unit behind fails.Memory way cut h = tt
refuses form bytes piece reader rest unit behind (fails.Refused refusal) way cut h =
    settled form bytes piece reader rest refusal way (subst (λ (l : List ℕ). IsRefusedBy (Ahead reader) l refusal) (sym cut) h)

more_than_none : (rest more : List ℕ) → rest ≢ [] → rest ++ more ≢ []
more_than_none [] more some = absurd (some refl)
more_than_none (x ∷ xs) more some = λ e. cc

some_length : (rest : List ℕ) → rest ≢ [] → unit_size units.Behind ≤ length rest
some_length [] some = absurd (some refl)
some_length (x ∷ xs) some = omega arith

pub trailing : (bytes piece : List ℕ) (reader : Reader) (rest : List ℕ) → IsBetween forms.Trace bytes piece reader rest → unit_bytes reader ≡ None
    → rest ≢ [] → IsRefusedAs forms.Trace (bytes ++ piece) (length piece) (refusal_at units.Behind rest Trailing)
trailing bytes piece reader rest way is some =
    settled forms.Trace bytes piece reader rest (refusal_at units.Behind rest Trailing) way
    (refused_by (Ahead reader) units.Behind rest Trailing (refusal_at units.Behind rest Trailing) (some_length rest some) refl
    (λ more. subst (Ahead reader (rest ++ more)) (more_left units.Behind rest more Trailing (refusal_at units.Behind rest Trailing) refl)
    (too_long reader (rest ++ more) way.sound.ready way.form_is is (more_than_none rest more some))))

pub cut_short : (form : Form) (bytes piece : List ℕ) (reader : Reader) (rest : List ℕ) (len : ℕ) → IsBetween form bytes piece reader rest
    → unit_bytes reader ≡ Some len → length rest < len → IsCut form bytes piece reader rest
cut_short form bytes piece reader rest len way is short = record {
  form_is = way.form_is;
  sound = way.sound;
  front = way.front;
  cut = way.cut;
  read = way.read;
  left = subst (λ o. IsLeft o rest) (sym is) short;
}

pub cut_at_end : (form : Form) (bytes piece : List ℕ) (reader : Reader) (rest : List ℕ) → IsBetween form bytes piece reader rest → unit_bytes reader ≡ None
    → IsCut form bytes piece reader rest
cut_at_end form bytes piece reader rest way is = record {
  form_is = way.form_is;
  sound = way.sound;
  front = way.front;
  cut = way.cut;
  read = way.read;
  left = subst (λ o. IsLeft o rest) (sym is) tt;
}

-- ---- between two pieces

-- a unit is left, which has begun
pub come : (form : Form) (bytes piece : List ℕ) (reader : Reader) (rest : List ℕ) (begun : Vec ℕ Global) (len : ℕ) → IsCut form bytes piece reader rest
    → unit_bytes reader ≡ Some len → begun.items ≡ rest → HasCome form (bytes ++ piece) (Open reader begun)
come form bytes piece reader rest begun len cut more is =
    let short : length rest < len = subst (λ o. IsLeft o rest) more cut.left in
    record {
      feeding = (
        cut.form_is,
        cut.sound,
        subst (λ (l : List ℕ). AreFewer (unit_bytes reader) l) (sym is) (subst (λ o. AreFewer o rest) (sym more) short),
      );
      bytes_are = ap (λ (l : List ℕ). Taken (said reader ++ l)) is ∙ ap Taken (sym (unit_completed bytes piece cut.front rest (said reader) cut.cut cut.read));
    }

-- all bytes of the piece are taken
pub taken_all : (form : Form) (bytes piece : List ℕ) (state : State) (count : ℕ) → count ≡ length piece → HasCome form (bytes ++ piece) state
    → HasTaken form bytes piece state count
taken_all form bytes piece state count all has = record {
  within = omega (arith, all);
  come = subst (λ (l : List ℕ). HasCome form (bytes ++ l) state) (sym (ap (λ (n : ℕ). take n piece) all ∙ take-length piece)) has;
  at_end = λ less. absurd (omega (arith, less, all));
}

-- no unit is left
pub taken_at_end : (form : Form) (bytes piece : List ℕ) (reader : Reader) (rest : List ℕ) (begun : Vec ℕ Global) (count : ℕ)
    → IsCut form bytes piece reader rest → unit_bytes reader ≡ None → begun.items ≡ [] → count + length rest ≡ length piece
    → HasTaken form bytes piece (Open reader begun) count
taken_at_end form bytes piece reader rest begun count cut is none all =
    let long : length cut.front ≡ count = omega (arith, all, ap length cut.cut, length-append cut.front rest) in
    let front : take count piece ≡ cut.front = ap (take count) cut.cut ∙ take_at cut.front rest count long in
    record {
      within = omega (arith, all);
      come = record {
        feeding = (cut.form_is, cut.sound, subst (λ o. AreFewer o begun.items) (sym is) none);
        bytes_are = ap (λ (l : List ℕ). Taken (said reader ++ l)) none
            ∙ ap Taken (append-nil (said reader) ∙ cut.read ∙ ap (λ (l : List ℕ). bytes ++ l) (sym front));
      };
      at_end = λ _. is;
    }

taken_after : (form : Form) (bytes begun piece front behind unit : List ℕ) (reader : Reader) (state : State) (count : ℕ) → form_of reader ≡ form
    → said reader ≡ bytes ++ unit → unit ≡ begun ++ front → piece ≡ front ++ behind → HasTaken (form_of reader) (said reader) behind state count
    → HasTaken form (bytes ++ begun) piece state (length front + count)
taken_after form bytes begun piece front behind unit reader state count form_is read is cut has =
    let long : length piece ≡ length front + length behind = ap length cut ∙ length-append front behind in
    let part : take (length front + count) piece ≡ front ++ take count behind =
    ap (take (length front + count)) cut ∙ take-append-add front behind count in
    let all : said reader ++ take count behind ≡ (bytes ++ begun) ++ take (length front + count) piece =
    ap (λ (l : List ℕ). l ++ take count behind) (read ∙ ap (λ (l : List ℕ). bytes ++ l) is ∙ sym (append_assoc bytes begun front))
    ∙ append_assoc (bytes ++ begun) front (take count behind) ∙ ap (λ (l : List ℕ). (bytes ++ begun) ++ l) (sym part) in
    record {
      within = omega (arith, long, has.within);
      come = subst (λ (l : List ℕ). HasCome form l state) all (subst (λ (f : Form). HasCome f (said reader ++ take count behind) state) form_is has.come);
      at_end = λ less. has.at_end (omega (arith, less, long));
    }

-- what is taken after the unit that a piece completes is taken of the piece
pub taken_behind : (form : Form) (bytes begun piece front behind unit : List ℕ) (reader : Reader) (state : State) (missing count : ℕ)
    → form_of reader ≡ form → said reader ≡ bytes ++ unit → unit ≡ begun ++ front → piece ≡ front ++ behind → length front ≡ missing
    → HasTaken (form_of reader) (said reader) behind state count → HasTaken form (bytes ++ begun) piece state (missing + count)
taken_behind form bytes begun piece front behind unit reader state missing count form_is read is cut so has =
    subst (λ (n : ℕ). HasTaken form (bytes ++ begun) piece state (n + count)) so
    (taken_after form bytes begun piece front behind unit reader state count form_is read is cut has)

pub refused_behind : (form : Form) (bytes begun piece front behind unit : List ℕ) (reader : Reader) (fail : Fail Refusal) → form_of reader ≡ form
    → said reader ≡ bytes ++ unit → unit ≡ begun ++ front → piece ≡ front ++ behind
    → IfRefused (IsRefusedAs (form_of reader) (said reader ++ behind) (length behind)) fail
    → IfRefused (IsRefusedAs form (bytes ++ begun ++ piece) (length (begun ++ piece))) fail
refused_behind form bytes begun piece front behind unit reader fail form_is read is cut why =
    let all : said reader ++ behind ≡ bytes ++ begun ++ piece =
    ap (λ (l : List ℕ). l ++ behind) (read ∙ ap (λ (l : List ℕ). bytes ++ l) is ∙ sym (append_assoc bytes begun front))
    ∙ append_assoc (bytes ++ begun) front behind ∙ ap (λ (l : List ℕ). (bytes ++ begun) ++ l) (sym cut) in
    let last = length (begun ++ piece) in
    subst (λ (l : List ℕ). IfRefused (IsRefusedAs form l last) fail) all
    (subst (λ (f : Form). IfRefused (IsRefusedAs f (said reader ++ behind) last) fail) form_is
    (nearer (form_of reader) (said reader ++ behind) (length behind) last fail
    (omega (arith, ap length cut, length-append front behind, length-append begun piece)) why))

-- of a trace all has to be taken
pub all_taken : (form : Form) (bytes piece : List ℕ) (state : State) (count : ℕ) → HasTaken form bytes piece state count → length piece ≤ count
    → HasCome form (bytes ++ piece) state
all_taken form bytes piece state count has all = subst (λ (l : List ℕ). HasCome form (bytes ++ l) state) (take_all count piece all) has.come

pub some_left : (bytes piece : List ℕ) (state : State) (count : ℕ) → HasTaken forms.Trace bytes piece state count → count < length piece
    → IsRefusedAs forms.Trace (bytes ++ piece) (length piece) (refusal_at units.Behind (drop count piece) Trailing)
some_left bytes piece (Open reader begun) count has less =
    let is = has.at_end less in
    let feeding = has.come.feeding in
    let nothing : begun.items ≡ [] = subst (λ o. AreFewer o begun.items) is feeding.2 in
    let same : Taken (said reader ++ begun.items) ≡ Taken (bytes ++ take count piece) = has.come.bytes_are in
    let read : said reader ++ begun.items ≡ bytes ++ take count piece = cc in
    trailing bytes piece reader (drop count piece)
    (record {
      form_is = feeding.0;
      sound = feeding.1;
      front = take count piece;
      cut = sym (take-append-drop count piece);
      read = sym (append-nil (said reader)) ∙ ap (λ (l : List ℕ). said reader ++ l) (sym nothing) ∙ read;
    })
    is (λ none. omega (arith, less, ap length none, length-drop count piece))
some_left bytes piece (Stopped fail) count has less = absurd (has.at_end less)

none_fewer : (o : Option ℕ) → ((len : ℕ) → o ≡ Some len → 1 ≤ len) → AreFewer o []
none_fewer None some = refl
none_fewer (Some len) some = some len refl

pub nothing_begun : (reader : Reader) → AreFewer (unit_bytes reader) []
nothing_begun reader = none_fewer (unit_bytes reader) (some_bytes reader)

-- a unit that has begun is cut off
pub is_cut_off : (reader : Reader) (len : ℕ) (rest : List ℕ) → IsSound reader → unit_bytes reader ≡ Some len → length rest < len
    → HasRefusalAs (form_of reader) (said reader ++ rest) (cut_off reader rest)
is_cut_off reader len rest sound is short = sound.faults rest (cut_off reader rest) (too_short reader len rest sound.ready is short)

fault_of_cut_off : (reader : Reader) (begun : List ℕ) → (cut_off reader begun).fault ≡ Truncated
fault_of_cut_off (Words parts frame) begun = refl
fault_of_cut_off _ begun = refl

pub truncated : (reader : Reader) (len : ℕ) (rest : List ℕ) → IsSound reader → unit_bytes reader ≡ Some len → length rest < len
    → HasFaultAs (form_of reader) (said reader ++ rest) Truncated
truncated reader len rest sound is short =
    let refusal = cut_off reader rest in
    subst (HasFaultAs (form_of reader) (said reader ++ rest)) (fault_of_cut_off reader rest)
    (refusal.unit, refusal.left, is_cut_off reader len rest sound is short)

-- the fault of a refusal lasts
pub fault_lasts : (form : Form) (bytes : List ℕ) (last : ℕ) (fail : Fail Refusal) → IfRefused (IsRefusedAs form bytes last) fail
    → IfRefused (LastsAs form bytes) (fault_of fail)
fault_lasts form bytes last fails.Memory h = tt
fault_lasts form bytes last (fails.Refused refusal) h = λ (rest : List ℕ). (refusal.unit, refusal.left + length rest, h.refused.lasts rest)

-- nothing is wrong with bytes of which all whole units are read, but that there may be too few
fault_ahead : (o : Option ℕ) (reader : Reader) (rest : List ℕ) → unit_bytes reader ≡ o → IsSound reader → AreFewer o rest
    → IsFaultlessYet (form_of reader) (said reader ++ rest)
fault_ahead None reader rest is sound none =
    λ fault h. let end = ready_to_end reader sound.ready is in
    absurd (no_fault (form_of reader) (said reader) end.0 fault end.1
    (subst (λ (l : List ℕ). HasFaultAs (form_of reader) l fault) (ap (λ (l : List ℕ). said reader ++ l) none ∙ append-nil (said reader)) h))
fault_ahead (Some len) reader rest is sound short =
    λ fault h. one_fault (form_of reader) (said reader ++ rest) fault Truncated h (truncated reader len rest sound is short)

pub may_go_on : (reader : Reader) (rest : List ℕ) → IsSound reader → AreFewer (unit_bytes reader) rest
    → IsFaultlessYet (form_of reader) (said reader ++ rest)
may_go_on reader rest sound fewer = fault_ahead (unit_bytes reader) reader rest refl sound fewer

pub goes_on : (form : Form) (bytes : List ℕ) (state : State) → IsFeeding form state → fed state ≡ Taken bytes → IsFaultlessYet form bytes
goes_on form bytes (Open reader begun) feeding is =
    let same : said reader ++ begun.items ≡ bytes = cc in
    subst (λ (f : Form). IsFaultlessYet f bytes) feeding.0
    (subst (IsFaultlessYet (form_of reader)) same (may_go_on reader begun.items feeding.1 feeding.2))
goes_on form bytes (Stopped fail) feeding is = absurd cc

-- ---- pieces of a trace

pub piece_taken : (self : Fed) (old next : State) (reader : Reader) (begun : Vec ℕ Global) (piece : List ℕ) → fed old ≡ self → old ≡ Open reader begun
    → HasCome forms.Trace (said reader ++ begun.items ++ piece) next → Feeds self piece (fed next) (Ok tt)
piece_taken self old next reader begun piece view is has =
    subst (λ f. Feeds f piece (fed next) (Ok tt)) (ap fed (sym is) ∙ view)
    (has.bytes_are, goes_on forms.Trace (said reader ++ begun.items ++ piece) next has.feeding has.bytes_are)

pub piece_refused : (self : Fed) (old : State) (reader : Reader) (begun : Vec ℕ Global) (piece : List ℕ) (fail : Fail Refusal) → fed old ≡ self
    → old ≡ Open reader begun → IfRefused (IsRefusedAs forms.Trace (said reader ++ begun.items ++ piece) (length (begun.items ++ piece))) fail
    → Feeds self piece (fed (Stopped fail)) (Err (fault_of fail))
piece_refused self old reader begun piece fail view is why =
    subst (λ f. Feeds f piece (fed (Stopped fail)) (Err (fault_of fail))) (ap fed (sym is) ∙ view) (refl, fault_lasts forms.Trace _ _ fail why)

pub still_refused : (self : Fed) (old : State) (piece : List ℕ) (fail : Fail Refusal) → fed old ≡ self → old ≡ Stopped fail
    → Feeds self piece (fed (Stopped fail)) (Err (fault_of fail))
still_refused self old piece fail view is =
    subst (λ f. Feeds f piece (fed (Stopped fail)) (Err (fault_of fail))) (ap fed (sym is) ∙ view) (refl, refl)

-- what has begun is less than any unit that is read whole
few_of : (o : Option ℕ) (begun : List ℕ) → ((len : ℕ) → o ≡ Some len → len ≤ 24) → AreFewer o begun → length begun ≤ 23
few_of None begun most fewer = omega (arith, ap length fewer)
few_of (Some len) begun most fewer = omega (arith, most len refl, fewer)

-- the refusal is that of the bytes so far
pub refused_so : (form : Form) (old : State) (reader : Reader) (begun : Vec ℕ Global) (bytes piece : List ℕ) (fail : Fail Refusal) → fed old ≡ Taken bytes
    → old ≡ Open reader begun → AreFewer (unit_bytes reader) begun.items
    → IfRefused (IsRefusedAs form (said reader ++ begun.items ++ piece) (length (begun.items ++ piece))) fail
    → IfRefused (IsRefusedAs form (bytes ++ piece) (length piece + 23)) fail
refused_so form old reader begun bytes piece fail view is fewer why =
    let same : Taken (said reader ++ begun.items) ≡ Taken bytes = ap fed (sym is) ∙ view in
    let all : said reader ++ begun.items ≡ bytes = cc in
    let few = few_of (unit_bytes reader) begun.items (most_bytes reader) fewer in
    nearer form (bytes ++ piece) (length (begun.items ++ piece)) (length piece + 23) fail (omega (arith, few, length-append begun.items piece))
    (subst (λ (l : List ℕ). IfRefused (IsRefusedAs form (l ++ piece) (length (begun.items ++ piece))) fail) all why)

pub not_stopped : {A : Type 0} (old : State) (bytes : List ℕ) (fail : Fail Refusal) → fed old ≡ Taken bytes → old ≡ Stopped fail → A
not_stopped old bytes fail view is = let same : fed (Stopped fail) ≡ Taken bytes = ap fed (sym is) ∙ view in absurd cc

-- ---- the end

pub fewer_than : (o : Option ℕ) (len : ℕ) (bytes : List ℕ) → o ≡ Some len → AreFewer o bytes → length bytes < len
fewer_than o len bytes is fewer = subst (λ p. AreFewer p bytes) is fewer

some_of : (o : Option ℕ) → IsSome o → (len : ℕ) × (o ≡ Some len)
some_of None some = absurd cc
some_of (Some len) some = (len, refl)

none_of : (o : Option ℕ) → IsNone o → o ≡ None
none_of None none = refl
none_of (Some len) none = absurd cc

-- what was read at the end
abbrev pub IsEnded : Reader → List ℕ → Result Recording (Fail Refusal) → Type 0
IsEnded reader begun result = MatchResult result (λ trace. IsNone (unit_bytes reader) × SpellsAs (form_of reader) (said reader) trace)
    (λ fail. (fail ≡ fails.Refused (cut_off reader begun)) × IsSome (unit_bytes reader))

pub ends_as : (form : Form) (reader : Reader) (begun : Vec ℕ Global) (result : Result Recording (Fail Refusal)) → IsFeeding form (Open reader begun)
    → IsEnded reader begun.items result
    → MatchResult (fault_alone result) (SpellsAs form (said reader ++ begun.items))
    (λ fail. (fail ≡ fails.Refused Truncated) × HasFaultAs form (said reader ++ begun.items) Truncated)
ends_as form reader begun (Ok trace) feeding h =
    let nothing : begun.items ≡ [] = subst (λ o. AreFewer o begun.items) (none_of (unit_bytes reader) h.0) feeding.2 in
    subst (λ (f : Form). SpellsAs f (said reader ++ begun.items) trace) feeding.0
    (subst (λ (l : List ℕ). SpellsAs (form_of reader) l trace) (sym (append-nil (said reader)) ∙ ap (λ (l : List ℕ). said reader ++ l) (sym nothing)) h.1)
ends_as form reader begun (Err fail) feeding h =
    let more = some_of (unit_bytes reader) h.1 in
    let short = fewer_than (unit_bytes reader) more.0 begun.items more.1 feeding.2 in (
      ap fault_of h.0 ∙ ap fails.Refused (fault_of_cut_off reader begun.items),
      subst (λ (f : Form). HasFaultAs f (said reader ++ begun.items) Truncated) feeding.0 (truncated reader more.0 begun.items feeding.1 more.1 short),
    )

pub ends : (self : Fed) (state : State) (reader : Reader) (begun : Vec ℕ Global) (result : Result Recording (Fail Refusal)) → fed state ≡ self
    → IsFeeding forms.Trace state → state ≡ Open reader begun → IsEnded reader begun.items result → Ends self (fault_alone result)
ends self state reader begun result view feeding is h =
    subst (λ f. Ends f (fault_alone result)) (ap fed (sym is) ∙ view)
    (ends_as forms.Trace reader begun result (subst (IsFeeding forms.Trace) is feeding) h)

-- what has refused before answers so at the end
pub ended_before : (self : Fed) (state : State) (fail : Fail Refusal) → fed state ≡ self → state ≡ Stopped fail → Ends self (fault_alone (Err fail))
ended_before self state fail view is = subst (λ f. Ends f (fault_alone (Err fail))) (ap fed (sym is) ∙ view) refl

-- the unit that is cut off is that of the bytes
pub ends_refused : (form : Form) (state : State) (reader : Reader) (begun : Vec ℕ Global) (result : Result Recording (Fail Refusal))
    → IsFeeding form state → state ≡ Open reader begun → IsEnded reader begun.items result → EndsRefused form (fed state) result
ends_refused form state reader begun (Ok trace) feeding is h = λ bytes view. tt
ends_refused form state reader begun (Err fail) feeding is h = λ bytes view.
    let here = subst (IsFeeding form) is feeding in
    let same : Taken (said reader ++ begun.items) ≡ Taken bytes = ap fed (sym is) ∙ view in
    let all : said reader ++ begun.items ≡ bytes = cc in
    let more = some_of (unit_bytes reader) h.1 in
    let short = fewer_than (unit_bytes reader) more.0 begun.items more.1 here.2 in
    subst (λ f. IfRefused (IsCutOff form bytes) f) (sym h.0)
    (subst₂ (λ (f : Form) (l : List ℕ). IsCutOff f l (cut_off reader begun.items)) here.0 all (record {
      within = cut_off_within reader begun.items;
      few = few_cut_off reader more.0 begun.items here.1.ready more.1 short;
      refused = is_cut_off reader more.0 begun.items here.1 more.1 short;
    }))
