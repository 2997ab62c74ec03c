-- The looks of a touch's address that linger behind the segments before.
use Rattle.std.proofs.Common.{◌≡◌, ◌↔◌, ℕ, ◌<◌, Bool, true, false, not, List, [], Option, Some, None, Contains, refl, sym, subst, arith}
use Rattle.std.specs.Prelude.{filter, IfSome}
use Rattle.vs_types.specs.declared.requests.answer.Answer.{Answer}
use Rattle.nr_trace.specs.Recording.{Recording}
use Rattle.nr_trace.proofs.LawsOfLists.{Contains-from_in, in_from_Contains, in_filter, in_filtered}
use Rattle.nr_touch.specs.Looks.{AreLooksLeft, IsLookLeft}
use Rattle.nr_touch.specs.declared.touches.tail.Left.{Left}
use Rattle.vs_types.proofs.Lists.{not_in_nil}
use Rattle.nr_explain.specs.ChainFacts.{is_mapped}
use Rattle.nr_explain.specs.inside.Firsts.{AreEarlierLeft}
use Rattle.nr_explain.specs.inside.Reading.{all_states, left_seen, FitsSegment, HasSoundTail}
use Rattle.nr_explain.specs.inside.Windows.{is_found}
use Rattle.nr_explain.specs.declared.chain.progress.Progress.{Progress}

pub sound_tail : (segment : Recording) (last : Option Progress) → IfSome last (FitsSegment segment) → IfSome last HasSoundTail
sound_tail segment None fits = tt
sound_tail segment (Some came) fits = fits.tail

-- nothing is left where no segment comes before
pub none_before : (last : Option Progress) (address : ℕ) (looks : List Answer) → last ≡ None → looks ≡ []
    → AreLooksLeft (left_seen (all_states last)) address looks
none_before last address looks is none =
    subst (λ (l : Option Progress). AreLooksLeft (left_seen (all_states l)) address looks) (sym is) (λ look. (
      (λ has. absurd (not_in_nil look (subst (λ (ls : List Answer). Contains ls look) none has))),
      λ it. absurd it.1,
    ))

-- a touch that sees an entry of its segment has none of the looks
pub none_earlier : (changes : List Left) (address first : ℕ) (with_page : Bool) (looks : List Answer) → 0 < first → looks ≡ []
    → AreEarlierLeft changes address first with_page looks
none_earlier changes address first with_page looks some none look = (
  (λ has. absurd (not_in_nil look (subst (λ (ls : List Answer). Contains ls look) none has))),
  λ it. let zero = it.0 in absurd (omega (arith, some, zero)),
)

-- and another has those of its kind
negated : (b : Bool) → (b ≡ false) ↔ (not b ≡ true)
negated true = (λ e. sym e, λ e. sym e)
negated false = (λ e. refl, λ e. refl)

found_so : (with_page : Bool) (look : Answer) → (is_mapped look ≡ with_page) ↔ (is_found with_page look ≡ true)
found_so true look = (λ e. e, λ e. e)
found_so false look = negated (is_mapped look)

pub all_earlier : (changes : List Left) (address first : ℕ) (with_page : Bool) (looks found : List Answer) → first ≡ 0 → AreLooksLeft changes address looks
    → found ≡ filter (is_found with_page) looks → AreEarlierLeft changes address first with_page found
all_earlier changes address first with_page looks found zero are is look = (there, back) where
  there : Contains found look → (first ≡ 0) × (is_mapped look ≡ with_page) × IsLookLeft changes address look
  there has =
      let (kept, so) = in_filter (is_found with_page) look looks (in_from_Contains look _ (subst (λ (ls : List Answer). Contains ls look) is has)) in
      (zero, (found_so with_page look).1 so, (are look).0 (Contains-from_in look looks kept))

  back : (first ≡ 0) × (is_mapped look ≡ with_page) × IsLookLeft changes address look → Contains found look
  back (none, kind, left) =
      subst (λ (ls : List Answer). Contains ls look) (sym is) (Contains-from_in look _
      (in_filtered (is_found with_page) look looks (in_from_Contains look looks ((are look).1 left)) ((found_so with_page look).0 kind)))

pub earlier_at : (changes : List Left) (address asked first : ℕ) (with_page kind : Bool) (looks : List Answer) → address ≡ asked → with_page ≡ kind
    → AreEarlierLeft changes address first with_page looks → AreEarlierLeft changes asked first kind looks
earlier_at changes address asked first with_page kind looks same alike are =
    subst (λ (b : Bool). AreEarlierLeft changes asked first b looks) alike
    (subst (λ (a : ℕ). AreEarlierLeft changes a first with_page looks) same are)
