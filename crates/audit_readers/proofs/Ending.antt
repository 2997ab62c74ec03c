-- What is said of the end of a chain that was judged.
use Rattle.std.proofs.Common.{◌≡◌, ◌⊎◌, ℕ, ◌++◌, inl, inr, Bool, false, List, [], ◌∷◌, Option, Some, None, Result, Ok, Err, IfOk, refl, sym, ap, ◌∙◌, subst}
use Rattle.vs_types.specs.Space.{Space, pages, IsSpace}
use Rattle.vs_types.specs.declared.addresses.depth.Depth.{Depth}
use Rattle.vs_plain.specs.Plain.{BoundedSpace}
use Rattle.nr_trace.specs.Run.{Run, end_of}
use Rattle.nr_audit.specs.Segments.{run_after}
use Rattle.nr_audit.specs.declared.histories.met.Totals.{Totals}
use Rattle.nr_chain.specs.Bytes.{EndsWith}
use Rattle.nr_chain.specs.Parts.{ComesTo}
use Rattle.nr_chain.specs.Verdict.{IsSpaceAfter}
use Rattle.audit_texts.specs.Listing.{pages_text}
use Rattle.nr_trace.specs.declared.refusals.fault.Fault.{Fault}
use Rattle.nr_chain.proofs.FoundChains.{right_chain}
use Rattle.audit_readers.specs.Answers.{IsReadOf}
use Rattle.audit_readers.specs.ChainPages.{IsChainEnd}
use Rattle.audit_texts.specs.ChainText.{end_lines, quiet_lines}
use Rattle.audit_readers.specs.inside.Going.{totals_if, GoesOnTo}
use Rattle.audit_readers.specs.inside.Judged.{HasJudged, IsTextAfter, SaysEnd, SaysFault, SaysPages}
use Rattle.audit_readers.specs.declared.chain.audit.Judged.{Judged}
use Rattle.audit_readers.specs.declared.chain.audit.Judged.TheVariants.{Ended, Faulty}
use Rattle.audit_readers.proofs.Going.{ended, lasting}
use Rattle.audit_readers.proofs.Inputs.{whole_read, whole_with}

-- right segments to the end of the bytes come to what is kept of the last
comes_to : (old new : Option Totals) (kept last : Option Run) (bytes rest : List ℕ) (orders : List (List ℕ)) (end : Run)
    → GoesOnTo kept bytes orders last rest old new → last ≡ Some end → rest ≡ []
    → ComesTo kept bytes end
comes_to old new kept last bytes rest [] end (same, is, totals) there none = ([], (sym is ∙ none, sym same ∙ there))
comes_to old new kept last bytes rest (order ∷ more) end (segment, behind, begins, sound, recorded, met, counted, has, next) there none =
    let (segments, spelled) = comes_to (totals_if old order met) new (Some (run_after kept segment)) last behind rest more end next there none in
    (segment ∷ segments, (behind, begins, spelled))

none_left : (kept : Option Run) (bytes : List ℕ) → EndsWith kept bytes None → bytes ≡ []
none_left None bytes ends = absurd ends
none_left (Some kept) [] ends = refl
none_left (Some kept) (x ∷ bytes) ends = absurd ends

-- a chain that ends well has a last segment
pub pages_said : (as_ranges : Bool) (run : Option Run) (bytes text : List ℕ) → EndsWith run bytes None → IsTextAfter as_ranges run text
    → SaysPages as_ranges run bytes text 0
pages_said as_ranges None bytes text ends is = absurd ends
pages_said as_ranges (Some last) bytes text ends is =
    record { ends = ends; last = last; last_is = refl; is_space = is.0; text_is = is.1; status_is = refl }

-- the pages after a run, by what is kept of it
pub text_of : {S E : Type 0} (bytes_of : S → List ℕ) (as_ranges : Bool) (run : Option Run) (space : BoundedSpace) (result : Result S E)
    → IsSpaceAfter run (Some space) → IsSpace space.depth space.space → IfOk result (λ text. bytes_of text ≡ pages_text as_ranges (pages space.space))
    → IfOk result (λ text. IsTextAfter as_ranges run (bytes_of text))
text_of bytes_of as_ranges None space result after is_space said = absurd (let wrong : Some space ≡ None = after in cc)
text_of bytes_of as_ranges (Some run) space (Err e) after is_space said = tt
text_of bytes_of as_ranges (Some run) space (Ok text) (same, fits) is_space said = (
  subst (λ (d : Depth). IsSpace d (end_of run)) fits.depth (subst (IsSpace space.depth) same is_space),
  said ∙ ap (λ (s : Space). pages_text as_ranges (pages s)) same,
)

pub no_pages : (as_ranges : Bool) (run : Option Run) (text : List ℕ) → IsSpaceAfter run None → IsTextAfter as_ranges run text
no_pages as_ranges None text after = tt
no_pages as_ranges (Some run) text after = absurd after

-- what is said of a chain that was judged is said of its bytes
pub said_of_end : (as_ranges : Bool) (known left old now : Option (List ℕ)) (judged : Judged) (text : List ℕ) (status : ℕ)
    → HasJudged quiet_lines false known left old now judged → SaysEnd as_ranges judged text status
    → (input : List ℕ) × IsReadOf known input × IsChainEnd as_ranges input text status
said_of_end as_ranges known left old now (Ended chain count totals) text status (run, kept, here, end) says = by_end (says run kept) where
  by_end : SaysPages as_ranges run chain.bytes text status ⊎ ((fault : Fault) × EndsWith run chain.bytes (Some fault) × SaysFault count fault text status)
      → (input : List ℕ) × IsReadOf known input × IsChainEnd as_ranges input text status
  by_end (inl says) = (
    here.read,
    whole_read known left here.read here.consumed end,
    inl record {
      orders = here.orders;
      goes_on = ended _ _ None run here.read chain.bytes here.orders None here.goes_on says.ends;
      right = right_chain here.read here.orders (ended _ _ None run here.read chain.bytes here.orders None here.goes_on says.ends);
      last = says.last;
      comes = comes_to _ _ None run here.read chain.bytes here.orders says.last here.goes_on says.last_is
          (none_left run chain.bytes says.ends);
      is_space = says.is_space;
      text_is = says.text_is;
      status_is = says.status_is;
    },
  )
  by_end (inr (fault, ends, says)) = (
    here.read,
    whole_read known left here.read here.consumed end,
    inr (
      here.orders,
      record {
        fault = fault;
        goes_on = ended _ _ None run here.read chain.bytes here.orders (Some fault) here.goes_on ends;
        text_is = says.text_is ∙ ap (λ n. end_lines n (Some fault)) here.counted;
        status_is = says.status_is;
      },
    ),
  )
said_of_end as_ranges known left old now (Faulty count fault) text status (last, rest, totals, here, lasts, some) says =
    let (behind, is) = whole_with known left here.read here.consumed in (
      here.read ++ behind,
      is,
      inr (
        here.orders,
        record {
          fault = fault;
          goes_on = lasting _ _ last here.read rest behind here.orders fault here.goes_on lasts some;
          text_is = says.text_is ∙ ap (λ n. end_lines n (Some fault)) here.counted;
          status_is = says.status_is;
        },
      ),
    )
