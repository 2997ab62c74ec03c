-- What a piece makes of a chain, of all its bytes.
use Rattle.std.proofs.Common.{◌≡◌, ℕ, List, [], ◌∷◌, ◌++◌, take, drop, append_assoc, Option, Some, None, sym, ap, ◌∙◌, subst}
use Rattle.std.proofs.lemmas.List.{append-nil, take-append-drop}
use Rattle.nr_trace.specs.declared.refusals.fault.Fault.{Fault}
use Rattle.nr_trace.specs.Run.{Run}
use Rattle.nr_audit.specs.Segments.{run_after}
use Rattle.nr_audit.specs.declared.histories.met.Met.{Met}
use Rattle.nr_chain.specs.Fed.{ChainFed, IsKeptOf}
use Rattle.nr_chain.specs.Bytes.{EndsWith, GoesOnSo, IsFirstNext}
use Rattle.nr_chain.specs.Verdict.{FeedsChain}
use Rattle.nr_chain.specs.declared.chain.Step.TheVariants.{More, Right, Wrong}
use Rattle.nr_chain.proofs.Ends.{ends_first}

some_left : (front piece : List ℕ) → (piece ≡ [] → ⊥) → front ++ piece ≡ [] → ⊥
some_left [] piece some e = some e
some_left (x ∷ front) piece some e = cc

-- what is found of the rest of the bytes behind a run is found of all of them, behind these orders
abbrev FoundSo : Option Run → List ℕ → List ℕ → List (List ℕ) → List ℕ → Type 0
FoundSo run bytes own orders rest = (more : List (List ℕ)) (found : Option Fault) → GoesOnSo run (own ++ rest) more found
    → GoesOnSo None bytes (orders ++ more) found

-- a chain has come to a run of which it keeps this, and so it goes on
abbrev pub Leads : List ℕ → ChainFed → List (List ℕ) → List ℕ → Type 0
Leads bytes chain orders rest = (run : Option Run) × IsKeptOf run chain.kept × FoundSo run bytes chain.bytes orders rest

-- of a chain of which nothing has come
pub leads_begin : (bytes : List ℕ) (chain : ChainFed) (orders : List (List ℕ)) → chain ≡ record { kept = None; bytes = [] } → orders ≡ []
    → Leads bytes chain orders bytes
leads_begin bytes chain orders is none = (
  None,
  subst (λ (c : ChainFed). IsKeptOf None c.kept) (sym is) tt,
  λ more found h. subst (λ (os : List (List ℕ)). GoesOnSo None bytes (os ++ more) found) (sym none)
      (subst (λ (c : ChainFed). GoesOnSo None (c.bytes ++ bytes) more found) is h),
)

pub leads_on : (bytes : List ℕ) (old new : ChainFed) (orders next : List (List ℕ)) (rest behind : List ℕ) (count : ℕ) (order : List ℕ) (met : Option Met)
    → Leads bytes old orders rest → ((run : Option Run) → IsKeptOf run old.kept → FeedsChain run old rest (Right count order met new))
    → next ≡ orders ++ order ∷ [] → behind ≡ drop count rest
    → Leads bytes new next behind
leads_on bytes old new orders next rest behind count order met (run, kept, leads) fed is cut =
    let (some, within, segment, spelled, sound, same, now, none, counted) = fed run kept in (
      Some (run_after run segment),
      now,
      λ more found h.
          subst (λ (all : List (List ℕ)). GoesOnSo None bytes all found)
          (sym (ap (λ (all : List (List ℕ)). all ++ more) is ∙ append_assoc orders (order ∷ []) more))
          (leads (order ∷ more) found (
            segment,
            drop count rest,
            record {
              own = old.bytes ++ take count rest;
              is = ap (λ ps. old.bytes ++ ps) (sym (take-append-drop count rest)) ∙ sym (append_assoc old.bytes (take count rest) (drop count rest));
              spelled = spelled;
            },
            sound,
            same,
            subst (λ (left : List ℕ). GoesOnSo (Some (run_after run segment)) left more found) (ap (λ (bs : List ℕ). bs ++ behind) none ∙ cut) h,
          )),
    )

pub leads_more : (bytes : List ℕ) (old new : ChainFed) (orders : List (List ℕ)) (rest behind : List ℕ) → Leads bytes old orders rest
    → ((run : Option Run) → IsKeptOf run old.kept → FeedsChain run old rest (More new)) → behind ≡ [] → Leads bytes new orders behind
leads_more bytes old new orders rest behind (run, kept, leads) fed none =
    let (is, yet) = fed run kept in (
      run,
      subst (λ (c : ChainFed). IsKeptOf run c.kept) (sym is) kept,
      λ more found h. leads more found
          (subst (λ (bs : List ℕ). GoesOnSo run bs more found) (append-nil (old.bytes ++ rest))
          (subst (λ (c : ChainFed). GoesOnSo run (c.bytes ++ []) more found) is
          (subst (λ (left : List ℕ). GoesOnSo run (new.bytes ++ left) more found) none h))),
    )

pub leads_wrong : (bytes : List ℕ) (old : ChainFed) (orders : List (List ℕ)) (rest : List ℕ) (fault : Fault) → Leads bytes old orders rest
    → ((run : Option Run) → IsKeptOf run old.kept → FeedsChain run old rest (Wrong fault)) → (rest ≡ [] → ⊥) → GoesOnSo None bytes orders (Some fault)
leads_wrong bytes old orders rest fault (run, kept, leads) fed some =
    subst (λ (all : List (List ℕ)). GoesOnSo None bytes all (Some fault)) (append-nil orders)
    (leads [] (Some fault) (ends_first run (old.bytes ++ rest) fault (λ is. some_left old.bytes rest some)
    (subst (λ bytes. IsFirstNext run bytes fault) (append-nil (old.bytes ++ rest)) (fed run kept []))))

pub leads_end : (bytes : List ℕ) (chain : ChainFed) (orders : List (List ℕ)) (rest : List ℕ) (found : Option Fault)
    → Leads bytes chain orders rest → rest ≡ [] → ((run : Option Run) → IsKeptOf run chain.kept → EndsWith run chain.bytes found)
    → GoesOnSo None bytes orders found
leads_end bytes chain orders rest found (run, kept, leads) none ends =
    subst (λ (all : List (List ℕ)). GoesOnSo None bytes all found) (append-nil orders)
    (leads [] found (subst (λ (bs : List ℕ). EndsWith run bs found)
    (sym (ap (λ (left : List ℕ). chain.bytes ++ left) none ∙ append-nil chain.bytes)) (ends run kept)))
