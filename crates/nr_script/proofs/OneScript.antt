-- A line says one thing at most, and so a text is one script at most, or has a bad line.
use Rattle.std.proofs.Common.{◌≡◌, ℕ, ◌<◌, ◌==◌, ◌++◌, List, [], ◌∷◌, decimal, drop, get_or, inl, inr, length, refl, sym, ap, ap₂, subst, ◌∙◌, arith}
use Rattle.std.proofs.Common.{append_assoc}
use Rattle.std.proofs.Common.{length-append}
use Rattle.std.specs.Prelude.{if◌then◌else◌}
use Rattle.std.specs.List.{AllZip}
use Rattle.std.proofs.lemmas.Fmt.{decimal_injective}
use Rattle.std.proofs.lemmas.Grind.{flat_map-append}
use Rattle.vs_types.specs.declared.addresses.depth.Depth.{Depth}
use Rattle.vs_types.specs.declared.requests.request.Query.{Query}
use Rattle.vs_text.specs.Requests.{SpellsQuery}
use Rattle.vs_text.proofs.OneRequest.{one_request, word_number}
use Rattle.nr_core.specs.declared.runs.step.Act.{Act}
use Rattle.nr_core.specs.declared.runs.step.Act.TheVariants.{Call, Post, Take, Collect, Append, Advance, Apply, Answer, Release, Look, Read, Reply}
use Rattle.nr_core.specs.declared.runs.step.Step.{Step}
use Rattle.nr_script.specs.Lines.{act_number, act_words, Says, SpellsRequest, SpellsStep}
use Rattle.nr_script.specs.Script.{request_in, step_in, IsBadLine, IsScript, IsWithinLimits}
use Rattle.nr_script.specs.declared.line.Line.{Line}
use Rattle.nr_script.specs.declared.line.Line.TheVariants as says
use Rattle.nr_script.specs.declared.script.Script.{Script}
use Rattle.nr_script.proofs.OneReading.{not_both, not_request, not_step}

-- the letters of its first word say acts apart
abbrev act_at : ℕ → ℕ → Act
act_at word number =
    if word == 0x63616c6c then Call
    else if word == 0x706f7374 then Post
    else if word == 0x74616b65 then Take number
    else if word == 0x636f6c6c656374 then Collect number
    else if word == 0x617070656e64 then Append
    else if word == 0x616476616e6365 then Advance
    else if word == 0x6170706c79 then Apply
    else if word == 0x616e73776572 then Answer number
    else if word == 0x72656c65617365 then Release
    else if word == 0x6c6f6f6b then Look
    else if word == 0x72656164 then Read
    else Reply

found_act : (act : Act) → act_at (word_number (get_or (act_words act) 0 [])) (act_number act) ≡ act
found_act Call = refl
found_act _ = refl

found_number : (act : Act) → get_or (act_words act) 1 (decimal 0) ≡ decimal (act_number act)
found_number Call = refl
found_number _ = refl

same_number : (n m : ℕ) → n < 64 → m < 64 → decimal n ≡ decimal m → n ≡ m
same_number n m p q same = decimal_injective n m (omega arith) (omega arith) same

same_act : (a b : Act) → act_words a ≡ act_words b → act_number a < 64 → act_number b < 64 → a ≡ b
same_act a b same p q =
    let words = ap (λ (parts : List (List ℕ)). get_or parts 0 []) same in
    let numbers = sym (found_number a) ∙ ap (λ (parts : List (List ℕ)). get_or parts 1 (decimal 0)) same ∙ found_number b in
    let number = same_number (act_number a) (act_number b) p q numbers in
    sym (found_act a) ∙ ap₂ (λ (word : List ℕ) (of : ℕ). act_at (word_number word) of) words number ∙ found_act b

same_request : (depth : Depth) (words : List (List ℕ)) (t s : ℕ) (a b : Query) → SpellsRequest depth words t a → SpellsRequest depth words s b
    → says.Request t a ≡ says.Request s b
same_request depth words t s a b p q =
    let same = sym p.words_are ∙ q.words_are in
    let thread = same_number t s p.thread_fits q.thread_fits (ap (λ (parts : List (List ℕ)). get_or parts 0 []) same) in
    let asks : p.asks ≡ q.asks = ap (λ (parts : List (List ℕ)). drop 1 parts) same in
    let query = one_request depth p.asks a b p.query_is (subst (λ (parts : List (List ℕ)). SpellsQuery depth parts b) (sym asks) q.query_is) in
    ap₂ (λ (thread : ℕ) (query : Query). says.Request thread query) thread query

same_step : (words : List (List ℕ)) (a b : Step) → SpellsStep words a → SpellsStep words b → says.Step a ≡ says.Step b
same_step words a b p q =
    let same = sym p.words_are ∙ q.words_are in
    let thread = same_number a.thread b.thread p.thread_fits q.thread_fits (ap (λ (parts : List (List ℕ)). get_or parts 1 []) same) in
    let acts : p.acts ≡ q.acts = ap (λ (parts : List (List ℕ)). drop 2 parts) same in
    let act = same_act a.act b.act (sym p.act_is.words_are ∙ acts ∙ q.act_is.words_are) p.act_is.number_fits q.act_is.number_fits in
    let made : ℕ → Act → Line = λ thread act. says.Step (record { thread = thread; act = act }) in
    ap₂ made thread act

pub same_line : (depth : Depth) (line : List ℕ) (a b : Line) → Says depth line a → Says depth line b → a ≡ b
same_line depth line says.PassedOver says.PassedOver p q = refl
same_line depth line says.PassedOver (says.Request thread query) p q = absurd (not_request depth line thread query p q)
same_line depth line says.PassedOver (says.Step step) p q = absurd (not_step depth line step p q)
same_line depth line (says.Request thread query) says.PassedOver p q = absurd (not_request depth line thread query q p)
same_line depth line (says.Request thread query) (says.Request other asked) p q = same_request depth _ thread other query asked p q
same_line depth line (says.Request thread query) (says.Step step) p q = absurd (not_both depth line thread query step p q)
same_line depth line (says.Step step) says.PassedOver p q = absurd (not_step depth line step q p)
same_line depth line (says.Step step) (says.Request thread query) p q = absurd (not_both depth line thread query step q p)
same_line depth line (says.Step step) (says.Step other) p q = same_step _ step other p q

pub same_lines : (depth : Depth) (texts : List (List ℕ)) (a b : List Line) → AllZip (Says depth) texts a → AllZip (Says depth) texts b → a ≡ b
same_lines depth [] [] [] p q = refl
same_lines depth [] (x ∷ a) b p q = absurd p
same_lines depth (line ∷ texts) [] b p q = absurd p
same_lines depth (line ∷ texts) (x ∷ a) (y ∷ b) p q =
    ap₂ (λ (it : Line) (others : List Line). it ∷ others) (same_line depth line x y p.0 q.0) (same_lines depth texts a b p.1 q.1)
same_lines depth _ _ _ p q = absurd q

-- ---- so a text of which a line is bad is no script

-- what the lines before one say, what it says, and what those after it say
record Parted (depth : Depth) (before : List (List ℕ)) (line : List ℕ) (said : List Line) : Type 0 where
  first : List Line
  it : Line
  more : List Line
  said_is : said ≡ first ++ it ∷ more
  each_says : AllZip (Says depth) before first
  says_it : Says depth line it

parted : (depth : Depth) (before : List (List ℕ)) (line : List ℕ) (rest : List (List ℕ)) (said : List Line) → AllZip (Says depth) (before ++ line ∷ rest) said
    → Parted depth before line said
parted depth [] line rest [] all = absurd all
parted depth [] line rest (it ∷ more) all = record { first = []; it = it; more = more; said_is = refl; each_says = tt; says_it = all.0 }
parted depth (text ∷ before) line rest [] all = absurd all
parted depth (text ∷ before) line rest (x ∷ said) all =
    let them = parted depth before line rest said all.1 in
    record {
      first = x ∷ them.first;
      it = them.it;
      more = them.more;
      said_is = ap (λ (ys : List Line). x ∷ ys) them.said_is;
      each_says = (all.0, them.each_says);
      says_it = them.says_it;
    }

-- a beginning of what is within the limits is
shorter : (said first : List Line) (it : Line) (more : List Line) → said ≡ first ++ it ∷ more → IsWithinLimits said → IsWithinLimits (first ++ it ∷ [])
shorter said first it more is within =
    let split : first ++ it ∷ more ≡ (first ++ it ∷ []) ++ more = simp append_assoc in
    let whole : said ≡ (first ++ it ∷ []) ++ more = is ∙ split in
    let here = subst IsWithinLimits whole within in
    record {
      requests = omega (arith, here.requests, ap length (flat_map-append request_in (first ++ it ∷ []) more), length-append {A = ℕ × Query});
      steps = omega (arith, here.steps, ap length (flat_map-append step_in (first ++ it ∷ []) more), length-append {A = Step});
    }

pub not_bad : (depth : Depth) (bytes : List ℕ) (script : Script) (number : ℕ) → IsScript depth bytes script → IsBadLine depth bytes number → ⊥
not_bad depth bytes script number is bad =
    let them = parted depth bad.before bad.line bad.rest is.said (subst (λ (ls : List (List ℕ)). AllZip (Says depth) ls is.said) bad.lines_are is.each_says) in
    let same = same_lines depth bad.before them.first bad.said them.each_says bad.each_says in
    elim bad.is_bad [
      | inl none ↦ none them.it them.says_it
      | inr past ↦ past.2 (subst IsWithinLimits
          (ap₂ (λ (first : List Line) (it : Line). first ++ it ∷ []) same (same_line depth bad.line them.it past.0 them.says_it past.1))
          (shorter is.said them.first them.it them.more them.said_is is.within_limits))
    ]
