-- Files that are audited as tests, one after another.
use Rattle.std.proofs.Common.{◌≡◌, ◌∙◌, ◌++◌, ◌+◌, ◌<◌, ◌≤◌, ℕ, Bool, Bor, List, [], ◌∷◌, None, Option, Some, ap, ap₂, append-nil, append_assoc, arith, codes}
use Rattle.std.proofs.Common.{false, get_or, inl, inr, length, map, max, refl, suc, subst, sym, take, true}
use Rattle.std.specs.Prelude.{if◌then◌else◌}
use Rattle.std.specs.List.{enumerate_from, flat_map}
use Rattle.std.specs.Io.KnownBytes.{Appends}
use Rattle.std.specs.Str.{bytes_eq}
use Rattle.std.proofs.KnownBytes.{Appends-nil, Appends-trans}
use Rattle.std.proofs.lemmas.List.{length-map, length-take-le, map-append, map_more, take_all}
use Rattle.std.proofs.lemmas.List.Elements.{All-nil, All-push}
use Rattle.audit_commands.proofs.Lines.{worst-append}
use Rattle.audit_readers.specs.Answers.{IsReadOf}
use Rattle.audit_readers.specs.Refusals.{refusal_status}
use Rattle.audit_readers.specs.declared.fault.ProgFault.{ProgFault}
use Rattle.audit_commands.specs.Tasks.{AuditsTests, FileLine, IsTest, IsUnjudged, IsVerdictLine, IsVerdictOn, WritesTest, WritesTests, bytes_of}
use Rattle.audit_commands.specs.Tasks.{plan_lines, refused_words, test_head, test_line, worst}

lines_from : ℕ → List FileLine → List ℕ
lines_from first lines = flat_map test_line (enumerate_from first lines)

-- the lines of one test more
one_more_line : (first : ℕ) (lines : List FileLine) (line : FileLine)
    → lines_from first (lines ++ line ∷ []) ≡ lines_from first lines ++ test_line (first + length lines, line)
unfolding lines_from Rattle.audit_commands.specs.Tasks.passed_words
one_more_line first [] line =
    let same : first ≡ first + 0 = omega arith in
    append-nil (test_line (first, line)) ∙ ap (λ (k : ℕ). test_line (k, line)) same
one_more_line first (head ∷ rest) line =
    let same : first + 1 + length rest ≡ first + suc (length rest) = omega arith in
    ap (λ (l : List ℕ). test_line (first, head) ++ l)
    (one_more_line (first + 1) rest line ∙ ap (λ (k : ℕ). lines_from (first + 1) rest ++ test_line (k, line)) same)
    ∙ sym (append_assoc (test_line (first, head)) (lines_from (first + 1) rest) (test_line (first + suc (length rest), line)))

-- no test yet
pub no_test : (file_bytes : List ℕ → Option (List ℕ)) (known : Option (List ℕ)) → WritesTests file_bytes [] known known 0
no_test file_bytes known = record {
  text = [];
  are_tests = record { lines = []; names_are = refl; each = All-nil (IsTest file_bytes); text_is = refl; status_is = refl };
  written = Appends-nil known;
}

-- and one more
pub one_more_test : (file_bytes : List ℕ → Option (List ℕ)) (names : List (List ℕ)) (number : ℕ) (name : List ℕ) (old now new : Option (List ℕ))
    (status one : ℕ) → number ≡ 1 + length names → WritesTests file_bytes names old now status → WritesTest file_bytes number name now new one
    → WritesTests file_bytes (names ++ name ∷ []) old new (max status one)
unfolding lines_from
one_more_test file_bytes names number name old now new status one number_is so_far next =
    let line = next.line in
    let tests = so_far.are_tests in
    let name_of : FileLine → List ℕ = λ it. it.name in
    let status_of : FileLine → ℕ = λ it. it.status in
    let counted : number ≡ 1 + length tests.lines =
    number_is ∙ ap (λ (n : ℕ). 1 + n) (ap length (sym tests.names_are) ∙ length-map tests.lines name_of) in
    record {
      text = so_far.text ++ test_line (number, line);
      are_tests = record {
        lines = tests.lines ++ line ∷ [];
        names_are = map-append name_of tests.lines (line ∷ []) ∙ ap₂ (λ (l : List (List ℕ)) (n : List ℕ). l ++ n ∷ []) tests.names_are next.name_is;
        each = All-push (IsTest file_bytes) tests.lines line tests.each next.is_test;
        text_is = ap₂ (λ (l : List ℕ) (k : ℕ). l ++ test_line (k, line)) tests.text_is counted ∙ sym (one_more_line 1 tests.lines line);
        status_is = ap₂ (λ (m n : ℕ). max m n) tests.status_is next.status_is ∙ sym (worst-append (map status_of tests.lines) line.status)
            ∙ ap worst (sym (map-append status_of tests.lines (line ∷ [])));
      };
      written = Appends-trans old now new so_far.text (test_line (number, line)) so_far.written next.written;
    }

-- the same of the next of these names
pub next_test : (file_bytes : List ℕ → Option (List ℕ)) (names : List (Bor (List ℕ))) (index number : ℕ) (none : Bor (List ℕ))
    (old now new : Option (List ℕ)) (status one worst_is : ℕ) → index < length names → number ≡ index + 1 → worst_is ≡ max status one
    → WritesTests file_bytes (map (λ (name : Bor (List ℕ)). name.now) (take index names)) old now status
    → WritesTest file_bytes number (get_or names index none).now now new one
    → WritesTests file_bytes (map (λ (name : Bor (List ℕ)). name.now) (take (index + 1) names)) old new worst_is
next_test file_bytes names index number none old now new status one worst_is within number_is is so_far next =
    let name_of : Bor (List ℕ) → List ℕ = λ name. name.now in
    let before = map name_of (take index names) in
    let counted : length before ≡ index = length-map (take index names) name_of ∙ length-take-le index names (omega arith) in
    let numbered : number ≡ 1 + length before = omega arith in
    subst (λ (n : ℕ). WritesTests file_bytes (map name_of (take (index + 1) names)) old new n) (sym is)
    (subst (λ (l : List (List ℕ)). WritesTests file_bytes l old new (max status one)) (sym (map_more name_of names index none within))
    (one_more_test file_bytes before number (get_or names index none).now old now new status one numbered so_far next))

-- the verdict on standard input, of which nothing is said
pub own_verdict : (file_bytes : List ℕ → Option (List ℕ)) (known : Option (List ℕ)) (name text : List ℕ) (status : ℕ)
    → bytes_eq name (codes "-") ≡ true → IsVerdictOn known name text status → IsVerdictLine false file_bytes name text status
own_verdict file_bytes known name text status own on = record {
  input = on.input;
  is_read = subst (λ (b : Bool). IsReadOf (bytes_of file_bytes (if b then None else Some name)) on.input) (sym own) tt;
  is_audit = on.is_audit;
}

-- and that on a file
pub file_verdict : (file_bytes : List ℕ → Option (List ℕ)) (name text : List ℕ) (status : ℕ)
    → bytes_eq name (codes "-") ≡ false → IsVerdictOn (file_bytes name) name text status → IsVerdictLine false file_bytes name text status
file_verdict file_bytes name text status named on = record {
  input = on.input;
  is_read = subst (λ (b : Bool). IsReadOf (bytes_of file_bytes (if b then None else Some name)) on.input) (sym named) on.is_read;
  is_audit = on.is_audit;
}

-- a test with a verdict
pub test_judged : (file_bytes : List ℕ → Option (List ℕ)) (number : ℕ) (name text : List ℕ) (old now new : Option (List ℕ)) (status one : ℕ)
    → one ≡ status → IsVerdictLine false file_bytes name text status → Appends old now (test_head number status) → Appends now new text
    → WritesTest file_bytes number name old new one
test_judged file_bytes number name text old now new status one same is head line = record {
  line = record { name = name; text = text; status = status };
  name_is = refl;
  is_test = inl is;
  written = Appends-trans old now new (test_head number status) text head line;
  status_is = same;
}

-- and one without
pub test_refused : (file_bytes : List ℕ → Option (List ℕ)) (number : ℕ) (name : List ℕ) (fault : ProgFault) (old new : Option (List ℕ)) (status : ℕ)
    → IsUnjudged fault → status ≡ refusal_status fault → Appends old new (test_head number status ++ refused_words name fault)
    → WritesTest file_bytes number name old new status
test_refused file_bytes number name fault old new status unjudged is written = record {
  line = record { name = name; text = refused_words name fault; status = status };
  name_is = refl;
  is_test = inr (fault, unjudged, refl, is);
  written = written;
  status_is = refl;
}

-- the tests behind the lines that say how many there are
planned_tests : (file_bytes : List ℕ → Option (List ℕ)) (names : List (List ℕ)) (count : ℕ) (old now new : Option (List ℕ)) (status : ℕ)
    → count ≡ length names → Appends old now (plan_lines count) → WritesTests file_bytes names now new status
    → AuditsTests file_bytes names old new status
planned_tests file_bytes names count old now new status counted plan tests = record {
  text = tests.text;
  are_tests = tests.are_tests;
  written = Appends-trans old now new (plan_lines (length names)) tests.text (subst (λ (n : ℕ). Appends old now (plan_lines n)) counted plan) tests.written;
}

-- the same where the last of the names was tested
pub all_tests : (file_bytes : List ℕ → Option (List ℕ)) (names : List (Bor (List ℕ))) (index count : ℕ) (old now new : Option (List ℕ)) (status : ℕ)
    → count ≡ length names → length names ≤ index → Appends old now (plan_lines count)
    → WritesTests file_bytes (map (λ (name : Bor (List ℕ)). name.now) (take index names)) now new status
    → AuditsTests file_bytes (map (λ (name : Bor (List ℕ)). name.now) names) old new status
all_tests file_bytes names index count old now new status counted over plan tests =
    let name_of : Bor (List ℕ) → List ℕ = λ name. name.now in
    planned_tests file_bytes (map name_of names) count old now new status (counted ∙ sym (length-map names name_of)) plan
    (subst (λ (l : List (Bor (List ℕ))). WritesTests file_bytes (map name_of l) now new status) (take_all index names over) tests)
