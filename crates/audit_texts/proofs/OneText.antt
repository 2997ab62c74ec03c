-- What is printed of pages says which they are: the lines of other pages are others.
use Rattle.std.proofs.Common.{◌≡◌, ◌≢◌, ℕ, ◌*◌, ◌^◌, ◌<◌, Bool, true, false, List, [], ◌∷◌, ◌++◌, All, codes}
use Rattle.std.proofs.Common.{length, get_or, drop, refl, sym, ap, ◌∙◌, arith, append_assoc}
use Rattle.std.specs.Char.{digit_value}
use Rattle.std.specs.Fmt.{digits}
use Rattle.std.specs.List.{AllByRecursion}
use Rattle.std.specs.Str.Parse.{AllDigits, digits_value}
use Rattle.std.proofs.lemmas.Fmt.{digits_is_IsNumeral}
use Rattle.std.proofs.lemmas.List.Elements.{All-head, All-tail}
use Rattle.vs_types.specs.Page.{bytes_of}
use Rattle.vs_types.specs.declared.addresses.page.Page.{Page}
use Rattle.vs_types.specs.declared.addresses.page.Rights.{Rights}
use Rattle.vs_types.specs.declared.addresses.page.Size.{Size}
use Rattle.vs_types.specs.declared.addresses.page.Size.TheVariants.{K4}
use Rattle.vs_types.proofs.Pages.{same_page as equal_page}
use Rattle.vs_text.proofs.Alone.{one_rights, one_size}
use Rattle.vs_text.specs.Words.{hexadecimal, mark, rights_text, size_text, space}
use Rattle.audit_texts.specs.Listing.{mapping_text, page_line, page_lines, range_line, range_lines}
use Rattle.audit_texts.specs.Ranges.{range_end}
use Rattle.audit_texts.specs.declared.pages.range.PageRange.{PageRange}

-- ---- words before a byte that they do not have

abbrev HasNo : ℕ → List ℕ → Type 0
HasNo byte word = AllByRecursion (λ other. other ≢ byte) word

first_same : (b c : ℕ) (xs ys : List ℕ) → b ∷ xs ≡ c ∷ ys → b ≡ c
first_same b c xs ys same = ap (λ (zs : List ℕ). get_or zs 0 0) same

rest_same : (b c : ℕ) (xs ys : List ℕ) → b ∷ xs ≡ c ∷ ys → xs ≡ ys
rest_same b c xs ys same = ap (λ (zs : List ℕ). drop 1 zs) same

-- they are equal, and so is what comes after the byte
pub same_cut : (byte : ℕ) (word other rest more : List ℕ) → HasNo byte word → HasNo byte other → word ++ byte ∷ rest ≡ other ++ byte ∷ more
    → (word ≡ other) × (rest ≡ more)
same_cut byte [] [] rest more first second same = (refl, rest_same byte byte rest more same)
same_cut byte [] (c ∷ other) rest more first second same = absurd (second.0 (sym (first_same byte c rest (other ++ byte ∷ more) same)))
same_cut byte (b ∷ word) [] rest more first second same = absurd (first.0 (first_same b byte (word ++ byte ∷ rest) more same))
same_cut byte (b ∷ word) (c ∷ other) rest more first second same =
    let later = same_cut byte word other rest more first.1 second.1 (rest_same b c (word ++ byte ∷ rest) (other ++ byte ∷ more) same) in
    let here : b ≡ c = first_same b c (word ++ byte ∷ rest) (other ++ byte ∷ more) same in
    (ap (λ x. x ∷ word) here ∙ ap (λ (xs : List ℕ). c ∷ xs) later.0, later.1)

-- ---- the words of a line

-- a space is no digit
digits_alone : (ds : List ℕ) → AllDigits 16 ds → HasNo 32 ds
digits_alone [] all = tt
digits_alone (d ∷ ds) all =
    (λ same. let large : digit_value d ≡ 36 = ap digit_value same in absurd (omega (arith, all.0)), digits_alone ds all.1)

address_alone : (address : ℕ) → address < 16 ^ 64 → HasNo 32 (hexadecimal address)
address_alone address below =
    let is = digits_is_IsNumeral 16 false (omega arith) (omega arith) address below in
    (λ same. omega arith, (λ same. omega arith, digits_alone (digits 16 false address) is.0.1))

one_address : (a b : ℕ) → a < 16 ^ 64 → b < 16 ^ 64 → hexadecimal a ≡ hexadecimal b → a ≡ b
one_address a b first second same =
    let as_read : digits 16 false a ≡ digits 16 false b = ap (λ (text : List ℕ). drop 2 text) same in
    sym (digits_is_IsNumeral 16 false (omega arith) (omega arith) a first).1
    ∙ ap (digits_value 16) as_read
    ∙ (digits_is_IsNumeral 16 false (omega arith) (omega arith) b second).1

size_alone : (size : Size) → HasNo 32 (size_text size)
size_alone K4 = (λ same. omega arith, (λ same. omega arith, tt))
size_alone _ = (λ same. omega arith, (λ same. omega arith, tt))

mark_alone : (given : Bool) (letter : ℕ) (rest : List ℕ) → letter ≢ 10 → HasNo 10 rest → HasNo 10 (mark given (letter ∷ []) ++ rest)
mark_alone true letter rest is none = (is, none)
mark_alone false letter rest is none = (λ same. omega arith, none)

exec_alone : (given : Bool) → HasNo 10 (mark given (codes "x"))
exec_alone true = (λ same. omega arith, tt)
exec_alone false = (λ same. omega arith, tt)

rights_alone : (rights : Rights) → HasNo 10 (rights_text rights)
rights_alone rights =
    mark_alone rights.write 119 _ (λ same. omega arith) (mark_alone rights.user 117 _ (λ same. omega arith) (exec_alone rights.exec))

-- ---- lines

-- an address at the front of a line, and what comes behind it
same_address : (a b : ℕ) (rest more tail others : List ℕ) → a < 16 ^ 64 → b < 16 ^ 64
    → (hexadecimal a ++ (space ++ rest)) ++ tail ≡ (hexadecimal b ++ (space ++ more)) ++ others → (a ≡ b) × (rest ++ tail ≡ more ++ others)
same_address a b rest more tail others first second same =
    let cut = same_cut 32 (hexadecimal a) (hexadecimal b) (rest ++ tail) (more ++ others) (address_alone a first) (address_alone b second)
    (sym (append_assoc (hexadecimal a) (space ++ rest) tail) ∙ same ∙ append_assoc (hexadecimal b) (space ++ more) others) in
    (one_address a b first second cut.0, cut.1)

-- what both mappings are
record SameMapping (s t : Size) (a b : ℕ) (p q : Rights) (tail others : List ℕ) : Type 0 where
  size : s ≡ t
  phys : a ≡ b
  rights : p ≡ q
  rest : tail ≡ others

same_end : (p q : Rights) (tail others : List ℕ) → (rights_text p ++ codes "\n") ++ tail ≡ (rights_text q ++ codes "\n") ++ others
    → (p ≡ q) × (tail ≡ others)
same_end p q tail others same =
    let cut = same_cut 10 (rights_text p) (rights_text q) tail others (rights_alone p) (rights_alone q)
    (sym (append_assoc (rights_text p) (codes "\n") tail) ∙ same ∙ append_assoc (rights_text q) (codes "\n") others) in
    (one_rights p q cut.0, cut.1)

same_mapping : (s t : Size) (a b : ℕ) (p q : Rights) (tail others : List ℕ) → a < 16 ^ 64 → b < 16 ^ 64
    → mapping_text s a p ++ tail ≡ mapping_text t b q ++ others → SameMapping s t a b p q tail others
same_mapping s t a b p q tail others first second same =
    let first_rest = hexadecimal a ++ (space ++ (rights_text p ++ codes "\n")) in
    let second_rest = hexadecimal b ++ (space ++ (rights_text q ++ codes "\n")) in
    let size = same_cut 32 (size_text s) (size_text t) (first_rest ++ tail) (second_rest ++ others) (size_alone s) (size_alone t)
    (sym (append_assoc (size_text s) (space ++ first_rest) tail) ∙ same ∙ append_assoc (size_text t) (space ++ second_rest) others) in
    let phys = same_address a b (rights_text p ++ codes "\n") (rights_text q ++ codes "\n") tail others first second size.1 in
    let rights = same_end p q tail others phys.1 in
    record { size = one_size s t size.0; phys = phys.0; rights = rights.0; rest = rights.1 }

-- addresses that can be printed
pub record IsShown (page : Page) : Type 0 where
  pub base : page.base < 16 ^ 64
  pub phys : page.phys < 16 ^ 64

same_page_line : (p q : Page) (tail others : List ℕ) → IsShown p → IsShown q → page_line p ++ tail ≡ page_line q ++ others → (p ≡ q) × (tail ≡ others)
unfolding page_line
same_page_line p q tail others first second same =
    let base = same_address p.base q.base (mapping_text p.size p.phys p.rights) (mapping_text q.size q.phys q.rights) tail others first.base second.base same in
    let mapping = same_mapping p.size q.size p.phys q.phys p.rights q.rights tail others first.phys second.phys base.1 in
    (equal_page p q base.0 mapping.size mapping.phys mapping.rights, mapping.rest)

-- a line has bytes
some_line : (page : Page) (rest : List ℕ) → [] ≡ page_line page ++ rest → ⊥
unfolding page_line
some_line page rest same = omega (arith, ap length same)

pub same_pages : (ps qs : List Page) → All IsShown ps → All IsShown qs → page_lines ps ≡ page_lines qs → ps ≡ qs
same_pages [] [] first second same = refl
same_pages [] (q ∷ qs) first second same = absurd (some_line q (page_lines qs) same)
same_pages (p ∷ ps) [] first second same = absurd (some_line p (page_lines ps) (sym same))
same_pages (p ∷ ps) (q ∷ qs) first second same =
    let here = same_page_line p q (page_lines ps) (page_lines qs) (All-head IsShown p ps first) (All-head IsShown q qs second) same in
    let later = same_pages ps qs (All-tail IsShown p ps first) (All-tail IsShown q qs second) here.1 in
    ap (λ (x : Page). x ∷ ps) here.0 ∙ ap (λ (xs : List Page). q ∷ xs) later

-- ---- the lines of ranges

pub record IsShownRange (range : PageRange) : Type 0 where
  pub first : IsShown range.first
  pub end : range_end range < 16 ^ 64

same_count : (size : Size) (a b : ℕ) → a * bytes_of size ≡ b * bytes_of size → a ≡ b
same_count K4 a b same = omega arith
same_count _ a b same = omega arith

equal_range : (r s : PageRange) → r.first ≡ s.first → r.count ≡ s.count → r ≡ s
equal_range r s first count = λ i. record { first = first i; count = count i }

same_range_line : (r s : PageRange) (tail others : List ℕ) → IsShownRange r → IsShownRange s → range_line r ++ tail ≡ range_line s ++ others
    → (r ≡ s) × (tail ≡ others)
unfolding range_line
same_range_line r s tail others first second same =
    let p = r.first in
    let q = s.first in
    let r_mapping = mapping_text p.size p.phys p.rights in
    let s_mapping = mapping_text q.size q.phys q.rights in
    let base = same_address p.base q.base (hexadecimal (range_end r) ++ (space ++ r_mapping)) (hexadecimal (range_end s) ++ (space ++ s_mapping)) tail others
    first.first.base second.first.base same in
    let end = same_address (range_end r) (range_end s) r_mapping s_mapping tail others first.end second.end base.1 in
    let mapping = same_mapping p.size q.size p.phys q.phys p.rights q.rights tail others first.first.phys second.first.phys end.1 in
    let bytes : r.count * bytes_of q.size ≡ s.count * bytes_of q.size =
    (let sized : r.count * bytes_of p.size ≡ r.count * bytes_of q.size = ap (λ (size : Size). r.count * bytes_of size) mapping.size in
    omega (arith, base.0, end.0, sized)) in
    (equal_range r s (equal_page p q base.0 mapping.size mapping.phys mapping.rights) (same_count q.size r.count s.count bytes), mapping.rest)

some_range_line : (range : PageRange) (rest : List ℕ) → [] ≡ range_line range ++ rest → ⊥
unfolding range_line
some_range_line range rest same = omega (arith, ap length same)

pub same_ranges : (rs ss : List PageRange) → All IsShownRange rs → All IsShownRange ss → range_lines rs ≡ range_lines ss → rs ≡ ss
same_ranges [] [] first second same = refl
same_ranges [] (s ∷ ss) first second same = absurd (some_range_line s (range_lines ss) same)
same_ranges (r ∷ rs) [] first second same = absurd (some_range_line r (range_lines rs) (sym same))
same_ranges (r ∷ rs) (s ∷ ss) first second same =
    let here = same_range_line r s (range_lines rs) (range_lines ss) (All-head IsShownRange r rs first) (All-head IsShownRange s ss second) same in
    let later = same_ranges rs ss (All-tail IsShownRange r rs first) (All-tail IsShownRange s ss second) here.1 in
    ap (λ (x : PageRange). x ∷ rs) here.0 ∙ ap (λ (xs : List PageRange). s ∷ xs) later
