use Rattle.std.proofs.Common.{◌≡◌, ℕ, List, ◌++◌, ap, ◌∙◌, append_assoc}
use Rattle.std.specs.Int.{w16, to_be_bytes}
use Rattle.nr_trace.specs.Spelling.{counts_front, magic, start_count, version_word}
use Rattle.nr_trace.proofs.writing.header.put_header.Goals as goal

-- four pieces, one after the other
four_pieces : (old m v f s a b c d : List ℕ) → a ≡ old ++ m → b ≡ a ++ v → c ≡ b ++ f → d ≡ c ++ s → d ≡ old ++ (m ++ v ++ (f ++ s))
four_pieces old m v f s a b c d first second third last =
    let all : d ≡ (((old ++ m) ++ v) ++ f) ++ s =
    last ∙ ap (λ (l : List ℕ). l ++ s) (third ∙ ap (λ (l : List ℕ). l ++ f) (second ∙ ap (λ (l : List ℕ). l ++ v) first)) in
    all ∙ regroup where
      regroup : (((old ++ m) ++ v) ++ f) ++ s ≡ old ++ (m ++ v ++ (f ++ s))
      regroup = simp append_assoc

pub returns : goal.returns
returns c =
    let version = c.args.version in
    let magic_put = c.put_magic.new.out.items in
    let version_put = c.put_u16.new.out.items in
    four_pieces c.args.out.now.items (magic version) (version_word version) (counts_front c.args.numbers) (start_count version c.args.numbers.start)
    magic_put version_put c.extend_from_slice.new.self.items _ c.in_ok-put_magic.ensures
    (c.in_ok-put_u16.ensures ∙ ap (λ (n : ℕ). magic_put ++ to_be_bytes w16 n) c.code.ensures)
    (c.in_ok-extend_from_slice.ensures.items ∙ ap (λ (l : List ℕ). version_put ++ l) c.counts_front.ensures)
    c.in_ok-put_start_count.ensures
