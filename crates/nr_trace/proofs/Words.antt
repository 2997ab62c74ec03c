-- Words of 64 bits that are read one after the other.
use Rattle.std.proofs.Common.{◌≡◌, ℕ, ◌+◌, ◌*◌, ◌^◌, ◌<◌, List, [], ◌∷◌, ◌++◌, length, All, sym, ap, subst, ◌∙◌, arith, append_assoc}
use Rattle.std.specs.Int.{w64, to_be_bytes}
use Rattle.std.proofs.lemmas.List.{length-append, flat_map_more}
use Rattle.std.proofs.lemmas.List.Elements.{All-push}
use Rattle.vs_walk.specs.Dump.{OpenImage}
use Rattle.nr_trace.specs.Spelling.{frame_words}

-- so many words were put after those that had come, and this is left of the run
pub record IsFilled (before : OpenImage) (run : List ℕ) (dump : OpenImage) (k : ℕ) (rest : List ℕ) : Type 0 where
  pub same : dump ≡ record { dump = before.dump; number = before.number; coming = dump.coming }
  pub parts : frame_words before.coming ++ run ≡ frame_words dump.coming ++ rest
  pub count : length dump.coming ≡ length before.coming + k
  pub left : length rest + 8 * k ≡ length run
  pub fit : All (λ word. word < 2 ^ 64) before.coming → All (λ word. word < 2 ^ 64) dump.coming

pub one_more : (before : OpenImage) (run : List ℕ) (dump : OpenImage) (k : ℕ) (rest : List ℕ) (word : ℕ) (behind : List ℕ) (next : OpenImage)
    → IsFilled before run dump k rest → word < 2 ^ 64 → rest ≡ to_be_bytes w64 word ++ behind
    → next ≡ record { dump = dump.dump; number = dump.number; coming = dump.coming ++ word ∷ [] } → IsFilled before run next (k + 1) behind
one_more before run dump k rest word behind next filled below e is =
    let come : next.coming ≡ dump.coming ++ word ∷ [] = ap (λ (d : OpenImage). d.coming) is in
    record {
      same = is ∙ (λ i. record {
        dump = (ap (λ (d : OpenImage). d.dump) filled.same) i;
        number = (ap (λ (d : OpenImage). d.number) filled.same) i;
        coming = (sym come) i;
      });
      parts = filled.parts ∙ ap (λ (l : List ℕ). frame_words dump.coming ++ l) e
          ∙ sym (append_assoc (frame_words dump.coming) (to_be_bytes w64 word) behind)
          ∙ ap (λ (l : List ℕ). l ++ behind) (flat_map_more (to_be_bytes w64) [] dump.coming word ∙ ap frame_words (sym come));
      count = omega (arith, ap length come, length-append dump.coming (word ∷ []), filled.count);
      left = omega (arith, ap length e, length-append (to_be_bytes w64 word) behind, filled.left);
      fit = λ fit. subst (All (λ w. w < 2 ^ 64)) (sym come) (All-push (λ w. w < 2 ^ 64) dump.coming word (filled.fit fit) below);
    }
