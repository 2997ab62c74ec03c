use Rattle.std.proofs.Common.{◌≡◌, ℕ, ◌==◌, true, false, List, [], ◌∷◌, length, refl, sym, ap, ◌∙◌, subst}
use Rattle.std.specs.Prelude.{OnOk}
use Rattle.std.proofs.lemmas.Bool.{eqb-true}
use Rattle.std.proofs.lemmas.List.{nil_from_length}
use Rattle.serde_json.specs.Data.{Members}
use Rattle.serde_json.specs.View.{members_view}
use Rattle.vs_types.specs.declared.requests.answer.Answer.{Answer}
use Rattle.audit_texts.specs.ChainEvidence.{put_earlier, with_array}
use Rattle.audit_texts.proofs.chain.earlier.put_looks.Goals as goal

none_put : (looks : List Answer) (members : Members) → looks ≡ [] → members ≡ put_earlier looks members
unfolding put_earlier
none_put looks members none = sym (ap (λ (ls : List Answer). put_earlier ls members) none)

some_put : (looks : List Answer) (members : Members) → (length looks ≡ 0 → ⊥) → with_array looks members ≡ put_earlier looks members
unfolding put_earlier
some_put [] members some = absurd (some refl)
some_put (look ∷ more) members some = refl

pub returns-then-is_empty : goal.returns-then-is_empty
returns-then-is_empty c =
    none_put c.args.looks.now (members_view c.args.members.now.entries)
    (nil_from_length c.args.looks.now (eqb-true (length c.args.looks.now) 0 (sym c.is_empty.ensures ∙ c.if-is_empty.true)))

pub returns : goal.returns
returns c =
    subst (λ (put : Members). OnOk c.put_array.result (members_view c.put_array.new.members.entries ≡ put))
    (some_put c.args.looks.now (members_view c.args.members.now.entries) (λ zero.
    let empty : c.is_empty.result ≡ true = c.is_empty.ensures ∙ ap (λ (n : ℕ). n == 0) zero in
    let some : c.is_empty.result ≡ false = c.if-is_empty.false in cc)) c.put_array.ensures
