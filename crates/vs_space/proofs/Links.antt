-- A new table is linked at an absent entry, and a table under which nothing is mapped is taken out.
use Rattle.std.proofs.Common.{◌≡◌, ◌≢◌, ℕ, suc, ◌-◌, ◌<◌, ◌≤◌, List, Option, Some, None, inl, inr, ◌⊎◌, ⊎_elim, refl, sym, ap, subst, ◌∙◌, arith}
use Rattle.std.specs.Prelude.{IsSome, option_map, slice_index, replicate}
use Rattle.std.proofs.lemmas.Bool.{cases_eq, cases_lt}
use Rattle.std.proofs.lemmas.List.{get_or_past, get_or-replicate, length-replicate}
use Rattle.std.specs.FinMap as finite
use Rattle.std.proofs.lemmas.Option.{same_Some}
use Rattle.vs_types.specs.Depth.{index_at}
use Rattle.vs_types.specs.Entry.{meaning}
use Rattle.vs_types.specs.declared.addresses.page.Rights.{Rights}
use Rattle.vs_types.specs.declared.entries.entry.Meaning.TheVariants as entry
use Rattle.vs_arena.specs.Store.{zeros}
use Rattle.vs_walk.specs.Memory.{Memory}
use Rattle.vs_walk.specs.Walk.{all_rights, walk_from}
use Rattle.vs_walk.specs.declared.walk.Walk.TheVariants.{NotMapped}
use Rattle.vs_space.specs.Held.{word_at, with_word}
use Rattle.vs_space.specs.Path.{found_at, table_in, table_at, SamePath}
use Rattle.vs_space.specs.Tree.{IsTree}
use Rattle.vs_types.proofs.Maps.{get-insert_other, get-remove_other}
use Rattle.vs_space.proofs.Paths.{table_below, none_past, walk_absent, found_same}
use Rattle.vs_space.proofs.Writes.{IsTreeAt, within, at_same, off_path, above, table_off_path, table_above, walk_off_path, table_here, found_on_path}
use Rattle.vs_space.proofs.Writes.{same_or_not, found_alike, written_in_use, used_some, get_written_other}
use Rattle.vs_space.proofs.Trees.{unreached_table, unreached_walk, unreached_tree, none_here, fewer, tree_write, walk_to_absent}

-- the word 0 is absent at each level
zero_absent : (level : ℕ) → meaning level 0 ≡ entry.Absent
zero_absent level = refl

pub zeros_are : (i : ℕ) → slice_index zeros i ≡ 0
zeros_are i = ⊎_elim (λ (lt : i < 512). get_or-replicate 512 i 0 0 lt)
    (λ (le : 512 ≤ i). get_or_past (replicate 512 0) i 0 (omega (arith, length-replicate {A = ℕ} 512 0))) (cases_lt i 512)

-- each entry of a frame of zeros is absent
pub found_in_zeros : (level : ℕ) (m : Memory) (f b : ℕ) → finite.get m f ≡ Some zeros → found_at level m f b ≡ Some entry.Absent
unfolding found_at word_at
found_in_zeros level m f b got =
    ap (λ (o : Option (List ℕ)). option_map (meaning level) (option_map (λ words. slice_index words (index_at level b)) o)) got
    ∙ ap (λ x. Some (meaning level x)) (zeros_are (index_at level b)) ∙ ap Some (zero_absent level)

-- ---- a frame that no path reaches, all zero, is linked at an absent entry

-- what a word links, in the table of a level on the path of an address
pub record IsLink (top : ℕ) (m : Memory) (root level a n w f below : ℕ) : Type 0 where
  pub here : IsTreeAt top m root level a n
  pub leads : meaning level w ≡ entry.Table f all_rights
  pub clear : finite.get m f ≡ Some zeros
  pub unreached : (j b : ℕ) → table_at top m root j b ≢ Some f
  pub absent : found_at level m n a ≡ Some entry.Absent
  pub one : level ≡ suc below
  pub some : 1 ≤ below

module _ {top : ℕ} {m : Memory} {root level a n w f below : ℕ} (link : IsLink top m root level a n w f below) where
  abbrev new : Memory
  new = with_word m n (index_at level a) w

  pub still_clear : finite.get new f ≡ Some zeros
  still_clear = get_written_other m n (index_at level a) w f (λ e. link.unreached level a (link.here.at ∙ ap Some (sym e))) ∙ link.clear

  pub linked : (b : ℕ) → SamePath top level a b → table_at top new root below b ≡ Some f
  linked b same = table_below top root new level below b n link.one (table_here link.here w b same)
      ∙ ap table_in (found_on_path link.here w b same ∙ ap Some link.leads)

  ends_below : (b j : ℕ) → j < below → SamePath top level a b → table_at top new root j b ≡ None
  ends_below b j lt same = none_past top root new (below - 1) j b (omega (arith, within link.here, link.one)) (omega arith)
      (table_below top root new below (below - 1) b f (omega arith) (linked b same) ∙ ap table_in (found_in_zeros below new f b still_clear))

  -- each table was there, or is the new one
  pub old_or_new : (j b q : ℕ) → table_at top new root j b ≡ Some q → (table_at top m root j b ≡ Some q) ⊎ ((j ≡ below) × SamePath top level a b × (q ≡ f))
  old_or_new j b q r = ⊎_elim
      (λ same. ⊎_elim
      (λ (past : j < level). ⊎_elim
      (λ (at : j ≡ below). inr (at, same, same_Some q f (sym r ∙ ap (λ i. table_at top new root i b) at ∙ linked b same)))
      (λ (other : j ≢ below). let nowhere = ends_below b j (omega (arith, other, link.one)) same in absurd (cc))
      (cases_eq j below))
      (λ (le : level ≤ j). inl (sym (table_above link.here w b j le) ∙ r))
      (cases_lt j level))
      (λ apart. inl (sym (table_off_path link.here w b j apart) ∙ r))
      (same_or_not top level a b)

  once_new : (j l b c q : ℕ) → table_at top new root j b ≡ Some q → table_at top new root l c ≡ Some q → (j ≡ l) × SamePath top (suc j) b c
  once_new j l b c q r s = ⊎_elim
      (λ r_old. ⊎_elim
      (λ s_old. link.here.tree.once j l b c q r_old s_old)
      (λ s_new. absurd (link.unreached j b (r_old ∙ ap Some s_new.2)))
      (old_or_new l c q s))
      (λ r_new. ⊎_elim
      (λ s_old. absurd (link.unreached l c (s_old ∙ ap Some r_new.2)))
      (λ s_new. (
        r_new.0 ∙ sym s_new.0,
        λ i from to. sym (r_new.1 i (omega (arith, r_new.0, link.one)) to) ∙ s_new.1 i (omega (arith, r_new.0, link.one)) to,
      ))
      (old_or_new l c q s))
      (old_or_new j b q r)

  allows_old : (j b q next : ℕ) (own : Rights) → table_at top new root j b ≡ Some q → found_at j new q b ≡ Some (entry.Table next own)
      → table_at top m root j b ≡ Some q → own ≡ all_rights
  allows_old j b q next own r g old = ⊎_elim
      (λ same. ⊎_elim
      (λ (at : j ≡ level).
      let q_is : q ≡ n = same_Some q n (sym r ∙ ap (λ i. table_at top new root i b) at ∙ table_here link.here w b same) in
      let found : found_at level new n b ≡ Some (entry.Table next own) =
      subst (λ i. found_at i new n b ≡ Some (entry.Table next own)) at (subst (λ x. found_at j new x b ≡ Some (entry.Table next own)) q_is g) in
      let same_entry : entry.Table next own ≡ entry.Table f all_rights =
      same_Some _ _ (sym found ∙ found_on_path link.here w b same ∙ ap Some link.leads) in
      cc)
      (λ (other : j ≢ level). link.here.tree.allows j b q next own old (sym (above link.here w b j q other old) ∙ g))
      (cases_eq j level))
      (λ apart. link.here.tree.allows j b q next own old (sym (off_path link.here w b apart j q old) ∙ g))
      (same_or_not top level a b)

  pub tree_link : IsTree top new root
  tree_link = record {
    in_use = λ j b q r. ⊎_elim
        (λ old. written_in_use m n (index_at level a) w q (link.here.tree.in_use j b q old))
        (λ fresh. subst (λ x. IsSome (finite.get new x)) (sym fresh.2) (used_some new f zeros still_clear))
        (old_or_new j b q r);
    once = once_new;
    allows = λ j b q next own r g. ⊎_elim
        (λ old. allows_old j b q next own r g old)
        (λ fresh.
        let found : found_at j new f b ≡ Some (entry.Table next own) = subst (λ x. found_at j new x b ≡ Some (entry.Table next own)) fresh.2 g in
        let wrong : entry.Table next own ≡ entry.Absent = same_Some _ _ (sym found ∙ found_in_zeros j new f b still_clear) in
        cc)
        (old_or_new j b q r);
  }

  -- each address is walked as before
  pub walk_link : (b : ℕ) → walk_from new top root all_rights b ≡ walk_from m top root all_rights b
  walk_link b = ⊎_elim
      (λ same.
      walk_absent tree_link b below f link.some (linked b same) (found_in_zeros below new f b still_clear)
      ∙ sym (walk_absent link.here.tree b level n (omega (arith, link.one)) (at_same link.here b same)
      (sym (found_same level m n a b (same level (omega arith) (within link.here))) ∙ link.absent)))
      (λ apart. walk_off_path link.here w b apart)
      (same_or_not top level a b)

-- ---- a frame that isn't in use is taken and cleared

module _ {top : ℕ} {m : Memory} {root : ℕ} (tree : IsTree top m root) (f : ℕ) (free : finite.get m f ≡ None) where
  abbrev with_frame : Memory
  with_frame = finite.insert m f zeros

  not_reached : (j b q : ℕ) → table_at top m root j b ≡ Some q → q ≢ f
  not_reached j b q r e =
      let used = tree.in_use j b q r in
      let none : IsSome {T = List ℕ} None = subst IsSome (ap (finite.get m) e ∙ free) used in
      cc

  taken_alike : (j b q : ℕ) → table_at top m root j b ≡ Some q → finite.get with_frame q ≡ finite.get m q
  taken_alike j b q r = get-insert_other m f zeros q (not_reached j b q r)

  pub table_take : (j b : ℕ) → table_at top with_frame root j b ≡ table_at top m root j b
  table_take j b = unreached_table top root m with_frame taken_alike j b

  pub walk_take : (b : ℕ) → walk_from with_frame top root all_rights b ≡ walk_from m top root all_rights b
  walk_take b = unreached_walk top root m with_frame taken_alike b

  pub tree_take : IsTree top with_frame root
  tree_take = unreached_tree top root m with_frame taken_alike tree

  pub new_unreached : (j b : ℕ) → table_at top with_frame root j b ≢ Some f
  new_unreached j b r = not_reached j b f (sym (table_take j b) ∙ r) refl

  pub found_take : (j b q : ℕ) → table_at top m root j b ≡ Some q → found_at j with_frame q b ≡ found_at j m q b
  found_take j b q r = found_alike j m with_frame q b (taken_alike j b q r)

-- ---- the entry that leads to a table is cleared, and the frame freed

module _ {top : ℕ} {m : Memory} {root level a n : ℕ} (here : IsTreeAt top m root level a n) {below f : ℕ} (one : level ≡ suc below)
    (down : table_at top m root below a ≡ Some f) where
  abbrev cut : Memory
  cut = with_word m n (index_at level a) 0

  abbrev given : Memory
  given = finite.remove cut f

  ends : table_in (Some (meaning level 0)) ≡ None
  ends = ap (λ e. table_in (Some e)) (zero_absent level)

  cut_unreached : (j b q : ℕ) → table_at top cut root j b ≡ Some q → q ≢ f
  cut_unreached j b q r e =
      let was = fewer here 0 ends j b q r in
      let both = here.tree.once j below b a f (was ∙ ap Some e) down in
      let same : SamePath top level a b = λ i from to. sym (both.1 i (omega (arith, both.0)) to) in
      let none = none_here here 0 ends b j (omega (arith, both.0)) same in
      cc

  pub cut_alike : (j b q : ℕ) → table_at top cut root j b ≡ Some q → finite.get given q ≡ finite.get cut q
  cut_alike j b q r = get-remove_other cut f q (cut_unreached j b q r)

  pub tree_unlink : IsTree top given root
  tree_unlink = unreached_tree top root cut given cut_alike (tree_write here 0 ends)

  pub table_unlink : (j b q : ℕ) → table_at top given root j b ≡ Some q → table_at top m root j b ≡ Some q
  table_unlink j b q r = fewer here 0 ends j b q (sym (unreached_table top root cut given cut_alike j b) ∙ r)

  pub table_kept : (j b : ℕ) → level ≤ j → table_at top given root j b ≡ table_at top m root j b
  table_kept j b le = unreached_table top root cut given cut_alike j b ∙ table_above here 0 b j le

  pub walk_unlink_off : (b : ℕ) → (SamePath top level a b → ⊥) → walk_from given top root all_rights b ≡ walk_from m top root all_rights b
  walk_unlink_off b apart = unreached_walk top root cut given cut_alike b ∙ walk_off_path here 0 b apart

  pub found_unlinked : (b : ℕ) → SamePath top level a b → found_at level given n b ≡ Some entry.Absent
  found_unlinked b same = found_alike level cut given n b (cut_alike level b n (table_here here 0 b same))
      ∙ found_on_path here 0 b same ∙ ap Some (zero_absent level)

  pub walk_unlink_on : (b : ℕ) → SamePath top level a b → walk_from given top root all_rights b ≡ NotMapped
  walk_unlink_on b same = unreached_walk top root cut given cut_alike b ∙ walk_to_absent here 0 (zero_absent level) (omega arith) b same
