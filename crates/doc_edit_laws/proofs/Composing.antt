-- Agreement along two changes: a node of the first tree and the last lives in the one between, and so what both keep is kept.
use Rattle.std.proofs.Common.{◌≡◌, ℕ, ◌<◌, Bool, true, false, ◌&&◌, ◌||◌, length, refl, sym, ◌∙◌, subst, true≢false, arith}
use Rattle.doc_tree.specs.cell.Cell.{Cell}
use Rattle.doc_tree.specs.cell.Cell.TheVariants.{Kids, Shape, Attrs, Value, Text, Name}
use Rattle.doc_tree.specs.Kinds.{has_own_name, holds_kids}
use Rattle.doc_tree.specs.Table.{Table, is_live}
use Rattle.doc_edit_laws.specs.Agreement.{Agree, IsTree, Stays, lives_in_both}
use Rattle.doc_edit_laws.proofs.OrderLemmas.{orders-alike}

pub both : (b c : Bool) → (b && c) ≡ true → (b ≡ true) × (c ≡ true)
both true true h = (refl, refl)
both true false h = absurd (true≢false (sym h))
both false c h = absurd (true≢false (sym h))

pub of-both : (b c : Bool) → b ≡ true → c ≡ true → (b && c) ≡ true
of-both b c h k = rw (h, k) refl

pub neither : (b c : Bool) → (b || c) ≡ false → (b ≡ false) × (c ≡ false)
neither true c h = absurd (true≢false h)
neither false c h = (refl, h)

-- a live node has a number that was made
pub made : (T : Table) → IsTree T → (n : ℕ) → is_live T n ≡ true → n < length T
made T tree n live = tree.ordered.made n (sym (tree.ordered.live_in_order n) ∙ live)

module _ (T U V : Table) (touched later : Cell → Bool) (first : IsTree T) (before : Agree T U touched) (after : Agree U V later) where
  -- it lives in the tree between
  middle : (n : ℕ) → Stays T V n → Stays T U n × Stays U V n
  middle n stays =
      let ends = both (is_live T n) (is_live V n) stays in
      let mid : is_live U n ≡ true = after.no_return n (omega (arith, made T first n ends.0, before.numbers)) ends.1 in
      (of-both (is_live T n) (is_live U n) ends.0 mid, of-both (is_live U n) (is_live V n) mid ends.1)

  pub compose : Agree T V (λ c. touched c || later c)
  compose = record {
    kind = λ n stays. let m = middle n stays in before.kind n m.0 ∙ after.kind n m.1;
    target = λ n stays other. let m = middle n stays in before.target n m.0 other ∙ after.target n m.1 (subst (λ k. has_own_name k ≡ false) (before.kind n m.0) other);
    parent = λ n stays. let m = middle n stays in before.parent n m.0 ∙ after.parent n m.1;
    in_order =
        orders-alike T U before.in_order (lives_in_both T V) (lives_in_both T V) (λ n stays. (middle n stays).0) (λ n stays. (middle n stays).0) (λ _ _. refl)
        ∙ orders-alike U V after.in_order (lives_in_both T V) (lives_in_both T V) (λ n stays. (middle n stays).1) (λ n stays. (middle n stays).1) (λ _ _. refl);
    name = λ n stays named out. let m = middle n stays in let o = neither (touched (Name n)) (later (Name n)) out in
        before.name n m.0 named o.0 ∙ after.name n m.1 (subst (λ k. has_own_name k ≡ true) (before.kind n m.0) named) o.1;
    kids = λ n stays out. let m = middle n stays in let o = neither (touched (Kids n)) (later (Kids n)) out in before.kids n m.0 o.0 ∙ after.kids n m.1 o.1;
    shape = λ n stays out. let m = middle n stays in let o = neither (touched (Shape n)) (later (Shape n)) out in before.shape n m.0 o.0 ∙ after.shape n m.1 o.1;
    attributes = λ n stays out. let m = middle n stays in let o = neither (touched (Attrs n)) (later (Attrs n)) out in before.attributes n m.0 o.0 ∙ after.attributes n m.1 o.1;
    value = λ n stays out. let m = middle n stays in let o = neither (touched (Value n)) (later (Value n)) out in before.value n m.0 o.0 ∙ after.value n m.1 o.1;
    text = λ n stays has out. let m = middle n stays in let o = neither (touched (Text n)) (later (Text n)) out in
        before.text n m.0 has o.0 ∙ after.text n m.1 (subst (λ k. holds_kids k ≡ true) (before.kind n m.0) has) o.1;
    numbers = omega (arith, before.numbers, after.numbers);
    no_return = λ n old live. before.no_return n old (after.no_return n (omega (arith, old, before.numbers)) live);
  }
