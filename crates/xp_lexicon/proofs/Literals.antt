-- The longest literal in front of a text.
use Rattle.std.proofs.Common.{◌≡◌, ◌≢◌, ℕ, suc, ◌+◌, ◌<◌, ◌≤◌, true, false, ◌||◌, List, [], ◌∷◌, ◌++◌, length, get_or, refl, sym, ap, subst, ◌∙◌, append_assoc, arith, length-append}
use Rattle.std.specs.Prelude.{◌==◌}
use Rattle.std.specs.List.{list_any}
use Rattle.std.proofs.lemmas.Bool.{both_ways, or_from, or_parts, or_right, ne_eqb, eq-eqb, eqb-false}
use Rattle.std.proofs.lemmas.Bool.Decides.{nat_tests}
use Rattle.xp_lexicon.specs.declared.lexeme.Lexeme.TheVariants as lexeme
use Rattle.xp_lexicon.specs.Lexicon.{is_quote, literal_lexeme}
use Rattle.xp_lexicon.specs.inner.Scanning.{LongestOf, NoneOf, is_literal}
use Rattle.xp_lexicon.proofs.Forms.{literals}

pub quote_is_low : (q : ℕ) → is_quote q ≡ true → q < 128
quote_is_low q h = grind (arith, nat_tests)

pub none_inside : (q : ℕ) (text : List ℕ) → ((i : ℕ) → i < length text → get_or text i 0 ≢ q) → list_any (λ b. b == q) text ≡ false
none_inside q [] none = refl
none_inside q (b ∷ text) none =
    or_from _ _ (ne_eqb b q (none 0 (omega arith))) (none_inside q text (λ i less. none (suc i) (omega arith)))

has_inside : (q : ℕ) (value after : List ℕ) → list_any (λ b. b == q) (value ++ q ∷ after) ≡ true
has_inside q [] after = ap (λ t. t || list_any (λ b. b == q) after) (eq-eqb q q refl)
has_inside q (b ∷ value) after = or_right _ _ (has_inside q value after)

head_same : (a b : ℕ) (xs ys : List ℕ) → a ∷ xs ≡ b ∷ ys → (a ≡ b) × (xs ≡ ys)
head_same a b xs ys e = (cc, cc)

-- a text is cut at its first quote in one way
same_value : (q : ℕ) (value other rest after : List ℕ) → list_any (λ b. b == q) value ≡ false → list_any (λ b. b == q) other ≡ false →
    value ++ q ∷ rest ≡ other ++ q ∷ after → length other ≡ length value
same_value q [] [] rest after none none2 e = refl
same_value q [] (b ∷ other) rest after none none2 e =
    let same = head_same q b rest (other ++ q ∷ after) e in
    absurd (eqb-false b q (or_parts _ _ none2).0 (sym same.0))
same_value q (b ∷ value) [] rest after none none2 e =
    let same = head_same b q (value ++ q ∷ rest) after e in
    absurd (eqb-false b q (or_parts _ _ none).0 same.0)
same_value q (b ∷ value) (d ∷ other) rest after none none2 e =
    let same = head_same b d (value ++ q ∷ rest) (other ++ q ∷ after) e in
    ap suc (same_value q value other rest after (or_parts _ _ none).1 (or_parts _ _ none2).1 same.1)

quoted_length : (q : ℕ) (value : List ℕ) → length (q ∷ (value ++ q ∷ [])) ≡ suc (length value + 1)
quoted_length q value = omega (arith, length-append value (q ∷ []))

-- what another literal at the place is
record Other (quote : ℕ) (text value after : List ℕ) : Type 0 where
  none : list_any (λ b. b == quote) value ≡ false
  split : text ≡ value ++ quote ∷ after

other_of : (quote q : ℕ) (text more value after : List ℕ) → list_any (λ b. b == q) value ≡ false → more ≡ q ∷ (value ++ q ∷ []) →
    quote ∷ text ≡ more ++ after → Other quote text value after
other_of quote q text more value after none is e =
    let same = head_same quote q text ((value ++ q ∷ []) ++ after) (e ∙ ap (λ l. l ++ after) is) in
    record {
      none = subst (λ x. list_any (λ b. b == x) value ≡ false) (sym same.0) none;
      split = same.1 ∙ append_assoc value (q ∷ []) after ∙ ap (λ x. value ++ x ∷ after) (sym same.0);
    }

pub longest_literal : (quote : ℕ) (text value rest : List ℕ) → is_quote quote ≡ true → list_any (λ b. b == quote) value ≡ false →
    text ≡ value ++ quote ∷ rest → LongestOf is_literal (quote ∷ text) rest (lexeme.Literal value)
longest_literal quote text value rest quoted none split = record {
  bytes = quote ∷ (value ++ quote ∷ []);
  at_front = ap (λ l. quote ∷ l) (split ∙ sym (append_assoc value (quote ∷ []) rest));
  is = literal_lexeme (quote ∷ (value ++ quote ∷ [])) value quote quoted none refl;
  longest = λ more after m form e is.
      literals (λ bs _. quote ∷ text ≡ bs ++ after → length bs ≤ length (quote ∷ (value ++ quote ∷ [])))
      (λ bs other q _ none2 is2 e2.
      let o = other_of quote q text bs other after none2 is2 e2 in
      let same = same_value quote value other rest after none o.none (sym split ∙ o.split) in
      omega (arith, ap length is2, quoted_length q other, quoted_length quote value))
      more m form is e;
}

pub no_literals : (quote : ℕ) (text : List ℕ) → list_any (λ b. b == quote) text ≡ false → NoneOf is_literal (quote ∷ text)
no_literals quote text none = λ more after m form e is.
    literals (λ bs _. quote ∷ text ≡ bs ++ after → ⊥)
    (λ bs value q _ none2 is2 e2.
    let o = other_of quote q text bs value after none2 is2 e2 in
    both_ways (list_any (λ b. b == quote) text) none (subst (λ l. list_any (λ b. b == quote) l ≡ true) (sym o.split) (has_inside quote value after)))
    more m form is e
