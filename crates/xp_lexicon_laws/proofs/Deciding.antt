-- Whether a text is a lexeme is decided.
use Rattle.std.proofs.Common.{◌≡◌, ◌⊎◌, inl, inr, ⊎_elim, ℕ, Bool, true, false, ◌==◌, List, [], ◌∷◌, ◌++◌, Option, None, Some, refl, sym, ap, ◌∙◌, subst, true≢false}
use Rattle.std.specs.List.{list_any}
use Rattle.std.specs.Str.{is_utf8}
use Rattle.std.proofs.lemmas.Bool.{cases_eq}
use Rattle.std.proofs.lemmas.Str.{IsUtf8-from_is_utf8, is_utf8-from_IsUtf8}
use Rattle.sch_base.specs.Names.{is_ncname}
use Rattle.sch_base.specs.Named.{named}
use Rattle.xp_grammar.specs.declared.token.Token.{Token}
use Rattle.xp_lexicon.specs.Lexicon.{IsLexeme, IsNcname, IsNumber, IsPrefixed, are_digits, ending_point, inner_point, is_quote, leading_point, literal_lexeme, name_lexeme, number_lexeme, prefix_star_lexeme, prefixed_name_lexeme, prefixed_variable_lexeme, star_lexeme, symbol_lexeme, symbols, variable_lexeme, whole_number}
use Rattle.xp_lexicon.specs.declared.lexeme.Lexeme.{Lexeme}
use Rattle.xp_lexicon.specs.declared.lexeme.Lexeme.TheVariants as lexeme

-- it holds, or it doesn't
abbrev pub Decided : Type 0 → Type 0
Decided A = A ⊎ (A → ⊥)

test-decided : (b : Bool) → Decided (b ≡ true)
test-decided true = inl refl
test-decided false = inr (λ h. true≢false (sym h))

both-decided : {A B : Type 0} → Decided A → Decided B → Decided (A × B)
both-decided (inl a) (inl b) = inl (a, b)
both-decided (inl a) (inr not) = inr (λ x. not x.1)
both-decided (inr not) b = inr (λ x. not x.0)

either-decided : {A B : Type 0} → Decided A → Decided B → Decided (A ⊎ B)
either-decided (inl a) b = inl (inl a)
either-decided (inr not) (inl b) = inl (inr b)
either-decided (inr not) (inr none) = inr (λ x. ⊎_elim not none x)

same-decided : {A B : Type 0} → (A → B) → (B → A) → Decided A → Decided B
same-decided f g (inl a) = inl (f a)
same-decided f g (inr not) = inr (λ b. not (g b))

empty-decided : (xs : List ℕ) → Decided (xs ≡ [])
empty-decided [] = inl refl
empty-decided (x ∷ xs) = inr (λ h. cc)

star-behind : (xs : List ℕ) → Decided (xs ≡ 42 ∷ [])
star-behind [] = inr (λ h. cc)
star-behind (x ∷ y ∷ xs) = inr (λ h. cc)
star-behind (x ∷ []) = ⊎_elim (λ (e : x ≡ 42). inl (ap (λ (k : ℕ). k ∷ []) e)) (λ (ne : x ≡ 42 → ⊥). inr (λ h. ne (cc))) (cases_eq x 42)

-- a text that is parted at a byte, where something holds of both parts
abbrev pub Parted : (List ℕ → List ℕ → Type 0) → ℕ → List ℕ → Type 0
Parted P c text = (front : List ℕ) × (back : List ℕ) × (text ≡ front ++ c ∷ back) × P front back

parted-first : (P : List ℕ → List ℕ → Type 0) (c b : ℕ) (text : List ℕ) → ((b ≡ c) × P [] text) ⊎ Parted (λ front back. P (b ∷ front) back) c text → Parted P c (b ∷ text)
parted-first P c b text (inl x) = ([], text, ap (λ (k : ℕ). k ∷ text) x.0, x.1)
parted-first P c b text (inr x) = (b ∷ x.0, x.1, ap (λ (l : List ℕ). b ∷ l) x.2, x.3)

parted-where : (P : List ℕ → List ℕ → Type 0) (c b : ℕ) (text front back : List ℕ) → b ∷ text ≡ front ++ c ∷ back → P front back →
    ((b ≡ c) × P [] text) ⊎ Parted (λ front back. P (b ∷ front) back) c text
parted-where P c b text [] back h holds =
    let rest : back ≡ text = cc in
    inl (cc, subst (P []) rest holds)
parted-where P c b text (y ∷ front) back h holds =
    let same : y ≡ b = cc in
    let rest : text ≡ front ++ c ∷ back = cc in
    inr (front, back, rest, subst (λ (k : ℕ). P (k ∷ front) back) same holds)

none-parted : (P : List ℕ → List ℕ → Type 0) (c : ℕ) (front back : List ℕ) → [] ≡ front ++ c ∷ back → ⊥
none-parted P c [] back h = cc
none-parted P c (y ∷ front) back h = cc

parted-decided : (P : List ℕ → List ℕ → Type 0) → ((front back : List ℕ) → Decided (P front back)) → (c : ℕ) (text : List ℕ) → Decided (Parted P c text)
parted-decided P each c [] = inr (λ x. none-parted P c x.0 x.1 x.2)
parted-decided P each c (b ∷ text) =
    same-decided (parted-first P c b text) (λ x. parted-where P c b text x.0 x.1 x.2 x.3)
    (either-decided (both-decided (cases_eq b c) (each [] text)) (parted-decided (λ front back. P (b ∷ front) back) (λ front back. each (b ∷ front) back) c text))

ncname-decided : (bytes : List ℕ) → Decided (IsNcname bytes)
ncname-decided bytes = by (is_utf8 bytes) refl (is_ncname bytes) refl
  where
    by : (a : Bool) → is_utf8 bytes ≡ a → (b : Bool) → is_ncname bytes ≡ b → Decided (IsNcname bytes)
    by true utf8 true name = inl (record { utf8 = IsUtf8-from_is_utf8 bytes utf8; name = name })
    by false none b name = inr (λ h. true≢false (sym (is_utf8-from_IsUtf8 bytes h.utf8) ∙ none))
    by true utf8 false none = inr (λ h. true≢false (sym h.name ∙ none))

prefixed-decided : (bytes : List ℕ) → Decided (IsPrefixed bytes)
prefixed-decided bytes =
    same-decided {A = Parted (λ front back. IsNcname front × IsNcname back) 58 bytes}
    (λ x. record { prefix = x.0; local = x.1; joined = x.2; prefix_name = x.3.0; local_name = x.3.1 })
    (λ h. (h.prefix, h.local, h.joined, (h.prefix_name, h.local_name)))
    (parted-decided (λ front back. IsNcname front × IsNcname back) (λ front back. both-decided (ncname-decided front) (ncname-decided back)) 58 bytes)

-- digits round a point, on one side at least
abbrev Pointed : List ℕ → List ℕ → Type 0
Pointed front back = ((are_digits front ≡ true) × (back ≡ [])) ⊎ (((are_digits front ≡ true) × (are_digits back ≡ true)) ⊎ ((are_digits back ≡ true) × (front ≡ [])))

pointed-decided : (front back : List ℕ) → Decided (Pointed front back)
pointed-decided front back =
    either-decided (both-decided (test-decided (are_digits front)) (empty-decided back))
    (either-decided (both-decided (test-decided (are_digits front)) (test-decided (are_digits back))) (both-decided (test-decided (are_digits back)) (empty-decided front)))

abbrev Numeral : List ℕ → Type 0
Numeral bytes = (are_digits bytes ≡ true) ⊎ Parted Pointed 46 bytes

pointed-number : (bytes front back : List ℕ) → bytes ≡ front ++ 46 ∷ back → Pointed front back → IsNumber bytes
pointed-number bytes front back is (inl x) = ending_point bytes front (is ∙ ap (λ (l : List ℕ). front ++ 46 ∷ l) x.1) x.0
pointed-number bytes front back is (inr (inl x)) = inner_point bytes front back is x.0 x.1
pointed-number bytes front back is (inr (inr x)) = subst IsNumber (sym (is ∙ ap (λ (l : List ℕ). l ++ 46 ∷ back) x.1)) (leading_point back x.0)

numeral-number : (bytes : List ℕ) → Numeral bytes → IsNumber bytes
numeral-number bytes (inl digits) = whole_number bytes digits
numeral-number bytes (inr x) = pointed-number bytes x.0 x.1 x.2 x.3

number-numeral : (bytes : List ℕ) → IsNumber bytes → Numeral bytes
number-numeral _ (whole_number digits are) = inl are
number-numeral _ (ending_point bytes digits is are) = inr (digits, [], is, inl (are, refl))
number-numeral _ (inner_point bytes digits fraction is are also) = inr (digits, fraction, is, inr (inl (are, also)))
number-numeral _ (leading_point fraction are) = inr ([], fraction, refl, inr (inr (are, refl)))

number-decided : (bytes : List ℕ) → Decided (IsNumber bytes)
number-decided bytes = same-decided (numeral-number bytes) (number-numeral bytes) (either-decided (test-decided (are_digits bytes)) (parted-decided Pointed pointed-decided 46 bytes))

-- a lexeme, by the forms that it may have
abbrev Literal : List ℕ → Type 0
Literal bytes = (quote : ℕ) × (rest : List ℕ) × (bytes ≡ quote ∷ rest) × (is_quote quote ≡ true) × Parted (λ value back. (list_any (λ b. b == quote) value ≡ false) × (back ≡ [])) quote rest

abbrev Variable : List ℕ → Type 0
Variable bytes = (name : List ℕ) × (bytes ≡ 36 ∷ name) × (IsNcname name ⊎ IsPrefixed name)

false-decided : (b : Bool) → Decided (b ≡ false)
false-decided false = inl refl
false-decided true = inr (λ h. true≢false h)

literal-decided : (bytes : List ℕ) → Decided (Literal bytes)
literal-decided [] = inr (λ x. absurd (let h : [] ≡ x.0 ∷ x.1 = x.2 in cc))
literal-decided (quote ∷ rest) =
    same-decided {A = (is_quote quote ≡ true) × Parted (λ value back. (list_any (λ b. b == quote) value ≡ false) × (back ≡ [])) quote rest}
    (λ x. (quote, rest, refl, x.0, x.1))
    (λ x. by x.0 x.1 x.2 x.3 x.4)
    (both-decided (test-decided (is_quote quote)) (parted-decided (λ value back. (list_any (λ b. b == quote) value ≡ false) × (back ≡ []))
    (λ value back. both-decided (false-decided (list_any (λ b. b == quote) value)) (empty-decided back)) quote rest))
  where
    by : (other : ℕ) (more : List ℕ) → quote ∷ rest ≡ other ∷ more → is_quote other ≡ true → Parted (λ value back. (list_any (λ b. b == other) value ≡ false) × (back ≡ [])) other more →
        (is_quote quote ≡ true) × Parted (λ value back. (list_any (λ b. b == quote) value ≡ false) × (back ≡ [])) quote rest
    by other more same is parted =
        let first : other ≡ quote = cc in
        let behind : more ≡ rest = cc in (
          ap is_quote (sym first) ∙ is,
          subst (λ (l : List ℕ). Parted (λ value back. (list_any (λ b. b == quote) value ≡ false) × (back ≡ [])) quote l) behind
              (subst (λ (q : ℕ). Parted (λ value back. (list_any (λ b. b == q) value ≡ false) × (back ≡ [])) q more) first parted),
        )

variable-decided : (bytes : List ℕ) → Decided (Variable bytes)
variable-decided [] = inr (λ x. absurd (let h : [] ≡ 36 ∷ x.0 = x.1 in cc))
variable-decided (b ∷ name) =
    same-decided {A = (b ≡ 36) × (IsNcname name ⊎ IsPrefixed name)}
    (λ x. (name, ap (λ (k : ℕ). k ∷ name) x.0, x.1))
    (λ x. let first : b ≡ 36 = cc (x.1) in let rest : x.0 ≡ name = cc (x.1) in (first, subst (λ (l : List ℕ). IsNcname l ⊎ IsPrefixed l) rest x.2))
    (both-decided (cases_eq b 36) (either-decided (ncname-decided name) (prefixed-decided name)))

symbol-decided : (bytes : List ℕ) → Decided ((t : Token) × (named symbols bytes ≡ Some t))
symbol-decided bytes = by (named symbols bytes) refl
  where
    by : (o : Option Token) → named symbols bytes ≡ o → Decided ((t : Token) × (named symbols bytes ≡ Some t))
    by (Some t) is = inl (t, is)
    by None none = inr (λ x. let clash : None ≡ Some x.0 = sym none ∙ x.1 in cc)

abbrev pub Starred : List ℕ → Type 0
Starred bytes = Parted (λ front back. IsNcname front × (back ≡ 42 ∷ [])) 58 bytes

abbrev Form : List ℕ → Type 0
Form bytes = ((t : Token) × (named symbols bytes ≡ Some t)) ⊎ ((bytes ≡ 42 ∷ []) ⊎ (Literal bytes ⊎ (IsNumber bytes ⊎ (Variable bytes ⊎ (IsNcname bytes ⊎ (IsPrefixed bytes ⊎ Starred bytes))))))

form-decided : (bytes : List ℕ) → Decided (Form bytes)
form-decided bytes =
    either-decided (symbol-decided bytes) (either-decided (star-behind bytes) (either-decided (literal-decided bytes) (either-decided (number-decided bytes) (either-decided (variable-decided bytes)
    (either-decided (ncname-decided bytes) (either-decided (prefixed-decided bytes)
    (parted-decided (λ front back. IsNcname front × (back ≡ 42 ∷ [])) (λ front back. both-decided (ncname-decided front) (star-behind back)) 58 bytes)))))))

-- a text is some lexeme
abbrev pub IsSome : List ℕ → Type 0
IsSome bytes = (l : Lexeme) × IsLexeme bytes l

form-lexeme : (bytes : List ℕ) → Form bytes → IsSome bytes
form-lexeme bytes (inl x) = (lexeme.Symbol x.0, symbol_lexeme bytes x.0 x.1)
form-lexeme bytes (inr (inl is)) = (lexeme.Star, subst (λ (l : List ℕ). IsLexeme l lexeme.Star) (sym is) star_lexeme)
form-lexeme bytes (inr (inr (inl x))) =
    (lexeme.Literal x.4.0, literal_lexeme bytes x.4.0 x.0 x.3 x.4.3.0 (x.2 ∙ ap (λ (l : List ℕ). x.0 ∷ l) (x.4.2 ∙ ap (λ (l : List ℕ). x.4.0 ++ x.0 ∷ l) x.4.3.1)))
form-lexeme bytes (inr (inr (inr (inl x)))) = (lexeme.Number bytes, number_lexeme bytes x)
form-lexeme bytes (inr (inr (inr (inr (inl x))))) = (
  lexeme.Variable x.0,
  subst (λ (l : List ℕ). IsLexeme l (lexeme.Variable x.0)) (sym x.1)
      (⊎_elim (λ (h : IsNcname x.0). variable_lexeme x.0 h) (λ (h : IsPrefixed x.0). prefixed_variable_lexeme x.0 h) x.2),
)
form-lexeme bytes (inr (inr (inr (inr (inr (inl x)))))) = (lexeme.Name bytes, name_lexeme bytes x)
form-lexeme bytes (inr (inr (inr (inr (inr (inr (inl x))))))) = (lexeme.PrefixedName bytes, prefixed_name_lexeme bytes x)
form-lexeme bytes (inr (inr (inr (inr (inr (inr (inr x))))))) =
    (lexeme.PrefixStar x.0, prefix_star_lexeme bytes x.0 (x.2 ∙ ap (λ (l : List ℕ). x.0 ++ 58 ∷ l) x.3.1) x.3.0)

lexeme-form : (bytes : List ℕ) (l : Lexeme) → IsLexeme bytes l → Form bytes
lexeme-form _ _ (symbol_lexeme bytes t is) = inl (t, is)
lexeme-form _ _ (star_lexeme) = inr (inl refl)
lexeme-form _ _ (literal_lexeme bytes value quote is none whole) = inr (inr (inl (quote, value ++ quote ∷ [], whole, is, (value, [], refl, (none, refl)))))
lexeme-form _ _ (number_lexeme bytes is) = inr (inr (inr (inl is)))
lexeme-form _ _ (variable_lexeme name is) = inr (inr (inr (inr (inl (name, refl, inl is)))))
lexeme-form _ _ (prefixed_variable_lexeme name is) = inr (inr (inr (inr (inl (name, refl, inr is)))))
lexeme-form _ _ (name_lexeme bytes is) = inr (inr (inr (inr (inr (inl is)))))
lexeme-form _ _ (prefixed_name_lexeme bytes is) = inr (inr (inr (inr (inr (inr (inl is))))))
lexeme-form _ _ (prefix_star_lexeme bytes prefix is name) = inr (inr (inr (inr (inr (inr (inr (prefix, 42 ∷ [], is, (name, refl))))))))

pub lexeme-decided : (bytes : List ℕ) → Decided (IsSome bytes)
lexeme-decided bytes = same-decided (form-lexeme bytes) (λ x. lexeme-form bytes x.0 x.1) (form-decided bytes)
