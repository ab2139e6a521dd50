-- A lexeme before a byte that cannot go on with it is the longest one: XPath 1.0, section 3.7.
use Rattle.std.proofs.Common.{◌≡◌, ℕ, suc, ◌≤◌, ◌+◌, ◌⊎◌, inl, inr, Bool, true, false, ◌==◌, if◌then◌else◌, not, ◌&&◌, ◌||◌, List, [], ◌∷◌, ◌++◌, length, length-append, append_assoc, refl, sym, subst, ap, ◌∙◌, arith}
use Rattle.std.specs.Char.{is_ascii_digit}
use Rattle.std.specs.List.{list_any, list_all}
use Rattle.std.specs.Str.{all_ascii_digits}
use Rattle.std.proofs.lemmas.Bool.Decides.{nat_tests}
use Rattle.sch_base.specs.Characters.{is_name_start, is_name_char}
use Rattle.xp_lexicon.specs.declared.lexeme.Lexeme.{Lexeme}
use Rattle.xp_lexicon.specs.declared.lexeme.Lexeme.TheVariants as lexeme
use Rattle.xp_lexicon.specs.Lexicon.{are_digits, IsNumber, whole_number, ending_point, inner_point, leading_point, IsNcname, IsPrefixed, is_quote, IsLexeme, symbol_lexeme, star_lexeme, literal_lexeme, number_lexeme, variable_lexeme, prefixed_variable_lexeme, name_lexeme, prefixed_name_lexeme, prefix_star_lexeme}
use Rattle.xp_print_laws.proofs.Fronts.{both, is_equal, and-true, not-passing, ends_with, same-heads, same-tails, front-ends, same-fronts}
use Rattle.xp_print_laws.proofs.NameBytes.{is_name_byte, is_start_byte, NameBytes, name-bytes, colon-ends, star-starts-no-name, colon-starts-no-name}
use Rattle.xp_print_laws.proofs.Leads.{signs, is_sign, is_pair, Short, one_sign, two_signs, symbol-short, leads, longest-by, Sign, only-symbols}

-- ---- symbols

-- a second sign does not make a pair with the first
abbrev pub no_pair : ℕ → List ℕ → Bool
no_pair b [] = true
no_pair b (c ∷ rest) = not (is_pair b c)

sign-length : (b : ℕ) (bs after rest : List ℕ) → no_pair b rest ≡ true → rest ≡ bs ++ after → Short (b ∷ bs) → length (b ∷ bs) ≤ 1
sign-length b bs after rest none e (one_sign a h) = omega arith
sign-length b bs after rest none e (two_signs a c h pair) =
    let no_way : not (is_pair a c) ≡ true = sym (ap (no_pair a) e) ∙ none in
    absurd (let fails = not-passing (is_pair a c) no_way in cc)

short-length : (bytes : List ℕ) → Short bytes → length bytes ≤ 2
short-length bytes (one_sign a h) = omega arith
short-length bytes (two_signs a c h pair) = omega arith

pub sign-longest : (b : ℕ) (rest : List ℕ) → Sign b → no_pair b rest ≡ true →
    (more after : List ℕ) (l : Lexeme) → b ∷ rest ≡ more ++ after → IsLexeme more l → length more ≤ 1
sign-longest b rest s none = longest-by b rest 1
    (λ l bs after led L e. only-symbols b s 1 bs after rest (λ t h. sign-length b bs after rest none e (symbol-short (b ∷ bs) t h)) l led L)

pub pair-longest : (b : ℕ) (rest : List ℕ) → Sign b → (more after : List ℕ) (l : Lexeme) → b ∷ rest ≡ more ++ after → IsLexeme more l → length more ≤ 2
pair-longest b rest s = longest-by b rest 2
    (λ l bs after led L e. only-symbols b s 2 bs after rest (λ t h. short-length (b ∷ bs) (symbol-short (b ∷ bs) t h)) l led L)

star-alone : {bytes : List ℕ} → IsLexeme bytes lexeme.Star → length bytes ≤ 1
star-alone star_lexeme = omega arith

only-star : (bs : List ℕ) (l : Lexeme) → leads l 42 ≡ true → IsLexeme (42 ∷ bs) l → length (42 ∷ bs) ≤ 1
unfolding is_name_start
only-star bs lexeme.Star led L = star-alone L
only-star bs (lexeme.Symbol t) led L = absurd (cc)
only-star bs _ led L = absurd (cc)

pub star-longest : (rest more after : List ℕ) (l : Lexeme) → 42 ∷ rest ≡ more ++ after → IsLexeme more l → length more ≤ 1
star-longest rest = longest-by 42 rest 1 (λ l bs after led L e. only-star bs l led L)

-- ---- literals

neither : (a b : Bool) → (a || b) ≡ false → (a ≡ false) × (b ≡ false)
neither true b h = absurd (cc)
neither false b h = (refl, h)

none-all : (q : ℕ) (xs : List ℕ) → list_any (λ b. b == q) xs ≡ false → list_all (λ b. not (b == q)) xs ≡ true
none-all q [] h = refl
none-all q (x ∷ xs) h =
    let apart = neither (x == q) (list_any (λ b. b == q) xs) h in
    and-true (not (x == q)) (list_all (λ b. not (b == q)) xs) (ap not apart.0) (none-all q xs apart.1)

equal-refl : (q : ℕ) → (q == q) ≡ true
equal-refl q = grind (arith, nat_tests)

until-quote : (q : ℕ) (value other rest after : List ℕ) → list_any (λ b. b == q) other ≡ false →
    value ++ (q ∷ rest) ≡ other ++ (q ∷ after) → length other ≤ length value
until-quote q value other rest after none e =
    front-ends (λ b. not (b == q)) value (q ∷ rest) other (q ∷ after) (sym e) (none-all q other none) (ap (λ t. not (not t)) (equal-refl q))

literal-of : {bytes value : List ℕ} → IsLexeme bytes (lexeme.Literal value) →
    (q : ℕ) × (list_any (λ b. b == q) value ≡ false) × (bytes ≡ q ∷ (value ++ q ∷ []))
literal-of (literal_lexeme bytes value q is none e) = (q, none, e)

literal-length : (q : ℕ) (value rest bs after other : List ℕ) → (value ++ q ∷ []) ++ rest ≡ bs ++ after → IsLexeme (q ∷ bs) (lexeme.Literal other) →
    length (q ∷ bs) ≤ length (q ∷ (value ++ q ∷ []))
literal-length q value rest bs after other e L =
    let (p, none, is) = literal-of L in
    let same : p ≡ q = sym (same-heads q p bs (other ++ p ∷ []) is) in
    let none' : list_any (λ b. b == q) other ≡ false = subst (λ x. list_any (λ b. b == x) other ≡ false) same none in
    let tail : bs ≡ other ++ q ∷ [] = same-tails q p bs (other ++ p ∷ []) is ∙ ap (λ x. other ++ x ∷ []) same in
    let texts : value ++ (q ∷ rest) ≡ other ++ (q ∷ after) = sym (append_assoc value (q ∷ []) rest) ∙ e ∙ ap (λ x. x ++ after) tail ∙ append_assoc other (q ∷ []) after in
    let shorter = until-quote q value other rest after none' texts in
    omega (arith, shorter, ap length tail, length-append other (q ∷ []), length-append value (q ∷ []))

only-literal-single : (value rest bs after : List ℕ) (l : Lexeme) → leads l 39 ≡ true → IsLexeme (39 ∷ bs) l → (value ++ 39 ∷ []) ++ rest ≡ bs ++ after →
    length (39 ∷ bs) ≤ length (39 ∷ (value ++ 39 ∷ []))
unfolding is_name_start
only-literal-single value rest bs after (lexeme.Literal other) led L e = literal-length 39 value rest bs after other e L
only-literal-single value rest bs after _ led L e = absurd (cc)

only-literal-double : (value rest bs after : List ℕ) (l : Lexeme) → leads l 34 ≡ true → IsLexeme (34 ∷ bs) l → (value ++ 34 ∷ []) ++ rest ≡ bs ++ after →
    length (34 ∷ bs) ≤ length (34 ∷ (value ++ 34 ∷ []))
unfolding is_name_start
only-literal-double value rest bs after (lexeme.Literal other) led L e = literal-length 34 value rest bs after other e L
only-literal-double value rest bs after _ led L e = absurd (cc)

pub single-longest : (value rest more after : List ℕ) (l : Lexeme) → 39 ∷ ((value ++ 39 ∷ []) ++ rest) ≡ more ++ after → IsLexeme more l →
    length more ≤ length (39 ∷ (value ++ 39 ∷ []))
single-longest value rest =
    longest-by 39 ((value ++ 39 ∷ []) ++ rest) (length (39 ∷ (value ++ 39 ∷ []))) (λ l bs after led L e. only-literal-single value rest bs after l led L e)

pub double-longest : (value rest more after : List ℕ) (l : Lexeme) → 34 ∷ ((value ++ 34 ∷ []) ++ rest) ≡ more ++ after → IsLexeme more l →
    length more ≤ length (34 ∷ (value ++ 34 ∷ []))
double-longest value rest =
    longest-by 34 ((value ++ 34 ∷ []) ++ rest) (length (34 ∷ (value ++ 34 ∷ []))) (λ l bs after led L e. only-literal-double value rest bs after l led L e)

-- ---- what stands after names and numbers

-- a text begins with `:`
abbrev pub begins_colon : List ℕ → Bool
begins_colon [] = false
begins_colon (c ∷ r) = c == 58

-- no byte of a name, nor a single `:`
abbrev pub stops : List ℕ → Bool
stops [] = true
stops (b ∷ r) = not (is_name_byte b) && (if b == 58 then begins_colon r else true)

pub stops-name : (r : List ℕ) → stops r ≡ true → ends_with is_name_byte r ≡ true
stops-name [] h = refl
stops-name (b ∷ r) h = (both (not (is_name_byte b)) (if b == 58 then begins_colon r else true) h).0

stops-colon : (r rest : List ℕ) → 58 ∷ r ≡ rest → stops rest ≡ true → begins_colon r ≡ true
stops-colon r rest e h = (both (not (is_name_byte 58)) (begins_colon r) (ap stops e ∙ h)).1

-- ---- names

data NameLike : List ℕ → Type 0 where
  plain_name : (bytes : List ℕ) → NameBytes bytes → NameLike bytes
  joined_names : (bytes prefix local : List ℕ) → bytes ≡ prefix ++ 58 ∷ local → NameBytes prefix → NameBytes local → NameLike bytes
  starred_name : (bytes prefix : List ℕ) → bytes ≡ prefix ++ 58 ∷ 42 ∷ [] → NameBytes prefix → NameLike bytes

-- a name's first byte
pub name-head : (name rest : List ℕ) (b : ℕ) (text : List ℕ) → NameBytes name → b ∷ text ≡ name ++ rest → is_start_byte b ≡ true
name-head name rest b text n e =
    let same : b ≡ n.first = same-heads b n.first text (n.others ++ rest) (e ∙ ap (λ x. x ++ rest) n.is) in
    subst (λ x. is_start_byte x ≡ true) (sym same) n.start

no-colon-first : (name rest : List ℕ) → NameBytes name → begins_colon (name ++ rest) ≡ true → ⊥
no-colon-first name rest n h =
    let begins : (n.first == 58) ≡ true = ap (λ x. begins_colon (x ++ rest)) (sym n.is) ∙ h in
    let same : n.first ≡ 58 = is_equal n.first 58 begins in
    let starts : is_start_byte 58 ≡ true = subst (λ x. is_start_byte x ≡ true) same n.start in
    let none = colon-starts-no-name in absurd (cc)

no-star-first : (name rest text : List ℕ) → NameBytes name → 42 ∷ text ≡ name ++ rest → ⊥
no-star-first name rest text n e =
    let starts = name-head name rest 42 text n e in let none = star-starts-no-name in absurd (cc)

joined-length : (bytes prefix local : List ℕ) → bytes ≡ prefix ++ 58 ∷ local → length bytes ≡ length prefix + suc (length local)
joined-length bytes prefix local e = ap length e ∙ length-append prefix (58 ∷ local)

-- a name before a byte that is none of its own
plain-length : (name rest more after : List ℕ) → NameBytes name → stops rest ≡ true → name ++ rest ≡ more ++ after → NameLike more → length more ≤ length name
plain-length name rest more after n stop e (plain_name _ m) = front-ends is_name_byte name rest more after (sym e) m.all (stops-name rest stop)
plain-length name rest more after n stop e (joined_names _ prefix local is p l) =
    let text : prefix ++ (58 ∷ (local ++ after)) ≡ name ++ rest = sym (append_assoc prefix (58 ∷ local) after) ∙ ap (λ x. x ++ after) (sym is) ∙ sym e in
    let fronts = same-fronts is_name_byte name rest prefix (local ++ after) 58 text p.all n.all colon-ends (stops-name rest stop) in
    absurd (no-colon-first local after l (stops-colon (local ++ after) rest fronts.1 stop))
plain-length name rest more after n stop e (starred_name _ prefix is p) =
    let text : prefix ++ (58 ∷ (42 ∷ after)) ≡ name ++ rest = sym (append_assoc prefix (58 ∷ 42 ∷ []) after) ∙ ap (λ x. x ++ after) (sym is) ∙ sym e in
    let fronts = same-fronts is_name_byte name rest prefix (42 ∷ after) 58 text p.all n.all colon-ends (stops-name rest stop) in
    let colon : false ≡ true = stops-colon (42 ∷ after) rest fronts.1 stop in absurd (cc)

-- two names joined by a colon
joined-names-length : (name prefix local rest more after : List ℕ) → name ≡ prefix ++ 58 ∷ local → NameBytes prefix → NameBytes local → stops rest ≡ true →
    name ++ rest ≡ more ++ after → NameLike more → length more ≤ length name
joined-names-length name prefix local rest more after is p l stop e (plain_name _ m) =
    let text : prefix ++ (58 ∷ (local ++ rest)) ≡ name ++ rest = sym (append_assoc prefix (58 ∷ local) rest) ∙ ap (λ x. x ++ rest) (sym is) in
    let shorter = front-ends is_name_byte prefix (58 ∷ (local ++ rest)) more after (sym (text ∙ e)) m.all (ap not colon-ends) in
    omega (arith, shorter, joined-length name prefix local is)
joined-names-length name prefix local rest more after is p l stop e (joined_names _ prefix' local' is' p' l') =
    let text : prefix ++ (58 ∷ (local ++ rest)) ≡ name ++ rest = sym (append_assoc prefix (58 ∷ local) rest) ∙ ap (λ x. x ++ rest) (sym is) in
    let text' : prefix' ++ (58 ∷ (local' ++ after)) ≡ more ++ after = sym (append_assoc prefix' (58 ∷ local') after) ∙ ap (λ x. x ++ after) (sym is') in
    let fronts = same-fronts is_name_byte prefix (58 ∷ (local ++ rest)) prefix' (local' ++ after) 58 (text' ∙ sym e ∙ sym text) p'.all p.all colon-ends (ap not colon-ends) in
    let shorter = front-ends is_name_byte local rest local' after (same-tails 58 58 (local' ++ after) (local ++ rest) fronts.1) l'.all (stops-name rest stop) in
    omega (arith, shorter, ap length fronts.0, joined-length name prefix local is, joined-length more prefix' local' is')
joined-names-length name prefix local rest more after is p l stop e (starred_name _ prefix' is' p') =
    let text : prefix ++ (58 ∷ (local ++ rest)) ≡ name ++ rest = sym (append_assoc prefix (58 ∷ local) rest) ∙ ap (λ x. x ++ rest) (sym is) in
    let text' : prefix' ++ (58 ∷ (42 ∷ after)) ≡ more ++ after = sym (append_assoc prefix' (58 ∷ 42 ∷ []) after) ∙ ap (λ x. x ++ after) (sym is') in
    let fronts = same-fronts is_name_byte prefix (58 ∷ (local ++ rest)) prefix' (42 ∷ after) 58 (text' ∙ sym e ∙ sym text) p'.all p.all colon-ends (ap not colon-ends) in
    absurd (no-star-first local rest after l (same-tails 58 58 (42 ∷ after) (local ++ rest) fronts.1))

-- a prefix and a star
starred-length : (name prefix rest more after : List ℕ) → name ≡ prefix ++ 58 ∷ 42 ∷ [] → NameBytes prefix →
    name ++ rest ≡ more ++ after → NameLike more → length more ≤ length name
starred-length name prefix rest more after is p e (plain_name _ m) =
    let text : prefix ++ (58 ∷ (42 ∷ rest)) ≡ name ++ rest = sym (append_assoc prefix (58 ∷ 42 ∷ []) rest) ∙ ap (λ x. x ++ rest) (sym is) in
    let shorter = front-ends is_name_byte prefix (58 ∷ (42 ∷ rest)) more after (sym (text ∙ e)) m.all (ap not colon-ends) in
    omega (arith, shorter, joined-length name prefix (42 ∷ []) is)
starred-length name prefix rest more after is p e (joined_names _ prefix' local' is' p' l') =
    let text : prefix ++ (58 ∷ (42 ∷ rest)) ≡ name ++ rest = sym (append_assoc prefix (58 ∷ 42 ∷ []) rest) ∙ ap (λ x. x ++ rest) (sym is) in
    let text' : prefix' ++ (58 ∷ (local' ++ after)) ≡ more ++ after = sym (append_assoc prefix' (58 ∷ local') after) ∙ ap (λ x. x ++ after) (sym is') in
    let fronts = same-fronts is_name_byte prefix (58 ∷ (42 ∷ rest)) prefix' (local' ++ after) 58 (text' ∙ sym e ∙ sym text) p'.all p.all colon-ends (ap not colon-ends) in
    absurd (no-star-first local' after rest l' (same-tails 58 58 (42 ∷ rest) (local' ++ after) (sym fronts.1)))
starred-length name prefix rest more after is p e (starred_name _ prefix' is' p') =
    let text : prefix ++ (58 ∷ (42 ∷ rest)) ≡ name ++ rest = sym (append_assoc prefix (58 ∷ 42 ∷ []) rest) ∙ ap (λ x. x ++ rest) (sym is) in
    let text' : prefix' ++ (58 ∷ (42 ∷ after)) ≡ more ++ after = sym (append_assoc prefix' (58 ∷ 42 ∷ []) after) ∙ ap (λ x. x ++ after) (sym is') in
    let fronts = same-fronts is_name_byte prefix (58 ∷ (42 ∷ rest)) prefix' (42 ∷ after) 58 (text' ∙ sym e ∙ sym text) p'.all p.all colon-ends (ap not colon-ends) in
    omega (arith, ap length fronts.0, joined-length name prefix (42 ∷ []) is, joined-length more prefix' (42 ∷ []) is')

abbrev pub IsQname : List ℕ → Type 0
IsQname name = IsNcname name ⊎ IsPrefixed name

qname-length : (name rest more after : List ℕ) → IsQname name → stops rest ≡ true → name ++ rest ≡ more ++ after → NameLike more → length more ≤ length name
qname-length name rest more after (inl n) stop e m = plain-length name rest more after (name-bytes name n) stop e m
qname-length name rest more after (inr n) stop e m =
    joined-names-length name n.prefix n.local rest more after n.joined (name-bytes n.prefix n.prefix_name) (name-bytes n.local n.local_name) stop e m

-- ---- the kinds apart

pub fails-of-any : (p : ℕ → Bool) (b : ℕ) (xs : List ℕ) → list_all (λ x. not (p x)) xs ≡ true → list_any (λ x. b == x) xs ≡ true → p b ≡ false
fails-of-any p b [] all any = absurd (cc)
fails-of-any p b (x ∷ xs) all any =
    let here = both (not (p x)) (list_all (λ y. not (p y)) xs) all in
    by_test p b x xs here.0 (λ more. fails-of-any p b xs here.1 more) (b == x) refl any
  where
    by_test : (p : ℕ → Bool) (b x : ℕ) (xs : List ℕ) → not (p x) ≡ true → (list_any (λ y. b == y) xs ≡ true → p b ≡ false) →
        (t : Bool) → (b == x) ≡ t → (t || list_any (λ y. b == y) xs) ≡ true → p b ≡ false
    by_test p b x xs fails on true is any = ap p (is_equal b x is) ∙ not-passing (p x) fails
    by_test p b x xs fails on false is any = on any

sign-starts-no-name : (b : ℕ) → is_sign b ≡ true → is_start_byte b ≡ false
unfolding is_name_start
sign-starts-no-name b h = fails-of-any is_start_byte b signs refl h

abbrev pub is_number_byte : ℕ → Bool
is_number_byte b = is_ascii_digit b || b == 46

number-starts-no-name : (b : ℕ) → is_number_byte b ≡ true → is_start_byte b ≡ false
unfolding is_name_start
number-starts-no-name b h = grind (arith, nat_tests)

quote-starts-no-name : (b : ℕ) → is_quote b ≡ true → is_start_byte b ≡ false
unfolding is_name_start
quote-starts-no-name b h = grind (arith, nat_tests)

byte-starts-no-name : (b c : ℕ) → (b == c) ≡ true → is_start_byte c ≡ false → is_start_byte b ≡ false
byte-starts-no-name b c h fails = ap is_start_byte (is_equal b c h) ∙ fails

dollar-starts-no-name : is_start_byte 36 ≡ false
unfolding is_name_start
dollar-starts-no-name = refl

name-like : {bytes : List ℕ} {l : Lexeme} → IsLexeme bytes l → (b : ℕ) → is_start_byte b ≡ true → leads l b ≡ true → NameLike bytes
name-like (symbol_lexeme bytes t e) b start led = let none = sign-starts-no-name b led in absurd (cc)
name-like star_lexeme b start led = let none = byte-starts-no-name b 42 led star-starts-no-name in absurd (cc)
name-like (literal_lexeme bytes value q is none e) b start led = let fails = quote-starts-no-name b led in absurd (cc)
name-like (number_lexeme bytes n) b start led = let none = number-starts-no-name b led in absurd (cc)
name-like (variable_lexeme name n) b start led = let none = byte-starts-no-name b 36 led dollar-starts-no-name in absurd (cc)
name-like (prefixed_variable_lexeme name n) b start led = let none = byte-starts-no-name b 36 led dollar-starts-no-name in absurd (cc)
name-like (name_lexeme bytes n) b start led = plain_name bytes (name-bytes bytes n)
name-like (prefixed_name_lexeme bytes n) b start led =
    joined_names bytes n.prefix n.local n.joined (name-bytes n.prefix n.prefix_name) (name-bytes n.local n.local_name)
name-like (prefix_star_lexeme bytes prefix e n) b start led = starred_name bytes prefix e (name-bytes prefix n)

-- the longest lexeme, with the whole text in view
longest-from : (text : List ℕ) (b : ℕ) (others : List ℕ) → text ≡ b ∷ others → (n : ℕ) →
    ((l : Lexeme) (bs after : List ℕ) → leads l b ≡ true → IsLexeme (b ∷ bs) l → text ≡ (b ∷ bs) ++ after → length (b ∷ bs) ≤ n) →
    (more after : List ℕ) (l : Lexeme) → text ≡ more ++ after → IsLexeme more l → length more ≤ n
longest-from text b others is n on more after l e L =
    longest-by b others n (λ k bs rest led K f. on k bs rest led K (is ∙ ap (λ x. b ∷ x) f)) more after l (sym is ∙ e) L

pub qname-longest : (name rest : List ℕ) → IsQname name → (b : ℕ) (others : List ℕ) → name ≡ b ∷ others → is_start_byte b ≡ true → stops rest ≡ true →
    (more after : List ℕ) (l : Lexeme) → name ++ rest ≡ more ++ after → IsLexeme more l → length more ≤ length name
qname-longest name rest n b others is start stop =
    longest-from (name ++ rest) b (others ++ rest) (ap (λ x. x ++ rest) is) (length name)
    (λ l bs after led L e. qname-length name rest (b ∷ bs) after n stop e (name-like L b start led))

pub starred-longest : (name prefix rest : List ℕ) → name ≡ prefix ++ 58 ∷ 42 ∷ [] → NameBytes prefix →
    (more after : List ℕ) (l : Lexeme) → name ++ rest ≡ more ++ after → IsLexeme more l → length more ≤ length name
starred-longest name prefix rest is p =
    longest-from (name ++ rest) p.first (p.others ++ (58 ∷ 42 ∷ rest)) (ap (λ x. x ++ rest) is ∙ append_assoc prefix (58 ∷ 42 ∷ []) rest ∙ ap (λ x. x ++ (58 ∷ 42 ∷ rest)) p.is) (length name)
    (λ l bs after led L e. starred-length name prefix rest (p.first ∷ bs) after is p e (name-like L p.first p.start led))

-- ---- variables

qname-like : (name : List ℕ) → IsQname name → NameLike name
qname-like name (inl n) = plain_name name (name-bytes name n)
qname-like name (inr n) = joined_names name n.prefix n.local n.joined (name-bytes n.prefix n.prefix_name) (name-bytes n.local n.local_name)

variable-name : {bytes : List ℕ} {l : Lexeme} → IsLexeme bytes l → (bs : List ℕ) → bytes ≡ 36 ∷ bs → leads l 36 ≡ true → NameLike bs
unfolding is_name_start
variable-name (variable_lexeme name n) bs e led = subst NameLike (same-tails 36 36 name bs e) (qname-like name (inl n))
variable-name (prefixed_variable_lexeme name n) bs e led = subst NameLike (same-tails 36 36 name bs e) (qname-like name (inr n))
variable-name (symbol_lexeme bytes t h) bs e led = absurd (cc)
variable-name star_lexeme bs e led = absurd (cc)
variable-name (literal_lexeme bytes value q is none h) bs e led = absurd (cc)
variable-name (number_lexeme bytes n) bs e led = absurd (cc)
variable-name (name_lexeme bytes n) bs e led = absurd (cc)
variable-name (prefixed_name_lexeme bytes n) bs e led = absurd (cc)
variable-name (prefix_star_lexeme bytes prefix h n) bs e led = absurd (cc)

pub variable-longest : (name rest : List ℕ) → IsQname name → stops rest ≡ true →
    (more after : List ℕ) (l : Lexeme) → 36 ∷ (name ++ rest) ≡ more ++ after → IsLexeme more l → length more ≤ suc (length name)
variable-longest name rest n stop =
    longest-by 36 (name ++ rest) (suc (length name))
    (λ l bs after led L e. let shorter = qname-length name rest bs after n stop e (variable-name L bs refl led) in omega (arith, shorter))

-- ---- numbers

name-byte-of-number : (b : ℕ) → is_number_byte b ≡ true → is_name_byte b ≡ true
unfolding is_name_char is_name_start
name-byte-of-number b h = grind (arith, nat_tests)

contrary : (a b : Bool) → (a ≡ true → b ≡ true) → not b ≡ true → not a ≡ true
contrary true b on h = let is = on refl in let fails = not-passing b h in absurd (cc)
contrary false b on h = refl

number-ends : (rest : List ℕ) → stops rest ≡ true → ends_with is_number_byte rest ≡ true
number-ends [] h = refl
number-ends (b ∷ r) h = contrary (is_number_byte b) (is_name_byte b) (name-byte-of-number b) (stops-name (b ∷ r) h)

digits-are : (digits : List ℕ) → all_ascii_digits digits ≡ true → list_all is_number_byte digits ≡ true
digits-are [] h = refl
digits-are (d ∷ ds) h =
    let here = both (is_ascii_digit d) (all_ascii_digits ds) h in
    and-true (is_number_byte d) (list_all is_number_byte ds) (ap (λ t. t || d == 46) here.0) (digits-are ds here.1)

some-digits : (digits : List ℕ) → are_digits digits ≡ true → (all_ascii_digits digits ≡ true) × (1 ≤ length digits)
some-digits [] h = absurd (cc)
some-digits (d ∷ ds) h = (h, omega arith)

joined-are : (xs ys : List ℕ) → list_all is_number_byte xs ≡ true → list_all is_number_byte ys ≡ true → list_all is_number_byte (xs ++ ys) ≡ true
joined-are [] ys h k = k
joined-are (x ∷ xs) ys h k =
    let here = both (is_number_byte x) (list_all is_number_byte xs) h in
    and-true (is_number_byte x) (list_all is_number_byte (xs ++ ys)) here.0 (joined-are xs ys here.1 k)

number-bytes : {bytes : List ℕ} → IsNumber bytes → list_all is_number_byte bytes ≡ true
number-bytes (whole_number digits h) = digits-are digits (some-digits digits h).0
number-bytes (ending_point bytes digits e h) =
    subst (λ x. list_all is_number_byte x ≡ true) (sym e) (joined-are digits (46 ∷ []) (digits-are digits (some-digits digits h).0) refl)
number-bytes (inner_point bytes digits fraction e h g) =
    subst (λ x. list_all is_number_byte x ≡ true) (sym e) (joined-are digits (46 ∷ fraction) (digits-are digits (some-digits digits h).0) (digits-are fraction (some-digits fraction g).0))
number-bytes (leading_point fraction h) = digits-are fraction (some-digits fraction h).0

no-digit-sign : (b : ℕ) → is_sign b ≡ true → is_ascii_digit b ≡ false
no-digit-sign b h = fails-of-any is_ascii_digit b signs refl h

-- a number is longer than a point
number-length : {bytes : List ℕ} → IsNumber bytes → (b : ℕ) (others : List ℕ) → bytes ≡ b ∷ others → is_ascii_digit b ≡ false → 2 ≤ length bytes
number-length (whole_number [] h) b others e none = absurd (cc)
number-length (whole_number (d ∷ ds) h) b others e none =
    let digit : is_ascii_digit d ≡ true = (both (is_ascii_digit d) (all_ascii_digits ds) h).0 in
    let same : is_ascii_digit d ≡ is_ascii_digit b = ap is_ascii_digit (same-heads d b ds others e) in absurd (cc)
number-length (ending_point bytes digits is h) b others e none =
    omega (arith, ap length is, length-append digits (46 ∷ []), (some-digits digits h).1)
number-length (inner_point bytes digits fraction is h g) b others e none =
    omega (arith, ap length is, length-append digits (46 ∷ fraction), (some-digits digits h).1)
number-length (leading_point fraction h) b others e none = omega (arith, (some-digits fraction h).1)

number-symbol : {digits : List ℕ} (n : IsNumber digits) (b : ℕ) (others bs : List ℕ) → digits ≡ b ∷ others → is_sign b ≡ true → Short (b ∷ bs) → length (b ∷ bs) ≤ length digits
number-symbol n b others bs e sign short =
    let two = number-length n b others e (no-digit-sign b sign) in
    let most = short-length (b ∷ bs) short in omega (arith, two, most)

only-number : {bytes : List ℕ} {l : Lexeme} → IsLexeme bytes l → (b : ℕ) (bs : List ℕ) → bytes ≡ b ∷ bs → is_number_byte b ≡ true → leads l b ≡ true →
    (IsNumber bytes) ⊎ ((is_sign b ≡ true) × Short bytes)
only-number (symbol_lexeme bytes t h) b bs e number led = inr (led, symbol-short bytes t h)
only-number (number_lexeme bytes n) b bs e number led = inl n
only-number star_lexeme b bs e number led = absurd (let same = is_equal b 42 led in grind (arith, nat_tests))
only-number (literal_lexeme bytes value q is none h) b bs e number led = absurd (grind (arith, nat_tests))
only-number (variable_lexeme name n) b bs e number led = absurd (let same = is_equal b 36 led in grind (arith, nat_tests))
only-number (prefixed_variable_lexeme name n) b bs e number led = absurd (let same = is_equal b 36 led in grind (arith, nat_tests))
only-number (name_lexeme bytes n) b bs e number led = let none = number-starts-no-name b number in absurd (cc)
only-number (prefixed_name_lexeme bytes n) b bs e number led = let none = number-starts-no-name b number in absurd (cc)
only-number (prefix_star_lexeme bytes prefix h n) b bs e number led = let none = number-starts-no-name b number in absurd (cc)

number-more : {digits : List ℕ} → IsNumber digits → (rest : List ℕ) → stops rest ≡ true → (b : ℕ) (others bs after : List ℕ) → digits ≡ b ∷ others →
    digits ++ rest ≡ (b ∷ bs) ++ after → (IsNumber (b ∷ bs)) ⊎ ((is_sign b ≡ true) × Short (b ∷ bs)) → length (b ∷ bs) ≤ length digits
number-more {digits} n rest stop b others bs after is e (inl m) =
    front-ends is_number_byte digits rest (b ∷ bs) after (sym e) (number-bytes m) (number-ends rest stop)
number-more n rest stop b others bs after is e (inr (sign, short)) = number-symbol n b others bs is sign short

pub number-longest : (digits rest : List ℕ) → IsNumber digits → (b : ℕ) (others : List ℕ) → digits ≡ b ∷ others → is_number_byte b ≡ true → stops rest ≡ true →
    (more after : List ℕ) (l : Lexeme) → digits ++ rest ≡ more ++ after → IsLexeme more l → length more ≤ length digits
number-longest digits rest n b others is number stop =
    longest-from (digits ++ rest) b (others ++ rest) (ap (λ x. x ++ rest) is) (length digits)
    (λ l bs after led L e. number-more n rest stop b others bs after is e (only-number L b bs refl number led))
