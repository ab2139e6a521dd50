-- The printed text of an expression that fits has the printed tokens.
use Rattle.std.proofs.Common.{◌≡◌, ℕ, suc, ◌≤◌, ◌<◌, Bool, true, false, nat_le, cond, List, [], ◌∷◌, ◌++◌, replicate, append_assoc, refl, sym, subst, ap, arith}
use Rattle.std.proofs.lemmas.Bool.Decides.{nat_tests}
use Rattle.xp_tree.specs.Tree.{Tree, Steps, Operands, Trees, path, root, here, from, step, operand, no_trees, tree}
use Rattle.xp_tree.specs.declared.terms.Level.{Level}
use Rattle.xp_tree.specs.declared.terms.Operator.TheVariants as operators
use Rattle.xp_grammar.specs.declared.token.Token.{Token}
use Rattle.xp_grammar.specs.declared.token.Token.TheVariants as token
use Rattle.xp_print.specs.Printed.{binding, binding_of, sign_binding, name_like_next, is_base, is_path_base, operator_text, test_text, bracketed, operand_text, enclosed, printed, printed_start, printed_steps, printed_rest, printed_predicates, printed_args}
use Rattle.xp_tree.specs.AxisNames.{axis_text}
use Rattle.xp_print_laws.specs.PrintedTokens.{in_parens, operand_tokens, enclosed_tokens, test_tokens, tokens_printed, start_tokens, steps_tokens, rest_tokens, predicates_tokens, arguments_tokens}
use Rattle.xp_print_laws.proofs.Fits.{Fits, fits_chain, fits_negated, fits_root, fits_root_within, fits_from_root, fits_from_here, fits_from_base, fits_filtered, fits_variable, fits_literal, fits_number, fits_call, FitsAround, around_bare, around_within, FitsOperands, fits_no_more, fits_one_more, FitsBase, base_bare, base_within, FitsSteps, fits_step, FitsMoreSteps, fits_no_more_steps, fits_more_steps, FitsPredicates, fits_no_predicate, fits_predicate, FitsArguments, fits_no_argument, fits_argument}
use Rattle.xp_print_laws.proofs.Fitting.{path-base}
use Rattle.xp_print_laws.proofs.Rereads.{tokens-bare, tokens-within, bare-root, bare-here, bare-from}
use Rattle.xp_print_laws.proofs.Longest.{no_pair}
use Rattle.xp_print_laws.proofs.Lexed.{Lexed}
use Rattle.xp_print_laws.proofs.Texts.{ReadsAs, sign_reads, pair_reads, literal_reads, number_reads, variable_reads, function_reads, axis_reads}
use Rattle.xp_print_laws.proofs.Behind.{After, Behind, text_joined, joined, slash-before-axis, open_reads, close_reads, signs_read, close_behind, close_bracket_behind, comma_behind, bracket_behind, slash_behind, operator_behind, test_reads}

text-bare : (around : ℕ) (e : Tree) (within bare : List ℕ) → around < binding_of e → operand_text around e within bare ≡ bare
text-bare around e within bare lt =
    let test : nat_le (binding_of e) around ≡ false = grind (arith, nat_tests) in ap (λ b. cond b (bracketed within) bare) test

text-within : (around : ℕ) (e : Tree) (within bare : List ℕ) → binding_of e ≤ around → operand_text around e within bare ≡ bracketed within
text-within around e within bare le =
    let test : nat_le (binding_of e) around ≡ true = grind (arith, nat_tests) in ap (λ b. cond b (bracketed within) bare) test

-- the same text and tokens, as they are written
rewritten : {b : Bool} (rest : List ℕ) (ts : List Token) {x x' : List ℕ} {u u' : List Token} → x ≡ x' → u ≡ u' → ReadsAs b (x' ++ rest) (u' ++ ts) → ReadsAs b (x ++ rest) (u ++ ts)
rewritten {b} rest ts {x} {x'} {u} {u'} texts tokens on =
    subst (λ l. ReadsAs b (x ++ rest) (l ++ ts)) (sym tokens) (subst (λ l. ReadsAs b (l ++ rest) (u' ++ ts)) (sym texts) on)

joined_behind : {named base : Bool} (x y z : List ℕ) (u v w : List Token) → Behind named base (x ++ (y ++ z)) (u ++ (v ++ w)) → Behind named base ((x ++ y) ++ z) ((u ++ v) ++ w)
joined_behind {named} {base} x y z u v w b =
    subst (λ l. Behind named base ((x ++ y) ++ z) l) (sym (append_assoc u v w)) (subst (λ t. Behind named base t (u ++ (v ++ w))) (sym (append_assoc x y z)) b)

joined_after : (x y z : List ℕ) (u v w : List Token) → After (x ++ (y ++ z)) (u ++ (v ++ w)) → After ((x ++ y) ++ z) ((u ++ v) ++ w)
joined_after x y z u v w a =
    subst (λ l. After ((x ++ y) ++ z) l) (sym (append_assoc u v w)) (subst (λ t. After t (u ++ (v ++ w))) (sym (append_assoc x y z)) a)

-- parentheses round a text
parens_read : (text : List ℕ) (tokens : List Token) (rest : List ℕ) (ts : List Token) →
    ReadsAs false (text ++ (41 ∷ rest)) (tokens ++ (token.CloseParen ∷ ts)) → ReadsAs false (bracketed text ++ rest) (in_parens tokens ++ ts)
parens_read text tokens rest ts inner =
    open_reads false ((text ++ (41 ∷ [])) ++ rest) ((tokens ++ (token.CloseParen ∷ [])) ++ ts)
    (joined text (41 ∷ []) rest tokens (token.CloseParen ∷ []) ts inner)

-- a base may have anything of this after it
for_base : (e : Tree) (rest : List ℕ) (ts : List Token) → is_path_base e ≡ true → Behind false true rest ts → Behind false (is_path_base e) rest ts
for_base e rest ts is b = record { after = b.after; root = b.root; slash = λ h. absurd (cc) }

any_base : {named : Bool} (base : Bool) (rest : List ℕ) (ts : List Token) → Behind named false rest ts → Behind named base rest ts
any_base base rest ts b = record { after = b.after; root = b.root; slash = λ h. b.slash refl }

-- steps after `/`
no-slash-first : {limit d : ℕ} {ss : Steps} → FitsSteps Lexed limit d ss → (rest : List ℕ) → no_pair 47 (printed_steps true ss ++ rest) ≡ true
no-slash-first (fits_step d o a k at ps more K P M) rest =
    subst (λ t. no_pair 47 t ≡ true) (sym (append_assoc (axis_text a) (58 ∷ 58 ∷ (test_text k ++ (printed_predicates ps ++ printed_steps false more))) rest))
    (slash-before-axis a ((58 ∷ 58 ∷ (test_text k ++ (printed_predicates ps ++ printed_steps false more))) ++ rest))

steps_behind : {limit d : ℕ} {ss : Steps} → FitsSteps Lexed limit d ss → (rest : List ℕ) (ts : List Token) → ReadsAs false (printed_steps true ss ++ rest) (steps_tokens true ss ++ ts) →
    Behind false true (47 ∷ (printed_steps true ss ++ rest)) (token.Slash ∷ (steps_tokens true ss ++ ts))
steps_behind {limit} {d} {ss} F rest ts on = slash_behind (printed_steps true ss ++ rest) (steps_tokens true ss ++ ts) (no-slash-first F rest) on

-- predicates, if there are any
abbrev PredicatesStand : Trees → List ℕ → List Token → Type 0
PredicatesStand no_trees rest ts = After rest ts
PredicatesStand (tree e es) rest ts = Behind false true (printed_predicates (tree e es) ++ rest) (predicates_tokens (tree e es) ++ ts)

predicates_after : (es : Trees) (rest : List ℕ) (ts : List Token) → PredicatesStand es rest ts → After (printed_predicates es ++ rest) (predicates_tokens es ++ ts)
predicates_after no_trees rest ts a = a
predicates_after (tree e es) rest ts b = b.after

predicate_stands : (e : Tree) (es : Trees) (rest : List ℕ) (ts : List Token) →
    ReadsAs false (printed false e ++ (93 ∷ (printed_predicates es ++ rest))) (tokens_printed false e ++ (token.CloseBracket ∷ (predicates_tokens es ++ ts))) →
    PredicatesStand (tree e es) rest ts
predicate_stands e es rest ts on =
    bracket_behind ((printed false e ++ (93 ∷ printed_predicates es)) ++ rest) ((tokens_printed false e ++ (token.CloseBracket ∷ predicates_tokens es)) ++ ts)
    (joined (printed false e) (93 ∷ printed_predicates es) rest (tokens_printed false e) (token.CloseBracket ∷ predicates_tokens es) ts on)

mutual
  pub text_reads : (limit : ℕ) {d : ℕ} {b : Bool} {e : Tree} → Fits Lexed limit d b e → (rest : List ℕ) (ts : List Token) → Behind b (is_path_base e) rest ts →
      ReadsAs false (printed b e ++ rest) (tokens_printed b e ++ ts)
  text_reads limit (fits_chain d b n offset e o at second os F T) rest ts behind =
      joined (operand_text (binding n) e (printed false e) (printed (name_like_next b (operand o at second os)) e)) (printed_rest (binding n) b (operand o at second os)) rest
      (operand_tokens (binding n) e (tokens_printed false e) (tokens_printed (name_like_next b (operand o at second os)) e)) (rest_tokens (binding n) b (operand o at second os)) ts
      (around_reads limit F (printed_rest (binding n) b (operand o at second os) ++ rest) (rest_tokens (binding n) b (operand o at second os) ++ ts)
      (rest_behind limit T rest ts behind))
  text_reads limit (fits_negated d b offset count e fits F) rest ts behind =
      joined (replicate (suc count) 45) (operand_text sign_binding e (printed false e) (printed b e)) rest
      (replicate (suc count) (token.Operator operators.Minus)) (operand_tokens sign_binding e (tokens_printed false e) (tokens_printed b e)) ts
      (signs_read (suc count) (operand_text sign_binding e (printed false e) (printed b e) ++ rest) (operand_tokens sign_binding e (tokens_printed false e) (tokens_printed b e) ++ ts)
      (around_reads limit F rest ts behind))
  text_reads limit (fits_root d offset) rest ts behind = sign_reads false 47 token.Slash rest ts refl refl (behind.slash refl) (behind.root refl)
  text_reads limit (fits_root_within d offset inner) rest ts behind =
      open_reads false (47 ∷ 41 ∷ rest) (token.Slash ∷ token.CloseParen ∷ ts)
      (sign_reads false 47 token.Slash (41 ∷ rest) (token.CloseParen ∷ ts) refl refl refl (close_reads false rest ts behind.after.reads))
  text_reads limit (fits_from_root d b offset o a k at ps more F) rest ts behind =
      rewritten rest ts {x = printed b (path offset root (step o a k at ps more))} {x' = printed_start root ++ printed_steps true (step o a k at ps more)}
      {u = tokens_printed b (path offset root (step o a k at ps more))} {u' = start_tokens root ++ steps_tokens true (step o a k at ps more)}
      (ap (λ t. enclosed t (printed_start root ++ printed_steps true (step o a k at ps more))) (bare-root b o a k at ps more))
      (ap (λ t. enclosed_tokens t (start_tokens root ++ steps_tokens true (step o a k at ps more))) (bare-root b o a k at ps more))
      ((steps_behind F rest ts (steps_read limit F rest ts behind.after)).root refl)
  text_reads limit (fits_from_here d b offset o a k at ps more F) rest ts behind =
      rewritten rest ts {x = printed b (path offset here (step o a k at ps more))} {x' = printed_start here ++ printed_steps true (step o a k at ps more)}
      {u = tokens_printed b (path offset here (step o a k at ps more))} {u' = start_tokens here ++ steps_tokens true (step o a k at ps more)}
      (ap (λ t. enclosed t (printed_start here ++ printed_steps true (step o a k at ps more))) (bare-here b (step o a k at ps more)))
      (ap (λ t. enclosed_tokens t (start_tokens here ++ steps_tokens true (step o a k at ps more))) (bare-here b (step o a k at ps more)))
      (steps_read limit F rest ts behind.after)
  text_reads limit (fits_from_base d b offset e o a k at ps more B F) rest ts behind =
      rewritten rest ts {x = printed b (path offset (from e) (step o a k at ps more))} {x' = printed_start (from e) ++ printed_steps true (step o a k at ps more)}
      {u = tokens_printed b (path offset (from e) (step o a k at ps more))} {u' = start_tokens (from e) ++ steps_tokens true (step o a k at ps more)}
      (ap (λ t. enclosed t (printed_start (from e) ++ printed_steps true (step o a k at ps more))) (bare-from b e (step o a k at ps more)))
      (ap (λ t. enclosed_tokens t (start_tokens (from e) ++ steps_tokens true (step o a k at ps more))) (bare-from b e (step o a k at ps more)))
      (joined (printed_start (from e)) (printed_steps true (step o a k at ps more)) rest (start_tokens (from e)) (steps_tokens true (step o a k at ps more)) ts
      (joined (enclosed (is_path_base e) (printed false e)) (47 ∷ []) (printed_steps true (step o a k at ps more) ++ rest)
      (enclosed_tokens (is_path_base e) (tokens_printed false e)) (token.Slash ∷ []) (steps_tokens true (step o a k at ps more) ++ ts)
      (base_reads limit B (λ is. is) (47 ∷ (printed_steps true (step o a k at ps more) ++ rest)) (token.Slash ∷ (steps_tokens true (step o a k at ps more) ++ ts))
      (steps_behind F rest ts (steps_read limit F rest ts behind.after)))))
  text_reads limit (fits_filtered d b offset e e' es B P) rest ts behind =
      joined (enclosed (is_base e) (printed false e)) (printed_predicates (tree e' es)) rest (enclosed_tokens (is_base e) (tokens_printed false e)) (predicates_tokens (tree e' es)) ts
      (base_reads limit B (path-base e) (printed_predicates (tree e' es) ++ rest) (predicates_tokens (tree e' es) ++ ts) (predicates_stand limit P rest ts behind.after))
  text_reads limit (fits_variable d b offset name known) rest ts behind = variable_reads false name rest ts known behind.after.stops behind.after.reads
  text_reads limit (fits_literal d b offset value known) rest ts behind = literal_reads false value rest ts known behind.after.reads
  text_reads limit (fits_number d b offset digits known) rest ts behind = number_reads false digits rest ts known behind.after.stops behind.after.reads
  text_reads limit (fits_call d b offset name args known inner A) rest ts behind =
      text_joined name (40 ∷ (printed_args true args ++ (41 ∷ []))) rest
      (function_reads name ((printed_args true args ++ (41 ∷ [])) ++ rest) (token.OpenParen ∷ ((arguments_tokens true args ++ (token.CloseParen ∷ [])) ++ ts)) known.0 known.1
      (open_reads true ((printed_args true args ++ (41 ∷ [])) ++ rest) ((arguments_tokens true args ++ (token.CloseParen ∷ [])) ++ ts)
      (joined (printed_args true args) (41 ∷ []) rest (arguments_tokens true args) (token.CloseParen ∷ []) ts (arguments_read limit A rest ts behind.after.reads))))

  around_reads : (limit : ℕ) {d around : ℕ} {b : Bool} {e : Tree} → FitsAround Lexed limit d around b e → (rest : List ℕ) (ts : List Token) → Behind b false rest ts →
      ReadsAs false (operand_text around e (printed false e) (printed b e) ++ rest) (operand_tokens around e (tokens_printed false e) (tokens_printed b e) ++ ts)
  around_reads limit (around_bare d around b e lt F) rest ts behind =
      rewritten rest ts (text-bare around e (printed false e) (printed b e) lt) (tokens-bare around e (tokens_printed false e) (tokens_printed b e) lt)
      (text_reads limit F rest ts (any_base (is_path_base e) rest ts behind))
  around_reads limit (around_within d around b e le inner F) rest ts behind =
      rewritten rest ts (text-within around e (printed false e) (printed b e) le) (tokens-within around e (tokens_printed false e) (tokens_printed b e) le)
      (parens_read (printed false e) (tokens_printed false e) rest ts (text_reads limit F (41 ∷ rest) (token.CloseParen ∷ ts) (close_behind rest ts behind.after.reads)))

  rest_behind : (limit : ℕ) {n : Level} {d : ℕ} {b : Bool} {os : Operands} → FitsOperands Lexed limit n d b os → (rest : List ℕ) (ts : List Token) → Behind b false rest ts →
      Behind (name_like_next b os) false (printed_rest (binding n) b os ++ rest) (rest_tokens (binding n) b os ++ ts)
  rest_behind limit (fits_no_more n d b) rest ts behind = behind
  rest_behind limit (fits_one_more n d b o at e os at_level F T) rest ts behind =
      joined_behind (operator_text o) (operand_text (binding n) e (printed false e) (printed (name_like_next b os) e) ++ printed_rest (binding n) b os) rest
      (token.Operator o ∷ []) (operand_tokens (binding n) e (tokens_printed false e) (tokens_printed (name_like_next b os) e) ++ rest_tokens (binding n) b os) ts
      (operator_behind o ((operand_text (binding n) e (printed false e) (printed (name_like_next b os) e) ++ printed_rest (binding n) b os) ++ rest)
      ((operand_tokens (binding n) e (tokens_printed false e) (tokens_printed (name_like_next b os) e) ++ rest_tokens (binding n) b os) ++ ts)
      (joined (operand_text (binding n) e (printed false e) (printed (name_like_next b os) e)) (printed_rest (binding n) b os) rest
      (operand_tokens (binding n) e (tokens_printed false e) (tokens_printed (name_like_next b os) e)) (rest_tokens (binding n) b os) ts
      (around_reads limit F (printed_rest (binding n) b os ++ rest) (rest_tokens (binding n) b os ++ ts) (rest_behind limit T rest ts behind))))

  base_reads : (limit : ℕ) {d : ℕ} {bare : Bool} {e : Tree} → FitsBase Lexed limit d bare e → (bare ≡ true → is_path_base e ≡ true) → (rest : List ℕ) (ts : List Token) →
      Behind false true rest ts → ReadsAs false (enclosed bare (printed false e) ++ rest) (enclosed_tokens bare (tokens_printed false e) ++ ts)
  base_reads limit (base_bare d bare e is F) stands rest ts behind =
      rewritten rest ts (ap (λ t. enclosed t (printed false e)) is) (ap (λ t. enclosed_tokens t (tokens_printed false e)) is)
      (text_reads limit F rest ts (for_base e rest ts (stands is) behind))
  base_reads limit (base_within d bare e is inner F) stands rest ts behind =
      rewritten rest ts (ap (λ t. enclosed t (printed false e)) is) (ap (λ t. enclosed_tokens t (tokens_printed false e)) is)
      (parens_read (printed false e) (tokens_printed false e) rest ts (text_reads limit F (41 ∷ rest) (token.CloseParen ∷ ts) (close_behind rest ts behind.after.reads)))

  steps_read : (limit : ℕ) {d : ℕ} {ss : Steps} → FitsSteps Lexed limit d ss → (rest : List ℕ) (ts : List Token) → After rest ts →
      ReadsAs false (printed_steps true ss ++ rest) (steps_tokens true ss ++ ts)
  steps_read limit (fits_step d o a k at ps more K P M) rest ts after =
      text_joined (axis_text a) (58 ∷ 58 ∷ (test_text k ++ (printed_predicates ps ++ printed_steps false more))) rest
      (axis_reads a ((test_text k ++ (printed_predicates ps ++ printed_steps false more)) ++ rest)
      (token.DoubleColon ∷ ((test_tokens k ++ (predicates_tokens ps ++ steps_tokens false more)) ++ ts))
      (pair_reads true 58 58 token.DoubleColon ((test_text k ++ (printed_predicates ps ++ printed_steps false more)) ++ rest)
      ((test_tokens k ++ (predicates_tokens ps ++ steps_tokens false more)) ++ ts) refl refl
      (joined (test_text k) (printed_predicates ps ++ printed_steps false more) rest (test_tokens k) (predicates_tokens ps ++ steps_tokens false more) ts
      (test_reads K ((printed_predicates ps ++ printed_steps false more) ++ rest) ((predicates_tokens ps ++ steps_tokens false more) ++ ts)
      (joined_after (printed_predicates ps) (printed_steps false more) rest (predicates_tokens ps) (steps_tokens false more) ts
      (predicates_after ps (printed_steps false more ++ rest) (steps_tokens false more ++ ts)
      (predicates_stand limit P (printed_steps false more ++ rest) (steps_tokens false more ++ ts) (more_steps_after limit M rest ts after))))))))

  more_steps_after : (limit : ℕ) {d : ℕ} {ss : Steps} → FitsMoreSteps Lexed limit d ss → (rest : List ℕ) (ts : List Token) → After rest ts →
      After (printed_steps false ss ++ rest) (steps_tokens false ss ++ ts)
  more_steps_after limit (fits_no_more_steps d) rest ts after = after
  more_steps_after limit (fits_more_steps d o a k at ps more F) rest ts after = (steps_behind F rest ts (steps_read limit F rest ts after)).after

  predicates_stand : (limit : ℕ) {d : ℕ} {es : Trees} → FitsPredicates Lexed limit d es → (rest : List ℕ) (ts : List Token) → After rest ts → PredicatesStand es rest ts
  predicates_stand limit (fits_no_predicate d) rest ts after = after
  predicates_stand limit (fits_predicate d e es inner F P) rest ts after =
      predicate_stands e es rest ts
      (text_reads limit F (93 ∷ (printed_predicates es ++ rest)) (token.CloseBracket ∷ (predicates_tokens es ++ ts))
      (close_bracket_behind (printed_predicates es ++ rest) (predicates_tokens es ++ ts) (predicates_after es rest ts (predicates_stand limit P rest ts after)).reads))

  arguments_read : (limit : ℕ) {d : ℕ} {es : Trees} → FitsArguments Lexed limit d es → (rest : List ℕ) (ts : List Token) → ReadsAs true rest ts →
      ReadsAs false (printed_args true es ++ (41 ∷ rest)) (arguments_tokens true es ++ (token.CloseParen ∷ ts))
  arguments_read limit (fits_no_argument d) rest ts on = close_reads false rest ts on
  arguments_read limit (fits_argument d e es F A) rest ts on =
      joined (printed false e) (printed_args false es) (41 ∷ rest) (tokens_printed false e) (arguments_tokens false es) (token.CloseParen ∷ ts)
      (text_reads limit F (printed_args false es ++ (41 ∷ rest)) (arguments_tokens false es ++ (token.CloseParen ∷ ts))
      (more_arguments_behind limit A rest ts on (is_path_base e)))

  more_arguments_behind : (limit : ℕ) {d : ℕ} {es : Trees} → FitsArguments Lexed limit d es → (rest : List ℕ) (ts : List Token) → ReadsAs true rest ts → (base : Bool) →
      Behind false base (printed_args false es ++ (41 ∷ rest)) (arguments_tokens false es ++ (token.CloseParen ∷ ts))
  more_arguments_behind limit (fits_no_argument d) rest ts on base = close_behind rest ts on
  more_arguments_behind limit (fits_argument d e es F A) rest ts on base =
      comma_behind ((printed false e ++ printed_args false es) ++ (41 ∷ rest)) ((tokens_printed false e ++ arguments_tokens false es) ++ (token.CloseParen ∷ ts))
      (joined (printed false e) (printed_args false es) (41 ∷ rest) (tokens_printed false e) (arguments_tokens false es) (token.CloseParen ∷ ts)
      (text_reads limit F (printed_args false es ++ (41 ∷ rest)) (arguments_tokens false es ++ (token.CloseParen ∷ ts))
      (more_arguments_behind limit A rest ts on (is_path_base e))))
