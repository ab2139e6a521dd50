-- How a text is cut into lines that comes in pieces.
use Rattle.std.proofs.Common.{◌≡◌, ℕ, suc, ◌≤◌, Bool, true, false, ◌||◌, List, [], ◌∷◌, ◌++◌, length, arith, refl, sym, ◌∙◌, ap}
use Rattle.std.specs.List.{list_any}
use Rattle.std.proofs.lemmas.Grind.{common_steps}
use Rattle.std.proofs.Math.Bool.{or-true, or_assoc}
use Rattle.pyx_core.specs.Lines.{is_line_end, ended_lines, unended, onto_ended}

-- whether a line ends in a text
abbrev pub has_end : List ℕ → Bool
has_end bytes = list_any is_line_end bytes

-- without one there is no line that ends
pub none_ended : (xs : List ℕ) → has_end xs ≡ false → ended_lines xs ≡ []
none_ended [] none = refl
none_ended (b ∷ xs) none =
    let first : is_line_end b ≡ false = grind (arith, common_steps) in
    let rest : has_end xs ≡ false = grind (arith, common_steps) in
    rw (first, none_ended xs rest) refl

pub all_left : (xs : List ℕ) → has_end xs ≡ false → unended xs ≡ xs
all_left [] none = refl
all_left (b ∷ xs) none = rw none refl

left_by : (b : ℕ) (xs : List ℕ) (v : Bool) → has_end (b ∷ xs) ≡ v → has_end (unended xs) ≡ false → has_end (unended (b ∷ xs)) ≡ false
left_by b xs true is rest = rw is rest
left_by b xs false is rest = rw is is

-- what is left after the last line end has none
pub left_none : (xs : List ℕ) → has_end (unended xs) ≡ false
left_none [] = refl
left_none (b ∷ xs) = left_by b xs (has_end (b ∷ xs)) refl (left_none xs)

onto_more : (b : ℕ) (lines more : List (List ℕ)) (line : List ℕ) (rest : List (List ℕ)) → lines ≡ line ∷ rest →
    onto_ended b (lines ++ more) ≡ onto_ended b lines ++ more
onto_more b lines more line rest is = rw is refl

-- where a line ends, there is a first one
abbrev pub FirstEnded : List ℕ → Type 0
FirstEnded xs = (line : List ℕ) × (rest : List (List ℕ)) × (ended_lines xs ≡ line ∷ rest)

first_by : (b : ℕ) (xs : List ℕ) (v : Bool) → is_line_end b ≡ v → (has_end xs ≡ true → FirstEnded xs) →
    has_end (b ∷ xs) ≡ true → FirstEnded (b ∷ xs)
first_by b xs true is rest some = ([], ended_lines xs, rw is refl)
first_by b xs false is rest some =
    let later = rest (rw is at some) in
    (b ∷ later.0, later.1, rw (is, later.2) refl)

pub first_ended : (xs : List ℕ) → has_end xs ≡ true → FirstEnded xs
first_ended [] some = absurd (cc)
first_ended (b ∷ xs) some = first_by b xs (is_line_end b) refl (first_ended xs) some

-- the lines of two pieces
ended_by : (b : ℕ) (xs ys : List ℕ) (v w : Bool) → is_line_end b ≡ v → has_end xs ≡ w →
    ended_lines (xs ++ ys) ≡ ended_lines xs ++ ended_lines (unended xs ++ ys) →
    ended_lines (b ∷ (xs ++ ys)) ≡ ended_lines (b ∷ xs) ++ ended_lines (unended (b ∷ xs) ++ ys)
ended_by b xs ys true w is some rest = rw is (ap (λ l. [] ∷ l) rest)
ended_by b xs ys false true is some rest =
    let first = first_ended xs some in
    rw (is, some) (ap (onto_ended b) rest ∙ onto_more b (ended_lines xs) (ended_lines (unended xs ++ ys)) first.0 first.1 first.2)
ended_by b xs ys false false is some rest = rw (is, some, none_ended xs some) (rw is refl)

pub ended_append : (xs ys : List ℕ) → ended_lines (xs ++ ys) ≡ ended_lines xs ++ ended_lines (unended xs ++ ys)
ended_append [] ys = refl
ended_append (b ∷ xs) ys = ended_by b xs ys (is_line_end b) (has_end xs) refl refl (ended_append xs ys)

any_append : (xs ys : List ℕ) → has_end (xs ++ ys) ≡ (has_end xs || has_end ys)
any_append [] ys = refl
any_append (b ∷ xs) ys = ap (λ v. is_line_end b || v) (any_append xs ys) ∙ sym (or_assoc (is_line_end b) (has_end xs) (has_end ys))

pub any_none : (xs ys : List ℕ) → has_end xs ≡ false → has_end ys ≡ false → has_end (xs ++ ys) ≡ false
any_none xs ys one other = any_append xs ys ∙ rw (one, other) refl

left_more : (b : ℕ) (xs ys : List ℕ) (v : Bool) → has_end (b ∷ xs) ≡ v → unended (xs ++ ys) ≡ unended (unended xs ++ ys) →
    unended (b ∷ (xs ++ ys)) ≡ unended (unended (b ∷ xs) ++ ys)
left_more b xs ys true some rest =
    let all : has_end (b ∷ (xs ++ ys)) ≡ true = any_append (b ∷ xs) ys ∙ rw some refl in
    rw (all, some) rest
left_more b xs ys false none rest = rw none refl

-- what is left of two pieces
pub left_append : (xs ys : List ℕ) → unended (xs ++ ys) ≡ unended (unended xs ++ ys)
left_append [] ys = refl
left_append (b ∷ xs) ys = left_more b xs ys (has_end (b ∷ xs)) refl (left_append xs ys)

-- the lines of a half after which others end
pub half_ended : (half rest line : List ℕ) (lines : List (List ℕ)) → has_end half ≡ false → ended_lines rest ≡ line ∷ lines →
    ended_lines (half ++ rest) ≡ (half ++ line) ∷ lines
half_ended [] rest line lines none is = is
half_ended (b ∷ half) rest line lines none is =
    let first : is_line_end b ≡ false = grind (arith, common_steps) in
    let later : has_end half ≡ false = grind (arith, common_steps) in
    rw (first, half_ended half rest line lines later is) refl

pub half_left : (half rest : List ℕ) → has_end rest ≡ true → unended (half ++ rest) ≡ unended rest
half_left [] rest some = refl
half_left (b ∷ half) rest some =
    let all : has_end (b ∷ (half ++ rest)) ≡ true = any_append (b ∷ half) rest ∙ rw some (or-true (has_end (b ∷ half))) in
    rw all (half_left half rest some)

-- there are no more lines that end than bytes
few_onto : (b : ℕ) (lines : List (List ℕ)) (n : ℕ) → length lines ≤ n → length (onto_ended b lines) ≤ suc n
few_onto b [] n less = omega arith
few_onto b (line ∷ lines) n less = omega arith

few_by : (b : ℕ) (xs : List ℕ) (v : Bool) → is_line_end b ≡ v → length (ended_lines xs) ≤ length xs →
    length (ended_lines (b ∷ xs)) ≤ suc (length xs)
few_by b xs true is less = rw is (omega arith)
few_by b xs false is less = rw is (few_onto b (ended_lines xs) (length xs) less)

pub few_ended : (xs : List ℕ) → length (ended_lines xs) ≤ length xs
few_ended [] = omega arith
few_ended (b ∷ xs) = few_by b xs (is_line_end b) refl (few_ended xs)
