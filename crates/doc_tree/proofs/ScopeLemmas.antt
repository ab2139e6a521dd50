-- The first declaration of a prefix in two lists, one after the other.
use Rattle.std.proofs.Common.{◌≡◌, Bool, true, false, ℕ, List, [], ◌∷◌, ◌++◌, Option, None, Some, refl}
use Rattle.std.specs.Prelude.{if◌then◌else◌}
use Rattle.std.specs.Str.{bytes_eq}
use Rattle.doc_tree.specs.Scope.{Decl, first_declared}

found-cases : (b : Bool) (one : List ℕ) (more all : Option (List ℕ)) (uri : List ℕ) → (more ≡ Some uri → all ≡ Some uri) →
    (if b then Some one else more) ≡ Some uri → (if b then Some one else all) ≡ Some uri
found-cases true one more all uri go h = h
found-cases false one more all uri go h = go h

pub first-in : (xs ys : List Decl) (prefix uri : List ℕ) → first_declared xs prefix ≡ Some uri → first_declared (xs ++ ys) prefix ≡ Some uri
first-in [] ys prefix uri h = absurd (cc)
first-in (x ∷ xs) ys prefix uri h = found-cases (bytes_eq x.0 prefix) x.1 (first_declared xs prefix) (first_declared (xs ++ ys) prefix) uri (first-in xs ys prefix uri) h

none-cases : (b : Bool) (one : List ℕ) (more all other : Option (List ℕ)) → (more ≡ None → all ≡ other) →
    (if b then Some one else more) ≡ None → (if b then Some one else all) ≡ other
none-cases true one more all other go h = absurd (cc)
none-cases false one more all other go h = go h

pub first-behind : (xs ys : List Decl) (prefix : List ℕ) → first_declared xs prefix ≡ None → first_declared (xs ++ ys) prefix ≡ first_declared ys prefix
first-behind [] ys prefix h = refl
first-behind (x ∷ xs) ys prefix h = none-cases (bytes_eq x.0 prefix) x.1 (first_declared xs prefix) (first_declared (xs ++ ys) prefix) (first_declared ys prefix) (first-behind xs ys prefix) h
