-- Lists of node numbers: membership, how often a number stands in a list, its place, the last one, all below a number, longer lists, and
-- lists that rise.
use Rattle.std.specs.Prelude.{◌≡◌, ℕ, zero, suc, ◌+◌, ◌≤◌, ◌==◌, Bool, false, ◌||◌, List, [], ◌∷◌, ◌++◌, if◌then◌else◌}

-- whether the number stands in the list
abbrev pub mem : ℕ → List ℕ → Bool
mem n [] = false
mem n (m ∷ ms) = (n == m) || mem n ms

-- how often the number stands in the list
abbrev pub occurs : ℕ → List ℕ → ℕ
occurs n [] = 0
occurs n (m ∷ ms) = (if n == m then 1 else 0) + occurs n ms

-- no number stands in the list twice
abbrev pub Distinct : List ℕ → Type 0
Distinct ms = (n : ℕ) → occurs n ms ≤ 1

-- how many numbers stand before one in a list
abbrev pub place_in : ℕ → List ℕ → ℕ
place_in n [] = 0
place_in n (m ∷ ms) = if n == m then 0 else 1 + place_in n ms

-- the last number of the list, or the given one where it is empty
abbrev pub last_or : ℕ → List ℕ → ℕ
last_or n [] = n
last_or n (m ∷ ms) = last_or m ms

-- the numbers below a number, in their order
abbrev pub upto : ℕ → List ℕ
upto zero = []
upto (suc n) = upto n ++ n ∷ []

-- a list that begins with another
abbrev pub BeginsWith : {A : Type 0} → List A → List A → Type 0
BeginsWith {A} before after = (more : List A) × (after ≡ before ++ more)

-- numbers of which each is greater than the one before, none less than the first bound, and all less than the last
abbrev pub Rise : ℕ → List ℕ → ℕ → Type 0
Rise low [] high = low ≤ high
Rise low (n ∷ ns) high = (low ≤ n) × Rise (suc n) ns high
