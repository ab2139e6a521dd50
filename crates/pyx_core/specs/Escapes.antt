-- Escapes in the texts of PYX lines: `\n` is LF, `\t` is tab, `\r` is #xD, `\\` is a backslash.
use Rattle.std.specs.Prelude.{◌≡◌, ◌≢◌, ℕ, ◌==◌, Bool, true, false, if◌then◌else◌, List, [], ◌∷◌, ◌++◌, All}

-- how a byte is written
abbrev pub escape_of : ℕ → List ℕ
escape_of byte =
    if byte == 10 then 92 ∷ 110 ∷ []
    else if byte == 9 then 92 ∷ 116 ∷ []
    else if byte == 13 then 92 ∷ 114 ∷ []
    else if byte == 92 then 92 ∷ 92 ∷ []
    else byte ∷ []

-- how a text is written
abbrev pub escaped : List ℕ → List ℕ
escaped [] = []
escaped (byte ∷ text) = escape_of byte ++ escaped text

-- what a backslash and the byte after it stand for; before any other byte a backslash stands for itself
abbrev pub undone : ℕ → List ℕ
undone byte =
    if byte == 110 then 10 ∷ []
    else if byte == 116 then 9 ∷ []
    else if byte == 114 then 13 ∷ []
    else if byte == 92 then 92 ∷ []
    else 92 ∷ byte ∷ []

-- the text with its escapes undone, where a backslash stands before it or none does
abbrev pub unescaped_after : Bool → List ℕ → List ℕ
unescaped_after false [] = []
unescaped_after true [] = 92 ∷ []
unescaped_after false (byte ∷ text) = if byte == 92 then unescaped_after true text else byte ∷ unescaped_after false text
unescaped_after true (byte ∷ text) = undone byte ++ unescaped_after false text

-- the text with its escapes undone
abbrev pub unescaped : List ℕ → List ℕ
unescaped = unescaped_after false

-- the escapes lose nothing
abbrev pub EscapesAreUndone : Type 0
EscapesAreUndone = (text : List ℕ) → unescaped (escaped text) ≡ text

-- no line ends within a text
abbrev pub EscapesHoldNoLineEnd : Type 0
EscapesHoldNoLineEnd = (text : List ℕ) → All (λ byte. byte ≢ 10) (escaped text)
