-- The tokens of each text: the longest lexeme at the front is looked for among its fronts, from the longest on.
use Rattle.std.proofs.Common.{◌≡◌, ◌⊎◌, inl, inr, ⊎_elim, ℕ, zero, suc, ◌+◌, ◌<◌, ◌≤◌, Bool, true, false, List, [], ◌∷◌, ◌++◌, length, take, drop, Option, None, Some, refl, sym, ap, ◌∙◌, subst, arith, length-append, length-take, take-append-drop}
use Rattle.std.proofs.Math.Seq.{take-append_seam}
use Rattle.std.proofs.lemmas.Bool.{cases_lt}
use Rattle.sch_base.specs.Characters.{is_whitespace}
use Rattle.xp_grammar.specs.declared.token.Placed.{Placed}
use Rattle.xp_grammar.specs.declared.token.Token.{Token}
use Rattle.xp_lexicon.specs.Lexicon.{IsLexeme, IsLongest, IsRead, TokensFrom, at_end, bad_token, ends_operand, one_token, token_of, whitespace}
use Rattle.xp_lexicon.specs.declared.lexeme.Lexeme.{Lexeme}
use Rattle.xp_lexicon.proofs.Same.{lexeme_takes}
use Rattle.xp_lexicon.proofs.Tokens.{longest_once}
use Rattle.xp_lexicon_laws.specs.EachRead.{EachTextIsRead}
use Rattle.xp_lexicon_laws.proofs.Deciding.{Decided, IsSome, lexeme-decided}

-- a lexeme of a text that no longer front is one of
abbrev Longest : List ℕ → Type 0
Longest text = (bytes : List ℕ) × (rest : List ℕ) × (l : Lexeme) × IsLongest text bytes rest l

-- no front that is longer than so is a lexeme
abbrev NoneAbove : List ℕ → ℕ → Type 0
NoneAbove text n = (more after : List ℕ) (m : Lexeme) → text ≡ more ++ after → IsLexeme more m → length more ≤ n

front-is : (text more after : List ℕ) (n : ℕ) → text ≡ more ++ after → length more ≡ n → take n text ≡ more
front-is text more after n is long =
    ap (λ (k : ℕ). take k text) (sym long) ∙ (ap (take (length more)) is ∙ take-append_seam more after)

longest-below : (text : List ℕ) (n : ℕ) → n ≤ length text → NoneAbove text n → Longest text ⊎ (Longest text → ⊥)
longest-below text zero less none = inr (λ x. absurd (omega (arith, none x.0 x.1 x.2 x.3.at_front x.3.is, lexeme_takes x.0 x.2 x.3.is)))
longest-below text (suc n) less none = by (λ fewer. longest-below text n (omega (arith, less)) fewer) (lexeme-decided (take (suc n) text))
  where
    by : (NoneAbove text n → Longest text ⊎ (Longest text → ⊥)) → Decided (IsSome (take (suc n) text)) → Longest text ⊎ (Longest text → ⊥)
    by shorter (inl x) = inl (
      take (suc n) text,
      drop (suc n) text,
      x.0,
      record {
        at_front = sym (take-append-drop (suc n) text);
        is = x.1;
        longest = λ more after m front is. omega (arith, none more after m front is, length-take (suc n) text, less);
      },
    )
    by shorter (inr other) = shorter (λ more after m front is.
        let small : length more ≤ suc n = none more after m front is in
        ⊎_elim
        (λ (long : n < length more).
        let same : length more ≡ suc n = omega (arith, small, long) in
        absurd (other (m, subst (λ (b : List ℕ). IsLexeme b m) (sym (front-is text more after (suc n) front same)) is)))
        (λ (short : length more ≤ n). short)
        (cases_lt n (length more)))

-- the longest lexeme at the front of a text, if there is one
longest-decided : (text : List ℕ) → Longest text ⊎ (Longest text → ⊥)
longest-decided text = longest-below text (length text) (omega arith) (λ more after m front is. omega (arith, ap length front, length-append more after))

-- a token at the front of a text
abbrev Reads : Bool → List ℕ → Type 0
Reads behind text = (bytes : List ℕ) × (rest : List ℕ) × (t : Token) × IsRead behind text bytes rest t

token-decided : (behind : Bool) (text : List ℕ) → Longest text ⊎ (Longest text → ⊥) → Reads behind text ⊎ (Reads behind text → ⊥)
token-decided behind text (inr none) = inr (λ x. none (x.0, x.1, x.3.lexeme, x.3.longest))
token-decided behind text (inl x) = by (token_of behind x.2 x.1) refl
  where
    by : (o : Option Token) → token_of behind x.2 x.1 ≡ o → Reads behind text ⊎ (Reads behind text → ⊥)
    by (Some t) is = inl (x.0, x.1, t, record { lexeme = x.2; longest = x.3; token = is })
    by None nothing = inr (λ y. refused y.0 y.1 y.2 y.3)
      where
        refused : (bytes rest : List ℕ) (t : Token) → IsRead behind text bytes rest t → ⊥
        refused bytes rest t read =
            let same = longest_once text x.0 x.1 bytes rest x.2 read.lexeme x.3 read.longest in
            let some : token_of behind x.2 x.1 ≡ Some t =
            subst (λ (l : Lexeme). token_of behind l x.1 ≡ Some t) same.lexeme_same (subst (λ (r : List ℕ). token_of behind read.lexeme r ≡ Some t) same.rest_same read.token) in
            cc

-- the tokens of what is left of a text
abbrev Tokens : Bool → ℕ → List ℕ → Type 0
Tokens behind offset text = (tokens : List Placed) × (whole : Bool) × (end : ℕ) × TokensFrom behind offset text tokens whole end

tokens-from : (n : ℕ) (behind : Bool) (offset : ℕ) (text : List ℕ) → length text ≤ n → Tokens behind offset text
tokens-from n behind offset [] room = ([], true, offset, at_end behind offset)
tokens-from zero behind offset (b ∷ text) room = absurd (omega (arith, room))
tokens-from (suc n) behind offset (b ∷ text) room =
    by (λ after at rest shorter. tokens-from n after at rest (omega (arith, room, shorter))) (is_whitespace b) refl (token-decided behind (b ∷ text) (longest-decided (b ∷ text)))
  where
    by : ((after : Bool) (at : ℕ) (rest : List ℕ) → length rest < suc (length text) → Tokens after at rest) → (space : Bool) → is_whitespace b ≡ space → Reads behind (b ∷ text) ⊎ (Reads behind (b ∷ text) → ⊥) → Tokens behind offset (b ∷ text)
    by further true space found =
        let more = further behind (suc offset) text (omega arith) in
        (more.0, more.1, more.2, whitespace behind offset b text more.0 more.1 more.2 space more.3)
    by further false space (inl x) =
        let more = further (ends_operand x.2) (offset + length x.0) x.1 (omega (arith, ap length x.3.longest.at_front, length-append x.0 x.1, lexeme_takes x.0 x.3.lexeme x.3.longest.is)) in
        (record { offset = offset; token = x.2 } ∷ more.0, more.1, more.2, one_token behind offset (b ∷ text) x.0 x.1 x.2 more.0 more.1 more.2 x.3 more.3)
    by further false space (inr none) =
        ([], false, offset, bad_token behind offset b text space (λ bytes rest t read. none (bytes, rest, t, read)))

pub each-read : EachTextIsRead
each-read text = tokens-from (length text) false 0 text (omega arith)
