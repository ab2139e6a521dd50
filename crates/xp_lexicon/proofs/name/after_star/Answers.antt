use Rattle.std.proofs.Common.{◌≡◌, ◌≢◌, ℕ, List, ◌∷◌, Option, None, Some, MatchOption, Bor, lit<, ap, ◌∙◌}
use Rattle.std.proofs.lemmas.Str.Pattern.{strip_prefix_char}
use Rattle.xp_lexicon.specs.inner.Scanning.{NoStar}
use Rattle.xp_lexicon.proofs.name.after_star.Goals as goal

star_found : (text local : List ℕ) (r : Option (Bor (List ℕ))) → text ≡ 58 ∷ local →
    MatchOption r ((rest : List ℕ) → local ≢ 42 ∷ rest) (λ x. local ≡ 42 ∷ x.now) →
    MatchOption r (NoStar text) (λ rest. text ≡ 58 ∷ 42 ∷ rest.now)
star_found text local None split none = λ rest e. none rest (cc)
star_found text local (Some x) split some = split ∙ ap (λ l. 58 ∷ l) some

pub returns-in-Some : goal.returns-in-Some
returns-in-Some c = star_found c.args.text.now c.in-Some.local.now c.strip_prefix-in-Some.result
    (strip_prefix_char 58 c.args.text.now (Some c.in-Some.local) c.in-Some.ensures.cases (lit< tt))
    (strip_prefix_char 42 c.in-Some.local.now c.strip_prefix-in-Some.result c.strip_prefix-in-Some.ensures.cases (lit< tt))

pub returns-in-None : goal.returns-in-None
returns-in-None c = λ rest split. strip_prefix_char 58 c.args.text.now None c.in-None.ensures.cases (lit< tt) (42 ∷ rest) split
