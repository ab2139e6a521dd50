-- What tokens derive, its printed tokens derive again.
use Rattle.std.proofs.Common.{◌≡◌, ℕ, ◌≤◌, false, List, [], ◌∷◌, map, arith}
use Rattle.xp_tree.specs.Tree.{Tree}
use Rattle.xp_tree.specs.declared.terms.Level.TheVariants as level
use Rattle.xp_grammar.specs.declared.token.Placed.{Placed}
use Rattle.xp_grammar.specs.declared.token.Token.{Token}
use Rattle.xp_grammar.specs.Grammar.{Derives}
use Rattle.xp_print_laws.specs.Offsets.{without_offsets}
use Rattle.xp_print_laws.specs.PrintedTokens.{tokens_printed}
use Rattle.xp_print_laws.specs.Reprinted.{NoneBehindSlash}
use Rattle.xp_print_laws.proofs.Fits.{Fits}
use Rattle.xp_print_laws.proofs.Fitting.{Sound, whole, fit_chain}
use Rattle.xp_print_laws.proofs.Spelled.{spelled-all}
use Rattle.xp_print_laws.proofs.Reading.{as_chain}
use Rattle.xp_print_laws.proofs.Rereads.{reread}

pub derived-fits : (Known : Token → Type 0) (limit : ℕ) (tokens : List Placed) (e : Tree) → Sound Known tokens → Derives limit tokens e → Fits Known limit 0 false e
derived-fits Known limit tokens e sound D = let (F, w) = fit_chain Known limit D false tt sound in whole F

pub fitting-derives : (Known : Token → Type 0) (limit : ℕ) (s : List Placed) (e : Tree) → Fits Known limit 0 false e →
    map (λ p. p.token) s ≡ tokens_printed false e → (f : Tree) × Derives limit s f × (without_offsets f ≡ without_offsets e)
fitting-derives Known limit s e F is =
    let room : 0 ≤ limit = omega arith in
    let (f, R, alike) = reread limit F room s [] (spelled-all s (tokens_printed false e) is) in
    (f, as_chain e level.Or (omega arith) room R, alike)

sound-of : (tokens : List Placed) → NoneBehindSlash tokens → Sound (λ t. Unit {0}) tokens
sound-of [] none = tt
sound-of (p ∷ s) none = (tt, none.0, sound-of s none.1)

pub derived-again : (limit : ℕ) (tokens s : List Placed) (e : Tree) → NoneBehindSlash tokens → Derives limit tokens e →
    map (λ p. p.token) s ≡ tokens_printed false e → (f : Tree) × Derives limit s f × (without_offsets f ≡ without_offsets e)
derived-again limit tokens s e none D is =
    fitting-derives (λ t. Unit {0}) limit s e (derived-fits (λ t. Unit {0}) limit tokens e (sound-of tokens none) D) is
