-- The whole of the printed text.
use Rattle.std.proofs.Common.{◌≡◌, ℕ, true, false, List, [], length, map, append-nil, sym, subst, subst₂, ap, ◌∙◌}
use Rattle.xp_tree.specs.Tree.{Tree}
use Rattle.xp_grammar.specs.declared.token.Placed.{Placed}
use Rattle.xp_lexicon.specs.Lexicon.{Tokenized}
use Rattle.xp_lexicon.specs.Laws.{WholeTextsEnd}
use Rattle.xp_print.specs.Printed.{printed}
use Rattle.xp_print_laws.specs.Offsets.{without_offsets}
use Rattle.xp_print_laws.specs.PrintedTokens.{tokens_printed}
use Rattle.xp_syntax.specs.Syntax.{Spells}
use Rattle.xp_syntax.specs.Laws.{OneSpelling}
use Rattle.xp_print_laws.specs.Spelling.{PrintedSpellsTheSame}
use Rattle.xp_print_laws.proofs.Fits.{Fits}
use Rattle.xp_print_laws.proofs.Again.{derived-fits, fitting-derives}
use Rattle.xp_print_laws.proofs.Lexed.{Lexed, tokens-sound}
use Rattle.xp_print_laws.proofs.Texts.{ReadsAs}
use Rattle.xp_print_laws.proofs.Behind.{nothing_behind}
use Rattle.xp_print_laws.proofs.Prints.{text_reads}

-- the whole of a printed text
abbrev pub PrintedWhole : Tree → Type 0
PrintedWhole e = (tokens : List Placed) × Tokenized (printed false e) tokens true (length (printed false e)) × (map (λ p. p.token) tokens ≡ tokens_printed false e)

from_start : WholeTextsEnd → (e : Tree) → ReadsAs false (printed false e) (tokens_printed false e) → PrintedWhole e
from_start ends e on =
    let (s, end, T, is) = on 0 in
    (s, subst (λ n. Tokenized (printed false e) s true n) (ends (printed false e) s end T) T, is)

fitting-read : WholeTextsEnd → (limit : ℕ) (e : Tree) → Fits Lexed limit 0 false e → PrintedWhole e
fitting-read ends limit e F =
    from_start ends e (subst₂ (λ t ts. ReadsAs false t ts) (append-nil (printed false e)) (append-nil (tokens_printed false e))
    (text_reads limit F [] [] (nothing_behind false)))

spelled-fits : (limit : ℕ) (text : List ℕ) (e : Tree) → Spells limit text e → Fits Lexed limit 0 false e
spelled-fits limit text e s = derived-fits Lexed limit s.tokens e (tokens-sound s.tokenized) s.derived

pub printed-tokens : WholeTextsEnd → (limit : ℕ) (text : List ℕ) (e : Tree) → Spells limit text e → PrintedWhole e
printed-tokens ends limit text e S = fitting-read ends limit e (spelled-fits limit text e S)

spells-again : (limit : ℕ) (e : Tree) → Fits Lexed limit 0 false e → PrintedWhole e → (f : Tree) × Spells limit (printed false e) f × (without_offsets f ≡ without_offsets e)
spells-again limit e F (s, T, is) = let (f, D, alike) = fitting-derives Lexed limit s e F is in (f, record { tokens = s; tokenized = T; derived = D }, alike)

pub printed-spells : WholeTextsEnd → (limit : ℕ) (text : List ℕ) (e : Tree) → Spells limit text e →
    (f : Tree) × Spells limit (printed false e) f × (without_offsets f ≡ without_offsets e)
printed-spells ends limit text e S = let F = spelled-fits limit text e S in spells-again limit e F (fitting-read ends limit e F)

pub nothing-else : PrintedSpellsTheSame → OneSpelling → (limit higher : ℕ) (text : List ℕ) (e f : Tree) → Spells limit text e → Spells higher (printed false e) f →
    without_offsets f ≡ without_offsets e
nothing-else printed_spells one limit higher text e f S F =
    let (g, G, alike) = printed_spells limit text e S in ap without_offsets (sym (one limit higher (printed false e) g f G F)) ∙ alike
