-- No text is without tokens.
use Rattle.std.proofs.Common.{◌≡◌, ℕ, zero, suc, ◌+◌, ◌<◌, ◌≤◌, Bool, true, false, List, [], ◌∷◌, length, refl, ap, arith, length-append}
use Rattle.sch_base.specs.Characters.{is_whitespace}
use Rattle.xp_grammar.specs.declared.token.Placed.{Placed}
use Rattle.xp_grammar.specs.declared.token.Token.{Token}
use Rattle.xp_lexicon.specs.Lexicon.{ends_operand, IsRead, TokensFrom, at_end, whitespace, one_token, bad_token}
use Rattle.xp_lexicon.specs.Laws.{NoTextIsUnread}
use Rattle.xp_lexicon.proofs.Same.{lexeme_takes}

-- a text from an offset on that no tokens are those of
abbrev Unread : Bool → ℕ → List ℕ → Type 0
Unread b offset text = (tokens : List Placed) (whole : Bool) (end : ℕ) → TokensFrom b offset text tokens whole end → ⊥

read_shorter : (b : Bool) (text bytes rest : List ℕ) (t : Token) → IsRead b text bytes rest t → length rest < length text
read_shorter b text bytes rest t r =
    omega (arith, ap length r.longest.at_front, length-append bytes rest, lexeme_takes bytes r.lexeme r.longest.is)

unread_from : (b : Bool) (offset c : ℕ) (text : List ℕ)
    (further : (after : Bool) (at : ℕ) (rest : List ℕ) → length rest < suc (length text) → Unread after at rest → ⊥)
    (space : Bool) → is_whitespace c ≡ space → Unread b offset (c ∷ text) → ⊥
unread_from b offset c text further true space none =
    further b (suc offset) text (omega arith) (λ tokens whole end T. none tokens whole end (whitespace b offset c text tokens whole end space T))
unread_from b offset c text further false space none =
    none [] false offset
    (bad_token b offset c text space
    (λ bytes rest t r. further (ends_operand t) (offset + length bytes) rest (read_shorter b (c ∷ text) bytes rest t r)
    (λ tokens whole end T. none (record { offset = offset; token = t } ∷ tokens) whole end (one_token b offset (c ∷ text) bytes rest t tokens whole end r T))))

none_from : (n : ℕ) (b : Bool) (offset : ℕ) (text : List ℕ) → length text ≤ n → Unread b offset text → ⊥
none_from n b offset [] room none = none [] true offset (at_end b offset)
none_from zero b offset (c ∷ text) room none = absurd (omega (arith, room))
none_from (suc n) b offset (c ∷ text) room none =
    unread_from b offset c text (λ after at rest shorter. none_from n after at rest (omega (arith, room, shorter))) (is_whitespace c) refl none

pub none_unread : NoTextIsUnread
none_unread text none = none_from (length text) false 0 text (omega arith) none
