use Rattle.std.proofs.Common.{lit<, Some, refl, sym, subst, MatchOption, ◌∙◌, ◌≡◌, ◌++◌}
use Rattle.std.specs.Prelude.{encode_utf8}
use Rattle.xp_lexicon.specs.declared.lexeme.Form.TheVariants as form
use Rattle.xp_lexicon.specs.declared.lexeme.Lexeme.TheVariants as lexeme
use Rattle.xp_lexicon.specs.inner.Scanning.{fits, NoneOf, LongestOf}
use Rattle.xp_lexicon.proofs.Literals.{quote_is_low}
use Rattle.xp_lexicon.proofs.Firsts.{found, found_behind, first_of_variable, first_of_star, first_of_literal, longest_star}
use Rattle.xp_lexicon.proofs.lexeme.scan.Goals as goal

pub returns-in-Variable : goal.returns-in-Variable
returns-in-Variable c = found_behind c.in_ok-first.first 36 c.args.text.now c.as_str-behind.result.now form.Variable c.variable.result
    (rw c.as_str-behind.ensures (sym c.chars-chars.ensures.rest ∙ c.in_ok-first.ensures.steps.0))
    (first_of_variable c.in_ok-first.first c.in-Variable.ensures) (lit< tt) c.in-Variable.ensures c.variable.ensures

pub returns-in-Literal : goal.returns-in-Literal
returns-in-Literal c = found_behind c.in_ok-first.first c.in_ok-first.first c.args.text.now c.as_str-behind.result.now form.Literal c.literal.result
    (rw c.as_str-behind.ensures (sym c.chars-chars.ensures.rest ∙ c.in_ok-first.ensures.steps.0))
    refl (quote_is_low c.in_ok-first.first (first_of_literal c.in_ok-first.first c.in-Literal.ensures)) c.in-Literal.ensures c.literal.ensures

pub returns-in-Star : goal.returns-in-Star
returns-in-Star c = found_behind c.in_ok-first.first 42 c.args.text.now c.as_str-behind.result.now form.Star
    (Some (record { lexeme = lexeme.Star; rest = c.as_str-behind.result }))
    (rw c.as_str-behind.ensures (sym c.chars-chars.ensures.rest ∙ c.in_ok-first.ensures.steps.0))
    (first_of_star c.in_ok-first.first c.in-Star.ensures) (lit< tt) c.in-Star.ensures (longest_star c.as_str-behind.result.now)

pub returns-in-Digit : goal.returns-in-Digit
returns-in-Digit c = found c.in_ok-first.first c.args.text.now c.as_str-behind.result.now form.Digit (Some c.number.result)
    (rw c.as_str-behind.ensures (sym c.chars-chars.ensures.rest ∙ c.in_ok-first.ensures.steps.0))
    c.in-Digit.ensures c.number.ensures

pub returns-in-Point : goal.returns-in-Point
returns-in-Point c = found c.in_ok-first.first c.args.text.now c.as_str-behind.result.now form.Point c.point.result
    (rw c.as_str-behind.ensures (sym c.chars-chars.ensures.rest ∙ c.in_ok-first.ensures.steps.0))
    c.in-Point.ensures c.point.ensures

pub returns-in-Name : goal.returns-in-Name
returns-in-Name c = found c.in_ok-first.first c.args.text.now c.as_str-behind.result.now form.Name c.name.result
    (rw c.as_str-behind.ensures (sym c.chars-chars.ensures.rest ∙ c.in_ok-first.ensures.steps.0))
    c.in-Name.ensures c.name.ensures

pub returns-in-Symbol : goal.returns-in-Symbol
returns-in-Symbol c = let split : c.args.text.now ≡ encode_utf8 c.in_ok-first.first ++ c.as_str-behind.result.now = (rw c.as_str-behind.ensures (sym c.chars-chars.ensures.rest ∙ c.in_ok-first.ensures.steps.0)) in
    found c.in_ok-first.first c.args.text.now c.as_str-behind.result.now form.Symbol c.symbol.result split c.in-Symbol.ensures
    (subst (λ l. MatchOption c.symbol.result (NoneOf (fits form.Symbol) l) (λ s. LongestOf (fits form.Symbol) l s.rest.now s.lexeme))
    (sym split) c.symbol.ensures)
