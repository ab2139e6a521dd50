-- A namespace that is not empty is named.
use Rattle.std.proofs.Common.{◌≡◌, ◌≢◌, ◌∙◌, ◌++◌, ◌==◌, [], true, false, length, sym, ap, eq-eqb, string_bytes}
use Rattle.doc_locations.proofs.LocationLemmas.{named_step-in}
use Rattle.doc_locations.proofs.locations.push_named_step.Goals as goal

pub returns-in_ok-write-2 : goal.returns-in_ok-write-2
returns-in_ok-write-2 c =
    let filled : (length c.args.uri.now == 0) ≡ false = sym c.is_empty.ensures ∙ c.if-is_empty.false in
    let some : c.args.uri.now ≢ [] = λ (e : c.args.uri.now ≡ []). (let none : (length c.args.uri.now == 0) ≡ true = eq-eqb (length c.args.uri.now) 0 (ap length e) in absurd (cc)) in
    rw (c.quotes_of-quotes.ensures) at c.in_ok-write-2.ensures.bytes ∙ ap (λ step. string_bytes c.args.text.now ++ step) (sym (named_step-in c.args.local.now c.args.uri.now some))
