-- Words have one number each, so that names are one expanded name where the numbers are.
use Rattle.std.proofs.Common.{sym, ap, ◌∙◌, eqb, eq-eqb, ne_eqb, ◌&&◌}
use Rattle.std.specs.Option.{option_copied}
use Rattle.doc_names.proofs.NameLemmas.{one-expanded}
use Rattle.doc_names.proofs.names.NameTable.are_one_expanded.Goals as goal

pub returns-then-first-second : goal.returns-then-first-second
returns-then-first-second c =
    let a = c.in-Some-Some.first.now in
    let b = c.in-Some-Some.second.now in
    let first = sym (rw c.index.ensures at c.get_index.ensures.key) ∙ ap option_copied c.in-Some-Some.is-0 in
    let second = sym (rw c.index-2.ensures at c.get_index-2.ensures.key) ∙ ap option_copied c.in-Some-Some.is-1 in
    let same = one-expanded c.self.inside.words c.self.inside.keys.keys c.args.a c.args.b a b c.laws.ensures c.self.invariant.1 first second in
    ap (λ t. t && eqb a.local b.local) (sym (eq-eqb a.uri b.uri c.if-first-second.true)) ∙ rw c.self.view_is at same

pub returns-else-first-second : goal.returns-else-first-second
returns-else-first-second c =
    let a = c.in-Some-Some.first.now in
    let b = c.in-Some-Some.second.now in
    let first = sym (rw c.index.ensures at c.get_index.ensures.key) ∙ ap option_copied c.in-Some-Some.is-0 in
    let second = sym (rw c.index-2.ensures at c.get_index-2.ensures.key) ∙ ap option_copied c.in-Some-Some.is-1 in
    let other = ne_eqb a.uri b.uri c.if-first-second.false in
    let same = one-expanded c.self.inside.words c.self.inside.keys.keys c.args.a c.args.b a b c.laws.ensures c.self.invariant.1 first second in
    other ∙ (ap (λ t. t && eqb a.local b.local) (sym other) ∙ rw c.self.view_is at same)
