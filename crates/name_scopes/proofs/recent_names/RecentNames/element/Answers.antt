-- The number is that of the name in the namespace of its prefix.
use Rattle.std.proofs.Common.{◌≡◌, Some, sym, ap}
use Rattle.std.specs.Prelude.{is_none}
use Rattle.std.proofs.lemmas.Option.{slice_get_within}
use Rattle.doc_tree.specs.Scope.{namespace_in}
use Rattle.name_scopes.specs.QNames.{prefix_part}
use Rattle.name_scopes.proofs.NumberLemmas.{numbered-is}
use Rattle.name_scopes.proofs.recent_names.RecentNames.element.Goals as goal

pub returns-in_ok-number-in-Some-clause-named : goal.returns-in_ok-number-in-Some-clause-named
returns-in_ok-number-in-Some-clause-named c =
    let known : namespace_in c.args.scope.now (prefix_part c.args.name.now) ≡ Some c.in-Some.uri.now = sym (rw c.split-parts.ensures.prefix at c.in-Some.ensures) in
    let given = c.in_ok-number-in-Some.ensures.numbered.given in
    record {
      known = ap is_none known;
      below = slice_get_within c.number.new.tree.names c.in_ok-number-in-Some.field-0 _ given;
      named = rw known (rw (c.split-parts.ensures.prefix, c.split-parts.ensures.local) at (numbered-is c.number.new.tree.names c.in_ok-number-in-Some.field-0 _ given));
    }
