-- The declarations of the innermost start tag go.
use Rattle.std.proofs.Common.{◌≡◌, ◌++◌, ◌∷◌, [], ap, ◌∙◌}
use Rattle.std.specs.Option.{option_to_list}
use Rattle.name_scopes.proofs.PieceTests.{stands-end}
use Rattle.name_scopes.proofs.open_tags.OpenTags.end.Goals as goal

pub returns-in-Some : goal.returns-in-Some
returns-in-Some c = λ scopes was.
    let had : c.args.self.now.counts.items ≡ c.pop.new.self.items ++ c.in-Some.count ∷ [] = c.pop.ensures.items ∙ ap (λ r. c.pop.new.self.items ++ option_to_list r) c.in-Some.is in
    stands-end scopes c.args.self.now _ c.in-Some.count c.forget.ensures had was
