use Rattle.std.proofs.Common.{drop, sym, ◌∙◌, ap}
use Rattle.std.proofs.lemmas.List.{drop-drop}
use Rattle.xp_parse.specs.inner.Places.{rest_of}
use Rattle.xp_parse.proofs.parser.Parser.advance.Goals as goal

pub returns-then-self : goal.returns-then-self
unfolding rest_of
returns-then-self c = λ p rest is. sym (drop-drop 1 c.args.self.now.at _) ∙ ap (drop 1) is
