use Rattle.xp_lexicon.proofs.Tokens.{no_token}
use Rattle.xp_lexicon.proofs.lexer.take_token.Goals as goal

pub returns-in-None-token_of : goal.returns-in-None-token_of
returns-in-None-token_of c =
    no_token c.args.behind_operand c.args.text.now c.in-Some.scanned.rest.now c.in-Some.scanned.lexeme c.in-Some.ensures c.in-None-token_of.ensures
