use Rattle.rule_run.proofs.validator.Validator.name_text.Goals as goal

pub returns-in-Some : goal.returns-in-Some
returns-in-Some g c = rw c.in-Some.is c.path_name.ensures
