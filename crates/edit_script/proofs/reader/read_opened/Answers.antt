-- What opens an insert is well formed, and so is its fragment.
use Rattle.edit_script.proofs.FormedLemmas.{opening_formed}
use Rattle.edit_script.proofs.reader.read_opened.Goals as goal

pub returns-in-Ok-clause-formed : goal.returns-in-Ok-clause-formed
returns-in-Ok-clause-formed c =
    let opened = opening_formed c.args.next.line.now c.args.path c.args.at c.requires.opens in
    (opened.0, opened.1, c.in-Ok.ensures.inserted.formed)
