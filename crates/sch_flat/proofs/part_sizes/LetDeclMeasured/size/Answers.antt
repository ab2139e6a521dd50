-- Its value is known.
use Rattle.sch_flat.proofs.part_sizes.LetDeclMeasured.size.Goals as goal

pub returns : goal.returns
returns c = c.let_size.ensures c.args.self.now.value c.text_len.ensures
