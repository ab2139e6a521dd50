-- The lines tell the tree.
use Rattle.state_iso_laws.proofs.same_lines_show_the_same.Goals as goal

pub returns : goal.returns
returns c = λ plan T U one other told. c.same_trees_show_the_same.ensures plan T U one other (c.same_lines_same_tree.ensures T U one other told)
