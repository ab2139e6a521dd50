-- A fault tells the copy of the name.
use Rattle.std.proofs.Common.{ℕ, List, ◌++◌, ◌∷◌, [], ap, subst, sym}
use Rattle.std.specs.Prelude.{Err}
use Rattle.sch_include.specs.Taking.{Loading, fault_of}
use Rattle.sch_include.proofs.joiner.tree_of.Goals as goal

pub returns-in-Err-Kind-clause-told : goal.returns-in-Err-Kind-clause-told
returns-in-Err-Kind-clause-told g c = λ files is.
    subst (λ (name : List ℕ). Loading files c.args.name.now (Err (fault_of c.in-Err-Kind.kind name))) (sym c.requires) (rw c.in-Err-Kind.field-0-is at (c.in-Err-Kind.ensures.told files is))

pub returns-in-Err-Kind-clause-named : goal.returns-in-Err-Kind-clause-named
returns-in-Err-Kind-clause-named g c = λ of_file.
    ((g.S.Shelf.state c.args.shelf.now).opened, ap (λ (name : List ℕ). (g.S.Shelf.state c.args.shelf.now).opened ++ name ∷ []) (sym c.requires))
