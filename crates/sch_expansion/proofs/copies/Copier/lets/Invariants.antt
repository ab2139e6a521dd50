-- Those so far were copied.
use Rattle.std.proofs.Common.{◌≡◌, ◌++◌, drop, map}
use Rattle.sch_expansion.specs.Flat.{let_with}
use Rattle.sch_expansion.specs.inner.Copies.{change_of}
use Rattle.sch_expansion.proofs.copies.Copier.lets.Given as goal

abbrev pub invariant-loop-decl : goal.invariant-loop-decl
invariant-loop-decl l = l.its ++ map (let_with (change_of l.self)) (drop l.decl-index l.decls) ≡ map (let_with (change_of l.self)) l.decls
