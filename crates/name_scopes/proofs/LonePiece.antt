-- The tree of one text, comment or processing instruction.
use Rattle.std.proofs.Common.{ℕ, zero, suc, List, [], ◌∷◌, refl, sym, subst, arith}
use Rattle.pyx_core.specs.declared.event.Event.{Event}
use Rattle.pyx_core.specs.declared.event.Event.TheVariants as event
use Rattle.pyx_core.specs.declared.mode.Mode.TheVariants.{Fragment}
use Rattle.pyx_core.specs.Nesting.{Fits, start}
use Rattle.doc_tree.specs.Growth.{Grew, with_node}
use Rattle.doc_tree.specs.Scope.{Decl}
use Rattle.doc_tree.specs.Table.{Table, root_alone}
use Rattle.name_scopes.specs.Fragments.{PieceInScope}
use Rattle.name_scopes.specs.inner.Build.{IsLeaf, leaf_of}
use Rattle.name_scopes.specs.inner.Piece.{IsPiece}

lone-scoped : (e : Event) (around : List Decl) → IsLeaf e → Fits Fragment start e → PieceInScope around (with_node root_alone.nodes 0 (leaf_of e))
lone-scoped (event.Start name attrs) around leaf fits m = absurd leaf
lone-scoped (event.End name) around leaf fits m = absurd leaf
lone-scoped (event.Chars characters) around leaf fits zero = tt
lone-scoped (event.Chars characters) around leaf fits (suc zero) = fits.made
lone-scoped (event.Chars characters) around leaf fits (suc (suc m)) = tt
lone-scoped (event.Pi target body) around leaf fits zero = tt
lone-scoped (event.Pi target body) around leaf fits (suc zero) = record { no_prefix = refl; no_namespace = refl; named = fits.named; made = fits.made }
lone-scoped (event.Pi target body) around leaf fits (suc (suc m)) = tt
lone-scoped (event.Comment characters) around leaf fits zero = tt
lone-scoped (event.Comment characters) around leaf fits (suc zero) = fits.made
lone-scoped (event.Comment characters) around leaf fits (suc (suc m)) = tt

pub lone-piece : (e : Event) (U : Table) (n : ℕ) (around : List Decl) → IsLeaf e → Fits Fragment start e → Grew root_alone.nodes U 0 n (leaf_of e) → IsPiece around (e ∷ []) U
lone-piece (event.Start name attrs) U n around leaf fits grew = absurd leaf
lone-piece (event.End name) U n around leaf fits grew = absurd leaf
lone-piece (event.Chars characters) U n around leaf fits grew = subst (IsPiece around (event.Chars characters ∷ [])) (sym grew.table) (record {
  scoped = record { lines_are = refl; in_scope = lone-scoped (event.Chars characters) around leaf fits; numbered = refl; top = 1; one = refl };
  nodes = refl;
  text = omega arith;
})
lone-piece (event.Pi target body) U n around leaf fits grew = subst (IsPiece around (event.Pi target body ∷ [])) (sym grew.table) (record {
  scoped = record { lines_are = refl; in_scope = lone-scoped (event.Pi target body) around leaf fits; numbered = refl; top = 1; one = refl };
  nodes = refl;
  text = omega arith;
})
lone-piece (event.Comment characters) U n around leaf fits grew = subst (IsPiece around (event.Comment characters ∷ [])) (sym grew.table) (record {
  scoped = record { lines_are = refl; in_scope = lone-scoped (event.Comment characters) around leaf fits; numbered = refl; top = 1; one = refl };
  nodes = refl;
  text = omega arith;
})
