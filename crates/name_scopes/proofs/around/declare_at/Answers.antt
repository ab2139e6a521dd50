-- One declaration more, in front of those behind it.
use Rattle.std.proofs.Common.{◌≡◌, ◌+◌, ◌-◌, ◌<◌, ◌∷◌, [], ℕ, List, drop, length, refl, ap, ◌∙◌, arith}
use Rattle.std.proofs.lemmas.List.{drop_more}
use Rattle.doc_tree.specs.Scope.{Decl, decl_at}
use Rattle.doc_tree.specs.Table.{decls_of}
use Rattle.name_scopes.proofs.around.declare_at.Goals as goal

both : (d : Decl) → (d.0, d.1) ≡ d
both (prefix, uri) = refl

pub loop-left-preserved : goal.loop-left-preserved
loop-left-preserved c =
    let decls : List Decl = decls_of c.args.tree.now.nodes c.args.n in
    let k : ℕ = c.loop-left.left - 1 in
    let below : k < length decls = omega (arith, c.loop-left.invariant.within, c.loop-left-test.true) in
    let next : k + 1 ≡ c.loop-left.left = omega (arith, c.loop-left-test.true) in
    let front : drop k decls ≡ decl_at decls k ∷ drop c.loop-left.left decls = drop_more decls k ([], []) below ∙ ap (λ (m : ℕ). decl_at decls k ∷ drop m decls) next in
    record {
      within = omega (arith, c.loop-left.invariant.within);
      declared = rw (c.in_ok-declare.ensures, c.decl_prefix.ensures, c.decl_uri.ensures, both (decl_at decls k), c.loop-left.invariant.declared, front) refl;
    }
