-- Two lists that are equally long and agree at each place are one.
use Rattle.std.proofs.Common.{◌≡◌, ℕ, [], length, List, refl, arith}
use Rattle.std.proofs.lemmas.List.{ext_get_or}
use Rattle.doc_tree.specs.Table.{decls_of}
use Rattle.tree_same.proofs.nodes.same_decls.Goals as goal

pub returns : goal.returns
returns c =
    let before : List (List ℕ × List ℕ) = decls_of c.args.a.now.nodes c.args.n in
    let after : List (List ℕ × List ℕ) = decls_of c.args.b.now.nodes c.args.m in
    let long : length after ≡ length before = omega (arith, c.decl_count.ensures, c.decl_count-count.ensures, c.if-decl_count-count.false) in
    (λ _. ext_get_or ([], []) after before long (λ k less. c.loop-i.invariant k (omega (arith, less, long, c.decl_count-count.ensures, c.loop-i-test.false))), λ _. refl)
