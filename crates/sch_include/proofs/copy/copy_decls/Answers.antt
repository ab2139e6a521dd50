-- One declaration after the other.
use Rattle.std.proofs.Common.{ℕ, List, sym, ap, ap₂, ◌∙◌, subst, take, arith}
use Rattle.doc_tree.specs.Declaring.{Declared}
use Rattle.doc_tree.specs.Scope.{Decl, decl_at, first_declared}
use Rattle.doc_tree.specs.Table.{decls_of}
use Rattle.sch_include.proofs.CopyLemmas.{Declaring, all-taken, declaring-more, next-decl, next-undeclared}
use Rattle.sch_include.proofs.copy.copy_decls.Goals as goal

pub append_decl-requires-clause-is_new : goal.append_decl-requires-clause-is_new
append_decl-requires-clause-is_new c =
    let ds : List Decl = decls_of c.args.source.now.nodes c.args.n in
    ap (λ (l : List Decl). first_declared l c.decl_prefix.result.now) c.loop-i.invariant.copied.decls_are
    ∙ (ap (first_declared (take c.loop-i.i ds)) c.decl_prefix.ensures ∙ next-undeclared ds c.loop-i.i (omega (arith, c.loop-i-test.true, c.decl_count-i-end.ensures)) c.requires.once)

pub loop-i-preserved : goal.loop-i-preserved
loop-i-preserved c = record {
  copied =
      let ds : List Decl = decls_of c.args.source.now.nodes c.args.n in
      let pair : List ℕ → List ℕ → Decl = λ a b. (a, b) in
      let more : Declared c.loop-i.tree.nodes c.append_decl.new.self.nodes c.args.to (decl_at ds c.loop-i.i) =
      subst (λ (d : Decl). Declared c.loop-i.tree.nodes c.append_decl.new.self.nodes c.args.to d) (ap₂ pair c.decl_prefix.ensures c.decl_uri.ensures) c.in_ok-append_decl.ensures.declared in
      subst (Declaring c.args.tree.now.nodes c.append_decl.new.self.nodes c.args.to) (sym (next-decl ds c.loop-i.i (omega (arith, c.loop-i-test.true, c.decl_count-i-end.ensures))))
      (declaring-more c.args.tree.now.nodes c.loop-i.tree.nodes c.append_decl.new.self.nodes c.args.to (take c.loop-i.i ds) (decl_at ds c.loop-i.i) more c.loop-i.invariant.copied);
  cap = c.in_ok-append_decl.ensures.cap ∙ c.loop-i.invariant.cap;
}

pub returns-clause-starts : goal.returns-clause-starts
returns-clause-starts c =
    let ds : List Decl = decls_of c.args.source.now.nodes c.args.n in
    (subst (Declaring c.args.tree.now.nodes c.loop-i.tree.nodes c.args.to) (all-taken ds c.loop-i.i (omega (arith, c.loop-i-test.false, c.decl_count-i-end.ensures)) (omega (arith, c.loop-i.auto.i-end, c.decl_count-i-end.ensures))) c.loop-i.invariant.copied).starts
