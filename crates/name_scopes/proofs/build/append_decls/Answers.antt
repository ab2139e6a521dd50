-- One declaration after the other.
use Rattle.std.proofs.Common.{◌≡◌, ◌+◌, ◌++◌, [], ◌∷◌, ℕ, List, ap, ◌∙◌, take, subst, append-nil}
use Rattle.std.specs.Option.{option_to_list}
use Rattle.doc_tree.specs.Scope.{Decl, first_declared}
use Rattle.doc_tree.specs.Declaring.{Declared}
use Rattle.name_scopes.specs.Declarations.{declarations}
use Rattle.name_scopes.proofs.StartLemmas.{declaring-none, declaring-more, declared-next, next-undeclared}
use Rattle.name_scopes.proofs.build.append_decls.Goals as goal
use Rattle.name_scopes.proofs.build.append_decls.Goals.{in-Some+in_ok-append_decl, in_default}

pub loop-attr-init : goal.loop-attr-init
loop-attr-init c = declaring-none c.args.tree.now.nodes c.args.element c.requires.under c.requires.no_decl c.requires.no_kid c.requires.no_attribute

pub append_decl-requires-clause-is_new : goal.append_decl-requires-clause-is_new
append_decl-requires-clause-is_new c =
    ap (λ (l : List Decl). first_declared l c.in-Some.prefix.now) c.loop-attr.invariant.all.decls_are
    ∙ next-undeclared c.args.attrs.now c.loop-attr.attr-index c.attr-item.result c.loop-attr-test.true c.attr-item.is (c.in-Some.prefix.now, c.attr-item.result.value) c.requires.once c.in-Some.ensures

pub loop-attr-preserved : goal.loop-attr-preserved
loop-attr-preserved c = elim c.match-declared_prefix.branch [
  | in-Some+in_ok-append_decl w ↦
      let d : Decl = (w.in-Some.prefix.now, c.attr-item.result.value) in
      let more : Declared c.loop-attr.tree.nodes w.append_decl.new.self.nodes c.args.element d =
      subst (λ (v : List ℕ). Declared c.loop-attr.tree.nodes w.append_decl.new.self.nodes c.args.element (w.in-Some.prefix.now, v)) w.as_str.ensures w.in_ok-append_decl.ensures.declared in
      let decls : declarations (take (c.loop-attr.attr-index + 1) c.args.attrs.now) ≡ declarations (take c.loop-attr.attr-index c.args.attrs.now) ++ d ∷ [] =
      declared-next c.args.attrs.now c.loop-attr.attr-index c.attr-item.result c.loop-attr-test.true c.attr-item.is
      ∙ ap (λ o. declarations (take c.loop-attr.attr-index c.args.attrs.now) ++ option_to_list o) w.in-Some.ensures in
      rw (w.tree-is, decls) (declaring-more c.args.tree.now.nodes c.loop-attr.tree.nodes w.append_decl.new.self.nodes c.args.element (declarations (take c.loop-attr.attr-index c.args.attrs.now)) d more c.laws.ensures.ways_up c.loop-attr.invariant)
  | in_default w ↦
      let decls : declarations (take (c.loop-attr.attr-index + 1) c.args.attrs.now) ≡ declarations (take c.loop-attr.attr-index c.args.attrs.now) =
      declared-next c.args.attrs.now c.loop-attr.attr-index c.attr-item.result c.loop-attr-test.true c.attr-item.is
      ∙ (ap (λ o. declarations (take c.loop-attr.attr-index c.args.attrs.now) ++ option_to_list o) w.in_default.ensures ∙ append-nil (declarations (take c.loop-attr.attr-index c.args.attrs.now))) in
      rw (w.tree-is, decls) c.loop-attr.invariant
]
