-- An expanded name that is new takes the next number.
use Rattle.std.proofs.Common.{◌≡◌, ◌+◌, ℕ, true, List, [], ◌∷◌, ◌++◌, map, take, length, length-append, sym, ap, ◌∙◌, subst, arith}
use Rattle.pyx_core.specs.declared.event.Attr.{Attr}
use Rattle.doc_tree.specs.Numbering.{Numbered}
use Rattle.doc_tree.specs.Table.{Name}
use Rattle.name_scopes.specs.Declarations.{is_plain, plain_attrs}
use Rattle.name_scopes.specs.DocFaults.{has_pair, same_expanded, expanded_attr}
use Rattle.name_scopes.proofs.TagLemmas.{expanded-sound, expanded-complete, new-again, new-once, pair-kept, kept-more, kept-same, IsNew}
use Rattle.name_scopes.proofs.tag.number_plain.Goals as goal
use Rattle.name_scopes.proofs.tag.number_plain.Goals.{then-is_plain+in_ok-number+else-index-count, else-is_plain}

pub returns-then-index-count : goal.returns-then-index-count
returns-then-index-count c =
    let i : ℕ = c.loop-attr.attr-index in
    let xs : List Attr = c.args.attrs.now in
    let x : Attr = c.attr-item.result in
    let numbered : Numbered (map (expanded_attr c.args.scope.now) (plain_attrs (take i xs))) c.number_expanded.new.names (expanded_attr c.args.scope.now x) c.in_ok-number.number =
    subst (λ (l : List Name). Numbered l c.number_expanded.new.names (expanded_attr c.args.scope.now x) c.in_ok-number.number) c.loop-attr.invariant.named c.in_ok-number.ensures in
    let plain : is_plain x ≡ true = sym c.is_plain.ensures ∙ c.if-is_plain.true in
    let again : has_pair (same_expanded c.args.scope.now) (plain_attrs xs) ≡ true =
    pair-kept is_plain xs i x c.loop-attr-test.true c.attr-item.is (same_expanded c.args.scope.now) plain
    (new-again (expanded_attr c.args.scope.now) (same_expanded c.args.scope.now) (expanded-sound c.args.scope.now) (expanded-complete c.args.scope.now) (plain_attrs (take i xs)) x c.number_expanded.new.names c.in_ok-number.number
    c.loop-attr.invariant.apart numbered (λ e. c.if-index-count.true (c.index.ensures ∙ (e ∙ sym c.loop-attr.invariant.counted)))) in
    sym again

pub loop-attr-preserved : goal.loop-attr-preserved
loop-attr-preserved c = elim c.if-is_plain.branch [
  | then-is_plain+in_ok-number+else-index-count w ↦
      let i : ℕ = c.loop-attr.attr-index in
      let xs : List Attr = c.args.attrs.now in
      let x : Attr = c.attr-item.result in
      let key : Attr → Name = expanded_attr c.args.scope.now in
      let numbered : Numbered (map key (plain_attrs (take i xs))) w.number_expanded.new.names (key x) w.in_ok-number.number =
      subst (λ (l : List Name). Numbered l w.number_expanded.new.names (key x) w.in_ok-number.number) c.loop-attr.invariant.named w.in_ok-number.ensures in
      let plain : is_plain x ≡ true = sym c.is_plain.ensures ∙ w.if-is_plain.true in
      let new : IsNew key (same_expanded c.args.scope.now) (plain_attrs (take i xs)) x w.number_expanded.new.names =
      new-once key (same_expanded c.args.scope.now) (expanded-sound c.args.scope.now) (expanded-complete c.args.scope.now) (plain_attrs (take i xs)) x w.number_expanded.new.names w.in_ok-number.number
      c.loop-attr.invariant.apart numbered w.laws.ensures (sym w.index.ensures ∙ (w.if-index-count.false ∙ c.loop-attr.invariant.counted)) in
      let front : plain_attrs (take (i + 1) xs) ≡ plain_attrs (take i xs) ++ x ∷ [] = kept-more is_plain xs i x c.loop-attr-test.true c.attr-item.is plain in
      record {
        small = omega (arith, w.count-is, c.loop-attr.invariant.small);
        counted = w.count-is ∙ (omega (arith, c.loop-attr.invariant.counted, ap length front, length-append (plain_attrs (take i xs)) (x ∷ [])));
        named = w.names-is ∙ (new.keys ∙ ap (map key) (sym front));
        apart = ap (has_pair (same_expanded c.args.scope.now)) front ∙ new.apart;
      }
  | else-is_plain w ↦
      let i : ℕ = c.loop-attr.attr-index in
      let xs : List Attr = c.args.attrs.now in
      let x : Attr = c.attr-item.result in
      let front : plain_attrs (take (i + 1) xs) ≡ plain_attrs (take i xs) = kept-same is_plain xs i x c.loop-attr-test.true c.attr-item.is (sym c.is_plain.ensures ∙ w.if-is_plain.false) in
      record {
        small = omega (arith, w.count-is, c.loop-attr.invariant.small);
        counted = w.count-is ∙ (c.loop-attr.invariant.counted ∙ ap length (sym front));
        named = w.names-is ∙ (c.loop-attr.invariant.named ∙ ap (map (expanded_attr c.args.scope.now)) (sym front));
        apart = ap (has_pair (same_expanded c.args.scope.now)) front ∙ c.loop-attr.invariant.apart;
      }
]
