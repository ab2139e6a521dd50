-- The element, what it declares, and its attributes.
use Rattle.std.proofs.Common.{◌≡◌, ℕ, List, [], ◌∷◌, ap, subst, length, length-append, arith}
use Rattle.std.proofs.lemmas.Bool.{lt-leb}
use Rattle.doc_tree.specs.limits.TheConstants.{MAX_LIVE_NODES}
use Rattle.doc_tree.specs.Growth.{Grew}
use Rattle.doc_tree.specs.Scope.{Decl}
use Rattle.doc_tree.specs.Table.{Table, Name, element}
use Rattle.doc_tree.specs.Walks.{order}
use Rattle.name_scopes.specs.inner.Build.{element_name}
use Rattle.name_scopes.proofs.NumberLemmas.{holder-live}
use Rattle.name_scopes.proofs.TagFacts.{tag-good, declares-once}
use Rattle.name_scopes.proofs.BeginLemmas.{begun, begun-receives}
use Rattle.name_scopes.proofs.build.Loader.begin.Goals as goal

-- the element that came has the name that its number stands for
named : (T U : Table) (p n : ℕ) (name : Name) (scope : List Decl) (qname : List ℕ) → name ≡ element_name scope qname → Grew T U p n (element name []) → Grew T U p n (element (element_name scope qname) [])
named T U p n name scope qname is grew = subst (λ (m : Name). Grew T U p n (element m [])) is grew

pub append_decls-requires-clause-once : goal.append_decls-requires-clause-once
append_decls-requires-clause-once c =
    declares-once c.args.attrs.now c.requires.all_named (tag-good c.args.self.now.scope c.args.name.now c.args.attrs.now c.requires.good).qnames

pub append_attributes-requires-clause-receives : goal.append_attributes-requires-clause-receives
append_attributes-requires-clause-receives c =
    begun-receives c.args.self.now.tree.nodes c.append_element.new.tree.nodes c.append_decls.new.tree.nodes c.args.self.now.place c.in_ok-element.element c.args.self.now.scope c.args.name.now c.args.attrs.now
    (named c.args.self.now.tree.nodes c.append_element.new.tree.nodes c.args.self.now.place c.in_ok-element.element _ c.args.self.now.scope c.args.name.now c.requires.numbered.named c.in_ok-element.ensures.grew)
    c.in_ok-append_decls.ensures

pub returns-clause-begins : goal.returns-clause-begins
returns-clause-begins c =
    begun c.args.self.now.tree.nodes c.append_element.new.tree.nodes c.append_decls.new.tree.nodes c.args.self.now.place c.in_ok-element.element c.args.self.now.scope c.args.name.now c.args.attrs.now
    (named c.args.self.now.tree.nodes c.append_element.new.tree.nodes c.args.self.now.place c.in_ok-element.element _ c.args.self.now.scope c.args.name.now c.requires.numbered.named c.in_ok-element.ensures.grew)
    c.in_ok-append_decls.ensures c.laws.ensures.scopes (holder-live c.args.self.now.tree.nodes c.args.self.now.place c.requires.receives.holder)
    c.append_attributes.new.tree.nodes c.in_ok-append_attributes.ensures c.laws.ensures.ways_up c.laws.ensures.well_formed
    c.requires.named c.requires.all_named (tag-good c.args.self.now.scope c.args.name.now c.args.attrs.now c.requires.good)

pub append_element-requires-clause-room : goal.append_element-requires-clause-room
append_element-requires-clause-room c = lt-leb MAX_LIVE_NODES (length (order c.args.self.now.tree.nodes)) (omega (arith, c.requires.room))

pub append_attributes-requires-clause-known : goal.append_attributes-requires-clause-known
append_attributes-requires-clause-known c = (tag-good c.args.self.now.scope c.args.name.now c.args.attrs.now c.requires.good).all_known

pub append_attributes-requires-clause-differ : goal.append_attributes-requires-clause-differ
append_attributes-requires-clause-differ c = (tag-good c.args.self.now.scope c.args.name.now c.args.attrs.now c.requires.good).expanded

pub append_attributes-requires-clause-room : goal.append_attributes-requires-clause-room
append_attributes-requires-clause-room c =
    omega (
      arith,
      c.requires.room,
      ap length c.in_ok-append_decls.ensures.same_order,
      ap length c.in_ok-element.ensures.grew.last_in_order,
      length-append (order c.args.self.now.tree.nodes) (c.in_ok-element.element ∷ []),
    )

pub append_attributes-requires-clause-little : goal.append_attributes-requires-clause-little
append_attributes-requires-clause-little c = omega (arith, c.requires.little, c.in_ok-append_decls.ensures.same_text, c.in_ok-element.ensures.grew.more_text)
