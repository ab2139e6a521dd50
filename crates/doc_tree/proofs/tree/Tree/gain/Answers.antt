-- Nothing speaks against the attribute.
use Rattle.std.proofs.Common.{◌≡◌, ℕ, List, sym, ap, ◌∙◌, subst}
use Rattle.doc_names.specs.Name.{Name}
use Rattle.doc_table.specs.Table.{Contents}
use Rattle.doc_edits.specs.Changes.{gained}
use Rattle.doc_edits.specs.Fitting.{MayGain}
use Rattle.doc_tree.specs.Scope.{namespace_or_none}
use Rattle.doc_tree.proofs.AttributeLemmas.{may-gain}
use Rattle.doc_tree.proofs.tree.Tree.gain.Goals as goal

-- the namespace of the name, as it was copied
uri-is : (c : goal.After-as_str) → c.as_str.result.now ≡ namespace_or_none c.args.self.now.nodes c.args.n c.args.prefix.now
uri-is c = c.as_str.ensures ∙ (c.in_ok-uri.ensures ∙ c.attribute_uri.ensures)

pub gain-requires-clause-may : goal.gain-requires-clause-may
gain-requires-clause-may c =
    let given : List ℕ → Name = λ uri. record { prefix = c.args.prefix.now; local = c.args.local.now; uri = uri } in
    subst (λ (t : Contents). MayGain t.nodes c.args.n (given c.as_str.result.now) c.args.value.now) (sym c.self.view_is)
    (subst (λ (uri : List ℕ). MayGain c.args.self.now.nodes c.args.n (given uri) c.args.value.now) (sym (uri-is c))
    (may-gain c.args.self.now c.args.n c.args.prefix.now c.args.local.now c.args.value.now c.requires.free c.requires.absent))

pub returns-clause-gained : goal.returns-clause-gained
returns-clause-gained c =
    let given : List ℕ → Name = λ uri. record { prefix = c.args.prefix.now; local = c.args.local.now; uri = uri } in
    c.in_ok-gain.ensures.gained
    ∙ (ap (λ (t : Contents). gained t.nodes c.args.n (given c.as_str.result.now) c.args.value.now) c.self.view_is
    ∙ ap (λ (uri : List ℕ). gained c.args.self.now.nodes c.args.n (given uri) c.args.value.now) (c.as_str.ensures ∙ (c.in_ok-uri.ensures ∙ c.attribute_uri.ensures)))
