-- Nodes of one class are refused alike.
use Rattle.std.proofs.Common.{◌≡◌, ℕ, ◌<◌, ◌≤◌, ◌+◌, max, arith, Bool, true, false, ◌&&◌, ◌||◌, List, [], ◌∷◌, length, refl, sym, ◌∙◌, ap, ap₂, subst, Some, true≢false}
use Rattle.std.specs.Prelude.{IfSome, Ok, not, if◌then◌else◌, map}
use Rattle.std.proofs.lemmas.Bool.{and_parts}
use Rattle.doc_tree.specs.kind.Kind.TheVariants as kinds
use Rattle.doc_tree.specs.Kinds.{is_element, is_text}
use Rattle.doc_tree.specs.declared.axes.Axis.{Axis}
use Rattle.doc_tree.specs.declared.axes.NodeTest.{NodeTest}
use Rattle.doc_tree.specs.declared.axes.NodeTest.TheVariants.{Any, Star, InNamespace, Named, Text, Comment, Pi, PiNamed}
use Rattle.doc_tree.specs.Table.{Contents, Table, kind_of}
use Rattle.doc_axes.specs.Judging.{accepts}
use Rattle.doc_axes.specs.NodeTests.{is_comment, is_instruction, is_principal, named, passes}
use Rattle.xp_typed_tree.specs.TypedTree.{TypedPatternStepTree, TypedPathTree}
use Rattle.xp_outcome.specs.Cells.{names_on}
use Rattle.xp_outcome.specs.Evaluation.{bind, cell, done}
use Rattle.xp_outcome.specs.Recorded.{Recorded, note_all}
use Rattle.xp_outcome.specs.Running.{Ran}
use Rattle.xp_outcome.proofs.Outcomes.{bind-done}
use Rattle.xp_outcome.proofs.Runs.{note_all-append, ran_alike, ran_all_reading, ran_done}
use Rattle.xp_meaning.proofs.Exits.{ran_ticked}
use Rattle.xp_meaning.specs.Evaluation.{Lets}
use Rattle.xp_meaning.specs.Reads.{is_by_name}
use Rattle.xslt_match.specs.declared.refusing.NodeClass.{NodeClass}
use Rattle.xslt_match.specs.inner.Named.{all_named, is_named}
use Rattle.xslt_match.specs.inner.Refused.{PathRefuses, PathsRefuse, looks_at_kind, names_target}
use Rattle.xslt_match.specs.Kept.{last_step}
use Rattle.xslt_match.specs.Matching.{matching, path_matches, some_path}
use Rattle.xslt_match.specs.Names.{HoldsNames, pattern_names, step_names}
use Rattle.xslt_match.specs.Refusing.{IsOfClass, Refuses, names_up}
use Rattle.xslt_ways.specs.Ways.{is_anywhere}
use Rattle.xslt_match.proofs.Chaining.{chains_elsewhere, refused_ends}
use Rattle.xslt_match.proofs.Keeping.{not_true}
use Rattle.xslt_match.proofs.KnownNames.{by_its_name}
use Rattle.xslt_match.proofs.OnePath.{names_alone, not_principal}
use Rattle.xslt_match.proofs.NameReads.{no-name}
use Rattle.xslt_match.proofs.Recording.{elements_alone, holds_fewer, steps_up, up_both, up_covered}

-- What two nodes of a class have in common

module _ (C : Contents) (class : NodeClass) (n m : ℕ) (here : IsOfClass C class n) (there : IsOfClass C class m) where
  pub kind_alike : kind_of C.nodes m ≡ kind_of C.nodes n
  kind_alike = there.kind ∙ sym here.kind

  -- a test of the names of elements refuses both where it refuses one
  name_refused : (axis : Axis) (t : NodeTest) → is_by_name t ≡ true → is_principal axis (Some kinds.Element) ≡ true →
      passes C.nodes axis t n ≡ false → passes C.nodes axis t m ≡ false
  name_refused axis t by_name of_elements refused = by (is_element (kind_of C.nodes n)) refl
    where
      by : (b : Bool) → is_element (kind_of C.nodes n) ≡ b → passes C.nodes axis t m ≡ false
      by true is =
          let element : is_element (Some class.kind) ≡ true = ap is_element (sym here.kind) ∙ is in
          by_its_name C.nodes m axis t by_name
          ∙ ap₂ (λ k name. is_principal axis k && named name (accepts t)) kind_alike (there.name element ∙ sym (here.name element))
          ∙ sym (by_its_name C.nodes n axis t by_name) ∙ refused
      by false is = not_principal C.nodes m axis t by_name (elements_alone axis of_elements (kind_of C.nodes m) ∙ ap is_element kind_alike ∙ is)

  -- and so does one that looks at their kind alone
  kind_refused : (axis : Axis) (t : NodeTest) → looks_at_kind axis t (kind_of C.nodes n) ≡ true → passes C.nodes axis t n ≡ false → passes C.nodes axis t m ≡ false
  kind_refused axis Any looks refused = refused
  kind_refused axis Star looks refused = ap (is_principal axis) kind_alike ∙ refused
  kind_refused axis (InNamespace uri) looks refused =
      not_principal C.nodes m axis (InNamespace uri) refl (ap (is_principal axis) kind_alike ∙ not_true (is_principal axis (kind_of C.nodes n)) looks)
  kind_refused axis (Named uri local) looks refused =
      not_principal C.nodes m axis (Named uri local) refl (ap (is_principal axis) kind_alike ∙ not_true (is_principal axis (kind_of C.nodes n)) looks)
  kind_refused axis Text looks refused = ap is_text kind_alike ∙ refused
  kind_refused axis Comment looks refused = ap is_comment kind_alike ∙ refused
  kind_refused axis Pi looks refused = ap is_instruction kind_alike ∙ refused
  kind_refused axis (PiNamed target) looks refused = absurd (true≢false (sym looks))

-- The last of a path's steps

pub last_named : (ss : List TypedPatternStepTree) (s : TypedPatternStepTree) → last_step ss ≡ Some s → all_named ss ≡ true → is_named s ≡ true
last_named [] s ends all = absurd (cc)
last_named (r ∷ []) s ends all = subst (λ o. IfSome o (λ x. is_named x ≡ true)) ends (and_parts (is_named r) true all).0
last_named (r ∷ t ∷ ss) s ends all = last_named (t ∷ ss) s ends (and_parts (is_named r) (all_named (t ∷ ss)) all).1

last_there : (ss : List TypedPatternStepTree) (s : TypedPatternStepTree) → last_step ss ≡ Some s → 0 < length ss
last_there [] s ends = absurd (cc)
last_there (r ∷ ss) s ends = omega (arith)

-- a path that ends at a test that refuses the node finds no chain to it
none_ends : (T : Table) (L : Lets) (n : ℕ) (p : TypedPathTree) (s : TypedPatternStepTree) → last_step p.steps ≡ Some s → passes T s.axis s.test n ≡ false →
    path_matches T L n p ≡ done false
none_ends T L n p s ends refused =
    chains_elsewhere T n L p.steps _ _ (refused_ends T n p.steps (last_there p.steps s ends) (subst (λ o. IfSome o (λ x. passes T x.axis x.test n ≡ false)) (sym ends) refused))

-- Paths that refuse all nodes of a class

-- one whose only step looks at nothing but their kind
pub kind_refuses : (C : Contents) (n : ℕ) (p : TypedPathTree) (s : TypedPatternStepTree) → p.steps ≡ s ∷ [] → looks_at_kind s.axis s.test (kind_of C.nodes n) ≡ true →
    passes C.nodes s.axis s.test n ≡ false → PathRefuses C p n 0
kind_refuses C n p s alone looks refused L class m here there =
    let kinds_looked : looks_at_kind s.axis s.test (kind_of C.nodes m) ≡ true = ap (looks_at_kind s.axis s.test) (kind_alike C class n m here there) ∙ looks in
    record {
      none = none_ends C.nodes L m p s (ap last_step alone) (kind_refused C class n m here there s.axis s.test looks refused);
      read = λ held. ap (note_all held) (ap (step_names C.nodes m) alone ∙ no_names (is_by_name s.test) refl kinds_looked);
    }
  where
    no_names : (b : Bool) → is_by_name s.test ≡ b → looks_at_kind s.axis s.test (kind_of C.nodes m) ≡ true → step_names C.nodes m (s ∷ []) ≡ []
    no_names true by_name kinds_looked =
        names_alone C.nodes m s by_name
        ∙ no-name C.nodes s.axis m (not_true (is_principal s.axis (kind_of C.nodes m)) (sym (ap (λ b. if b then not (is_principal s.axis (kind_of C.nodes m)) else not (names_target s.test)) by_name) ∙ kinds_looked))
    no_names false by_kind kinds_looked = ap (λ b. if b then map cell (names_on C.nodes s.axis (m ∷ [])) else []) by_kind

-- one whose steps look at the names of elements, each at one place
pub name_refuses : (C : Contents) (n : ℕ) (p : TypedPathTree) (s : TypedPatternStepTree) → last_step p.steps ≡ Some s → all_named p.steps ≡ true →
    passes C.nodes s.axis s.test n ≡ false → PathRefuses C p n (length p.steps)
name_refuses C n p s ends all refused L class m here there =
    let named = and_parts (is_by_name s.test) (not (is_anywhere s.join) && is_principal s.axis (Some kinds.Element)) (last_named p.steps s ends all) in
    let of_elements = and_parts (not (is_anywhere s.join)) (is_principal s.axis (Some kinds.Element)) named.1 in
    record {
      none = none_ends C.nodes L m p s ends (name_refused C class n m here there s.axis s.test named.0 of_elements.1 refused);
      read = λ held. ap (note_all held) (steps_up C.nodes m p.steps all);
    }

-- no path at all
pub none_refuses : (C : Contents) (n : ℕ) → PathsRefuse C [] n 0
none_refuses C n L class m here there = record { none = refl; read = λ held. refl }

-- one before others
pub more_refuse : (C : Contents) (n : ℕ) (p : TypedPathTree) (ps : List TypedPathTree) (first later levels : ℕ) → levels ≡ max later first →
    PathRefuses C p n first → PathsRefuse C ps n later → PathsRefuse C (p ∷ ps) n levels
more_refuse C n p ps first later levels greater path paths L class m here there =
    let T = C.nodes in
    let a = path L class m here there in
    let b = paths L class m here there in
    record {
      none = ap (λ k. bind k (λ x. bind (some_path T L m ps) (λ y. done (x || y)))) a.none ∙ bind-done false (λ x. bind (some_path T L m ps) (λ y. done (x || y)))
          ∙ ap (λ k. bind k (λ y. done (false || y))) b.none ∙ bind-done false (λ y. done (false || y));
      read = λ held.
          note_all-append held (step_names T m p.steps) (pattern_names T m ps)
          ∙ ap (λ h. note_all h (pattern_names T m ps)) (a.read held)
          ∙ b.read (note_all held (names_up T m first))
          ∙ up_both T m first later levels held (omega (arith, greater));
    }

-- then the pattern refuses them
pub refuses_alike : (C : Contents) (n : ℕ) (ps : List TypedPathTree) (levels : ℕ) → PathsRefuse C ps n levels →
    (L : Lets) (class : NodeClass) (m : ℕ) → IsOfClass C class n → IsOfClass C class m → Refuses C.nodes L ps levels m
refuses_alike C n ps levels paths L class m here there = λ held count.
    let T = C.nodes in
    let refused = paths L class m here there in
    let now = note_all held (names_up T m levels) in
    ran_ticked refl
    (ran_all_reading (pattern_names T m ps)
    (subst (λ r. Ran (some_path T L m ps) (Ok false) r now (count + 1) (count + 1)) (sym (refused.read held)) (ran_alike refused.none (ran_done false now (count + 1)))))

-- where the names are held, that changes nothing
pub refuses_held : (T : Table) (L : Lets) (ps : List TypedPathTree) (levels held_levels n : ℕ) (held : Recorded) (count : ℕ) → levels ≤ held_levels → HoldsNames T n held_levels held →
    Refuses T L ps levels n → Ran (matching T L ps n) (Ok false) held held count (count + 1)
refuses_held T L ps levels held_levels n held count less holds refuses =
    subst (λ r. Ran (matching T L ps n) (Ok false) held r count (count + 1)) (up_covered T n levels held (holds_fewer T n held_levels levels held less holds)) (refuses held count)
