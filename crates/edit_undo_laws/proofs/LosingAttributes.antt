-- Attributes that go one after another, the first of some up to the last.
use Rattle.std.proofs.Common.{◌≡◌, ℕ, ◌+◌, ◌≤◌, List, [], ◌∷◌, ◌++◌, length, map, None, Some, refl, sym, ap, ap₂, ◌∙◌, subst, arith}
use Rattle.std.specs.Option.{option_or}
use Rattle.doc_table.proofs.ListLemmas.{In, occurs-append, occurs-head}
use Rattle.doc_table.proofs.TreeLaws.{well-formed}
use Rattle.doc_table.specs.inner.Sound.{Formed, count_live, text_held}
use Rattle.doc_edits.specs.Changes.{removed}
use Rattle.doc_tree.specs.Edited.{attribute_unset, without_attribute}
use Rattle.doc_tree.specs.NameTests.{attribute_meant}
use Rattle.doc_tree.specs.QNames.{written_in}
use Rattle.doc_tree.specs.Refusals.{absence_refusal, unsetting_refusal}
use Rattle.doc_tree.specs.Table.{Contents, Table, attrs_of, content_of, name_at, name_of, value_at, value_of}
use Rattle.doc_undo_laws.specs.Undoing.{lost}
use Rattle.doc_undo_laws.proofs.AttributesBack.{loss-content, loss-list}
use Rattle.name_scopes.specs.QNames.{local_part, prefix_part}
use Rattle.edit_script.specs.declared.command.Command.{Command}
use Rattle.edit_script.specs.declared.command.PathStep.{PathStep}
use Rattle.edit_commands.specs.Commands.{IsEdited, command_refusal, refusal_where}
use Rattle.edit_iso_laws.specs.CommandsMove.{DoneInTurn, then}
use Rattle.edit_paths.specs.Entries.{attribute_goes}
use Rattle.edit_undo_laws.proofs.AttributeSteps.{Holds, holds-less, length-less, nodes-less, text-less}
use Rattle.edit_undo_laws.proofs.AttributesFound.{meant-is}
use Rattle.edit_undo_laws.proofs.OwnAttributes.{IsOwn, own-free, own-known, pair_of}

-- the bytes of some values
abbrev pub texts_of : Table → List ℕ → ℕ
texts_of T [] = 0
texts_of T (a ∷ ats) = length (value_of T a) + texts_of T ats

-- some are gone, and the rest stand last
pub record Losing (T : Table) (n : ℕ) (path : List PathStep) (front ats rest : List ℕ) (V : Table) : Type 0 where
  pub holds : Holds T n path V
  pub list : attrs_of V n ≡ front ++ rest
  pub same : (b : ℕ) → In b (front ++ rest) → content_of V b ≡ content_of T b
  pub numbers : length V ≡ length T
  pub nodes : count_live V + length ats ≤ count_live T + length rest
  pub text : text_held V + texts_of T ats ≤ text_held T + texts_of T rest

-- a table with other names and cap beside it
abbrev pub with_nodes : Contents → Table → Contents
with_nodes base V = record base { nodes = V }

module _ (T : Table) (n : ℕ) (path : List PathStep) (front ats : List ℕ) where
  module _ (V : Table) (b : ℕ) (rest : List ℕ) (l : Losing T n path front ats (b ∷ rest) V) where
    v : Formed V
    v = l.holds.formed

    first : In b (front ++ b ∷ rest)
    first = omega (arith, occurs-append b front (b ∷ rest), occurs-head b rest)

    pub among : In b (attrs_of V n)
    among = subst (In b) (sym l.list) first

    value : length (value_of V b) ≡ length (value_of T b)
    value = ap (λ c. length (value_at c)) (l.same b first)

    pub losing-on : Losing T n path front ats rest (removed V b)
    losing-on = record {
      holds = holds-less T n path V l.holds b front rest l.list;
      list = loss-list V b n front rest v l.list;
      same = λ m h. loss-content V b n front rest v l.list m h ∙ l.same m (omega (arith, h, occurs-append m front rest, occurs-append m front (b ∷ rest)));
      numbers = length-less V v b n among ∙ l.numbers;
      nodes = omega (arith, nodes-less V v b n among, l.nodes);
      text = omega (arith, text-less V v b n among, l.text, value);
    }

    -- the command
    module _ (is : IsOwn T n b) where
      abbrev written : List ℕ
      written = written_in (name_of T b)

      meant : attribute_meant V n (prefix_part written) (local_part written) ≡ Some b
      meant =
          ap₂ (attribute_meant V n) is.prefix is.local
          ∙ meant-is V n b (pair_of T b).0.prefix (pair_of T b).0 (well-formed V v) among (ap name_at (l.same b first) ∙ is.name)
          (own-known T n b is V l.holds.kind l.holds.scope)

      free : unsetting_refusal V n (prefix_part written) (local_part written) ≡ None
      free = ap₂ option_or (own-free T n b is V l.holds.kind l.holds.scope) (ap absence_refusal meant)

      gone : attribute_unset V n (prefix_part written) (local_part written) ≡ removed V b
      gone = ap (without_attribute V) meant

      pub goes-free : (base : Contents) → command_refusal (with_nodes base V) (attribute_goes path T b) ≡ None
      goes-free base = ap (refusal_where (with_nodes base V) (attribute_goes path T b)) l.holds.named ∙ free

      pub goes : IsEdited V (attribute_goes path T b) (removed V b)
      goes = record { node = n; named = l.holds.named; edited = sym gone }

  pub lost-all : (rest : List ℕ) (V : Table) → Losing T n path front ats rest V → Losing T n path front ats [] (lost rest V)
  lost-all [] V l = l
  lost-all (b ∷ rest) V l = lost-all rest (removed V b) (losing-on V b rest l)

  -- so the commands are done
  pub losing-done : (base end : Contents) (more : List Command) → ((b : ℕ) → In b ats → IsOwn T n b) → (rest : List ℕ) (V : Table) → ((b : ℕ) → In b rest → In b ats) →
      Losing T n path front ats rest V → DoneInTurn (with_nodes base (lost rest V)) more end → DoneInTurn (with_nodes base V) (map (attribute_goes path T) rest ++ more) end
  losing-done base end more owns [] V inside l done = done
  losing-done base end more owns (b ∷ rest) V inside l done =
      then (with_nodes base V) (with_nodes base (removed V b)) end (attribute_goes path T b) (map (attribute_goes path T) rest ++ more)
      (goes-free V b rest l (owns b (inside b (occurs-head b rest))) base) (goes V b rest l (owns b (inside b (occurs-head b rest)))) refl
      (losing-done base end more owns rest (removed V b) (λ m h. inside m (omega (arith, h))) (losing-on V b rest l) done)
