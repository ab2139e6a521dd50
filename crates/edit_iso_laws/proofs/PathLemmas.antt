-- Where a path, a prefix or the name of an attribute leads in trees that are the same.
use Rattle.std.proofs.Common.{◌≡◌, ℕ, ◌-◌, zero, suc, Bool, true, false, cond, ◌&&◌, List, [], ◌∷◌, map, Option, None, Some, refl, sym, ap, ◌∙◌}
use Rattle.std.specs.Prelude.{bytes_eq, filter, find, option_map, slice_get}
use Rattle.std.specs.List.{flat_map}
use Rattle.doc_tree.specs.kind.Kind.{Kind}
use Rattle.doc_tree.specs.Kinds.{is_kind}
use Rattle.doc_tree.specs.NameTests.{attribute_in, attribute_meant, attribute_named, has_name, named}
use Rattle.doc_tree.specs.Scope.{attribute_namespace, scope_at}
use Rattle.doc_tree.specs.Table.{Table, attrs_of, decls_at, decls_of, kids_of, kind_at, kind_of, name_at}
use Rattle.doc_tree.specs.Walks.{above}
use Rattle.edit_script.specs.declared.command.PathStep.{PathStep}
use Rattle.edit_commands.specs.Paths.{kids_of_kind, led_from, node_named}
use Rattle.tree_iso.specs.Renumbering.{Hangs, RenumberedTreesHang, Renumbers}
use Rattle.tree_iso.proofs.NumberLemmas.{filter-moved, told-moved}
use Rattle.edit_iso_laws.specs.PathsMove.{PathsMove}

-- the number at a place, and the first that passes a test
module _ (f : ℕ → ℕ) where
  get-moved : (ns : List ℕ) (i : ℕ) → slice_get (map f ns) i ≡ option_map f (slice_get ns i)
  get-moved [] i = refl
  get-moved (n ∷ ns) zero = refl
  get-moved (n ∷ ns) (suc i) = get-moved ns i

  find-moved : (p q : ℕ → Bool) → ((n : ℕ) → q (f n) ≡ p n) → (ns : List ℕ) → find q (map f ns) ≡ option_map f (find p ns)
  find-moved p q agree [] = refl
  find-moved p q agree (n ∷ ns) = rw (agree n) (by (p n) (find-moved p q agree ns))
    where
      by : (b : Bool) → find q (map f ns) ≡ option_map f (find p ns) → cond b (Some (f n)) (find q (map f ns)) ≡ option_map f (cond b (Some n) (find p ns))
      by true rest = refl
      by false rest = rest

module _ (f : ℕ → ℕ) (T U : Table) (r : Renumbers f T U) where
  kids-moved : (n : ℕ) (kind : Kind) → kids_of_kind U (f n) kind ≡ map f (kids_of_kind T n kind)
  kids-moved n kind =
      ap (λ ks. filter (λ k. is_kind kind (kind_of U k)) ks) (r.kids n)
      ∙ filter-moved f (λ k. is_kind kind (kind_of T k)) (λ k. is_kind kind (kind_of U k)) (λ k. ap (λ o. is_kind kind (kind_at o)) (r.content k)) (kids_of T n)

  led-moved : (o : Option ℕ) (steps : List PathStep) → led_from U (option_map f o) steps ≡ option_map f (led_from T o steps)
  led-moved None steps = refl
  led-moved (Some n) [] = refl
  led-moved (Some n) (step ∷ steps) =
      ap (λ o. led_from U o steps) (ap (λ ks. slice_get ks (step.index - 1)) (kids-moved n step.kind) ∙ get-moved f (kids_of_kind T n step.kind) (step.index - 1))
      ∙ led-moved (slice_get (kids_of_kind T n step.kind) (step.index - 1)) steps

  attribute-moved : (n : ℕ) (uri local : List ℕ) → attribute_named U (f n) uri local ≡ option_map f (attribute_named T n uri local)
  attribute-moved n uri local =
      ap (find (λ a. has_name U a uri local)) (r.attributes n)
      ∙ find-moved f (λ a. has_name T a uri local) (λ a. has_name U a uri local)
      (λ a. ap (λ o. named (name_at o) (λ name. bytes_eq name.uri uri && bytes_eq name.local local)) (r.content a)) (attrs_of T n)

  module _ (hangs : Hangs f T U) where
    path-moved : (path : List PathStep) → node_named U path ≡ option_map f (node_named T path)
    path-moved path = ap (λ n. led_from U (Some n) path) (sym hangs.root) ∙ led-moved (Some 0) path

    pub scope-moved : (n : ℕ) → scope_at U (f n) ≡ scope_at T n
    scope-moved n =
        ap (λ ns. flat_map (decls_of U) (f n ∷ ns)) (hangs.ancestors_go n)
        ∙ told-moved f (decls_of T) (decls_of U) (above T n) (λ k h. ap decls_at (r.content k))

    meant-moved : (n : ℕ) (prefix local : List ℕ) → attribute_meant U (f n) prefix local ≡ option_map f (attribute_meant T n prefix local)
    meant-moved n prefix local =
        ap (λ scope. attribute_in U (f n) (attribute_namespace scope prefix) local) (scope-moved n)
        ∙ by (attribute_namespace (scope_at T n) prefix)
      where
        by : (o : Option (List ℕ)) → attribute_in U (f n) o local ≡ option_map f (attribute_in T n o local)
        by None = refl
        by (Some uri) = attribute-moved n uri local

pub paths-move : RenumberedTreesHang → PathsMove
paths-move hang = record {
  path = λ f T U path t u r. path-moved f T U r (hang f T U t u r) path;
  scope = λ f T U n t u r. scope-moved f T U r (hang f T U t u r) n;
  attribute = λ f T U n uri local r. attribute-moved f T U r n uri local;
  meant = λ f T U n prefix local t u r. meant-moved f T U r (hang f T U t u r) n prefix local;
}
