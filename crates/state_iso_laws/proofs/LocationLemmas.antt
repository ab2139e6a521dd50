-- Locations where the nodes of a tree are renumbered: places among siblings and names stay.
use Rattle.std.proofs.Common.{◌≡◌, ℕ, ◌+◌, Bool, cond, eqb, List, [], ◌∷◌, ◌++◌, map, Option, None, Some, refl, sym, ap, ap₂, ◌∙◌}
use Rattle.std.specs.Prelude.{codes, option_map}
use Rattle.doc_tree.specs.kind.Kind.{Kind}
use Rattle.doc_tree.specs.kind.Kind.TheVariants.{Root, Element, Attribute, Text, Comment, Pi}
use Rattle.doc_tree.specs.Kinds.{is_kind}
use Rattle.doc_tree.specs.Table.{Table, kind_of, parent_of}
use Rattle.doc_tree.specs.Walks.{above}
use Rattle.doc_locations.specs.Locations.{attribute_step, has_kind, kid_step, kids_of_parent, location_of, place_among, place_of, step_by, step_of, steps_of}
use Rattle.tree_iso.specs.Renumbering.{Hangs, Renumbers, RenumberedTreesHang}
use Rattle.tree_iso.proofs.NumberLemmas.{eqb-moved}
use Rattle.xp_iso_laws.proofs.AxisLemmas.{kind-moved, name-moved}
use Rattle.state_iso_laws.specs.States.{LocationsStay}

place_among-moved : (f : ℕ → ℕ) → ((a b : ℕ) → f a ≡ f b → a ≡ b) → (p q : ℕ → Bool) → ((n : ℕ) → q (f n) ≡ p n) → (n : ℕ) (ms : List ℕ) →
    place_among q (f n) (map f ms) ≡ place_among p n ms
place_among-moved f apart p q agree n [] = refl
place_among-moved f apart p q agree n (m ∷ ms) =
    let here = agree m in
    let same = eqb-moved f apart m n in
    let rest = place_among-moved f apart p q agree n ms in
    λ i. cond (here i) 1 0 + cond (same i) 0 (rest i)

module _ (f : ℕ → ℕ) (T U : Table) (r : Renumbers f T U) (h : Hangs f T U) where
  kids-moved : (o : Option ℕ) → kids_of_parent U (option_map f o) ≡ map f (kids_of_parent T o)
  kids-moved None = refl
  kids-moved (Some p) = r.kids p

  place-moved : (kind : Kind) (n : ℕ) → place_of U kind (f n) ≡ place_of T kind n
  place-moved kind n =
      ap (λ (ms : List ℕ). place_among (has_kind U kind) (f n) ms) (ap (kids_of_parent U) (r.parent n) ∙ kids-moved (parent_of T n))
      ∙ place_among-moved f r.apart (has_kind T kind) (has_kind U kind) (λ m. ap (is_kind kind) (kind-moved f T U r h m)) n (kids_of_parent T (parent_of T n))

  step_by-moved : (n : ℕ) (o : Option Kind) → step_by U (f n) o ≡ step_by T n o
  step_by-moved n None = refl
  step_by-moved n (Some Root) = refl
  step_by-moved n (Some Element) = ap (kid_step (codes "*")) (place-moved Element n)
  step_by-moved n (Some Attribute) = ap attribute_step (name-moved f T U r h n)
  step_by-moved n (Some Text) = ap (kid_step (codes "text()")) (place-moved Text n)
  step_by-moved n (Some Comment) = ap (kid_step (codes "comment()")) (place-moved Comment n)
  step_by-moved n (Some Pi) = ap (kid_step (codes "processing-instruction()")) (place-moved Pi n)

  step-moved : (n : ℕ) → step_of U (f n) ≡ step_of T n
  step-moved n = ap (step_by U (f n)) (kind-moved f T U r h n) ∙ step_by-moved n (kind_of T n)

  steps-moved : (ns : List ℕ) → steps_of U (map f ns) ≡ steps_of T ns
  steps-moved [] = refl
  steps-moved (n ∷ ns) = ap₂ (λ (x y : List ℕ). x ++ y) (steps-moved ns) (step-moved n)

  location-moved : (n : ℕ) → location_of U (f n) ≡ location_of T n
  location-moved n =
      ap₂ (λ (b : Bool) (steps : List ℕ). cond b (codes "/") steps)
      (ap (eqb (f n)) (sym h.root) ∙ eqb-moved f r.apart n 0)
      (ap (λ (ns : List ℕ). steps_of U (f n ∷ ns)) (h.ancestors_go n) ∙ steps-moved (above T n))

pub locations-stay : RenumberedTreesHang → LocationsStay
locations-stay hang f T U n one other r = location-moved f T U r (hang f T U one other r) n
