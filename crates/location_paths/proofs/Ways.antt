-- The steps of a location lead down to its node.
use Rattle.std.proofs.Common.{◌∙◌, ◌≡◌, ◌≢◌, ℕ, zero, suc, ◌+◌, ◌-◌, ◌<◌, ◌≤◌, ◌==◌, Bool, true, false, List, [], ◌∷◌, ◌++◌, append-nil, append_assoc, eq-eqb, length, length-append, Option, None, Some, codes, if◌then◌else◌, ⊎_elim, refl, ap, sym, subst, arith}
use Rattle.std.specs.List.{filter, flat_map, slice_get}
use Rattle.std.proofs.lemmas.Bool.{eqb-true, cases_eq, or_cases}
use Rattle.std.proofs.lemmas.Grind.{flat_map-append}
use Rattle.doc_tree.specs.Kinds.{can_be_kid, holds_kids, is_kind}
use Rattle.doc_tree.specs.Laws.{WellFormed, Ordered, HasWaysUp}
use Rattle.doc_tree.specs.Lists.{mem}
use Rattle.doc_tree.specs.Table.{Table, attrs_of, is_live, kids_of, kind_of, parent_of}
use Rattle.doc_tree.specs.Walks.{above, ancestors, below, order}
use Rattle.doc_tree.specs.kind.Kind.{Kind}
use Rattle.doc_tree.specs.kind.Kind.TheVariants.{Root, Element, Attribute, Text, Comment, Pi}
use Rattle.doc_locations.specs.Locations.{has_kind, kid_step, kids_of_parent, location_of, place_among, place_of, step_by, step_of, steps_of}
use Rattle.doc_locations.proofs.ApartLemmas.{kinded}
use Rattle.doc_locations.proofs.LocationLemmas.{steps-above}
use Rattle.doc_locations.proofs.PlaceLemmas.{mem-append, same_kind}
use Rattle.location_ways.proofs.Lists.{Placed, placed}
use Rattle.edit_script.specs.Paths as script
use Rattle.edit_script.specs.Paths.{onto_steps, path_of}
use Rattle.edit_script.specs.declared.command.PathStep.{PathStep}
use Rattle.edit_commands.specs.Paths.{kids_of_kind, led_from, node_named}
use Rattle.location_paths.specs.LocationPaths.{IsPathTo, LocationsArePaths}
use Rattle.location_paths.proofs.Steps.{step, step_read, step_text, step_unslashed, test_of}
use Rattle.location_paths.proofs.Texts.{NoneSlashed, cut_apart, none-last, slashed}

-- the steps to a node are texts that are read as a path to it
record HasPath (T : Table) (n : ℕ) : Type 0 where
  texts : List (List ℕ)
  path : List PathStep
  spelled : steps_of T (above T n) ≡ slashed texts
  unslashed : NoneSlashed texts
  read : script.steps_of texts ≡ Some path
  leads : node_named T path ≡ Some n

-- one step more
steps-last : (texts : List (List ℕ)) (path : List PathStep) (text : List ℕ) (last : PathStep) → script.steps_of texts ≡ Some path → script.step_of text ≡ Some last →
    script.steps_of (texts ++ text ∷ []) ≡ Some (path ++ last ∷ [])
steps-last [] path text last read is =
    let none : [] ≡ path = cc in
    ap (λ (s : Option PathStep). onto_steps s (Some [])) is ∙ ap (λ (p : List PathStep). Some (p ++ last ∷ [])) none
steps-last (first ∷ texts) path text last read is =
    by (script.step_of first) (script.steps_of texts) refl refl read (λ (rest : List PathStep) (more : script.steps_of texts ≡ Some rest). steps-last texts rest text last more is)
  where
    by : (s : Option PathStep) (rest : Option (List PathStep)) → script.step_of first ≡ s → script.steps_of texts ≡ rest → onto_steps s rest ≡ Some path →
        ((rest : List PathStep) → script.steps_of texts ≡ Some rest → script.steps_of (texts ++ text ∷ []) ≡ Some (rest ++ last ∷ [])) →
        onto_steps (script.step_of first) (script.steps_of (texts ++ text ∷ [])) ≡ Some (path ++ last ∷ [])
    by None rest one more whole on = absurd (cc)
    by (Some s) None one more whole on = absurd (cc)
    by (Some s) (Some rest) one more whole on =
        let path_is : s ∷ rest ≡ path = cc in
        ap (λ (o : Option PathStep). onto_steps o (script.steps_of (texts ++ text ∷ []))) one
        ∙ ap (λ (o : Option (List PathStep)). onto_steps (Some s) o) (on rest more)
        ∙ ap (λ (p : List PathStep). Some (p ++ last ∷ [])) path_is

led-none : (T : Table) (path : List PathStep) → led_from T None path ≡ None
led-none T [] = refl
led-none T (s ∷ path) = refl

led-last : (T : Table) (from : Option ℕ) (path : List PathStep) (last : PathStep) (p : ℕ) → led_from T from path ≡ Some p → led_from T from (path ++ last ∷ []) ≡ led_from T (Some p) (last ∷ [])
led-last T None path last p led = absurd (let lost : None ≡ Some p = sym (led-none T path) ∙ led in cc)
led-last T (Some n) [] last p led = let same : n ≡ p = cc in ap (λ (m : ℕ). led_from T (Some m) (last ∷ [])) same
led-last T (Some n) (s ∷ path) last p led = led-last T (slice_get (kids_of_kind T n s.kind) (s.index - 1)) path last p led

-- the step to a kid is that of its kind
kid_step_of : (T : Table) (n : ℕ) (kind : Kind) → kind_of T n ≡ Some kind → can_be_kid (Some kind) ≡ true → step_of T n ≡ 47 ∷ step_text kind (place_of T kind n)
kid_step_of T n Root is kid = absurd (cc)
kid_step_of T n Element is kid = ap (step_by T n) is
kid_step_of T n Attribute is kid = absurd (cc)
kid_step_of T n Text is kid = ap (step_by T n) is
kid_step_of T n Comment is kid = ap (step_by T n) is
kid_step_of T n Pi is kid = ap (step_by T n) is

slashed-last : (texts : List (List ℕ)) (text : List ℕ) → slashed (texts ++ text ∷ []) ≡ slashed texts ++ 47 ∷ text
slashed-last [] text = ap (λ (t : List ℕ). 47 ∷ t) (append-nil text)
slashed-last (first ∷ texts) text = ap (λ (t : List ℕ). (47 ∷ first) ++ t) (slashed-last texts text) ∙ sym (append_assoc (47 ∷ first) (slashed texts) (47 ∷ text))

module _ (T : Table) (formed : WellFormed T) (ordered : Ordered T) (ways : HasWaysUp T) where
  -- no fewer nodes stand below kids than there are kids
  kids_below : (kids : List ℕ) → length kids ≤ length (flat_map (below T) kids)
  kids_below [] = omega arith
  kids_below (k ∷ kids) = omega (arith, kids_below kids, ap length (ordered.below_at k), length-append (below T k) (flat_map (below T) kids))

  kids_few : (x : ℕ) → is_live T x ≡ true → length (kids_of T x) ≤ 262144
  kids_few x live =
      let there = ordered.below_in_order x live in
      let few : length (order T) ≤ 262144 = formed.few_nodes in
      omega (
        arith,
        few,
        ap length there.2,
        length-append there.0 (below T x ++ there.1),
        length-append (below T x) there.1,
        ap length (ordered.below_at x),
        length-append (attrs_of T x) (flat_map (below T) (kids_of T x)),
        kids_below (kids_of T x),
      )

  -- a node that is no attribute stands among the kids of its parent
  is_kid : (n p : ℕ) → parent_of T n ≡ Some p → (kind_of T n ≡ Some Attribute → ⊥) → mem n (kids_of T p) ≡ true
  is_kid n p up own =
      ⊎_elim (λ (e : mem n (attrs_of T p) ≡ true). absurd (own (formed.attribute_kind p n e))) (λ (e : mem n (kids_of T p) ≡ true). e)
      (or_cases (mem n (attrs_of T p)) (mem n (kids_of T p)) (sym (mem-append n (attrs_of T p) (kids_of T p)) ∙ formed.is_listed n p up))

  -- from the parent to the node
  on_to : (n p : ℕ) → parent_of T n ≡ Some p → (kind_of T n ≡ Some Attribute → ⊥) → HasPath T p → HasPath T n
  on_to n p up own way = record {
    texts = way.texts ++ text ∷ [];
    path = way.path ++ last ∷ [];
    spelled =
        ap (λ (steps : List ℕ). steps ++ step_of T n) (sym (steps-above T ways n p up) ∙ way.spelled)
        ∙ ap (λ (own : List ℕ). slashed way.texts ++ own) (kid_step_of T n kind kinds.1 can) ∙ sym (slashed-last way.texts text);
    unslashed = none-last way.texts text way.unslashed (step_unslashed kind place can few);
    read = steps-last way.texts way.path text last way.read (step_read kind place can some few);
    leads = led-last T (Some 0) way.path last p way.leads ∙ found;
  }
    where
      kinds : (kind : Kind) × (kind_of T n ≡ Some kind)
      kinds = kinded T n p up

      kind : Kind
      kind = kinds.0

      listed : mem n (kids_of T p) ≡ true
      listed = is_kid n p up own

      can : can_be_kid (Some kind) ≡ true
      can = subst (λ (k : Option Kind). can_be_kid k ≡ true) kinds.1 (formed.kid_kind p n listed)

      place : ℕ
      place = place_of T kind n

      text : List ℕ
      text = step_text kind place

      last : PathStep
      last = step kind place

      stands : Placed (has_kind T kind) n (kids_of T p)
      stands = placed (has_kind T kind) n (kids_of T p) listed (ap (is_kind kind) kinds.1 ∙ same_kind kind)

      place_is : place ≡ suc stands.before
      place_is = ap (λ (parent : Option ℕ). place_among (has_kind T kind) n (kids_of_parent T parent)) up ∙ stands.place

      some : 0 < place
      some = omega (arith, place_is)

      few : place ≤ 262144
      few = omega (arith, place_is, stands.few, kids_few p (ways.parent_live n p up))

      found : led_from T (Some p) (last ∷ []) ≡ Some n
      found =
          let index : place - 1 ≡ stands.before = omega (arith, place_is) in
          ap (λ (i : ℕ). led_from T (slice_get (kids_of_kind T p kind) i) []) index ∙ ap (λ (o : Option ℕ). led_from T o []) stands.stands

  -- the root has no steps
  at_root : HasPath T 0
  at_root = record {
    texts = [];
    path = [];
    spelled =
        ap (λ (ns : List ℕ). steps_of T (0 ∷ ns)) (ways.no_ancestors 0 formed.root_parent)
        ∙ ap (step_by T 0) formed.root_kind;
    unslashed = tt;
    read = refl;
    leads = refl;
  }

  holds_is_kid : (kind : Option Kind) → holds_kids kind ≡ true → kind ≡ Some Attribute → ⊥
  holds_is_kid kind holds is = absurd (let lost : holds_kids (Some Attribute) ≡ true = subst (λ (k : Option Kind). holds_kids k ≡ true) is holds in cc)

  path_within : (most n : ℕ) → length (ancestors T n) ≤ most → is_live T n ≡ true → (kind_of T n ≡ Some Attribute → ⊥) → HasPath T n
  path_within zero n within live own = ⊎_elim
      (λ (root : n ≡ 0). subst (HasPath T) (sym root) at_root)
      (λ (below : n ≢ 0).
      let parent = ways.has_parent n live below in
      absurd (omega (arith, within, ap length (ways.ancestors_at n parent.0 parent.1))))
      (cases_eq n 0)
  path_within (suc m) n within live own = ⊎_elim
      (λ (root : n ≡ 0). subst (HasPath T) (sym root) at_root)
      (λ (below : n ≢ 0).
      let parent = ways.has_parent n live below in
      on_to n parent.0 parent.1 own
      (path_within m parent.0 (omega (arith, within, ap length (ways.ancestors_at n parent.0 parent.1))) (ways.parent_live n parent.0 parent.1)
      (holds_is_kid (kind_of T parent.0) (ways.parent_holds n parent.0 parent.1))))
      (cases_eq n 0)

  -- the texts of steps are read as a path
  whole : (n : ℕ) → HasPath T n → IsPathTo T (location_of T n) n
  whole n way = by (n == 0) refl
    where
      by : (root : Bool) → (n == 0) ≡ root → IsPathTo T (if root then codes "/" else steps_of T (above T n)) n
      by true is = record { path = []; read = refl; leads = ap (λ (m : ℕ). Some m) (sym (eqb-true n 0 is)) }
      by false is = record { path = way.path; read = ap path_of way.spelled ∙ parsed way.texts way.path way.unslashed way.read way.leads; leads = way.leads }
        where
          parsed : (texts : List (List ℕ)) (path : List PathStep) → NoneSlashed texts → script.steps_of texts ≡ Some path → node_named T path ≡ Some n → path_of (slashed texts) ≡ Some path
          parsed [] path none read leads = absurd (
              let none_is : [] ≡ path = cc in
              let zero_is : Some 0 ≡ Some n = subst (λ (p : List PathStep). node_named T p ≡ Some n) (sym none_is) leads in
              let root : n ≡ 0 = cc in
              let same : (n == 0) ≡ true = eq-eqb n 0 root in
              cc
              )
          parsed ([] ∷ texts) path none read leads = absurd (cc)
          parsed ((b ∷ text) ∷ texts) path none read leads = ap script.steps_of (cut_apart (b ∷ text) texts none.0 none.1) ∙ read

pub locations-are-paths : LocationsArePaths
locations-are-paths T formed ordered ways n live own = whole T formed ordered ways n (path_within T formed ordered ways (length (ancestors T n)) n (omega arith) live own)
