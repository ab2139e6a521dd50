-- What the lines of a forest tell: its shape and the contents of its nodes, since each node but the root begins with a line of
-- its own, and an element ends with one.
use Rattle.std.proofs.Common.{◌≡◌, ℕ, ◌≤◌, Bool, true, false, List, [], ◌∷◌, ◌++◌, map, Option, None, Some, refl, sym, ap, ap₂, ◌∙◌, subst, arith, append_assoc}
use Rattle.std.specs.List.{flat_map}
use Rattle.doc_table.specs.declared.kind.Kind.TheVariants.{Attribute}
use Rattle.doc_table.specs.Lists.{mem}
use Rattle.doc_table.specs.Table.{Table, Name, Content, root, element, attribute, text, comment, instruction, attrs_of, content_of, kids_of, kind_at, kind_in, kind_of}
use Rattle.doc_table.specs.Kinds.{can_be_kid, holds_kids, is_element}
use Rattle.doc_table.specs.Lines.{Line, starts, declares, has_attribute, ends, has_text, has_comment, has_instruction, first_lines, last_lines, lines_at, opens, closes}
use Rattle.doc_table.specs.Laws.{WellFormed}
use Rattle.doc_table.specs.inner.Forest.{Forest, bare, tree, tops, Shows}
use Rattle.doc_table.proofs.ListLemmas.{In, In-mem, occurs-head}
use Rattle.doc_table.proofs.Telling.{told}
use Rattle.doc_table.proofs.Forests.{no_kids}

-- where a line stands: a declaration before an attribute, both before what begins a kid, and last what ends a node
abbrev pub rank : Line → ℕ
rank (starts name) = 1
rank (declares decl) = 3
rank (has_attribute name value) = 2
rank (ends name) = 0
rank (has_text characters) = 1
rank (has_comment characters) = 1
rank (has_instruction name characters) = 1

abbrev pub front : List Line → ℕ
front [] = 0
front (line ∷ lines) = rank line

-- a number with the content of an attribute
pub record IsPair (T : Table) (a : ℕ) : Type 0 where
  pub name : Name
  pub value : List ℕ
  pub is : content_of T a ≡ Some (attribute name value)

abbrev pub ArePairs : Table → List ℕ → Type 0
ArePairs T [] = Unit {0}
ArePairs T (a ∷ ats) = IsPair T a × ArePairs T ats

-- a number with the content of a kid, and with kids of its own only where it is an element
pub record IsNode (T : Table) (n : ℕ) (ats : List ℕ) (kids : Forest) : Type 0 where
  pub content : Content
  pub is : content_of T n ≡ Some content
  pub kid : can_be_kid (Some (kind_in content)) ≡ true
  pub leaf : is_element (Some (kind_in content)) ≡ false → kids ≡ bare
  pub pairs : ArePairs T ats

abbrev pub AreNodes : Table → Forest → Type 0
AreNodes T bare = Unit {0}
AreNodes T (tree n ats kids rest) = IsNode T n ats kids × AreNodes T kids × AreNodes T rest

front-first : (c : Content) → can_be_kid (Some (kind_in c)) ≡ true → (X : List Line) → front (first_lines c ++ X) ≡ 1
front-first root kid X = absurd (cc)
front-first (element name decls) kid X = refl
front-first (attribute name value) kid X = absurd (cc)
front-first (text characters) kid X = refl
front-first (comment characters) kid X = refl
front-first (instruction name characters) kid X = refl

front-last : (c : Content) (X : List Line) → front X ≤ 1 → front (last_lines c ++ X) ≤ 1
front-last root X h = h
front-last (element name decls) X h = omega arith
front-last (attribute name value) X h = h
front-last (text characters) X h = h
front-last (comment characters) X h = h
front-last (instruction name characters) X h = h

front-end : (c : Content) → is_element (Some (kind_in c)) ≡ true → (X : List Line) → front (last_lines c ++ X) ≡ 0
front-end root is X = absurd (cc)
front-end (element name decls) is X = refl
front-end (attribute name value) is X = absurd (cc)
front-end (text characters) is X = absurd (cc)
front-end (comment characters) is X = absurd (cc)
front-end (instruction name characters) is X = absurd (cc)

-- ends of one content cancel
end-same : (c : Content) (X Y : List Line) → last_lines c ++ X ≡ last_lines c ++ Y → X ≡ Y
end-same root X Y h = h
end-same (element name decls) X Y h = (cc)
end-same (attribute name value) X Y h = h
end-same (text characters) X Y h = h
end-same (comment characters) X Y h = h
end-same (instruction name characters) X Y h = h

-- declarations, and then a line that is none
decls-same : (ds es : List (List ℕ × List ℕ)) (X Y : List Line) → front X ≤ 2 → front Y ≤ 2 → map declares ds ++ X ≡ map declares es ++ Y → (ds ≡ es) × (X ≡ Y)
decls-same [] [] X Y fx fy h = (refl, h)
decls-same [] (e ∷ es) X Y fx fy h = absurd (omega (arith, fx, ap front h))
decls-same (d ∷ ds) [] X Y fx fy h = absurd (omega (arith, fy, ap front h))
decls-same (d ∷ ds) (e ∷ es) X Y fx fy h =
    let here : d ≡ e = (cc) in
    let after : map declares ds ++ X ≡ map declares es ++ Y = (cc) in
    let more : (ds ≡ es) × (X ≡ Y) = decls-same ds es X Y fx fy after in
    (ap₂ (λ (x : List ℕ × List ℕ) (xs : List (List ℕ × List ℕ)). x ∷ xs) here more.0, more.1)

-- the first lines of a kid tell its content
first-same : (c d : Content) → can_be_kid (Some (kind_in c)) ≡ true → can_be_kid (Some (kind_in d)) ≡ true → (X Y : List Line) → front X ≤ 2 → front Y ≤ 2 →
    first_lines c ++ X ≡ first_lines d ++ Y → (c ≡ d) × (X ≡ Y)
first-same (element name ds) (element other es) kc kd X Y fx fy h =
    let names : name ≡ other = (cc) in
    let after : map declares ds ++ X ≡ map declares es ++ Y = (cc) in
    let more : (ds ≡ es) × (X ≡ Y) = decls-same ds es X Y fx fy after in
    (ap₂ element names more.0, more.1)
first-same (text xs) (text ys) kc kd X Y fx fy h = let same : xs ≡ ys = (cc) in let after : X ≡ Y = (cc) in (ap text same, after)
first-same (comment xs) (comment ys) kc kd X Y fx fy h = let same : xs ≡ ys = (cc) in let after : X ≡ Y = (cc) in (ap comment same, after)
first-same (instruction name xs) (instruction other ys) kc kd X Y fx fy h =
    let names : name ≡ other = (cc) in
    let same : xs ≡ ys = (cc) in
    let after : X ≡ Y = (cc) in
    (ap₂ instruction names same, after)
first-same c d kc kd X Y fx fy h = absurd (cc)

module _ (T : Table) where
  pair-opens : (a : ℕ) (p : IsPair T a) → opens T a ≡ has_attribute p.name p.value ∷ []
  pair-opens a p = ap (lines_at first_lines) p.is

  front-pairs : (ats : List ℕ) → ArePairs T ats → (X : List Line) → front X ≤ 1 → front (flat_map (opens T) ats ++ X) ≤ 2
  front-pairs [] are X h = omega (arith, h)
  front-pairs (a ∷ ats) are X h =
      let same : front ((opens T a ++ flat_map (opens T) ats) ++ X) ≡ 2 = ap (λ (l : List Line). front ((l ++ flat_map (opens T) ats) ++ X)) (pair-opens a are.0) in
      omega (arith, same)

  -- a forest's lines in parts
  told-parts : (n : ℕ) (ats : List ℕ) (kids rest : Forest) (node : IsNode T n ats kids) (xs : List Line) →
      told (opens T) (closes T) (tree n ats kids rest) ++ xs
      ≡ first_lines node.content ++ (flat_map (opens T) ats ++ (told (opens T) (closes T) kids ++ (last_lines node.content ++ (told (opens T) (closes T) rest ++ xs))))
  told-parts n ats kids rest node xs =
      ap₂ (λ (o e : List Line). (((o ++ flat_map (opens T) ats) ++ (told (opens T) (closes T) kids ++ e)) ++ told (opens T) (closes T) rest) ++ xs)
      (ap (lines_at first_lines) node.is) (ap (lines_at last_lines) node.is)
      ∙ simp append_assoc

  front-told : (F : Forest) → AreNodes T F → (xs : List Line) → front xs ≤ 1 → front (told (opens T) (closes T) F ++ xs) ≤ 1
  front-told bare are xs h = h
  front-told (tree n ats kids rest) are xs h =
      let same : front (told (opens T) (closes T) (tree n ats kids rest) ++ xs) ≡ 1 =
      ap front (told-parts n ats kids rest are.0 xs) ∙ front-first are.0.content are.0.kid _ in
      omega (arith, same)

-- attributes with the same contents, one by one
abbrev pub AlikePairs : Table → Table → List ℕ → List ℕ → Type 0
AlikePairs T U [] [] = Unit {0}
AlikePairs T U [] (b ∷ bs) = ⊥
AlikePairs T U (a ∷ ats) [] = ⊥
AlikePairs T U (a ∷ ats) (b ∷ bs) = (content_of U b ≡ content_of T a) × AlikePairs T U ats bs

-- forests of one shape with the same contents, node by node
abbrev pub AlikeForests : Table → Table → Forest → Forest → Type 0
AlikeForests T U bare bare = Unit {0}
AlikeForests T U bare (tree m bs kids2 rest2) = ⊥
AlikeForests T U (tree n ats kids rest) bare = ⊥
AlikeForests T U (tree n ats kids rest) (tree m bs kids2 rest2) =
    (content_of U m ≡ content_of T n) × AlikePairs T U ats bs × AlikeForests T U kids kids2 × AlikeForests T U rest rest2

module _ (T U : Table) where
  pairs-same : (ats bs : List ℕ) → ArePairs T ats → ArePairs U bs → (X Y : List Line) → front X ≤ 1 → front Y ≤ 1 →
      flat_map (opens T) ats ++ X ≡ flat_map (opens U) bs ++ Y → AlikePairs T U ats bs × (X ≡ Y)
  pairs-same [] [] p q X Y fx fy h = (tt, h)
  pairs-same [] (b ∷ bs) p q X Y fx fy h =
      absurd (omega (arith, fx, ap front h, ap (λ (l : List Line). front ((l ++ flat_map (opens U) bs) ++ Y)) (pair-opens U b q.0)))
  pairs-same (a ∷ ats) [] p q X Y fx fy h =
      absurd (omega (arith, fy, ap front h, ap (λ (l : List Line). front ((l ++ flat_map (opens T) ats) ++ X)) (pair-opens T a p.0)))
  pairs-same (a ∷ ats) (b ∷ bs) p q X Y fx fy h =
      let told_a : (opens T a ++ flat_map (opens T) ats) ++ X ≡ has_attribute p.0.name p.0.value ∷ (flat_map (opens T) ats ++ X) =
      ap (λ (l : List Line). (l ++ flat_map (opens T) ats) ++ X) (pair-opens T a p.0) in
      let told_b : (opens U b ++ flat_map (opens U) bs) ++ Y ≡ has_attribute q.0.name q.0.value ∷ (flat_map (opens U) bs ++ Y) =
      ap (λ (l : List Line). (l ++ flat_map (opens U) bs) ++ Y) (pair-opens U b q.0) in
      let lines : has_attribute p.0.name p.0.value ∷ (flat_map (opens T) ats ++ X) ≡ has_attribute q.0.name q.0.value ∷ (flat_map (opens U) bs ++ Y) = sym told_a ∙ (h ∙ told_b) in
      let names : p.0.name ≡ q.0.name = (cc lines) in
      let values : p.0.value ≡ q.0.value = (cc lines) in
      let after : flat_map (opens T) ats ++ X ≡ flat_map (opens U) bs ++ Y = (cc lines) in
      let more : AlikePairs T U ats bs × (X ≡ Y) = pairs-same ats bs p.1 q.1 X Y fx fy after in
      ((q.0.is ∙ (ap Some (sym (ap₂ attribute names values)) ∙ sym p.0.is), more.0), more.1)

  -- the same forest but for its numbers, and the same of what is left of the lines
  pub record Same (F G : Forest) (xs ys : List Line) : Type 0 where
    pub forests : AlikeForests T U F G
    pub lines_left : xs ≡ ys

  abbrev pub Agree : Forest → Forest → Type 0
  Agree F G =
      AreNodes T F → AreNodes U G → (xs ys : List Line) → front xs ≡ 0 → front ys ≡ 0 →
      told (opens T) (closes T) F ++ xs ≡ told (opens U) (closes U) G ++ ys → Same F G xs ys

  -- the kids of two nodes with one content
  kids-same : (c : Content) (F G : Forest) → Agree F G → AreNodes T F → AreNodes U G → (is_element (Some (kind_in c)) ≡ false → F ≡ bare) → (is_element (Some (kind_in c)) ≡ false → G ≡ bare) →
      (X Y : List Line) → told (opens T) (closes T) F ++ (last_lines c ++ X) ≡ told (opens U) (closes U) G ++ (last_lines c ++ Y) → Same F G X Y
  kids-same c F G agree are others no_F no_G X Y h = by (is_element (Some (kind_in c))) refl
    where
      by : (b : Bool) → is_element (Some (kind_in c)) ≡ b → Same F G X Y
      by true e =
          let r : Same F G (last_lines c ++ X) (last_lines c ++ Y) = agree are others (last_lines c ++ X) (last_lines c ++ Y) (front-end c e X) (front-end c e Y) h in
          record { forests = r.forests; lines_left = end-same c X Y r.lines_left }
      by false e =
          let f : F ≡ bare = no_F e in
          let g : G ≡ bare = no_G e in
          record {
            forests = subst (λ H. AlikeForests T U H G) (sym f) (subst (λ H. AlikeForests T U bare H) (sym g) tt);
            lines_left = end-same c X Y (sym (ap (λ H. told (opens T) (closes T) H ++ (last_lines c ++ X)) f) ∙ (h ∙ ap (λ H. told (opens U) (closes U) H ++ (last_lines c ++ Y)) g));
          }

  agree-tree : (n : ℕ) (ats : List ℕ) (kids rest : Forest) (m : ℕ) (bs : List ℕ) (kids2 rest2 : Forest) → Agree kids kids2 → Agree rest rest2 → Agree (tree n ats kids rest) (tree m bs kids2 rest2)
  agree-tree n ats kids rest m bs kids2 rest2 inner later f g xs ys fx fy h =
      let c : Content = f.0.content in
      let d : Content = g.0.content in
      let Z : List Line = told (opens T) (closes T) rest ++ xs in
      let W : List Line = told (opens U) (closes U) rest2 ++ ys in
      let X : List Line = told (opens T) (closes T) kids ++ (last_lines c ++ Z) in
      let Y : List Line = told (opens U) (closes U) kids2 ++ (last_lines d ++ W) in
      let front_X : front X ≤ 1 = front-told T kids f.1 (last_lines c ++ Z) (front-last c Z (front-told T rest f.2 xs (omega (arith, fx)))) in
      let front_Y : front Y ≤ 1 = front-told U kids2 g.1 (last_lines d ++ W) (front-last d W (front-told U rest2 g.2 ys (omega (arith, fy)))) in
      let one : (c ≡ d) × (flat_map (opens T) ats ++ X ≡ flat_map (opens U) bs ++ Y) =
      first-same c d f.0.kid g.0.kid (flat_map (opens T) ats ++ X) (flat_map (opens U) bs ++ Y) (front-pairs T ats f.0.pairs X front_X) (front-pairs U bs g.0.pairs Y front_Y)
      (sym (told-parts T n ats kids rest f.0 xs) ∙ (h ∙ told-parts U m bs kids2 rest2 g.0 ys)) in
      let two : AlikePairs T U ats bs × (X ≡ Y) = pairs-same ats bs f.0.pairs g.0.pairs X Y front_X front_Y one.1 in
      let three : Same kids kids2 Z W =
      kids-same c kids kids2 inner f.1 g.1 f.0.leaf (λ e. g.0.leaf (ap (λ (x : Content). is_element (Some (kind_in x))) (sym one.0) ∙ e)) Z W
      (two.1 ∙ ap (λ (x : Content). told (opens U) (closes U) kids2 ++ (last_lines x ++ W)) (sym one.0)) in
      let four : Same rest rest2 xs ys = later f.2 g.2 xs ys fx fy three.lines_left in
      record {
        forests = (g.0.is ∙ (ap Some (sym one.0) ∙ sym f.0.is), two.0, three.forests, four.forests);
        lines_left = four.lines_left;
      }

  pub agree : (F G : Forest) → Agree F G
  agree bare bare = λ f g xs ys fx fy h. record { forests = tt; lines_left = h }
  agree bare (tree m bs kids2 rest2) = λ f g xs ys fx fy h.
      absurd (omega (arith, fx, ap front (h ∙ told-parts U m bs kids2 rest2 g.0 ys), front-first g.0.content g.0.kid (flat_map (opens U) bs ++ (told (opens U) (closes U) kids2 ++ (last_lines g.0.content ++ (told (opens U) (closes U) rest2 ++ ys))))))
  agree (tree n ats kids rest) bare = λ f g xs ys fx fy h.
      absurd (omega (arith, fy, ap front (sym h ∙ told-parts T n ats kids rest f.0 xs), front-first f.0.content f.0.kid (flat_map (opens T) ats ++ (told (opens T) (closes T) kids ++ (last_lines f.0.content ++ (told (opens T) (closes T) rest ++ xs))))))
  agree (tree n ats kids rest) (tree m bs kids2 rest2) = agree-tree n ats kids rest m bs kids2 rest2 (agree kids kids2) (agree rest rest2)

-- the nodes of a well-formed table are such
record Held (o : Option Content) : Type 0 where
  content : Content
  is : o ≡ Some content

held-kid : (o : Option Content) → can_be_kid (kind_at o) ≡ true → Held o
held-kid None h = absurd (cc)
held-kid (Some content) h = record { content = content; is = refl }

pair-of : (T : Table) (a : ℕ) (o : Option Content) → content_of T a ≡ o → kind_at o ≡ Some Attribute → IsPair T a
pair-of T a None e h = absurd (cc)
pair-of T a (Some root) e h = absurd (cc)
pair-of T a (Some (element name decls)) e h = absurd (cc)
pair-of T a (Some (attribute name value)) e h = record { name = name; value = value; is = e }
pair-of T a (Some (text characters)) e h = absurd (cc)
pair-of T a (Some (comment characters)) e h = absurd (cc)
pair-of T a (Some (instruction name characters)) e h = absurd (cc)

holds-none : (c : Content) → can_be_kid (Some (kind_in c)) ≡ true → is_element (Some (kind_in c)) ≡ false → holds_kids (Some (kind_in c)) ≡ false
holds-none root kid other = absurd (cc)
holds-none (element name decls) kid other = absurd (cc)
holds-none (attribute name value) kid other = refl
holds-none (text characters) kid other = refl
holds-none (comment characters) kid other = refl
holds-none (instruction name characters) kid other = refl

tops-bare : (F : Forest) → tops F ≡ [] → F ≡ bare
tops-bare bare h = refl
tops-bare (tree n ats kids rest) h = absurd (cc)

module _ (T : Table) (form : WellFormed T) where
  pairs-of : (n : ℕ) (ats : List ℕ) → ((a : ℕ) → In a ats → mem a (attrs_of T n) ≡ true) → ArePairs T ats
  pairs-of n [] listed = tt
  pairs-of n (a ∷ ats) listed = (
    pair-of T a (content_of T a) refl (form.attribute_kind n a (listed a (occurs-head a ats))),
    pairs-of n ats (λ b h. listed b (omega (arith, h))),
  )

  pub nodes-of : (p : ℕ) (F : Forest) → Shows T p F → ((k : ℕ) → In k (tops F) → mem k (kids_of T p) ≡ true) → AreNodes T F
  nodes-of p bare s listed = tt
  nodes-of p (tree n ats kids rest) s listed =
      let kind : can_be_kid (kind_of T n) ≡ true = form.kid_kind p n (listed n (occurs-head n (tops rest))) in
      let held : Held (content_of T n) = held-kid (content_of T n) kind in
      let kid : can_be_kid (Some (kind_in held.content)) ≡ true = subst (λ o. can_be_kid (kind_at o) ≡ true) held.is kind in (
        record {
          content = held.content;
          is = held.is;
          kid = kid;
          leaf = λ other. tops-bare kids (sym s.0.kids_are ∙ no_kids T form n (ap (λ o. holds_kids (kind_at o)) held.is ∙ holds-none held.content kid other));
          pairs = pairs-of n ats (λ a h. In-mem a (attrs_of T n) (subst (In a) (sym s.0.attributes) h));
        },
        nodes-of n kids s.1 (λ k h. In-mem k (kids_of T n) (subst (In k) (sym s.0.kids_are) h)),
        nodes-of p rest s.2 (λ k h. listed k (omega (arith, h))),
      )
