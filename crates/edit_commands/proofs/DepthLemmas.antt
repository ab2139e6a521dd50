-- The lines of a tree tell the kind of what they begin with, and how deep its elements stand.
use Rattle.std.proofs.Common.{◌≡◌, ℕ, ◌+◌, ◌≤◌, suc, zero, pred, Bool, true, false, ◌&&◌, ◌||◌, List, [], ◌∷◌, ◌++◌, length, map, Option, None, Some, refl, sym, ap, ap₂, ◌∙◌, subst, ⊎_elim, true≢false, arith, append_assoc, append-nil, length-append, ltb-false}
use Rattle.std.specs.List.{flat_map, list_any}
use Rattle.std.specs.Prelude.{◌⊎◌, nat_lt}
use Rattle.std.proofs.lemmas.Bool.{ltb-true}
use Rattle.pyx_core.specs.declared.event.Attr.{Attr}
use Rattle.pyx_core.specs.declared.event.Event.{Event}
use Rattle.pyx_core.specs.declared.event.Event.TheVariants as event
use Rattle.doc_table.specs.Laws.{HasWaysUp, Ordered, Walks, WellFormed}
use Rattle.doc_table.specs.declared.limits.TheConstants.{MAX_DEPTH}
use Rattle.doc_table.proofs.Forests.{whole-of}
use Rattle.doc_table.proofs.ListLemmas.{mem-append, mem-head, mem-one, mem-tail}
use Rattle.doc_tree.specs.kind.Kind.{Kind}
use Rattle.doc_tree.specs.kind.Kind.TheVariants as kinds
use Rattle.doc_tree.specs.Kinds.{can_be_kid, holds_kids, is_element}
use Rattle.doc_tree.specs.Lines.{Line, closes, declares, ends, first_lines, has_attribute, has_comment, has_instruction, has_text, last_lines, lines, lines_at, lines_below, opens, starts}
use Rattle.doc_tree.specs.Lists.{mem}
use Rattle.doc_tree.specs.Refusals.{is_too_deep_at}
use Rattle.doc_tree.specs.Scope.{Decl}
use Rattle.doc_tree.specs.Table.{Content, Table, attribute, attrs_of, comment, content_of, element, instruction, kids_of, kind_at, kind_of, root, text}
use Rattle.doc_tree.specs.Walks.{above, ancestors, below, order}
use Rattle.doc_tree.proofs.RefusalLemmas.{none-of, or-false}
use Rattle.name_scopes.specs.Declarations.{declarations, plain_attrs}
use Rattle.name_scopes.specs.Fragments.{is_too_deep}
use Rattle.name_scopes.specs.ScopedTree.{attribute_line, said_by, unscoped}
use Rattle.edit_commands.specs.Commands.{top_kind}

-- the kind of a node that begins with a line
abbrev line_kind : Line → Option Kind
line_kind (starts name) = Some kinds.Element
line_kind (declares decl) = None
line_kind (has_attribute name value) = None
line_kind (ends name) = None
line_kind (has_text characters) = Some kinds.Text
line_kind (has_comment characters) = Some kinds.Comment
line_kind (has_instruction name body) = Some kinds.Pi

abbrev first_kind : List Line → Option Kind
first_kind [] = None
first_kind (line ∷ rest) = line_kind line

first-unscoped : (ls : List Line) → first_kind (map unscoped ls) ≡ first_kind ls
first-unscoped [] = refl
first-unscoped (starts name ∷ ls) = refl
first-unscoped (declares decl ∷ ls) = refl
first-unscoped (has_attribute name value ∷ ls) = refl
first-unscoped (ends name ∷ ls) = refl
first-unscoped (has_text characters ∷ ls) = refl
first-unscoped (has_comment characters ∷ ls) = refl
first-unscoped (has_instruction name body ∷ ls) = refl

first-said : (events : List Event) → first_kind (flat_map said_by events) ≡ top_kind events
first-said [] = refl
first-said (event.Start name attrs ∷ events) = refl
first-said (event.End name ∷ events) = refl
first-said (event.Chars characters ∷ events) = refl
first-said (event.Pi target body ∷ events) = refl
first-said (event.Comment characters ∷ events) = refl

first-opened : (o : Option Content) (ats bs : List Line) → can_be_kid (kind_at o) ≡ true → first_kind ((lines_at first_lines o ++ ats) ++ bs) ≡ kind_at o
first-opened None ats bs h = absurd (true≢false (sym h))
first-opened (Some root) ats bs h = absurd (true≢false (sym h))
first-opened (Some (element name decls)) ats bs h = refl
first-opened (Some (attribute name value)) ats bs h = absurd (true≢false (sym h))
first-opened (Some (text characters)) ats bs h = refl
first-opened (Some (comment characters)) ats bs h = refl
first-opened (Some (instruction name body)) ats bs h = refl

-- whether an element that begins among the lines would have more ancestors than an element may, where the first has so many
abbrev deep : ℕ → List Line → Bool
deep d [] = false
deep d (starts name ∷ ls) = nat_lt MAX_DEPTH d || deep (suc d) ls
deep d (declares decl ∷ ls) = deep d ls
deep d (has_attribute name value ∷ ls) = deep d ls
deep d (ends name ∷ ls) = deep (pred d) ls
deep d (has_text characters ∷ ls) = deep d ls
deep d (has_comment characters ∷ ls) = deep d ls
deep d (has_instruction name body ∷ ls) = deep d ls

deep-unscoped : (d : ℕ) (ls : List Line) → deep d (map unscoped ls) ≡ deep d ls
deep-unscoped d [] = refl
deep-unscoped d (starts name ∷ ls) = ap (λ b. nat_lt MAX_DEPTH d || b) (deep-unscoped (suc d) ls)
deep-unscoped d (declares decl ∷ ls) = deep-unscoped d ls
deep-unscoped d (has_attribute name value ∷ ls) = deep-unscoped d ls
deep-unscoped d (ends name ∷ ls) = deep-unscoped (pred d) ls
deep-unscoped d (has_text characters ∷ ls) = deep-unscoped d ls
deep-unscoped d (has_comment characters ∷ ls) = deep-unscoped d ls
deep-unscoped d (has_instruction name body ∷ ls) = deep-unscoped d ls

deep-declared : (d : ℕ) (decls : List Decl) (ls : List Line) → deep d (map declares decls ++ ls) ≡ deep d ls
deep-declared d [] ls = refl
deep-declared d (decl ∷ decls) ls = deep-declared d decls ls

deep-attributes : (d : ℕ) (attrs : List Attr) (ls : List Line) → deep d (map attribute_line attrs ++ ls) ≡ deep d ls
deep-attributes d [] ls = refl
deep-attributes d (attr ∷ attrs) ls = deep-attributes d attrs ls

deep-said : (d : ℕ) (events : List Event) → deep d (flat_map said_by events) ≡ is_too_deep d events
deep-said d [] = refl
deep-said d (event.Start name attrs ∷ events) =
    ap (λ b. nat_lt MAX_DEPTH d || b)
    (ap (deep (suc d)) (append_assoc (map declares (declarations attrs)) (map attribute_line (plain_attrs attrs)) (flat_map said_by events))
    ∙ (deep-declared (suc d) (declarations attrs) (map attribute_line (plain_attrs attrs) ++ flat_map said_by events)
    ∙ (deep-attributes (suc d) (plain_attrs attrs) (flat_map said_by events) ∙ deep-said (suc d) events)))
deep-said d (event.End name ∷ events) = deep-said (pred d) events
deep-said d (event.Chars characters ∷ events) = deep-said d events
deep-said d (event.Pi target body ∷ events) = deep-said d events
deep-said d (event.Comment characters ∷ events) = deep-said d events

-- the lines of a node, its attributes, its kids and its end, in one row with what follows
regroup : (o a k c f r : List Line) → (((o ++ a) ++ (k ++ c)) ++ f) ++ r ≡ o ++ (a ++ (k ++ (c ++ (f ++ r))))
regroup o a k c f r =
    append_assoc ((o ++ a) ++ (k ++ c)) f r
    ∙ (append_assoc (o ++ a) (k ++ c) (f ++ r)
    ∙ (append_assoc o a ((k ++ c) ++ (f ++ r)) ∙ ap (λ l. o ++ (a ++ l)) (append_assoc k c (f ++ r))))

-- an element begins no deeper than it may, and what follows is one level deeper
deep-opened : (d : ℕ) (o : Option Content) (ls : List Line) → is_element (kind_at o) ≡ true → deep d (lines_at first_lines o ++ ls) ≡ (nat_lt MAX_DEPTH d || deep (suc d) ls)
deep-opened d None ls h = absurd (true≢false (sym h))
deep-opened d (Some root) ls h = absurd (true≢false (sym h))
deep-opened d (Some (element name decls)) ls h = ap (λ b. nat_lt MAX_DEPTH d || b) (deep-declared (suc d) decls ls)
deep-opened d (Some (attribute name value)) ls h = absurd (true≢false (sym h))
deep-opened d (Some (text characters)) ls h = absurd (true≢false (sym h))
deep-opened d (Some (comment characters)) ls h = absurd (true≢false (sym h))
deep-opened d (Some (instruction name body)) ls h = absurd (true≢false (sym h))

deep-closed : (d : ℕ) (o : Option Content) (ls : List Line) → is_element (kind_at o) ≡ true → deep (suc d) (lines_at last_lines o ++ ls) ≡ deep d ls
deep-closed d None ls h = absurd (true≢false (sym h))
deep-closed d (Some root) ls h = absurd (true≢false (sym h))
deep-closed d (Some (element name decls)) ls h = refl
deep-closed d (Some (attribute name value)) ls h = absurd (true≢false (sym h))
deep-closed d (Some (text characters)) ls h = absurd (true≢false (sym h))
deep-closed d (Some (comment characters)) ls h = absurd (true≢false (sym h))
deep-closed d (Some (instruction name body)) ls h = absurd (true≢false (sym h))

-- a node that is no element stays at its level
deep-leaf : (d : ℕ) (o : Option Content) (ls : List Line) → is_element (kind_at o) ≡ false → deep d (lines_at first_lines o ++ (lines_at last_lines o ++ ls)) ≡ deep d ls
deep-leaf d None ls h = refl
deep-leaf d (Some root) ls h = refl
deep-leaf d (Some (element name decls)) ls h = absurd (true≢false h)
deep-leaf d (Some (attribute name value)) ls h = refl
deep-leaf d (Some (text characters)) ls h = refl
deep-leaf d (Some (comment characters)) ls h = refl
deep-leaf d (Some (instruction name body)) ls h = refl

deep-attribute : (d : ℕ) (o : Option Content) (ls : List Line) → kind_at o ≡ Some kinds.Attribute → deep d (lines_at first_lines o ++ ls) ≡ deep d ls
deep-attribute d None ls h = refl
deep-attribute d (Some root) ls h = refl
deep-attribute d (Some (element name decls)) ls h = absurd (true≢false (ap is_element h))
deep-attribute d (Some (attribute name value)) ls h = refl
deep-attribute d (Some (text characters)) ls h = refl
deep-attribute d (Some (comment characters)) ls h = refl
deep-attribute d (Some (instruction name body)) ls h = refl

-- a kid that holds kids is an element
holder-element : (k : Option Kind) → holds_kids k ≡ true → can_be_kid k ≡ true → is_element k ≡ true
holder-element None h g = absurd (true≢false (sym h))
holder-element (Some kinds.Root) h g = absurd (true≢false (sym g))
holder-element (Some kinds.Element) h g = refl
holder-element (Some kinds.Attribute) h g = absurd (true≢false (sym h))
holder-element (Some kinds.Text) h g = absurd (true≢false (sym h))
holder-element (Some kinds.Comment) h g = absurd (true≢false (sym h))
holder-element (Some kinds.Pi) h g = absurd (true≢false (sym h))

module _ (P : Table) (form : WellFormed P) (ord : Ordered P) (ways : HasWaysUp P) (walks : Walks P) where
  abbrev told : List ℕ → List Line
  told ks = flat_map (lines_below P) ks

  abbrev all : List ℕ → List ℕ
  all ks = flat_map (below P) ks

  longer : (k : ℕ) (ks : List ℕ) → length (all (k ∷ ks)) ≡ 1 + (length (attrs_of P k) + (length (all (kids_of P k)) + length (all ks)))
  longer k ks =
      length-append (below P k) (all ks)
      ∙ omega (arith, ap length (ord.below_at k), length-append (attrs_of P k) (all (kids_of P k)))

  skip-attributes : (n : ℕ) (ats : List ℕ) → ((a : ℕ) → mem a ats ≡ true → mem a (attrs_of P n) ≡ true) → (d : ℕ) (ls : List Line) → deep d (flat_map (opens P) ats ++ ls) ≡ deep d ls
  skip-attributes n [] among d ls = refl
  skip-attributes n (a ∷ ats) among d ls =
      ap (deep d) (append_assoc (opens P a) (flat_map (opens P) ats) ls)
      ∙ (deep-attribute d (content_of P a) (flat_map (opens P) ats ++ ls) (form.attribute_kind n a (among a (mem-head a ats)))
      ∙ skip-attributes n ats (λ b h. among b (mem-tail b a ats h)) d ls)

  -- no element among these has more ancestors than an element may, where one that has q has d in another tree
  abbrev Fine : ℕ → ℕ → List ℕ → Type 0
  Fine d q ms = (m : ℕ) → mem m ms ≡ true → is_element (kind_of P m) ≡ true → d + length (ancestors P m) ≤ MAX_DEPTH + q

  -- what is known of some kids
  record Kids (q : ℕ) (ks : List ℕ) : Type 0 where
    level : (k : ℕ) → mem k ks ≡ true → length (ancestors P k) ≡ q
    kind : (k : ℕ) → mem k ks ≡ true → can_be_kid (kind_of P k) ≡ true

  kids-of : (n : ℕ) → Kids (suc (length (ancestors P n))) (kids_of P n)
  kids-of n = record { level = λ k h. ap length (ways.ancestors_at k n (form.kid_parent n k h)); kind = form.kid_kind n }

  later : (q k : ℕ) (ks : List ℕ) → Kids q (k ∷ ks) → Kids q ks
  later q k ks known = record { level = λ j h. known.level j (mem-tail j k ks h); kind = λ j h. known.kind j (mem-tail j k ks h) }

  row : (d k : ℕ) (ks : List ℕ) (rest : List Line) → deep d (told (k ∷ ks) ++ rest) ≡
      deep d (opens P k ++ (flat_map (opens P) (attrs_of P k) ++ (told (kids_of P k) ++ (closes P k ++ (told ks ++ rest)))))
  row d k ks rest =
      ap (deep d)
      (ap (λ l. (l ++ told ks) ++ rest) (walks.lines_at k)
      ∙ regroup (opens P k) (flat_map (opens P) (attrs_of P k)) (told (kids_of P k)) (closes P k) (told ks) rest)

  -- one node with all below it
  below-fine : (d q k : ℕ) → length (ancestors P k) ≡ q → (is_element (kind_of P k) ≡ true → d ≤ MAX_DEPTH) → Fine (suc d) (suc q) (all (kids_of P k)) → Fine d q (below P k)
  below-fine d q k level low inner m member elem =
      by (mem-append m (k ∷ []) (attrs_of P k ++ all (kids_of P k)) (ap (mem m) (sym (ord.below_at k)) ∙ member))
    where
      by : (mem m (k ∷ []) ≡ true) ⊎ (mem m (attrs_of P k ++ all (kids_of P k)) ≡ true) → d + length (ancestors P m) ≤ MAX_DEPTH + q
      by h =
          ⊎_elim
          (λ (here : mem m (k ∷ []) ≡ true).
          let is : m ≡ k = mem-one m k here in
          let small : d ≤ MAX_DEPTH = low (ap (λ j. is_element (kind_of P j)) (sym is) ∙ elem) in
          let up : length (ancestors P m) ≡ q = ap (λ j. length (ancestors P j)) is ∙ level in
          omega (arith, small, up))
          (λ (g : mem m (attrs_of P k ++ all (kids_of P k)) ≡ true). ⊎_elim
          (λ (a : mem m (attrs_of P k) ≡ true). absurd (true≢false (sym elem ∙ ap is_element (form.attribute_kind k m a))))
          (λ (i : mem m (all (kids_of P k)) ≡ true). omega (arith, inner m i elem))
          (mem-append m (attrs_of P k) (all (kids_of P k)) g))
          h

  kids-fine : (most d q : ℕ) (ks : List ℕ) (rest : List Line) → length (all ks) ≤ most → Kids q ks → deep d (told ks ++ rest) ≡ false → (deep d rest ≡ false) × Fine d q (all ks)
  kids-fine most d q [] rest short known h = (h, λ m member elem. absurd (true≢false (sym member)))
  kids-fine zero d q (k ∷ ks) rest short known h = absurd (omega (arith, longer k ks, short))
  kids-fine (suc most) d q (k ∷ ks) rest short known h =
      let less : length (all ks) ≤ most = omega (arith, longer k ks, short) in
      let inner_less : length (all (kids_of P k)) ≤ most = omega (arith, longer k ks, short) in
      by (is_element (kind_of P k)) refl
      (λ rest_fine. kids-fine most d q ks rest less (later q k ks known) rest_fine)
      (λ inner_fine. kids-fine most (suc d) (suc q) (kids_of P k) (closes P k ++ (told ks ++ rest)) inner_less
      (subst (λ j. Kids (suc j) (kids_of P k)) (known.level k (mem-head k ks)) (kids-of k)) inner_fine)
    where
      join : Fine d q (below P k) → Fine d q (all ks) → Fine d q (all (k ∷ ks))
      join first others m member elem =
          ⊎_elim (λ (a : mem m (below P k) ≡ true). first m a elem) (λ (b : mem m (all ks) ≡ true). others m b elem) (mem-append m (below P k) (all ks) member)

      no-kids : is_element (kind_of P k) ≡ false → (js : List ℕ) → kids_of P k ≡ js → js ≡ []
      no-kids plain [] e = refl
      no-kids plain (j ∷ js) e =
          absurd (true≢false (sym (holder-element (kind_of P k) (form.holder_kind k j (ap (mem j) e ∙ mem-head j js)) (known.kind k (mem-head k ks))) ∙ plain))

      by : (b : Bool) → is_element (kind_of P k) ≡ b → (deep d (told ks ++ rest) ≡ false → (deep d rest ≡ false) × Fine d q (all ks)) →
          (deep (suc d) (told (kids_of P k) ++ (closes P k ++ (told ks ++ rest))) ≡ false → (deep (suc d) (closes P k ++ (told ks ++ rest)) ≡ false) × Fine (suc d) (suc q) (all (kids_of P k))) →
          (deep d rest ≡ false) × Fine d q (all (k ∷ ks))
      by true e after inside =
          let parts =
          or-false (nat_lt MAX_DEPTH d) (deep (suc d) (flat_map (opens P) (attrs_of P k) ++ (told (kids_of P k) ++ (closes P k ++ (told ks ++ rest)))))
          (sym (deep-opened d (content_of P k) (flat_map (opens P) (attrs_of P k) ++ (told (kids_of P k) ++ (closes P k ++ (told ks ++ rest)))) e) ∙ (sym (row d k ks rest) ∙ h)) in
          let inner = inside (sym (skip-attributes k (attrs_of P k) (λ a g. g) (suc d) (told (kids_of P k) ++ (closes P k ++ (told ks ++ rest)))) ∙ parts.1) in
          let others = after (sym (deep-closed d (content_of P k) (told ks ++ rest) e) ∙ inner.0) in
          (others.0, join (below-fine d q k (known.level k (mem-head k ks)) (λ _. ltb-false MAX_DEPTH d parts.0) inner.1) others.1)
      by false e after inside =
          let none : kids_of P k ≡ [] = no-kids e (kids_of P k) refl in
          let plain : deep d (opens P k ++ (flat_map (opens P) (attrs_of P k) ++ (told (kids_of P k) ++ (closes P k ++ (told ks ++ rest))))) ≡ deep d (told ks ++ rest) =
          leaf none in
          let others = after (sym plain ∙ (sym (row d k ks rest) ∙ h)) in (
            others.0,
            join (below-fine d q k (known.level k (mem-head k ks)) (λ elem. absurd (true≢false (sym elem ∙ e)))
                (λ m member elem. absurd (true≢false (sym member ∙ ap (λ js. mem m (all js)) none)))) others.1,
          )
        where
          no-attributes : (ats : List ℕ) → attrs_of P k ≡ ats → ats ≡ []
          no-attributes [] g = refl
          no-attributes (a ∷ ats) g =
              absurd (true≢false (sym (ap is_element (form.owner_kind k a (ap (mem a) g ∙ mem-head a ats))) ∙ e))

          leaf : kids_of P k ≡ [] → deep d (opens P k ++ (flat_map (opens P) (attrs_of P k) ++ (told (kids_of P k) ++ (closes P k ++ (told ks ++ rest))))) ≡ deep d (told ks ++ rest)
          leaf none =
              ap₂ (λ (ats js : List ℕ). deep d (opens P k ++ (flat_map (opens P) ats ++ (told js ++ (closes P k ++ (told ks ++ rest)))))) (no-attributes (attrs_of P k) refl) none
              ∙ deep-leaf d (content_of P k) (told ks ++ rest) e

  -- the root tells nothing itself
  root-lines : (o : Option Content) → kind_at o ≡ Some kinds.Root → (lines_at first_lines o ≡ []) × (lines_at last_lines o ≡ [])
  root-lines None h = (refl, refl)
  root-lines (Some root) h = (refl, refl)
  root-lines (Some (element name decls)) h = absurd (true≢false (ap is_element h))
  root-lines (Some (attribute name value)) h = (absurd (cc), absurd (cc))
  root-lines (Some (text characters)) h = absurd (true≢false (ap can_be_kid h))
  root-lines (Some (comment characters)) h = absurd (true≢false (ap can_be_kid h))
  root-lines (Some (instruction name body)) h = absurd (true≢false (ap can_be_kid h))

  lines-are : lines P ≡ told (kids_of P 0) ++ []
  lines-are =
      walks.lines_at 0
      ∙ (ap₂ (λ (o : List Line) (ats : List ℕ). (o ++ flat_map (opens P) ats) ++ (told (kids_of P 0) ++ closes P 0)) (root-lines (content_of P 0) form.root_kind).0 (whole-of P form).root.no_attributes
      ∙ ap (λ c. told (kids_of P 0) ++ c) (root-lines (content_of P 0) form.root_kind).1)

  module _ (events : List Event) (lines_say : map unscoped (lines P) ≡ flat_map said_by events) where
    -- the kind of the one item of the fragment is that of the one kid
    pub kind-of-top : (top : ℕ) → kids_of P 0 ≡ top ∷ [] → kind_of P top ≡ top_kind events
    kind-of-top top one =
        sym (first-opened (content_of P top) (flat_map (opens P) (attrs_of P top)) (told (kids_of P top) ++ closes P top)
        (form.kid_kind 0 top (ap (mem top) one ∙ mem-head top [])))
        ∙ (ap first_kind (sym (walks.lines_at top))
        ∙ (ap first_kind (sym (lines-are ∙ (append-nil (told (kids_of P 0)) ∙ (ap told one ∙ append-nil (lines_below P top)))))
        ∙ (sym (first-unscoped (lines P)) ∙ (ap first_kind lines_say ∙ first-said events))))

    -- no element of the piece stands too deep, where none does by the events
    pub none-too-deep : (T : Table) (p : ℕ) → is_too_deep (length (above T p)) events ≡ false → list_any (is_too_deep_at T p P) (order P) ≡ false
    none-too-deep T p shallow = none-of (is_too_deep_at T p P) (order P) each
      where
        lines-fine : deep (length (above T p)) (told (kids_of P 0) ++ []) ≡ false
        lines-fine =
            ap (deep (length (above T p))) (sym lines-are)
            ∙ (sym (deep-unscoped (length (above T p)) (lines P)) ∙ (ap (deep (length (above T p))) lines_say ∙ (deep-said (length (above T p)) events ∙ shallow)))

        fine : Fine (length (above T p)) 1 (all (kids_of P 0))
        fine =
            (kids-fine (length (all (kids_of P 0))) (length (above T p)) 1 (kids_of P 0) [] (omega arith)
            (subst (λ l. Kids (suc (length l)) (kids_of P 0)) (ways.no_ancestors 0 form.root_parent) (kids-of 0)) lines-fine).1

        each : (m : ℕ) → mem m (order P) ≡ true → is_too_deep_at T p P m ≡ false
        each m member = by (is_element (kind_of P m)) refl (nat_lt (MAX_DEPTH + 1) (length (above T p) + length (ancestors P m))) refl
          where
            bound : is_element (kind_of P m) ≡ true → length (above T p) + length (ancestors P m) ≤ MAX_DEPTH + 1
            bound elem =
                ⊎_elim
                (λ (here : mem m (0 ∷ []) ≡ true). absurd (true≢false (sym elem ∙ (ap (λ j. is_element (kind_of P j)) (mem-one m 0 here) ∙ ap is_element form.root_kind))))
                (λ (g : mem m (attrs_of P 0 ++ all (kids_of P 0)) ≡ true). ⊎_elim
                (λ (a : mem m (attrs_of P 0) ≡ true). absurd (true≢false (sym elem ∙ ap is_element (form.attribute_kind 0 m a))))
                (λ (i : mem m (all (kids_of P 0)) ≡ true). fine m i elem)
                (mem-append m (attrs_of P 0) (all (kids_of P 0)) g))
                (mem-append m (0 ∷ []) (attrs_of P 0 ++ all (kids_of P 0)) (ap (mem m) (sym (ord.below_at 0)) ∙ member))

            by : (b : Bool) → is_element (kind_of P m) ≡ b → (c : Bool) → nat_lt (MAX_DEPTH + 1) (length (above T p) + length (ancestors P m)) ≡ c → (b && c) ≡ false
            by false e c f = refl
            by true e false f = refl
            by true e true f = absurd (omega (arith, bound e, ltb-true (MAX_DEPTH + 1) (length (above T p) + length (ancestors P m)) f))
