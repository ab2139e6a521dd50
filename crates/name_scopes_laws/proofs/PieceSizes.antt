-- The tree of events has as many nodes, and as many bytes of text, as they bring.
use Rattle.std.proofs.Common.{◌≡◌, ◌≢◌, ℕ, ◌+◌, ◌≤◌, List, [], ◌∷◌, ◌++◌, length, map, Option, None, Some, is_some, refl, sym, ap, ap₂, ◌∙◌, subst, arith}
use Rattle.std.specs.List.{flat_map}
use Rattle.std.specs.Prelude.{if◌then◌else◌, sum_by}
use Rattle.std.proofs.lemmas.List.Sums.{sum_by-append, sum_by-cons}
use Rattle.pyx_core.specs.declared.event.Attr.{Attr}
use Rattle.pyx_core.specs.declared.event.Event.{Event}
use Rattle.pyx_core.specs.declared.event.Event.TheVariants as event
use Rattle.doc_table.specs.Lists.{occurs}
use Rattle.doc_table.specs.inner.Forest.{Forest, Whole, alive, bare, flat, tree}
use Rattle.doc_table.proofs.Forests.{forest_of, whole-of}
use Rattle.doc_table.proofs.ListLemmas.{In, occurs-same, sum_by-same}
use Rattle.doc_table.proofs.Telling.{order-flat, told, walked-whole}
use Rattle.doc_tree.specs.kind.Kind.TheVariants.{Root}
use Rattle.doc_tree.specs.Laws.{WellFormed}
use Rattle.doc_tree.specs.Lines.{Line, closes, declares, ends, first_lines, has_attribute, has_comment, has_instruction, has_text, last_lines, lines, lines_at, opens, starts}
use Rattle.doc_tree.specs.Scope.{Decl}
use Rattle.doc_tree.specs.Table.{Content, Facts, Table, attribute, comment, content_at, content_of, element, entry_at, instruction, kind_at, kind_in, root, text, value_at, value_of}
use Rattle.doc_tree.specs.Walks.{order, text_bytes}
use Rattle.name_scopes.specs.Declarations.{declarations, plain_attrs}
use Rattle.name_scopes.specs.Fragments.{event_nodes, plain_text}
use Rattle.name_scopes.specs.ScopedTree.{attribute_line, said_by, unscoped, written}

-- a weight of lines, along lines and along events
module _ (weight : Line → ℕ) where
  unscoped-weigh : ((line : Line) → weight (unscoped line) ≡ weight line) → (ls : List Line) → sum_by weight (map unscoped ls) ≡ sum_by weight ls
  unscoped-weigh same [] = refl
  unscoped-weigh same (line ∷ ls) =
      sum_by-cons weight (unscoped line) (map unscoped ls) ∙ (ap₂ (λ (a b : ℕ). a + b) (same line) (unscoped-weigh same ls) ∙ sym (sum_by-cons weight line ls))

  said-weigh : (brings : Event → ℕ) → ((e : Event) → sum_by weight (said_by e) ≡ brings e) → (events : List Event) → sum_by weight (flat_map said_by events) ≡ sum_by brings events
  said-weigh brings each [] = refl
  said-weigh brings each (e ∷ events) =
      sum_by-append weight (said_by e) (flat_map said_by events)
      ∙ (ap₂ (λ (a b : ℕ). a + b) (each e) (said-weigh brings each events) ∙ sym (sum_by-cons brings e events))

  declares-weigh : ((decl : Decl) → weight (declares decl) ≡ 0) → (decls : List Decl) → sum_by weight (map declares decls) ≡ 0
  declares-weigh none [] = refl
  declares-weigh none (decl ∷ decls) = sum_by-cons weight (declares decl) (map declares decls) ∙ ap₂ (λ (a b : ℕ). a + b) (none decl) (declares-weigh none decls)

  attributes-weigh : (brings : Attr → ℕ) → ((attr : Attr) → weight (attribute_line attr) ≡ brings attr) → (attrs : List Attr) → sum_by weight (map attribute_line attrs) ≡ sum_by brings attrs
  attributes-weigh brings each [] = refl
  attributes-weigh brings each (attr ∷ attrs) =
      sum_by-cons weight (attribute_line attr) (map attribute_line attrs)
      ∙ (ap₂ (λ (a b : ℕ). a + b) (each attr) (attributes-weigh brings each attrs) ∙ sym (sum_by-cons brings attr attrs))

-- the same along the nodes of a tree
module _ (weight : Line → ℕ) (P : Table) (silent : (m : ℕ) → sum_by weight (closes P m) ≡ 0) where
  abbrev weighed : ℕ → ℕ
  weighed m = sum_by weight (opens P m)

  nodes-weigh : (ns : List ℕ) → sum_by weight (flat_map (opens P) ns) ≡ sum_by weighed ns
  nodes-weigh [] = refl
  nodes-weigh (n ∷ ns) =
      sum_by-append weight (opens P n) (flat_map (opens P) ns) ∙ (ap (λ k. weighed n + k) (nodes-weigh ns) ∙ sym (sum_by-cons weighed n ns))

  forest-weighs : (F : Forest) → sum_by weight (told (opens P) (closes P) F) ≡ sum_by weighed (flat F)
  forest-weighs bare = refl
  forest-weighs (tree n ats kids rest) =
      let front : List Line = flat_map (opens P) (n ∷ ats) in
      let within : List Line = told (opens P) (closes P) kids in
      let behind : List Line = told (opens P) (closes P) rest in
      sum_by-append weight (front ++ (within ++ closes P n)) behind
      ∙ (ap₂ (λ (a b : ℕ). a + b)
      (sum_by-append weight front (within ++ closes P n)
      ∙ ap₂ (λ (a b : ℕ). a + b) (nodes-weigh (n ∷ ats)) (sum_by-append weight within (closes P n) ∙ ap₂ (λ (a b : ℕ). a + b) (forest-weighs kids) (silent n)))
      (forest-weighs rest)
      ∙ sym (sum_by-append weighed (n ∷ ats) (flat kids ++ flat rest) ∙ omega (arith, sum_by-append weighed (flat kids) (flat rest))))

  lines-weigh : (B : Forest) → Whole P B → sum_by weight (lines P) ≡ weighed 0 + sum_by weighed (flat B)
  lines-weigh B w =
      ap (sum_by weight) (walked-whole (opens P) (closes P) P B w)
      ∙ (sum_by-append weight (opens P 0) (told (opens P) (closes P) B ++ closes P 0)
      ∙ ap (λ k. weighed 0 + k)
      (sum_by-append weight (told (opens P) (closes P) B) (closes P 0) ∙ (ap₂ (λ (a b : ℕ). a + b) (forest-weighs B) (silent 0) ∙ omega arith)))

-- one for the line with which a node begins
abbrev line_nodes : Line → ℕ
line_nodes (starts name) = 1
line_nodes (declares decl) = 0
line_nodes (has_attribute name value) = 1
line_nodes (ends name) = 0
line_nodes (has_text characters) = 1
line_nodes (has_comment characters) = 1
line_nodes (has_instruction name body) = 1

-- the bytes of text in a line
abbrev line_bytes : Line → ℕ
line_bytes (starts name) = 0
line_bytes (declares decl) = 0
line_bytes (has_attribute name value) = length value
line_bytes (ends name) = 0
line_bytes (has_text characters) = length characters
line_bytes (has_comment characters) = length characters
line_bytes (has_instruction name body) = length body

nodes-unscoped : (line : Line) → line_nodes (unscoped line) ≡ line_nodes line
nodes-unscoped (starts name) = refl
nodes-unscoped (declares decl) = refl
nodes-unscoped (has_attribute name value) = refl
nodes-unscoped (ends name) = refl
nodes-unscoped (has_text characters) = refl
nodes-unscoped (has_comment characters) = refl
nodes-unscoped (has_instruction name body) = refl

bytes-unscoped : (line : Line) → line_bytes (unscoped line) ≡ line_bytes line
bytes-unscoped (starts name) = refl
bytes-unscoped (declares decl) = refl
bytes-unscoped (has_attribute name value) = refl
bytes-unscoped (ends name) = refl
bytes-unscoped (has_text characters) = refl
bytes-unscoped (has_comment characters) = refl
bytes-unscoped (has_instruction name body) = refl

ones : {A : Type 0} (xs : List A) → sum_by (λ (x : A). 1) xs ≡ length xs
ones [] = refl
ones (x ∷ xs) = omega (arith, sum_by-cons (λ y. 1) x xs, ones xs)

-- what an event brings
tag-weighs : (weight : Line → ℕ) (brings : Attr → ℕ) → ((decl : Decl) → weight (declares decl) ≡ 0) → ((attr : Attr) → weight (attribute_line attr) ≡ brings attr) → (first : Line) (attrs : List Attr) →
    sum_by weight (first ∷ (map declares (declarations attrs) ++ map attribute_line (plain_attrs attrs))) ≡ weight first + sum_by brings (plain_attrs attrs)
tag-weighs weight brings none each first attrs =
    sum_by-cons weight first (map declares (declarations attrs) ++ map attribute_line (plain_attrs attrs))
    ∙ ap (λ k. weight first + k)
    (sum_by-append weight (map declares (declarations attrs)) (map attribute_line (plain_attrs attrs))
    ∙ ap₂ (λ (a b : ℕ). a + b) (declares-weigh weight none (declarations attrs)) (attributes-weigh weight brings each (plain_attrs attrs)) ∙ omega arith)

nodes-said : (e : Event) → sum_by line_nodes (said_by e) ≡ event_nodes e
nodes-said (event.Start name attrs) = tag-weighs line_nodes (λ _. 1) (λ d. refl) (λ a. refl) (starts (written name)) attrs ∙ omega (arith, ones (plain_attrs attrs))
nodes-said (event.End name) = refl
nodes-said (event.Chars characters) = refl
nodes-said (event.Pi target body) = refl
nodes-said (event.Comment characters) = refl

bytes-said : (e : Event) → sum_by line_bytes (said_by e) ≡ plain_text e
bytes-said (event.Start name attrs) = tag-weighs line_bytes (λ attr. length attr.value) (λ d. refl) (λ a. refl) (starts (written name)) attrs ∙ omega arith
bytes-said (event.End name) = refl
bytes-said (event.Chars characters) = omega arith
bytes-said (event.Pi target body) = omega arith
bytes-said (event.Comment characters) = omega arith

-- what a node begins and ends with
nodes-opened : (c : Content) → kind_in c ≢ Root → sum_by line_nodes (first_lines c) ≡ 1
nodes-opened root other = absurd (other refl)
nodes-opened (element name decls) other = sum_by-cons line_nodes (starts name) (map declares decls) ∙ ap (λ k. 1 + k) (declares-weigh line_nodes (λ d. refl) decls)
nodes-opened (attribute name value) other = refl
nodes-opened (text characters) other = refl
nodes-opened (comment characters) other = refl
nodes-opened (instruction name body) other = refl

nodes-of-root : (o : Option Content) → kind_at o ≡ Some Root → sum_by line_nodes (lines_at first_lines o) ≡ 0
nodes-of-root None h = refl
nodes-of-root (Some root) h = refl
nodes-of-root (Some (element name decls)) h = absurd (cc)
nodes-of-root (Some (attribute name value)) h = absurd (cc)
nodes-of-root (Some (text characters)) h = absurd (cc)
nodes-of-root (Some (comment characters)) h = absurd (cc)
nodes-of-root (Some (instruction name body)) h = absurd (cc)

bytes-opened : (o : Option Content) → sum_by line_bytes (lines_at first_lines o) ≡ length (value_at o)
bytes-opened None = refl
bytes-opened (Some root) = refl
bytes-opened (Some (element name decls)) = sum_by-cons line_bytes (starts name) (map declares decls) ∙ ap (λ k. 0 + k) (declares-weigh line_bytes (λ d. refl) decls)
bytes-opened (Some (attribute name value)) = omega arith
bytes-opened (Some (text characters)) = omega arith
bytes-opened (Some (comment characters)) = omega arith
bytes-opened (Some (instruction name body)) = omega arith

nodes-closed : (o : Option Content) → sum_by line_nodes (lines_at last_lines o) ≡ 0
nodes-closed None = refl
nodes-closed (Some root) = refl
nodes-closed (Some (element name decls)) = refl
nodes-closed (Some (attribute name value)) = refl
nodes-closed (Some (text characters)) = refl
nodes-closed (Some (comment characters)) = refl
nodes-closed (Some (instruction name body)) = refl

bytes-closed : (o : Option Content) → sum_by line_bytes (lines_at last_lines o) ≡ 0
bytes-closed None = refl
bytes-closed (Some root) = refl
bytes-closed (Some (element name decls)) = refl
bytes-closed (Some (attribute name value)) = refl
bytes-closed (Some (text characters)) = refl
bytes-closed (Some (comment characters)) = refl
bytes-closed (Some (instruction name body)) = refl

module _ (P : Table) (form : WellFormed P) (events : List Event) (say : map unscoped (lines P) ≡ flat_map said_by events) where
  abbrev B : Forest
  B = forest_of P

  whole : Whole P B
  whole = whole-of P form

  -- each node below the root begins with one line of its own
  one-each : (m : ℕ) → In m (flat B) → sum_by line_nodes (opens P m) ≡ 1
  one-each m among = by (entry_at P m) refl
    where
      there : 1 ≤ occurs m (0 ∷ flat B)
      there = omega (arith, among)

      lower : m ≡ 0 → ⊥
      lower e =
          let twice : In 0 (flat B) = subst (λ k. In k (flat B)) e among in
          at-most (entry_at P 0) (omega (arith, twice, occurs-same 0 (flat B), whole.once 0))
        where
          at-most : (o : Option Facts) → 2 ≤ (if is_some o then 1 else 0) → ⊥
          at-most None h = omega (arith, h)
          at-most (Some node) h = omega (arith, h)

      by : (o : Option Facts) → entry_at P m ≡ o → sum_by line_nodes (lines_at first_lines (content_at o)) ≡ 1
      by None e =
          let dead : alive P m ≡ 0 = ap (λ (o : Option Facts). if is_some o then 1 else 0) e in
          absurd (omega (arith, there, whole.once m, dead))
      by (Some node) e = nodes-opened node.content (λ (is : kind_in node.content ≡ Root). lower (form.one_root m (ap (λ (o : Option Facts). kind_at (content_at o)) e ∙ ap Some is)))

  pub piece-nodes : length (order P) ≡ 1 + sum_by event_nodes events
  piece-nodes =
      let weighed_lines : sum_by line_nodes (lines P) ≡ sum_by event_nodes events =
      sym (unscoped-weigh line_nodes nodes-unscoped (lines P)) ∙ (ap (sum_by line_nodes) say ∙ said-weigh line_nodes event_nodes nodes-said events) in
      let along : sum_by line_nodes (lines P) ≡ sum_by line_nodes (opens P 0) + sum_by (λ m. sum_by line_nodes (opens P m)) (flat B) =
      lines-weigh line_nodes P (λ m. nodes-closed (content_of P m)) B whole in
      let below : sum_by (λ m. sum_by line_nodes (opens P m)) (flat B) ≡ length (flat B) =
      sum_by-same (λ m. sum_by line_nodes (opens P m)) (λ _. 1) (flat B) one-each ∙ ones (flat B) in
      omega (arith, weighed_lines, along, below, nodes-of-root (content_of P 0) form.root_kind, ap length (order-flat P B whole))

  pub piece-text : text_bytes P ≡ sum_by plain_text events
  piece-text =
      let weighed_lines : sum_by line_bytes (lines P) ≡ sum_by plain_text events =
      sym (unscoped-weigh line_bytes bytes-unscoped (lines P)) ∙ (ap (sum_by line_bytes) say ∙ said-weigh line_bytes plain_text bytes-said events) in
      let along : sum_by line_bytes (lines P) ≡ sum_by line_bytes (opens P 0) + sum_by (λ m. sum_by line_bytes (opens P m)) (flat B) =
      lines-weigh line_bytes P (λ m. bytes-closed (content_of P m)) B whole in
      ap (sum_by (λ m. length (value_of P m))) (order-flat P B whole)
      ∙ (sum_by-same (λ m. length (value_of P m)) (λ m. sum_by line_bytes (opens P m)) (0 ∷ flat B) (λ m h. sym (bytes-opened (content_of P m)))
      ∙ (sum_by-cons (λ m. sum_by line_bytes (opens P m)) 0 (flat B) ∙ (sym along ∙ weighed_lines)))
