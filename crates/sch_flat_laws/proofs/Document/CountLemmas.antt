-- The lines of a tree that begin a node, counted.
use Rattle.std.proofs.Common.{arith, ◌≡◌, ℕ, zero, suc, ◌+◌, ◌<◌, true, List, [], ◌∷◌, ◌++◌, length, map, Option, None, Some, is_some, refl, sym, ap, ◌∙◌, length-append}
use Rattle.std.specs.List.{flat_map}
use Rattle.pyx_core.specs.declared.event.Attr.{Attr}
use Rattle.pyx_core.specs.declared.event.Event.{Event}
use Rattle.pyx_core.specs.declared.event.Event.TheVariants as event
use Rattle.doc_tree.specs.kind.Kind.TheVariants.{Root}
use Rattle.doc_tree.specs.Laws.{WellFormed}
use Rattle.doc_tree.specs.Lines.{Line, starts, declares, has_attribute, ends, has_text, has_comment, has_instruction, closes, first_lines, last_lines, lines, lines_at, opens}
use Rattle.doc_tree.specs.Lists.{upto}
use Rattle.doc_tree.specs.Scope.{Decl}
use Rattle.doc_tree.specs.Table.{Table, Content, root, element, attribute, text, comment, instruction, AllLive, Facts, content_of, content_at, entry_at, kind_at, kind_of, attrs_of, kids_of}
use Rattle.doc_tree.specs.Walks.{order, walk}
use Rattle.name_scopes.specs.Declarations.{declarations, plain_attrs}
use Rattle.name_scopes.specs.ScopedTree.{Scoped, attribute_line, said_by, unscoped}
use Rattle.sch_flat.specs.FlatSize.{nodes_at, nodes_of}

-- whether a line begins a node
begins : Line → ℕ
begins (starts name) = 1
begins (declares decl) = 0
begins (has_attribute name value) = 1
begins (ends name) = 0
begins (has_text characters) = 1
begins (has_comment characters) = 1
begins (has_instruction name body) = 1

begun : List Line → ℕ
begun [] = 0
begun (line ∷ lines) = begins line + begun lines

begun-append : (xs ys : List Line) → begun (xs ++ ys) ≡ begun xs + begun ys
unfolding begun
begun-append [] ys = omega arith
begun-append (x ∷ xs) ys = omega (arith, begun-append xs ys)

-- events
begun-declares : (decls : List Decl) → begun (map declares decls) ≡ 0
unfolding begun begins
begun-declares [] = refl
begun-declares (d ∷ ds) = omega (arith, begun-declares ds)

begun-attributes : (attrs : List Attr) → begun (map attribute_line attrs) ≡ length attrs
unfolding begun begins
begun-attributes [] = refl
begun-attributes (a ∷ attrs) = omega (arith, begun-attributes attrs)

begun-said : (e : Event) → begun (said_by e) ≡ nodes_at e
unfolding begun begins
begun-said (event.Start name attrs) =
    ap (λ n. 1 + n) (begun-append (map declares (declarations attrs)) (map attribute_line (plain_attrs attrs)))
    ∙ omega (arith, begun-declares (declarations attrs), begun-attributes (plain_attrs attrs))
begun-said (event.End name) = refl
begun-said (event.Chars characters) = refl
begun-said (event.Pi target body) = refl
begun-said (event.Comment characters) = refl

begun-events : (events : List Event) → begun (flat_map said_by events) ≡ nodes_of events
unfolding begun
begun-events [] = refl
begun-events (e ∷ events) =
    begun-append (said_by e) (flat_map said_by events) ∙ omega (arith, begun-said e, begun-events events)

begins-unscoped : (line : Line) → begins (unscoped line) ≡ begins line
unfolding begins
begins-unscoped (starts name) = refl
begins-unscoped (declares decl) = refl
begins-unscoped (has_attribute name value) = refl
begins-unscoped (ends name) = refl
begins-unscoped (has_text characters) = refl
begins-unscoped (has_comment characters) = refl
begins-unscoped (has_instruction name body) = refl

begun-unscoped : (ls : List Line) → begun (map unscoped ls) ≡ begun ls
unfolding begun
begun-unscoped [] = refl
begun-unscoped (l ∷ ls) = omega (arith, begins-unscoped l, begun-unscoped ls)

-- the node of a content
begun-closes : (content : Option Content) → begun (lines_at last_lines content) ≡ 0
unfolding begun begins
begun-closes None = refl
begun-closes (Some root) = refl
begun-closes (Some (element name decls)) = refl
begun-closes (Some (attribute name value)) = refl
begun-closes (Some (text characters)) = refl
begun-closes (Some (comment characters)) = refl
begun-closes (Some (instruction name body)) = refl

begun-root : (content : Option Content) → kind_at content ≡ Some Root → begun (lines_at first_lines content) ≡ 0
unfolding begun begins
begun-root None is = refl
begun-root (Some root) is = refl
begun-root (Some (element name decls)) is = absurd (cc)
begun-root (Some (attribute name value)) is = absurd (cc)
begun-root (Some (text characters)) is = absurd (cc)
begun-root (Some (comment characters)) is = absurd (cc)
begun-root (Some (instruction name body)) is = absurd (cc)

begun-content : (content : Content) → (kind_at (Some content) ≡ Some Root → ⊥) → begun (first_lines content) ≡ 1
unfolding begun begins
begun-content root other = absurd (other refl)
begun-content (element name decls) other = ap (λ n. 1 + n) (begun-declares decls)
begun-content (attribute name value) other = refl
begun-content (text characters) other = refl
begun-content (comment characters) other = refl
begun-content (instruction name body) other = refl

begun-entry : (entry : Option Facts) → is_some entry ≡ true → (kind_at (content_at entry) ≡ Some Root → ⊥) →
    begun (lines_at first_lines (content_at entry)) ≡ 1
begun-entry None live other = absurd (cc)
begun-entry (Some facts) live other = begun-content facts.content other

-- a walk
module _ (T : Table) where
  brings : ℕ → ℕ
  brings n = begun (opens T n)

  along : List ℕ → ℕ
  along [] = 0
  along (n ∷ ns) = brings n + along ns

  along-append : (xs ys : List ℕ) → along (xs ++ ys) ≡ along xs + along ys
  unfolding along
  along-append [] ys = omega arith
  along-append (x ∷ xs) ys = omega (arith, along-append xs ys)

  begun-flat : (f : ℕ → List Line) (g : ℕ → List ℕ) → ((n : ℕ) → begun (f n) ≡ along (g n)) → (ns : List ℕ) →
      begun (flat_map f ns) ≡ along (flat_map g ns)
  unfolding begun along
  begun-flat f g same [] = refl
  begun-flat f g same (n ∷ ns) =
      begun-append (f n) (flat_map f ns)
      ∙ ap (λ k. k + begun (flat_map f ns)) (same n)
      ∙ ap (λ k. along (g n) + k) (begun-flat f g same ns)
      ∙ sym (along-append (g n) (flat_map g ns))

  begun-node : (n : ℕ) → begun (opens T n) ≡ along (n ∷ [])
  unfolding along brings
  begun-node n = omega arith

  begun-walk : (levels n : ℕ) → begun (walk T (opens T) (closes T) levels n) ≡ along (walk T (λ m. m ∷ []) (λ _. []) levels n)
  unfolding begun along
  begun-walk zero n = refl
  begun-walk (suc levels) n =
      let A = flat_map (opens T) (n ∷ attrs_of T n) in
      let B = flat_map (λ kid. walk T (opens T) (closes T) levels kid) (kids_of T n) in
      let A' = flat_map (λ (m : ℕ). m ∷ []) (n ∷ attrs_of T n) in
      let B' = flat_map (λ kid. walk T (λ m. m ∷ []) (λ _. []) levels kid) (kids_of T n) in
      begun-append A (B ++ closes T n)
      ∙ ap (λ k. begun A + k) (begun-append B (closes T n) ∙ ap (λ k. begun B + k) (begun-closes (content_of T n)))
      ∙ ap (λ k. k + (begun B + 0)) (begun-flat (opens T) (λ m. m ∷ []) begun-node (n ∷ attrs_of T n))
      ∙ ap (λ k. along A' + (k + 0))
      (begun-flat (λ kid. walk T (opens T) (closes T) levels kid) (λ kid. walk T (λ m. m ∷ []) (λ _. []) levels kid) (begun-walk levels) (kids_of T n))
      ∙ sym (along-append A' (B' ++ []) ∙ ap (λ k. along A' + k) (along-append B' []))

  -- each number but the root's brings a node
  along-upto : WellFormed T → AllLive T → (k : ℕ) → k < length T → along (upto (suc k)) ≡ k
  unfolding along brings
  along-upto formed live zero less = ap (λ n. n + 0) (begun-root (content_of T 0) formed.root_kind)
  along-upto formed live (suc k) less =
      let here : begun (opens T (suc k)) ≡ 1 =
      begun-entry (entry_at T (suc k)) (live (suc k) less) (λ is. no-root k (formed.one_root (suc k) is)) in
      along-append (upto (suc k)) (suc k ∷ [])
      ∙ omega (arith, here, along-upto formed live k (omega (arith, less)))
    where
      no-root : (k : ℕ) → suc k ≡ 0 → ⊥
      no-root k h = omega (arith, h)

length-upto : (k : ℕ) → length (upto k) ≡ k
length-upto zero = refl
length-upto (suc k) = length-append (upto k) (k ∷ []) ∙ omega (arith, length-upto k)

no-table : kind_of [] 0 ≡ Some Root → ⊥
no-table h = absurd (cc)

same-length : (T : Table) → WellFormed T → AllLive T → length T ≡ suc (along T (upto (length T)))
same-length [] formed live = absurd (no-table formed.root_kind)
same-length (entry ∷ T) formed live = ap suc (sym (along-upto (entry ∷ T) formed live (length T) (omega arith)))

pub nodes_counted : (events : List Event) (T : Table) → Scoped events T → length (order T) ≡ suc (nodes_of events)
nodes_counted events T scoped =
    ap length scoped.numbered
    ∙ length-upto (length T)
    ∙ same-length T scoped.well_formed scoped.all_live
    ∙ ap (λ l. suc (along T l)) (sym scoped.numbered)
    ∙ ap suc
    (sym (begun-walk T (length T) 0)
    ∙ sym (begun-unscoped (lines T))
    ∙ ap begun scoped.lines_are
    ∙ begun-events events)
