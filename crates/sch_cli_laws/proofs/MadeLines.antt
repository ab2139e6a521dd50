-- The tree of a schema with its includes replaced is made of Chars, as the trees of its files are: each of its lines is a line of
-- one of them.
use Rattle.std.proofs.Common.{◌≡◌, ◌⊎◌, inl, inr, ℕ, zero, suc, ◌+◌, ◌<◌, Bool, true, false, List, [], ◌∷◌, ◌++◌, length, map, Option, None, Some, refl, sym, ap, subst, ⊎_elim, arith}
use Rattle.std.specs.Prelude.{Result, Ok, Err}
use Rattle.std.specs.List.{flat_map}
use Rattle.sch_base.specs.declared.limits.TheConstants.{MAX_INCLUDE_DEPTH}
use Rattle.sch_io.specs.Files.{Files}
use Rattle.pyx_core.specs.Nesting.{of_chars}
use Rattle.doc_tree.specs.InOrder.{IsInOrder}
use Rattle.doc_tree.specs.Lines.{Line, closes, declares, ends, first_lines, has_attribute, has_comment, has_instruction, has_text, last_lines, lines, lines_at, opens, starts}
use Rattle.doc_tree.specs.Lists.{upto}
use Rattle.doc_tree.specs.Table.{Content, Facts, Table, attribute, attrs_of, comment, content_at, content_of, element, entry_at, instruction, kids_of, root, text}
use Rattle.doc_tree.specs.Walks.{walk}
use Rattle.sch_rules.specs.Elements.{document_element}
use Rattle.sch_flat_laws.specs.Readable.{Each}
use Rattle.sch_flat_laws.specs.Accepted.{MadeContent, MadeOfChars, ScopedTreesAreMade}
use Rattle.sch_include.specs.declared.fault.IncludeFault.{IncludeFault}
use Rattle.sch_include.specs.Included.{Included, Schema, WholeFile, as_it_is, nothing, whole_source}
use Rattle.sch_include.specs.Includes.{is_include}
use Rattle.sch_include.specs.Parts.{Choice, InTurn, Part, Standing, Stopped, Then, Told, With, followed_by}
use Rattle.sch_include.specs.Taking.{From, Loading, Opening, Placing, Reading, Source, Taking, Walked, fitting, included_name, included_source, loaded}
use Rattle.sch_include.proofs.PartLemmas.{Done, Fault, Outcome, ok-same}

-- each of a list, part by part
pub each-append : {A : Type 0} (P : A → Type 0) (xs ys : List A) → Each P xs → Each P ys → Each P (xs ++ ys)
each-append P [] ys h k = k
each-append P (x ∷ xs) ys h k = (h.0, each-append P xs ys h.1 k)

pub each-front : {A : Type 0} (P : A → Type 0) (xs ys : List A) → Each P (xs ++ ys) → Each P xs
each-front P [] ys h = tt
each-front P (x ∷ xs) ys h = (h.0, each-front P xs ys h.1)

pub each-back : {A : Type 0} (P : A → Type 0) (xs ys : List A) → Each P (xs ++ ys) → Each P ys
each-back P [] ys h = h
each-back P (x ∷ xs) ys h = each-back P xs ys h.1

pub each-flat : {A B : Type 0} (P : B → Type 0) (f : A → List B) → ((x : A) → Each P (f x)) → (xs : List A) → Each P (flat_map f xs)
each-flat P f each [] = tt
each-flat P f each (x ∷ xs) = each-append P (f x) (flat_map f xs) (each x) (each-flat P f each xs)

-- what holds of what a walk tells of each node holds along document order
module _ {A : Type 0} (P : A → Type 0) (T : Table) (tells closes : ℕ → List A) where
  Tells : ℕ → Type 0
  Tells n = Each P (tells n)

  own-told : (ns : List ℕ) → Each P (flat_map tells ns) → Each Tells (flat_map (λ n. n ∷ []) ns)
  unfolding Tells
  own-told [] h = tt
  own-told (n ∷ ns) h = (each-front P (tells n) (flat_map tells ns) h, own-told ns (each-back P (tells n) (flat_map tells ns) h))

  kids-told : (tell : ℕ → List A) (list : ℕ → List ℕ) → ((n : ℕ) → Each P (tell n) → Each Tells (list n)) → (ns : List ℕ) → Each P (flat_map tell ns) → Each Tells (flat_map list ns)
  kids-told tell list one [] h = tt
  kids-told tell list one (k ∷ ns) h =
      each-append Tells (list k) (flat_map list ns) (one k (each-front P (tell k) (flat_map tell ns) h)) (kids-told tell list one ns (each-back P (tell k) (flat_map tell ns) h))

  walk-told : (levels n : ℕ) → Each P (walk T tells closes levels n) → Each Tells (walk T (λ m. m ∷ []) (λ _. []) levels n)
  walk-told zero n h = tt
  walk-told (suc levels) n h =
      let own : List A = flat_map tells (n ∷ attrs_of T n) in
      let below : List A = flat_map (λ kid. walk T tells closes levels kid) (kids_of T n) in
      let numbers : List ℕ = flat_map (λ kid. walk T (λ m. m ∷ []) (λ _. []) levels kid) (kids_of T n) in
      each-append Tells (flat_map (λ m. m ∷ []) (n ∷ attrs_of T n)) (numbers ++ []) (own-told (n ∷ attrs_of T n) (each-front P own (below ++ closes n) h))
      (each-append Tells numbers []
      (kids-told (λ kid. walk T tells closes levels kid) (λ kid. walk T (λ m. m ∷ []) (λ _. []) levels kid) (walk-told levels) (kids_of T n)
      (each-front P below (closes n) (each-back P own (below ++ closes n) h))) tt)

pub each-upto : (P : ℕ → Type 0) (k n : ℕ) → n < k → Each P (upto k) → P n
each-upto P zero n below h = absurd (omega arith)
each-upto P (suc k) n below h =
    ⊎_elim (λ (e : n ≡ k). subst P (sym e) (each-back P (upto k) (k ∷ []) h).0)
    (λ (less : n < k). each-upto P k n less (each-front P (upto k) (k ∷ []) h)) (or-less n k below)
  where
    or-less : (n k : ℕ) → n < suc k → (n ≡ k) ⊎ (n < k)
    or-less zero zero below = inl refl
    or-less zero (suc k) below = inr (omega arith)
    or-less (suc n) zero below = absurd (omega arith)
    or-less (suc n) (suc k) below = ⊎_elim (λ (e : n ≡ k). inl (ap suc e)) (λ (less : n < k). inr (omega arith)) (or-less n k (omega arith))

-- what holds of each line holds of those with which each node begins
pub opens-each : (P : Line → Type 0) (T : Table) → IsInOrder T → Each P (lines T) → (n : ℕ) → Each P (opens T n)
unfolding Tells
opens-each P T numbered h n = by (entry_at T n) refl
  where
    inside : (T : Table) (n : ℕ) (node : Facts) → entry_at T n ≡ Some node → n < length T
    inside [] n node is = absurd (cc)
    inside (x ∷ T) zero node is = omega arith
    inside (x ∷ T) (suc n) node is = let more : n < length T = inside T n node is in omega (arith, more)

    by : (entry : Option Facts) → entry_at T n ≡ entry → Each P (opens T n)
    by None is = subst (λ (content : Option Content). Each P (lines_at first_lines content)) (sym (ap content_at is)) tt
    by (Some node) is =
        each-upto (Tells P T (opens T) (closes T)) (length T) n (inside T n node is)
        (subst (Each (Tells P T (opens T) (closes T))) numbered (walk-told P T (opens T) (closes T) (length T) 0 h))

-- a line whose text is made of Chars
abbrev pub MadeLine : Line → Type 0
MadeLine (starts name) = Unit {0}
MadeLine (declares decl) = Unit {0}
MadeLine (has_attribute name value) = of_chars value ≡ true
MadeLine (ends name) = Unit {0}
MadeLine (has_text characters) = of_chars characters ≡ true
MadeLine (has_comment characters) = of_chars characters ≡ true
MadeLine (has_instruction name body) = of_chars body ≡ true

declares-made : (decls : List (List ℕ × List ℕ)) → Each MadeLine (map declares decls)
declares-made [] = tt
declares-made (d ∷ decls) = (tt, declares-made decls)

opens-made : (T : Table) → MadeOfChars T → (n : ℕ) → Each MadeLine (opens T n)
opens-made T made n = by (content_of T n) (made n)
  where
    by : (content : Option Content) → MadeContent content → Each MadeLine (lines_at first_lines content)
    by None here = tt
    by (Some root) here = tt
    by (Some (element name decls)) here = (tt, declares-made decls)
    by (Some (attribute name value)) here = (here, tt)
    by (Some (text characters)) here = (here, tt)
    by (Some (comment characters)) here = (here, tt)
    by (Some (instruction name body)) here = (here, tt)

closes-made : (T : Table) (n : ℕ) → Each MadeLine (closes T n)
closes-made T n = by (content_of T n)
  where
    by : (content : Option Content) → Each MadeLine (lines_at last_lines content)
    by None = tt
    by (Some root) = tt
    by (Some (element name decls)) = (tt, tt)
    by (Some (attribute name value)) = tt
    by (Some (text characters)) = tt
    by (Some (comment characters)) = tt
    by (Some (instruction name body)) = tt

-- a table in order whose lines are made so
made-by-lines : (T : Table) → IsInOrder T → Each MadeLine (lines T) → MadeOfChars T
made-by-lines T numbered h n = by (content_of T n) (opens-each MadeLine T numbered h n)
  where
    by : (content : Option Content) → Each MadeLine (lines_at first_lines content) → MadeContent content
    by None here = tt
    by (Some root) here = tt
    by (Some (element name decls)) here = tt
    by (Some (attribute name value)) here = here.0
    by (Some (text characters)) here = here.0
    by (Some (comment characters)) here = here.0
    by (Some (instruction name body)) here = here.0

-- a part gives lines that are made so
abbrev MadePart : Part → Type 0
MadePart part = (before after : Standing) (told : List Line) → part before after (Ok told) → Each MadeLine told

ok≢err : (a : List Line) (fault : IncludeFault) → Done a ≡ Fault fault → ⊥
ok≢err a fault h = cc

told-made : (told : List Line) → Each MadeLine told → MadePart (Told told)
told-made told h before after more x = subst (Each MadeLine) (sym (ok-same more told x.1)) h

stopped-made : (fault : IncludeFault) → MadePart (Stopped fault)
stopped-made fault before after told x = absurd (ok≢err told fault x.1)

then-made : (first next : Part) → MadePart first → MadePart next → MadePart (Then first next)
then-made first next one two before after told x = by x.either
  where
    more-made : (between : Standing) (told lines : List Line) (more : Outcome) → Each MadeLine lines → next between after more → Done told ≡ followed_by lines more → Each MadeLine told
    more-made between told lines (Ok more) h y is = subst (Each MadeLine) (sym (ok-same told (lines ++ more) is)) (each-append MadeLine lines more h (two between after more y))
    more-made between told lines (Err fault) h y is = absurd (ok≢err told fault is)

    by : ((fault : IncludeFault) × first before after (Err fault) × (Done told ≡ Err fault))
        ⊎ ((between : Standing) × (lines : List Line) × (more : Outcome) × first before between (Ok lines) × next between after more × (Done told ≡ followed_by lines more)) →
        Each MadeLine told
    by (inl y) = absurd (ok≢err told y.0 y.2)
    by (inr y) = more-made y.0 told y.1 y.2 (one before y.0 y.1 y.3) y.4 y.5

in-turn-made : (part : ℕ → Part) → ((n : ℕ) → MadePart (part n)) → (ns : List ℕ) → MadePart (InTurn part ns)
in-turn-made part one [] = told-made [] tt
in-turn-made part one (n ∷ ns) = then-made (part n) (InTurn part ns) (one n) (in-turn-made part one ns)

choice-made : (b : Bool) (first second : Part) → MadePart first → MadePart second → MadePart (Choice b first second)
choice-made true first second one two = one
choice-made false first second one two = two

with-made : {A : Type 0} (value : Result A IncludeFault) (part : A → Part) → ((a : A) → MadePart (part a)) → MadePart (With value part)
with-made (Ok value) part one = one value
with-made (Err fault) part one = stopped-made fault

walked-made : (taking : ℕ → Part) → ((n : ℕ) → MadePart (taking n)) → (T : Table) → MadeOfChars T → (levels n : ℕ) → MadePart (Walked taking T levels n)
walked-made taking one T made zero n = told-made [] tt
walked-made taking one T made (suc levels) n =
    let front : List Line = flat_map (opens T) (n ∷ attrs_of T n) in
    let kids : Part = InTurn (Walked taking T levels) (kids_of T n) in
    choice-made (is_include T n) (taking n) (Then (Told front) (Then kids (Told (closes T n)))) (one n)
    (then-made (Told front) (Then kids (Told (closes T n))) (told-made front (each-flat MadeLine (opens T) (opens-made T made) (n ∷ attrs_of T n)))
    (then-made kids (Told (closes T n)) (in-turn-made (Walked taking T levels) (walked-made taking one T made levels) (kids_of T n))
    (told-made (closes T n) (closes-made T n))))

module _ (scoped : ScopedTreesAreMade) (files : Files) where
  loading-made : (name : List ℕ) (T : Table) → Loading files name (Ok T) → MadeOfChars T
  loading-made name _ (loaded bytes held short sound T is) = scoped T is.in_scope

  opening-made : (name : List ℕ) (next : Table → Part) → ((T : Table) → MadeOfChars T → MadePart (next T)) → MadePart (Opening files name next)
  opening-made name next one before after told x = by x.either
    where
      by : ((fault : IncludeFault) × Loading files name (Err fault) × (after ≡ record before { opened = before.opened ++ name ∷ [] }) × (Done told ≡ Err fault))
          ⊎ ((T : Table) × Loading files name (Ok T) × next T (record before { opened = before.opened ++ name ∷ [] }) after (Ok told)) → Each MadeLine told
      by (inl y) = absurd (ok≢err told y.0 y.3)
      by (inr y) = one y.0 (loading-made name y.0 y.1) (record before { opened = before.opened ++ name ∷ [] }) after told y.2

  from-made : (standing : Standing) (part : Part) → MadePart part → MadePart (From standing part)
  from-made standing part one before after told x = one standing after told x

  placing-made : (taking : Source → ℕ → Part) → ((source : Source) (n : ℕ) → MadePart (taking source n)) → (source : Source) (n : ℕ) (name : List ℕ) (T : Table) → MadeOfChars T →
      MadePart (Placing taking source n name T)
  placing-made taking one source n name T made before after told x =
      let inner : Source = included_source source n name T in
      with-made (fitting source n name T before) (λ standing. From standing (Reading taking inner (document_element T)))
      (λ standing. from-made standing (Reading taking inner (document_element T)) (walked-made (taking inner) (one inner) T made (length T) (document_element T)))
      before after told x

  taking-made : (depth : ℕ) (source : Source) (n : ℕ) → MadePart (Taking files depth source n)
  taking-made zero source n before after told x = told-made [] tt before after told x
  taking-made (suc depth) source n before after told x =
      with-made (included_name source before n) (λ name. Opening files name (Placing (Taking files depth) source n name))
      (λ name. opening-made name (Placing (Taking files depth) source n name) (placing-made (Taking files depth) (taking-made depth) source n name)) before after told x

  schema-made : (name : List ℕ) → MadePart (Schema files name)
  schema-made name =
      opening-made name (WholeFile files name) (λ T made before after told x.
      walked-made (Taking files (MAX_INCLUDE_DEPTH + 1) (whole_source name T)) (taking-made (MAX_INCLUDE_DEPTH + 1) (whole_source name T)) T made (length T) 0
      (as_it_is T before) after told x)

  pub included-made : (name : List ℕ) (opened : List (List ℕ)) (T : Table) → Included files name opened T → MadeOfChars T
  included-made name opened T included =
      made-by-lines T included.document.numbered (schema-made name nothing included.after (lines T) included.gives)
