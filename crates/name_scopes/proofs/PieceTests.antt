-- The tests of a fragment, event by event.
use Rattle.std.proofs.Common.{◌≡◌, ℕ, ◌+◌, ◌<◌, Bool, true, false, ◌||◌, List, [], ◌∷◌, ◌++◌, length, map, get_or, drop, take, Option, None, Some, refl, sym, ap, ap₂, ◌∙◌, subst, true≢false}
use Rattle.std.specs.List.{list_any}
use Rattle.std.specs.Prelude.{if◌then◌else◌, Result, Ok, Err, IfErr, IsErrAnd}
use Rattle.std.proofs.lemmas.List.{drop_more, take_more}
use Rattle.std.proofs.Math.Seq.{drop-append_seam}
use Rattle.pyx_core.specs.declared.event.Attr.{Attr}
use Rattle.pyx_core.specs.declared.event.Event.{Event}
use Rattle.pyx_core.specs.declared.event.Event.TheVariants as event
use Rattle.doc_tree.specs.declared.refusal.EditRefusal.{EditRefusal}
use Rattle.doc_tree.specs.declared.refusal.EditRefusal.TheVariants as refusal
use Rattle.doc_tree.specs.Scope.{Decl}
use Rattle.name_scopes.specs.declared.open_tags.OpenTags.{OpenTags}
use Rattle.name_scopes.specs.declared.refusal.PieceError.{PieceError}
use Rattle.name_scopes.specs.declared.refusal.PieceError.TheVariants.{Memory}
use Rattle.name_scopes.specs.DocFaults.{in_scope, outer_scopes}
use Rattle.name_scopes.specs.Fragments.{Refuses, is_start, some_tag, tag_doubles, tag_lacks_prefix}
use Rattle.name_scopes.specs.inner.Piece.{Stands, scopes_after, holds_of_tag, names_refusal}
use Rattle.name_scopes.specs.inner.Scope.{newest_first}
use Rattle.name_scopes.proofs.BindingLemmas.{newest-push}

-- an event more, or one less
pub tested-next : (test : List Decl → List ℕ → List Attr → Bool) (scopes : List (List Decl)) (e : Event) (rest : List Event) →
    some_tag test scopes (e ∷ rest) ≡ (holds_of_tag test (in_scope (scopes_after scopes e)) e || some_tag test (scopes_after scopes e) rest)
tested-next test scopes (event.Start name attrs) rest = refl
tested-next test scopes (event.End name) rest = refl
tested-next test scopes (event.Chars text) rest = refl
tested-next test scopes (event.Pi target body) rest = refl
tested-next test scopes (event.Comment text) rest = refl

-- what is known of the events so far, where these are left
pub record Tested (around : List Decl) (events rest : List Event) (doubled : Bool) (tags : OpenTags) : Type 0 where
  pub scopes : List (List Decl)
  pub stands : Stands scopes tags
  pub lacks : some_tag tag_lacks_prefix (around ∷ []) events ≡ some_tag tag_lacks_prefix scopes rest
  pub doubles : some_tag tag_doubles (around ∷ []) events ≡ (doubled || some_tag tag_doubles scopes rest)

pub tested-first : (around : List Decl) (events : List Event) (tags : OpenTags) → Stands (around ∷ []) tags → Tested around events events false tags
tested-first around events tags stands = record { scopes = around ∷ []; stands = stands; lacks = refl; doubles = refl }

module _ (around : List Decl) (events rest : List Event) (e : Event) (doubled : Bool) (tags next : OpenTags)
    (stands : (scopes : List (List Decl)) → Stands scopes tags → Stands (scopes_after scopes e) next) (was : Tested around events (e ∷ rest) doubled tags) where
  lacking : some_tag tag_lacks_prefix (around ∷ []) events ≡ (holds_of_tag tag_lacks_prefix next.scope e || some_tag tag_lacks_prefix (scopes_after was.scopes e) rest)
  lacking = was.lacks ∙ (tested-next tag_lacks_prefix was.scopes e rest
      ∙ ap (λ (s : List Decl). holds_of_tag tag_lacks_prefix s e || some_tag tag_lacks_prefix (scopes_after was.scopes e) rest) (sym (stands was.scopes was.stands).scope_is))

  doubling : some_tag tag_doubles (around ∷ []) events ≡ (doubled || (holds_of_tag tag_doubles next.scope e || some_tag tag_doubles (scopes_after was.scopes e) rest))
  doubling = was.doubles ∙ ap (λ (b : Bool). doubled || b) (tested-next tag_doubles was.scopes e rest
      ∙ ap (λ (s : List Decl). holds_of_tag tag_doubles s e || some_tag tag_doubles (scopes_after was.scopes e) rest) (sym (stands was.scopes was.stands).scope_is))

  -- a prefix isn't in scope
  pub tested-lacks : holds_of_tag tag_lacks_prefix next.scope e ≡ true → Some refusal.NoPrefix ≡ names_refusal around events
  tested-lacks h =
      let found : some_tag tag_lacks_prefix (around ∷ []) events ≡ true = lacking ∙ ap (λ (b : Bool). b || some_tag tag_lacks_prefix (scopes_after was.scopes e) rest) h in
      sym (ap (λ (b : Bool). if b then Some refusal.NoPrefix else if some_tag tag_doubles (around ∷ []) events then Some refusal.SameAttribute else None) found)

  pub tested-more : (twice : Bool) → holds_of_tag tag_lacks_prefix next.scope e ≡ false → holds_of_tag tag_doubles next.scope e ≡ twice → Tested around events rest (doubled || twice) next
  tested-more twice has is = record {
    scopes = scopes_after was.scopes e;
    stands = stands was.scopes was.stands;
    lacks = lacking ∙ ap (λ (b : Bool). b || some_tag tag_lacks_prefix (scopes_after was.scopes e) rest) has;
    doubles = doubling ∙ (ap (λ (b : Bool). doubled || (b || some_tag tag_doubles (scopes_after was.scopes e) rest)) is ∙ swap doubled twice (some_tag tag_doubles (scopes_after was.scopes e) rest));
  }
    where
      swap : (a b c : Bool) → (a || (b || c)) ≡ ((a || b) || c)
      swap true b c = refl
      swap false b c = refl

-- behind the last event
pub tested-all : (around : List Decl) (events : List Event) (doubled : Bool) (tags : OpenTags) → Tested around events [] doubled tags → names_refusal around events ≡ (if doubled then Some refusal.SameAttribute else None)
tested-all around events doubled tags was =
    ap₂ (λ (a b : Bool). if a then Some refusal.NoPrefix else if b then Some refusal.SameAttribute else None) was.lacks (was.doubles ∙ or-no doubled)
  where
    or-no : (b : Bool) → (b || false) ≡ b
    or-no true = refl
    or-no false = refl

-- open start tags
module _ (scopes : List (List Decl)) (old new : OpenTags) (was : Stands scopes old) where
  pub stands-start : (decls : List Decl) (count : ℕ) → new.scope ≡ decls ++ old.scope → new.counts.items ≡ old.counts.items ++ count ∷ [] → count ≡ length decls → Stands (decls ∷ scopes) new
  stands-start decls count scope_is counts_are is = record {
    scope_is = scope_is ∙ ap (λ (s : List Decl). decls ++ s) was.scope_is;
    counts_are = ap newest_first counts_are ∙ (newest-push old.counts.items count ∙ ap₂ (λ (k : ℕ) (l : List ℕ). k ∷ l) is was.counts_are);
  }

drop-seam : (xs ys : List Decl) (k : ℕ) → k ≡ length xs → drop k (xs ++ ys) ≡ ys
drop-seam xs ys k h = ap (λ (n : ℕ). drop n (xs ++ ys)) h ∙ drop-append_seam xs ys

-- the innermost one is closed
pub stands-end : (scopes : List (List Decl)) (old new : OpenTags) (count : ℕ) → new.scope ≡ drop count old.scope → old.counts.items ≡ new.counts.items ++ count ∷ [] → Stands scopes old → Stands (outer_scopes scopes) new
stands-end [] old new count scope_is counts_are was =
    let e : count ∷ newest_first new.counts.items ≡ [] = sym (ap newest_first counts_are ∙ newest-push new.counts.items count) ∙ was.counts_are in absurd (cc)
stands-end (decls ∷ scopes) old new count scope_is counts_are was =
    let e : count ∷ newest_first new.counts.items ≡ length decls ∷ map length scopes = sym (ap newest_first counts_are ∙ newest-push new.counts.items count) ∙ was.counts_are in
    let k : count ≡ length decls = (cc) in
    let l : newest_first new.counts.items ≡ map length scopes = (cc) in
    record { scope_is = scope_is ∙ (ap (drop count) was.scope_is ∙ drop-seam decls (in_scope scopes) count k); counts_are = l }

-- and where there is none, nothing changes
pub stands-none : (scopes : List (List Decl)) (old new : OpenTags) → new.scope ≡ old.scope → new.counts.items ≡ old.counts.items → old.counts.items ≡ [] → Stands scopes old → Stands (outer_scopes scopes) new
stands-none [] old new same_scope same_counts none was = record { scope_is = same_scope ∙ was.scope_is; counts_are = ap newest_first same_counts ∙ was.counts_are }
stands-none (decls ∷ scopes) old new same_scope same_counts none was =
    let e : [] ≡ length decls ∷ map length scopes = sym (ap newest_first none) ∙ was.counts_are in absurd (cc)

-- along the list of events
pub rest-at : (events : List Event) (i : ℕ) (found : Event) → i < length events → found ≡ get_or events i found → drop i events ≡ found ∷ drop (i + 1) events
rest-at events i found below is = drop_more events i found below ∙ ap (λ (x : Event). x ∷ drop (i + 1) events) (sym is)

pub front-next : (events : List Event) (i : ℕ) (found : Event) → i < length events → found ≡ get_or events i found → take (i + 1) events ≡ take i events ++ found ∷ []
front-next events i found below is = take_more events i found below ∙ ap (λ (x : Event). take i events ++ x ∷ []) (sym is)

-- without tags no name is faulty
some-tag-none : (test : List Decl → List ℕ → List Attr → Bool) (scopes : List (List Decl)) (events : List Event) → list_any is_start events ≡ false →
    some_tag test scopes events ≡ false
some-tag-none test scopes [] h = refl
some-tag-none test scopes (event.Start name attrs ∷ events) h = absurd (true≢false h)
some-tag-none test scopes (event.End name ∷ events) h = some-tag-none test (outer_scopes scopes) events h
some-tag-none test scopes (event.Chars text ∷ events) h = some-tag-none test scopes events h
some-tag-none test scopes (event.Pi target body ∷ events) h = some-tag-none test scopes events h
some-tag-none test scopes (event.Comment text ∷ events) h = some-tag-none test scopes events h

pub plain-names : (around : List Decl) (events : List Event) → list_any is_start events ≡ false → names_refusal around events ≡ None
plain-names around events h =
    ap₂ (λ (a b : Bool). if a then Some refusal.NoPrefix else if b then Some refusal.SameAttribute else None)
    (some-tag-none tag_lacks_prefix (around ∷ []) events h) (some-tag-none tag_doubles (around ∷ []) events h)

-- want of memory where there are tags, and where there is no reason
pub wanting-tags : {T : Type 0} (r : Result T PieceError) (events : List Event) (reason : Option EditRefusal) → list_any is_start events ≡ true →
    IsErrAnd r (λ error. error ≡ Memory) → IfErr r (Refuses events reason)
wanting-tags (Ok x) events reason tags h = tt
wanting-tags (Err e) events reason tags h = subst (Refuses events reason) (sym h) (λ plain. absurd (true≢false (sym tags ∙ plain)))

pub wanting-none : {T : Type 0} (r : Result T PieceError) (events : List Event) (reason : Option EditRefusal) → reason ≡ None →
    IsErrAnd r (λ error. error ≡ Memory) → IfErr r (Refuses events reason)
wanting-none (Ok x) events reason none h = tt
wanting-none (Err e) events reason none h = subst (Refuses events reason) (sym h) (λ plain. none)
