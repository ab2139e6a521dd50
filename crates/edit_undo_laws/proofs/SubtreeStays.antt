-- Where a node goes, what stands below another kid of the same parent stays, and the events that tell it.
use Rattle.std.proofs.Common.{◌≡◌, ◌≢◌, ℕ, ◌≤◌, zero, suc, true, List, [], ◌∷◌, ◌++◌, length, map, Option, None, Some, refl, sym, ap, ap₂, ◌∙◌, subst, ⊎_elim, arith}
use Rattle.std.specs.List.{flat_map}
use Rattle.pyx_core.specs.declared.event.Attr.{Attr}
use Rattle.pyx_core.specs.declared.event.Event.{Event}
use Rattle.pyx_core.specs.declared.event.Event.TheVariants.{Start}
use Rattle.doc_table.proofs.ListLemmas.{In, In-cons, In-mem, flat_map-same}
use Rattle.doc_table.proofs.TreeLaws.{ways-up, well-formed}
use Rattle.doc_table.specs.inner.Sound.{Formed}
use Rattle.doc_edits.proofs.ClearLemmas.{cut-length}
use Rattle.doc_edits.proofs.RemovalLemmas.{remaining}
use Rattle.doc_tree.specs.QNames.{qname_of}
use Rattle.doc_tree.specs.Table.{Content, Table, root, element, attribute, text, comment, instruction, attrs_of, content_of, is_live, kids_of, parent_of}
use Rattle.doc_tree.specs.Walks.{ancestors, below, walk, walked}
use Rattle.doc_undo_laws.proofs.Settling.{attribute-stays, kid-other, kid-stays, removed-stays}
use Rattle.subtree_events.specs.Events.{attr_in, begin_events, declaring_attr, end_events, events_below}

-- a node that stays, deeper than another
record Deeper (T R : Table) (p m : ℕ) : Type 0 where
  lives : is_live R m ≡ true
  deep : suc (length (ancestors T p)) ≤ length (ancestors T m)

module _ (T : Table) (r p : ℕ) (t : Formed T) (up : parent_of T r ≡ Some p) (kid : In r (kids_of T p)) where
  abbrev R : Table
  R = remaining T r p t up

  other : (m : ℕ) → Deeper T R p m → m ≢ p
  other m d e = absurd (omega (arith, d.deep, ap (λ k. length (ancestors T k)) e))

  down : (m k : ℕ) → Deeper T R p m → In k (kids_of T m) → Deeper T R p k
  down m k d h = record {
    lives = kid-stays T r p t up kid m k d.lives (kid-other T r p t up kid m k (other m d) h) h;
    deep = omega (arith, d.deep, ap length ((ways-up T t).ancestors_at k m ((well-formed T t).kid_parent m k (In-mem k (kids_of T m) h))));
  }

  -- a walk that tells the same of each node that stays tells the same below one
  module _ {A : Type 0} (tells closes : Table → ℕ → List A) (begins : (m : ℕ) → is_live R m ≡ true → tells R m ≡ tells T m) (ends : (m : ℕ) → is_live R m ≡ true → closes R m ≡ closes T m) where
    abbrev told : Table → ℕ → ℕ → List A
    told U levels m = walk U (tells U) (closes U) levels m

    here : (m k : ℕ) → is_live R m ≡ true → In k (m ∷ attrs_of T m) → is_live R k ≡ true
    here m k lives h =
        ⊎_elim (λ (e : k ≡ m). subst (λ j. is_live R j ≡ true) (sym e) lives) (λ (among : In k (attrs_of T m)). attribute-stays T r p t up kid m k lives among) (In-cons k m (attrs_of T m) h)

    walk-stays : (levels m : ℕ) → Deeper T R p m → told R levels m ≡ told T levels m
    walk-stays zero m d = refl
    walk-stays (suc levels) m d =
        ap₂ (λ (a : List ℕ) (k : List ℕ). flat_map (tells R) (m ∷ a) ++ (flat_map (told R levels) k ++ closes R m))
        (removed-stays T r p t up kid m d.lives).attributes ((removed-stays T r p t up kid m d.lives).kids (other m d))
        ∙ ap₂ (λ (a b : List A). a ++ b) (flat_map-same (tells R) (tells T) (m ∷ attrs_of T m) (λ k h. begins k (here m k d.lives h)))
        (ap₂ (λ (a b : List A). a ++ b) (flat_map-same (told R levels) (told T levels) (kids_of T m) (λ k h. walk-stays levels k (down m k d h))) (ends m d.lives))

    pub walked-stays : (n : ℕ) → n ≢ r → In n (kids_of T p) → is_live R p ≡ true → walked R (tells R) (closes R) n ≡ walked T (tells T) (closes T) n
    walked-stays n ne h live =
        ap (λ l. told R l n) (cut-length T r p (below T r))
        ∙ walk-stays (length T) n (record {
          lives = kid-stays T r p t up kid p n live ne h;
          deep = omega (arith, ap length ((ways-up T t).ancestors_at n p ((well-formed T t).kid_parent p n (In-mem n (kids_of T p) h))));
        })

  pub below-stays : (n : ℕ) → n ≢ r → In n (kids_of T p) → is_live R p ≡ true → below R n ≡ below T n
  below-stays n ne h live = walked-stays (λ _ m. m ∷ []) (λ _ _. []) (λ m lives. refl) (λ m lives. refl) n ne h live

  content-stays : (m : ℕ) → is_live R m ≡ true → content_of R m ≡ content_of T m
  content-stays m lives = (removed-stays T r p t up kid m lives).content

  attrs-stay : (m : ℕ) → is_live R m ≡ true → flat_map (λ a. attr_in (content_of R a)) (attrs_of R m) ≡ flat_map (λ a. attr_in (content_of T a)) (attrs_of T m)
  attrs-stay m lives =
      ap (flat_map (λ a. attr_in (content_of R a))) (removed-stays T r p t up kid m lives).attributes
      ∙ flat_map-same (λ a. attr_in (content_of R a)) (λ a. attr_in (content_of T a)) (attrs_of T m) (λ a h. ap attr_in (content-stays a (attribute-stays T r p t up kid m a lives h)))

  begin-stays : (m : ℕ) → is_live R m ≡ true → (c : Option Content) → begin_events R m c ≡ begin_events T m c
  begin-stays m lives None = refl
  begin-stays m lives (Some root) = refl
  begin-stays m lives (Some (element name decls)) = ap (λ (attrs : List Attr). Start (qname_of name) (map declaring_attr decls ++ attrs) ∷ []) (attrs-stay m lives)
  begin-stays m lives (Some (attribute name value)) = refl
  begin-stays m lives (Some (text characters)) = refl
  begin-stays m lives (Some (comment characters)) = refl
  begin-stays m lives (Some (instruction name body)) = refl

  pub events-stay : (n : ℕ) → n ≢ r → In n (kids_of T p) → is_live R p ≡ true → events_below R n ≡ events_below T n
  events-stay n ne h live =
      walked-stays {A = Event} (λ U m. begin_events U m (content_of U m)) (λ U m. end_events (content_of U m))
      (λ m lives. begin-stays m lives (content_of R m) ∙ ap (begin_events T m) (content-stays m lives)) (λ m lives. ap end_events (content-stays m lives)) n ne h live
