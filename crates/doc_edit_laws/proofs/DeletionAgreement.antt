-- A node is deleted: the tree loses it, and of two texts that then meet the right one, and the left one says both.
use Rattle.std.proofs.Common.{◌≡◌, ◌≢◌, ℕ, ◌≤◌, suc, Bool, true, false, ◌&&◌, ◌||◌, List, [], ◌∷◌, ◌++◌, Option, None, Some, refl, sym, ap, ◌∙◌, subst, ⊎_elim, true≢false, arith, eqb, eq-eqb, eqb-true}
use Rattle.std.specs.Prelude.{if◌then◌else◌}
use Rattle.doc_table.specs.inner.Sound.{Formed}
use Rattle.doc_table.proofs.Forests.{formed-of}
use Rattle.doc_table.proofs.TreeLaws.{well-formed, ordered, ways-up}
use Rattle.doc_table.proofs.Ways.{parent-has}
use Rattle.doc_tree.specs.cell.Cell.{Cell}
use Rattle.doc_tree.specs.cell.Cell.TheVariants.{Value}
use Rattle.doc_tree.specs.kind.Kind.{Kind}
use Rattle.doc_tree.specs.kind.Kind.TheVariants as kinds
use Rattle.doc_tree.specs.Kinds.{can_be_kid, holds_kids, is_text}
use Rattle.doc_tree.specs.Laws.{WellFormed, HasWaysUp}
use Rattle.doc_tree.specs.Lists.{occurs}
use Rattle.doc_tree.specs.Table.{Table, content_at, kids_above, kids_of, kind_of, parent_of, value_of}
use Rattle.doc_tree.specs.Walks.{above, below}
use Rattle.doc_tree.proofs.ListLemmas.{In, In-mem, mem-In, In-cons, occurs-append, occurs-head, occurs-same}
use Rattle.doc_tree.proofs.OrderLemmas.{nested}
use Rattle.doc_edit_laws.specs.Agreement.{Agree}
use Rattle.doc_edits.specs.Changes.{deleted, Meeting, deleted_by, meeting, removed, removed_from, said, saying, with_text}
use Rattle.doc_edits.specs.Keeping.{DeletionsKeepTrees}
use Rattle.doc_edits.proofs.ClearLemmas.{cut}
use Rattle.doc_edits.proofs.PruneLemmas.{cut_at, none-in}
use Rattle.doc_edits.proofs.RecontentLemmas.{same-kind, same-links, same-live, same-name}
use Rattle.doc_edits.proofs.SayingLemmas.{saying-kind, saying-name}
use Rattle.doc_edits.proofs.TableLemmas.{changed-length, changed-other}
use Rattle.doc_edit_laws.specs.Touching.{touched_kids, touched_meeting, touched_deletion}
use Rattle.doc_edit_laws.specs.Leaving.{DeletionsLeave}
use Rattle.doc_edit_laws.proofs.RemovalAgreement.{SameNode, Lost, none-lost, Covers, below-same, lost-agree, out-beside, lose}

-- a kid that holds none says another text
module _ (T U : Table) (p l : ℕ) (gone new : List ℕ) (lost : Lost T U p gone []) (under : parent_of T l ≡ Some p) (no_kids : holds_kids (kind_of T l) ≡ false) where
  same-told : (m : ℕ) → SameNode T U m → SameNode T (said U l new) m
  same-told m same =
      let links = same-links (saying new) (saying-kind new) U l m in
      record {
        live = same-live (saying new) (saying-kind new) U l m ∙ same.live;
        parent = links.parent ∙ same.parent;
        attributes = links.attributes ∙ same.attributes;
        kind = same-kind (saying new) (saying-kind new) U l m ∙ same.kind;
        name = same-name (saying new) (saying-name new) U l m ∙ same.name;
      }

  retell : Lost T (said U l new) p gone (l ∷ [])
  retell = record {
    same_length = changed-length U l (with_text new) ∙ lost.same_length;
    root_stays = lost.root_stays;
    apart = lost.apart;
    down = lost.down;
    up = lost.up;
    attributes_stay = lost.attributes_stay;
    dead = λ m h. same-live (saying new) (saying-kind new) U l m ∙ lost.dead m h;
    same = λ m h. same-told m (lost.same m h);
    kids = λ m h. (same-links (saying new) (saying-kind new) U l m).kids ∙ lost.kids m h;
    content = λ m h out.
        ap content_at (changed-other U l (with_text new) m
        (λ e. absurd (let i : In m (l ∷ []) = subst (λ k. In m (k ∷ [])) e (occurs-head m []) in omega arith)))
        ∙ lost.content m h refl;
    told_under = λ m h. ⊎_elim
        (λ (e : m ≡ l). subst (λ k. (parent_of T k ≡ Some p) × (holds_kids (kind_of T k) ≡ false)) (sym e) (under, no_kids))
        (λ (i : In m []). absurd (omega arith))
        (In-cons m l [] h);
  }

-- a text holds no kids
text-holds-none : (o : Option Kind) → is_text o ≡ true → holds_kids o ≡ false
text-holds-none None h = refl
text-holds-none (Some kinds.Root) h = absurd (true≢false (sym h))
text-holds-none (Some kinds.Element) h = absurd (true≢false (sym h))
text-holds-none (Some kinds.Attribute) h = refl
text-holds-none (Some kinds.Text) h = refl
text-holds-none (Some kinds.Comment) h = refl
text-holds-none (Some kinds.Pi) h = refl

-- two texts that meet at a number of a list stand in it, and the right one is not that number
record Met (T : Table) (n : ℕ) (xs : List ℕ) (texts : Meeting) : Type 0 where
  left : In texts.left xs
  right : In texts.right xs
  other : texts.right ≢ n
  is_left_text : is_text (kind_of T texts.left) ≡ true

met : (T : Table) (n : ℕ) (xs : List ℕ) (texts : Meeting) → occurs n xs ≤ 1 → meeting T n xs ≡ Some texts → Met T n xs texts
met T n [] texts once h = absurd (cc)
met T n (l ∷ []) texts once h = absurd (cc)
met T n (l ∷ m ∷ []) texts once h = absurd (cc)
met T n (l ∷ m ∷ r ∷ ms) texts once h =
    by (eqb m n) (is_text (kind_of T l)) (is_text (kind_of T r)) (record { left = l; right = r }) refl refl refl refl h (λ e. met T n (m ∷ r ∷ ms) texts (omega (arith, once)) e)
  where
    by : (same first second : Bool) (here : Meeting) → here.left ≡ l → here.right ≡ r → eqb m n ≡ same → is_text (kind_of T l) ≡ first
        → (if same then (if first && second then Some here else None) else meeting T n (m ∷ r ∷ ms)) ≡ Some texts
        → (meeting T n (m ∷ r ∷ ms) ≡ Some texts → Met T n (m ∷ r ∷ ms) texts) → Met T n (l ∷ m ∷ r ∷ ms) texts
    by true true true here el er e t f more =
        let is : here ≡ texts = (cc) in
        let left_is : l ≡ texts.left = sym el ∙ ap (λ x. x.left) is in
        let right_is : r ≡ texts.right = sym er ∙ ap (λ x. x.right) is in
        record {
          left = subst (λ k. In k (l ∷ m ∷ r ∷ ms)) left_is (occurs-head l (m ∷ r ∷ ms));
          right = subst (λ k. In k (l ∷ m ∷ r ∷ ms)) right_is (omega (arith, occurs-head r ms));
          other = λ same.
              let again : In n (r ∷ ms) = subst (λ k. In n (k ∷ ms)) (sym (right_is ∙ same)) (occurs-head n ms) in
              let two : occurs n (m ∷ r ∷ ms) ≡ suc (occurs n (r ∷ ms)) = subst (λ k. occurs n (k ∷ r ∷ ms) ≡ suc (occurs n (r ∷ ms))) (sym (eqb-true m n e)) (occurs-same n (r ∷ ms)) in
              absurd (omega arith);
          is_left_text = subst (λ k. is_text (kind_of T k) ≡ true) left_is t;
        }
    by true true false here el er e t f more = absurd (cc)
    by true false second here el er e t f more = absurd (cc)
    by false first second here el er e t f more =
        let further : Met T n (m ∷ r ∷ ms) texts = more f in
        record { left = omega (arith, further.left); right = omega (arith, further.right); other = further.other; is_left_text = further.is_left_text }

-- a kid of p is deleted
module _ (T : Table) (n p : ℕ) (formed : Formed T) (kid : can_be_kid (kind_of T n) ≡ true) (up : parent_of T n ≡ Some p) where
  form : WellFormed T
  form = well-formed T formed

  ways : HasWaysUp T
  ways = ways-up T formed

  abbrev touches : Option Meeting → Cell → Bool
  touches o c = touched_kids T p c || touched_meeting o c

  covers : (o : Option Meeting) (told : List ℕ) → ((m : ℕ) → In m told → touched_meeting o (Value m) ≡ true) → Covers T p told (touches o)
  covers o told values = record {
    kids = rw (eq-eqb p p refl) refl;
    shapes = λ m h. rw h refl;
    texts = λ m h. rw h refl;
    values = values;
  }

  off-way : occurs n (above T p) ≡ 0
  off-way =
      none-in (occurs n (above T p))
      (λ h.
      let inside : In p (below T n) = mem-In p (below T n) (nested T form (ordered T formed) ways n p (ways.parent_live n p up) ∙ In-mem n (above T p) h) in
      absurd (omega (arith, (cut_at T n p formed up).apart)))

  -- no two texts meet
  alone : Formed (removed T n) → Agree T (removed T n) (touches None)
  alone =
      subst (λ q. Formed (removed_from T n q) → Agree T (removed_from T n q) (touches None)) (sym up)
      (λ after. lost-agree T formed (cut T n p (below T n)) p (below T n ++ []) [] (lose T formed n p up kid T [] (none-lost T p))
      (touches None) after (covers None [] (λ m h. absurd (omega arith))))

  -- two texts meet: the right one goes first
  module _ (texts : Meeting) (m : Met T n (kids_of T p) texts) where
    up-right : parent_of T texts.right ≡ Some p
    up-right = form.kid_parent p texts.right (In-mem texts.right (kids_of T p) m.right)

    kid-right : can_be_kid (kind_of T texts.right) ≡ true
    kid-right = form.kid_kind p texts.right (In-mem texts.right (kids_of T p) m.right)

    abbrev gone-first : List ℕ
    gone-first = below T texts.right ++ []

    abbrev first : Table
    first = cut T texts.right p (below T texts.right)

    lost-first : Lost T first p gone-first []
    lost-first = lose T formed texts.right p up-right kid-right T [] (none-lost T p)

    n-stays : occurs n gone-first ≡ 0
    n-stays =
        occurs-append n (below T texts.right) []
        ∙ omega (
          arith,
          out-beside T formed texts.right p up-right p n (cut_at T texts.right p formed up-right).apart (λ e. m.other (sym e)) up,
        )

    abbrev second : Table
    second = cut first n p (below T n)

    second-is : removed (removed T texts.right) n ≡ second
    second-is =
        ap (λ V. removed V n) (ap (removed_from T texts.right) up-right)
        ∙ (ap (removed_from first n) ((lost-first.same n n-stays).parent ∙ up)
        ∙ ap (λ inside. cut first n p inside) (below-same T formed first p gone-first [] lost-first n n-stays off-way (parent-has T n p up)))

    lost-third : (new : List ℕ) → Lost T (said second texts.left new) p (below T n ++ gone-first) (texts.left ∷ [])
    lost-third new =
        retell T second p texts.left (below T n ++ gone-first) new (lose T formed n p up kid first gone-first lost-first)
        (form.kid_parent p texts.left (In-mem texts.left (kids_of T p) m.left))
        (text-holds-none (kind_of T texts.left) m.is_left_text)

    met-apart : (new : List ℕ) → Formed (said (removed (removed T texts.right) n) texts.left new)
        → Agree T (said (removed (removed T texts.right) n) texts.left new) (touches (Some texts))
    met-apart new =
        subst (λ V. Formed (said V texts.left new) → Agree T (said V texts.left new) (touches (Some texts))) (sym second-is)
        (λ after. lost-agree T formed (said second texts.left new) p (below T n ++ gone-first) (texts.left ∷ []) (lost-third new)
        (touches (Some texts)) after
        (covers (Some texts) (texts.left ∷ []) (λ k h. ⊎_elim (λ (e : k ≡ texts.left). eq-eqb k texts.left e) (λ (i : In k []). absurd (omega arith)) (In-cons k texts.left [] h))))

  by-meeting : (o : Option Meeting) → meeting T n (kids_of T p) ≡ o → Formed (deleted_by T n o) → Agree T (deleted_by T n o) (touches o)
  by-meeting None none after = alone after
  by-meeting (Some texts) some after = met-apart texts (met T n (kids_of T p) texts (form.kids_once p n) some) (value_of T texts.left ++ value_of T texts.right) after

pub deletions-leave : DeletionsKeepTrees → DeletionsLeave
deletions-leave trees T n p form kid up =
    subst (λ o. Formed (deleted_by T n (meeting T n (kids_above T o))) → Agree T (deleted_by T n (meeting T n (kids_above T o))) (touched_deletion T n p)) (sym up)
    (by-meeting T n p (formed-of T form) kid up (meeting T n (kids_of T p)) refl)
    (formed-of (deleted T n) (trees T n form))
