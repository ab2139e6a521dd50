-- A tree without a node, and with one text where two met, is a tree.
use Rattle.std.proofs.Common.{◌≡◌, ◌≢◌, ℕ, ◌+◌, ◌≤◌, Bool, true, false, ◌&&◌, List, [], ◌∷◌, ◌++◌, length, Option, None, Some, is_some, refl, sym, ap, ◌∙◌, subst, true≢false, arith, eqb, eq-eqb, eqb-true, ne_eqb, append_assoc, length-append}
use Rattle.std.specs.Prelude.{if◌then◌else◌}
use Rattle.doc_table.specs.declared.kind.Kind.{Kind}
use Rattle.doc_table.specs.declared.kind.Kind.TheVariants.{Root, Element, Attribute, Text, Comment, Pi}
use Rattle.doc_table.specs.Lists.{occurs}
use Rattle.doc_table.specs.Table.{Facts, Table, content_at, content_of, entry_at, is_live, kids_above, kids_of, kind_at, kind_of, parent_of, value_at, value_of}
use Rattle.doc_table.specs.Walks.{below}
use Rattle.doc_table.specs.Kinds.{holds_kids, is_text}
use Rattle.doc_table.specs.Laws.{TextsApart, WellFormed}
use Rattle.doc_table.specs.inner.Sound.{Formed, text_in, text_held}
use Rattle.doc_table.proofs.ListLemmas.{In, In-mem, mem-In, occurs-append, occurs-head, append-empty_left}
use Rattle.doc_table.proofs.Counts.{text-count}
use Rattle.doc_table.proofs.Fitting.{texts-kept}
use Rattle.doc_table.proofs.TreeLaws.{well-formed, ordered}
use Rattle.doc_table.proofs.Forests.{formed-of}
use Rattle.doc_edits.specs.Changes.{Meeting, deleted, deleted_by, meeting, removed, removed_from, said, without}
use Rattle.doc_edits.specs.Fitting.{MaySay}
use Rattle.doc_edits.specs.Keeping.{SayingsKeepTrees}
use Rattle.doc_edits.proofs.ClearLemmas.{cut, cut-sum, cut-sum_one, without-split}
use Rattle.doc_edits.proofs.PruneLemmas.{cut_at}
use Rattle.doc_edits.proofs.RemovalLemmas.{texts-without, remaining, out-beside, kids-owner, same-content, same-parent, formed-left}

is-text : (o : Option Kind) → is_text o ≡ true → o ≡ Some Text
is-text None h = absurd (true≢false (sym h))
is-text (Some Root) h = absurd (true≢false (sym h))
is-text (Some Element) h = absurd (true≢false (sym h))
is-text (Some Attribute) h = absurd (true≢false (sym h))
is-text (Some Text) h = refl
is-text (Some Comment) h = absurd (true≢false (sym h))
is-text (Some Pi) h = absurd (true≢false (sym h))

text-lives : (T : Table) (n : ℕ) → kind_of T n ≡ Some Text → is_live T n ≡ true
text-lives T n h = by (entry_at T n) h
  where
    by : (o : Option Facts) → kind_at (content_at o) ≡ Some Text → is_some o ≡ true
    by None e = absurd (cc)
    by (Some node) e = refl

module _ (T : Table) where
  texts-back : (front xs : List ℕ) → TextsApart T (front ++ xs) → TextsApart T xs
  texts-back [] xs apart = apart
  texts-back (f ∷ []) [] apart = tt
  texts-back (f ∷ []) (x ∷ xs) apart = apart.1
  texts-back (f ∷ g ∷ front) xs apart = texts-back (g ∷ front) xs apart.1

  -- of texts that stay apart up to one number and from it on
  texts-join : (front : List ℕ) (x : ℕ) (ys zs : List ℕ) → TextsApart T (front ++ x ∷ ys) → TextsApart T (x ∷ zs) → TextsApart T (front ++ x ∷ zs)
  texts-join [] x ys zs apart more = more
  texts-join (f ∷ []) x ys zs apart more = (apart.0, more)
  texts-join (f ∷ g ∷ front) x ys zs apart more = (apart.0, texts-join (g ∷ front) x ys zs apart.1 more)

  -- past a text stands no text
  after-text : (b c : Bool) → b ≡ true → (b && c) ≡ false → c ≡ false
  after-text true c h e = e
  after-text false c h e = absurd (true≢false (sym h))

  and-left : (b c : Bool) → (b && c) ≡ true → b ≡ true
  and-left true c h = refl
  and-left false c h = absurd (true≢false (sym h))

  and-right : (b c : Bool) → (b && c) ≡ true → c ≡ true
  and-right true c h = h
  and-right false c h = absurd (true≢false (sym h))

  and-false : (b c : Bool) → c ≡ false → (b && c) ≡ false
  and-false true c h = h
  and-false false c h = refl

  -- two texts that meet, and a number between them: without one of the texts, and without the number too
  texts-less : (l n r : ℕ) (back : List ℕ) → is_text (kind_of T l) ≡ true → is_text (kind_of T r) ≡ true → TextsApart T (l ∷ n ∷ r ∷ back)
      → TextsApart T (l ∷ n ∷ back) × TextsApart T (l ∷ back)
  texts-less l n r [] tl tr apart = ((apart.0, tt), tt)
  texts-less l n r (b ∷ back) tl tr apart =
      let no_text : is_text (kind_of T b) ≡ false = after-text (is_text (kind_of T r)) (is_text (kind_of T b)) tr apart.1.1.0 in (
        (apart.0, (and-false (is_text (kind_of T n)) (is_text (kind_of T b)) no_text, apart.1.1.1)),
        (and-false (is_text (kind_of T l)) (is_text (kind_of T b)) no_text, apart.1.1.1),
      )

  -- the search for two texts goes on past another number
  pub meeting-on : (n l m : ℕ) (ms : List ℕ) → m ≢ n → meeting T n (l ∷ m ∷ ms) ≡ meeting T n (m ∷ ms)
  meeting-on n l m [] ne = refl
  meeting-on n l m (r ∷ ms) ne = rw (ne_eqb m n ne) refl

  none-meet : (b : Bool) (texts : Meeting) → (if b then Some texts else None) ≡ None → b ≡ false
  none-meet true texts e = absurd (cc)
  none-meet false texts e = refl

  -- where none meet, the others stay apart
  stay-apart : (n : ℕ) (front back : List ℕ) → occurs n front ≡ 0 → TextsApart T (front ++ n ∷ back) → meeting T n (front ++ n ∷ back) ≡ None → TextsApart T (front ++ back)
  stay-apart n [] [] once apart none = tt
  stay-apart n [] (b ∷ back) once apart none = apart.1
  stay-apart n (l ∷ []) [] once apart none = tt
  stay-apart n (l ∷ []) (r ∷ back) once apart none =
      (none-meet (is_text (kind_of T l) && is_text (kind_of T r)) _ (rw (eq-eqb n n refl) at none), apart.1.1)
  stay-apart n (l ∷ m ∷ front) back once apart none =
      let ne : m ≢ n = λ e. absurd (let k : In n (m ∷ front) = subst (λ j. In n (j ∷ front)) (sym e) (occurs-head n front) in omega arith) in
      (apart.0, stay-apart n (m ∷ front) back (omega (arith, once)) apart.1 (sym (meeting-on n l m (front ++ n ∷ back) ne) ∙ none))

  -- the texts that meet stand left and right of the number
  pub record Met (n : ℕ) (xs : List ℕ) (texts : Meeting) : Type 0 where
    pub front : List ℕ
    pub back : List ℕ
    pub is : xs ≡ front ++ (texts.left ∷ n ∷ texts.right ∷ back)
    pub left_text : is_text (kind_of T texts.left) ≡ true
    pub right_text : is_text (kind_of T texts.right) ≡ true

  pub met : (n : ℕ) (xs : List ℕ) (texts : Meeting) → meeting T n xs ≡ Some texts → Met n xs texts
  met n [] texts h = absurd (cc)
  met n (l ∷ []) texts h = absurd (cc)
  met n (l ∷ m ∷ []) texts h = absurd (cc)
  met n (l ∷ m ∷ r ∷ ms) texts h =
      by (eqb m n) (is_text (kind_of T l) && is_text (kind_of T r)) (record { left = l; right = r }) refl refl refl refl h (λ e. met n (m ∷ r ∷ ms) texts e)
    where
      by : (same both : Bool) (here : Meeting) → here.left ≡ l → here.right ≡ r → eqb m n ≡ same → (is_text (kind_of T l) && is_text (kind_of T r)) ≡ both
          → (if same then (if both then Some here else None) else meeting T n (m ∷ r ∷ ms)) ≡ Some texts
          → (meeting T n (m ∷ r ∷ ms) ≡ Some texts → Met n (m ∷ r ∷ ms) texts) → Met n (l ∷ m ∷ r ∷ ms) texts
      by true true here el er e t f more =
          let is : here ≡ texts = (cc) in
          let left_is : l ≡ texts.left = sym el ∙ ap (λ x. x.left) is in
          let right_is : r ≡ texts.right = sym er ∙ ap (λ x. x.right) is in
          record {
            front = [];
            back = ms;
            is = rw (← left_is, ← right_is) (ap (λ k. l ∷ k ∷ r ∷ ms) (eqb-true m n e));
            left_text = rw (← left_is) (and-left (is_text (kind_of T l)) (is_text (kind_of T r)) t);
            right_text = rw (← right_is) (and-right (is_text (kind_of T l)) (is_text (kind_of T r)) t);
          }
      by true false here el er e t f more = absurd (cc)
      by false both here el er e t f more =
          let further : Met n (m ∷ r ∷ ms) texts = more f in
          record {
            front = l ∷ further.front;
            back = further.back;
            is = ap (λ xs. l ∷ xs) further.is;
            left_text = further.left_text;
            right_text = further.right_text;
          }

-- the text that a table without a node has less
held-less : (T : Table) (r p : ℕ) (gone : List ℕ) → In r gone → r ≢ p → text_held (cut T r p gone) + length (value_of T r) ≤ text_held T
held-less T r p gone h np = by (entry_at T r) refl
  where
    by : (o : Option Facts) → entry_at T r ≡ o → text_held (cut T r p gone) + length (value_at (content_at o)) ≤ text_held T
    by None e = omega (arith, cut-sum T r p gone text_in (λ node. refl))
    by (Some node) e = cut-sum_one T r p gone text_in (λ other. refl) r node h np e

module _ (T : Table) (n p l r : ℕ) (front back : List ℕ) (formed : Formed T) (up : parent_of T n ≡ Some p)
    (kids : kids_of T p ≡ front ++ (l ∷ n ∷ r ∷ back)) (tl : is_text (kind_of T l) ≡ true) (tr : is_text (kind_of T r) ≡ true) where
  form : WellFormed T
  form = well-formed T formed

  once : (k : ℕ) → occurs k front + (occurs k (l ∷ []) + (occurs k (n ∷ []) + (occurs k (r ∷ []) + occurs k back))) ≤ 1
  once k = omega (arith, subst (λ xs. occurs k xs ≤ 1) kids (form.kids_once p k), occurs-append k front (l ∷ n ∷ r ∷ back))

  beside : (k : ℕ) → 1 ≤ occurs k front + (occurs k (l ∷ []) + (occurs k (n ∷ []) + (occurs k (r ∷ []) + occurs k back))) → parent_of T k ≡ Some p
  beside k h = form.kid_parent p k (In-mem k (kids_of T p) (rw kids (omega (arith, h, occurs-append k front (l ∷ n ∷ r ∷ back)))))

  -- the others of the list are not the right text
  apart-from : (k : ℕ) → 1 ≤ occurs k front + (occurs k (l ∷ []) + (occurs k (n ∷ []) + occurs k back)) → k ≢ r
  apart-from k h e = absurd (let i : In k (r ∷ []) = subst (λ j. In k (j ∷ [])) e (occurs-head k []) in omega (arith, once k))

  left-other : l ≢ n
  left-other e = absurd (let i : In l (n ∷ []) = subst (λ j. In l (j ∷ [])) e (occurs-head l []) in omega (arith, once l, occurs-head l []))

  -- without the right one of the texts
  pub up-right : parent_of T r ≡ Some p
  up-right = beside r (omega (arith, occurs-head r []))

  abbrev pub first : Table
  first = remaining T r p formed up-right

  first-less : without r (kids_of T p) ≡ front ++ (l ∷ n ∷ back)
  first-less =
      ap (without r) (kids ∙ sym (append_assoc front (l ∷ n ∷ []) (r ∷ back)))
      ∙ (without-split r (front ++ (l ∷ n ∷ [])) back
      (omega (arith, once r, occurs-head r [], occurs-append r front (l ∷ n ∷ [])))
      (omega (arith, once r, occurs-head r []))
      ∙ append_assoc front (l ∷ n ∷ []) back)

  texts : TextsApart T (front ++ (l ∷ n ∷ r ∷ back))
  texts = subst (TextsApart T) kids (form.texts_apart p)

  fewer : TextsApart T (l ∷ n ∷ back) × TextsApart T (l ∷ back)
  fewer = texts-less T l n r back tl tr (texts-back T front (l ∷ n ∷ r ∷ back) texts)

  pub first-apart : TextsApart T (without r (kids_of T p))
  first-apart = subst (TextsApart T) (sym first-less) (texts-join T front l (n ∷ r ∷ back) (n ∷ back) texts fewer.0)

  pub first-formed : Formed first
  first-formed = formed-left T r p formed up-right first-apart

  first-out : (k : ℕ) → 1 ≤ occurs k front + (occurs k (l ∷ []) + (occurs k (n ∷ []) + occurs k back)) → occurs k (below T r) ≡ 0
  first-out k h = out-beside T r p formed up-right k (apart-from k h) (beside k (omega (arith, h)))

  -- and without the node between them
  pub first-up : parent_of first n ≡ Some p
  first-up = same-parent T r p formed up-right n (first-out n (omega (arith, occurs-head n []))) ∙ up

  abbrev pub second : Table
  second = remaining first n p first-formed first-up

  second-less : without n (kids_of first p) ≡ front ++ (l ∷ back)
  second-less =
      ap (without n) (kids-owner T r p formed up-right ∙ (first-less ∙ sym (append_assoc front (l ∷ []) (n ∷ back))))
      ∙ (without-split n (front ++ (l ∷ [])) back
      (omega (arith, once n, occurs-head n [], occurs-append n front (l ∷ [])))
      (omega (arith, once n, occurs-head n []))
      ∙ append_assoc front (l ∷ []) back)

  pub second-apart : TextsApart first (without n (kids_of first p))
  second-apart =
      subst (TextsApart first) (sym second-less)
      (texts-kept T first (front ++ (l ∷ back))
      (λ k h. ap kind_at (same-content T r p formed up-right k (first-out k (omega (arith, mem-In k (front ++ (l ∷ back)) h, occurs-append k front (l ∷ back))))))
      (texts-join T front l (n ∷ r ∷ back) back texts fewer.1))

  second-formed : Formed second
  second-formed = formed-left first n p first-formed first-up second-apart

  -- the left one of the texts is as it was
  content-left : content_of second l ≡ content_of T l
  content-left =
      let out : occurs l (below T r) ≡ 0 = first-out l (omega (arith, occurs-head l [])) in
      same-content first n p first-formed first-up l
      (out-beside first n p first-formed first-up l left-other
      (same-parent T r p formed up-right l out ∙ beside l (omega (arith, occurs-head l []))))
      ∙ same-content T r p formed up-right l out

  pub may-say : MaySay second l (value_of T l ++ value_of T r)
  may-say =
      let kind : kind_of second l ≡ Some Text = ap kind_at content-left ∙ is-text (kind_of T l) tl in
      let inside : In r (below T r) = rw ((ordered T formed).below_at r) (occurs-head r _) in
      let other : r ≢ p = λ e. absurd (let o : occurs p (below T r) ≡ 0 = (cut_at T r p formed up-right).apart in let i : In p (below T r) = subst (λ j. In j (below T r)) e inside in omega arith) in
      record {
        lives = text-lives second l kind;
        has_text = ap holds_kids kind;
        some = λ _ empty. (formed.fits l).some_text (is-text (kind_of T l) tl) (append-empty_left (value_of T l) (value_of T r) empty);
        little = omega (
          arith,
          text-count second second-formed.forest second-formed.whole,
          cut-sum first n p (below first n) text_in (λ node. refl),
          held-less T r p (below T r) inside other,
          formed.little_text,
          length-append (value_of T l) (value_of T r),
          ap (λ o. length (value_at o)) content-left,
        );
      }

  pub is-first : removed T r ≡ first
  is-first = ap (removed_from T r) up-right

  pub is-second : removed (removed T r) n ≡ second
  is-second = ap (λ U. removed U n) is-first ∙ ap (removed_from first n) first-up

  merged : SayingsKeepTrees → Formed (said (removed (removed T r) n) l (value_of T l ++ value_of T r))
  merged sayings =
      subst (λ U. Formed (said U l (value_of T l ++ value_of T r))) (sym is-second)
      (formed-of (said second l (value_of T l ++ value_of T r)) (sayings second l (value_of T l ++ value_of T r) (well-formed second second-formed) may-say))

-- where no texts meet, the others stay apart
pub lone-apart : (T : Table) (n p : ℕ) → Formed T → meeting T n (kids_of T p) ≡ None → TextsApart T (without n (kids_of T p))
lone-apart T n p formed none =
    let form : WellFormed T = well-formed T formed in
    texts-without T n (kids_of T p) (form.kids_once p) (form.texts_apart p)
    (λ before behind e. stay-apart T n before behind
    (omega (arith, subst (λ xs. occurs n xs ≤ 1) e (form.kids_once p n), occurs-append n before (n ∷ behind), occurs-head n behind))
    (subst (TextsApart T) e (form.texts_apart p)) (sym (ap (meeting T n) e) ∙ none))

pub deletions-keep-trees : SayingsKeepTrees → (T : Table) (n : ℕ) → Formed T → Formed (deleted T n)
deletions-keep-trees sayings T n formed = by (parent_of T n) refl
  where
    by_meeting : (p : ℕ) → parent_of T n ≡ Some p → (o : Option Meeting) → meeting T n (kids_of T p) ≡ o → Formed (deleted_by T n o)
    by_meeting p up None none = subst (λ o. Formed (removed_from T n o)) (sym up) (formed-left T n p formed up (lone-apart T n p formed none))
    by_meeting p up (Some texts) some =
        let m : Met T n (kids_of T p) texts = met T n (kids_of T p) texts some in
        merged T n p texts.left texts.right m.front m.back formed up m.is m.left_text m.right_text sayings

    by : (o : Option ℕ) → parent_of T n ≡ o → Formed (deleted_by T n (meeting T n (kids_above T o)))
    by None e = subst (λ o. Formed (removed_from T n o)) (sym e) formed
    by (Some p) e = by_meeting p e (meeting T n (kids_of T p)) refl
