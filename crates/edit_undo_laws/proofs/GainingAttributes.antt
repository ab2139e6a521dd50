-- Attributes that come again one after another.
use Rattle.std.proofs.Common.{◌≡◌, ◌≢◌, ℕ, ◌+◌, ◌≤◌, suc, Bool, true, false, List, [], ◌∷◌, ◌++◌, length, map, Option, None, Some, refl, sym, ap, ap₂, ◌∙◌, subst, ⊎_elim, arith, append_assoc, unwrap_or}
use Rattle.std.specs.Prelude.{nat_lt}
use Rattle.std.specs.Option.{option_or}
use Rattle.std.proofs.lemmas.Bool.{ltb-true}
use Rattle.std.proofs.lemmas.List.{map-append}
use Rattle.doc_table.proofs.Counts.{live-count, text-count}
use Rattle.doc_table.proofs.ListLemmas.{In, In-cons, In-mem, mem-In, occurs-append, occurs-head}
use Rattle.doc_table.proofs.TreeLaws.{ways-up, well-formed}
use Rattle.doc_table.specs.inner.Sound.{Formed, count_live, text_held}
use Rattle.doc_edits.specs.Changes.{gained}
use Rattle.doc_edits.specs.Fitting.{MayGain}
use Rattle.doc_edits.proofs.RemainderLemmas.{before-new, gained-content, gained-new}
use Rattle.doc_tree.specs.limits.TheConstants.{MAX_LIVE_NODES, MAX_LIVE_TEXT_BYTES, MAX_NODE_NUMBERS}
use Rattle.doc_tree.specs.Edited.{attribute_name_at, attribute_set, with_value}
use Rattle.doc_tree.specs.Laws.{WellFormed}
use Rattle.doc_tree.specs.Lists.{occurs}
use Rattle.doc_tree.specs.NameTests.{attribute_meant}
use Rattle.doc_tree.specs.QNames.{written_in}
use Rattle.doc_tree.specs.Refusals.{setting_refusal, value_refusal}
use Rattle.doc_tree.specs.Table.{Contents, Name, Table, attrs_of, content_at, expanded, expanded_in, expanded_of, name_at, name_of, value_of}
use Rattle.doc_tree.specs.Walks.{order, text_bytes}
use Rattle.doc_undo_laws.specs.Undoing.{MayRegain, regained}
use Rattle.name_scopes.specs.QNames.{local_part, prefix_part}
use Rattle.edit_script.specs.declared.command.PathStep.{PathStep}
use Rattle.edit_commands.specs.Commands.{IsEdited, command_refusal, refusal_where}
use Rattle.edit_iso_laws.specs.CommandsMove.{DoneInTurn, none, then}
use Rattle.edit_paths.specs.Entries.{attribute_comes}
use Rattle.edit_undo_laws.proofs.AttributeSteps.{Holds, holds-more, list-more, nodes-more, numbers-more, text-more}
use Rattle.edit_undo_laws.proofs.AttributesFound.{meant-none}
use Rattle.edit_undo_laws.proofs.LosingAttributes.{texts_of, with_nodes}
use Rattle.edit_undo_laws.proofs.OwnAttributes.{IsOwn, own-free, own-known, pair_of}

pub not-less : (a b : ℕ) → b ≤ a → nat_lt a b ≡ false
not-less a b h = by (nat_lt a b) refl
  where
    by : (c : Bool) → nat_lt a b ≡ c → c ≡ false
    by false e = refl
    by true e = absurd (omega (arith, ltb-true a b e, h))

map-same : {A : Type 0} (f g : ℕ → A) (xs : List ℕ) → ((x : ℕ) → In x xs → f x ≡ g x) → map f xs ≡ map g xs
map-same f g [] same = refl
map-same f g (x ∷ xs) same = ap₂ (λ a rest. a ∷ rest) (same x (occurs-head x xs)) (map-same f g xs (λ y h. same y (omega (arith, h))))

-- where two lists say the same, each of the one has one of the other that does
record Twin {A : Type 0} (g : ℕ → A) (ys : List ℕ) (a : A) : Type 0 where
  twin : ℕ
  among : In twin ys
  same : a ≡ g twin

twin-of : {A : Type 0} (f g : ℕ → A) (xs ys : List ℕ) → map f xs ≡ map g ys → (x : ℕ) → In x xs → Twin g ys (f x)
twin-of f g [] ys same x h = absurd (omega (arith, h))
twin-of f g (z ∷ xs) [] same x h = absurd (cc)
twin-of f g (z ∷ xs) (y ∷ ys) same x h =
    let head : f z ≡ g y = (cc) in
    let rest : map f xs ≡ map g ys = (cc) in
    ⊎_elim (λ (e : x ≡ z). record { twin = y; among = occurs-head y ys; same = ap f e ∙ head })
    (λ (more : In x xs).
    let t : Twin g ys (f x) = twin-of f g xs ys rest x more in
    record { twin = t.twin; among = omega (arith, t.among); same = t.same }) (In-cons x z xs h)

-- some have come again behind those in front, and the rest is to come
pub record Gaining (T : Table) (n : ℕ) (path : List PathStep) (front back rest : List ℕ) (V : Table) : Type 0 where
  pub holds : Holds T n path V
  pub names : map (expanded_of V) (attrs_of V n) ≡ map (expanded_of T) (front ++ back)
  pub numbers : length V + length rest ≤ MAX_NODE_NUMBERS
  pub nodes : count_live V + length rest ≤ count_live T
  pub text : text_held V + texts_of T rest ≤ text_held T

module _ (T : Table) (n : ℕ) (path : List PathStep) (t : Formed T) (front : List ℕ) (base : Contents) (bound : length (order T) ≤ base.pair_cap) where
  form : WellFormed T
  form = well-formed T t

  module _ (V : Table) (back : List ℕ) (a : ℕ) (rest : List ℕ) (g : Gaining T n path front back (a ∷ rest) V) (list : attrs_of T n ≡ front ++ (back ++ a ∷ rest)) (is : IsOwn T n a) where
    abbrev nm : Name
    nm = (pair_of T a).0

    abbrev value : List ℕ
    value = value_of T a

    abbrev written : List ℕ
    written = written_in (name_of T a)

    abbrev G : Table
    G = gained V n nm value

    v : Formed V
    v = g.holds.formed

    all : (k : ℕ) → occurs k (attrs_of T n) ≡ occurs k front + (occurs k back + occurs k (a ∷ rest))
    all k = ap (occurs k) list ∙ omega (arith, occurs-append k front (back ++ a ∷ rest), occurs-append k back (a ∷ rest))

    apart : (c : ℕ) → In c (attrs_of V n) → expanded_of V c ≢ Some (expanded nm)
    apart c h e =
        let t : Twin (expanded_of T) (front ++ back) (expanded_of V c) = twin-of (expanded_of V) (expanded_of T) (attrs_of V n) (front ++ back) g.names c h in
        let d : ℕ = t.twin in
        let among : 1 ≤ occurs d front + occurs d back = omega (arith, t.among, occurs-append d front back) in
        let same : d ≡ a =
        form.names_differ n d a (In-mem d (attrs_of T n) (omega (arith, all d, among))) (In-mem a (attrs_of T n) (omega (arith, all a, occurs-head a rest)))
        (sym t.same ∙ (e ∙ sym (ap expanded_in is.name))) in
        let twice : 1 ≤ occurs a front + occurs a back = subst (λ k. 1 ≤ occurs k front + occurs k back) same among in
        absurd (omega (arith, form.attributes_once n a, all a, occurs-head a rest, twice))

    live : length (order V) ≡ count_live V
    live = live-count V v.forest v.whole

    said : text_bytes V ≡ text_held V
    said = text-count V v.forest v.whole

    pub may : MayGain V n nm value
    may = record {
      under = g.holds.kind;
      is_new = λ c h. apart c (mem-In c (attrs_of V n) h);
      few_nodes = omega (arith, live, g.nodes, t.few_nodes);
      few_numbers = omega (arith, g.numbers);
      little = omega (arith, said, g.text, t.little_text);
    }

    -- the command
    absent : attribute_meant V n (prefix_part written) (local_part written) ≡ None
    absent = ap₂ (attribute_meant V n) is.prefix is.local ∙ meant-none V n nm.prefix nm (own-known T n a is V g.holds.kind g.holds.scope) apart

    room : value_refusal (with_nodes base V) None value ≡ None
    room =
        rw (
          not-less MAX_LIVE_NODES (suc (length (order V))) (omega (arith, live, g.nodes, t.few_nodes)),
          not-less MAX_LIVE_TEXT_BYTES (text_bytes V + length value) (omega (arith, said, g.text, t.little_text)),
          not-less MAX_NODE_NUMBERS (suc (length V)) (omega (arith, g.numbers)),
          not-less base.pair_cap (suc (length (order V))) (omega (arith, live, g.nodes, bound, live-count T t.forest t.whole)),
        ) refl

    free : setting_refusal (with_nodes base V) n (prefix_part written) (local_part written) value ≡ None
    free = ap₂ option_or (own-free T n a is V g.holds.kind g.holds.scope) (ap (λ o. value_refusal (with_nodes base V) o value) absent ∙ room)

    name-is : attribute_name_at V n (prefix_part written) (local_part written) ≡ nm
    name-is =
        ap₂ (attribute_name_at V n) is.prefix is.local
        ∙ ap (λ (o : Option (List ℕ)). record { prefix = nm.prefix; local = nm.local; uri = unwrap_or o [] }) (own-known T n a is V g.holds.kind g.holds.scope)

    set-is : attribute_set V n (prefix_part written) (local_part written) value ≡ G
    set-is =
        ap (λ o. with_value V n (attribute_name_at V n (prefix_part written) (local_part written)) o value) absent
        ∙ ap (λ (m : Name). gained V n m value) name-is

    pub comes-free : command_refusal (with_nodes base V) (attribute_comes path T a) ≡ None
    comes-free = ap (refusal_where (with_nodes base V) (attribute_comes path T a)) g.holds.named ∙ free

    pub comes : IsEdited V (attribute_comes path T a) G
    comes = record { node = n; named = g.holds.named; edited = sym set-is }

    -- and one more is there
    names-more : map (expanded_of G) (attrs_of G n) ≡ map (expanded_of T) (front ++ (back ++ a ∷ []))
    names-more =
        ap (map (expanded_of G)) (list-more T n path V g.holds nm value)
        ∙ (map-append (expanded_of G) (attrs_of V n) (length V ∷ [])
        ∙ (ap₂ (λ xs ys. xs ++ ys)
        (map-same (expanded_of G) (expanded_of V) (attrs_of V n)
        (λ b h. ap (λ c. expanded_in (name_at c)) (gained-content V n nm value b (before-new V b ((ways-up V v).attribute_live n b (In-mem b (attrs_of V n) h))))) ∙ g.names)
        (ap (λ o. o ∷ []) (ap (λ e. expanded_in (name_at (content_at e))) (gained-new V n nm value) ∙ sym (ap expanded_in is.name)))
        ∙ (sym (map-append (expanded_of T) (front ++ back) (a ∷ [])) ∙ ap (map (expanded_of T)) (append_assoc front back (a ∷ [])))))

    pub gaining-on : Gaining T n path front (back ++ a ∷ []) rest G
    gaining-on = record {
      holds = holds-more T n path V g.holds nm value may;
      names = names-more;
      numbers = omega (arith, numbers-more T n path V g.holds nm value, g.numbers);
      nodes = omega (arith, nodes-more T n path V g.holds nm value may, g.nodes);
      text = omega (arith, text-more T n path V g.holds nm value may, g.text);
    }

  -- so the commands are done, and each may come when its turn is
  pub record Regained (V : Table) (rest : List ℕ) : Type 0 where
    pub done : DoneInTurn (with_nodes base V) (map (attribute_comes path T) rest) (with_nodes base (regained n (map (pair_of T) rest) V))
    pub may : MayRegain n (map (pair_of T) rest) V
    pub numbers : length (regained n (map (pair_of T) rest) V) ≡ length V + length rest

  pub gaining-done : (rest back : List ℕ) (V : Table) → Gaining T n path front back rest V → attrs_of T n ≡ front ++ (back ++ rest) → ((b : ℕ) → In b rest → IsOwn T n b) → Regained V rest
  gaining-done [] back V g list owns = record { done = none (with_nodes base V); may = tt; numbers = omega arith }
  gaining-done (a ∷ rest) back V g list owns =
      let is : IsOwn T n a = owns a (occurs-head a rest) in
      let G : Table = gained V n (pair_of T a).0 (value_of T a) in
      let more : Regained G rest =
      gaining-done rest (back ++ a ∷ []) G (gaining-on V back a rest g list is) (list ∙ ap (λ l. front ++ l) (sym (append_assoc back (a ∷ []) rest))) (λ b h. owns b (omega (arith, h))) in
      record {
        done = then (with_nodes base V) (with_nodes base G) (with_nodes base (regained n (map (pair_of T) rest) G)) (attribute_comes path T a) (map (attribute_comes path T) rest)
            (comes-free V back a rest g list is) (comes V back a rest g list is) refl more.done;
        may = (may V back a rest g list is, more.may);
        numbers = omega (arith, more.numbers, numbers-more T n path V g.holds (pair_of T a).0 (value_of T a));
      }
