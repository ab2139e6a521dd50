-- Labels of a report, counted one after another.
use Rattle.std.proofs.Common.{◌∙◌, ◌≡◌, ℕ, ◌+◌, ◌<◌, cond, List, [], ◌∷◌, ◌++◌, Bor, add-one, length, map, take, slice_index_or, unwrap_or, Option, Some, refl, ap, sym}
use Rattle.std.specs.BTreeMap.{BTreeMap, get_by, insert_entry, is_at}
use Rattle.std.specs.Cmp.Lexicographic.{slice_cmp}
use Rattle.std.specs.List.{flat_map}
use Rattle.std.specs.Map.{lookup}
use Rattle.std.specs.Ordering.{is_eq, match_ordering, nat_cmp}
use Rattle.std.specs.declared.cmp.Ordering.{Ordering}
use Rattle.std.specs.declared.cmp.Ordering.TheVariants.{Less, Equal, Greater}
use Rattle.sch_io.proofs.Writes.{flat_map-next}
use Rattle.svrl_summary.specs.Labels.{count_in, counted_behind, counted_too, text_cmp}
use Rattle.svrl_summary.specs.inner.Counting.{shown}

-- A map as the list of its labels

abbrev Entries : Type 0
Entries = List (Bor (List ℕ) × ℕ)

abbrev seen : Bor (List ℕ) × ℕ → List ℕ × ℕ
seen entry = (entry.0.now, entry.1)

abbrev str_cmp : Bor (List ℕ) → Bor (List ℕ) → Ordering
str_cmp x y = slice_cmp nat_cmp x.now y.now

shown-match : (o : Ordering) (a b c : Entries) → map seen (match_ordering o a b c) ≡ match_ordering o (map seen a) (map seen b) (map seen c)
shown-match Less a b c = refl
shown-match Equal a b c = refl
shown-match Greater a b c = refl

pub shown-insert : (es : Entries) (k : Bor (List ℕ)) (v : ℕ) → map seen (insert_entry str_cmp es k v) ≡ insert_entry text_cmp (map seen es) k.now v
shown-insert [] k v = refl
shown-insert (e ∷ es) k v =
    shown-match (str_cmp k e.0) ((k, v) ∷ e ∷ es) ((e.0, v) ∷ es) (e ∷ insert_entry str_cmp es k v)
    ∙ ap (λ (rest : List (List ℕ × ℕ)). match_ordering (str_cmp k e.0) (map seen ((k, v) ∷ e ∷ es)) (map seen ((e.0, v) ∷ es)) (seen e ∷ rest)) (shown-insert es k v)

pub shown-lookup : (es : Entries) (q : List ℕ) → lookup (λ k. is_eq (slice_cmp nat_cmp q k.now)) es ≡ lookup (is_at (text_cmp q)) (map seen es)
shown-lookup [] q = refl
shown-lookup (e ∷ es) q = ap (λ (rest : Option ℕ). cond (is_eq (slice_cmp nat_cmp q e.0.now)) (Some e.1) rest) (shown-lookup es q)

-- a label counted once more
pub counted-here : (m n : BTreeMap (Bor (List ℕ)) ℕ) (k : Bor (List ℕ)) (v : ℕ) → n.entries ≡ insert_entry str_cmp m.entries k v →
    v ≡ unwrap_or (get_by (λ x. slice_cmp nat_cmp k.now x.now) m) 0 + 1 → shown n ≡ counted_too (shown m) k.now
counted-here m n k v put is =
    ap (map seen) put
    ∙ shown-insert m.entries k v
    ∙ ap (insert_entry text_cmp (shown m) k.now) (is ∙ ap (λ (found : Option ℕ). unwrap_or found 0 + 1) (shown-lookup m.entries k.now) ∙ add-one (count_in (shown m) k.now))

-- Labels one after another

behind-append : (counts : List (List ℕ × ℕ)) (xs ys : List (List ℕ)) → counted_behind counts (xs ++ ys) ≡ counted_behind (counted_behind counts xs) ys
behind-append counts [] ys = refl
behind-append counts (x ∷ xs) ys = behind-append (counted_too counts x) xs ys

-- those of the items before a place, and those of the item there
pub counted-next : {A : Type 0} (f : A → List (List ℕ)) (xs : List A) (i : ℕ) (x : A) → x ≡ slice_index_or xs i x → i < length xs →
    (start before after : List (List ℕ × ℕ)) → before ≡ counted_behind start (flat_map f (take i xs)) → after ≡ counted_behind before (f x) →
    after ≡ counted_behind start (flat_map f (take (i + 1) xs))
counted-next f xs i x is less start before after so then =
    then
    ∙ ap (λ (counts : List (List ℕ × ℕ)). counted_behind counts (f x)) so
    ∙ sym (behind-append start (flat_map f (take i xs)) (f x))
    ∙ ap (counted_behind start) (sym (flat_map-next f xs i x is less))
