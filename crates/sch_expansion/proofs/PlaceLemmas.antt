-- Where the first of some keys stands, and what is kept of it.
use Rattle.std.proofs.Common.{◌≡◌, ℕ, ◌+◌, ◌<◌, ◌≤◌, Bool, true, false, cond, List, [], ◌∷◌, ◌++◌, length, drop, get_or, suc, Option, None, Some, refl, sym, ap, ◌∙◌, arith, map, String, Global, is_some}
use Rattle.std.proofs.Math.Seq.{drop-cons}
use Rattle.std.proofs.Math.Numerals.{add-one}
use Rattle.std.proofs.lemmas.List.{drop_all}
use Rattle.std.specs.Map.{lookup}
use Rattle.std.specs.Option.{option_or}
use Rattle.std.specs.Str.{bytes_eq}
use Rattle.std.specs.String.{string_bytes, string_eq}
use Rattle.std.proofs.lemmas.Slice.Eq.{bytes_eq-Decides}
use Rattle.indexmap.specs.IndexMap.{insert_entry, IndexMap}
use Rattle.indexmap.proofs.CallerLemmas.{insert_entry-new}
use Rattle.sch_model.specs.declared.raw.Param.{Param}
use Rattle.sch_model.specs.declared.raw.RawPattern.{RawPattern}
use Rattle.sch_references.specs.Extends.{is_id}
use Rattle.sch_expansion.specs.Filled.{value_of}
use Rattle.sch_expansion.specs.Pieces.{value_at}
use Rattle.sch_expansion.specs.Flat.{pattern_among}
use Rattle.sch_expansion.specs.inner.Places.{abstract_id, param_names, place_in}
use Rattle.std.specs.Prelude.{◌&&◌, slice_get}

abbrev found : List (String Global × ℕ) → List ℕ → Option ℕ
found entries name = lookup (λ key. bytes_eq name (string_bytes key)) entries

pub none-there : {A : Type 0} (o : Option A) → is_some o ≡ false → o ≡ None
none-there None e = refl
none-there (Some x) e = absurd (cc)

pub or-none : {A : Type 0} (o : Option A) → option_or o None ≡ o
or-none None = refl
or-none (Some x) = refl

pub or-after : {A : Type 0} (o p q : Option A) → option_or (option_or o p) q ≡ option_or o (option_or p q)
or-after None p q = refl
or-after (Some x) p q = refl

chosen-or : (b : Bool) (x y z : Option ℕ) → option_or (cond b x y) z ≡ cond b (option_or x z) (option_or y z)
chosen-or true x y z = refl
chosen-or false x y z = refl

-- an entry at the end
found-append : (entries : List (String Global × ℕ)) (key : String Global) (place : ℕ) (name : List ℕ) →
    found (entries ++ (key, place) ∷ []) name ≡ option_or (found entries name) (cond (bytes_eq name (string_bytes key)) (Some place) None)
found-append [] key place name = refl
found-append (e ∷ entries) key place name =
    ap (λ o. cond (bytes_eq name (string_bytes e.0)) (Some e.1) o) (found-append entries key place name)
    ∙ sym (chosen-or (bytes_eq name (string_bytes e.0)) (Some e.1) (found entries name) (cond (bytes_eq name (string_bytes key)) (Some place) None))

-- a name that is new
pub found-new : {S : Type 0} (m : IndexMap (String Global) ℕ S) (now : List (String Global × ℕ)) (key : String Global) (text name : List ℕ) (place : ℕ) →
    string_bytes key ≡ text → found m.entries text ≡ None → now ≡ insert_entry string_eq m.entries key place →
    found now name ≡ option_or (found m.entries name) (place_in (Some text ∷ []) place name)
found-new m now key text name place same none inserted =
    ap (λ l. found l name) (inserted ∙ insert_entry-new string_eq m key place (ap (found m.entries) same ∙ none))
    ∙ found-append m.entries key place name
    ∙ ap (λ t. option_or (found m.entries name) (cond (bytes_eq name t) (Some place) None)) same

-- one that is there
pub found-again : (entries : List (String Global × ℕ)) (text name : List ℕ) (place : ℕ) → is_some (found entries text) ≡ true →
    found entries name ≡ option_or (found entries name) (place_in (Some text ∷ []) place name)
found-again entries text name place there = by (found entries name) (bytes_eq name text) refl refl
  where
    by : (o : Option ℕ) (b : Bool) → found entries name ≡ o → bytes_eq name text ≡ b → o ≡ option_or o (cond b (Some place) None)
    by (Some x) b eo eb = refl
    by None false eo eb = refl
    by None true eo eb =
        let same : name ≡ text = (bytes_eq-Decides name text).0 eb in
        let none : is_some (found entries text) ≡ false = ap (λ i. is_some (found entries i)) (sym same) ∙ ap is_some eo in
        absurd (cc)

-- keys one after another
pub place-cons : (key : Option (List ℕ)) (keys : List (Option (List ℕ))) (first : ℕ) (name : List ℕ) →
    place_in (key ∷ keys) first name ≡ option_or (place_in (key ∷ []) first name) (place_in keys (suc first) name)
place-cons key keys first name = sym (chosen-or (is_id name key) (Some first) None (place_in keys (suc first) name))

-- the place of a parameter and its value
pub record HasValue (params : List Param) (first place : ℕ) (name : List ℕ) : Type 0 where
  pub behind : ℕ
  pub is : place ≡ first + behind
  pub within : behind < length params
  pub value : value_of params name ≡ Some (value_at params behind)

pub param-none : (params : List Param) (first : ℕ) (name : List ℕ) → place_in (param_names params) first name ≡ None → value_of params name ≡ None
param-none [] first name e = refl
param-none (param ∷ params) first name e = by (param-none params (suc first) name) (bytes_eq name param.name) e
  where
    by : (place_in (param_names params) (suc first) name ≡ None → value_of params name ≡ None) → (b : Bool) →
        cond b (Some first) (place_in (param_names params) (suc first) name) ≡ None → cond b (Some param.value) (value_of params name) ≡ None
    by more true e = absurd (cc)
    by more false e = more e

some-is : (m n : ℕ) → Some m ≡ Some n → m ≡ n
some-is m n e = cc

pub param-some : (params : List Param) (first place : ℕ) (name : List ℕ) → place_in (param_names params) first name ≡ Some place → HasValue params first place name
param-some [] first place name e = absurd (cc)
param-some (param ∷ params) first place name e = by (param-some params (suc first) place name) (bytes_eq name param.name) refl e
  where
    by : (place_in (param_names params) (suc first) name ≡ Some place → HasValue params (suc first) place name) → (b : Bool) → bytes_eq name param.name ≡ b →
        cond b (Some first) (place_in (param_names params) (suc first) name) ≡ Some place → HasValue (param ∷ params) first place name
    by more true eb e = record {
      behind = 0;
      is = (let here : first ≡ place = some-is first place e in omega (arith, here));
      within = omega arith;
      value = ap (λ b. cond b (Some param.value) (value_of params name)) eb;
    }
    by more false eb e =
        let its = more e in
        record {
          behind = suc its.behind;
          is = omega (arith, its.is);
          within = omega (arith, its.within);
          value = ap (λ b. cond b (Some param.value) (value_of params name)) eb ∙ its.value;
        }

-- a walk over what has the keys: one more, and all
pub next-place : {A : Type 0} (key : A → Option (List ℕ)) (xs : List A) (i : ℕ) (x : A) (o : Option ℕ) (name : List ℕ) → i < length xs → x ≡ get_or xs i x →
    option_or (option_or o (place_in (key x ∷ []) i name)) (place_in (map key (drop (i + 1) xs)) (i + 1) name) ≡ option_or o (place_in (map key (drop i xs)) i name)
next-place key xs i x o name less is =
    let left : drop i xs ≡ x ∷ drop (i + 1) xs = drop-cons xs i x less ∙ (λ j. sym is j ∷ drop (sym (add-one i) j) xs) in
    or-after o (place_in (key x ∷ []) i name) (place_in (map key (drop (i + 1) xs)) (i + 1) name)
    ∙ ap (λ n. option_or o (option_or (place_in (key x ∷ []) i name) (place_in (map key (drop (i + 1) xs)) n name))) (add-one i)
    ∙ ap (option_or o) (sym (place-cons (key x) (map key (drop (i + 1) xs)) i name))
    ∙ ap (λ l. option_or o (place_in (map key l) i name)) (sym left)

pub all-places : {A : Type 0} (key : A → Option (List ℕ)) (xs : List A) (i : ℕ) (o : Option ℕ) (name : List ℕ) → length xs ≤ i →
    o ≡ option_or o (place_in (map key (drop i xs)) i name)
all-places key xs i o name least = sym (or-none o) ∙ ap (λ l. option_or o (place_in (map key l) i name)) (sym (drop_all i xs least))

-- the pattern at the place of its id
pub record IsPatternAt (patterns : List RawPattern) (first place : ℕ) (name : List ℕ) : Type 0 where
  pub behind : ℕ
  pub is : place ≡ first + behind
  pub pattern : slice_get patterns behind ≡ pattern_among patterns name

abstract-tells : (name : List ℕ) (pattern : RawPattern) → is_id name (abstract_id pattern) ≡ (pattern.is_abstract && is_id name pattern.id)
abstract-tells name pattern = by pattern.is_abstract
  where
    by : (b : Bool) → is_id name (cond b pattern.id None) ≡ (b && is_id name pattern.id)
    by true = refl
    by false = refl

pub pattern-none : (patterns : List RawPattern) (first : ℕ) (name : List ℕ) → place_in (map abstract_id patterns) first name ≡ None → pattern_among patterns name ≡ None
pattern-none [] first name e = refl
pattern-none (pattern ∷ patterns) first name e = by (pattern-none patterns (suc first) name) (is_id name (abstract_id pattern)) refl e
  where
    by : (place_in (map abstract_id patterns) (suc first) name ≡ None → pattern_among patterns name ≡ None) → (b : Bool) → is_id name (abstract_id pattern) ≡ b →
        cond b (Some first) (place_in (map abstract_id patterns) (suc first) name) ≡ None → pattern_among (pattern ∷ patterns) name ≡ None
    by more true eb e = absurd (cc)
    by more false eb e = ap (λ b. cond b (Some pattern) (pattern_among patterns name)) (sym (abstract-tells name pattern) ∙ eb) ∙ more e

pub pattern-some : (patterns : List RawPattern) (first place : ℕ) (name : List ℕ) → place_in (map abstract_id patterns) first name ≡ Some place → IsPatternAt patterns first place name
pattern-some [] first place name e = absurd (cc)
pattern-some (pattern ∷ patterns) first place name e = by (pattern-some patterns (suc first) place name) (is_id name (abstract_id pattern)) refl e
  where
    by : (place_in (map abstract_id patterns) (suc first) name ≡ Some place → IsPatternAt patterns (suc first) place name) → (b : Bool) → is_id name (abstract_id pattern) ≡ b →
        cond b (Some first) (place_in (map abstract_id patterns) (suc first) name) ≡ Some place → IsPatternAt (pattern ∷ patterns) first place name
    by more true eb e = record {
      behind = 0;
      is = (let here : first ≡ place = some-is first place e in omega (arith, here));
      pattern = sym (ap (λ b. cond b (Some pattern) (pattern_among patterns name)) (sym (abstract-tells name pattern) ∙ eb));
    }
    by more false eb e =
        let its = more e in
        record {
          behind = suc its.behind;
          is = omega (arith, its.is);
          pattern = its.pattern ∙ sym (ap (λ b. cond b (Some pattern) (pattern_among patterns name)) (sym (abstract-tells name pattern) ∙ eb));
        }
