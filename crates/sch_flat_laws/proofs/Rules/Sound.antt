-- Places of a document at which no rule is broken.
use Rattle.std.proofs.Common.{◌≡◌, ℕ, Bool, true, false, ◌&&◌, cond, List, [], ◌∷◌, ◌++◌, Option, None, Some, refl, sym, ap, ◌∙◌, append-nil}
use Rattle.std.specs.List.{flat_map}
use Rattle.std.specs.Option.{is_none, option_or}
use Rattle.std.specs.Prelude.{option_and_then, option_map}
use Rattle.std.proofs.lemmas.Grind.{flat_map-append}
use Rattle.doc_tree.specs.Table.{Table, Name, content_of}
use Rattle.sch_rules.specs.declared.word.Word.{Word}
use Rattle.sch_rules.specs.Elements.{element_name, is_at_top, is_ignored, local_at, local_in, word_at}
use Rattle.sch_rules.specs.FirstBroken.{fault_at, fault_of, first_over, least}
use Rattle.sch_rules.specs.Keys.{Key, keys_at, keys_of}
use Rattle.sch_rules.specs.Rules.{first_taken, ill_formed, misplaced, missing, mixed, name_if, rules, rules_of, unknown, unknown_name, unsupported, wrong_binding, wrong_document}
use Rattle.sch_rules.specs.Words.{word_of}
use Rattle.sch_flat_laws.specs.Readable.{Each}
use Rattle.sch_flat_laws.proofs.Rules.KeyLemmas.{AllNew, new_first, new_rest}

-- a place at which no rule is broken, if the name that it uses is new
pub record Sound (T : Table) (n : ℕ) : Type 0 where
  pub counts : is_ignored T n ≡ false
  pub none : (taken : List Key) → first_taken taken (keys_of T n (word_at T n)) ≡ None → least n (rules T taken n) ≡ None

-- such places, and the names that they use
pub record Clean (T : Table) (ns : List ℕ) (keys : List Key) : Type 0 where
  pub sound : Each (Sound T) ns
  pub uses : flat_map (keys_at T) ns ≡ keys

pub each_append : {A : Type 0} (P : A → Type 0) (xs ys : List A) → Each P xs → Each P ys → Each P (xs ++ ys)
each_append P [] ys h k = k
each_append P (x ∷ xs) ys h k = (h.0, each_append P xs ys h.1 k)

pub clean_nil : (T : Table) → Clean T [] []
clean_nil T = record { sound = tt; uses = refl }

pub clean_append : (T : Table) (xs ys : List ℕ) (a b : List Key) → Clean T xs a → Clean T ys b → Clean T (xs ++ ys) (a ++ b)
clean_append T xs ys a b h k = record {
  sound = each_append (Sound T) xs ys h.sound k.sound;
  uses = flat_map-append (keys_at T) xs ys ∙ ap (λ l. l ++ flat_map (keys_at T) ys) h.uses ∙ ap (λ l. a ++ l) k.uses;
}

-- no rule is broken at such places, where all their names are new
pub none_over : (T : Table) (taken : List Key) (ns : List ℕ) → Each (Sound T) ns → AllNew taken (flat_map (keys_at T) ns) → first_over T taken ns ≡ None
none_over T taken [] sound new = refl
none_over T taken (n ∷ ns) sound new =
    let here : keys_at T n ≡ keys_of T n (word_at T n) = ap (λ (b : Bool). cond b [] (keys_of T n (word_at T n))) sound.0.counts in
    let first : first_taken taken (keys_of T n (word_at T n)) ≡ None =
    ap (first_taken taken) (sym here) ∙ new_first taken (keys_at T n) (flat_map (keys_at T) ns) new in
    let fault : fault_at T taken n ≡ None = ap (λ (b : Bool). cond b None (least n (rules T taken n))) sound.0.counts ∙ sound.0.none taken first in
    ap (λ o. option_or o (first_over T (taken ++ keys_at T n) ns)) fault
    ∙ none_over T (taken ++ keys_at T n) ns sound.1 (new_rest taken (keys_at T n) (flat_map (keys_at T) ns) new)

-- where each rule gives no name, none is broken
pub least_none : (n : ℕ) (rs : List (ℕ × Option (List ℕ))) → Each (λ (r : ℕ × Option (List ℕ)). r.1 ≡ None) rs → least n rs ≡ None
least_none n [] all = refl
least_none n (r ∷ rs) all = ap (λ o. option_or (fault_of n r.0 o) (least n rs)) all.0 ∙ least_none n rs all.1

either_none : (b : Bool) → cond {A = Option (List ℕ)} b None None ≡ None
either_none true = refl
either_none false = refl

-- a node that is no element breaks no rule and uses no name
pub plain_node : (T : Table) (n : ℕ) → is_ignored T n ≡ false → element_name (content_of T n) ≡ None → Clean T (n ∷ []) []
plain_node T n counts none =
    let nothing : word_at T n ≡ None = ap (λ (name : Option Name). option_and_then word_of (local_in name)) none in
    let top : wrong_document T n None ≡ None =
    ap (λ (name : Option Name). cond (is_at_top T n && true) (option_map (λ (x : Name). x.local) name) None) none ∙ either_none (is_at_top T n && true) in
    let known : unknown T n ≡ None = ap (λ (name : Option Name). unknown_name (local_in name)) none in
    record {
      sound = (
        record {
          counts = counts;
          none = λ taken new.
              ap (λ (v : Option Word). least n (rules_of T taken n v)) nothing
              ∙ least_none n (rules_of T taken n None) (top, (refl, (known, (refl, (refl, (refl, (refl, (refl, (refl, tt)))))))));
        },
        tt,
      );
      uses = ap (λ (l : List Key). l ++ [])
          (ap (λ (b : Bool). cond b [] (keys_of T n (word_at T n))) counts ∙ ap (keys_of T n) nothing);
    }

-- what the rules want of an element with this word
pub record Keeps (T : Table) (n : ℕ) (w : Word) : Type 0 where
  pub top : wrong_document T n (Some w) ≡ None
  pub binding : wrong_binding T n (Some w) ≡ None
  pub placed : misplaced T n (Some w) ≡ None
  pub supported : unsupported T n (Some w) ≡ None
  pub given : missing T n (Some w) ≡ None
  pub formed : ill_formed T n (Some w) ≡ None
  pub unmixed : mixed T n (Some w) ≡ None

known-name : (name : Option (List ℕ)) (w : Word) → option_and_then word_of name ≡ Some w → unknown_name name ≡ None
known-name None w h = absurd (cc)
known-name (Some local) w h = ap (λ (v : Option Word). name_if (is_none v) local) h

pub sound_as : (T : Table) (n : ℕ) (w : Word) → is_ignored T n ≡ false → word_at T n ≡ Some w → Keeps T n w → Sound T n
sound_as T n w counts is keeps = record {
  counts = counts;
  none = λ taken new.
      let here : first_taken taken (keys_of T n (Some w)) ≡ None = ap (λ (v : Option Word). first_taken taken (keys_of T n v)) (sym is) ∙ new in
      ap (λ (v : Option Word). least n (rules_of T taken n v)) is
      ∙ least_none n (rules_of T taken n (Some w))
      (keeps.top, (keeps.binding, (known-name (local_at T n) w is, (keeps.placed, (keeps.supported, (keeps.given, (keeps.formed, (here, (keeps.unmixed, tt)))))))));
}

-- an element with this word, and the names that it uses
pub clean_as : (T : Table) (n : ℕ) (w : Word) (own : List Key) → Sound T n → word_at T n ≡ Some w → keys_of T n (Some w) ≡ own → Clean T (n ∷ []) own
clean_as T n w own sound is keys = record {
  sound = (sound, tt);
  uses = append-nil (keys_at T n)
      ∙ ap (λ (b : Bool). cond b [] (keys_of T n (word_at T n))) sound.counts
      ∙ ap (keys_of T n) is
      ∙ keys;
}
