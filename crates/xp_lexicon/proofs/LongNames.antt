-- The longest name and the longest variable in front of a text.
use Rattle.std.proofs.Common.{◌≡◌, ℕ, suc, ◌+◌, ◌≤◌, List, [], ◌∷◌, ◌++◌, length, refl, sym, ap, subst, ◌∙◌, append_assoc, arith, length-append}
use Rattle.std.proofs.lemmas.List.{append_cancel_right}
use Rattle.sch_base.specs.Fronts.{IsEnd}
use Rattle.xp_lexicon.specs.declared.lexeme.Lexeme.TheVariants as lexeme
use Rattle.xp_lexicon.specs.Lexicon.{IsNcname, IsPrefixed, name_lexeme, prefixed_name_lexeme, prefix_star_lexeme, variable_lexeme, prefixed_variable_lexeme}
use Rattle.xp_lexicon.specs.inner.Scanning.{IsHead, NoName, LocalAt, NoLocal, NoStar, QnameAt, EndsQname, with_local, without_local, LongestOf, NoneOf, is_name, is_variable}
use Rattle.xp_lexicon.proofs.Names.{no_longer, before_colon, name_takes}
use Rattle.xp_lexicon.proofs.Forms.{names, variables}

-- another name with a prefix in front has the same prefix
pub record SamePrefix (name rest : List ℕ) (p : List ℕ) (behind : List ℕ) : Type 0 where
  pub prefix : p ≡ name
  pub rest_is : rest ≡ 58 ∷ behind

same_prefix : (text name rest p behind : List ℕ) → IsHead text name rest → text ≡ p ++ 58 ∷ behind → IsNcname p → SamePrefix name rest p behind
same_prefix text name rest p behind head e n =
    let same = before_colon text name rest p behind head e n in record { prefix = same.0; rest_is = sym same.1 }

prefixed_split : (text p l bytes after : List ℕ) → text ≡ bytes ++ after → bytes ≡ p ++ 58 ∷ l → text ≡ p ++ 58 ∷ (l ++ after)
prefixed_split text p l bytes after e joined = e ∙ ap (λ x. x ++ after) joined ∙ append_assoc p (58 ∷ l) after

tail_same : (a : ℕ) (xs ys : List ℕ) → a ∷ xs ≡ a ∷ ys → xs ≡ ys
tail_same a xs ys e = cc

length_joined : (p l : List ℕ) → length (p ++ 58 ∷ l) ≡ length p + suc (length l)
length_joined p l = length-append p (58 ∷ l)

-- a name with a prefix against what stands in front
prefixed_fits : (text name rest behind local end more after : List ℕ) → IsHead text name rest → rest ≡ 58 ∷ behind → IsHead behind local end →
    IsPrefixed more → text ≡ more ++ after → length more ≤ length name + suc (length local)
prefixed_fits text name rest behind local end more after head colon second p e =
    let s = same_prefix text name rest p.prefix (p.local ++ after) head (prefixed_split text p.prefix p.local more after e p.joined) p.prefix_name in
    let fits = no_longer behind local end p.local after second (tail_same 58 behind (p.local ++ after) (sym colon ∙ s.rest_is)) p.local_name in
    omega (arith, ap length p.joined, length_joined p.prefix p.local, ap length s.prefix)

no_prefixed : (text name rest more after : List ℕ) → IsHead text name rest → NoLocal rest → IsPrefixed more → text ≡ more ++ after → ⊥
no_prefixed text name rest more after head none p e =
    let s = same_prefix text name rest p.prefix (p.local ++ after) head (prefixed_split text p.prefix p.local more after e p.joined) p.prefix_name in
    none (p.local ++ after) s.rest_is p.local after refl p.local_name

-- the length of what was taken
taken : (text bytes name rest end : List ℕ) (tail : List ℕ) → text ≡ bytes ++ end → text ≡ name ++ rest → rest ≡ tail ++ end → bytes ≡ name ++ tail
taken text bytes name rest end tail e head split =
    append_cancel_right bytes (name ++ tail) end
    (sym e ∙ head ∙ ap (λ l. name ++ l) split ∙ sym (append_assoc name tail end))

prefixed_is : (text bytes name rest end : List ℕ) → text ≡ bytes ++ end → IsHead text name rest → (l : LocalAt rest end) →
    bytes ≡ name ++ 58 ∷ l.name.name
prefixed_is text bytes name rest end e head l =
    taken text bytes name rest end (58 ∷ l.name.name) e head.split (l.colon ∙ ap (λ x. 58 ∷ x) l.name.head.split)

pub with_prefix : (text bytes name rest end : List ℕ) → text ≡ bytes ++ end → IsHead text name rest → LocalAt rest end →
    LongestOf is_name text end (lexeme.PrefixedName bytes)
with_prefix text bytes name rest end e head l =
    let joined = prefixed_is text bytes name rest end e head l in
    let second = l.name.head in
    let size : length bytes ≡ length name + suc (length l.name.name) = ap length joined ∙ length_joined name l.name.name in
    record {
      bytes = bytes;
      at_front = e;
      is = prefixed_name_lexeme bytes (record { prefix = name; local = l.name.name; joined = joined; prefix_name = head.is; local_name = second.is });
      longest = λ more after m form split is.
          names (λ bs _. text ≡ bs ++ after → length bs ≤ length bytes)
          (λ bs n split. omega (arith, no_longer text name rest bs after head split n))
          (λ bs p split. omega (arith, prefixed_fits text name rest l.behind l.name.name end bs after head l.colon second p split))
          (λ bs p starred n split.
          let fits = no_longer text name rest p (58 ∷ 42 ∷ after) head (split ∙ ap (λ x. x ++ after) starred ∙ append_assoc p (58 ∷ 42 ∷ []) after) n in
          omega (arith, ap length starred, length_joined p (42 ∷ []), name_takes l.name.name second.is))
          more m form is split;
    }

pub with_star : (text name rest end : List ℕ) → IsHead text name rest → NoLocal rest → rest ≡ 58 ∷ 42 ∷ end →
    LongestOf is_name text end (lexeme.PrefixStar name)
with_star text name rest end head none starred =
    let size = length_joined name (42 ∷ []) in
    record {
      bytes = name ++ 58 ∷ 42 ∷ [];
      at_front = head.split ∙ ap (λ l. name ++ l) starred ∙ sym (append_assoc name (58 ∷ 42 ∷ []) end);
      is = prefix_star_lexeme (name ++ 58 ∷ 42 ∷ []) name refl head.is;
      longest = λ more after m form split is.
          names (λ bs _. text ≡ bs ++ after → length bs ≤ length (name ++ 58 ∷ 42 ∷ []))
          (λ bs n split. omega (arith, no_longer text name rest bs after head split n))
          (λ bs p split. absurd (no_prefixed text name rest bs after head none p split))
          (λ bs p starred n split.
          let fits = no_longer text name rest p (58 ∷ 42 ∷ after) head (split ∙ ap (λ x. x ++ after) starred ∙ append_assoc p (58 ∷ 42 ∷ []) after) n in
          omega (arith, ap length starred, length_joined p (42 ∷ [])))
          more m form is split;
    }

pub without_prefix : (text name rest : List ℕ) → IsHead text name rest → NoLocal rest → NoStar rest → LongestOf is_name text rest (lexeme.Name name)
without_prefix text name rest head none no_star = record {
  bytes = name;
  at_front = head.split;
  is = name_lexeme name head.is;
  longest = λ more after m form split is.
      names (λ bs _. text ≡ bs ++ after → length bs ≤ length name)
      (λ bs n split. no_longer text name rest bs after head split n)
      (λ bs p split. absurd (no_prefixed text name rest bs after head none p split))
      (λ bs p starred n split.
      absurd (no_star after (same_prefix text name rest p (42 ∷ after) head (split ∙ ap (λ x. x ++ after) starred ∙ append_assoc p (58 ∷ 42 ∷ []) after) n).rest_is))
      more m form is split;
}

pub no_names : (text : List ℕ) → NoName text → NoneOf is_name text
no_names text none = λ more after m form split is.
    names (λ bs _. text ≡ bs ++ after → ⊥)
    (λ bs n split. none bs after split n)
    (λ bs p split. none p.prefix (58 ∷ (p.local ++ after)) (prefixed_split text p.prefix p.local bs after split p.joined) p.prefix_name)
    (λ bs p starred n split. none p (58 ∷ 42 ∷ after) (split ∙ ap (λ x. x ++ after) starred ∙ append_assoc p (58 ∷ 42 ∷ []) after) n)
    more m form is split

tail_split : (text name after : List ℕ) → 36 ∷ text ≡ (36 ∷ name) ++ after → text ≡ name ++ after
tail_split text name after e = tail_same 36 text (name ++ after) e

variable_with_local : (text bytes name rest end : List ℕ) → text ≡ bytes ++ end → IsHead text name rest → LocalAt rest end →
    LongestOf is_variable (36 ∷ text) end (lexeme.Variable bytes)
variable_with_local text bytes name rest end e head l =
    let joined = prefixed_is text bytes name rest end e head l in
    let size : length bytes ≡ length name + suc (length l.name.name) = ap length joined ∙ length_joined name l.name.name in
    record {
      bytes = 36 ∷ bytes;
      at_front = ap (λ x. 36 ∷ x) e;
      is = prefixed_variable_lexeme bytes (record { prefix = name; local = l.name.name; joined = joined; prefix_name = head.is; local_name = l.name.head.is });
      longest = λ more after m form split is.
          variables (λ bs _. 36 ∷ text ≡ bs ++ after → length bs ≤ suc (length bytes))
          (λ bs n split. omega (arith, no_longer text name rest bs after head (tail_split text bs after split) n))
          (λ bs p split. omega (arith, prefixed_fits text name rest l.behind l.name.name end bs after head l.colon l.name.head p (tail_split text bs after split)))
          more m form is split;
    }

variable_alone : (text bytes name rest : List ℕ) → text ≡ bytes ++ rest → IsHead text name rest → NoLocal rest →
    LongestOf is_variable (36 ∷ text) rest (lexeme.Variable bytes)
variable_alone text bytes name rest e head none =
    let same : bytes ≡ name = append_cancel_right bytes name rest (sym e ∙ head.split) in
    record {
      bytes = 36 ∷ bytes;
      at_front = ap (λ x. 36 ∷ x) e;
      is = variable_lexeme bytes (subst IsNcname (sym same) head.is);
      longest = λ more after m form split is.
          variables (λ bs _. 36 ∷ text ≡ bs ++ after → length bs ≤ suc (length bytes))
          (λ bs n split. omega (arith, no_longer text name rest bs after head (tail_split text bs after split) n, ap length same))
          (λ bs p split. absurd (no_prefixed text name rest bs after head none p (tail_split text bs after split)))
          more m form is split;
    }

longest_of : (text bytes name middle rest : List ℕ) → text ≡ bytes ++ rest → IsHead text name middle → EndsQname middle rest →
    LongestOf is_variable (36 ∷ text) rest (lexeme.Variable bytes)
longest_of text bytes name middle rest e head (with_local _ _ l) = variable_with_local text bytes name middle rest e head l
longest_of text bytes name middle rest e head (without_local _ none) = variable_alone text bytes name middle e head none

pub longest_variable : (text bytes rest : List ℕ) → text ≡ bytes ++ rest → QnameAt text rest → LongestOf is_variable (36 ∷ text) rest (lexeme.Variable bytes)
longest_variable text bytes rest e q = longest_of text bytes q.first.name q.middle rest e q.first.head q.second

pub no_variables : (text : List ℕ) → NoName text → NoneOf is_variable (36 ∷ text)
no_variables text none = λ more after m form split is.
    variables (λ bs _. 36 ∷ text ≡ bs ++ after → ⊥)
    (λ bs n split. none bs after (tail_split text bs after split) n)
    (λ bs p split. none p.prefix (58 ∷ (p.local ++ after)) (prefixed_split text p.prefix p.local bs after (tail_split text bs after split) p.joined) p.prefix_name)
    more m form is split

pub local_end : (text name rest end : List ℕ) → IsHead text name rest → LocalAt rest end → IsEnd text end
local_end text name rest end head l = record {
  front = name ++ 58 ∷ l.name.name;
  split = head.split ∙ ap (λ x. name ++ x) (l.colon ∙ ap (λ x. 58 ∷ x) l.name.head.split) ∙ sym (append_assoc name (58 ∷ l.name.name) end);
}

end_of : (text name middle rest : List ℕ) → IsHead text name middle → EndsQname middle rest → IsEnd text rest
end_of text name middle rest head (with_local _ _ l) = local_end text name middle rest head l
end_of text name middle rest head (without_local _ none) = record { front = name; split = head.split }

pub qname_end : (text rest : List ℕ) → QnameAt text rest → IsEnd text rest
qname_end text rest q = end_of text q.first.name q.middle rest q.first.head q.second
