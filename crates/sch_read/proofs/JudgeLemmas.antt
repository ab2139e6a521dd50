-- The rules of a place in their parts.
use Rattle.std.proofs.Common.{◌≡◌, ℕ, List, [], ◌∷◌, ◌++◌, Option, None, Result, Err, sym, ap, ◌∙◌, subst}
use Rattle.std.specs.Option.{option_or}
use Rattle.doc_tree.specs.Table.{Table}
use Rattle.sch_model.specs.declared.fault.SchemaError.{SchemaError}
use Rattle.sch_model.specs.declared.fault.SchemaFault.{SchemaFault}
use Rattle.sch_rules.specs.declared.word.Word.{Word}
use Rattle.sch_rules.specs.FirstBroken.{least}
use Rattle.sch_rules.specs.Keys.{Key}
use Rattle.sch_rules.specs.Rules.{repeated, rules_of}
use Rattle.sch_read.specs.inner.Found.{attribute_rules, element_rules, pattern_rules}
use Rattle.sch_read.specs.inner.Told.{Refuses}
use Rattle.sch_read.proofs.ToldLemmas.{least-append, refuses-stop, refuses-then}

module _ (T : Table) (taken : List Key) (n : ℕ) (word : Option Word) where
  abbrev pub name_rules : List (ℕ × Option (List ℕ))
  name_rules = (8, repeated T taken n word) ∷ []

  abbrev last : Option SchemaFault
  last = option_or (least n name_rules) (least n (pattern_rules T n word))

  abbrev later : Option SchemaFault
  later = option_or (least n (attribute_rules T n word)) last

  parts : least n (rules_of T taken n word) ≡ option_or (least n (element_rules T n word)) later
  parts =
      least-append n (element_rules T n word) (attribute_rules T n word ++ (name_rules ++ pattern_rules T n word))
      ∙ ap (option_or (least n (element_rules T n word)))
      (least-append n (attribute_rules T n word) (name_rules ++ pattern_rules T n word)
      ∙ ap (option_or (least n (attribute_rules T n word))) (least-append n name_rules (pattern_rules T n word)))

  pub element-stop : (e : SchemaError) (found : Option SchemaFault) → found ≡ least n (element_rules T n word) → Refuses found (Err e) →
      Refuses (least n (rules_of T taken n word)) (Err e)
  element-stop e found is h =
      subst (λ o. Refuses o (Err e)) (sym parts) (refuses-stop (least n (element_rules T n word)) later e (subst (λ o. Refuses o (Err e)) is h))

  pub element-then : (r : Result (Unit {0}) SchemaError) (found : Option SchemaFault) → found ≡ least n (element_rules T n word) → found ≡ None → Refuses later r →
      Refuses (least n (rules_of T taken n word)) r
  element-then r found is none h =
      subst (λ o. Refuses o r) (sym parts) (refuses-then (least n (element_rules T n word)) later r (sym is ∙ none) h)

  pub attribute-stop : (e : SchemaError) (found : Option SchemaFault) → found ≡ least n (attribute_rules T n word) → Refuses found (Err e) → Refuses later (Err e)
  attribute-stop e found is h = refuses-stop (least n (attribute_rules T n word)) last e (subst (λ o. Refuses o (Err e)) is h)

  pub attribute-then : (r : Result (Unit {0}) SchemaError) (found : Option SchemaFault) → found ≡ least n (attribute_rules T n word) → found ≡ None → Refuses last r → Refuses later r
  attribute-then r found is none h = refuses-then (least n (attribute_rules T n word)) last r (sym is ∙ none) h

  pub name-stop : (e : SchemaError) → Refuses (least n name_rules) (Err e) → Refuses last (Err e)
  name-stop e h = refuses-stop (least n name_rules) (least n (pattern_rules T n word)) e h
