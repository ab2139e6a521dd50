-- The names that a schema uses, each kind with names of its own: a prefix, the id of a phase, a pattern, an abstract rule,
-- a diagnostic or a property, and a parameter's name in its pattern; the schema has one title.
use Rattle.std.specs.Prelude.{ℕ, Bool, ◌&&◌, ◌==◌, List, [], ◌∷◌, Option, None, Some, codes, if◌then◌else◌}
use Rattle.std.specs.List.{list_any}
use Rattle.std.specs.Str.{bytes_eq}
use Rattle.doc_tree.specs.Table.{Table, parent_of}
use Rattle.sch_rules.specs.declared.named.Named.{Named}
use Rattle.sch_rules.specs.declared.named.Named.TheVariants.{Title, Prefix, Phase, Pattern, AbstractRule, Diagnostic, Property, Param}
use Rattle.sch_rules.specs.declared.word.Word.{Word}
use Rattle.sch_rules.specs.declared.word.Word.TheVariants as word
use Rattle.sch_rules.specs.Attributes.{is_abstract, said}
use Rattle.sch_rules.specs.Elements.{first_or, is_ignored, word_above, word_at}
use Rattle.sch_rules.specs.Words.{is_word}

-- a name that may be used once: of a parameter within its pattern, else within the whole schema, which stands as 0
pub record Key : Type 0 where
  pub kind : Named
  pub within : ℕ
  pub name : List ℕ

-- the kinds in their order, by which two are compared
abbrev pub kind_rank : Named → ℕ
kind_rank Title = 0
kind_rank Prefix = 1
kind_rank Phase = 2
kind_rank Pattern = 3
kind_rank AbstractRule = 4
kind_rank Diagnostic = 5
kind_rank Property = 6
kind_rank Param = 7

abbrev pub same_key : Key → Key → Bool
same_key a b = kind_rank a.kind == kind_rank b.kind && (a.within == b.within && bytes_eq a.name b.name)

-- whether a name is used already
abbrev pub is_taken : List Key → Key → Bool
is_taken taken key = list_any (same_key key) taken

-- the use of a name, where there is one
abbrev pub keys_for : Named → ℕ → Option (List ℕ) → List Key
keys_for kind within None = []
keys_for kind within (Some name) = record { kind = kind; within = within; name = name } ∷ []

-- the name that an element uses
abbrev pub keys_of : Table → ℕ → Option Word → List Key
keys_of T n (Some word.Title) = if is_word word.Schema (word_above T n) then keys_for Title 0 (Some (codes "title")) else []
keys_of T n (Some word.Ns) = keys_for Prefix 0 (said T n (codes "prefix"))
keys_of T n (Some word.Phase) = keys_for Phase 0 (said T n (codes "id"))
keys_of T n (Some word.Pattern) = keys_for Pattern 0 (said T n (codes "id"))
keys_of T n (Some word.Rule) = if is_abstract T n then keys_for AbstractRule 0 (said T n (codes "id")) else []
keys_of T n (Some word.Diagnostic) = keys_for Diagnostic 0 (said T n (codes "id"))
keys_of T n (Some word.Property) = keys_for Property 0 (said T n (codes "id"))
keys_of T n (Some word.Param) = keys_for Param (first_or 0 (parent_of T n)) (said T n (codes "name"))
keys_of T n _ = []

-- the name that is used at a place
abbrev pub keys_at : Table → ℕ → List Key
keys_at T n = if is_ignored T n then [] else keys_of T n (word_at T n)
