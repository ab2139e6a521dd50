-- What holds at each place of a document that breaks no rule.
use Rattle.std.proofs.Common.{◌≡◌, ℕ, Bool, true, false, ◌||◌, ◌==◌, cond, eqb-true, List, [], ◌∷◌, ◌++◌, Option, None, Some, refl, sym, ap, ◌∙◌, subst, append-nil}
use Rattle.std.specs.List.{flat_map}
use Rattle.std.specs.Option.{option_or}
use Rattle.std.specs.Prelude.{codes}
use Rattle.doc_tree.specs.Lists.{mem}
use Rattle.doc_tree.specs.Table.{Table, parent_of}
use Rattle.sch_rules.specs.declared.named.Named.{Named}
use Rattle.sch_rules.specs.declared.named.Named.TheVariants as named
use Rattle.sch_rules.specs.declared.word.Word.{Word}
use Rattle.sch_rules.specs.declared.word.Word.TheVariants as word
use Rattle.sch_rules.specs.Attributes.{is_abstract, said}
use Rattle.sch_rules.specs.Elements.{first_or, is_ignored, word_above, word_at}
use Rattle.sch_rules.specs.FirstBroken.{fault_at, fault_of, first_over, least}
use Rattle.sch_rules.specs.Keys.{Key, is_taken, keys_at, keys_for, keys_of}
use Rattle.sch_rules.specs.Rules.{first_taken, ill_formed, missing, rules, wrong_document}
use Rattle.sch_rules.specs.Words.{is_word}
use Rattle.sch_flat_laws.specs.Readable.{Each}
use Rattle.sch_flat_laws.proofs.Rules.KeyLemmas.{AllNew}

-- rules that a place keeps
pub record Held (T : Table) (n : ℕ) (w : Option Word) : Type 0 where
  pub top : wrong_document T n w ≡ None
  pub given : missing T n w ≡ None
  pub formed : ill_formed T n w ≡ None

pub or_none : {A : Type 0} (a b : Option A) → option_or a b ≡ None → (a ≡ None) × (b ≡ None)
or_none None b h = (refl, h)
or_none (Some x) b h = absurd (cc)

no-fault : (n rule : ℕ) (o : Option (List ℕ)) → fault_of n rule o ≡ None → o ≡ None
no-fault n rule None h = refl
no-fault n rule (Some name) h = absurd (cc)

pub each_none : (n : ℕ) (rs : List (ℕ × Option (List ℕ))) → least n rs ≡ None → Each (λ (r : ℕ × Option (List ℕ)). r.1 ≡ None) rs
each_none n [] h = tt
each_none n (r ∷ rs) h =
    let parts = or_none (fault_of n r.0 r.1) (least n rs) h in (no-fault n r.0 r.1 parts.0, each_none n rs parts.1)

-- a place with no fault
record NoFault (T : Table) (taken : List Key) (n : ℕ) : Type 0 where
  held : Held T n (word_at T n)
  fresh : first_taken taken (keys_of T n (word_at T n)) ≡ None

no-fault-at : (T : Table) (taken : List Key) (n : ℕ) → is_ignored T n ≡ false → fault_at T taken n ≡ None → NoFault T taken n
no-fault-at T taken n counts none =
    let each = each_none n (rules T taken n) (ap (λ (b : Bool). cond b None (least n (rules T taken n))) (sym counts) ∙ none) in
    record {
      held = record { top = each.0; given = each.1.1.1.1.1.0; formed = each.1.1.1.1.1.1.0 };
      fresh = each.1.1.1.1.1.1.1.0;
    }

pub held_at : (T : Table) (taken : List Key) (ns : List ℕ) → first_over T taken ns ≡ None → (n : ℕ) → mem n ns ≡ true → is_ignored T n ≡ false → Held T n (word_at T n)
held_at T taken [] none n member counts = absurd (cc)
held_at T taken (m ∷ ns) none n member counts =
    let parts = or_none (fault_at T taken m) (first_over T (taken ++ keys_at T m) ns) none in
    by (n == m) refl member parts.0 (held_at T (taken ++ keys_at T m) ns parts.1 n)
  where
    by : (b : Bool) → (n == m) ≡ b → (b || mem n ns) ≡ true → fault_at T taken m ≡ None → (mem n ns ≡ true → is_ignored T n ≡ false → Held T n (word_at T n)) → Held T n (word_at T n)
    by true e h here rest = (no-fault-at T taken n counts (subst (λ (k : ℕ). fault_at T taken k ≡ None) (sym (eqb-true n m e)) here)).held
    by false e h here rest = rest h counts

-- a place uses one name at most
abbrev IsShort : List Key → Type 0
IsShort [] = Unit {0}
IsShort (key ∷ []) = Unit {0}
IsShort (key ∷ next ∷ keys) = ⊥

short-for : (kind : Named) (within : ℕ) (name : Option (List ℕ)) → IsShort (keys_for kind within name)
short-for kind within None = tt
short-for kind within (Some name) = tt

short-if : (b : Bool) (keys : List Key) → IsShort keys → IsShort (cond b keys [])
short-if true keys h = h
short-if false keys h = tt

short-of : (T : Table) (n : ℕ) (w : Option Word) → IsShort (keys_of T n w)
short-of T n (Some word.Title) = short-if (is_word word.Schema (word_above T n)) (keys_for named.Title 0 (Some (codes "title"))) tt
short-of T n (Some word.Ns) = short-for named.Prefix 0 (said T n (codes "prefix"))
short-of T n (Some word.Phase) = short-for named.Phase 0 (said T n (codes "id"))
short-of T n (Some word.Pattern) = short-for named.Pattern 0 (said T n (codes "id"))
short-of T n (Some word.Rule) =
    short-if (is_abstract T n) (keys_for named.AbstractRule 0 (said T n (codes "id"))) (short-for named.AbstractRule 0 (said T n (codes "id")))
short-of T n (Some word.Diagnostic) = short-for named.Diagnostic 0 (said T n (codes "id"))
short-of T n (Some word.Property) = short-for named.Property 0 (said T n (codes "id"))
short-of T n (Some word.Param) = short-for named.Param (first_or 0 (parent_of T n)) (said T n (codes "name"))
short-of T n _ = tt

untaken : (b : Bool) (name : List ℕ) → cond b (Some name) None ≡ None → b ≡ false
untaken true name h = absurd (cc)
untaken false name h = refl

new-short : (taken keys more : List Key) → IsShort keys → first_taken taken keys ≡ None → AllNew (taken ++ keys) more → AllNew taken (keys ++ more)
new-short taken [] more short none new = subst (λ (l : List Key). AllNew l more) (append-nil taken) new
new-short taken (key ∷ []) more short none new = (untaken (is_taken taken key) key.name none, new)
new-short taken (key ∷ next ∷ keys) more short none new = absurd short

-- each name is new
pub new_over : (T : Table) (taken : List Key) (ns : List ℕ) → first_over T taken ns ≡ None → AllNew taken (flat_map (keys_at T) ns)
new_over T taken [] none = tt
new_over T taken (n ∷ ns) none =
    let parts = or_none (fault_at T taken n) (first_over T (taken ++ keys_at T n) ns) none in
    by (is_ignored T n) refl parts.0 (new_over T (taken ++ keys_at T n) ns parts.1)
  where
    by : (b : Bool) → is_ignored T n ≡ b → fault_at T taken n ≡ None → AllNew (taken ++ keys_at T n) (flat_map (keys_at T) ns) → AllNew taken (keys_at T n ++ flat_map (keys_at T) ns)
    by true e here new =
        let is : keys_at T n ≡ [] = ap (λ (b : Bool). cond b [] (keys_of T n (word_at T n))) e in
        new-short taken (keys_at T n) (flat_map (keys_at T) ns) (subst IsShort (sym is) tt) (ap (first_taken taken) is) new
    by false e here new =
        let is : keys_at T n ≡ keys_of T n (word_at T n) = ap (λ (b : Bool). cond b [] (keys_of T n (word_at T n))) e in
        new-short taken (keys_at T n) (flat_map (keys_at T) ns) (subst IsShort (sym is) (short-of T n (word_at T n)))
        (ap (first_taken taken) is ∙ (no-fault-at T taken n e here).fresh) new
