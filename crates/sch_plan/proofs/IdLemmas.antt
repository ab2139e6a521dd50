-- Ids as they are kept.
use Rattle.std.proofs.Common.{◌≡◌, ℕ, ◌+◌, ◌<◌, ◌≤◌, length, drop, get_or, Bool, true, false, cond, List, [], ◌∷◌, ◌++◌, Option, Some, None, refl, sym, ap, ◌∙◌, is_some, String, Global}
use Rattle.std.proofs.lemmas.List.{drop_all}
use Rattle.std.specs.Option.{option_or}
use Rattle.std.specs.Str.{bytes_eq}
use Rattle.std.specs.String.{string_bytes, string_eq}
use Rattle.std.proofs.lemmas.Slice.Eq.{bytes_eq-Decides}
use Rattle.indexmap.specs.IndexMap.{insert_entry, IndexMap}
use Rattle.indexmap.proofs.CallerLemmas.{insert_entry-new}
use Rattle.sch_model.specs.declared.parts.Diagnostic.{Diagnostic}
use Rattle.std.specs.Option.{option_to_list}
use Rattle.sch_plan.specs.Rules.{diagnostic_of, diagnostics_of}
use Rattle.sch_plan.proofs.Loops.{drop-at}
use Rattle.sch_plan.specs.inner.Ids.{found_in}

appended : (b : Bool) (d x : Diagnostic) (here there it : Option Diagnostic) → there ≡ option_or here it →
    cond b (Some x) there ≡ option_or (cond b (Some x) here) it
appended true d x here there it e = refl
appended false d x here there it e = e

found-append : (es : List (String Global × Diagnostic)) (k : String Global) (d : Diagnostic) (id : List ℕ) →
    found_in (es ++ (k, d) ∷ []) id ≡ option_or (found_in es id) (cond (bytes_eq id (string_bytes k)) (Some d) None)
found-append [] k d id = refl
found-append (e ∷ es) k d id = appended (bytes_eq id (string_bytes e.0)) d e.1 (found_in es id) (found_in (es ++ (k, d) ∷ []) id) (cond (bytes_eq id (string_bytes k)) (Some d) None) (found-append es k d id)

-- a diagnostic whose id is new
pub found-new : {S : Type 0} (m : IndexMap (String Global) Diagnostic S) (es : List (String Global × Diagnostic)) (k : String Global) (d : Diagnostic) (more : List Diagnostic) (id : List ℕ) →
    string_bytes k ≡ d.id → found_in m.entries (string_bytes k) ≡ None → es ≡ insert_entry string_eq m.entries k d →
    option_or (found_in es id) (diagnostic_of more id) ≡ option_or (found_in m.entries id) (diagnostic_of (d ∷ more) id)
found-new m es k d more id same none inserted =
    ap (λ l. option_or (found_in l id) (diagnostic_of more id)) (inserted ∙ insert_entry-new string_eq m k d none)
    ∙ ap (λ o. option_or o (diagnostic_of more id)) (found-append m.entries k d id)
    ∙ around (found_in m.entries id) (bytes_eq id (string_bytes k))
    ∙ ap (λ b. option_or (found_in m.entries id) (cond (bytes_eq id b) (Some d) (diagnostic_of more id))) same
  where
    around : (o : Option Diagnostic) (b : Bool) → option_or (option_or o (cond b (Some d) None)) (diagnostic_of more id) ≡ option_or o (cond b (Some d) (diagnostic_of more id))
    around (Some x) b = refl
    around None true = refl
    around None false = refl

-- one whose id is there
pub found-again : (es : List (String Global × Diagnostic)) (d : Diagnostic) (more : List Diagnostic) (id : List ℕ) → is_some (found_in es d.id) ≡ true →
    option_or (found_in es id) (diagnostic_of more id) ≡ option_or (found_in es id) (diagnostic_of (d ∷ more) id)
found-again es d more id there = by (found_in es id) (bytes_eq id d.id) refl refl
  where
    by : (o : Option Diagnostic) (b : Bool) → found_in es id ≡ o → bytes_eq id d.id ≡ b → option_or o (diagnostic_of more id) ≡ option_or o (cond b (Some d) (diagnostic_of more id))
    by (Some x) b eo eb = refl
    by None false eo eb = refl
    by None true eo eb =
        let same : id ≡ d.id = (bytes_eq-Decides id d.id).0 eb in
        let none : is_some (found_in es d.id) ≡ false = ap (λ i. is_some (found_in es i)) (sym same) ∙ ap is_some eo in
        absurd (cc)

or-none : (o : Option Diagnostic) → option_or o None ≡ o
or-none None = refl
or-none (Some d) = refl

pub found-all : (es : List (String Global × Diagnostic)) (all rest : List Diagnostic) → rest ≡ [] →
    ((id : List ℕ) → option_or (found_in es id) (diagnostic_of rest id) ≡ diagnostic_of all id) → found_in es ≡ diagnostic_of all
found-all es all rest none so_far =
    λ t id. (sym (or-none (found_in es id)) ∙ ap (λ l. option_or (found_in es id) (diagnostic_of l id)) (sym none) ∙ so_far id) t

-- the next diagnostic that is named, where there is one
named-next : (find : List ℕ → Option Diagnostic) (ids : List (List ℕ)) (i : ℕ) (id : List ℕ) (o : Option Diagnostic) → i < length ids → id ≡ get_or ids i id → find id ≡ o →
    diagnostics_of find (drop i ids) ≡ option_to_list o ++ diagnostics_of find (drop (i + 1) ids)
named-next find ids i id o less is e =
    ap (diagnostics_of find) (drop-at ids i id less is) ∙ ap (λ x. option_to_list x ++ diagnostics_of find (drop (i + 1) ids)) e

pub named-some : (find : List ℕ → Option Diagnostic) (ids : List (List ℕ)) (i : ℕ) (id : List ℕ) (d : Diagnostic) → i < length ids → id ≡ get_or ids i id → find id ≡ Some d →
    diagnostics_of find (drop i ids) ≡ d ∷ diagnostics_of find (drop (i + 1) ids)
named-some find ids i id d less is e = named-next find ids i id (Some d) less is e

pub named-none : (find : List ℕ → Option Diagnostic) (ids : List (List ℕ)) (i : ℕ) (id : List ℕ) → i < length ids → id ≡ get_or ids i id → find id ≡ None →
    diagnostics_of find (drop i ids) ≡ diagnostics_of find (drop (i + 1) ids)
named-none find ids i id less is e = named-next find ids i id None less is e

pub named-all : (find : List ℕ → Option Diagnostic) (ids : List (List ℕ)) (i : ℕ) → length ids ≤ i → length (diagnostics_of find (drop i ids)) ≡ 0
named-all find ids i least = ap (λ l. length (diagnostics_of find l)) (drop_all i ids least)
