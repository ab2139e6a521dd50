-- The tables of a scope hold what their lists say.
use Rattle.std.proofs.Common.{◌≡◌, ℕ, Bool, false, List, [], ◌∷◌, ◌++◌, Option, Some, None, cond, map, refl, ap, ◌∙◌, String, Global}
use Rattle.std.proofs.lemmas.List.{map-append}
use Rattle.std.specs.Map.{lookup}
use Rattle.std.specs.String.{string_bytes, string_eq}
use Rattle.std.specs.Str.{bytes_eq}
use Rattle.indexmap.specs.IndexMap.{insert_entry, IndexMap}
use Rattle.indexmap.proofs.CallerLemmas.{insert_entry-new}
use Rattle.doc_tree.specs.Scope.{xml_prefix, xml_namespace}
use Rattle.xp_types.specs.declared.env.Variable.{Variable}
use Rattle.xp_types.specs.Scope.{Scope, Binding, namespace_of, Named, bound, variable_of}
use Rattle.xp_types.specs.inner.ScopeTables.{binding_of, variable_in}

pub bound-looked_up : (es : List (String Global × List ℕ)) (p : List ℕ) → lookup (λ k. bytes_eq p (string_bytes k)) es ≡ bound (map binding_of es) p
bound-looked_up [] p = refl
bound-looked_up (e ∷ es) p = ap (λ r. cond (bytes_eq p (string_bytes e.0)) (Some e.1) r) (bound-looked_up es p)

pub variable-looked_up : (es : List (String Global × Variable)) (p : List ℕ) → lookup (λ k. bytes_eq p (string_bytes k)) es ≡ variable_of (map variable_in es) p
variable-looked_up [] p = refl
variable-looked_up (e ∷ es) p = ap (λ r. cond (bytes_eq p (string_bytes e.0)) (Some (record { slot = e.1.slot; ty = e.1.ty })) r) (variable-looked_up es p)

-- a prefix other than `xml` is looked up
pub namespace-looked_up : (es : List (String Global × List ℕ)) (S : Scope) (p : List ℕ) (r : Option (List ℕ)) → map binding_of es ≡ S.prefixes →
    false ≡ bytes_eq p xml_prefix → r ≡ lookup (λ k. bytes_eq p (string_bytes k)) es → r ≡ namespace_of S p
namespace-looked_up es S p r seen other found =
    found ∙ bound-looked_up es p ∙ ap (λ bs. bound bs p) seen ∙ ap (λ b. cond b (Some xml_namespace) (bound S.prefixes p)) other

pub variable-found : (es : List (String Global × Variable)) (vs : List Named) (p : List ℕ) (r : Option Variable) → map variable_in es ≡ vs →
    r ≡ lookup (λ k. bytes_eq p (string_bytes k)) es → r ≡ variable_of vs p
variable-found es vs p r seen found = found ∙ variable-looked_up es p ∙ ap (λ l. variable_of l p) seen

pub prefix-entered : {S : Type 0} (m : IndexMap (String Global) (List ℕ) S) (bs : List Binding) (k : String Global) (p u : List ℕ) →
    map binding_of m.entries ≡ bs → string_bytes k ≡ p → bound bs p ≡ None →
    map binding_of (insert_entry string_eq m.entries k u) ≡ bs ++ record { prefix = p; uri = u } ∷ []
prefix-entered m bs k p u seen same none =
    ap (map binding_of) (insert_entry-new string_eq m k u (bound-looked_up m.entries (string_bytes k) ∙ ap (λ l. bound l (string_bytes k)) seen ∙ ap (bound bs) same ∙ none))
    ∙ map-append binding_of m.entries ((k, u) ∷ []) ∙ (λ i. seen i ++ record { prefix = same i; uri = u } ∷ [])

pub variable-entered : {S : Type 0} (m : IndexMap (String Global) Variable S) (vs : List Named) (k : String Global) (p : List ℕ) (v : Variable) →
    map variable_in m.entries ≡ vs → string_bytes k ≡ p → variable_of vs p ≡ None →
    map variable_in (insert_entry string_eq m.entries k v) ≡ vs ++ record { name = p; place = v.slot; type = v.ty } ∷ []
variable-entered m vs k p v seen same none =
    ap (map variable_in) (insert_entry-new string_eq m k v (variable-looked_up m.entries (string_bytes k) ∙ ap (λ l. variable_of l (string_bytes k)) seen ∙ ap (variable_of vs) same ∙ none))
    ∙ map-append variable_in m.entries ((k, v) ∷ []) ∙ (λ i. seen i ++ record { name = same i; place = v.slot; type = v.ty } ∷ [])

abbrev the_scope : Bool → List Binding → List Named → Scope
the_scope p bs vs = record { in_pattern = p; prefixes = bs; variables = vs }

pub scope-with_prefix : {T : Type 0} (m : IndexMap (String Global) (List ℕ) T) (in_pattern : Bool) (vs : List Named) (S : Scope) (es : List (String Global × List ℕ)) (k : String Global) (p u : List ℕ) →
    the_scope in_pattern (map binding_of m.entries) vs ≡ S → string_bytes k ≡ p → bound S.prefixes p ≡ None → es ≡ insert_entry string_eq m.entries k u →
    the_scope in_pattern (map binding_of es) vs ≡ record S { prefixes = S.prefixes ++ record { prefix = p; uri = u } ∷ [] }
scope-with_prefix m in_pattern vs S es k p u seen same none inserted =
    ap (λ l. the_scope in_pattern (map binding_of l) vs) inserted
    ∙ (λ i. record { in_pattern = (seen i).in_pattern; prefixes = prefix-entered m S.prefixes k p u (ap (λ s. s.prefixes) seen) same none i; variables = (seen i).variables })

pub scope-with_variable : {T : Type 0} (m : IndexMap (String Global) Variable T) (in_pattern : Bool) (bs : List Binding) (S : Scope) (es : List (String Global × Variable)) (k : String Global) (p : List ℕ) (v : Variable) →
    the_scope in_pattern bs (map variable_in m.entries) ≡ S → string_bytes k ≡ p → variable_of S.variables p ≡ None → es ≡ insert_entry string_eq m.entries k v →
    the_scope in_pattern bs (map variable_in es) ≡ record S { variables = S.variables ++ record { name = p; place = v.slot; type = v.ty } ∷ [] }
scope-with_variable m in_pattern bs S es k p v seen same none inserted =
    ap (λ l. the_scope in_pattern bs (map variable_in l)) inserted
    ∙ (λ i. record { in_pattern = (seen i).in_pattern; prefixes = (seen i).prefixes; variables = variable-entered m S.variables k p v (ap (λ s. s.variables) seen) same none i })
