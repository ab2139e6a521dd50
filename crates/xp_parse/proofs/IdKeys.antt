-- `id` and `key` that were read, and where they stop.
use Rattle.std.proofs.Common.{◌≡◌, ℕ, Bool, true, false, if◌then◌else◌, List, ◌∷◌, None, Some, refl, sym, ◌∙◌, ap, subst, arith}
use Rattle.std.specs.Prelude.{Result, MatchResult, codes}
use Rattle.std.proofs.lemmas.Result.{MatchResult-weaker}
use Rattle.std.specs.Str.{bytes_eq}
use Rattle.std.proofs.lemmas.Slice.Eq.{bytes_eq-Decides}
use Rattle.sch_base.specs.declared.limits.TheConstants.{MAX_NESTING}
use Rattle.xp_tree.specs.declared.pattern.PatternStart.TheVariants as start
use Rattle.xp_grammar.specs.declared.token.Placed.{Placed}
use Rattle.xp_grammar.specs.declared.token.Token.{Token}
use Rattle.xp_grammar.specs.declared.token.Token.TheVariants as token
use Rattle.xp_parse.specs.declared.stop.Stop.{Stop}
use Rattle.xp_parse.specs.declared.stop.Stop.TheVariants as stop
use Rattle.xp_parse.specs.inner.Places.{IsFirst, Took, TookBehind, Refused}
use Rattle.xp_parse.proofs.Failing.{took_shorter}
use Rattle.xp_grammar.specs.PatternGrammar.{IsIdKey, by_id, by_key}
use Rattle.xp_grammar.specs.inner.PatternMachine.{Place, want_path, id_open, key_open, key_name, key_comma, call_value, call_close, first_place, open_turn, literal_turn, comma_turn, close_turn, pattern_load, pattern_halt}
use Rattle.xp_parse.specs.inner.PatternReading.{FailsAt, CallFound, LiteralTaken, NotTaken, no_literal, no_mark}
use Rattle.xp_parse.proofs.PlaceFails.{fails_beyond, took_over, first_at, refused_at, no_literal_at}

no_open : (a : Place) (x : Token) → (x ≡ token.OpenParen → ⊥) → open_turn a x ≡ None
no_open a token.OpenParen differs = absurd (differs refl)
no_open a _ differs = refl

none_but_literal : (a : Place) (x : Token) → ((value : List ℕ) → x ≡ token.Literal value → ⊥) → literal_turn a x ≡ None
none_but_literal a (token.Literal value) differs = absurd (differs value refl)
none_but_literal a _ differs = refl

no_comma : (x : Token) → (x ≡ token.Comma → ⊥) → comma_turn x ≡ None
no_comma token.Comma differs = absurd (differs refl)
no_comma _ differs = refl

no_close : (x : Token) → (x ≡ token.CloseParen → ⊥) → close_turn x ≡ None
no_close token.CloseParen differs = absurd (differs refl)
no_close _ differs = refl

over_id : (s m : List Placed) → Took (token.Function (codes "id")) s m → pattern_halt MAX_NESTING want_path s ≡ pattern_halt MAX_NESTING id_open m
unfolding pattern_load
over_id s m t = took_over MAX_NESTING want_path s m (token.Function (codes "id")) id_open t refl (omega arith)

over_key : (s m : List Placed) → Took (token.Function (codes "key")) s m → pattern_halt MAX_NESTING want_path s ≡ pattern_halt MAX_NESTING key_open m
unfolding pattern_load
over_key s m t = took_over MAX_NESTING want_path s m (token.Function (codes "key")) key_open t refl (omega arith)

over_id_open : (s m : List Placed) → Took token.OpenParen s m → pattern_halt MAX_NESTING id_open s ≡ pattern_halt MAX_NESTING call_value m
unfolding pattern_load
over_id_open s m t = took_over MAX_NESTING id_open s m token.OpenParen call_value t refl (omega arith)

over_key_open : (s m : List Placed) → Took token.OpenParen s m → pattern_halt MAX_NESTING key_open s ≡ pattern_halt MAX_NESTING key_name m
unfolding pattern_load
over_key_open s m t = took_over MAX_NESTING key_open s m token.OpenParen key_name t refl (omega arith)

over_name : (s m : List Placed) (name : List ℕ) → Took (token.Literal name) s m → pattern_halt MAX_NESTING key_name s ≡ pattern_halt MAX_NESTING key_comma m
unfolding pattern_load
over_name s m name t = took_over MAX_NESTING key_name s m (token.Literal name) key_comma t refl (omega arith)

over_comma : (s m : List Placed) → Took token.Comma s m → pattern_halt MAX_NESTING key_comma s ≡ pattern_halt MAX_NESTING call_value m
unfolding pattern_load
over_comma s m t = took_over MAX_NESTING key_comma s m token.Comma call_value t refl (omega arith)

over_value : (s m : List Placed) (value : List ℕ) → Took (token.Literal value) s m → pattern_halt MAX_NESTING call_value s ≡ pattern_halt MAX_NESTING call_close m
unfolding pattern_load
over_value s m value t = took_over MAX_NESTING call_value s m (token.Literal value) call_close t refl (omega arith)

value_fails : (s u : List Placed) (why : Stop) → NotTaken token.CloseParen s u why → FailsAt MAX_NESTING call_value s u why
value_fails _ _ _ (no_literal s u why r) = no_literal_at MAX_NESTING call_value s u why r tt (none_but_literal call_close)
value_fails _ _ _ (no_mark s m u value why l r) =
    fails_beyond MAX_NESTING call_value call_close s m u why (over_value s m value l) (refused_at MAX_NESTING call_close m u token.CloseParen why r tt no_close)

name_fails : (s u : List Placed) (why : Stop) → NotTaken token.Comma s u why → FailsAt MAX_NESTING key_name s u why
name_fails _ _ _ (no_literal s u why r) = no_literal_at MAX_NESTING key_name s u why r tt (none_but_literal key_comma)
name_fails _ _ _ (no_mark s m u name why l r) =
    fails_beyond MAX_NESTING key_name key_comma s m u why (over_name s m name l) (refused_at MAX_NESTING key_comma m u token.Comma why r tt no_comma)

pub id_unopened : (s m u : List Placed) (why : Stop) → Took (token.Function (codes "id")) s m → Refused token.OpenParen m u why →
    FailsAt MAX_NESTING want_path s u why
id_unopened s m u why t r =
    fails_beyond MAX_NESTING want_path id_open s m u why (over_id s m t) (refused_at MAX_NESTING id_open m u token.OpenParen why r tt (no_open call_value))

pub id_fails : (s m n u : List Placed) (why : Stop) → Took (token.Function (codes "id")) s m → Took token.OpenParen m n →
    NotTaken token.CloseParen n u why → FailsAt MAX_NESTING want_path s u why
id_fails s m n u why t o x =
    fails_beyond MAX_NESTING want_path call_value s n u why (over_id s m t ∙ over_id_open m n o) (value_fails n u why x)

pub id_found : (s m n u : List Placed) (value : List ℕ) → Took (token.Function (codes "id")) s m → Took token.OpenParen m n →
    LiteralTaken token.CloseParen n u value → CallFound MAX_NESTING s u (start.Id value)
id_found s m n u value t o v = record {
  derives =
      let line : s ≡ t.placed ∷ o.placed ∷ v.literal.placed ∷ v.mark.placed ∷ u =
      t.is ∙ ap (λ x. t.placed ∷ x) (o.is ∙ ap (λ x. o.placed ∷ x) (v.literal.is ∙ ap (λ x. v.literal.placed ∷ x) v.mark.is)) in
      subst (λ x. IsIdKey MAX_NESTING x u (start.Id value)) (sym line)
      (by_id t.placed o.placed v.literal.placed v.mark.placed u value t.token o.token (omega arith) v.literal.token v.mark.token);
  shorter =
      let a = took_shorter (token.Function (codes "id")) s m t in let b = took_shorter token.OpenParen m n o in
      let c = took_shorter (token.Literal value) n v.behind v.literal in let d = took_shorter token.CloseParen v.behind u v.mark in omega (arith, a, b, c, d);
}

pub key_unopened : (s m u : List Placed) (why : Stop) → Took (token.Function (codes "key")) s m → Refused token.OpenParen m u why →
    FailsAt MAX_NESTING want_path s u why
key_unopened s m u why t r =
    fails_beyond MAX_NESTING want_path key_open s m u why (over_key s m t) (refused_at MAX_NESTING key_open m u token.OpenParen why r tt (no_open key_name))

pub key_name_fails : (s m n u : List Placed) (why : Stop) → Took (token.Function (codes "key")) s m → Took token.OpenParen m n →
    NotTaken token.Comma n u why → FailsAt MAX_NESTING want_path s u why
key_name_fails s m n u why t o x =
    fails_beyond MAX_NESTING want_path key_name s n u why (over_key s m t ∙ over_key_open m n o) (name_fails n u why x)

pub key_value_fails : (s m n x u : List Placed) (name : List ℕ) (why : Stop) → Took (token.Function (codes "key")) s m →
    Took token.OpenParen m n → LiteralTaken token.Comma n x name → NotTaken token.CloseParen x u why → FailsAt MAX_NESTING want_path s u why
key_value_fails s m n x u name why t o l v =
    fails_beyond MAX_NESTING want_path call_value s x u why
    (over_key s m t ∙ over_key_open m n o ∙ over_name n l.behind name l.literal ∙ over_comma l.behind x l.mark) (value_fails x u why v)

pub key_found : (s m n x u : List Placed) (name value : List ℕ) → Took (token.Function (codes "key")) s m → Took token.OpenParen m n →
    LiteralTaken token.Comma n x name → LiteralTaken token.CloseParen x u value → CallFound MAX_NESTING s u (start.Key name value)
key_found s m n x u name value t o l v = record {
  derives =
      let line : s ≡ t.placed ∷ o.placed ∷ l.literal.placed ∷ l.mark.placed ∷ v.literal.placed ∷ v.mark.placed ∷ u =
      t.is ∙ ap (λ z. t.placed ∷ z) (o.is ∙ ap (λ z. o.placed ∷ z) (l.literal.is ∙ ap (λ z. l.literal.placed ∷ z)
      (l.mark.is ∙ ap (λ z. l.mark.placed ∷ z) (v.literal.is ∙ ap (λ z. v.literal.placed ∷ z) v.mark.is)))) in
      subst (λ z. IsIdKey MAX_NESTING z u (start.Key name value)) (sym line)
      (by_key t.placed o.placed l.literal.placed l.mark.placed v.literal.placed v.mark.placed u name value t.token o.token (omega arith)
      l.literal.token l.mark.token v.literal.token v.mark.token);
  shorter =
      let a = took_shorter (token.Function (codes "key")) s m t in let b = took_shorter token.OpenParen m n o in
      let e = took_shorter (token.Literal name) n l.behind l.literal in let f = took_shorter token.Comma l.behind x l.mark in
      let g = took_shorter (token.Literal value) x v.behind v.literal in let h = took_shorter token.CloseParen v.behind u v.mark in
      omega (arith, a, b, e, f, g, h);
}

-- a literal and the mark behind it
pub literal_and_mark : (t : Token) (r : Result (List ℕ) Stop) (s m u : List Placed) (value : List ℕ) → Took (token.Literal value) s m →
    MatchResult r (TookBehind value t m u) (Refused t m u) → MatchResult r (LiteralTaken t s u) (NotTaken t s u)
literal_and_mark t r s m u value l h =
    MatchResult-weaker r h
    (λ kept x. subst (LiteralTaken t s u) (sym x.same) (record { behind = m; literal = l; mark = x.took }))
    (λ why x. no_mark s m u value why l x)

-- another name
to_false : (b : Bool) → (b ≡ true → ⊥) → b ≡ false
to_false true h = absurd (h refl)
to_false false h = refl

differs_as : (a b : List ℕ) → (a ≡ b → ⊥) → bytes_eq a b ≡ false
differs_as a b h = to_false (bytes_eq a b) (λ e. h ((bytes_eq-Decides a b).0 e))

pub no_call : (s : List Placed) (name : List ℕ) → IsFirst (token.Function name) s → (name ≡ codes "id" → ⊥) → (name ≡ codes "key" → ⊥) →
    FailsAt MAX_NESTING want_path s s stop.Unexpected
no_call s name f no_id no_key =
    first_at MAX_NESTING want_path s (token.Function name) f
    (ap (λ b. first_place (if b then Some id_open else (if bytes_eq name (codes "key") then Some key_open else None)) None) (differs_as name (codes "id") no_id)
    ∙ ap (λ b. first_place (if b then Some key_open else None) None) (differs_as name (codes "key") no_key))
