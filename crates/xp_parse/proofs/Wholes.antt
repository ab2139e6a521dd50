-- The first fault of a whole expression.
use Rattle.std.proofs.Common.{◌≡◌, ℕ, Bool, true, false, List, [], ◌∷◌, refl, sym, ◌∙◌, ap, subst}
use Rattle.std.specs.Prelude.{Result, Ok, Err, MatchResult}
use Rattle.sch_base.specs.declared.limits.TheConstants.{MAX_NESTING}
use Rattle.xp_tree.specs.declared.expr.Expr.{Expr}
use Rattle.xp_tree.specs.Tree.{Tree}
use Rattle.xp_tree.specs.View.{tree_of}
use Rattle.xp_tree.specs.declared.terms.Level.TheVariants as level
use Rattle.xp_grammar.specs.declared.token.Placed.{Placed}
use Rattle.xp_grammar.specs.declared.token.Token.{Token}
use Rattle.xp_grammar.specs.declared.fault.SyntaxFault.{SyntaxFault}
use Rattle.xp_grammar.specs.declared.fault.SyntaxKind.TheVariants as kind
use Rattle.xp_grammar.specs.Parts.{offset_at}
use Rattle.xp_grammar.specs.Grammar.{IsChain}
use Rattle.xp_grammar.specs.Faults.{IsFirstFault}
use Rattle.xp_grammar.specs.inner.Machine.{want, after, halt}
use Rattle.xp_grammar.proofs.Finds.{fault_at_token, fault_over_limit, fault_at_end, fault_no_token}
use Rattle.xp_parse.specs.declared.stop.Stop.{Stop}
use Rattle.xp_parse.specs.declared.stop.Stop.TheVariants as stop
use Rattle.xp_parse.specs.declared.error.ParseError.{ParseError}
use Rattle.xp_parse.specs.declared.error.ParseError.TheVariants as error
use Rattle.xp_parse.specs.inner.Places.{IsFirst}
use Rattle.xp_parse.specs.inner.Parsing.{Stuck, OperandFails, ChainRead}
use Rattle.xp_parse.specs.Whole.{Faults, IsWhole}
use Rattle.xp_parse.specs.inner.Stopped.{OnlyIfNoMemory, at_end_fault, stopped_fault, finished}
use Rattle.xp_parse.proofs.Paths.{no_operator, fresh_start}
use Rattle.xp_parse.proofs.Primaries.{unclosed_top}

-- the fault by the reason and the place
pub nested_is : (rest : List Placed) (whole : Bool) (end offset : ℕ) (why : Stop) → why ≡ stop.TooNested → offset ≡ offset_at rest →
    error.Fault (record { kind = kind.TooNested; offset = offset }) ≡ stopped_fault why rest whole end
nested_is rest whole end offset why is at =
    ap (λ o. error.Fault (record { kind = kind.TooNested; offset = o })) at ∙ ap (λ w. stopped_fault w rest whole end) (sym is)

pub token_is : (rest : List Placed) (whole : Bool) (end offset : ℕ) (t : Token) (why : Stop) → why ≡ stop.Unexpected → IsFirst t rest →
    offset ≡ offset_at rest → error.Fault (record { kind = kind.Unexpected; offset = offset }) ≡ stopped_fault why rest whole end
token_is rest whole end offset t why is f at =
    ap (λ o. error.Fault (record { kind = kind.Unexpected; offset = o })) (at ∙ ap offset_at f.is)
    ∙ ap (λ v. stopped_fault stop.Unexpected v whole end) (sym f.is) ∙ ap (λ w. stopped_fault w rest whole end) (sym is)

pub end_is : (rest : List Placed) (whole : Bool) (end : ℕ) (f : SyntaxFault) (why : Stop) → why ≡ stop.Unexpected → rest ≡ [] →
    f ≡ at_end_fault whole end → error.Fault f ≡ stopped_fault why rest whole end
end_is rest whole end f why is none fault =
    ap error.Fault fault ∙ ap (λ v. stopped_fault stop.Unexpected v whole end) (sym none) ∙ ap (λ w. stopped_fault w rest whole end) (sym is)

end_fault : (tokens : List Placed) (whole : Bool) (end : ℕ) → Stuck MAX_NESTING (want true 0 false) [] tokens [] stop.Unexpected →
    IsFirstFault MAX_NESTING tokens whole end (at_end_fault whole end).kind (at_end_fault whole end).offset
end_fault tokens true end s = fault_at_end MAX_NESTING tokens end s.mode s.stack s.reaches (s.cause.at_end refl)
end_fault tokens false end s = fault_no_token MAX_NESTING tokens end s.mode s.stack s.reaches

-- where the machine stands is the first fault
stuck_fault : (tokens rest : List Placed) (whole : Bool) (end : ℕ) (why : Stop) → OnlyIfNoMemory why (Stuck MAX_NESTING (want true 0 false) [] tokens rest why) →
    Faults MAX_NESTING tokens whole end (stopped_fault why rest whole end)
stuck_fault tokens rest whole end stop.Memory x = tt
stuck_fault tokens rest whole end stop.TooNested x =
    let s = x tt in
    let q = s.cause in
    subst (λ o. IsFirstFault MAX_NESTING tokens whole end kind.TooNested o) (sym (ap offset_at q.is))
    (fault_over_limit MAX_NESTING tokens whole end s.mode s.stack q.placed q.rest (s.reaches ∙ ap (halt MAX_NESTING s.mode s.stack) q.is) q.limited)
stuck_fault tokens [] whole end stop.Unexpected x = end_fault tokens whole end (x tt)
stuck_fault tokens (p ∷ rest) whole end stop.Unexpected x =
    let s = x tt in
    fault_at_token MAX_NESTING tokens whole end s.mode s.stack p rest s.reaches (s.cause.at_token p rest refl)

-- a whole expression with more behind it
more_behind : (tokens rest : List Placed) (e : Tree) (t : Token) → ChainRead MAX_NESTING level.Or 0 tokens rest e → IsFirst t rest →
    Stuck MAX_NESTING (want true 0 false) [] tokens rest stop.Unexpected
more_behind tokens rest e t r f = record {
  mode = after r.reads.ending;
  stack = [];
  reaches = r.reads.halts true 0 false [] refl;
  cause = record {
    at_end = λ none. absurd (let bad : f.placed ∷ f.rest ≡ [] = sym f.is ∙ none in cc);
    at_token = λ p s is. r.reads.settled p s is [] ∙ unclosed_top p.token (no_operator rest r.reads.quiet p s is);
  };
}

cut_behind : (tokens rest : List Placed) (whole : Bool) (end : ℕ) (e : Tree) → ChainRead MAX_NESTING level.Or 0 tokens rest e → rest ≡ [] → whole ≡ false →
    Faults MAX_NESTING tokens whole end (stopped_fault stop.Unexpected rest whole end)
cut_behind tokens rest whole end e r none cut =
    let to : halt MAX_NESTING (want true 0 false) [] tokens ≡ halt MAX_NESTING (after r.reads.ending) [] [] =
    r.reads.halts true 0 false [] refl ∙ ap (halt MAX_NESTING (after r.reads.ending) []) none in
    let fault : Faults MAX_NESTING tokens false end (stopped_fault stop.Unexpected [] false end) = fault_no_token MAX_NESTING tokens end (after r.reads.ending) [] to in
    subst (λ b. Faults MAX_NESTING tokens b end (stopped_fault stop.Unexpected rest b end)) (sym cut)
    (subst (λ v. Faults MAX_NESTING tokens false end (stopped_fault stop.Unexpected v false end)) (sym none) fault)

whole_read : (tokens rest : List Placed) (whole : Bool) (e : Tree) → ChainRead MAX_NESTING level.Or 0 tokens rest e → rest ≡ [] → whole ≡ true → IsWhole MAX_NESTING whole tokens e
whole_read tokens rest whole e r none all = record {
  to_the_end = all;
  spells = subst (λ u. IsChain MAX_NESTING level.Or 0 tokens u e) none r.derives;
}

-- what comes of the answer of the parser
answered : (tokens rest : List Placed) (whole : Bool) (end : ℕ) (read : Result Expr Stop) →
    MatchResult read (λ e. ChainRead MAX_NESTING level.Or 0 tokens rest (tree_of e)) (OperandFails MAX_NESTING level.Or 0 tokens rest) →
    MatchResult (finished read rest whole end) (λ e. IsWhole MAX_NESTING whole tokens (tree_of e)) (Faults MAX_NESTING tokens whole end)
answered tokens rest whole end (Err why) f =
    stuck_fault tokens rest whole end why (λ nm. (f.from true 0 false (fresh_start level.Or tokens (λ t. tt))).stuck nm [] refl)
answered tokens [] true end (Ok e) r = whole_read tokens [] true (tree_of e) r refl refl
answered tokens [] false end (Ok e) r = cut_behind tokens [] false end (tree_of e) r refl refl
answered tokens (p ∷ s) whole end (Ok e) r =
    stuck_fault tokens (p ∷ s) whole end stop.Unexpected (λ _. more_behind tokens (p ∷ s) (tree_of e) p.token r (record { placed = p; rest = s; is = refl; token = refl }))

pub answers : (tokens s rest : List Placed) (whole : Bool) (end : ℕ) (read : Result Expr Stop) (out : Result Expr ParseError) → s ≡ tokens →
    MatchResult read (λ e. ChainRead MAX_NESTING level.Or 0 s rest (tree_of e)) (OperandFails MAX_NESTING level.Or 0 s rest) → out ≡ finished read rest whole end →
    MatchResult out (λ e. IsWhole MAX_NESTING whole tokens (tree_of e)) (Faults MAX_NESTING tokens whole end)
answers tokens s rest whole end read out is r same =
    subst (λ t. MatchResult out (λ e. IsWhole MAX_NESTING whole t (tree_of e)) (Faults MAX_NESTING t whole end)) is
    (subst (λ o. MatchResult o (λ e. IsWhole MAX_NESTING whole s (tree_of e)) (Faults MAX_NESTING s whole end)) (sym same)
    (answered s rest whole end read r))
