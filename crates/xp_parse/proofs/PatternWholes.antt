-- The first fault of a whole pattern.
use Rattle.std.proofs.Common.{◌≡◌, ℕ, Bool, true, false, List, [], ◌∷◌, map, None, refl, sym, ◌∙◌, ap, subst}
use Rattle.std.specs.Prelude.{Result, Ok, Err, MatchResult, Vec}
use Rattle.std.specs.declared.alloc.Global.{Global}
use Rattle.sch_base.specs.declared.limits.TheConstants.{MAX_NESTING}
use Rattle.xp_tree.specs.declared.terms.Operator.{Operator}
use Rattle.xp_tree.specs.declared.terms.Operator.TheVariants as operator
use Rattle.xp_tree.specs.declared.pattern.PathPattern.{PathPattern}
use Rattle.xp_tree.specs.PatternTree.{path_pattern_of}
use Rattle.xp_grammar.specs.declared.token.Placed.{Placed}
use Rattle.xp_grammar.specs.declared.token.Token.{Token}
use Rattle.xp_grammar.specs.declared.token.Token.TheVariants as token
use Rattle.xp_grammar.specs.declared.fault.SyntaxKind.TheVariants as kind
use Rattle.xp_grammar.specs.Parts.{offset_at}
use Rattle.xp_parse.specs.declared.stop.Stop.{Stop}
use Rattle.xp_parse.specs.declared.stop.Stop.TheVariants as stop
use Rattle.xp_parse.specs.declared.error.ParseError.{ParseError}
use Rattle.xp_parse.specs.inner.Places.{IsFirst}
use Rattle.xp_parse.specs.inner.Stopped.{OnlyIfNoMemory, at_end_fault, stopped_fault, finished}
use Rattle.xp_grammar.specs.Faults.{IsFirstPatternFault}
use Rattle.xp_grammar.specs.inner.PatternMachine.{want_path, operator_turn, union_turn, pattern_halt}
use Rattle.xp_grammar.proofs.PatternFinds.{pattern_fault_at_token, pattern_fault_over_limit, pattern_fault_at_end, pattern_fault_no_token}
use Rattle.xp_parse.specs.inner.PatternReading.{StuckAt, FailsAt, PatternFound}
use Rattle.xp_parse.specs.Whole.{IsWholePattern, PatternFaults}

end_fault : (tokens : List Placed) (whole : Bool) (end : ℕ) → StuckAt MAX_NESTING want_path tokens [] stop.Unexpected →
    IsFirstPatternFault MAX_NESTING tokens whole end (at_end_fault whole end).kind (at_end_fault whole end).offset
end_fault tokens true end s = pattern_fault_at_end MAX_NESTING tokens end s.place s.reaches (s.cause.at_end refl)
end_fault tokens false end s = pattern_fault_no_token MAX_NESTING tokens end s.place s.reaches

-- where the machine stands is the first fault
stuck_fault : (tokens rest : List Placed) (whole : Bool) (end : ℕ) (why : Stop) → OnlyIfNoMemory why (StuckAt MAX_NESTING want_path tokens rest why) →
    PatternFaults MAX_NESTING tokens whole end (stopped_fault why rest whole end)
stuck_fault tokens rest whole end stop.Memory x = tt
stuck_fault tokens rest whole end stop.TooNested x =
    let s = x tt in
    let q = s.cause in
    subst (λ o. IsFirstPatternFault MAX_NESTING tokens whole end kind.TooNested o) (sym (ap offset_at q.is))
    (pattern_fault_over_limit MAX_NESTING tokens whole end s.place q.placed q.rest (s.reaches ∙ ap (pattern_halt MAX_NESTING s.place) q.is) q.limited)
stuck_fault tokens [] whole end stop.Unexpected x = end_fault tokens whole end (x tt)
stuck_fault tokens (p ∷ rest) whole end stop.Unexpected x =
    let s = x tt in
    pattern_fault_at_token MAX_NESTING tokens whole end s.place p rest s.reaches (s.cause.at_token p rest refl)

-- a whole pattern with more behind it
other_operator : (o : Operator) → (o ≡ operator.Union → ⊥) → operator_turn o ≡ None
other_operator operator.Union differs = absurd (differs refl)
other_operator _ differs = refl

no_union : (t : Token) → (t ≡ token.Operator operator.Union → ⊥) → union_turn t ≡ None
no_union (token.Operator o) differs = other_operator o (λ is. differs (ap token.Operator is))
no_union _ differs = refl

more_behind : (tokens rest : List Placed) (all : List PathPattern) (t : Token) → PatternFound MAX_NESTING tokens rest all → IsFirst t rest →
    StuckAt MAX_NESTING want_path tokens rest stop.Unexpected
more_behind tokens rest all t r f = record {
  place = r.ending;
  reaches = r.halts;
  cause = record {
    at_end = λ none. absurd (let bad : f.placed ∷ f.rest ≡ [] = sym f.is ∙ none in cc);
    at_token = λ p s is. r.ended.settled p s is ∙ no_union p.token (r.no_union p s is);
  };
}

cut_behind : (tokens rest : List Placed) (whole : Bool) (end : ℕ) (all : List PathPattern) → PatternFound MAX_NESTING tokens rest all → rest ≡ [] → whole ≡ false →
    PatternFaults MAX_NESTING tokens whole end (stopped_fault stop.Unexpected rest whole end)
cut_behind tokens rest whole end all r none cut =
    let fault : PatternFaults MAX_NESTING tokens false end (stopped_fault stop.Unexpected [] false end) =
    pattern_fault_no_token MAX_NESTING tokens end r.ending (r.halts ∙ ap (pattern_halt MAX_NESTING r.ending) none) in
    subst (λ b. PatternFaults MAX_NESTING tokens b end (stopped_fault stop.Unexpected rest b end)) (sym cut)
    (subst (λ v. PatternFaults MAX_NESTING tokens false end (stopped_fault stop.Unexpected v false end)) (sym none) fault)

-- what comes of the answer of the parser
answered : (tokens rest : List Placed) (whole : Bool) (end : ℕ) (read : Result (Vec PathPattern Global) Stop) →
    MatchResult read (λ all. PatternFound MAX_NESTING tokens rest all.items) (FailsAt MAX_NESTING want_path tokens rest) →
    MatchResult (finished read rest whole end) (λ all. IsWholePattern MAX_NESTING whole tokens (map path_pattern_of all.items)) (PatternFaults MAX_NESTING tokens whole end)
answered tokens rest whole end (Err why) f = stuck_fault tokens rest whole end why f.stuck
answered tokens [] true end (Ok all) r = record { to_the_end = refl; spells = r.derives }
answered tokens [] false end (Ok all) r = cut_behind tokens [] false end all.items r refl refl
answered tokens (p ∷ s) whole end (Ok all) r =
    stuck_fault tokens (p ∷ s) whole end stop.Unexpected (λ _. more_behind tokens (p ∷ s) all.items p.token r (record { placed = p; rest = s; is = refl; token = refl }))

pub answers : (tokens s rest : List Placed) (whole : Bool) (end : ℕ) (read : Result (Vec PathPattern Global) Stop) (out : Result (Vec PathPattern Global) ParseError) →
    s ≡ tokens → MatchResult read (λ all. PatternFound MAX_NESTING s rest all.items) (FailsAt MAX_NESTING want_path s rest) → out ≡ finished read rest whole end →
    MatchResult out (λ all. IsWholePattern MAX_NESTING whole tokens (map path_pattern_of all.items)) (PatternFaults MAX_NESTING tokens whole end)
answers tokens s rest whole end read out is r same =
    subst (λ t. MatchResult out (λ all. IsWholePattern MAX_NESTING whole t (map path_pattern_of all.items)) (PatternFaults MAX_NESTING t whole end)) is
    (subst (λ o. MatchResult o (λ all. IsWholePattern MAX_NESTING whole s (map path_pattern_of all.items)) (PatternFaults MAX_NESTING s whole end)) (sym same)
    (answered s rest whole end read r))
