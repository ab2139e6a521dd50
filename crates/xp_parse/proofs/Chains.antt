-- Chains and operands that were read, and where they stop.
use Rattle.std.proofs.Common.{◌≡◌, ℕ, zero, suc, ◌+◌, ◌<◌, ◌≤◌, Bool, true, false, List, [], ◌∷◌, ◌++◌, length, Some, refl, sym, ◌∙◌, ap, subst, arith}
use Rattle.std.specs.Prelude.{Result, MatchResult}
use Rattle.std.proofs.lemmas.Result.{MatchResult-weaker}
use Rattle.xp_tree.specs.declared.terms.Level.{Level}
use Rattle.xp_tree.specs.declared.terms.Level.TheVariants as level
use Rattle.xp_tree.specs.declared.terms.Operator.{Operator}
use Rattle.xp_tree.specs.declared.terms.Operator.TheVariants as operator
use Rattle.xp_tree.specs.declared.expr.Expr.{Expr}
use Rattle.xp_tree.specs.declared.expr.Operand.{Operand}
use Rattle.xp_tree.specs.Tree.{Tree, Operands, chain, negated, no_operands, operand}
use Rattle.xp_tree.specs.View.{tree_of, operand_of, operands_seen}
use Rattle.xp_grammar.specs.declared.token.Placed.{Placed}
use Rattle.xp_grammar.specs.declared.token.Token.TheVariants as token
use Rattle.xp_grammar.specs.Parts.{offset_at, level_of, joined, with_signs}
use Rattle.xp_grammar.specs.Grammar.{tighter, IsSigns, no_sign, sign, IsChain, chained, IsOperand, tighter_chain, signed, one_path, IsOperands, no_more, one_more}
use Rattle.xp_grammar.specs.inner.Machine.{Bracket, Ending, Mode, want, after, load, halt, start, signs_after}
use Rattle.xp_grammar.proofs.Steps.{step_on, same_start, operator_start, after_operator}
use Rattle.xp_grammar.proofs.Drives.{Signs, drive_signs, plus_zero}
use Rattle.xp_parse.specs.declared.stop.Stop.{Stop}
use Rattle.xp_parse.specs.inner.Places.{Took, IsOperatorOf, NoOperatorOf}
use Rattle.xp_parse.specs.inner.Parsing.{rank, Quiet, Settled, Fails, FreshSign, Fresh, OperandFails, ChainRead, OperandRead, PathRead, OperandsRead, SignsRead, operands_onto, OperandsSoFar, weight}
use Rattle.xp_parse.proofs.Failing.{took_shorter, stuck_after}

pub fails_after : (limit : ℕ) (m m' : Mode) (d : ℕ) (s s' u : List Placed) (why : Stop) →
    ((k : List Bracket) → length k ≡ d → halt limit m k s ≡ halt limit m' k s') → Fails limit m' d s' u why → Fails limit m d s u why
fails_after limit m m' d s s' u why to x = record {
  stuck = λ nm k deep.
      stuck_after limit m m' k k s s' u why (to k deep) (x.stuck nm k deep);
}

-- an operand that is a chain of the tighter level
pub operand_of_chain : (limit : ℕ) (l n inner : Level) (d : ℕ) (s u : List Placed) (r : Result Expr Stop) →
    l ≡ n → tighter n ≡ Some inner → rank inner ≡ suc (rank n) → ((b : Bool) (t : List Placed) → FreshSign inner b t) →
    MatchResult r (λ e. ChainRead limit inner d s u (tree_of e)) (OperandFails limit inner d s u) →
    MatchResult r (λ e. OperandRead limit l d s u (tree_of e)) (OperandFails limit l d s u)
operand_of_chain limit l n inner d s u r is tight ranks fresh h =
    let Q : Level → Type 0 = λ x. MatchResult r (λ e. OperandRead limit x d s u (tree_of e)) (OperandFails limit x d s u) in
    subst Q (sym is) (MatchResult-weaker r h
    (λ e x. record {
      derives = tighter_chain n inner d s u (tree_of e) tight x.derives;
      reads = record {
        ending = x.reads.ending;
        settled = x.reads.settled;
        quiet = subst (λ y. Quiet y u) ranks x.reads.quiet;
        shorter = x.reads.shorter;
        halts = λ b j c k deep. ap (λ m. halt limit m k s) (same_start n inner b j c tight) ∙ x.reads.halts b j c k deep;
      };
    })
    (λ why x. record {
      from = λ b j c f.
          subst (λ m. Fails limit m d s u why) (sym (same_start n inner b j c tight))
          (x.from b j c (record { sign = fresh b s; closes = f.closes }));
    }))

pub operand_of_path : (limit : ℕ) (l : Level) (d : ℕ) (s u : List Placed) (r : Result Expr Stop) → l ≡ level.Union →
    MatchResult r (λ e. PathRead limit d s u (tree_of e)) (OperandFails limit level.Union d s u) →
    MatchResult r (λ e. OperandRead limit l d s u (tree_of e)) (OperandFails limit l d s u)
operand_of_path limit l d s u r is h =
    let Q : Level → Type 0 = λ x. MatchResult r (λ e. OperandRead limit x d s u (tree_of e)) (OperandFails limit x d s u) in
    subst Q (sym is) (MatchResult-weaker r h
    (λ e x. record { derives = one_path d s u (tree_of e) x.derives; reads = x.reads }) (λ why x. x))

-- a chain whose later operands fail
-- levels by their rank
level_at : ℕ → Level
level_at zero = level.Or
level_at (suc zero) = level.And
level_at (suc (suc zero)) = level.Equal
level_at (suc (suc (suc zero))) = level.Rel
level_at (suc (suc (suc (suc zero)))) = level.Sum
level_at (suc (suc (suc (suc (suc zero))))) = level.Prod
level_at (suc (suc (suc (suc (suc (suc n)))))) = level.Union

at_rank : (n : Level) → level_at (rank n) ≡ n
unfolding level_at
at_rank level.Or = refl
at_rank level.And = refl
at_rank level.Equal = refl
at_rank level.Rel = refl
at_rank level.Sum = refl
at_rank level.Prod = refl
at_rank level.Union = refl

same_rank : (a b : Level) → rank a ≡ rank b → a ≡ b
same_rank a b e = sym (at_rank a) ∙ ap level_at e ∙ at_rank b

below : (a b : ℕ) → a < suc b → (a ≡ b → ⊥) → a < b
below a b h n = omega (arith, h, n)

quiet_below : (n : Level) (s : List Placed) → Quiet (suc (rank n)) s → NoOperatorOf n s → Quiet (rank n) s
quiet_below n s quiet none p rest o is at =
    below (rank (level_of o)) (rank n) (quiet p rest o is at) (λ same. none p rest o is at (same_rank (level_of o) n same))

pub chain_rest_fails : (limit : ℕ) (n : Level) (d : ℕ) (s m u : List Placed) (x : Tree) (why : Stop)
    (r : OperandRead limit n d s m x) → Fails limit (after r.reads.ending) d m u why → OperandFails limit n d s u why
chain_rest_fails limit n d s m u x why r f = record {
  from = λ b j c fresh.
      fails_after limit (start n b j c) (after r.reads.ending) d s m u why (λ k deep. r.reads.halts b j c k deep) f;
}

-- one operand is the chain
pub chain_alone : (limit : ℕ) (n : Level) (d : ℕ) (s m : List Placed) (x : Tree) → OperandRead limit n d s m x → NoOperatorOf n m → ChainRead limit n d s m x
chain_alone limit n d s m x r none = record {
  derives = chained n d s m m x no_operands r.derives (no_more n d m);
  reads = record {
    ending = r.reads.ending;
    settled = r.reads.settled;
    quiet = quiet_below n m r.reads.quiet none;
    shorter = r.reads.shorter;
    halts = r.reads.halts;
  };
}

-- where an operator of the level stands, operands were read
joined_more : (limit : ℕ) (n : Level) (d : ℕ) (m u : List Placed) (os : Operands) (o : Operator) → IsOperands limit n d m u os → Quiet (rank n) u →
    IsOperatorOf n o m → (offset : ℕ) (x : Tree) → chain n offset x os ≡ joined n offset x os
joined_more limit n d _ _ _ o (no_more _ _ m) quiet at offset x =
    let loose : rank (level_of o) < rank n = quiet at.first.placed at.first.rest o at.first.is at.first.token in
    let same : rank (level_of o) ≡ rank n = ap rank at.level in
    absurd (omega (arith, loose, same))
joined_more limit n d _ _ _ o (one_more _ _ _ _ _ _ _ _ _ _ _ _ _) quiet at offset x = refl

pub chain_read : (limit : ℕ) (n : Level) (d offset : ℕ) (s m u : List Placed) (x boxed : Tree) (found : List Operand) (o : Operator) (e : Tree) →
    (r : OperandRead limit n d s m x) → IsOperatorOf n o m → OperandsRead limit n d r.reads.ending m u found → offset ≡ offset_at s →
    boxed ≡ x → e ≡ chain n offset boxed (operands_seen found) → ChainRead limit n d s u e
chain_read limit n d offset s m u x boxed found o e r some t at same is = record {
  derives =
      let seen : e ≡ joined n (offset_at s) x (operands_seen found) =
      is ∙ ap (λ b. chain n offset b (operands_seen found)) same ∙ ap (λ p. chain n p x (operands_seen found)) at
      ∙ joined_more limit n d m u (operands_seen found) o t.derives t.quiet some (offset_at s) x in
      subst (λ y. IsChain limit n d s u y) (sym seen) (chained n d s m u x (operands_seen found) r.derives t.derives);
  reads = record {
    ending = t.ending;
    settled = t.settled;
    quiet = t.quiet;
    shorter = let a = r.reads.shorter in let b = t.shorter in omega (arith, a, b);
    halts = λ b j c k deep. r.reads.halts b j c k deep ∙ t.halts k deep;
  };
}

-- the later operands of a chain
pub operands_start : (limit : ℕ) (n : Level) (d : ℕ) (e : Ending) (s : List Placed) (found : List Operand) → found ≡ [] →
    Settled e s → Quiet (suc (rank n)) s → OperandsSoFar limit n d e s s found
operands_start limit n d e s found none settled quiet = record {
  extends = λ v os D. subst (λ f. IsOperands limit n d s v (operands_onto f os)) (sym none) D;
  ending = e;
  settled = settled;
  quiet = quiet;
  shorter = omega arith;
  halts = λ k deep. refl;
}

fresh_of : (o : Operator) (t : List Placed) → FreshSign (level_of o) (signs_after o) t
fresh_of operator.Or t = tt
fresh_of operator.And t = tt
fresh_of operator.Equal t = tt
fresh_of operator.NotEqual t = tt
fresh_of operator.Less t = tt
fresh_of operator.AtMost t = tt
fresh_of operator.Greater t = tt
fresh_of operator.AtLeast t = tt
fresh_of operator.Plus t = tt
fresh_of operator.Minus t = tt
fresh_of operator.Times t = tt
fresh_of operator.Div t = tt
fresh_of operator.Mod t = tt
fresh_of operator.Union t = λ h. absurd (cc)

fresh_after : (n : Level) (o : Operator) (t : List Placed) → level_of o ≡ n → Fresh n (signs_after o) false t
fresh_after n o t is = record { sign = subst (λ x. FreshSign x (signs_after o) t) is (fresh_of o t); closes = λ h. absurd (cc) }

-- the machine goes over an operator
over_operator : (limit : ℕ) (n : Level) (o : Operator) (e : Ending) (k : List Bracket) (s m : List Placed) → Took (token.Operator o) s m →
    level_of o ≡ n → length k ≤ limit → halt limit (after e) k s ≡ halt limit (start n (signs_after o) 0 false) k m
unfolding load
over_operator limit n o e k s m t is room =
    ap (halt limit (after e) k) t.is
    ∙ step_on limit (after e) k t.placed m (record { mode = want (signs_after o) 0 false; stack = k }) (token.Operator o) t.token (after_operator e k o) (plus_zero _ _ room)
    ∙ ap (λ x. halt limit x k m) (operator_start o ∙ ap (λ x. start x (signs_after o) 0 false) is)

pub operands_fail : (limit : ℕ) (n : Level) (d : ℕ) (e : Ending) (s here m u : List Placed) (found : List Operand) (o : Operator) (why : Stop) →
    d ≤ limit → OperandsSoFar limit n d e s here found → Took (token.Operator o) here m → level_of o ≡ n →
    OperandFails limit n d m u why → Fails limit (after e) d s u why
operands_fail limit n d e s here m u found o why room so t is f =
    fails_after limit (after e) (start n (signs_after o) 0 false) d s m u why
    (λ k deep. so.halts k deep ∙ over_operator limit n o so.ending k here m t is (omega (arith, room, deep)))
    (f.from (signs_after o) 0 false (fresh_after n o m is))

onto_snoc : (found : List Operand) (o : Operand) (rest : Operands) →
    operands_onto (found ++ o ∷ []) rest ≡ operands_onto found (operand_of o rest)
onto_snoc [] o rest = refl
onto_snoc (x ∷ xs) o rest = ap (operand_of x) (onto_snoc xs o rest)

pub onto_none : (found : List Operand) → operands_onto found no_operands ≡ operands_seen found
onto_none [] = refl
onto_none (x ∷ xs) = ap (operand_of x) (onto_none xs)

pub operands_more : (limit : ℕ) (n : Level) (d : ℕ) (e : Ending) (s here m v : List Placed) (found behind : List Operand) (o : Operator) (x : Tree) (it : Operand) (offset : ℕ) →
    d ≤ limit → OperandsSoFar limit n d e s here found → Took (token.Operator o) here m → level_of o ≡ n →
    OperandRead limit n d m v x → offset ≡ offset_at here → ((rest : Operands) → operand_of it rest ≡ operand o offset x rest) →
    behind ≡ found ++ it ∷ [] → OperandsSoFar limit n d e s v behind
operands_more limit n d e s here m v found behind o x it offset room so t is r at seen grown = record {
  extends = λ w os D.
      let at_placed : offset ≡ t.placed.offset = at ∙ ap offset_at t.is in
      let one : IsOperands limit n d (t.placed ∷ m) w (operand o t.placed.offset x os) =
      one_more n d t.placed m v w o x os t.token is r.derives D in
      let here_one : IsOperands limit n d here w (operand o t.placed.offset x os) =
      subst (λ l. IsOperands limit n d l w (operand o t.placed.offset x os)) (sym t.is) one in
      let all = so.extends w (operand o t.placed.offset x os) here_one in
      let same : operands_onto found (operand o t.placed.offset x os) ≡ operands_onto behind os =
      ap (operands_onto found) (ap (λ y. operand o y x os) (sym at_placed) ∙ sym (seen os))
      ∙ sym (onto_snoc found it os) ∙ ap (λ f. operands_onto f os) (sym grown) in
      subst (λ y. IsOperands limit n d s w y) same all;
  ending = r.reads.ending;
  settled = r.reads.settled;
  quiet = r.reads.quiet;
  shorter = let a = took_shorter (token.Operator o) here m t in let b = r.reads.shorter in let c = so.shorter in omega (arith, a, b, c);
  halts = λ k deep. so.halts k deep ∙ over_operator limit n o so.ending k here m t is (omega (arith, room, deep))
      ∙ r.reads.halts (signs_after o) 0 false k deep;
}

pub operands_read : (limit : ℕ) (n : Level) (d : ℕ) (e : Ending) (s here : List Placed) (found : List Operand) →
    OperandsSoFar limit n d e s here found → NoOperatorOf n here → OperandsRead limit n d e s here found
operands_read limit n d e s here found so none = record {
  derives = subst (λ y. IsOperands limit n d s here y) (onto_none found) (so.extends here no_operands (no_more n d here));
  ending = so.ending;
  settled = so.settled;
  quiet = quiet_below n here so.quiet none;
  shorter = so.shorter;
  halts = so.halts;
}

-- signs before an operand of a product
over_signs : (limit d i : ℕ) (s m : List Placed) → IsSigns i s m → d + i ≤ limit → (c : Bool) (k : List Bracket) → length k ≡ d →
    Signs limit 0 i c k s m
over_signs limit d i s m S fits c k deep = drive_signs limit S 0 c k (omega (arith, fits, deep))

pub signed_fails : (limit d i : ℕ) (s m u : List Placed) (why : Stop) → SignsRead limit d s m i →
    OperandFails limit level.Union d m u why → OperandFails limit level.Prod d s u why
signed_fails limit d i s m u why S f = record {
  from = λ b j c fresh. record {
    stuck = λ nm k deep.
        let over = over_signs limit d i s m S.signs S.fits c k deep in
        let inner : Fresh level.Union true over.closes m = record {
          sign = λ _. S.no_more;
          closes = λ h p rest is. let kept = over.kept h in fresh.closes kept.0 p rest (sym kept.1 ∙ is);
        } in
        stuck_after limit (want true 0 c) (want true over.count over.closes) k k s m u why over.halts
        ((f.from true over.count over.closes inner).stuck nm k deep);
  };
}

pub signs_length : (i : ℕ) (s m : List Placed) → IsSigns i s m → length m ≤ length s
signs_length _ s m (no_sign _) = omega arith
signs_length _ s m (sign i p t u is more) = let r = signs_length i t m more in omega (arith, r)

signs_read : (limit d i : ℕ) (s m u : List Placed) (x e : Tree) → SignsRead limit d s m i → ChainRead limit level.Union d m u x →
    e ≡ with_signs (offset_at s) i x → OperandRead limit level.Prod d s u e
signs_read limit d i s m u x e S r is = record {
  derives = subst (λ y. IsOperand limit level.Prod d s u y) (sym is) (signed d i s m u x S.signs S.fits r.derives);
  reads = record {
    ending = r.reads.ending;
    settled = r.reads.settled;
    quiet = r.reads.quiet;
    shorter = let a = signs_length i s m S.signs in let b = r.reads.shorter in omega (arith, a, b);
    halts = λ b j c k deep.
        let over = over_signs limit d i s m S.signs S.fits c k deep in
        over.halts ∙ r.reads.halts true over.count over.closes k deep;
  };
}

pub unsigned_read : (limit d i : ℕ) (s m u : List Placed) (x : Tree) → SignsRead limit d s m i → ChainRead limit level.Union d m u x → i ≡ 0 →
    OperandRead limit level.Prod d s u x
unsigned_read limit d i s m u x S r none = signs_read limit d i s m u x x S r (sym (ap (λ c. with_signs (offset_at s) c x) none))

signs_there : (i offset : ℕ) (x : Tree) → (i ≡ 0 → ⊥) → negated offset i x ≡ with_signs offset i x
signs_there zero offset x some = absurd (some refl)
signs_there (suc i) offset x some = refl

pub signed_read : (limit d i offset : ℕ) (s m u : List Placed) (x boxed e : Tree) → SignsRead limit d s m i → ChainRead limit level.Union d m u x →
    (i ≡ 0 → ⊥) → offset ≡ offset_at s → boxed ≡ x → e ≡ negated offset i boxed → OperandRead limit level.Prod d s u e
signed_read limit d i offset s m u x boxed e S r some at same is =
    signs_read limit d i s m u x e S r (is ∙ ap (negated offset i) same ∙ ap (λ o. negated o i x) at ∙ signs_there i (offset_at s) x some)

pub weight_small : (n : Level) → weight n < 32
weight_small level.Or = omega arith
weight_small level.And = omega arith
weight_small level.Equal = omega arith
weight_small level.Rel = omega arith
weight_small level.Sum = omega arith
weight_small level.Prod = omega arith
weight_small level.Union = omega arith
