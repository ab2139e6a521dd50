-- What completes a state of the machine to an expression, and that each state is completed.
use Rattle.std.proofs.Common.{◌≡◌, ℕ, suc, ◌+◌, ◌≤◌, ◌⊎◌, Bool, true, false, List, [], ◌∷◌, length, Option, None, Some, refl, sym, subst, inl, inr, arith}
use Rattle.xp_tree.specs.Tree.{Tree, Steps, Operands, Trees}
use Rattle.xp_tree.specs.declared.terms.Level.{Level}
use Rattle.xp_tree.specs.declared.terms.Level.TheVariants as level
use Rattle.xp_tree.specs.declared.terms.Operator.{Operator}
use Rattle.xp_tree.specs.declared.terms.Operator.TheVariants as operator
use Rattle.xp_tree.specs.declared.terms.StepTest.{StepTest}
use Rattle.xp_grammar.specs.declared.token.Placed.{Placed}
use Rattle.xp_grammar.specs.declared.token.Token.{Token}
use Rattle.xp_grammar.specs.declared.token.NodeType.{NodeType}
use Rattle.xp_grammar.specs.declared.token.NodeType.TheVariants as node_type
use Rattle.xp_grammar.specs.declared.token.Token.TheVariants as token
use Rattle.xp_grammar.specs.Parts.{level_of}
use Rattle.xp_grammar.specs.Grammar.{tighter, IsSigns, no_sign, sign, IsTest, IsChain, chained, IsOperand, tighter_chain, signed, one_path, IsOperands, no_more, one_more, IsPath, IsSteps, IsMoreSteps, no_more_steps, IsPredicates, no_predicate, IsPrimary, IsMoreArguments}
use Rattle.xp_grammar.specs.inner.Machine.{Bracket, in_paren, in_predicate, in_arguments, Ending, full, bare, at_root, Mode, want, need_step, need_colons, need_test, type_open, type_inner, type_close, function_open, after, Move, first_of_two, signs_after, load}

-- parts of an expression, with some tree
abbrev pub SomeChain : ℕ → Level → ℕ → List Placed → List Placed → Type 0
SomeChain limit n d s u = (e : Tree) × IsChain limit n d s u e

abbrev pub SomeOperand : ℕ → Level → ℕ → List Placed → List Placed → Type 0
SomeOperand limit n d s u = (e : Tree) × IsOperand limit n d s u e

abbrev pub SomeOperands : ℕ → Level → ℕ → List Placed → List Placed → Type 0
SomeOperands limit n d s u = (os : Operands) × IsOperands limit n d s u os

abbrev pub SomePath : ℕ → ℕ → List Placed → List Placed → Type 0
SomePath limit d s u = (e : Tree) × IsPath limit d s u e

abbrev pub SomeSteps : ℕ → ℕ → List Placed → List Placed → Type 0
SomeSteps limit d s u = (ss : Steps) × IsSteps limit d s u ss

abbrev pub SomeMoreSteps : ℕ → ℕ → List Placed → List Placed → Type 0
SomeMoreSteps limit d s u = (ss : Steps) × IsMoreSteps limit d s u ss

abbrev pub SomePredicates : ℕ → ℕ → List Placed → List Placed → Type 0
SomePredicates limit d s u = (ps : Trees) × IsPredicates limit d s u ps

abbrev pub SomePrimary : ℕ → ℕ → List Placed → List Placed → Type 0
SomePrimary limit d s u = (e : Tree) × IsPrimary limit d s u e

abbrev pub SomeMoreArguments : ℕ → ℕ → List Placed → List Placed → Type 0
SomeMoreArguments limit d s u = (es : Trees) × IsMoreArguments limit d s u es

abbrev pub SomeTest : List Placed → List Placed → Type 0
SomeTest s u = (t : StepTest) × IsTest s u t

-- a token, and then what P says
pub data Closer (t : Token) (P : List Placed → Type 0) : List Placed → Type 0 where
  closer : (q : Placed) (m : List Placed) → q.token ≡ t → P m → Closer t P (q ∷ m)

-- after an operand of Prod: the rests of the chains round it, and then what P says
pub record Tails (limit d : ℕ) (P : List Placed → Type 0) (s : List Placed) : Type 0 where
  pub m1 : List Placed
  pub m2 : List Placed
  pub m3 : List Placed
  pub m4 : List Placed
  pub m5 : List Placed
  pub m6 : List Placed
  pub prods : SomeOperands limit level.Prod d s m1
  pub sums : SomeOperands limit level.Sum d m1 m2
  pub rels : SomeOperands limit level.Rel d m2 m3
  pub equals : SomeOperands limit level.Equal d m3 m4
  pub ands : SomeOperands limit level.And d m4 m5
  pub ors : SomeOperands limit level.Or d m5 m6
  pub ends : P m6

-- after a path
pub record AfterPath (limit d : ℕ) (P : List Placed → Type 0) (s : List Placed) : Type 0 where
  pub w : List Placed
  pub unions : SomeOperands limit level.Union d s w
  pub tails : Tails limit d P w

-- after an operand that no predicate follows, and after one that predicates may follow
abbrev pub Bare : ℕ → ℕ → (List Placed → Type 0) → List Placed → Type 0
Bare limit d P s = (m : List Placed) × SomeMoreSteps limit d s m × AfterPath limit d P m

abbrev pub Full : ℕ → ℕ → (List Placed → Type 0) → List Placed → Type 0
Full limit d P s = (m : List Placed) × SomePredicates limit d s m × Bare limit d P m

-- after a whole expression
abbrev pub Ends : ℕ → List Bracket → List Placed → Type 0
Ends limit [] s = s ≡ []
Ends limit (in_paren ∷ k) s = Closer token.CloseParen (Full limit (length k) (Ends limit k)) s
Ends limit (in_predicate ∷ k) s = Closer token.CloseBracket (Full limit (length k) (Ends limit k)) s
Ends limit (in_arguments ∷ k) s = (m : List Placed) × SomeMoreArguments limit (suc (length k)) s m
    × Closer token.CloseParen (Full limit (length k) (Ends limit k)) m

-- an operand after j signs, and what follows it
pub record Operand (limit : ℕ) (signs : Bool) (j d : ℕ) (P : List Placed → Type 0) (s : List Placed) : Type 0 where
  pub count : ℕ
  pub m : List Placed
  pub v : List Placed
  pub minus : IsSigns count s m
  pub room : d + j + count ≤ limit
  pub only : signs ≡ false → count ≡ 0
  pub way : SomePath limit d m v
  pub onward : AfterPath limit d P v

abbrev pub StepsThen : ℕ → ℕ → (List Placed → Type 0) → List Placed → Type 0
StepsThen limit d P s = (m : List Placed) × SomeSteps limit d s m × AfterPath limit d P m

abbrev pub TestThen : ℕ → ℕ → (List Placed → Type 0) → List Placed → Type 0
TestThen limit d P s = (m : List Placed) × SomeTest s m × Full limit d P m

abbrev pub NoArguments : ℕ → List Bracket → List Placed → Type 0
NoArguments limit (in_arguments ∷ k) s = Closer token.CloseParen (Full limit (length k) (Ends limit k)) s
NoArguments limit _ s = ⊥

abbrev pub TypeThen : ℕ → NodeType → ℕ → (List Placed → Type 0) → List Placed → Type 0
TypeThen limit t d P s = Closer token.CloseParen (Full limit d P) s
    ⊎ ((t ≡ node_type.Pi) × ((target : List ℕ) × Closer (token.Literal target) (Closer token.CloseParen (Full limit d P)) s))

abbrev pub WantThen : ℕ → Bool → ℕ → Bool → List Bracket → List Placed → Type 0
WantThen limit b j true k s = Operand limit b j (length k) (Ends limit k) s ⊎ NoArguments limit k s
WantThen limit b j false k s = Operand limit b j (length k) (Ends limit k) s

abbrev pub AfterThen : ℕ → Ending → ℕ → (List Placed → Type 0) → List Placed → Type 0
AfterThen limit full d P s = Full limit d P s
AfterThen limit bare d P s = Bare limit d P s
AfterThen limit at_root d P s = AfterPath limit d P s ⊎ StepsThen limit d P s

-- what completes a state
abbrev pub Rest : ℕ → Mode → List Bracket → List Placed → Type 0
Rest limit (want b j c) k s = WantThen limit b j c k s
Rest limit need_step k s = StepsThen limit (length k) (Ends limit k) s
Rest limit need_colons k s = Closer token.DoubleColon (TestThen limit (length k) (Ends limit k)) s
Rest limit need_test k s = TestThen limit (length k) (Ends limit k) s
Rest limit (type_open t) k s = Closer token.OpenParen (TypeThen limit t (length k) (Ends limit k)) s
Rest limit (type_inner t) k s = TypeThen limit t (length k) (Ends limit k) s
Rest limit type_close k s = Closer token.CloseParen (Full limit (length k) (Ends limit k)) s
Rest limit function_open k s = Closer token.OpenParen (WantThen limit true 0 true (in_arguments ∷ k)) s
Rest limit (after e) k s = AfterThen limit e (length k) (Ends limit k) s

-- the machine's move is allowed, and s completes the state that it leads to
abbrev pub RestOf : ℕ → Option Move → List Placed → Type 0
RestOf limit None s = ⊥
RestOf limit (Some mv) s = (load mv.mode mv.stack ≤ limit) × Rest limit mv.mode mv.stack s

pub one_of : (limit : ℕ) (a b : Option Move) (s : List Placed) → RestOf limit (first_of_two a b) s →
    RestOf limit a s ⊎ RestOf limit b s
one_of limit None b s r = inr r
one_of limit (Some mv) b s r = inl r

up : (limit : ℕ) (n inner : Level) (d : ℕ) (s m u : List Placed) → tighter n ≡ Some inner →
    SomeOperand limit inner d s m → SomeOperands limit inner d m u → SomeOperand limit n d s u
up limit n inner d s m u is (e, D) (os, T) = (_, tighter_chain n inner d s u _ is (chained inner d s m u e os D T))

more_of : (limit : ℕ) (n : Level) (d : ℕ) (p : Placed) (s m u : List Placed) (o : Operator) →
    p.token ≡ token.Operator o → level_of o ≡ n →
    SomeOperand limit n d s m → SomeOperands limit n d m u → SomeOperands limit n d (p ∷ s) u
more_of limit n d p s m u o is at_level (e, D) (os, T) = (_, one_more n d p s m u o e os is at_level D T)

none_of : (limit : ℕ) (n : Level) (d : ℕ) (s : List Placed) → SomeOperands limit n d s s
none_of limit n d s = (_, no_more n d s)

-- with nothing more, P follows at once
pub no_tails : (limit d : ℕ) (P : List Placed → Type 0) (s : List Placed) → P s → Tails limit d P s
no_tails limit d P s ends = record {
  m1 = s;
  m2 = s;
  m3 = s;
  m4 = s;
  m5 = s;
  m6 = s;
  prods = none_of limit level.Prod d s;
  sums = none_of limit level.Sum d s;
  rels = none_of limit level.Rel d s;
  equals = none_of limit level.Equal d s;
  ands = none_of limit level.And d s;
  ors = none_of limit level.Or d s;
  ends = ends;
}

pub nothing_more : (limit d : ℕ) (P : List Placed → Type 0) (s : List Placed) → P s → AfterPath limit d P s
nothing_more limit d P s ends = record { w = s; unions = none_of limit level.Union d s; tails = no_tails limit d P s ends }

pub bare_of : (limit d : ℕ) (P : List Placed → Type 0) (s : List Placed) → AfterPath limit d P s → Bare limit d P s
bare_of limit d P s a = (s, (_, no_more_steps d s), a)

pub full_of : (limit d : ℕ) (P : List Placed → Type 0) (s : List Placed) → Bare limit d P s → Full limit d P s
full_of limit d P s b = (s, (_, no_predicate d s), b)

-- an operand with its signs, as an operand of Prod
pub record SignedThen (limit d : ℕ) (P : List Placed → Type 0) (s : List Placed) : Type 0 where
  pub w : List Placed
  pub it : SomeOperand limit level.Prod d s w
  pub tails : Tails limit d P w

pub signed_of : (limit : ℕ) (b : Bool) (d : ℕ) (P : List Placed → Type 0) (s : List Placed) →
    Operand limit b 0 d P s → SignedThen limit d P s
signed_of limit b d P s o =
    let (e, W) = o.way in
    let (os, U) = o.onward.unions in
    let fits : d + o.count ≤ limit = omega (arith, o.room) in
    record {
      w = o.onward.w;
      it = (_, signed d o.count s o.m o.onward.w _ o.minus fits (chained level.Union d o.m o.v o.onward.w e os (one_path d o.m o.v e W) U));
      tails = o.onward.tails;
    }

sum_of : (limit d : ℕ) (P : List Placed → Type 0) (s : List Placed) (x : SignedThen limit d P s) →
    SomeOperand limit level.Sum d s x.tails.m1
sum_of limit d P s x = up limit level.Sum level.Prod d s x.w x.tails.m1 refl x.it x.tails.prods

rel_of : (limit d : ℕ) (P : List Placed → Type 0) (s : List Placed) (x : SignedThen limit d P s) →
    SomeOperand limit level.Rel d s x.tails.m2
rel_of limit d P s x = up limit level.Rel level.Sum d s x.tails.m1 x.tails.m2 refl (sum_of limit d P s x) x.tails.sums

equal_of : (limit d : ℕ) (P : List Placed → Type 0) (s : List Placed) (x : SignedThen limit d P s) →
    SomeOperand limit level.Equal d s x.tails.m3
equal_of limit d P s x = up limit level.Equal level.Rel d s x.tails.m2 x.tails.m3 refl (rel_of limit d P s x) x.tails.rels

and_of : (limit d : ℕ) (P : List Placed → Type 0) (s : List Placed) (x : SignedThen limit d P s) →
    SomeOperand limit level.And d s x.tails.m4
and_of limit d P s x = up limit level.And level.Equal d s x.tails.m3 x.tails.m4 refl (equal_of limit d P s x) x.tails.equals

or_of : (limit d : ℕ) (P : List Placed → Type 0) (s : List Placed) (x : SignedThen limit d P s) →
    SomeOperand limit level.Or d s x.tails.m5
or_of limit d P s x = up limit level.Or level.And d s x.tails.m4 x.tails.m5 refl (and_of limit d P s x) x.tails.ands

-- a whole expression, and what follows it
pub whole_of : (limit : ℕ) (b : Bool) (d : ℕ) (P : List Placed → Type 0) (s : List Placed) → Operand limit b 0 d P s →
    (u : List Placed) × SomeChain limit level.Or d s u × P u
whole_of limit b d P s o =
    let x = signed_of limit b d P s o in
    let (e, D) = or_of limit d P s x in
    let (os, T) = x.tails.ors in
    (x.tails.m6, (_, chained level.Or d s x.tails.m5 x.tails.m6 e os D T), x.tails.ends)

at_prod : (limit : ℕ) (b : Bool) (d : ℕ) (P : List Placed → Type 0) (p : Placed) (s : List Placed) (o : Operator) →
    p.token ≡ token.Operator o → level_of o ≡ level.Prod → Operand limit b 0 d P s → AfterPath limit d P (p ∷ s)
at_prod limit b d P p s o is at_level operand =
    let x = signed_of limit b d P s operand in
    record {
      w = p ∷ s;
      unions = none_of limit level.Union d (p ∷ s);
      tails = record {
        m1 = x.tails.m1;
        m2 = x.tails.m2;
        m3 = x.tails.m3;
        m4 = x.tails.m4;
        m5 = x.tails.m5;
        m6 = x.tails.m6;
        prods = more_of limit level.Prod d p s x.w x.tails.m1 o is at_level (x.it) x.tails.prods;
        sums = x.tails.sums;
        rels = x.tails.rels;
        equals = x.tails.equals;
        ands = x.tails.ands;
        ors = x.tails.ors;
        ends = x.tails.ends;
      };
    }

at_sum : (limit : ℕ) (b : Bool) (d : ℕ) (P : List Placed → Type 0) (p : Placed) (s : List Placed) (o : Operator) →
    p.token ≡ token.Operator o → level_of o ≡ level.Sum → Operand limit b 0 d P s → AfterPath limit d P (p ∷ s)
at_sum limit b d P p s o is at_level operand =
    let x = signed_of limit b d P s operand in
    record {
      w = p ∷ s;
      unions = none_of limit level.Union d (p ∷ s);
      tails = record {
        m1 = p ∷ s;
        m2 = x.tails.m2;
        m3 = x.tails.m3;
        m4 = x.tails.m4;
        m5 = x.tails.m5;
        m6 = x.tails.m6;
        prods = none_of limit level.Prod d (p ∷ s);
        sums = more_of limit level.Sum d p s x.tails.m1 x.tails.m2 o is at_level (sum_of limit d P s x) x.tails.sums;
        rels = x.tails.rels;
        equals = x.tails.equals;
        ands = x.tails.ands;
        ors = x.tails.ors;
        ends = x.tails.ends;
      };
    }

at_rel : (limit : ℕ) (b : Bool) (d : ℕ) (P : List Placed → Type 0) (p : Placed) (s : List Placed) (o : Operator) →
    p.token ≡ token.Operator o → level_of o ≡ level.Rel → Operand limit b 0 d P s → AfterPath limit d P (p ∷ s)
at_rel limit b d P p s o is at_level operand =
    let x = signed_of limit b d P s operand in
    record {
      w = p ∷ s;
      unions = none_of limit level.Union d (p ∷ s);
      tails = record {
        m1 = p ∷ s;
        m2 = p ∷ s;
        m3 = x.tails.m3;
        m4 = x.tails.m4;
        m5 = x.tails.m5;
        m6 = x.tails.m6;
        prods = none_of limit level.Prod d (p ∷ s);
        sums = none_of limit level.Sum d (p ∷ s);
        rels = more_of limit level.Rel d p s x.tails.m2 x.tails.m3 o is at_level (rel_of limit d P s x) x.tails.rels;
        equals = x.tails.equals;
        ands = x.tails.ands;
        ors = x.tails.ors;
        ends = x.tails.ends;
      };
    }

at_equal : (limit : ℕ) (b : Bool) (d : ℕ) (P : List Placed → Type 0) (p : Placed) (s : List Placed) (o : Operator) →
    p.token ≡ token.Operator o → level_of o ≡ level.Equal → Operand limit b 0 d P s → AfterPath limit d P (p ∷ s)
at_equal limit b d P p s o is at_level operand =
    let x = signed_of limit b d P s operand in
    record {
      w = p ∷ s;
      unions = none_of limit level.Union d (p ∷ s);
      tails = record {
        m1 = p ∷ s;
        m2 = p ∷ s;
        m3 = p ∷ s;
        m4 = x.tails.m4;
        m5 = x.tails.m5;
        m6 = x.tails.m6;
        prods = none_of limit level.Prod d (p ∷ s);
        sums = none_of limit level.Sum d (p ∷ s);
        rels = none_of limit level.Rel d (p ∷ s);
        equals = more_of limit level.Equal d p s x.tails.m3 x.tails.m4 o is at_level (equal_of limit d P s x) x.tails.equals;
        ands = x.tails.ands;
        ors = x.tails.ors;
        ends = x.tails.ends;
      };
    }

at_and : (limit : ℕ) (b : Bool) (d : ℕ) (P : List Placed → Type 0) (p : Placed) (s : List Placed) (o : Operator) →
    p.token ≡ token.Operator o → level_of o ≡ level.And → Operand limit b 0 d P s → AfterPath limit d P (p ∷ s)
at_and limit b d P p s o is at_level operand =
    let x = signed_of limit b d P s operand in
    record {
      w = p ∷ s;
      unions = none_of limit level.Union d (p ∷ s);
      tails = record {
        m1 = p ∷ s;
        m2 = p ∷ s;
        m3 = p ∷ s;
        m4 = p ∷ s;
        m5 = x.tails.m5;
        m6 = x.tails.m6;
        prods = none_of limit level.Prod d (p ∷ s);
        sums = none_of limit level.Sum d (p ∷ s);
        rels = none_of limit level.Rel d (p ∷ s);
        equals = none_of limit level.Equal d (p ∷ s);
        ands = more_of limit level.And d p s x.tails.m4 x.tails.m5 o is at_level (and_of limit d P s x) x.tails.ands;
        ors = x.tails.ors;
        ends = x.tails.ends;
      };
    }

at_or : (limit : ℕ) (b : Bool) (d : ℕ) (P : List Placed → Type 0) (p : Placed) (s : List Placed) (o : Operator) →
    p.token ≡ token.Operator o → level_of o ≡ level.Or → Operand limit b 0 d P s → AfterPath limit d P (p ∷ s)
at_or limit b d P p s o is at_level operand =
    let x = signed_of limit b d P s operand in
    record {
      w = p ∷ s;
      unions = none_of limit level.Union d (p ∷ s);
      tails = record {
        m1 = p ∷ s;
        m2 = p ∷ s;
        m3 = p ∷ s;
        m4 = p ∷ s;
        m5 = p ∷ s;
        m6 = x.tails.m6;
        prods = none_of limit level.Prod d (p ∷ s);
        sums = none_of limit level.Sum d (p ∷ s);
        rels = none_of limit level.Rel d (p ∷ s);
        equals = none_of limit level.Equal d (p ∷ s);
        ands = none_of limit level.And d (p ∷ s);
        ors = more_of limit level.Or d p s x.tails.m5 x.tails.m6 o is at_level (or_of limit d P s x) x.tails.ors;
        ends = x.tails.ends;
      };
    }

no_signs : (count : ℕ) (s m : List Placed) → IsSigns count s m → count ≡ 0 → s ≡ m
no_signs _ s m (no_sign _) zero_is = refl
no_signs _ s m (sign i p t u is more) zero_is = absurd (omega (arith, zero_is))

at_union : (limit d : ℕ) (P : List Placed → Type 0) (p : Placed) (s : List Placed) →
    p.token ≡ token.Operator operator.Union → Operand limit false 0 d P s → AfterPath limit d P (p ∷ s)
at_union limit d P p s is o =
    let same : s ≡ o.m = no_signs o.count s o.m o.minus (o.only refl) in
    let (e, W) = o.way in
    let W' : IsPath limit d s o.v e = subst (λ t. IsPath limit d t o.v e) (sym same) W in
    record {
      w = o.onward.w;
      unions = more_of limit level.Union d p s o.v o.onward.w operator.Union is refl (e, one_path d s o.v e W') o.onward.unions;
      tails = o.onward.tails;
    }

-- an operator before an operand
pub with_operator : (limit d : ℕ) (P : List Placed → Type 0) (p : Placed) (s : List Placed) (o : Operator) →
    p.token ≡ token.Operator o → Operand limit (signs_after o) 0 d P s → AfterPath limit d P (p ∷ s)
with_operator limit d P p s operator.Or is x = at_or limit true d P p s operator.Or is refl x
with_operator limit d P p s operator.And is x = at_and limit true d P p s operator.And is refl x
with_operator limit d P p s operator.Equal is x = at_equal limit true d P p s operator.Equal is refl x
with_operator limit d P p s operator.NotEqual is x = at_equal limit true d P p s operator.NotEqual is refl x
with_operator limit d P p s operator.Less is x = at_rel limit true d P p s operator.Less is refl x
with_operator limit d P p s operator.AtMost is x = at_rel limit true d P p s operator.AtMost is refl x
with_operator limit d P p s operator.Greater is x = at_rel limit true d P p s operator.Greater is refl x
with_operator limit d P p s operator.AtLeast is x = at_rel limit true d P p s operator.AtLeast is refl x
with_operator limit d P p s operator.Plus is x = at_sum limit true d P p s operator.Plus is refl x
with_operator limit d P p s operator.Minus is x = at_sum limit true d P p s operator.Minus is refl x
with_operator limit d P p s operator.Times is x = at_prod limit true d P p s operator.Times is refl x
with_operator limit d P p s operator.Div is x = at_prod limit true d P p s operator.Div is refl x
with_operator limit d P p s operator.Mod is x = at_prod limit true d P p s operator.Mod is refl x
with_operator limit d P p s operator.Union is x = at_union limit d P p s is x
