-- First faults have one place, of expressions and of patterns.
use Rattle.std.proofs.Common.{◌≡◌, ℕ, Bool, true, false, List, [], ◌∷◌, ◌++◌, length, refl, sym, ap, ap₂, subst, ◌∙◌, append_assoc, append-nil, inl, inr, ◌⊎◌}
use Rattle.xp_tree.specs.Tree.{Tree}
use Rattle.xp_tree.specs.PatternTree.{PathTree}
use Rattle.xp_grammar.specs.declared.token.Placed.{Placed}
use Rattle.xp_grammar.specs.declared.fault.SyntaxKind.{SyntaxKind}
use Rattle.xp_grammar.specs.declared.fault.SyntaxKind.TheVariants as kinds
use Rattle.xp_grammar.specs.Grammar.{Derives}
use Rattle.xp_grammar.specs.PatternGrammar.{DerivesPattern}
use Rattle.xp_grammar.specs.Faults.{BeginsIn, IsFirstFaultIn, unexpected_token, too_nested, unexpected_end, bad_token}
use Rattle.xp_lexicon.specs.Lexicon.{Tokenized}
use Rattle.xp_lexicon.specs.Laws.{TextsReadOnce}
use Rattle.xp_syntax.specs.Laws.{FirstFaultsAreUnique, FaultyTextsSpellNothing, FirstPatternFaultsAreUnique, FaultyTextsSpellNoPattern}

begins_front : (A : Type 0) (G : ℕ → List Placed → A → Type 0) (limit : ℕ) (before more : List Placed) → BeginsIn A G limit (before ++ more) → BeginsIn A G limit before
begins_front A G limit before more b =
    (more ++ b.0, b.1, subst (λ l. G limit l b.1) (append_assoc before more b.0) b.2)

begins_with : (A : Type 0) (G : ℕ → List Placed → A → Type 0) (limit : ℕ) (before more : List Placed) (p : Placed) → BeginsIn A G limit (before ++ p ∷ more) → BeginsIn A G limit (before ++ p ∷ [])
begins_with A G limit before more p b =
    begins_front A G limit (before ++ p ∷ []) more (subst (BeginsIn A G limit) (sym (append_assoc before (p ∷ []) more)) b)

-- why a token is a fault
abbrev Cause : (A : Type 0) (G : ℕ → List Placed → A → Type 0) → List Placed → Placed → SyntaxKind → Type 0
Cause A G before p kinds.Unexpected = (any : ℕ) → BeginsIn A G any (before ++ p ∷ []) → ⊥
Cause A G before p kinds.TooNested = (higher : ℕ) × BeginsIn A G higher (before ++ p ∷ [])
Cause A G before p kinds.BadToken = ⊥

abbrev end_kind : Bool → SyntaxKind
end_kind true = kinds.Unexpected
end_kind false = kinds.BadToken

record AtToken (A : Type 0) (G : ℕ → List Placed → A → Type 0) (limit : ℕ) (tokens : List Placed) (kind : SyntaxKind) (offset : ℕ) : Type 0 where
  before : List Placed
  token : Placed
  after : List Placed
  split : tokens ≡ before ++ token ∷ after
  refused : BeginsIn A G limit (before ++ token ∷ []) → ⊥
  front : BeginsIn A G limit before
  cause : Cause A G before token kind
  stands : offset ≡ token.offset

record AtEnd (A : Type 0) (G : ℕ → List Placed → A → Type 0) (limit : ℕ) (tokens : List Placed) (whole : Bool) (end : ℕ) (kind : SyntaxKind) (offset : ℕ) : Type 0 where
  all : BeginsIn A G limit tokens
  kind_is : kind ≡ end_kind whole
  stands : offset ≡ end
  ends : whole ≡ true → (e : A) → G limit tokens e → ⊥

seen : (A : Type 0) (G : ℕ → List Placed → A → Type 0) (limit : ℕ) (tokens : List Placed) (whole : Bool) (end : ℕ) (kind : SyntaxKind) (offset : ℕ) → IsFirstFaultIn A G limit tokens whole end kind offset →
    AtToken A G limit tokens kind offset ⊎ AtEnd A G limit tokens whole end kind offset
seen A G limit _ _ _ _ _ (unexpected_token before after p whole end front none) = inl (record {
  before = before;
  token = p;
  after = after;
  split = refl;
  refused = none limit;
  front = front;
  cause = none;
  stands = refl;
})
seen A G limit _ _ _ _ _ (too_nested before after p whole end front none higher more) = inl (record {
  before = before;
  token = p;
  after = after;
  split = refl;
  refused = none;
  front = front;
  cause = (higher, more);
  stands = refl;
})
seen A G limit _ _ _ _ _ (unexpected_end tokens end all none) = inr (record { all = all; kind_is = refl; stands = refl; ends = λ _. none })
seen A G limit _ _ _ _ _ (bad_token tokens end all) = inr (record { all = all; kind_is = refl; stands = refl; ends = λ h. absurd (cc) })

-- two places in one list
data Places : List Placed → Placed → List Placed → Placed → Type 0 where
  same : (before other : List Placed) (p q : Placed) → before ≡ other → p ≡ q → Places before p other q
  earlier : (before other extra : List Placed) (p q : Placed) → other ≡ before ++ p ∷ extra → Places before p other q
  later : (before other extra : List Placed) (p q : Placed) → before ≡ other ++ q ∷ extra → Places before p other q

heads : (p q : Placed) (xs ys : List Placed) → p ∷ xs ≡ q ∷ ys → (p ≡ q) × (xs ≡ ys)
heads p q xs ys e = (cc, cc)

onto : (x y : Placed) (before other : List Placed) (p q : Placed) → x ≡ y → Places before p other q → Places (x ∷ before) p (y ∷ other) q
onto x y before other p q e (same _ _ _ _ f g) = same (x ∷ before) (y ∷ other) p q (ap₂ (λ (a : Placed) (l : List Placed). a ∷ l) e f) g
onto x y before other p q e (earlier _ _ extra _ _ f) =
    earlier (x ∷ before) (y ∷ other) extra p q (ap₂ (λ (a : Placed) (l : List Placed). a ∷ l) (sym e) f)
onto x y before other p q e (later _ _ extra _ _ f) =
    later (x ∷ before) (y ∷ other) extra p q (ap₂ (λ (a : Placed) (l : List Placed). a ∷ l) e f)

compared : (before other after rest : List Placed) (p q : Placed) → before ++ p ∷ after ≡ other ++ q ∷ rest → Places before p other q
compared [] [] after rest p q e = same [] [] p q refl (heads p q after rest e).0
compared [] (y ∷ other) after rest p q e =
    earlier [] (y ∷ other) other p q (ap (λ (x : Placed). x ∷ other) (sym (heads p y after (other ++ q ∷ rest) e).0))
compared (x ∷ before) [] after rest p q e =
    later (x ∷ before) [] before p q (ap (λ (y : Placed). y ∷ before) (heads x q (before ++ p ∷ after) rest e).0)
compared (x ∷ before) (y ∷ other) after rest p q e =
    let h = heads x y (before ++ p ∷ after) (other ++ q ∷ rest) e in
    onto x y before other p q h.0 (compared before other after rest p q h.1)

causes_agree : (A : Type 0) (G : ℕ → List Placed → A → Type 0) (before : List Placed) (p : Placed) (kind other : SyntaxKind) → Cause A G before p kind → Cause A G before p other → kind ≡ other
causes_agree A G before p kinds.Unexpected kinds.Unexpected a b = refl
causes_agree A G before p kinds.Unexpected kinds.TooNested a b = absurd (a b.0 b.1)
causes_agree A G before p kinds.Unexpected kinds.BadToken a b = absurd b
causes_agree A G before p kinds.TooNested kinds.Unexpected a b = absurd (b a.0 a.1)
causes_agree A G before p kinds.TooNested kinds.TooNested a b = refl
causes_agree A G before p kinds.TooNested kinds.BadToken a b = absurd b
causes_agree A G before p kinds.BadToken kinds.Unexpected a b = absurd a
causes_agree A G before p kinds.BadToken kinds.TooNested a b = absurd a
causes_agree A G before p kinds.BadToken kinds.BadToken a b = refl

one_place : (A : Type 0) (G : ℕ → List Placed → A → Type 0) (limit : ℕ) (tokens : List Placed) (kind other_kind : SyntaxKind) (offset other_offset : ℕ) → (a : AtToken A G limit tokens kind offset) →
    (b : AtToken A G limit tokens other_kind other_offset) → Places a.before a.token b.before b.token →
    (kind ≡ other_kind) × (offset ≡ other_offset)
one_place A G limit tokens kind other_kind offset other_offset a b (same _ _ _ _ f g) = (
  causes_agree A G a.before a.token kind other_kind a.cause
      (subst (λ p. Cause A G a.before p other_kind) (sym g) (subst (λ l. Cause A G l b.token other_kind) (sym f) b.cause)),
  a.stands ∙ ap (λ (p : Placed). p.offset) g ∙ sym b.stands,
)
one_place A G limit tokens kind other_kind offset other_offset a b (earlier _ _ extra _ _ f) =
    absurd (a.refused (begins_with A G limit a.before extra a.token (subst (BeginsIn A G limit) f b.front)))
one_place A G limit tokens kind other_kind offset other_offset a b (later _ _ extra _ _ f) =
    absurd (b.refused (begins_with A G limit b.before extra b.token (subst (BeginsIn A G limit) f a.front)))

clash : (A : Type 0) (G : ℕ → List Placed → A → Type 0) (limit : ℕ) (tokens : List Placed) (kind : SyntaxKind) (offset : ℕ) → AtToken A G limit tokens kind offset → BeginsIn A G limit tokens → ⊥
clash A G limit tokens kind offset a all = a.refused (begins_with A G limit a.before a.after a.token (subst (BeginsIn A G limit) a.split all))

agree : (A : Type 0) (G : ℕ → List Placed → A → Type 0) (limit : ℕ) (tokens : List Placed) (whole : Bool) (end : ℕ) (kind other_kind : SyntaxKind) (offset other_offset : ℕ) →
    AtToken A G limit tokens kind offset ⊎ AtEnd A G limit tokens whole end kind offset →
    AtToken A G limit tokens other_kind other_offset ⊎ AtEnd A G limit tokens whole end other_kind other_offset →
    (kind ≡ other_kind) × (offset ≡ other_offset)
agree A G limit tokens whole end kind other_kind offset other_offset (inl a) (inl b) =
    one_place A G limit tokens kind other_kind offset other_offset a b
    (compared a.before b.before a.after b.after a.token b.token (sym a.split ∙ b.split))
agree A G limit tokens whole end kind other_kind offset other_offset (inl a) (inr b) = absurd (clash A G limit tokens kind offset a b.all)
agree A G limit tokens whole end kind other_kind offset other_offset (inr a) (inl b) = absurd (clash A G limit tokens other_kind other_offset b a.all)
agree A G limit tokens whole end kind other_kind offset other_offset (inr a) (inr b) = (a.kind_is ∙ sym b.kind_is, a.stands ∙ sym b.stands)

-- a text's tokens have one first fault
one_fault : (A : Type 0) (G : ℕ → List Placed → A → Type 0) → TextsReadOnce → (limit : ℕ) (text : List ℕ) (tokens others : List Placed) (whole other_whole : Bool)
    (end other_end : ℕ) (kind other_kind : SyntaxKind) (offset other_offset : ℕ) → Tokenized text tokens whole end → Tokenized text others other_whole other_end →
    IsFirstFaultIn A G limit tokens whole end kind offset → IsFirstFaultIn A G limit others other_whole other_end other_kind other_offset →
    (kind ≡ other_kind) × (offset ≡ other_offset)
one_fault A G once limit text tokens others whole other_whole end other_end kind other_kind offset other_offset T U a b =
    let s = once text tokens others whole other_whole end other_end T U in
    agree A G limit tokens whole end kind other_kind offset other_offset
    (seen A G limit tokens whole end kind offset a)
    (seen A G limit tokens whole end other_kind other_offset
    (subst (λ n. IsFirstFaultIn A G limit tokens whole n other_kind other_offset) (sym s.end_same)
    (subst (λ w. IsFirstFaultIn A G limit tokens w other_end other_kind other_offset) (sym s.whole_same)
    (subst (λ l. IsFirstFaultIn A G limit l other_whole other_end other_kind other_offset) (sym s.tokens_same) b))))

pub unique : TextsReadOnce → FirstFaultsAreUnique
unique once limit text kind other_kind offset other_offset a b =
    one_fault Tree Derives once limit text a.tokens b.tokens a.whole b.whole a.end b.end kind other_kind offset other_offset
    a.tokenized b.tokenized a.first b.first

pub unique_of_patterns : TextsReadOnce → FirstPatternFaultsAreUnique
unique_of_patterns once limit text kind other_kind offset other_offset a b =
    one_fault (List PathTree) DerivesPattern once limit text a.tokens b.tokens a.whole b.whole a.end b.end kind other_kind offset other_offset
    a.tokenized b.tokenized a.first b.first

no_tree : (A : Type 0) (G : ℕ → List Placed → A → Type 0) (limit : ℕ) (tokens : List Placed) (whole : Bool) (end : ℕ) (kind : SyntaxKind) (offset : ℕ) (e : A) →
    AtToken A G limit tokens kind offset ⊎ AtEnd A G limit tokens whole end kind offset → whole ≡ true → G limit tokens e → ⊥
no_tree A G limit tokens whole end kind offset e (inl a) all d =
    a.refused (begins_with A G limit a.before a.after a.token ([], e, subst (λ l. G limit l e) (a.split ∙ sym (append-nil _)) d))
no_tree A G limit tokens whole end kind offset e (inr a) all d = a.ends all e d

-- where there is a first fault, the whole text derives nothing
none_spelled : (A : Type 0) (G : ℕ → List Placed → A → Type 0) → TextsReadOnce → (limit : ℕ) (text : List ℕ) (tokens others : List Placed) (whole : Bool)
    (end : ℕ) (kind : SyntaxKind) (offset : ℕ) (e : A) → Tokenized text tokens whole end → Tokenized text others true (length text) →
    IsFirstFaultIn A G limit tokens whole end kind offset → G limit others e → ⊥
none_spelled A G once limit text tokens others whole end kind offset e T U a d =
    let same = once text tokens others whole true end (length text) T U in
    no_tree A G limit tokens whole end kind offset e (seen A G limit tokens whole end kind offset a) same.whole_same
    (subst (λ l. G limit l e) (sym same.tokens_same) d)

pub nothing : TextsReadOnce → FaultyTextsSpellNothing
nothing once limit text kind offset e a s =
    none_spelled Tree Derives once limit text a.tokens s.tokens a.whole a.end kind offset e a.tokenized s.tokenized a.first s.derived

pub no_pattern : TextsReadOnce → FaultyTextsSpellNoPattern
no_pattern once limit text kind offset paths a s =
    none_spelled (List PathTree) DerivesPattern once limit text a.tokens s.tokens a.whole a.end kind offset paths a.tokenized s.tokenized a.first s.derived
