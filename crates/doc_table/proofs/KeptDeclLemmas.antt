-- The kept nodes with one declaration more.
use Rattle.std.proofs.Common.{◌≡◌, ℕ, ◌*◌, suc, zero, List, [], ◌∷◌, length, length-set, get_or, set, Option, None, Some, true, refl, sym, ap, ◌∙◌, subst}
use Rattle.std.proofs.lemmas.List.{map-set}
use Rattle.std.specs.Prelude.{Result, Ok, Err, OnOk, OnErr}
use Rattle.doc_table.specs.declared.kind.Kind.TheVariants.{Element}
use Rattle.doc_table.specs.declared.node.Node.{Node}
use Rattle.doc_table.specs.declared.node.NodeContent.{NodeContent}
use Rattle.doc_table.specs.declared.node.NodeContent.TheVariants as kept
use Rattle.doc_table.specs.Lists.{Rise}
use Rattle.doc_table.specs.Table.{Table, Name, kind_of, is_live}
use Rattle.doc_table.specs.Walks.{ancestors, order}
use Rattle.doc_table.specs.declared.ranks.TheConstants.{RANK_STEP}
use Rattle.doc_table.specs.inner.Kept.{depth_at, rank_at, ranks_of, NameIsBelow, NamesAreBelow}
use Rattle.doc_table.specs.inner.KeptDecls.{content_declaring, kept_declaring_at}
use Rattle.doc_table.specs.inner.Views.{content_seen, node_seen, table_seen}
use Rattle.doc_table.specs.Scope.{Decl}
use Rattle.doc_table.specs.Declaring.{declaring, declaring_at, with_decl, Declared}
use Rattle.doc_table.specs.inner.Sound.{Sound}
use Rattle.doc_table.specs.inner.Parts.{Parts, IsSound, table_of}
use Rattle.doc_table.proofs.SoundLemmas.{seen-entry, number-set, ranks-same}
use Rattle.doc_table.proofs.DeclareLemmas.{formed-declared, declared, same-live, same-ancestors, same-order, same-count, same-held}

content-declared : (names : List Name) (d : Decl) (c : NodeContent) → content_seen names (content_declaring d c) ≡ declaring d (content_seen names c)
content-declared names d kept.Root = refl
content-declared names d (kept.Element id decls) = refl
content-declared names d (kept.Attribute id value) = refl
content-declared names d (kept.Text characters) = refl
content-declared names d (kept.Comment characters) = refl
content-declared names d (kept.Pi id characters) = refl

node-declared : (names : List Name) (d : Decl) (o : Option Node) → node_seen names (kept_declaring_at d o) ≡ declaring_at d (node_seen names o)
node-declared names d None = refl
node-declared names d (Some node) =
    ap (λ c. Some (record { parent = node.parent; kids = node.kids; attributes = node.attributes; content = c })) (content-declared names d node.content)

name-kept : (count : ℕ) (d : Decl) (c : NodeContent) → NameIsBelow count c → NameIsBelow count (content_declaring d c)
name-kept count d kept.Root h = h
name-kept count d (kept.Element id decls) h = h
name-kept count d (kept.Attribute id value) h = h
name-kept count d (kept.Text characters) h = h
name-kept count d (kept.Comment characters) h = h
name-kept count d (kept.Pi id characters) h = h

names-kept : (count : ℕ) (d : Decl) (nodes : List (Option Node)) (n : ℕ) → NamesAreBelow count nodes → NamesAreBelow count (set nodes n (kept_declaring_at d (get_or nodes n None)))
names-kept count d [] n k = tt
names-kept count d (None ∷ nodes) zero k = k
names-kept count d (Some node ∷ nodes) zero k = (name-kept count d node.content k.0, k.1)
names-kept count d (None ∷ nodes) (suc n) k = names-kept count d nodes n k
names-kept count d (Some node ∷ nodes) (suc n) k = (k.0, names-kept count d nodes n k.1)

depth-kept : (d : Decl) (o : Option Node) → depth_at (kept_declaring_at d o) ≡ depth_at o
depth-kept d None = refl
depth-kept d (Some node) = refl

rank-kept : (d : Decl) (o : Option Node) → rank_at (kept_declaring_at d o) ≡ rank_at o
rank-kept d None = refl
rank-kept d (Some node) = refl

module _ (names : List Name) (nodes : List (Option Node)) (n : ℕ) (d : Decl) where
  table-declared : table_seen names (set nodes n (kept_declaring_at d (get_or nodes n None))) ≡ with_decl (table_seen names nodes) n d
  table-declared =
      map-set (node_seen names) nodes n (kept_declaring_at d (get_or nodes n None))
      ∙ ap (set (table_seen names nodes) n) (node-declared names d (get_or nodes n None) ∙ ap (declaring_at d) (sym (seen-entry names nodes n)))

  -- a sound tree stays so, and has the declaration
  pub sound-declared : (live bytes : ℕ) → Sound nodes names live bytes → kind_of (table_seen names nodes) n ≡ Some Element →
      Sound (set nodes n (kept_declaring_at d (get_or nodes n None))) names live bytes
      × Declared (table_seen names nodes) (table_seen names (set nodes n (kept_declaring_at d (get_or nodes n None)))) n d
  sound-declared live bytes s kind =
      let T : Table = table_seen names nodes in
      let depths : (m : ℕ) → is_live (with_decl T n d) m ≡ true → depth_at (get_or (set nodes n (kept_declaring_at d (get_or nodes n None))) m None) ≡ length (ancestors (with_decl T n d) m) =
      λ m h. number-set depth_at nodes n m _ (depth-kept d (get_or nodes n None)) ∙ (s.depths m (sym (same-live T n d m) ∙ h) ∙ ap length (sym (same-ancestors T n d m))) in
      let ranks : Rise 0 (ranks_of (set nodes n (kept_declaring_at d (get_or nodes n None))) (order (with_decl T n d))) (RANK_STEP * length (set nodes n (kept_declaring_at d (get_or nodes n None)))) =
      rw (same-order T n d, length-set nodes n (kept_declaring_at d (get_or nodes n None)))
      (ranks-same nodes n (kept_declaring_at d (get_or nodes n None)) (order T) 0 (RANK_STEP * length nodes) (rank-kept d (get_or nodes n None)) s.ranks) in (
        record {
          formed = rw table-declared (formed-declared T n d s.formed);
          known = names-kept (length names) d nodes n s.known;
          depths = rw table-declared depths;
          ranks = rw table-declared ranks;
          live_is = rw table-declared (s.live_is ∙ sym (same-count T n d));
          bytes_is = rw table-declared (s.bytes_is ∙ sym (same-held T n d));
        },
        rw table-declared (declared T n d s.formed kind),
      )

-- the same, from the parts of a table and for either outcome
pub declared-or-not : {E : Type 0} (old : Parts) (names : List Name) (nodes after : List (Option Node)) (live bytes cap n : ℕ) (d e : Decl) (r : Result (Unit {0}) E)
    → record { nodes = nodes; names = names; live = live; text_bytes = bytes; pair_cap = cap } ≡ old
    → d ≡ e → OnOk r (after ≡ set nodes n (kept_declaring_at d (get_or nodes n None))) → OnErr r (after ≡ nodes)
    → IsSound old → kind_of (table_of old) n ≡ Some Element
    → Sound after names live bytes × OnOk r (Declared (table_of old) (table_seen names after) n e)
declared-or-not old names nodes after live bytes cap n d e (Ok x) view same ok err =
    subst (λ old. IsSound old → kind_of (table_of old) n ≡ Some Element → Sound after names live bytes × Declared (table_of old) (table_seen names after) n e) view
    (λ sound kind.
    subst (λ d. Sound after names live bytes × Declared (table_seen names nodes) (table_seen names after) n d) same
    (rw ok (sound-declared names nodes n d live bytes sound kind)))
declared-or-not old names nodes after live bytes cap n d e (Err x) view same ok err =
    subst (λ old. IsSound old → kind_of (table_of old) n ≡ Some Element → Sound after names live bytes × Unit {0}) view (λ sound kind. (rw err sound, tt))
