-- A node says another text.
use Rattle.std.proofs.Common.{◌≡◌, ℕ, ◌+◌, Bool, true, false, not, ◌&&◌, List, length, Option, None, Some, is_some, refl, sym, ap, ap₂, ◌∙◌, subst, true≢false, ltb-false}
use Rattle.std.specs.Prelude.{nat_lt}
use Rattle.sch_base.specs.Lists.{is_nil}
use Rattle.pyx_core.specs.Nesting.{of_chars}
use Rattle.doc_table.specs.Laws.{WellFormed}
use Rattle.doc_table.specs.declared.limits.TheConstants.{MAX_LIVE_TEXT_BYTES}
use Rattle.doc_tree.specs.cell.Cell.{Cell}
use Rattle.doc_tree.specs.cell.Cell.TheVariants.{Kids, Shape, Attrs, Value, Text, Name}
use Rattle.doc_tree.specs.declared.refusal.EditRefusal.TheVariants.{WrongKind, EmptyText, TooMuchText}
use Rattle.doc_tree.specs.kind.Kind.{Kind}
use Rattle.doc_tree.specs.kind.Kind.TheVariants as kinds
use Rattle.doc_tree.specs.Kinds.{holds_kids, is_text}
use Rattle.doc_tree.specs.Lists.{mem}
use Rattle.doc_tree.specs.Refusals.{has_own_text, text_refusal}
use Rattle.doc_tree.specs.Table.{Contents, Facts, Table, content_at, entry_at, is_live, kind_at, kind_of, value_of}
use Rattle.doc_tree.specs.Walks.{text_bytes}
use Rattle.doc_tree.proofs.RefusalLemmas.{and-false, none-of-three, not-true}
use Rattle.doc_edits.specs.Changes.{said, saying}
use Rattle.doc_edits.specs.Fitting.{MaySay}
use Rattle.doc_edits.proofs.RecontentLemmas.{same-ancestors}
use Rattle.doc_edit_laws.specs.Along.{Edit, says}
use Rattle.doc_edit_laws.specs.Touching.{touched_saying}
use Rattle.doc_edits.proofs.SayingLemmas.{saying-kind}
use Rattle.name_scopes.specs.Scoping.{InScope}
use Rattle.name_scopes_laws.specs.Scopes.{SayingsKeepScope}
use Rattle.edit_script.specs.declared.command.Command.TheVariants.{SetText}
use Rattle.edit_script.specs.declared.command.PathStep.{PathStep}
use Rattle.edit_commands.specs.declared.touched.Touched.TheVariants.{Said}
use Rattle.edit_commands.specs.Touched.{holds_cell}
use Rattle.edit_commands.specs.inner.Done.{Done}

-- what is kept of the edit holds the cells that it touches
pub said-holds : (T : Table) (n : ℕ) (new : List ℕ) (is : Bool) → is ≡ is_text (kind_of T n) → (c : Cell) → holds_cell (said T n new) (Said n is) c ≡ touched_saying T n c
said-holds T n new is e (Value m) = refl
said-holds T n new is e (Text m) = ap₂ (λ (b : Bool) (l : List ℕ). b && mem m l) e (same-ancestors (saying new) (saying-kind new) T n n)
said-holds T n new is e (Kids m) = refl
said-holds T n new is e (Shape m) = refl
said-holds T n new is e (Attrs m) = refl
said-holds T n new is e (Name m) = refl

own-text-live : (T : Table) (n : ℕ) → has_own_text (kind_of T n) ≡ true → is_live T n ≡ true
own-text-live T n h = by (entry_at T n) h
  where
    by : (e : Option Facts) → has_own_text (kind_at (content_at e)) ≡ true → is_some e ≡ true
    by None h = h
    by (Some node) h = refl

own-text-leaf : (k : Option Kind) → has_own_text k ≡ true → holds_kids k ≡ false
own-text-leaf None h = refl
own-text-leaf (Some kinds.Root) h = absurd (true≢false (sym h))
own-text-leaf (Some kinds.Element) h = absurd (true≢false (sym h))
own-text-leaf (Some kinds.Attribute) h = refl
own-text-leaf (Some kinds.Text) h = refl
own-text-leaf (Some kinds.Comment) h = refl
own-text-leaf (Some kinds.Pi) h = refl

module _ (T : Table) (n : ℕ) (new : List ℕ) (free : text_refusal T n new ≡ None) where
  parts : (not (has_own_text (kind_of T n)) ≡ false) × ((is_text (kind_of T n) && is_nil new) ≡ false)
      × (nat_lt (MAX_LIVE_TEXT_BYTES + length (value_of T n)) (text_bytes T + length new) ≡ false)
  parts =
      none-of-three (not (has_own_text (kind_of T n))) (is_text (kind_of T n) && is_nil new)
      (nat_lt (MAX_LIVE_TEXT_BYTES + length (value_of T n)) (text_bytes T + length new)) WrongKind EmptyText TooMuchText free

  own : has_own_text (kind_of T n) ≡ true
  own = not-true (has_own_text (kind_of T n)) parts.0

  pub may-say : MaySay T n new
  may-say = record {
    lives = own-text-live T n own;
    has_text = own-text-leaf (kind_of T n) own;
    some = λ text empty. true≢false (sym (ap is_nil empty) ∙ and-false (is_text (kind_of T n)) (is_nil new) parts.1 (ap is_text text));
    little = ltb-false (MAX_LIVE_TEXT_BYTES + length (value_of T n)) (text_bytes T + length new) parts.2;
  }

pub text-done : SayingsKeepScope → (before after : Contents) (n : ℕ) (new : List ℕ) (is : Bool) → WellFormed before.nodes →
    of_chars new ≡ true → is ≡ is_text (kind_of before.nodes n) → text_refusal before.nodes n new ≡ None → after.nodes ≡ said before.nodes n new →
    (path : List PathStep) → Done before after (SetText path new) n (Said n is)
text-done scopes before after n new is form made kind free done path = record {
  within = free;
  edited = done;
  holds = λ c. ap (λ (U : Table). holds_cell U (Said n is) c) done ∙ said-holds before.nodes n new is kind c;
  edit = subst (λ (U : Table). Edit before.nodes U (touched_saying before.nodes n)) (sym done) (says n new (may-say before.nodes n new free));
  scope = λ s. subst InScope (sym done) (scopes before.nodes n new form s (may-say before.nodes n new free) made);
}
