-- Each command is done by a call of its own, which leaves its path out.
use Rattle.std.proofs.Common.{ap, ap₂, sym, ◌∙◌, List, ℕ}
use Rattle.edit_script.specs.declared.command.Command.TheVariants.{Delete, Insert, Rename, RenameAttr, SetAttr, SetText, UnsetAttr}
use Rattle.edit_commands.proofs.CommandLemmas.{done-by}
use Rattle.edit_commands.proofs.commands.apply_at.Goals as goal

pub returns-in-Insert-clause-done : goal.returns-in-Insert-clause-done
returns-in-Insert-clause-done c =
    done-by c.args.tree.now c.insert_piece.new.tree c.args.n c.args.command.now (λ path. Insert path c.in-Insert.at c.in-Insert.piece) c.in-Insert.path c.in-Insert.is
    c.insert_piece.result c.insert_piece.ensures.done

pub returns-in-Delete-clause-done : goal.returns-in-Delete-clause-done
returns-in-Delete-clause-done c =
    done-by c.args.tree.now c.delete.new.tree c.args.n c.args.command.now (λ path. Delete path) c.in-Delete.path c.in-Delete.is c.delete.result c.delete.ensures.done

pub returns-in-SetText-clause-done : goal.returns-in-SetText-clause-done
returns-in-SetText-clause-done c =
    done-by c.args.tree.now c.set_text.new.tree c.args.n c.args.command.now (λ path. SetText path c.as_str.result.now) c.in-SetText.path
    (c.in-SetText.is ∙ ap (λ (text : List ℕ). SetText c.in-SetText.path text) (sym c.as_str.ensures)) c.set_text.result c.set_text.ensures.done

pub returns-in-SetAttr-clause-done : goal.returns-in-SetAttr-clause-done
returns-in-SetAttr-clause-done c =
    done-by c.args.tree.now c.set_attribute.new.tree c.args.n c.args.command.now (λ path. SetAttr path c.as_str-in-SetAttr.result.now c.as_str-in-SetAttr-2.result.now) c.in-SetAttr.path
    (c.in-SetAttr.is ∙ ap₂ (λ (name value : List ℕ). SetAttr c.in-SetAttr.path name value) (sym c.as_str-in-SetAttr.ensures) (sym c.as_str-in-SetAttr-2.ensures))
    c.set_attribute.result c.set_attribute.ensures.done

pub returns-in-UnsetAttr-clause-done : goal.returns-in-UnsetAttr-clause-done
returns-in-UnsetAttr-clause-done c =
    done-by c.args.tree.now c.unset_attribute.new.tree c.args.n c.args.command.now (λ path. UnsetAttr path c.as_str-in-UnsetAttr.result.now) c.in-UnsetAttr.path
    (c.in-UnsetAttr.is ∙ ap (λ (name : List ℕ). UnsetAttr c.in-UnsetAttr.path name) (sym c.as_str-in-UnsetAttr.ensures)) c.unset_attribute.result c.unset_attribute.ensures.done

pub returns-in-Rename-clause-done : goal.returns-in-Rename-clause-done
returns-in-Rename-clause-done c =
    done-by c.args.tree.now c.rename_element.new.tree c.args.n c.args.command.now (λ path. Rename path c.as_str-in-Rename.result.now) c.in-Rename.path
    (c.in-Rename.is ∙ ap (λ (name : List ℕ). Rename c.in-Rename.path name) (sym c.as_str-in-Rename.ensures)) c.rename_element.result c.rename_element.ensures.done

pub returns-in-RenameAttr-clause-done : goal.returns-in-RenameAttr-clause-done
returns-in-RenameAttr-clause-done c =
    done-by c.args.tree.now c.rename_attribute.new.tree c.args.n c.args.command.now (λ path. RenameAttr path c.as_str-in-RenameAttr.result.now c.as_str-in-RenameAttr-2.result.now) c.in-RenameAttr.path
    (c.in-RenameAttr.is ∙ ap₂ (λ (old name : List ℕ). RenameAttr c.in-RenameAttr.path old name) (sym c.as_str-in-RenameAttr.ensures) (sym c.as_str-in-RenameAttr-2.ensures))
    c.rename_attribute.result c.rename_attribute.ensures.done
