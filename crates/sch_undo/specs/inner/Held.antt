-- What a history keeps: its session's tree is in scope, and its entries stand for trees and begin with what changes a name.
use Rattle.std.specs.Prelude.{◌≤◌, List, All}
use Rattle.doc_tree.specs.Table.{Contents}
use Rattle.name_scopes.specs.Scoping.{InScope}
use Rattle.history_laws.specs.Histories.{StandsFor}
use Rattle.sch_undo.specs.declared.history.History.TheInside.{Inside}
use Rattle.sch_undo.specs.declared.history.TheConstants.{MAX_UNDO_DEPTH}
use Rattle.sch_undo.specs.Remembered.{Remembered}
use Rattle.sch_undo.specs.inner.Doing.{NamesFirst}
use Rattle.undo_entries.specs.declared.entry.Entry.{Entry}

abbrev pub remembered : Inside → Remembered
remembered history = record { session = history.session; entries = history.entries.items; depth = history.entries.capacity }

abbrev pub NamesComeFirst : Entry → Type 0
NamesComeFirst entry = NamesFirst entry.commands

pub record Stands (history : Inside) : Type 0 where
  pub some : 1 ≤ history.entries.capacity
  pub few : history.entries.capacity ≤ MAX_UNDO_DEPTH
  pub scoped : InScope history.session.tree.nodes
  pub names : All NamesComeFirst history.entries.items
  pub trees : List Contents
  pub stand : StandsFor history.session.tree history.entries.items trees
