use Rattle.std.proofs.Common.{◌∙◌, ℕ, List, sym, subst}
use Rattle.net_hub.specs.Foreseen.{MakeCommand}
use Rattle.net_connection.specs.Handing.{held_in}
use Rattle.net_connection.proofs.BackLemmas.{back_never, editor_piece}
use Rattle.net_connection.proofs.connection.Connection.asks_change.Goals as goal

pub returns-then-not-is_of_editor-clause-no : goal.returns-then-not-is_of_editor-clause-no
returns-then-not-is_of_editor-clause-no g c = λ isnt editor. back_never _ (sym c.is_of_editor.ensures ∙ c.if-not-is_of_editor.true) editor

pub returns-clause-yes : goal.returns-clause-yes
returns-clause-yes g c = λ is.
    let editor = sym c.is_of_editor.ensures ∙ c.if-not-is_of_editor.false in
    let piece = c.next_piece.ensures.value ∙ editor_piece c.args.self.now.held.kind (held_in c.args.self.now.held) editor in
    (editor, λ held has. subst (λ (l : List ℕ). MakeCommand held l) piece (c.asks_change.ensures.yes is held has))

pub returns-clause-no : goal.returns-clause-no
returns-clause-no g c = λ isnt editor held has makes.
    let piece = c.next_piece.ensures.value ∙ editor_piece c.args.self.now.held.kind (held_in c.args.self.now.held) editor in
    c.asks_change.ensures.no isnt held has (subst (λ (l : List ℕ). MakeCommand held l) (sym piece) makes)
