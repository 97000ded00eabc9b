-- A reducer of trees may go to another thread, where its guard may be shared and its walk may go there: the parts are lent.
use denote.RattleType.{RattleType}
use denote.Ref.{NamedLft}
use denote.Param.Send.{IsSend, IsSync, plain_sync, shr_send, struct_send, struct_sync, recorded_send, recorded_sync, view_sync}
use denote.Struct.Declared.{shape}
use Rattle.std.proofs.alloc.Global.TheSendSync as heap
use Rattle.std.proofs.string.String.TheSendSync as string
use Rattle.std.specs.contracts.alloc.Global
use Rattle.std.specs.contracts.impls.GlobalAllocator.TheImpl as allocator
use Rattle.compat_table.proofs.table.Compat.TheSendSync as compat
use Rattle.keep_guard.proofs.guard.Guard.TheSendSync as guard
use Rattle.keep_guard.specs.declared.guard.Relation
use Rattle.lexer.proofs.Lent.{lexer_sync}
use Rattle.lexer.proofs.piece.Pieces.TheSendSync as pieces
use Rattle.lexer.proofs.token.Tokens.TheSendSync as tokens
use Rattle.reduce_rounds.proofs.rounds.Rounds.TheSendSync as rounds
use Rattle.reduce_rounds.specs.contracts.rounds.Rounds
use Rattle.reduce_rounds.specs.declared.round.Round
use Rattle.syntax_tree.proofs.tree.Tree.TheSendSync as tree
use Rattle.token_print.proofs.style.Style.TheSendSync as style
use Rattle.reduce_walk.specs.declared.walk.TreeWalk
use Rattle.reduce_trees.proofs.trial.Trial.TheSendSync as trial
use Rattle.reduce_trees.specs.contracts.parts.TreeParts
use Rattle.reduce_trees.specs.contracts.start_text.StartText
use Rattle.reduce_trees.specs.contracts.start_text.StartText.TheInside as inside
use Rattle.reduce_trees.specs.contracts.tree_round.TreeRound

start_sync : IsSync StartText.the_row
start_sync = view_sync inside.the_row _ _ _ _
    (recorded_sync (inside.the_field).row _ _ (inside.the_type).to_one
    (struct_sync (shape inside.the_type) (
      string.the_field_sync Global.the_row allocator.ghosts heap.the_sync,
      (lexer_sync, (pieces.the_field_sync, tt)),
    )))

module _ (F : RattleType) (relation : Relation.Ghosts F.Denot) where
  pub parts_sync : IsSync F → IsSync (TreeParts.the_row F relation)
  parts_sync f = recorded_sync (TreeParts.the_field F relation).row _ _ (TreeParts.the_type F relation).to_one
      (struct_sync (shape (TreeParts.the_type F relation)) (
        start_sync,
        (tokens.the_field_sync, (compat.the_sync, (tree.the_sync, (guard.the_sync F f, (plain_sync _ _ _ _ _, tt))))),
      ))

  module _ (lent : NamedLft) (W : RattleType) (walk : TreeWalk.Ghosts W.Denot) where
    abbrev round : RattleType
    round = TreeRound.the_row lent F W relation walk

    pub round_send : IsSync F → IsSend W → IsSend round
    round_send f w = recorded_send (TreeRound.the_field lent F W relation walk).row _ _ (TreeRound.the_type lent F W relation walk).to_one
        (struct_send (shape (TreeRound.the_type lent F W relation walk))
        (heap.the_field_send, (shr_send _ _ _ (parts_sync f), (style.the_field_send, (w, (trial.the_field_send, tt))))))

    pub reducer_send : (mode : Round.Ghosts round.Denot) → IsSync F → IsSend W → IsSend (Rounds.the_row round mode)
    reducer_send mode f w = rounds.the_send round mode (round_send f w)
