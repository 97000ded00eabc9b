use Rattle.std.proofs.Common.{ℕ, refl}
use Rattle.lexer.specs.declared.gaps.Singles.{Singles}
use Rattle.lexer_match.specs.declared.nfa.State.{State}
use Rattle.lexer_nfa.proofs.Lent.{up_to_push}
use Rattle.lexer.proofs.Singles.{char_last, pushed_single, set_last}
use Rattle.lexer.proofs.gaps.add_state.Goals as goal

abbrev kind_number : Singles → ℕ
kind_number s = s.kind

pub returns-in_ok-push-in-Char-clause-added : goal.returns-in_ok-push-in-Char-clause-added
returns-in_ok-push-in-Char-clause-added c k d scalar =
    pushed_single c.args.singles.now.items c.push.new.self.items c.args.kind c.in_ok-set-in-Char.set k d c.in_ok-push-in-Char.ensures.items c.args.flags.now
    c.args.state.now (State.Char c.in-Char.c c.in-Char.next) c.in-Char.is
    (char_last c.args.flags.now c.in-Char.next c.in-Char.c c.in_ok-set-in-Char.set c.in_ok-set-in-Char.ensures c.if-flags-next.true d scalar)

pub returns-in_ok-push-in-Char-clause-order : goal.returns-in_ok-push-in-Char-clause-order
returns-in_ok-push-in-Char-clause-order c before =
    up_to_push kind_number c.args.singles.now.items c.push.new.self.items
    (record { kind = c.args.kind; set = c.in_ok-set-in-Char.set }) c.args.kind c.in_ok-push-in-Char.ensures.items refl before

pub returns-in_ok-push-in-Set-clause-added : goal.returns-in_ok-push-in-Set-clause-added
returns-in_ok-push-in-Set-clause-added c k d scalar =
    pushed_single c.args.singles.now.items c.push-then-flags-next-2.new.self.items c.args.kind c.in_ok-set-in-Set.set k d c.in_ok-push-in-Set.ensures.items
    c.args.flags.now c.args.state.now (State.Set c.in-Set.set c.in-Set.next) c.in-Set.is
    (set_last c.args.flags.now c.in-Set.next c.in-Set.set c.in_ok-set-in-Set.set c.in_ok-set-in-Set.ensures c.if-flags-next-2.true d scalar)

pub returns-in_ok-push-in-Set-clause-order : goal.returns-in_ok-push-in-Set-clause-order
returns-in_ok-push-in-Set-clause-order c before =
    up_to_push kind_number c.args.singles.now.items c.push-then-flags-next-2.new.self.items
    (record { kind = c.args.kind; set = c.in_ok-set-in-Set.set }) c.args.kind c.in_ok-push-in-Set.ensures.items refl before
