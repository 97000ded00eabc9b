use Rattle.std.proofs.Common.{◌≡◌, [], false, refl}
use Rattle.std.specs.Str.{chars}
use Rattle.lexer_nfa.proofs.Expanded.{compiled_alone}
use Rattle.lexer_nfa.proofs.Pushed.{some_state, pushed_nfa, pushed_exact, as_literal, sum_right}
use Rattle.lexer_match.specs.declared.alternative.Alternative.{Alternative}
use Rattle.lexer_nfa.proofs.Order.{up_to_push}
use Rattle.lexer_nfa.proofs.alternatives.add_implicit.Goals as goal

pub returns-clause-nfa : goal.returns-clause-nfa
returns-clause-nfa c =
    pushed_nfa (λ w. w ≡ chars c.as_str.result.now) c.args.states.now.items c.add_literal.new.states.items c.args.alternatives.now.items c.requires.nfa
    c.in_ok-start.start (compiled_alone (λ w. w ≡ chars c.as_str.result.now) c.args.states.now.items c.add_literal.new.states.items c.in_ok-start.start 0
    (some_state c.args.states.now.items c.args.alternatives.now.items c.requires.nfa) (c.in_ok-start.ensures [])) c.args.kind false c.push.new.self.items
    c.in_ok-push.ensures.items

pub returns-clause-added : goal.returns-clause-added
returns-clause-added c k w =
    sum_right
    (pushed_exact (λ w. w ≡ chars c.as_str.result.now) c.args.states.now.items c.add_literal.new.states.items c.args.alternatives.now.items c.requires.nfa
    c.in_ok-start.start (compiled_alone (λ w. w ≡ chars c.as_str.result.now) c.args.states.now.items c.add_literal.new.states.items c.in_ok-start.start 0
    (some_state c.args.states.now.items c.args.alternatives.now.items c.requires.nfa) (c.in_ok-start.ensures [])) c.args.kind false c.push.new.self.items
    c.in_ok-push.ensures.items k w)
    (as_literal (chars c.as_str.result.now) c.args.text.now c.args.kind k w c.as_str.ensures)

pub returns-clause-order : goal.returns-clause-order
returns-clause-order c before =
    up_to_push (λ (a : Alternative). a.kind) c.args.alternatives.now.items c.push.new.self.items
    (record { kind = c.args.kind; short = false; start = c.in_ok-start.start }) c.args.kind c.in_ok-push.ensures.items refl before
