use Rattle.std.proofs.Common.{List, ℕ, sym, subst, ◌∙◌, arith}
use Rattle.std.specs.List.{Contains}
use Rattle.lexer_match.specs.StateSets.{ReadsFrom}
use Rattle.lexer_match.specs.inner.StateSets.{IsFollowed}
use Rattle.lexer_match.specs.Table.{IsReached}
use Rattle.lexer_match.proofs.Found.{in_some, set_of, starts_same, step_of, stuck_of}
use Rattle.lexer_match.proofs.subsets.Subsets.step.Goals as goal

pub returns-then-is_full-clause-grown : goal.returns-then-is_full-clause-grown
returns-then-is_full-clause-grown c = starts_same c.args.self.now.found.sets.items

pub returns-then-is_full-clause-step : goal.returns-then-is_full-clause-step
returns-then-is_full-clause-step c = tt

pub step_from-requires-clause-before : goal.step_from-requires-clause-before
step_from-requires-clause-before c n among =
    let Q : List ℕ → Type 0 = λ l. Contains l n in (c.requires.ready.sets c.args.set).inside n (subst Q c.states.ensures among)

pub step_from-requires-clause-before_followed : goal.step_from-requires-clause-before_followed
step_from-requires-clause-before_followed c =
    let Q : List ℕ → Type 0 = λ l. IsFollowed c.args.nfa.now l in subst Q (sym c.states.ensures) (c.requires.ready.sets c.args.set).followed

pub returns-then-is_empty : goal.returns-then-is_empty
returns-then-is_empty c =
    let made = c.in_ok-step_from.ensures in
    let sets = c.args.self.now.found.sets.items in
    record {
      ready = record { size = made.size ∙ c.requires.ready.size; marked = made.marked; sets = c.requires.ready.sets };
      grown = starts_same sets;
      step =
          stuck_of c.args.nfa.now sets c.states.result.now c.step_from.new.self.states.items c.args.set c.args.c (sym c.states.ensures) made.reads
          (c.is_empty.ensures.empty c.if-is_empty.true);
    }

pub reached-requires-clause-inside : goal.reached-requires-clause-inside
reached-requires-clause-inside c = omega (arith, c.in_ok-step_from.ensures.size, c.requires.ready.size, c.requires.some)

pub returns-in-Some-clause-ready : goal.returns-in-Some-clause-ready
returns-in-Some-clause-ready c =
    let made = c.in_ok-step_from.ensures in
    let set =
    set_of c.args.nfa.now c.step_from.new.self.states.items c.step_from.new.self.marks.items made.marked (made.size ∙ c.requires.ready.size) made.followed in
    record { size = made.size ∙ c.requires.ready.size; marked = made.marked; sets = c.in_ok-found.ensures.sets c.args.nfa.now set c.requires.ready.sets }

pub returns-in-Some-clause-step : goal.returns-in-Some-clause-step
returns-in-Some-clause-step c =
    let P = c.args.nfa.now in
    let made = c.in_ok-step_from.ensures in
    let states = c.step_from.new.self.states.items in
    let old = c.args.self.now.found.sets.items in
    let new = c.reached.new.self.sets.items in
    let set = set_of P states c.step_from.new.self.marks.items made.marked (made.size ∙ c.requires.ready.size) made.followed in
    step_of P old new c.states.result.now states c.args.set c.args.c c.in-Some.reached c.in_ok-found.ensures.grown c.requires.set
    (sym c.states.ensures) made.reads
    (in_some c.in_ok-found.found c.in-Some.reached (IsReached P new (ReadsFrom P states)) c.in-Some.is (c.in_ok-found.ensures.reached P c.requires.live set))

pub returns-in-None-clause-ready : goal.returns-in-None-clause-ready
returns-in-None-clause-ready c =
    let made = c.in_ok-step_from.ensures in
    let set = set_of c.args.nfa.now c.step_from.new.self.states.items c.step_from.new.self.marks.items made.marked
    (made.size ∙ c.requires.ready.size) made.followed in
    record { size = made.size ∙ c.requires.ready.size; marked = made.marked; sets = c.in_ok-found.ensures.sets c.args.nfa.now set c.requires.ready.sets }
