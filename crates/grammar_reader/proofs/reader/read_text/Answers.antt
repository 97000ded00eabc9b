use Rattle.std.proofs.Common.{◌≡◌, Some, None, Ok, subst, sym, ◌∙◌}
use Rattle.grammar_tree.specs.Written.{WrittenGrammar}
use Rattle.grammar_tree.specs.GrammarView.{grammar_of}
use Rattle.grammar_reader_machine.specs.declared.state.State.{State}
use Rattle.grammar_reader_machine.specs.View.{state_of, Gives}
use Rattle.grammar_reader_machine.specs.Machine as m
use Rattle.grammar_reader_notation.specs.Reads.{IsFirstFault}
use Rattle.grammar_reader.specs.Rows.{fault_at}
use Rattle.grammar_reader.proofs.Reading.{IsReading, goes_on, stops, is_fault, no_text, is_text, same_text}
use Rattle.grammar_reader_notation.proofs.Lent.{profile_fits}
use Rattle.grammar_reader.proofs.reader.read_text.Goals as goal

pub loop-placed-preserved : goal.loop-placed-preserved
loop-placed-preserved c =
    let s = state_of c.in_ok-placed.current in
    let read : IsReading c.args.text.now c.loop-placed.words s =
    subst (λ (t : State). IsReading c.args.text.now c.loop-placed.words (state_of t)) (sym c.in_ok-placed.ensures.state) c.loop-placed.invariant in
    let after : m.step 64 s c.in_ok-placed.placed.word ≡ Some (state_of c.in-Some.next) =
    subst (λ o. Gives (Ok o) (m.step 64 s c.in_ok-placed.placed.word)) c.in-Some.is c.in_ok-step.ensures in
    let shown : (state_of c.in-Err.further ≡ state_of c.in-Some.next) × ((G : WrittenGrammar) → state_of c.in-Some.next ≡ m.AtEnd G → ⊥) = c.in-Err.ensures in
    goes_on c.args.text.now c.loop-placed.words c.next_word.new.words c.in_ok-placed.placed s read c.in_ok-placed.ensures.word (state_of c.in-Err.further)
    (subst (λ t. m.step 64 s c.in_ok-placed.placed.word ≡ Some t) (sym shown.0) after) (λ G x. shown.1 G (sym shown.0 ∙ x)) c.in_ok-placed.ensures.goes_on

pub returns-in-None-clause-only : goal.returns-in-None-clause-only
returns-in-None-clause-only c =
    let s = state_of c.in_ok-placed.current in
    let read : IsReading c.args.text.now c.loop-placed.words s = subst (λ (t : State). IsReading c.args.text.now c.loop-placed.words (state_of t))
    (sym c.in_ok-placed.ensures.state) c.loop-placed.invariant in
    let none : m.step 64 s c.in_ok-placed.placed.word ≡ None =
    subst (λ o. Gives (Ok o) (m.step 64 s c.in_ok-placed.placed.word)) c.in-None.is c.in_ok-step.ensures in
    λ G t. absurd (no_text c.args.text.now c.loop-placed.words c.next_word.new.words c.in_ok-placed.placed s read c.in_ok-placed.ensures.word G none t.text)

pub returns-in-None-clause-fault : goal.returns-in-None-clause-fault
returns-in-None-clause-fault c =
    let s = state_of c.in_ok-placed.current in
    let read : IsReading c.args.text.now c.loop-placed.words s = subst
    (λ (t : State). IsReading c.args.text.now c.loop-placed.words (state_of t)) (sym c.in_ok-placed.ensures.state) c.loop-placed.invariant in
    let none : m.step 64 s c.in_ok-placed.placed.word ≡ None = subst
    (λ o. Gives (Ok o) (m.step 64 s c.in_ok-placed.placed.word)) c.in-None.is c.in_ok-step.ensures in
    let current : IsFirstFault c.args.text.now (fault_at s c.in_ok-placed.placed.word c.in_ok-placed.placed.offset) =
    stops c.args.text.now c.loop-placed.words c.next_word.new.words c.in_ok-placed.placed s read c.in_ok-placed.ensures.word none in
    is_fault c.args.text.now c.fault_at-fault.result c.requires (subst (λ x. IsFirstFault c.args.text.now x) (sym c.fault_at-fault.ensures) current)

pub returns-in-Ok-clause-ok : goal.returns-in-Ok-clause-ok
returns-in-Ok-clause-ok c =
    let s = state_of c.in_ok-placed.current in
    let read : IsReading c.args.text.now c.loop-placed.words
    s = subst (λ (t : State). IsReading c.args.text.now c.loop-placed.words (state_of t)) (sym c.in_ok-placed.ensures.state) c.loop-placed.invariant in
    let after : m.step 64 s c.in_ok-placed.placed.word ≡ Some (state_of c.in-Some.next) = subst
    (λ o. Gives (Ok o) (m.step 64 s c.in_ok-placed.placed.word)) c.in-Some.is c.in_ok-step.ensures in
    let done : m.step 64 s c.in_ok-placed.placed.word ≡ Some (m.AtEnd (grammar_of c.in-Ok.grammar)) =
    subst (λ t. m.step 64 s c.in_ok-placed.placed.word ≡ Some t) c.in-Ok.ensures after in
    record {
      utf8 = c.requires;
      text =
          is_text c.args.text.now c.loop-placed.words c.next_word.new.words c.in_ok-placed.placed s read c.in_ok-placed.ensures.word
          (grammar_of c.in-Ok.grammar) done c.in_ok-placed.ensures.ends;
    }

pub returns-in-Ok-clause-few : goal.returns-in-Ok-clause-few
returns-in-Ok-clause-few c = profile_fits (returns-in-Ok-clause-ok c)

pub returns-in-Ok-clause-only : goal.returns-in-Ok-clause-only
returns-in-Ok-clause-only c =
    let s = state_of c.in_ok-placed.current in
    let read : IsReading c.args.text.now c.loop-placed.words s = subst (λ (t : State). IsReading c.args.text.now c.loop-placed.words
    (state_of t)) (sym c.in_ok-placed.ensures.state) c.loop-placed.invariant in
    let after : m.step 64 s c.in_ok-placed.placed.word ≡ Some
    (state_of c.in-Some.next) = subst (λ o. Gives (Ok o) (m.step 64 s c.in_ok-placed.placed.word)) c.in-Some.is c.in_ok-step.ensures in
    let done : m.step 64 s c.in_ok-placed.placed.word ≡ Some (m.AtEnd (grammar_of c.in-Ok.grammar)) = subst
    (λ t. m.step 64 s c.in_ok-placed.placed.word ≡ Some t) c.in-Ok.ensures after in
    λ H t. same_text c.args.text.now c.loop-placed.words c.next_word.new.words c.in_ok-placed.placed s read c.in_ok-placed.ensures.word
    (grammar_of c.in-Ok.grammar) H done c.in_ok-placed.ensures.ends t.text
