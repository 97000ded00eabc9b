use Rattle.std.proofs.Common.{◌≡◌, Bool, List, map, sym, ap, ◌∙◌, subst}
use Rattle.std.specs.List.{Contains}
use Rattle.grammar_tree.specs.GrammarView.{kind_of}
use Rattle.grammar_tree.specs.Kinds.{kinds_of}
use Rattle.lexer.specs.declared.candidates.Beginning.{Beginning}
use Rattle.lexer_match.specs.declared.nfa.State.{State}
use Rattle.lexer_match.specs.declared.alternative.Alternative.{Alternative}
use Rattle.lexer_match.specs.Alternatives.{IsNfa}
use Rattle.lexer_nfa.specs.GrammarNfa.{IsNfaOf}
use Rattle.lexer.specs.inner.Candidates.{AreBeginnings, AreListed, IsBeginning}
use Rattle.lexer_match.specs.Live.{AreLive}
use Rattle.lexer_match.specs.Table.{IsTable}
use Rattle.lexer_match.proofs.Lent.{get_within}
use Rattle.lexer.proofs.Listed.{beginnings_order}
use Rattle.lexer.proofs.rules.Rules.build.Goals as goal

abbrev alternative_of : Beginning → Alternative
alternative_of b = b.alternative

begun : (S P : List State) (A all : List Alternative) (B : List Beginning) → P ≡ S → all ≡ A → AreBeginnings P all B → AreBeginnings S A B
begun S P A all B e f are =
    let Q : List State → Type 0 = λ x. AreBeginnings x all B in
    let R : List Alternative → Type 0 = λ x. AreBeginnings S x B in
    subst R f (subst Q e are)

each : (S P : List State) (A : List Alternative) (B lent : List Beginning) → P ≡ S → lent ≡ B → AreBeginnings S A B → (b : Beginning) → Contains lent b
    → IsBeginning P b
each S P A B lent e f are b among =
    let Q : List Beginning → Type 0 = λ x. Contains x b in
    let R : List State → Type 0 = λ x. IsBeginning x b in
    subst R (sym e) (are.each b (subst Q f among))

pub by_first_character-requires : goal.by_first_character-requires
by_first_character-requires c =
    let S = c.add_kinds.new.states.items in
    let A = c.add_kinds.new.alternatives.items in
    let B = c.in_ok-beginnings.beginnings.items in
    let are = begun S c.deref.result.now A c.deref-2.result.now B c.deref.ensures.value c.deref-2.ensures.value c.in_ok-beginnings.ensures in
    each S c.deref-3.result.now A B c.deref-4.result.now c.deref-3.ensures.value c.deref-4.ensures.value are

pub gap_characters-requires-clause-beginnings : goal.gap_characters-requires-clause-beginnings
gap_characters-requires-clause-beginnings c =
    let S = c.add_kinds.new.states.items in
    let A = c.add_kinds.new.alternatives.items in
    let B = c.in_ok-beginnings.beginnings.items in
    let are = begun S c.deref.result.now A c.deref-2.result.now B c.deref.ensures.value c.deref-2.ensures.value c.in_ok-beginnings.ensures in
    each S c.deref-5.result.now A B c.deref-6.result.now c.deref-5.ensures.value c.deref-6.ensures.value are

pub gap_characters-requires-clause-order : goal.gap_characters-requires-clause-order
gap_characters-requires-clause-order c =
    let S = c.add_kinds.new.states.items in
    let A = c.add_kinds.new.alternatives.items in
    let B = c.in_ok-beginnings.beginnings.items in
    let are = begun S c.deref.result.now A c.deref-2.result.now B c.deref.ensures.value c.deref-2.ensures.value c.in_ok-beginnings.ensures in
    beginnings_order c.deref-6.result.now A (ap (λ l. map alternative_of l) c.deref-6.ensures.value ∙ are.alternatives) c.in_ok-add_kinds.ensures.order

pub live_states-requires : goal.live_states-requires
live_states-requires c =
    let T : List State → Type 0 = λ x. IsNfa x c.add_kinds.new.alternatives.items in
    let nfa = subst T (sym c.deref-7.ensures.value) c.in_ok-add_kinds.ensures.nfa in
    record { closed = nfa.closed; some = get_within c.deref-7.result.now State.Never 0 nfa.ends }

pub table_of-requires : goal.table_of-requires
table_of-requires c =
    let T : List State → Type 0 = λ x. IsNfa x c.add_kinds.new.alternatives.items in
    let U : List Alternative → Type 0 = λ x. IsNfa c.deref-8.result.now x in
    let V : List State → Type 0 = λ x. AreLive x c.in_ok-live.live.items in
    let W : List Bool → Type 0 = λ x. AreLive c.deref-8.result.now x in
    record {
      nfa = subst U (sym c.deref-10.ensures.value) (subst T (sym c.deref-8.ensures.value) c.in_ok-add_kinds.ensures.nfa);
      live = subst W (sym c.deref-9.ensures.value) (subst V (c.deref-7.ensures.value ∙ sym c.deref-8.ensures.value) c.in_ok-live.ensures);
    }

pub returns : goal.returns
returns c =
    let G = c.args.checked.now.grammar in
    let S = c.add_kinds.new.states.items in
    let A = c.add_kinds.new.alternatives.items in
    let B = c.in_ok-beginnings.beginnings.items in
    let are = begun S c.deref.result.now A c.deref-2.result.now B c.deref.ensures.value c.deref-2.ensures.value c.in_ok-beginnings.ensures in
    let listed : map alternative_of c.deref-4.result.now ≡ A = ap (λ l. map alternative_of l) c.deref-4.ensures.value ∙ are.alternatives in
    let lent : map alternative_of c.deref-6.result.now ≡ A = ap (λ l. map alternative_of l) c.deref-6.ensures.value ∙ are.alternatives in
    let Q : List State → Type 0 = λ x. AreListed x (map alternative_of c.deref-4.result.now) c.in_ok-by_first.by_first.items in
    let R : List Alternative → Type 0 = λ x. AreListed S x c.in_ok-by_first.by_first.items in
    let T : List State → Type 0 = λ x. IsNfaOf G x A in
    let U : List Alternative → Type 0 = λ x. IsNfaOf G c.deref-5.result.now x in
    let V : List State → Type 0 = λ x. IsTable x c.in_ok-table.table in
    let L : List State → Type 0 = λ x. AreLive x c.in_ok-live.live.items in
    let named : kinds_of G ≡ map kind_of c.kinds.result.now = sym c.is_checked.ensures.numbered ∙ sym c.kinds.ensures in
    record {
      of_grammar = c.in_ok-add_kinds.ensures;
      runnable =
          record {
            nfa = c.in_ok-add_kinds.ensures.nfa;
            live = subst L c.deref-7.ensures.value c.in_ok-live.ensures;
            listed = subst R listed (subst Q c.deref-3.ensures.value c.in_ok-by_first.ensures);
            table = subst V c.deref-8.ensures.value c.in_ok-table.ensures;
          };
      gaps = c.in_ok-gaps.ensures G named (subst U (sym lent) (subst T (sym c.deref-5.ensures.value) c.in_ok-add_kinds.ensures));
    }
