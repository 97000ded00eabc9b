use Rattle.std.proofs.Common.{◌≡◌, ◌+◌, ◌-◌, ℕ, suc, map, take, drop, sym, ap, ◌∙◌, subst, arith}
use Rattle.grammar_tree.specs.GrammarView.{rule_of}
use Rattle.grammar_tree.specs.Kinds.{lexer_rules}
use Rattle.grammar_tree.specs.Matches.{MatchesAlts, MatchesSeq}
use Rattle.grammar_tree.specs.Size.{lexer_term_size}
use Rattle.grammar_tree.specs.View.{lex_term, lex_terms, lex_alts}
use Rattle.grammar_tree.specs.Written.{LexerTerm, lexer_seq, lexer_alts}
use Rattle.grammar_tree.specs.declared.lex_term.LexAlts.{out-LexAlts}
use Rattle.grammar_tree.proofs.Lent.{lex_term-Literal, lex_term-Set, lex_term-Name, lex_term-Short, lex_term-Block, lex_term-Opt, lex_term-Star, lex_term-Plus}
use Rattle.lexer_match.specs.declared.nfa.State.{State}
use Rattle.lexer_nfa.specs.inner.Compile.{IsAdded}
use Rattle.lexer_nfa.proofs.Compiled.{grown, pushed_is_closed, star_all, plus_all}
use Rattle.lexer_nfa.proofs.Terms.{block_no_loop, opt_no_loop, star_no_loop, plus_no_loop, term_no_loop, literal_term, as_term, block_term, opt_term, seq_none}
use Rattle.lexer_nfa.proofs.Terms.{seq_more, alts_none, alts_more, alts_item, alts_item_size, alts_all, terms_item, terms_item_size}
use Rattle.lexer_nfa.proofs.compile.+add.Goals as goal

pub add_alts-loop-i-init : goal.add_alts-loop-i-init
add_alts-loop-i-init t c =
    alts_none (lexer_rules (map rule_of c.args.names.now.rules.now)) c.args.states.now.items c.add.new.states.items c.in_ok-entry.entry c.args.next
    c.requires.closed c.requires.next c.in_ok-entry.ensures.added c.in_ok-entry.ensures.number

pub add_alts-add_terms-requires : goal.add_alts-add_terms-requires
add_alts-add_terms-requires t c = (
  omega (
    arith,
    alts_item_size (lexer_rules (map rule_of c.args.names.now.rules.now)) c.args.alts.now c.loop-i.i c.index.result.now
        (omega (arith, (out-LexAlts c.args.alts.now).items.ok.0)) c.index.ensures,
  ),
  (
    c.loop-i.invariant.closed,
    (
      omega (arith, c.loop-i.invariant.longer, c.requires.next),
      alts_item (lexer_rules (map rule_of c.args.names.now.rules.now)) c.args.alts.now c.loop-i.i c.index.result.now
          (omega (arith, (out-LexAlts c.args.alts.now).items.ok.0)) c.index.ensures c.requires.no_loop,
    ),
  ),
)

pub add_alts-loop-i-preserved : goal.add_alts-loop-i-preserved
add_alts-loop-i-preserved t c =
    let G = lexer_rules (map rule_of c.args.names.now.rules.now) in
    let items = (out-LexAlts c.args.alts.now).items.items in
    let P : ℕ → Type 0 =
    λ n. IsAdded (map rule_of c.args.names.now.rules.now)
    (MatchesAlts G (lexer_alts (map lex_terms (take n items)))) c.args.states.now.items c.add-in-loop-i.new.states.items c.in_ok-entry-2.entry c.args.next in
    let more : suc c.loop-i.i ≡ c.loop-i.i + 1 = omega arith in
    subst P more
    (alts_more G items c.loop-i.i c.index.result.now c.args.states.now.items c.loop-i.states.items c.add_terms.new.states.items c.add-in-loop-i.new.states.items
    c.in_ok-first.first c.loop-i.entry c.in_ok-entry-2.entry c.args.next
    (omega (arith, (out-LexAlts c.args.alts.now).items.ok.0)) (sym c.index.ensures)
    (omega (arith, c.requires.next)) c.loop-i.invariant c.in_ok-first.ensures c.in_ok-entry-2.ensures.added c.in_ok-entry-2.ensures.number)

pub add_alts-returns : goal.add_alts-returns
add_alts-returns t c =
    alts_all (lexer_rules (map rule_of c.args.names.now.rules.now)) c.args.alts.now c.loop-i.i c.args.states.now.items c.loop-i.states.items c.loop-i.entry
    c.args.next (omega (arith, (out-LexAlts c.args.alts.now).items.ok.0)) c.loop-i.invariant

pub add_term-add_term-requires-in-Star : goal.add_term-add_term-requires-in-Star
add_term-add_term-requires-in-Star t c =
    let G = lexer_rules (map rule_of c.args.names.now.rules.now) in
    let u = lex_term c.in-Star.term.value in
    let old = c.args.states.now.items in
    let pushed = c.add-in-Star.new.states.items in
    let none = star_no_loop G (lex_term c.args.term.now) u (ap lex_term c.in-Star.is ∙ lex_term-Star c.in-Star.term) c.requires.no_loop in
    let made = c.in_ok-again-in-Star.ensures in (
      omega (
        arith,
        ap lexer_term_size (ap lex_term c.in-Star.is ∙ lex_term-Star c.in-Star.term),
        ap (λ x. lexer_term_size (lex_term x)) c.deref-in-Star.ensures,
      ),
      (
        pushed_is_closed old pushed State.Never c.requires.closed tt made.added,
        (
          omega (arith, grown old pushed State.Never made.added, made.number),
          term_no_loop G u (lex_term c.deref-in-Star.result.now) (ap lex_term (sym c.deref-in-Star.ensures)) none.1,
        ),
      ),
    )

pub add_term-add_term-requires-in-Plus : goal.add_term-add_term-requires-in-Plus
add_term-add_term-requires-in-Plus t c =
    let G = lexer_rules (map rule_of c.args.names.now.rules.now) in
    let u = lex_term c.in-Plus.term.value in
    let old = c.args.states.now.items in
    let pushed = c.add-in-Plus.new.states.items in
    let none = plus_no_loop G (lex_term c.args.term.now) u (ap lex_term c.in-Plus.is ∙ lex_term-Plus c.in-Plus.term) c.requires.no_loop in
    let made = c.in_ok-again-in-Plus.ensures in (
      omega (
        arith,
        ap lexer_term_size (ap lex_term c.in-Plus.is ∙ lex_term-Plus c.in-Plus.term),
        ap (λ x. lexer_term_size (lex_term x)) c.deref-in-Plus.ensures,
      ),
      (
        pushed_is_closed old pushed State.Never c.requires.closed tt made.added,
        (
          omega (arith, grown old pushed State.Never made.added, made.number),
          term_no_loop G u (lex_term c.deref-in-Plus.result.now) (ap lex_term (sym c.deref-in-Plus.ensures)) none.1,
        ),
      ),
    )

pub add_term-returns-in_ok-entry-in-Literal : goal.add_term-returns-in_ok-entry-in-Literal
add_term-returns-in_ok-entry-in-Literal t c =
    literal_term (lexer_rules (map rule_of c.args.names.now.rules.now))
    (lex_term c.args.term.now) c.in-Literal.text _ c.args.states.now.items c.add_literal.new.states.items c.in_ok-entry-in-Literal.entry c.args.next
    (ap lex_term c.in-Literal.is ∙ lex_term-Literal c.in-Literal.text) c.as_str.ensures
    (c.in_ok-entry-in-Literal.ensures (map rule_of c.args.names.now.rules.now))

pub add_term-returns-in_ok-entry-in-Set : goal.add_term-returns-in_ok-entry-in-Set
add_term-returns-in_ok-entry-in-Set t c =
    let G = lexer_rules (map rule_of c.args.names.now.rules.now) in
    as_term G (lex_term c.args.term.now) (LexerTerm.set c.in-Set.set) c.args.states.now.items c.add_set.new.states.items c.in_ok-entry-in-Set.entry c.args.next
    (ap lex_term c.in-Set.is ∙ lex_term-Set c.in-Set.set) (c.in_ok-entry-in-Set.ensures (map rule_of c.args.names.now.rules.now))

pub add_term-returns-in_ok-entry-in-Block : goal.add_term-returns-in_ok-entry-in-Block
add_term-returns-in_ok-entry-in-Block t c =
    block_term (lexer_rules (map rule_of c.args.names.now.rules.now)) (lex_term c.args.term.now)
    (lexer_alts (lex_alts c.in-Block.alts)) c.args.states.now.items c.add_alts.new.states.items c.in_ok-entry-in-Block.entry c.args.next
    (ap lex_term c.in-Block.is ∙ lex_term-Block c.in-Block.alts) c.in_ok-entry-in-Block.ensures

pub add_term-returns-in_ok-entry-in-Opt : goal.add_term-returns-in_ok-entry-in-Opt
add_term-returns-in_ok-entry-in-Opt t c =
    opt_term (lexer_rules (map rule_of c.args.names.now.rules.now)) (lex_term c.args.term.now) (lex_term c.in-Opt.term.value)
    (lex_term c.deref.result.now) c.args.states.now.items c.add_term.new.states.items c.add.new.states.items c.in_ok-present-in-Opt.present
    c.in_ok-entry-in-Opt.entry c.args.next
    (ap lex_term c.in-Opt.is ∙ lex_term-Opt c.in-Opt.term)
    (ap lex_term c.deref.ensures) c.requires.closed c.requires.next c.in_ok-present-in-Opt.ensures c.in_ok-entry-in-Opt.ensures.added
    c.in_ok-entry-in-Opt.ensures.number

pub add_term-returns-in_ok-body-in-Star : goal.add_term-returns-in_ok-body-in-Star
add_term-returns-in_ok-body-in-Star t c =
    let G = lexer_rules (map rule_of c.args.names.now.rules.now) in
    let u = lex_term c.in-Star.term.value in
    let same = ap lex_term c.in-Star.is ∙ lex_term-Star c.in-Star.term in
    let made = c.in_ok-again-in-Star.ensures in
    let body =
    as_term G u (lex_term c.deref-in-Star.result.now) c.add-in-Star.new.states.items c.add_term-in-Star.new.states.items c.in_ok-body-in-Star.body
    c.in_ok-again-in-Star.again (ap lex_term (sym c.deref-in-Star.ensures)) c.in_ok-body-in-Star.ensures in
    as_term G (lex_term c.args.term.now) (LexerTerm.star u) c.args.states.now.items c.close_loop-entry.new.states.items c.close_loop-entry.result c.args.next
    same
    (star_all G u (star_no_loop G (lex_term c.args.term.now) u same c.requires.no_loop).0 c.args.states.now.items c.add-in-Star.new.states.items
    c.add_term-in-Star.new.states.items c.close_loop-entry.new.states.items c.in_ok-again-in-Star.again c.close_loop-entry.result c.in_ok-body-in-Star.body
    c.args.next c.requires.next made.added made.number body c.close_loop-entry.ensures.closed c.close_loop-entry.ensures.again)

pub add_term-returns-in_ok-body-in-Plus : goal.add_term-returns-in_ok-body-in-Plus
add_term-returns-in_ok-body-in-Plus t c =
    let G = lexer_rules (map rule_of c.args.names.now.rules.now) in
    let u = lex_term c.in-Plus.term.value in
    let same = ap lex_term c.in-Plus.is ∙ lex_term-Plus c.in-Plus.term in
    let made = c.in_ok-again-in-Plus.ensures in
    let body =
    as_term G u (lex_term c.deref-in-Plus.result.now) c.add-in-Plus.new.states.items c.add_term-in-Plus.new.states.items c.in_ok-body-in-Plus.body
    c.in_ok-again-in-Plus.again (ap lex_term (sym c.deref-in-Plus.ensures)) c.in_ok-body-in-Plus.ensures in
    as_term G (lex_term c.args.term.now) (LexerTerm.plus u) c.args.states.now.items c.close_loop.new.states.items c.in_ok-body-in-Plus.body c.args.next same
    (plus_all G u (plus_no_loop G (lex_term c.args.term.now) u same c.requires.no_loop).0 c.args.states.now.items c.add-in-Plus.new.states.items
    c.add_term-in-Plus.new.states.items c.close_loop.new.states.items c.in_ok-again-in-Plus.again c.in_ok-body-in-Plus.body c.args.next c.requires.next
    made.added made.number body c.close_loop.ensures.closed)

pub add_term-returns-in_ok-entry-in-Short : goal.add_term-returns-in_ok-entry-in-Short
add_term-returns-in_ok-entry-in-Short t c =
    let G = lexer_rules (map rule_of c.args.names.now.rules.now) in
    as_term G (lex_term c.args.term.now) (LexerTerm.short c.in-Short.set) c.args.states.now.items c.add_short.new.states.items c.in_ok-entry-in-Short.entry
    c.args.next (ap lex_term c.in-Short.is ∙ lex_term-Short c.in-Short.set) (c.in_ok-entry-in-Short.ensures (map rule_of c.args.names.now.rules.now))

pub add_terms-loop-i-init : goal.add_terms-loop-i-init
add_terms-loop-i-init t c =
    record {
      within = omega (arith, c.len-i.ensures, c.args.terms.now.items.ok.0);
      added =
          seq_none (lexer_rules (map rule_of c.args.names.now.rules.now)) c.args.terms.now.items.items c.len-i.result c.args.states.now.items c.args.next
          (omega (arith, c.len-i.ensures, c.args.terms.now.items.ok.0)) c.requires.closed c.requires.next;
    }

pub add_terms-add_term-requires : goal.add_terms-add_term-requires
add_terms-add_term-requires t c = (
  omega (
    arith,
    terms_item_size (lexer_rules (map rule_of c.args.names.now.rules.now)) c.args.terms.now (c.loop-i.i - 1) c.index.result.now
        (omega (arith, c.loop-i.invariant.within)) c.index.ensures,
  ),
  (
    c.loop-i.invariant.added.closed,
    (
      c.loop-i.invariant.added.inside,
      terms_item (lexer_rules (map rule_of c.args.names.now.rules.now)) c.args.terms.now (c.loop-i.i - 1) c.index.result.now
          (omega (arith, c.loop-i.invariant.within)) c.index.ensures c.requires.no_loop,
    ),
  ),
)

pub add_terms-loop-i-preserved : goal.add_terms-loop-i-preserved
add_terms-loop-i-preserved t c =
    let G = lexer_rules (map rule_of c.args.names.now.rules.now) in
    let items = c.args.terms.now.items.items in
    let P : ℕ → Type 0 =
    λ n. IsAdded (map rule_of c.args.names.now.rules.now)
    (MatchesSeq G (lexer_seq (map lex_term (drop n items)))) c.args.states.now.items c.loop-i.states.items c.loop-i.entry c.args.next in
    let less : c.loop-i.i ≡ suc (c.loop-i.i - 1) = omega arith in
    record {
      within = omega (arith, c.loop-i.invariant.within);
      added =
          seq_more G items (c.loop-i.i - 1) c.index.result.now c.args.states.now.items c.loop-i.states.items c.add_term.new.states.items c.in_ok-entry.entry
          c.loop-i.entry c.args.next
          (omega (arith, c.loop-i.invariant.within)) (sym c.index.ensures) (subst P less c.loop-i.invariant.added) c.in_ok-entry.ensures;
    }

pub add_term-add_alts-requires : goal.add_term-add_alts-requires
add_term-add_alts-requires t c =
    let G = lexer_rules (map rule_of c.args.names.now.rules.now) in
    let own = lex_term c.args.term.now in (
      omega (arith, ap lexer_term_size (ap lex_term c.in-Block.is ∙ lex_term-Block c.in-Block.alts)),
      (
        c.requires.closed,
        (
          c.requires.next,
          block_no_loop G own (lexer_alts (lex_alts c.in-Block.alts))
              (ap lex_term c.in-Block.is ∙ lex_term-Block c.in-Block.alts) c.requires.no_loop,
        ),
      ),
    )

pub add_term-add_term-requires : goal.add_term-add_term-requires
add_term-add_term-requires t c =
    let G = lexer_rules (map rule_of c.args.names.now.rules.now) in
    let own = lex_term c.args.term.now in
    let u = lex_term c.in-Opt.term.value in
    let none = opt_no_loop G own u (ap lex_term c.in-Opt.is ∙ lex_term-Opt c.in-Opt.term) c.requires.no_loop in (
      omega (arith, ap lexer_term_size (ap lex_term c.in-Opt.is ∙ lex_term-Opt c.in-Opt.term), ap (λ x. lexer_term_size (lex_term x)) c.deref.ensures),
      (c.requires.closed, (c.requires.next, term_no_loop G u (lex_term c.deref.result.now) (ap lex_term (sym c.deref.ensures)) none)),
    )

pub add_term-returns-in_ok-entry-in-Name : goal.add_term-returns-in_ok-entry-in-Name
add_term-returns-in_ok-entry-in-Name t c =
    let G = lexer_rules (map rule_of c.args.names.now.rules.now) in
    as_term G (lex_term c.args.term.now) (LexerTerm.name c.in-Name.name) c.args.states.now.items c.add_call.new.states.items c.in_ok-entry-in-Name.entry
    c.args.next (ap lex_term c.in-Name.is ∙ lex_term-Name c.in-Name.name) c.in_ok-entry-in-Name.ensures
