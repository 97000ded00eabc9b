use Rattle.std.proofs.Common.{◌≡◌, ◌<◌, ◌+◌, ◌++◌, ◌∷◌, [], ℕ, Bor, List, Vec, Global, Some, length, map, slice_get, sym, ap, subst, arith}
use Rattle.grammar_tree.specs.Derives.{Alts, bodies, resolved_alts}
use Rattle.grammar_tree.specs.View.{parser_alts}
use Rattle.grammar_tree.specs.Written.{WrittenTerm, written_alts}
use Rattle.grammar_tree.specs.declared.parser_term.ParserAlts.{ParserAlts}
use Rattle.std.proofs.lemmas.List.{length-map}
use Rattle.grammar_check_parser_rules.specs.Corners.{rule_corners}
use Rattle.grammar_check_nodes.specs.Flags.{flag}
use Rattle.grammar_check_parser_rules.proofs.CornerEdges.{successors_push}
use Rattle.grammar_check_parser_rules.proofs.EmptyRules.{body_at}
use Rattle.grammar_check_parser_rules.proofs.BodyForms.{body_within}
use Rattle.grammar_check_parser_rules.proofs.recursion.corner_edges.Goals as goal

abbrev view : Bor ParserAlts → List (List WrittenTerm)
view a = parser_alts a.now

abbrev items : Vec ℕ Global → List ℕ
items v = v.items

pub loop-number-preserved : goal.loop-number-preserved
loop-number-preserved c =
    let G = c.args.names.now in
    let n = c.loop-number.number in
    let edges = c.loop-number.edges in
    let body = body_at view G c.args.rules.now c.requires.bodies n c.index-rules-number.result c.loop-number-test.true c.index-rules-number.is in
    let pushed : c.push.new.self.items ≡ edges.items ++ c.in_ok-left_corners.field-0 ∷ [] = c.in_ok-push.ensures.items in
    let P : List (Vec ℕ Global) → Type 0 =
    λ l. (r : ℕ) (a : Alts) → r < n + 1 → slice_get (bodies G) r ≡ Some a → slice_get (map items l) r ≡ Some (rule_corners (flag c.args.flags.now) r a) in (
      omega (arith, c.in_ok-push.ensures.len, c.loop-number.invariant.0),
      subst P (sym pushed)
          (successors_push items (bodies G) (flag c.args.flags.now) edges.items c.in_ok-left_corners.field-0 n _
          (omega (arith, c.loop-number.invariant.0, edges.ok.0)) body c.in_ok-left_corners.ensures c.loop-number.invariant.1),
    )

pub returns : goal.returns
returns c =
    let G = c.args.names.now in
    let edges = c.loop-number.edges in
    record {
      there = λ r a at. c.loop-number.invariant.1 r a (omega (arith, body_within view G c.args.rules.now c.requires.bodies r a at)) at;
      only =
          omega (
            arith,
            length-map edges.items items,
            c.loop-number.invariant.0,
            edges.ok.0,
            ap length c.requires.bodies,
            length-map (map view c.args.rules.now) (λ b. resolved_alts G (written_alts b)),
            length-map c.args.rules.now view,
          );
    }
