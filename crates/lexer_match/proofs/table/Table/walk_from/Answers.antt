use Rattle.std.proofs.Common.{◌-◌, ap, sym, length, subst, arith, length-append}
use Rattle.std.specs.Prelude.{encode_utf8}
use Rattle.std.specs.Str.Iter.{chars_rest}
use Rattle.std.specs.Prelude.{MatchOption, ⊤}
use Rattle.std.specs.Str.{chars}
use Rattle.lexer_match.specs.declared.table.Step.{Step}
use Rattle.lexer_match.specs.declared.table.Walk.{Walk}
use Rattle.lexer_match.specs.Reading.{IsRead}
use Rattle.lexer_match.specs.Seen.{IsExtent}
use Rattle.lexer_match.specs.Table.{IsStep}
use Rattle.lexer_match.proofs.Walked.{walked_end, walked_more, walked_none, walked_over, walked_stuck}
use Rattle.lexer_match.proofs.table.Table.walk_from.Goals as goal

pub loop-rest-init : goal.loop-rest-init
loop-rest-init c = record {
  walked =
      λ P t s. walked_none P c.args.self.now.sets.items c.args.alternative c.args.text.now c.args.start
      (chars_rest c.chars-rest.result) c.utf8.text c.chars-rest.ensures.rest s;
  left = omega (arith, ap length c.chars-rest.ensures.rest);
}

pub returns-then-is_over : goal.returns-then-is_over
returns-then-is_over c P t s =
    let w = c.loop-rest.invariant.walked P t s in
    let Q : Walk → Type 0 = λ x. MatchOption x.extent ⊤ (IsExtent (IsRead P c.args.alternative) (chars c.args.text.now)) in
    subst Q (sym c.known.ensures)
    (walked_over P c.args.self.now.sets.items c.args.alternative c.args.text.now c.loop-rest.at
    (chars_rest c.loop-rest.rest) c.loop-rest.read c.loop-rest.longest c.last_match-longest.result w c.last_match-longest.ensures
    (length c.args.text.now - c.loop-rest.read) (omega (arith, c.loop-rest.invariant.left)) (c.is_over.ensures.yes c.if-is_over.true))

pub returns-in_default : goal.returns-in_default
returns-in_default c P t s =
    let w = c.loop-rest.invariant.walked P t s in
    let Q : Walk → Type 0 = λ x. MatchOption x.extent ⊤ (IsExtent (IsRead P c.args.alternative) (chars c.args.text.now)) in
    subst Q (sym c.known-in_default.ensures)
    (walked_end P c.args.self.now.sets.items c.args.alternative c.args.text.now c.loop-rest.at
    (chars_rest c.loop-rest.rest) c.loop-rest.read c.loop-rest.longest c.last_match-longest.result w c.last_match-longest.ensures
    (c.is_over.ensures.goes_on c.if-is_over.false) (c.is_over.ensures.no c.if-is_over.false) c.in_default.ensures.steps.0.0)

pub returns-in-Stuck : goal.returns-in-Stuck
returns-in-Stuck c P t s =
    let w = c.loop-rest.invariant.walked P t s in
    let Q : Step → Type 0 = λ x. IsStep P c.args.self.now.sets.items c.loop-rest.at.set c.in-Some.c x in
    let R : Walk → Type 0 = λ x. MatchOption x.extent ⊤ (IsExtent (IsRead P c.args.alternative) (chars c.args.text.now)) in
    let left = chars_rest c.next.new.self in
    subst R (sym c.known-in-Stuck.ensures)
    (walked_stuck P c.args.self.now.sets.items c.args.alternative c.args.text.now c.loop-rest.at
    (chars_rest c.loop-rest.rest) c.loop-rest.read c.loop-rest.longest c.last_match-longest.result w c.last_match-longest.ensures
    (c.is_over.ensures.goes_on c.if-is_over.false) (c.is_over.ensures.no c.if-is_over.false)
    c.in-Some.c left c.bytes_after-after.result (length c.args.text.now - c.bytes_after-after.result) c.in-Some.ensures.steps.0 c.bytes_after-after.ensures
    (omega (arith, c.loop-rest.invariant.left, ap length c.in-Some.ensures.steps.0, c.bytes_after-after.ensures, length-append (encode_utf8 c.in-Some.c) left))
    (subst Q c.in-Stuck.is (c.after.ensures P t)))

pub returns-in-Unknown : goal.returns-in-Unknown
returns-in-Unknown c P t s =
    let R : Walk → Type 0 = λ x. MatchOption x.extent ⊤ (IsExtent (IsRead P c.args.alternative) (chars c.args.text.now)) in
    subst R (sym c.unknown.ensures) tt

pub loop-rest-preserved : goal.loop-rest-preserved
loop-rest-preserved c =
    let left = chars_rest c.next.new.self in
    record {
      walked = λ P t s.
          let w = c.loop-rest.invariant.walked P t s in
          let Q : Step → Type 0 = λ x. IsStep P c.args.self.now.sets.items c.loop-rest.at.set c.in-Some.c x in
          walked_more P c.args.self.now.sets.items c.args.alternative c.args.text.now c.loop-rest.at
          (chars_rest c.loop-rest.rest) c.loop-rest.read c.loop-rest.longest c.last_match-longest.result w c.last_match-longest.ensures
          (c.is_over.ensures.goes_on c.if-is_over.false) (c.is_over.ensures.no c.if-is_over.false)
          c.in-Some.c left c.bytes_after-after.result c.in-To.next c.in-Some.ensures.steps.0 c.bytes_after-after.ensures
          (subst Q c.in-To.is (c.after.ensures P t));
      left =
          omega (
            arith,
            c.loop-rest.invariant.left,
            ap length c.in-Some.ensures.steps.0,
            c.bytes_after-after.ensures,
            length-append (encode_utf8 c.in-Some.c) left,
          );
    }

pub bytes_after-after-requires : goal.bytes_after-after-requires
bytes_after-after-requires c =
    omega (arith, c.loop-rest.invariant.left, ap length c.in-Some.ensures.steps.0, length-append (encode_utf8 c.in-Some.c) (chars_rest c.next.new.self))
