-- How many rules a parser rule makes.
use Rattle.std.proofs.Common.{◌≡◌, ℕ, ◌+◌, ◌≤◌, Bool, true, false, cond, List, Option, Some, None, refl, sym, arith, true≢false}
use Rattle.grammar_tree.specs.Written.{WrittenTerm, WrittenSeq, WrittenAlts, WrittenGrammar}
use Rattle.grammar_tree.specs.Kinds.{literal_kind, name_kind, rule_number}
use Rattle.grammar_tree.specs.Derives.{Alts, resolved, resolved_seq, resolved_alts}
use Rattle.grammar_tree.specs.Corners.{new_rules, seq_new_rules, alts_new_rules, group_size, rests}
use Rattle.grammar_tree.specs.Size.{term_size, seq_size, alts_size}
use Rattle.grammar_check_recursion.proofs.Resolving.{kind_term, name_term}
use Rattle.grammar_check_recursion.specs.Laws.{GroupsFit}
use Rattle.grammar_check_recursion.specs.Recursion.{has_alternative}

-- a literal and a name make no new rule
kind_makes_none : (o : Option ℕ) → new_rules (kind_term o) ≡ 0
kind_makes_none None = refl
kind_makes_none (Some k) = refl

name_term_makes_none : (o token : Option ℕ) → new_rules (name_term o token) ≡ 0
name_term_makes_none (Some r) token = refl
name_term_makes_none None token = kind_makes_none token

literal_makes_none : (G : WrittenGrammar) (t : List ℕ) → 0 ≡ new_rules (resolved G (WrittenTerm.literal t))
literal_makes_none G t = sym (kind_makes_none (literal_kind G t))

name_makes_none : (G : WrittenGrammar) (n : List ℕ) → 0 ≡ new_rules (resolved G (WrittenTerm.name n))
name_makes_none G n = sym (name_term_makes_none (rule_number G n) (name_kind G n))

-- Each new rule is of a term that counts.
module _ (G : WrittenGrammar) where
  mutual
    term_fits : (t : WrittenTerm) → new_rules (resolved G t) ≤ term_size t
    term_fits (WrittenTerm.literal t) = omega (arith, literal_makes_none G t)
    term_fits (WrittenTerm.name n) = omega (arith, name_makes_none G n)
    term_fits WrittenTerm.any = omega arith
    term_fits (WrittenTerm.but refs) = omega arith
    term_fits (WrittenTerm.block a) = omega (arith, alts_fit a)
    term_fits (WrittenTerm.opt t) = omega (arith, term_fits t)
    term_fits (WrittenTerm.star t) = omega (arith, term_fits t)
    term_fits (WrittenTerm.plus t) = omega (arith, term_fits t)
    term_fits WrittenTerm.eof = omega arith

    seq_fits : (s : WrittenSeq) → seq_new_rules (resolved_seq G s) ≤ seq_size s
    seq_fits WrittenSeq.done = omega arith
    seq_fits (WrittenSeq.next t s) = omega (arith, term_fits t, seq_fits s)

    alts_fit : (a : WrittenAlts) → alts_new_rules (resolved_alts G a) ≤ alts_size a
    alts_fit WrittenAlts.none = omega arith
    alts_fit (WrittenAlts.or s a) = omega (arith, seq_fits s, alts_fit a)

-- how many rules a parser rule with these rests makes of its own
abbrev pub head_count : Alts → ℕ
head_count Alts.none = 1
head_count (Alts.or s a) = 4

head_is : (a : Alts) (b : Bool) → b ≡ has_alternative a → head_count a ≡ cond b 4 1
head_is Alts.none false e = refl
head_is Alts.none true e = absurd (true≢false e)
head_is (Alts.or s a) true e = refl
head_is (Alts.or s a) false e = absurd (true≢false (sym e))

pub group_counted : (r : ℕ) (a : Alts) (b : Bool) → b ≡ has_alternative (rests r a) → group_size r a ≡ cond b 4 1 + alts_new_rules a
group_counted r a b e = omega (arith, head_is (rests r a) b e)

head_fits : (a : Alts) → head_count a ≤ 4
head_fits Alts.none = omega arith
head_fits (Alts.or s a) = omega arith

pub groups_fit : GroupsFit
groups_fit G r a = omega (arith, head_fits (rests r (resolved_alts G a)), alts_fit G a)
