-- What the check of a grammar says of its terms.
use Rattle.std.proofs.Common.{◌≡◌, ◌⊎◌, inl, inr, ℕ, ◌+◌, ◌<◌, ◌≤◌, List, [], length, Option, Some, None, slice_get, refl, sym, ap, subst, arith}
use Rattle.std.specs.Prelude.{Bool, false, position}
use Rattle.std.specs.List.{flat_map}
use Rattle.std.specs.Option.{option_map_or}
use Rattle.std.proofs.lemmas.List.Quantifiers.{position-Some}
use Rattle.std.proofs.lemmas.List.Sums.{get_or-le-sum_by}
use Rattle.std.proofs.lemmas.Option.{get_or_from_slice_get, slice_get_within}
use Rattle.grammar_tree.specs.Written.{WrittenTerm, WrittenSeq, WrittenAlts, ParserRule, WrittenRule, WrittenGrammar, CheckedGrammar, Source, TokenKind}
use Rattle.grammar_tree.specs.Kinds.{is_implicit, is_named_by, is_written_at, kinds_of, literal_kind, name_kind, has_name, rule_number}
use Rattle.grammar_tree.specs.Derives.{Alts, DerivesAlts, bodies, resolved, resolved_seq, resolved_alts}
use Rattle.grammar_tree.specs.Corners.{HasEmptyLoopAlts, rests}
use Rattle.grammar_tree.specs.Faults.{number_at}
use Rattle.grammar_tree.specs.Size.{grammar_size, rule_size}
use Rattle.grammar_tree.specs.Size as written
use Rattle.grammar_tree.specs.Checked.{IsChecked}
use Rattle.grammar_tree.proofs.Lent.{numbers}
use Rattle.normal_form.specs.Form.{RuleForm}
use Rattle.normal_form.specs.Numbering.{group, groups}
use Rattle.normal_form.specs.NormalOf.{alts_sets, normal_of, numbering, own_rule}
use Rattle.normal_form.proofs.Closed.{bodies_closed}
use Rattle.normal_form.proofs.Languages.{sets_among}
use Rattle.normal_form.proofs.Named.{At_all, IsThere, group_at}
use Rattle.normal_form.proofs.Origins.{Origin, RuleAt, in_groups, origin}
use Rattle.normal_form.proofs.Parts.{HasKinds, HasKindsAlts, HasKindsSeq, Setting, alts_size, seq_size, size}
use Rattle.grammar_check_recursion.proofs.Lent.{kind_term, name_term}
use Rattle.normal_form.proofs.SetNumbers.{set_is_there}

abbrev pub setting : CheckedGrammar → Setting
setting c = record { bodies = bodies c.grammar; form = normal_of c; numbers = numbering (bodies c.grammar); kinds = length c.kinds }

abbrev any_kind : TokenKind
any_kind = record { name = []; gap = false; source = Source.implicit }

found_kind : (p : TokenKind → Bool) (kinds : List TokenKind) (k : ℕ) → position p kinds ≡ Some k → k < length kinds
found_kind p kinds k e = (position-Some p kinds k any_kind e).0

of_option : (kinds : List TokenKind) (f : ℕ → TokenKind → Bool) (p : TokenKind → Bool) (o : Option ℕ) (k : ℕ)
    → option_map_or (λ i. position (f i) kinds) o (position p kinds) ≡ Some k → k < length kinds
of_option kinds f p None k e = found_kind p kinds k e
of_option kinds f p (Some i) k e = found_kind (f i) kinds k e

kind_known : (n : ℕ) (o : Option ℕ) → ((k : ℕ) → o ≡ Some k → k < n) → HasKinds n (kind_term o)
kind_known n None h = tt
kind_known n (Some k) h = h k refl

name_known : (n : ℕ) (o token : Option ℕ) → ((k : ℕ) → token ≡ Some k → k < n) → HasKinds n (name_term o token)
name_known n (Some r) token h = tt
name_known n None token h = kind_known n token h

kind_size : (o : Option ℕ) → size (kind_term o) ≡ 1
kind_size None = refl
kind_size (Some k) = refl

name_size : (o token : Option ℕ) → size (name_term o token) ≡ 1
name_size (Some r) token = refl
name_size None token = kind_size token

module _ (G : WrittenGrammar) where
  mutual
    term_kinds : (t : WrittenTerm) → HasKinds (length (kinds_of G)) (resolved G t)
    term_kinds (WrittenTerm.literal t) =
        kind_known (length (kinds_of G)) (literal_kind G t) (λ k e. of_option (kinds_of G) is_written_at (is_implicit t) (position (is_named_by t) G.rules) k e)
    term_kinds (WrittenTerm.name n) = name_known (length (kinds_of G)) (rule_number G n) (name_kind G n) (λ k e. found_kind (has_name n) (kinds_of G) k e)
    term_kinds WrittenTerm.any = tt
    term_kinds (WrittenTerm.but refs) = tt
    term_kinds (WrittenTerm.block a) = alts_kinds a
    term_kinds (WrittenTerm.opt t) = term_kinds t
    term_kinds (WrittenTerm.star t) = term_kinds t
    term_kinds (WrittenTerm.plus t) = term_kinds t
    term_kinds WrittenTerm.eof = tt

    seq_kinds : (s : WrittenSeq) → HasKindsSeq (length (kinds_of G)) (resolved_seq G s)
    seq_kinds WrittenSeq.done = tt
    seq_kinds (WrittenSeq.next t s) = (term_kinds t, seq_kinds s)

    alts_kinds : (a : WrittenAlts) → HasKindsAlts (length (kinds_of G)) (resolved_alts G a)
    alts_kinds WrittenAlts.none = tt
    alts_kinds (WrittenAlts.or s a) = (seq_kinds s, alts_kinds a)

  -- no larger than it is written
  mutual
    term_fits : (t : WrittenTerm) → size (resolved G t) ≤ written.term_size t
    term_fits (WrittenTerm.literal t) = omega (arith, kind_size (literal_kind G t))
    term_fits (WrittenTerm.name n) = omega (arith, name_size (rule_number G n) (name_kind G n))
    term_fits WrittenTerm.any = omega arith
    term_fits (WrittenTerm.but refs) = omega arith
    term_fits (WrittenTerm.block a) = omega (arith, alts_fit a)
    term_fits (WrittenTerm.opt t) = omega (arith, term_fits t)
    term_fits (WrittenTerm.star t) = omega (arith, term_fits t)
    term_fits (WrittenTerm.plus t) = omega (arith, term_fits t)
    term_fits WrittenTerm.eof = omega arith

    seq_fits : (s : WrittenSeq) → seq_size (resolved_seq G s) ≤ written.seq_size s
    seq_fits WrittenSeq.done = omega arith
    seq_fits (WrittenSeq.next t s) = omega (arith, term_fits t, seq_fits s)

    alts_fit : (a : WrittenAlts) → alts_size (resolved_alts G a) ≤ written.alts_size a
    alts_fit WrittenAlts.none = omega arith
    alts_fit (WrittenAlts.or s a) = omega (arith, seq_fits s, alts_fit a)

  rule_fits : (i : ℕ) (rule : ParserRule) → slice_get G.rules i ≡ Some (WrittenRule.parser_rule rule) → alts_size (resolved_alts G rule.alts) < grammar_size G
  unfolding grammar_size
  rule_fits i rule at =
      let d = WrittenRule.parser_rule rule in
      let same = get_or_from_slice_get G.rules i d d at in
      let one = get_or-le-sum_by rule_size G.rules i d (slice_get_within G.rules i d at) in
      omega (arith, alts_fit rule.alts, one, ap rule_size same)

-- A parser rule of a checked grammar is in its normal form.
pub rule_at : (c : CheckedGrammar) → IsChecked c → (r : ℕ) (a : Alts) → slice_get (bodies c.grammar) r ≡ Some a
    → RuleAt (setting c) r a (own_rule (bodies c.grammar) r)
unfolding normal_of
rule_at c checked r a body =
    let G = bodies c.grammar in
    let N = normal_of c in
    let M = numbering G in
    let found = (numbers c.grammar).place r a body in
    let i = found.0 in
    let rule = found.2.0 in
    let at = found.2.1 in
    let same : resolved_alts c.grammar rule.alts ≡ a = found.2.2 in
    let no_loop =
    λ (h : HasEmptyLoopAlts G (resolved_alts c.grammar rule.alts) ⊎ DerivesAlts G (rests (number_at c.grammar i) (resolved_alts c.grammar rule.alts)) []).
    checked.well_formed.no_empty_loop i (inl (rule, at, h)) in
    let Loops : Alts → Type 0 = λ x. HasEmptyLoopAlts G x in
    let Rests : ℕ → Alts → Type 0 = λ q x. DerivesAlts G (rests q x) [] in
    let Rule : Alts → Type 0 = λ x. Rests (number_at c.grammar i) x in
    let Number : ℕ → Type 0 = λ q. Rests q a in
    let Kinds : ℕ → Alts → Type 0 = λ n x. HasKindsAlts n x in
    let Known : Alts → Type 0 = λ x. Kinds (length c.kinds) x in
    let Count : ℕ → Type 0 = λ n. Kinds n (resolved_alts c.grammar rule.alts) in
    record {
      body = body;
      is = refl;
      at = group_at N M 0 0 G r a (At_all N (groups M 0 0 G) refl) body (own_rule G r) r (omega arith) (omega arith);
      closed =
          bodies_closed c.grammar c.start (IsThere N M) checked.well_formed
          (λ b q h ks k. set_is_there (flat_map alts_sets G) ks (sets_among G q b h ks k)) r a body;
      no_loop = λ h. no_loop (inl (subst Loops (sym same) h));
      rests_move = λ h. no_loop (inr (subst Rule (sym same) (subst Number (sym found.1) h)));
      kinds = subst Known same (subst Count (ap length (sym checked.numbered)) (alts_kinds c.grammar rule.alts));
      small = omega (arith, rule_fits c.grammar i rule at, checked.small, ap alts_size same);
    }

-- what a rule of the normal form of a checked grammar is made of
pub record MadeRule (c : CheckedGrammar) (m : ℕ) (f : RuleForm) : Type 0 where
  pub rule : ℕ
  pub alts : Alts
  pub known : RuleAt (setting c) rule alts (own_rule (bodies c.grammar) rule)
  pub origin : Origin (setting c) rule alts (own_rule (bodies c.grammar) rule) m f

pub origin_of_rule : (c : CheckedGrammar) → IsChecked c → (m : ℕ) (f : RuleForm) → slice_get (normal_of c).rules m ≡ Some f → MadeRule c m f
unfolding normal_of
origin_of_rule c checked m f at =
    let G = bodies c.grammar in
    let it = in_groups (numbering G) G 0 0 m f at in
    let known = rule_at c checked it.rule it.alts it.body in
    let number : it.number ≡ own_rule G it.rule = omega (arith, it.number_is) in
    let rule : 0 + it.rule ≡ it.rule = omega arith in
    let P : ℕ → ℕ → Type 0 = λ n q. slice_get (group (numbering G) n q it.alts) it.k ≡ Some f in
    let Q : ℕ → Type 0 = λ n. P n it.rule in
    let R : ℕ → Type 0 = λ q. P it.number q in
    record {
      rule = it.rule;
      alts = it.alts;
      known = known;
      origin = origin (setting c) it.rule it.alts (own_rule G it.rule) known it.k m f (omega (arith, it.is, number)) (subst Q number (subst R rule it.at));
    }
