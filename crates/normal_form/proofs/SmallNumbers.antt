-- How many alternatives the rules of a normal form have, and how many symbols these; and how many sets and kinds there are.
use Rattle.std.proofs.Common.{◌≡◌, ℕ, suc, ◌+◌, ◌<◌, ◌≤◌, ◌^◌, List, [], ◌∷◌, length, Option, Some, None, slice_get, refl, sym, ap, subst, arith}
use Rattle.std.specs.List.{Contains}
use Rattle.grammar_tree.specs.Written.{CheckedGrammar}
use Rattle.grammar_tree.specs.Checked.{IsChecked}
use Rattle.grammar_tree.specs.Derives.{Term, Seq, Alts, bodies, kind, among, rule, block, opt, star, plus, eof, done, next, none, or}
use Rattle.grammar_tree.specs.Corners.{group_size, new_rules, rest_of, seq_new_rules}
use Rattle.normal_form.specs.declared.normal.Sym.{Sym}
use Rattle.normal_form.specs.declared.normal.Sym.TheVariants.{Rule}
use Rattle.normal_form.specs.Form.{RuleForm, NormalForm}
use Rattle.normal_form.specs.FormLaws.{NumbersAreSmall}
use Rattle.normal_form.specs.NormalOf.{IsNormal, normal_of, own_rule}
use Rattle.normal_form.specs.Numbering.{Numbering, and_symbol, symbol, seq_symbols, alts_symbols, base_symbols, rest_symbols, term_rules, with_base, with_rest}
use Rattle.grammar_tree.proofs.Lent.{counts_fit}
use Rattle.normal_form.proofs.Bounds.{few_sets}
use Rattle.normal_form.proofs.Lists.{Contains-only}
use Rattle.normal_form.proofs.Origins.{Origin, RuleAt, left_alts, plain_alts}
use Rattle.normal_form.proofs.Parts.{Setting, Known, KnownAlts, alts_size, of_block, seq_size, size}
use Rattle.normal_form.proofs.Positions.{AltAt, alt_of, base_of, rest_alt}
use Rattle.normal_form.proofs.Settings.{origin_of_rule, setting}

with_symbol : (t : Term) (x : Sym) (ss : List Sym) (n : ℕ) → length ss ≤ n → length (and_symbol t x ss) ≤ size t + n
with_symbol (kind k) x ss n h = omega (arith, h)
with_symbol (among ks) x ss n h = omega (arith, h)
with_symbol (rule r) x ss n h = omega (arith, h)
with_symbol (block a) x ss n h = omega (arith, h)
with_symbol (opt t) x ss n h = omega (arith, h)
with_symbol (star t) x ss n h = omega (arith, h)
with_symbol (plus t) x ss n h = omega (arith, h)
with_symbol eof x ss n h = omega (arith, h)

few_symbols : (M : Numbering) (n : ℕ) (s : Seq) → length (seq_symbols M n s) ≤ seq_size s
few_symbols M n done = omega arith
few_symbols M n (next t s) = with_symbol t (symbol M n t) (seq_symbols M (n + new_rules t) s) (seq_size s) (few_symbols M (n + new_rules t) s)

few_alts : (M : Numbering) (n : ℕ) (a : Alts) → length (alts_symbols M n a) ≤ alts_size a
few_alts M n none = omega arith
few_alts M n (or s a) = omega (arith, few_alts M (n + seq_new_rules s) a)

base_fits : (o : Option Seq) (ss : List Sym) (more : List (List Sym)) → length (with_base o ss more) ≤ suc (length more)
base_fits None ss more = omega arith
base_fits (Some rest) ss more = omega arith

few_bases : (M : Numbering) (r n : ℕ) (a : Alts) → length (base_symbols M r n a) ≤ alts_size a
few_bases M r n none = omega arith
few_bases M r n (or s a) =
    omega (arith, base_fits (rest_of r s) (seq_symbols M n s) (base_symbols M r (n + seq_new_rules s) a), few_bases M r (n + seq_new_rules s) a)

rest_fits : (o : Option Seq) (ss : List Sym) (more : List (List Sym)) → length (with_rest o ss more) ≤ suc (length more)
rest_fits None ss more = omega arith
rest_fits (Some rest) ss more = omega arith

few_rests : (M : Numbering) (r n : ℕ) (a : Alts) → length (rest_symbols M r n a) ≤ alts_size a
few_rests M r n none = omega arith
few_rests M r n (or s a) =
    omega (arith, rest_fits (rest_of r s) (seq_symbols M n s) (rest_symbols M r (n + seq_new_rules s) a), few_rests M r (n + seq_new_rules s) a)

-- a rule has few alternatives of few symbols
record IsFew (alts : List (List Sym)) : Type 0 where
  count : length alts < 2 ^ 32
  each : (alt : List Sym) → Contains alts alt → length alt < 2 ^ 32

alt_few : (S : Setting) (low high : ℕ) (a : Alts) (alt : List Sym) → AltAt S low high a alt → length alt < 2 ^ 32
alt_few S low high a alt it = omega (arith, ap length it.is, few_symbols S.numbers it.number it.seq, it.known.small)

two_few : (b m : ℕ) → IsFew ((Rule b ∷ Rule m ∷ []) ∷ [])
two_few b m = record { count = omega arith; each = λ alt c. omega (arith, ap length (Contains-only alt (Rule b ∷ Rule m ∷ []) c)) }

module _ (S : Setting) (low high : ℕ) where
  block_few : (n : ℕ) (a : Alts) → KnownAlts S low high n a → IsFew (alts_symbols S.numbers n a)
  block_few n a k = record { count = omega (arith, few_alts S.numbers n a, k.small); each = λ alt c. alt_few S low high a alt (alt_of S low high n a alt k c) }

  begun_few : (m : ℕ) (t : Term) (f : RuleForm) (more : List RuleForm) (alts : List (List Sym)) → Known S low high m t → term_rules S.numbers m t ≡ f ∷ more
      → f ≡ RuleForm.regular alts → IsFew alts
  begun_few m (block a) f more alts k e h =
      let same : alts_symbols S.numbers (m + 1) a ≡ alts = cc in
      let P : List (List Sym) → Type 0 = IsFew in subst P same (block_few (m + 1) a (of_block S low high m a k))
  begun_few m (kind k') f more alts k e h = absurd (cc)
  begun_few m (among ks) f more alts k e h = absurd (cc)
  begun_few m (rule r) f more alts k e h = absurd (cc)
  begun_few m (opt t) f more alts k e h = absurd (cc)
  begun_few m (star t) f more alts k e h = absurd (cc)
  begun_few m (plus t) f more alts k e h = absurd (cc)
  begun_few m eof f more alts k e h = absurd (cc)

same_few : (f : List (List Sym)) (alts : List (List Sym)) → RuleForm.regular f ≡ RuleForm.regular alts → IsFew f → IsFew alts
same_few f alts e h = let same : f ≡ alts = cc in let P : List (List Sym) → Type 0 = IsFew in subst P same h

of_origin : (S : Setting) (r : ℕ) (a : Alts) (n m : ℕ) (f : RuleForm) (alts : List (List Sym)) → RuleAt S r a n → Origin S r a n m f → f ≡ RuleForm.regular alts
    → IsFew alts
of_origin S r a n m f alts known (Origin.plain e) h = same_few _ alts h (block_few S (n + 1) (n + group_size r a) (n + 1) a (plain_alts S r a n known e))
of_origin S r a n m f alts known (Origin.left s b e) h = same_few _ alts h (two_few (n + 1) (n + 2))
of_origin S r a n m f alts known (Origin.base s b e) h =
    let high = n + group_size r a in
    same_few _ alts h
    (record {
      count = omega (arith, few_bases S.numbers r (n + 4) a, known.small);
      each = λ alt c. alt_few S (n + 1) high _ alt (base_of S (n + 1) high r (n + 4) a alt (left_alts S r a n known s b e) c);
    })
of_origin S r a n m f alts known (Origin.many s b e) h = absurd (cc)
of_origin S r a n m f alts known (Origin.rest s b e) h =
    let high = n + group_size r a in
    same_few _ alts h
    (record {
      count = omega (arith, few_rests S.numbers r (n + 4) a, known.small);
      each = λ alt c. alt_few S (n + 1) high _ alt (rest_alt S (n + 1) high r (n + 4) a alt (left_alts S r a n known s b e) c);
    })
of_origin S r a n m f alts known (Origin.part m' f' b) h = begun_few S (n + 1) (n + group_size r a) m b.term f b.more alts b.known b.rules h

few_at : (N : NormalForm) (normal : IsNormal N) (r : ℕ) (alts : List (List Sym)) → slice_get N.rules r ≡ Some (RuleForm.regular alts) → IsFew alts
few_at N normal r alts at =
    let c = normal.grammar in
    let P : NormalForm → Type 0 = λ M. slice_get M.rules r ≡ Some (RuleForm.regular alts) in
    let it = origin_of_rule c normal.checked r (RuleForm.regular alts) (subst P normal.is at) in
    of_origin (setting c) it.rule it.alts (own_rule (bodies c.grammar) it.rule) r (RuleForm.regular alts) alts it.known it.origin refl

few_sets_of : (c : CheckedGrammar) → IsChecked c → length (normal_of c).sets < 2 ^ 32
unfolding normal_of
few_sets_of c checked = omega (arith, few_sets c.grammar, checked.small)

few_kinds : (c : CheckedGrammar) → IsChecked c → length c.kinds < 2 ^ 32
few_kinds c checked = omega (arith, ap length checked.numbered, (counts_fit c.grammar).kinds, checked.small)

pub numbers_are_small : NumbersAreSmall
numbers_are_small N normal =
    record {
      alternatives = λ r alts at. (few_at N normal r alts at).count;
      symbols = λ r alts alt at. (few_at N normal r alts at).each alt;
      sets = let P : NormalForm → Type 0 = λ M. length M.sets < 2 ^ 32 in subst P (sym normal.is) (few_sets_of normal.grammar normal.checked);
      kinds = λ other. few_kinds other.grammar other.checked;
    }
