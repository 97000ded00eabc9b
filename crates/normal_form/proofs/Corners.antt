-- A left corner of a rule of the normal form: a new rule of the same parser rule, with a
-- greater number; or the own rule of a parser rule that can be first there.
use Rattle.std.proofs.Common.{◌≡◌, ℕ, ◌+◌, ◌<◌, ◌≤◌, List, [], ◌∷◌, ◌++◌, length, Some, slice_get, refl, sym, ap, subst, arith}
use Rattle.grammar_tree.specs.Derives.{Term, Seq, Alts, DerivesAlts, kind, among, rule, block, opt, star, plus, eof, none, or}
use Rattle.grammar_tree.specs.Corners.{Begins, BeginsAlts, bases, group_size, rests}
use Rattle.normal_form.specs.declared.normal.Sym.{Sym}
use Rattle.normal_form.specs.declared.normal.Sym.TheVariants.{Rule}
use Rattle.normal_form.specs.Form.{RuleForm}
use Rattle.normal_form.specs.FormLaws.{CanBeFirst, IsNormalCorner}
use Rattle.normal_form.specs.NormalDerives.{NormalDerives, NormalDerivesSeq}
use Rattle.normal_form.specs.Numbering.{symbol, alts_symbols, base_symbols, rest_symbols, term_rules}
use Rattle.normal_form.proofs.Counted.{group_positive}
use Rattle.normal_form.proofs.Elements.{base_derives}
use Rattle.normal_form.proofs.Forward.{all_inverse, bases_plain}
use Rattle.normal_form.proofs.Lists.{Contains-only}
use Rattle.normal_form.proofs.Named.{rules_length}
use Rattle.normal_form.proofs.Origins.{Origin, RuleAt, left_alts, plain_alts, rules_of, size_is}
use Rattle.normal_form.proofs.Parts.{Setting, Known, KnownAlts, of_block, of_opt, of_plus, of_star}
use Rattle.normal_form.proofs.Positions.{AltAt, alt_of, base_of, both_nil, nil_has_none, part_of, rest_alt}
use Rattle.normal_form.proofs.Represents.{HasEachRule}

-- What is known of a term is known from its own number on.
known_from : (S : Setting) (low high n : ℕ) (t : Term) → Known S low high n t → Known S n high n t
known_from S low high n t k =
    record { at = k.at; closed = k.closed; no_loop = k.no_loop; kinds = k.kinds; small = k.small; above = omega arith; below = k.below }

known_alts_from : (S : Setting) (low high n : ℕ) (a : Alts) → KnownAlts S low high n a → KnownAlts S n high n a
known_alts_from S low high n a k =
    record { at = k.at; closed = k.closed; no_loop = k.no_loop; kinds = k.kinds; small = k.small; above = omega arith; below = k.below }

-- The rule with the number m is one of the rules of the parser rule r, whose own has the number n. All that can be first in it is among B.
pub data State (S : Setting) (r : ℕ) (a : Alts) (n : ℕ) (B : ℕ → Type 0) : ℕ → Type 0 where
  own : ((q : ℕ) → BeginsAlts S.bodies q (bases r a) → B q) → (DerivesAlts S.bodies (bases r a) [] → (q : ℕ) → BeginsAlts S.bodies q (rests r a) → B q)
      → State S r a n B n
  base : (s : Seq) (b : Alts) → rests r a ≡ or s b → ((q : ℕ) → BeginsAlts S.bodies q (bases r a) → B q) → State S r a n B (n + 1)
  many : (s : Seq) (b : Alts) → rests r a ≡ or s b → ((q : ℕ) → BeginsAlts S.bodies q (rests r a) → B q) → State S r a n B (n + 2)
  rest : (s : Seq) (b : Alts) → rests r a ≡ or s b → ((q : ℕ) → BeginsAlts S.bodies q (rests r a) → B q) → State S r a n B (n + 3)
  part : (m : ℕ) (t : Term) (f : RuleForm) (more : List RuleForm) → n < m → Known S m (n + group_size r a) m t → term_rules S.numbers m t ≡ f ∷ more
      → ((q : ℕ) → Begins S.bodies q t → B q) → State S r a n B m

-- A left corner of the rule m: a rule of the same group with a greater number, or the own rule of a parser rule among B.
pub data Next (S : Setting) (r : ℕ) (a : Alts) (n : ℕ) (B : ℕ → Type 0) (m b : ℕ) : Type 0 where
  within : m < b → State S r a n B b → Next S r a n B m b
  leaves : (q : ℕ) (body : Alts) → slice_get S.bodies q ≡ Some body → S.numbers.own_rule q ≡ b → B q → Next S r a n B m b

module _ (S : Setting) (has_each : HasEachRule S.bodies S.form S.numbers.own_rule) (r : ℕ) (a : Alts) (n : ℕ) (B : ℕ → Type 0) where
  abbrev high : ℕ
  high = n + group_size r a

  move : (m b c : ℕ) → b ≡ c → m < b → State S r a n B b → Next S r a n B m c
  move m b c e less s = let P : ℕ → Type 0 = λ k. Next S r a n B m k in subst P e (Next.within less s)

  -- a block or suffix as the left corner
  new_rule : (low k : ℕ) (t : Term) (f : RuleForm) (more : List RuleForm) (m b : ℕ) → Known S low high k t → term_rules S.numbers k t ≡ f ∷ more
      → Rule k ≡ Rule b → n < k → m < k → ((q : ℕ) → Begins S.bodies q t → B q) → Next S r a n B m b
  new_rule low k t f more m b known e same above less first = let at : k ≡ b =
      cc in move m k b at less (State.part k t f more above (known_from S low high k t known) e first)

  -- the symbol of a term as the left corner
  of_symbol : (low k : ℕ) (t : Term) (m b : ℕ) → Known S low high k t → symbol S.numbers k t ≡ Rule b → n < k → m < k → ((q : ℕ) → Begins S.bodies q t → B q)
      → Next S r a n B m b
  of_symbol low k (kind _) m b known e above less first = absurd (cc)
  of_symbol low k (among _) m b known e above less first = absurd (cc)
  of_symbol low k (rule q) m b known e above less first = let at : S.numbers.own_rule q ≡ b =
      cc in Next.leaves q known.closed.0 known.closed.1 at (first q refl)
  of_symbol low k (block x) m b known e above less first = new_rule low k (block x) _ _ m b known refl e above less first
  of_symbol low k (opt t) m b known e above less first = new_rule low k (opt t) _ _ m b known refl e above less first
  of_symbol low k (star t) m b known e above less first = new_rule low k (star t) _ _ m b known refl e above less first
  of_symbol low k (plus t) m b known e above less first = new_rule low k (plus t) _ _ m b known refl e above less first
  of_symbol low k eof m b known e above less first = absurd known.closed

  -- a symbol of an alternative, after symbols that can be empty
  of_alt : (low : ℕ) (target : Alts) (m b : ℕ) (before after : List Sym) → n < low → m < low → AltAt S low high target (before ++ Rule b ∷ after)
      → NormalDerivesSeq S.form before [] → ((q : ℕ) → BeginsAlts S.bodies q target → B q) → Next S r a n B m b
  of_alt low target m b before after above less it empty first =
      let found = part_of S has_each low high it.number it.seq (Rule b) before after it.known (sym it.is) in
      let from : low ≤ found.number = found.known.above in
      of_symbol low found.number found.term m b found.known (sym found.is) (omega (arith, above, from)) (omega (arith, less, from))
      (λ q h. first q (it.begins q (found.begins empty q h)))

  -- what is first in the form that is there
  form_first : (m b : ℕ) (f : RuleForm) → slice_get S.form.rules m ≡ Some f → IsNormalCorner S.form m b → CanBeFirst S.form b f
  form_first m b f at (g, at', h) = let same : g ≡ f = cc in let P : RuleForm → Type 0 = λ x. CanBeFirst S.form b x in subst P same h

  of_part : (m : ℕ) (t : Term) (f : RuleForm) (more : List RuleForm) (b : ℕ) → n < m → Known S m high m t → term_rules S.numbers m t ≡ f ∷ more
      → ((q : ℕ) → Begins S.bodies q t → B q) → IsNormalCorner S.form m b → Next S r a n B m b
  of_part m (kind _) f more b above known e first c = absurd (cc)
  of_part m (among _) f more b above known e first c = absurd (cc)
  of_part m (rule _) f more b above known e first c = absurd (cc)
  of_part m eof f more b above known e first c = absurd (cc)
  of_part m (block x) f more b above known e first c =
      let it = form_first m b (RuleForm.regular (alts_symbols S.numbers (m + 1) x)) known.at.0 c in
      let alts = known_alts_from S m high (m + 1) x (of_block S m high m x known) in
      of_alt (m + 1) x m b it.0 it.1 (omega (arith, above)) (omega arith) (alt_of S (m + 1) high (m + 1) x (it.0 ++ Rule b ∷ it.1) alts it.2) it.3 first
  of_part m (opt t) f more b above known e first c =
      of_symbol m (m + 1) t m b (of_opt S m high m t known) (form_first m b (RuleForm.opt (symbol S.numbers (m + 1) t)) known.at.0 c) (omega (arith, above))
      (omega arith) first
  of_part m (star t) f more b above known e first c =
      of_symbol m (m + 1) t m b (of_star S m high m t known) (form_first m b (RuleForm.star (symbol S.numbers (m + 1) t)) known.at.0 c) (omega (arith, above))
      (omega arith) first
  of_part m (plus t) f more b above known e first c =
      of_symbol m (m + 1) t m b (of_plus S m high m t known) (form_first m b (RuleForm.plus (symbol S.numbers (m + 1) t)) known.at.0 c) (omega (arith, above))
      (omega arith) first

  module _ (known : RuleAt S r a n) where
    -- a rule with rests: its bases, or its rests where a base can be empty
    of_two : (b : ℕ) (before after : List Sym) (s : Seq) (c : Alts) → rests r a ≡ or s c → Rule (n + 1) ∷ Rule (n + 2) ∷ [] ≡ before ++ Rule b ∷ after
        → NormalDerivesSeq S.form before [] → ((q : ℕ) → BeginsAlts S.bodies q (bases r a) → B q)
        → (DerivesAlts S.bodies (bases r a) [] → (q : ℕ) → BeginsAlts S.bodies q (rests r a) → B q) → Next S r a n B n b
    of_two b [] after s c e is empty first second = let at : n + 1 ≡ b = cc in move n (n + 1) b at (omega arith) (State.base s c e first)
    of_two b (x ∷ []) after s c e is empty first second =
        let at : n + 2 ≡ b = cc in
        let one : x ≡ Rule (n + 1) = cc in
        let cut = all_inverse x [] empty refl in
        let nothing = both_nil cut.0 cut.1 (sym cut.2) in
        let P : Sym → Type 0 = λ y. NormalDerives S.form y cut.0 in
        let Q : List ℕ → Type 0 = λ w. NormalDerives S.form (Rule (n + 1)) w in
        move n (n + 2) b at (omega arith) (State.many s c e (second (base_derives S has_each r a n s c [] known e (subst Q nothing.0 (subst P one cut.3)))))
    of_two b (x ∷ y ∷ before) after s c e is empty first second = let end : [] ≡ before ++ Rule b ∷ after =
        cc in absurd (nil_has_none before (Rule b) after end)

    of_own : (b : ℕ) (x : Alts) → rests r a ≡ x → ((q : ℕ) → BeginsAlts S.bodies q (bases r a) → B q)
        → (DerivesAlts S.bodies (bases r a) [] → (q : ℕ) → BeginsAlts S.bodies q (rests r a) → B q) → IsNormalCorner S.form n b → Next S r a n B n b
    of_own b none e first second c =
        let it = form_first n b (RuleForm.regular (alts_symbols S.numbers (n + 1) a)) (rules_of S r a n known none e).0 c in
        let alt = alt_of S (n + 1) high (n + 1) a (it.0 ++ Rule b ∷ it.1) (plain_alts S r a n known e) it.2 in
        let P : Alts → Type 0 = λ y. (q : ℕ) → BeginsAlts S.bodies q y → B q in
        of_alt (n + 1) a n b it.0 it.1 (omega arith) (omega arith) alt it.3 (subst P (bases_plain r a e) first)
    of_own b (or s y) e first second c =
        let two = Rule (n + 1) ∷ Rule (n + 2) ∷ [] in
        let it = form_first n b (RuleForm.regular (two ∷ [])) (rules_of S r a n known (or s y) e).0 c in
        of_two b it.0 it.1 s y e (sym (Contains-only (it.0 ++ Rule b ∷ it.1) two it.2)) it.3 first second

    of_base : (b : ℕ) (s : Seq) (y : Alts) → rests r a ≡ or s y → ((q : ℕ) → BeginsAlts S.bodies q (bases r a) → B q) → IsNormalCorner S.form (n + 1) b
        → Next S r a n B (n + 1) b
    of_base b s y e first c =
        let it = form_first (n + 1) b (RuleForm.regular (base_symbols S.numbers r (n + 4) a)) (rules_of S r a n known (or s y) e).1.0 c in
        let alts = known_alts_from S (n + 1) high (n + 4) a (left_alts S r a n known s y e) in
        of_alt (n + 4) (bases r a) (n + 1) b it.0 it.1 (omega arith) (omega arith)
        (base_of S (n + 4) high r (n + 4) a (it.0 ++ Rule b ∷ it.1) alts it.2) it.3 first

    of_many : (b : ℕ) (s : Seq) (y : Alts) → rests r a ≡ or s y → ((q : ℕ) → BeginsAlts S.bodies q (rests r a) → B q) → IsNormalCorner S.form (n + 2) b
        → Next S r a n B (n + 2) b
    of_many b s y e first c =
        let f = RuleForm.star (Rule (n + 3)) in
        let P : ℕ → Type 0 = λ k. slice_get S.form.rules k ≡ Some f in
        let second : n + 1 + 1 ≡ n + 2 = omega arith in
        let it = form_first (n + 2) b f (subst P second (rules_of S r a n known (or s y) e).1.1.0) c in
        let at : n + 3 ≡ b = cc in
        move (n + 2) (n + 3) b at (omega arith) (State.rest s y e first)

    of_rest : (b : ℕ) (s : Seq) (y : Alts) → rests r a ≡ or s y → ((q : ℕ) → BeginsAlts S.bodies q (rests r a) → B q) → IsNormalCorner S.form (n + 3) b
        → Next S r a n B (n + 3) b
    of_rest b s y e first c =
        let f = RuleForm.regular (rest_symbols S.numbers r (n + 4) a) in
        let P : ℕ → Type 0 = λ k. slice_get S.form.rules k ≡ Some f in
        let third : n + 1 + 1 + 1 ≡ n + 3 = omega arith in
        let it = form_first (n + 3) b f (subst P third (rules_of S r a n known (or s y) e).1.1.1.0) c in
        let alts = known_alts_from S (n + 1) high (n + 4) a (left_alts S r a n known s y e) in
        of_alt (n + 4) (rests r a) (n + 3) b it.0 it.1 (omega arith) (omega arith)
        (rest_alt S (n + 4) high r (n + 4) a (it.0 ++ Rule b ∷ it.1) alts it.2) it.3 first

    pub step : (m b : ℕ) → State S r a n B m → IsNormalCorner S.form m b → Next S r a n B m b
    step m b (State.own first second) c = of_own b (rests r a) refl first second c
    step m b (State.base s y e first) c = of_base b s y e first c
    step m b (State.many s y e first) c = of_many b s y e first c
    step m b (State.rest s y e first) c = of_rest b s y e first c
    step m b (State.part m' t f more above part_known e first) c = of_part m t f more b above part_known e first c

    -- the rules of a parser rule
    pub in_group : (m : ℕ) → State S r a n B m → (n ≤ m) × (m < high)
    in_group m (State.own first second) = (omega arith, omega (arith, group_positive r a))
    in_group m (State.base s y e first) = (omega arith, omega (arith, size_is r a (or s y) e))
    in_group m (State.many s y e first) = (omega arith, omega (arith, size_is r a (or s y) e))
    in_group m (State.rest s y e first) = (omega arith, omega (arith, size_is r a (or s y) e))
    in_group m (State.part m' t f more above part_known e first) =
        (omega (arith, above), omega (arith, part_known.below, rules_length S.numbers m t, ap length e))

-- where a rule is, if all can be first
pub anywhere : (S : Setting) (r : ℕ) (a : Alts) (n m : ℕ) (f : RuleForm) (B : ℕ → Type 0) → ((q : ℕ) → B q) → Origin S r a n m f → State S r a n B m
anywhere S r a n m f B all (Origin.plain e) = State.own (λ q h. all q) (λ d q h. all q)
anywhere S r a n m f B all (Origin.left s b e) = State.own (λ q h. all q) (λ d q h. all q)
anywhere S r a n m f B all (Origin.base s b e) = State.base s b e (λ q h. all q)
anywhere S r a n m f B all (Origin.many s b e) = State.many s b e (λ q h. all q)
anywhere S r a n m f B all (Origin.rest s b e) = State.rest s b e (λ q h. all q)
anywhere S r a n m f B all (Origin.part m' f' b) =
    State.part m b.term f b.more (omega (arith, b.known.above)) (known_from S (n + 1) (n + group_size r a) m b.term b.known) b.rules (λ q h. all q)
