-- Preferred trees of the parts of a rule make the preferred tree of the rule.
use Rattle.std.proofs.Common.{◌≡◌, ℕ, suc, ◌<◌, List, [], ◌∷◌, Option, Some, length, map, slice_get, refl, sym, ap, ◌∙◌, subst, arith}
use Rattle.std.specs.Prelude.{replicate}
use Rattle.std.specs.Option.{option_map_or}
use Rattle.normal_form.specs.declared.normal.Sym.{Sym}
use Rattle.normal_form.specs.declared.normal.Sym.TheVariants.{Rule}
use Rattle.normal_form.specs.Form.{RuleForm, NormalForm}
use Rattle.normal_form.specs.Spans.{DerivesSpan}
use Rattle.syntax_tree.specs.Trees.{PlainTree, PlainTrees, count}
use Rattle.syntax_tree.specs.Valid.{slots_of, slots_of_form}
use Rattle.syntax_tree.specs.Preferred.{Preferred, PreferredSeq, PreferredMany}
use Rattle.chart_parser.specs.declared.part.Part.{Part}
use Rattle.chart_parser.specs.inner.Parts.{AreParts, AreElements, IsContent, AreOfForm, AreOfRule}

abbrev pub slots : List Part → List Sym
slots ps = map (λ (p : Part). p.slot) ps

module _ (N : NormalForm) (K : List ℕ) where
  -- The trees are the preferred ones of the parts.
  abbrev pub ArePreferred : List Part → PlainTrees → Type 0
  ArePreferred [] PlainTrees.none = Unit {0}
  ArePreferred [] (PlainTrees.next t ts) = ⊥
  ArePreferred (p ∷ ps) PlainTrees.none = ⊥
  ArePreferred (p ∷ ps) (PlainTrees.next t ts) = Preferred N K p.slot p.first p.end t × ArePreferred ps ts

  pub count_is : (ps : List Part) (ts : PlainTrees) → ArePreferred ps ts → count ts ≡ length ps
  count_is [] PlainTrees.none h = refl
  count_is [] (PlainTrees.next t ts) h = absurd h
  count_is (p ∷ ps) PlainTrees.none h = absurd h
  count_is (p ∷ ps) (PlainTrees.next t ts) h = ap suc (count_is ps ts h.1)

  -- the tree of a part, for its symbol and where it begins
  of_part : (s : Sym) (i : ℕ) (p : Part) (t : PlainTree) → p.slot ≡ s → p.first ≡ i → Preferred N K p.slot p.first p.end t → Preferred N K s i p.end t
  of_part s i p t e f h = subst (λ (x : ℕ). Preferred N K s x p.end t) f (subst (λ (x : Sym). Preferred N K x p.first p.end t) e h)

  seq_of : (ss : List Sym) (i j : ℕ) (ps : List Part) (ts : PlainTrees) → AreParts N K ss i j ps → ArePreferred ps ts → PreferredSeq N K ss i j ts
  seq_of [] i j [] PlainTrees.none are h = subst (λ (x : ℕ). PreferredSeq N K [] i x PlainTrees.none) are.0 (PreferredSeq.of_done i are.1)
  seq_of [] i j [] (PlainTrees.next t ts) are h = absurd h
  seq_of [] i j (p ∷ ps) ts are h = absurd are
  seq_of (s ∷ ss) i j [] ts are h = absurd are
  seq_of (s ∷ ss) i j (p ∷ ps) PlainTrees.none are h = absurd h
  seq_of (s ∷ ss) i j (p ∷ ps) (PlainTrees.next t ts) are h =
      let one = are.0 in
      PreferredSeq.of_next s ss i p.end j t ts (of_part s i p t one.slot one.first h.0) (seq_of ss p.end j ps ts are.1 h.1) one.longest

  many_of : (s : Sym) (i j : ℕ) (ps : List Part) (ts : PlainTrees) → AreElements N K s i j ps → ArePreferred ps ts → PreferredMany N K s i j ts
  many_of s i j [] PlainTrees.none are h = subst (λ (x : ℕ). PreferredMany N K s i x PlainTrees.none) are.0 (PreferredMany.of_end s i are.1)
  many_of s i j [] (PlainTrees.next t ts) are h = absurd h
  many_of s i j (p ∷ ps) PlainTrees.none are h = absurd h
  many_of s i j (p ∷ ps) (PlainTrees.next t ts) are h =
      let one = are.1 in
      PreferredMany.of_more s i p.end j t ts are.0 (of_part s i p t one.slot one.first h.0) (many_of s p.end j ps ts are.2 h.1) one.longest

  content_of : (n r i j : ℕ) (s : Sym) (ps : List Part) (ts : PlainTrees) → slice_get N.rules r ≡ Some (RuleForm.opt s) → IsContent N K s i j ps
      → ArePreferred ps ts → Preferred N K (Rule r) i j (PlainTree.node n r 0 ts)
  content_of n r i j s [] PlainTrees.none rule is h =
      let not = subst (λ (x : ℕ). ¬ DerivesSpan N K s i x) (sym is.0) is.2 in
      subst (λ (x : ℕ). Preferred N K (Rule r) i x (PlainTree.node n r 0 PlainTrees.none)) is.0 (Preferred.of_absent n r i s rule is.1 not)
  content_of n r i j s [] (PlainTrees.next t ts) rule is h = absurd h
  content_of n r i j s (p ∷ []) PlainTrees.none rule is h = absurd h
  content_of n r i j s (p ∷ []) (PlainTrees.next t PlainTrees.none) rule is h =
      Preferred.of_present n r i j s t rule (subst (λ (x : ℕ). Preferred N K s i x t) is.2 (of_part s i p t is.0 is.1 h.0))
  content_of n r i j s (p ∷ []) (PlainTrees.next t (PlainTrees.next u us)) rule is h = absurd h.1
  content_of n r i j s (p ∷ q ∷ ps) ts rule is h = absurd is

  plus_of : (n r i j : ℕ) (s : Sym) (ps : List Part) (ts : PlainTrees) → slice_get N.rules r ≡ Some (RuleForm.plus s) → i < j → AreElements N K s i j ps
      → ArePreferred ps ts → Preferred N K (Rule r) i j (PlainTree.node n r 0 ts)
  plus_of n r i j s [] ts rule l are h = absurd (omega (arith, l, are.0))
  plus_of n r i j s (p ∷ ps) PlainTrees.none rule l are h = absurd h
  plus_of n r i j s (p ∷ ps) (PlainTrees.next t ts) rule l are h =
      let one = are.1 in
      Preferred.of_plus n r i p.end j s t ts rule (of_part s i p t one.slot one.first h.0) (many_of s p.end j ps ts are.2 h.1) one.longest

  in_first : (n r i j a : ℕ) (ts : PlainTrees) → a ≡ 0 → Preferred N K (Rule r) i j (PlainTree.node n r 0 ts)
      → Preferred N K (Rule r) i j (PlainTree.node n r a ts)
  in_first n r i j a ts e h = subst (λ (x : ℕ). Preferred N K (Rule r) i j (PlainTree.node n r x ts)) (sym e) h

  tree_of_form : (n r a i j : ℕ) (form : RuleForm) (ps : List Part) (ts : PlainTrees) → slice_get N.rules r ≡ Some form → AreOfForm N K form a i j ps
      → ArePreferred ps ts → Preferred N K (Rule r) i j (PlainTree.node n r a ts)
  tree_of_form n r a i j (RuleForm.regular alts) ps ts rule (alt, at, least, are) h =
      Preferred.of_regular n r a i j alts alt ts rule at least (seq_of alt i j ps ts are h)
  tree_of_form n r a i j (RuleForm.opt s) ps ts rule are h = in_first n r i j a ts are.0 (content_of n r i j s ps ts rule are.1 h)
  tree_of_form n r a i j (RuleForm.star s) ps ts rule are h = in_first n r i j a ts are.0 (Preferred.of_star n r i j s ts rule (many_of s i j ps ts are.1 h))
  tree_of_form n r a i j (RuleForm.plus s) ps ts rule are h = in_first n r i j a ts are.0 (plus_of n r i j s ps ts rule are.1 are.2 h)

  -- The node with the trees of the parts is the preferred tree of the rule.
  pub tree_of_parts : (n r a i j : ℕ) (ps : List Part) (ts : PlainTrees) → AreOfRule N K r a i j ps → ArePreferred ps ts
      → Preferred N K (Rule r) i j (PlainTree.node n r a ts)
  tree_of_parts n r a i j ps ts (form, rule, are) h = tree_of_form n r a i j form ps ts rule are h

  -- the symbols of parts
  slots_of_seq : (ss : List Sym) (i j : ℕ) (ps : List Part) → AreParts N K ss i j ps → ss ≡ slots ps
  slots_of_seq [] i j [] are = refl
  slots_of_seq [] i j (p ∷ ps) are = absurd are
  slots_of_seq (s ∷ ss) i j [] are = absurd are
  slots_of_seq (s ∷ ss) i j (p ∷ ps) are = ap (λ (x : Sym). x ∷ ss) (sym are.0.slot) ∙ ap (λ (xs : List Sym). p.slot ∷ xs) (slots_of_seq ss p.end j ps are.1)

  slots_of_many : (s : Sym) (i j : ℕ) (ps : List Part) → AreElements N K s i j ps → replicate (length ps) s ≡ slots ps
  slots_of_many s i j [] are = refl
  slots_of_many s i j (p ∷ ps) are =
      ap (λ (x : Sym). x ∷ replicate (length ps) s) (sym are.1.slot) ∙ ap (λ (xs : List Sym). p.slot ∷ xs) (slots_of_many s p.end j ps are.2)

  slots_of_content : (s : Sym) (i j : ℕ) (ps : List Part) → IsContent N K s i j ps → replicate (length ps) s ≡ slots ps
  slots_of_content s i j [] is = refl
  slots_of_content s i j (p ∷ []) is = ap (λ (x : Sym). x ∷ []) (sym is.0)
  slots_of_content s i j (p ∷ q ∷ ps) is = absurd is

  by_form : (a i j : ℕ) (form : RuleForm) (ps : List Part) → AreOfForm N K form a i j ps → slots_of_form form a (length ps) ≡ slots ps
  by_form a i j (RuleForm.regular alts) ps (alt, at, least, are) =
      ap (λ (o : Option (List Sym)). option_map_or (λ alt. alt) o []) at ∙ slots_of_seq alt i j ps are
  by_form a i j (RuleForm.opt s) ps are = slots_of_content s i j ps are.1
  by_form a i j (RuleForm.star s) ps are = slots_of_many s i j ps are.1
  by_form a i j (RuleForm.plus s) ps are = slots_of_many s i j ps are.2

  -- The slots of the node are the symbols of the parts.
  pub slots_are : (r a i j : ℕ) (ps : List Part) (ts : PlainTrees) → AreOfRule N K r a i j ps → ArePreferred ps ts → slots_of N r a ts ≡ slots ps
  slots_are r a i j ps ts (form, rule, are) h =
      ap (λ (o : Option RuleForm). option_map_or (λ form. slots_of_form form a (count ts)) o []) rule
      ∙ ap (λ (c : ℕ). slots_of_form form a c) (count_is ps ts h)
      ∙ by_form a i j form ps are
