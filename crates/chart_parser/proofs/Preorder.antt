-- Nodes in preorder: one more node, and what is asked for after it.
use Rattle.std.proofs.Common.{◌≡◌, ℕ, suc, ◌+◌, List, [], ◌∷◌, ◌++◌, Some, None, length, map, slice_get, refl}
use Rattle.std.proofs.Common.{sym, ap, ◌∙◌, subst, arith, append_assoc, length-append}
use Rattle.std.proofs.lemmas.List.{append-nil}
use Rattle.normal_form.specs.declared.normal.Sym.{Sym}
use Rattle.normal_form.specs.declared.normal.Sym.TheVariants.{Kind, Set, Rule}
use Rattle.normal_form.specs.Form.{RuleForm, NormalForm}
use Rattle.normal_form.specs.Spans.{DerivesSpan}
use Rattle.normal_form.specs.SpanLaws.{SpansByForm}
use Rattle.syntax_tree.specs.declared.node.Node.{Node}
use Rattle.syntax_tree.specs.Trees.{PlainTree, PlainTrees, count, renumbered_all, size, size_all, weight, weight_all}
use Rattle.syntax_tree.specs.Valid.{slots_of}
use Rattle.syntax_tree.specs.Nodes.{AreNodesOf, nodes_of, nodes_of_all}
use Rattle.syntax_tree.specs.Preferred.{Preferred}
use Rattle.syntax_tree.specs.Laws.{PreferredTreesAreValid}
use Rattle.chart_parser.specs.declared.part.Asked.{Asked}
use Rattle.chart_parser.specs.declared.part.Part.{Part}
use Rattle.chart_parser.specs.inner.Parts.{AreElements, AreOfForm, AreOfRule, AreParts, IsContent}
use Rattle.chart_parser.specs.inner.Preorder.{AreBegun, AreDerived, Completes, below, leaf_node, rule_node}
use Rattle.chart_parser.proofs.TreeOfParts.{ArePreferred, count_is, slots, slots_are, tree_of_parts}

module _ (N : NormalForm) (K : List ℕ) where
  -- The parts follow one another from i to j, and each is derived.
  abbrev pub Chain : ℕ → ℕ → List Part → Type 0
  Chain i j [] = i ≡ j
  Chain i j (p ∷ ps) = (p.first ≡ i) × DerivesSpan N K p.slot p.first p.end × Chain p.end j ps

  part_derived : (s : Sym) (i : ℕ) (p : Part) → p.slot ≡ s → p.first ≡ i → DerivesSpan N K s i p.end → DerivesSpan N K p.slot p.first p.end
  part_derived s i p e f d = subst (λ (x : Sym). DerivesSpan N K x p.first p.end) (sym e) (subst (λ (x : ℕ). DerivesSpan N K s x p.end) (sym f) d)

  chain_seq : (ss : List Sym) (i j : ℕ) (ps : List Part) → AreParts N K ss i j ps → Chain i j ps
  chain_seq [] i j [] are = are.0
  chain_seq [] i j (p ∷ ps) are = absurd are
  chain_seq (s ∷ ss) i j [] are = absurd are
  chain_seq (s ∷ ss) i j (p ∷ ps) are = (are.0.first, part_derived s i p are.0.slot are.0.first are.0.derived, chain_seq ss p.end j ps are.1)

  chain_many : (s : Sym) (i j : ℕ) (ps : List Part) → AreElements N K s i j ps → Chain i j ps
  chain_many s i j [] are = are.0
  chain_many s i j (p ∷ ps) are = (are.1.first, part_derived s i p are.1.slot are.1.first are.1.derived, chain_many s p.end j ps are.2)

  chain_content : (s : Sym) (i j : ℕ) (ps : List Part) → IsContent N K s i j ps → Chain i j ps
  chain_content s i j [] is = is.0
  chain_content s i j (p ∷ []) is = (is.1, part_derived s i p is.0 is.1 (subst (λ (x : ℕ). DerivesSpan N K s i x) (sym is.2) is.3), is.2)
  chain_content s i j (p ∷ q ∷ ps) is = absurd is

  chain_form : (a i j : ℕ) (form : RuleForm) (ps : List Part) → AreOfForm N K form a i j ps → Chain i j ps
  chain_form a i j (RuleForm.regular alts) ps (alt, at, least, are) = chain_seq alt i j ps are
  chain_form a i j (RuleForm.opt s) ps are = chain_content s i j ps are.1
  chain_form a i j (RuleForm.star s) ps are = chain_many s i j ps are.1
  chain_form a i j (RuleForm.plus s) ps are = chain_many s i j ps are.2

  pub chain : (r a i j : ℕ) (ps : List Part) → AreOfRule N K r a i j ps → Chain i j ps
  chain r a i j ps (form, rule, are) = chain_form a i j form ps are

  -- The children are derived, and so is what is asked for after them.
  pub children_derived : (q i j : ℕ) (ps : List Part) (later : List Asked) → Chain i j ps → AreDerived N K later → AreDerived N K (map (below q) ps ++ later)
  children_derived q i j [] later c d = d
  children_derived q i j (p ∷ ps) later c d = (c.1, children_derived q p.end j ps later c.2 d)

  -- What completes the children and what is asked for after them begins with the trees of the children.
  pub record Splits (q m i j : ℕ) (ps : List Part) (later : List Asked) (xs : List Node) : Type 0 where
    pub trees : PlainTrees
    pub others : List Node
    pub preferred : ArePreferred N K ps trees
    pub numbered : renumbered_all m trees ≡ trees
    pub nodes : xs ≡ nodes_of_all N (slots ps) (Some q) i trees ++ others
    pub long : i + weight_all trees ≡ j
    pub completes : Completes N K (m + size_all trees) later others

  at_number : (m n : ℕ) (later : List Asked) (xs : List Node) → m ≡ n → Completes N K m later xs → Completes N K n later xs
  at_number m n later xs e h = subst (λ (x : ℕ). Completes N K x later xs) e h

  module _ (law : PreferredTreesAreValid) where
    pub splits : (q m i j : ℕ) (ps : List Part) (later : List Asked) (xs : List Node) → Chain i j ps → Completes N K m (map (below q) ps ++ later) xs
        → Splits q m i j ps later xs
    splits q m i j [] later xs c h = record {
      trees = PlainTrees.none;
      others = xs;
      preferred = tt;
      numbered = refl;
      nodes = refl;
      long = omega (arith, c);
      completes = at_number m (m + 0) later xs (omega arith) h;
    }
    splits q m i j (p ∷ ps) later xs c (t, ys, pref, num, eq, rest) =
        let more = splits q (m + size t) p.end j ps later ys c.2 rest in
        let ts = more.trees in
        let end : i + weight t ≡ p.end = ap (λ (x : ℕ). x + weight t) (sym c.0) ∙ (law N K p.slot p.first p.end t pref).long in
        record {
          trees = PlainTrees.next t ts;
          others = more.others;
          preferred = (pref, more.preferred);
          numbered =
              ap (λ (x : PlainTree). PlainTrees.next x (renumbered_all (m + size t) ts)) num ∙ ap (λ (x : PlainTrees). PlainTrees.next t x) more.numbered;
          nodes =
              eq
              ∙ ap (λ (x : ℕ). nodes_of N p.slot (Some q) x t ++ ys) c.0
              ∙ ap (λ (l : List Node). nodes_of N p.slot (Some q) i t ++ l) more.nodes
              ∙ ap (λ (x : ℕ). nodes_of N p.slot (Some q) i t ++ (nodes_of_all N (slots ps) (Some q) x ts ++ more.others)) (sym end)
              ∙ sym (append_assoc (nodes_of N p.slot (Some q) i t) (nodes_of_all N (slots ps) (Some q) (i + weight t) ts) more.others);
          long = omega (arith, end, more.long);
          completes = at_number (m + size t + size_all ts) (m + (size t + size_all ts)) later more.others (omega arith) more.completes;
        }

    -- the node of a rule, with any symbol, number of children and end
    abbrev node_with : Asked → ℕ → Sym → ℕ → ℕ → Node
    node_with a alt s c e = record { sym = s; slot = a.part.slot; alt = alt; children = c; parent = a.parent; first = a.part.first; end = e }

    rule_completes : (n r alt : ℕ) (a : Asked) (ps : List Part) (later : List Asked) (xs : List Node) → a.part.slot ≡ Rule r
        → AreOfRule N K r alt a.part.first a.part.end ps →
        Completes N K (n + 1) (map (below n) ps ++ later) xs → Completes N K n (a ∷ later) (rule_node a alt (length ps) ∷ xs)
    rule_completes n r alt a ps later xs slot are h =
        let i = a.part.first in
        let j = a.part.end in
        let split = splits n (n + 1) i j ps later xs (chain r alt i j ps are) h in
        let ts = split.trees in
        let t = PlainTree.node n r alt ts in
        let below-it = slots_are N K r alt i j ps ts are split.preferred in
        let preferred = subst (λ (s : Sym). Preferred N K s i j t) (sym slot) (tree_of_parts N K n r alt i j ps ts are split.preferred) in
        let node : rule_node a alt (length ps) ≡ node_with a alt (Rule r) (count ts) (i + weight_all ts) =
        ap (λ (s : Sym). node_with a alt s (length ps) j) slot ∙ ap (λ (c : ℕ). node_with a alt (Rule r) c j) (sym (count_is N K ps ts split.preferred))
        ∙ ap (λ (e : ℕ). node_with a alt (Rule r) (count ts) e) (sym split.long) in
        let children : xs ≡ nodes_of_all N (slots_of N r alt ts) (Some n) i ts ++ split.others =
        split.nodes ∙ ap (λ (ss : List Sym). nodes_of_all N ss (Some n) i ts ++ split.others) (sym below-it) in (
          t,
          split.others,
          preferred,
          ap (λ (x : PlainTrees). PlainTree.node n r alt x) split.numbered,
          ap (λ (x : Node). x ∷ xs) node ∙ ap (λ (l : List Node). node_with a alt (Rule r) (count ts) (i + weight_all ts) ∷ l) children,
          at_number (n + 1 + size_all ts) (n + suc (size_all ts)) later split.others (omega arith) split.completes,
        )

    -- One more node, and what then is asked for: whatever completes that completes the root.
    one_more : (root a : Asked) (x : Node) (nodes : List Node) (later new : List Asked) → AreBegun N K root nodes (a ∷ later) →
        ((xs : List Node) → Completes N K (length nodes + 1) new xs → Completes N K (length nodes) (a ∷ later) (x ∷ xs))
        → AreBegun N K root (nodes ++ x ∷ []) new
    one_more root a x nodes later new begun step xs h =
        let at = at_number (length (nodes ++ x ∷ [])) (length nodes + 1) new xs (length-append nodes (x ∷ [])) h in
        subst (λ (l : List Node). Completes N K 0 (root ∷ []) l) (sym (append_assoc nodes (x ∷ []) xs)) (begun (x ∷ xs) (step xs at))

    pub rule_begun : (root a : Asked) (r alt : ℕ) (ps : List Part) (nodes : List Node) (later : List Asked) → a.part.slot ≡ Rule r
        → AreOfRule N K r alt a.part.first a.part.end ps →
        AreBegun N K root nodes (a ∷ later) → AreBegun N K root (nodes ++ rule_node a alt (length ps) ∷ []) (map (below (length nodes)) ps ++ later)
    rule_begun root a r alt ps nodes later slot are begun =
        one_more root a (rule_node a alt (length ps)) nodes later (map (below (length nodes)) ps ++ later) begun
        (λ xs h. rule_completes (length nodes) r alt a ps later xs slot are h)

    leaf_completes : (n k : ℕ) (a : Asked) (later : List Asked) (xs : List Node)
        → Preferred N K a.part.slot a.part.first a.part.end (PlainTree.leaf n k a.part.first) → a.part.end ≡ a.part.first + 1 →
        Completes N K (n + 1) later xs → Completes N K n (a ∷ later) (leaf_node a k ∷ xs)
    leaf_completes n k a later xs pref e h =
        let leaf_with : ℕ → Node =
        λ (e : ℕ). record { sym = Kind k; slot = a.part.slot; alt = 0; children = 0; parent = a.parent; first = a.part.first; end = e } in
        (PlainTree.leaf n k a.part.first, xs, pref, refl, ap (λ (e : ℕ). leaf_with e ∷ xs) e, h)

    pub leaf_begun : (root a : Asked) (k : ℕ) (nodes : List Node) (later : List Asked)
        → Preferred N K a.part.slot a.part.first a.part.end (PlainTree.leaf (length nodes) k a.part.first) → a.part.end ≡ a.part.first + 1 →
        AreBegun N K root nodes (a ∷ later) → AreBegun N K root (nodes ++ leaf_node a k ∷ []) later
    leaf_begun root a k nodes later pref e begun =
        one_more root a (leaf_node a k) nodes later later begun (λ xs h. leaf_completes (length nodes) k a later xs pref e h)

    -- Where nothing is asked for any more, the nodes are those of the preferred tree.
    pub all_made : (start : Sym) (j : ℕ) (nodes : List Node)
        → AreBegun N K (record { part = record { slot = start; first = 0; end = j }; parent = None }) nodes [] →
        (t : PlainTree) × Preferred N K start 0 j t × AreNodesOf N start nodes t
    all_made start j nodes begun =
        let (t, others, pref, num, eq, rest) = begun [] refl in
        let is = law N K start 0 j t pref in (
          t,
          pref,
          record {
            whole = record { valid = is.valid; numbered = num; tokens = is.tokens };
            are = sym (append-nil nodes) ∙ eq ∙ ap (λ (l : List Node). nodes_of N start None 0 t ++ l) rest ∙ append-nil (nodes_of N start None 0 t);
          },
        )

  -- What is a token begins with it: its kind, where it ends, and its leaf.
  pub record IsToken (s : Sym) (i j : ℕ) : Type 0 where
    pub kind : ℕ
    pub at : slice_get K i ≡ Some kind
    pub end : j ≡ i + 1
    pub leaf : (n : ℕ) → Preferred N K s i j (PlainTree.leaf n kind i)

  pub token : (form : SpansByForm N K) (s : Sym) (i j : ℕ) → ((r : ℕ) → s ≡ Rule r → ⊥) → DerivesSpan N K s i j → IsToken s i j
  token form (Kind k) i j other d =
      let (at, end) = (form.kind k i j).0 d in
      record {
        kind = k;
        at = at;
        end = end;
        leaf = λ n. subst (λ (x : ℕ). Preferred N K (Kind k) i x (PlainTree.leaf n k i)) (sym end) (Preferred.of_kind n k i at);
      }
  token form (Set g) i j other d =
      let (ks, k, has, c, at, end) = (form.set g i j).0 d in
      record {
        kind = k;
        at = at;
        end = end;
        leaf = λ n. subst (λ (x : ℕ). Preferred N K (Set g) i x (PlainTree.leaf n k i)) (sym end) (Preferred.of_set n g k i ks has c at);
      }
  token form (Rule r) i j other d = absurd (other r refl)
