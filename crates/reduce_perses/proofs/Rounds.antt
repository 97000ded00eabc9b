-- The laws of a round.
use Rattle.std.proofs.Common.{◌≡◌, ℕ, ◌<◌, Bool, true, false, List, [], Some, slice_get, sym, ◌∙◌, subst, arith}
use Rattle.std.proofs.lemmas.List.Elements.{All-contains, All-from_recursion}
use Rattle.normal_form.specs.declared.normal.Sym.{Sym}
use Rattle.normal_form.specs.Form.{RuleForm, NormalForm}
use Rattle.node_queue.specs.Waiting.{Waiting}
use Rattle.syntax_tree.specs.Trees.{PlainTree, PlainTrees, weight_all}
use Rattle.syntax_tree.specs.Numbered.{NumbersRise, subtree, with_subtree}
use Rattle.syntax_tree.specs.EditLaws.{IsEditAt}
use Rattle.syntax_tree.specs.Laws.{ElementsHaveTokens}
use Rattle.syntax_tree.proofs.Lent.{AreWithin, or_none, within_from, part, numbered}
use Rattle.descend_replace.specs.Compatible.{DecidesFits, compatible}
use Rattle.reduce_perses.specs.Queued.{nodes_in, with_trees}
use Rattle.reduce_perses.specs.Laws.{GoesOn, IsNextVisit, LosesLeaves, RoundBegins, RoundsEndByVisits, RoundsGoByVisits}
use Rattle.reduce_perses.specs.Laws.{TriesEditsAndSelections, TriesKeptTrees, TriesSingleEdits, VisitsGoOn}
use Rattle.reduce_perses.proofs.NodeFacts.{first_found}
use Rattle.reduce_perses.proofs.Queues.{AreIn, queue_more}
use Rattle.reduce_perses.proofs.Descending.{IsCompatible, all_compatible}
use Rattle.reduce_perses.proofs.Visits.{GoesTo, IsVisited}
use Rattle.reduce_perses.proofs.Forms.{content_goes, descendant_goes, goes_down, goes_past, list_goes, next_of}
use Rattle.reduce_perses.proofs.Going as going
use Rattle.reduce_perses.proofs.Ending as ending
use Rattle.reduce_perses.proofs.Tried as tried
use Rattle.reduce_perses.proofs.Following as following
use Rattle.reduce_perses.proofs.AtNo as at_no

-- the root waits alone
root_within : (t : PlainTree) → NumbersRise t → (high : ℕ) × AreWithin 0 high (PlainTrees.next t PlainTrees.none)
root_within t rise = let within = within_from t rise in (within.0, (within.0, within.1, omega arith))

root_in : (t : PlainTree) → AreIn t (PlainTrees.next t PlainTrees.none)
root_in t p y e = sym (or_none (subtree p t)) ∙ e

pub round_begins : RoundBegins
round_begins N s t tree rise =
    let within = root_within t rise in
    record {
      tree = tree;
      rise = rise;
      queue_is =
          queue_more t 0 within.0 (PlainTrees.next t PlainTrees.none) [] within.1 (root_in t)
          (record { queue_is = record { in_order = tt; entries = tt; apart = tt }; apart = tt });
    }

pub rounds_go_by_visits : RoundsGoByVisits
rounds_go_by_visits N fits s decides = record {
  ends = going.ends N fits decides s;
  visits = going.goes_by_visits N fits decides s;
}

pub rounds_end_by_visits : RoundsEndByVisits
rounds_end_by_visits texts verdict N fits s decides = record {
  round =
      λ t tree rise. ending.visits_within_end texts verdict N fits decides s (nodes_in t (with_trees (PlainTrees.next t PlainTrees.none) [])) t
      (with_trees (PlainTrees.next t PlainTrees.none) []) (round_begins N s t tree rise);
  ends = ending.ends_with_none texts verdict N fits decides s;
  visits = ending.ends_by_visits texts verdict N fits decides s;
}

optional_goes : (N : NormalForm) (s : Sym) (t : PlainTree) (later : List Waiting) (n r a : ℕ) (ts : PlainTrees) (slot : Sym)
    → IsVisited N s t n slot (PlainTree.node n r a ts) later → 0 < weight_all ts →
    (y : Sym) → slice_get N.rules r ≡ Some (RuleForm.opt y)
    → GoesTo N s t (PlainTree.node n r a ts) later (with_subtree n (PlainTree.node n r a PlainTrees.none) t) later
optional_goes N s t later n r a PlainTrees.none slot is heavy y rule = absurd (let no : 0 < 0 = heavy in omega (arith, no))
optional_goes N s t later n r a (PlainTrees.next u us) slot is heavy y rule = content_goes N s t later n r a u us slot is y rule

module _ (N : NormalForm) (fits : Sym → Sym → Bool) (decides : DecidesFits N fits) (s : Sym) (t : PlainTree) (later : List Waiting) where
  goes : (v u : PlainTree) (queue : List Waiting) → GoesTo N s t v later u queue → GoesOn N s t u queue
  goes v u queue it = record { round = it.round; left = it.left }

  next_visit : (n r a : ℕ) (ts : PlainTrees) (slot : Sym) → IsVisited N s t n slot (PlainTree.node n r a ts) later → 0 < weight_all ts
      → IsNextVisit N fits s t later n r a ts slot
  next_visit n r a ts slot is heavy =
      let v : PlainTree = PlainTree.node n r a ts in
      record {
        node = is.node_is;
        slot_is = is.slot_is;
        some = heavy;
        goes_on = record {
          nothing = goes v t later (goes_past N s t later n r a ts slot is heavy);
          children = goes v t (with_trees ts later) (goes_down N s t later n r a ts slot is heavy);
          star = λ x keep rule remain. goes v _ _ (list_goes N s t later n r a ts slot is heavy true x keep rule remain);
          plus = λ x keep rule remain. goes v _ _ (list_goes N s t later n r a ts slot is heavy false x keep rule remain);
          optional = λ x rule. goes v _ _ (optional_goes N s t later n r a ts slot is heavy x rule);
          regular = λ alts u rule one. goes v _ _ (descendant_goes N s t later n r a ts slot is heavy alts u rule
              (All-contains (IsCompatible N slot v) (compatible fits slot v) u
              (All-from_recursion (IsCompatible N slot v) (compatible fits slot v) (all_compatible N fits decides slot v)) one));
        };
      }

pub visits_go_on : VisitsGoOn
visits_go_on N fits s t next later decides round =
    let it = next_of N s t next later round in (
      it.r,
      it.a,
      it.ts,
      it.slot,
      subst (λ (n : ℕ). IsNextVisit N fits s t later n it.r it.a it.ts it.slot) it.number_is
          (next_visit N fits decides s t later it.n it.r it.a it.ts it.slot it.visited it.heavy),
    )

pub tries_kept_trees : TriesKeptTrees
tries_kept_trees N fits s whole t decides rise kept =
    let begins = round_begins N s t kept.0 ((part whole t kept.1).numbers_rise rise) in
    tried.all_kept N fits decides s whole (nodes_in t (with_trees (PlainTrees.next t PlainTrees.none) [])) t
    (with_trees (PlainTrees.next t PlainTrees.none) []) begins kept.1

pub tries_edits_and_selections : TriesEditsAndSelections
tries_edits_and_selections N fits s t decides tree rise =
    following.each_follows N fits decides s (nodes_in t (with_trees (PlainTrees.next t PlainTrees.none) [])) t
    (with_trees (PlainTrees.next t PlainTrees.none) []) (round_begins N s t tree rise)

pub loses_leaves : ElementsHaveTokens → LosesLeaves
loses_leaves elements N fits s t decides normal tree rise =
    tried.smaller N fits decides normal elements s (nodes_in t (with_trees (PlainTrees.next t PlainTrees.none) [])) t
    (with_trees (PlainTrees.next t PlainTrees.none) []) (round_begins N s t tree rise)

pub tries_single_edits : TriesSingleEdits
tries_single_edits N fits s t u decides tree rise edit =
    let it = (numbered N s t u tree.valid rise).0 edit in
    let q : ℕ = it.0 in
    let x : Sym = it.1 in
    let v : PlainTree = it.2 in
    let w : PlainTree = it.3 in
    let at : IsEditAt N s t u q x v w = it.4 in
    let within = root_within t rise in
    at_no.visit_tries N fits decides s t u q x v w at (nodes_in t (with_trees (PlainTrees.next t PlainTrees.none) []))
    (with_trees (PlainTrees.next t PlainTrees.none) []) (round_begins N s t tree rise) (omega arith)
    (at_no.come_all t q v 0 within.0 (PlainTrees.next t PlainTrees.none) [] within.1 (root_in t) (at_no.edit_waits N fits decides s x v w at.edit at.smaller)
    (let less = at.smaller in omega (arith, less)) (first_found q t PlainTrees.none v at.node))
