-- Visits of optionals: what is tried, and where the round goes on.
use Rattle.std.proofs.Common.{◌≡◌, ℕ, Bool, true, false, List, None, refl, sym, ap, ◌∙◌}
use Rattle.normal_form.specs.declared.normal.Sym.{Sym}
use Rattle.normal_form.specs.Form.{NormalForm}
use Rattle.node_queue.specs.Waiting.{Waiting}
use Rattle.reduce_rounds.specs.Trials.{Try, state_after, trials_after}
use Rattle.syntax_tree.specs.Trees.{PlainTree, PlainTrees}
use Rattle.syntax_tree.specs.Numbered.{with_subtree}
use Rattle.syntax_tree_cut.specs.Cuts.{CanEmpty}
use Rattle.reduce_perses.specs.Queued.{with_trees}
use Rattle.reduce_perses.specs.declared.visit.Visit.TheVariants.{Content}
use Rattle.reduce_perses.specs.inner.VisitTrials.{content_tried, goes_on, visit_trials}
use Rattle.reduce_perses.specs.inner.Visiting.{GoesOnWith, IsContent}
use Rattle.reduce_perses.proofs.DescendantsLemmas.{same_round}

module _ (N : NormalForm) (s : Sym) (t : PlainTree) (later : List Waiting) (n : ℕ) (is : IsContent N s t later n) where
  -- the node without its content
  abbrev pub emptied : PlainTree
  emptied = PlainTree.node n is.rule is.alt PlainTrees.none

  abbrev pub content : PlainTrees
  content = PlainTrees.next is.content PlainTrees.none

  pub tries_without : visit_trials N s t later (Content n) ≡ Try (with_subtree n emptied t) (goes_on N s (with_subtree n emptied t) later)
      (goes_on N s t (with_trees content later))
  tries_without = ap (content_tried N s t later) is.next.node

  pub can_empty : CanEmpty N t n
  can_empty = record { rule = is.rule; alt = is.alt; content = is.content; symbol = is.symbol; node = is.next.node; is_optional = is.is_optional }

  -- at yes the content is gone
  pub goes_on_without : (answer : Bool) → answer ≡ true → (u : PlainTree) (queue : List Waiting) → u ≡ with_subtree n emptied t → queue ≡ later →
      GoesOnWith N s u queue (state_after t (visit_trials N s t later (Content n)) answer) (trials_after (visit_trials N s t later (Content n)) answer) None
  goes_on_without answer is_yes u queue tree same = record {
    left_is = tree ∙ sym (λ i. state_after t (tries_without i) (is_yes i));
    rest_is = (λ i. goes_on N s (tree i) (same i)) ∙ sym (λ i. trials_after (tries_without i) (is_yes i));
    going = same_round N s u (with_subtree n emptied t) queue later tree same (is.next.goes_on.optional is.symbol is.is_optional).round;
  }

  -- at no it waits
  pub goes_on_with : (answer : Bool) → answer ≡ false → (queue : List Waiting) → queue ≡ with_trees content later →
      GoesOnWith N s t queue (state_after t (visit_trials N s t later (Content n)) answer) (trials_after (visit_trials N s t later (Content n)) answer) None
  goes_on_with answer is_no queue waits = record {
    left_is = sym (λ i. state_after t (tries_without i) (is_no i));
    rest_is = ap (goes_on N s t) waits ∙ sym (λ i. trials_after (tries_without i) (is_no i));
    going = same_round N s t t queue (with_trees content later) refl waits is.next.goes_on.children.round;
  }
