-- A reduction over records that a rule made is the reduction over the rule.
use Rattle.std.proofs.Common.{◌≡◌, ◌∙◌, ℕ, Bool, true, false, List, [], ◌∷◌, ◌++◌, All, Option, Some, None}
use Rattle.std.proofs.Common.{IsSome, refl, sym, ap, subst, bytes_eq, length, if◌then◌else◌}
use Rattle.std.specs.List.{AllByRecursion}
use Rattle.std.proofs.lemmas.List.Elements.{recursion_from_All}
use Rattle.std.proofs.lemmas.Slice.Eq.{bytes_eq-Decides}
use Rattle.script_gate_trait.specs.declared.gate.Verdict.{Verdict}
use Rattle.script_gate_trait.specs.declared.gate.Verdict.TheVariants.{Yes, No}
use Rattle.script_gate_trait.specs.Rule.{rule_verdict}
use Rattle.verdict_table.specs.declared.record.Record.{Record}
use Rattle.verdict_table.specs.TableState.{verdict_in}
use Rattle.reduce_rounds.specs.Laws.{AgreeingMapsReduceAlike}
use Rattle.reduce_rounds.specs.Verdicts.{Agree, HasVerdicts}
use Rattle.reduce_rounds.specs.Reduction as rounds
use Rattle.reduce_rounds.specs.Reduction.{capped_count}
use Rattle.reduce_journal.specs.declared.counts.Counts.{Counts}
use Rattle.reduce_trees_mode.specs.Input.{TreeInput, TreeState}
use Rattle.syntax_tree.specs.Trees.{weight}
use Rattle.reduce_trees_mode.specs.Candidates.{IsCandidate}
use Rattle.reduce_trees_mode.specs.InStyles.{IsEditIn}
use Rattle.reduce_trees_mode.specs.Listed.{text_of_state}
use Rattle.reduce_step.specs.declared.mode.TreeMode.{TreeMode}
use Rattle.run_problem.specs.Problem.{IsEditBy, IsReductionOf, Problem, counts_of, questions_of, recursion_of, reduced_text, reduction_of}
use Rattle.reduce_journal.specs.Report.{first_lines, four_lines}
use Rattle.case_reduction.specs.Summary.{admits_all, rule_map, summary_text}

-- each record has the rule's verdict
abbrev pub BySaid : List Record → Type 0
BySaid records = All (λ (r : Record). r.verdict ≡ rule_verdict 23121 r.text) records

-- what such records say is what the rule says
said : (records : List Record) → AllByRecursion (λ (r : Record). r.verdict ≡ rule_verdict 23121 r.text) records → (text : List ℕ) (v : Verdict)
    → verdict_in records text ≡ Some v → v ≡ rule_verdict 23121 text
said [] by text v is = absurd (cc is)
said (r ∷ records) by text v is = go (bytes_eq text r.text) refl is (said records by.1 text v)
  where
    go : (b : Bool) → bytes_eq text r.text ≡ b → (if b then Some r.verdict else verdict_in records text) ≡ Some v
        → (verdict_in records text ≡ Some v → v ≡ rule_verdict 23121 text) → v ≡ rule_verdict 23121 text
    go true same is later =
        let one : r.verdict ≡ v = cc is in
        sym one ∙ by.0 ∙ sym (ap (rule_verdict 23121) ((bytes_eq-Decides text r.text).0 same))
    go false same is later = later is

-- what the records say yes or no to, the rule says the same to
pub rule_too : (records : List Record) → BySaid records → (text : List ℕ) (v : Verdict) → verdict_in records text ≡ Some v → rule_map text ≡ Some v
rule_too records by text v is = ap (λ (x : Verdict). Some x) (sym (said records (recursion_from_All _ records by) text v is))

pub agree : (records : List Record) → BySaid records → Agree (verdict_in records) rule_map
agree records by text here there = go (verdict_in records text) refl here
  where
    go : (o : Option Verdict) → verdict_in records text ≡ o → IsSome o → verdict_in records text ≡ rule_map text
    go None is here = absurd (cc here)
    go (Some v) is here = is ∙ sym (rule_too records by text v is)

-- the rule says something of each text
pub rule_says : (texts : List (List ℕ)) → HasVerdicts rule_map texts
rule_says [] = tt
rule_says (text ∷ texts) = (refl, rule_says texts)

module _ (mode : TreeMode) (input : TreeInput) where
  abbrev problem : Problem
  problem = Problem.of_tree mode input

  -- the summary of a reduction
  abbrev summary_of : rounds.Reduction TreeState → List ℕ
  summary_of r =
      four_lines (weight input.whole) (weight r.state.tree) (length input.start) (length (text_of_state input r.state)) (capped_count r.rounds)
      (capped_count (length r.questions))
      ++ text_of_state input r.state

  module _ (alike : AgreeingMapsReduceAlike (recursion_of admits_all problem)) where
    -- the reduction over a map that agrees with the rule is that over the rule
    same_reduction : (V : List ℕ → Option Verdict) → Agree V rule_map → HasVerdicts V (questions_of admits_all problem V)
        → reduction_of admits_all problem V ≡ reduction_of admits_all problem rule_map
    same_reduction V agrees defined = alike V rule_map agrees defined (rule_says (questions_of admits_all problem rule_map))

    same_summary : (V : List ℕ → Option Verdict) → Agree V rule_map → HasVerdicts V (questions_of admits_all problem V)
        → summary_text problem V ≡ summary_text problem rule_map
    same_summary V agrees defined = ap summary_of (same_reduction V agrees defined)

    module _ (records : List Record) (by : BySaid records) where
      -- the reduction over the records is that over the rule
      pub by_rule : (text : List ℕ) → IsReductionOf admits_all (verdict_in records) problem text
          → IsReductionOf admits_all rule_map problem (reduced_text admits_all problem rule_map)
      by_rule text is =
          let one = same_reduction (verdict_in records) (agree records by) is.defined in
          let ends : text ≡ reduced_text admits_all problem rule_map = is.is_text ∙ ap (λ (r : rounds.Reduction TreeState). text_of_state input r.state) one in
          record {
            is_problem = is.is_problem;
            defined = rule_says (questions_of admits_all problem rule_map);
            interesting = sym (ap (λ (r : rounds.Reduction TreeState). r.refused) one) ∙ is.interesting;
            is_text = refl;
            yes_at_end = subst (λ (t : List ℕ). rule_map t ≡ Some Yes) ends (rule_too records by text Yes is.yes_at_end);
            admitted = refl;
            candidate = subst (λ (t : List ℕ). IsCandidate input t) ends is.candidate;
            minimal = λ other edit lists.
                rule_too records by (text_of_state input other) No
                (is.minimal other (subst (λ (r : rounds.Reduction TreeState). IsEditIn (IsEditBy mode input.form input.symbol) r.state other) (sym one) edit)
                lists);
            respells = tt;
          }

      -- the lines and the text are the summary over each map that agrees with the rule
      pub over_each : (text : List ℕ) (counts : Counts) → IsReductionOf admits_all (verdict_in records) problem text
          → counts ≡ counts_of admits_all problem records → (V : List ℕ → Option Verdict) → Agree V rule_map → HasVerdicts V (questions_of admits_all problem V)
          → first_lines counts ++ text ≡ summary_text problem V
      over_each text counts is is_counts V agrees defined =
          ap (λ (c : Counts). first_lines c ++ text) is_counts
          ∙ ap (λ (t : List ℕ). first_lines (counts_of admits_all problem records) ++ t) is.is_text
          ∙ same_summary (verdict_in records) (agree records by) is.defined
          ∙ sym (same_summary V agrees defined)
