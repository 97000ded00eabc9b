-- Mode `lines` is lawful, and a round tries each deletion of one line.
use Rattle.std.proofs.Common.{◌≡◌, ◌<◌, ℕ, zero, suc, Bool, true, false, List, [], ◌∷◌, length, replicate, remove, slice_set, sym, ap, ◌∙◌, subst, arith}
use Rattle.std.proofs.lemmas.Bool.{false≢true}
use Rattle.list_ddmin.specs.ListStep.{kept_of}
use Rattle.list_ddmin.specs.Machine.{start as list_start}
use Rattle.list_ddmin.specs.Asked.{KeepsFewer, KeepsOnlyOf}
use Rattle.list_ddmin.proofs.Lent.{length-kept_of as count-kept_of}
use Rattle.reduce_rounds.specs.Trials.{EachIsSmaller, IsTriedAtNo, Done}
use Rattle.reduce_rounds.specs.Mode.{IsLawful, Keeps, TriesEdits}
use Rattle.reduce_rounds.proofs.Lent.{becomes_smaller, tries_selections, tries_deletions}
use Rattle.reduce_core.specs.declared.lines.Line.{Line}
use Rattle.reduce_core.specs.Lines.{numbered_lines}
use Rattle.reduce_core.specs.Candidates.{IsLineEdit}
use Rattle.reduce_core.specs.LineMode.{AreOfStart, LineInput, line_mode, line_trials}
use Rattle.reduce_core.proofs.Keeping.{kept_of-all}
use Rattle.reduce_core.proofs.Subsequences.{all-subsequence, kept-subsequence}

flags-same : (question keep : List Bool) → KeepsOnlyOf question keep → length question ≡ length keep
flags-same [] [] only = omega arith
flags-same [] (kept ∷ keep) only = absurd only
flags-same (asked ∷ question) [] only = absurd only
flags-same (asked ∷ question) (kept ∷ keep) only = ap (λ n. suc n) (flags-same question keep only.1)

-- fewer flags keep fewer lines
fewer-lines : (lines : List Line) (question keep : List Bool) → length keep ≡ length lines → KeepsFewer question keep
    → length (kept_of question lines) < length (kept_of keep lines)
fewer-lines lines question keep same less =
    let fewer = less.fewer in
    let all = flags-same question keep less.only in
    let count = count-kept_of Line question lines (sym (all ∙ same)) in
    let count' = count-kept_of Line keep lines (sym same) in
    omega arith

-- without one of the lines
kept_of-without : (lines : List Line) (k : ℕ) → k < length lines → kept_of (slice_set (replicate (length lines) true) k false) lines ≡ remove lines k
kept_of-without [] k within = absurd (omega arith)
kept_of-without (line ∷ lines) zero within = kept_of-all lines
kept_of-without (line ∷ lines) (suc k) within = ap (λ rest. line ∷ rest) (kept_of-without lines k (omega arith))

line_keeps : (input : LineInput) → Keeps (line_mode input) (AreOfStart input)
line_keeps input = record {
  start = all-subsequence (numbered_lines input.start);
  opening = tt;
  round = λ lines of_start. tries_selections (AreOfStart input) (λ keep. kept_of keep lines) (λ keep. Done) (length lines) true
      (λ keep selection. kept-subsequence keep lines (numbered_lines input.start) of_start) (λ keep remainder. tt);
  phase = λ lines of_start. tt;
}

pub smaller-round : (lines : List Line) → EachIsSmaller (λ (l : List Line). length l) (length lines) (line_trials lines (list_start (length lines) true))
smaller-round lines =
    subst (λ (l : List Line). EachIsSmaller (λ (m : List Line). length m) (length l) (line_trials lines (list_start (length lines) true))) (kept_of-all lines)
    (becomes_smaller (λ (l : List Line). length l) (λ keep. kept_of keep lines) (λ keep. Done) (length lines) true (fewer-lines lines) (λ keep remainder. tt))

pub line_lawful : (input : LineInput) → IsLawful (line_mode input) (AreOfStart input)
line_lawful input = record { keeps = line_keeps input; smaller = λ lines of_start. smaller-round lines; phases = λ lines of_start. tt }

pub line_tries_edits : (input : LineInput) → TriesEdits (line_mode input) (AreOfStart input) IsLineEdit
line_tries_edits input lines other of_start edit =
    subst (λ (l : List Line). IsTriedAtNo (line_trials lines (list_start (length lines) true)) l) (kept_of-without lines edit.0 edit.1 ∙ sym edit.2)
    ((tries_deletions (λ keep. kept_of keep lines) (λ keep. Done) (length lines) true).0 edit.0 edit.1 (λ no. absurd (false≢true (sym no))))
