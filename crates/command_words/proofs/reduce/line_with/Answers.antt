use Rattle.std.proofs.Common.{◌∙◌, codes, map, refl}
use Rattle.command_words.specs.Lines.{mode_of, protects_read}
use Rattle.command_words.specs.Tables.{reduce_table}
use Rattle.command_words.proofs.Assembled.{line_without_files, line_without_jobs, line_without_mode, line_without_respell, reduce_chooses, this_line}
use Rattle.command_words.proofs.Firsts.{first_or}
use Rattle.command_words.proofs.FoundValues.{named_by}
use Rattle.command_words.proofs.reduce.line_with.Goals as goal

pub returns-in_err-files-clause-line : goal.returns-in_err-files-clause-line
returns-in_err-files-clause-line c = λ uses has. rw c.from_residual.ensures (line_without_files uses _ _ (c.in_err-files.ensures uses has))

pub returns-in_err-mode-clause-line : goal.returns-in_err-mode-clause-line
returns-in_err-mode-clause-line c = λ uses has.
    rw c.from_residual-in_err-mode.ensures (line_without_mode uses _ _ (c.in_err-mode.ensures reduce_table uses reduce_chooses has))

pub returns-in_err-respell-clause-line : goal.returns-in_err-respell-clause-line
returns-in_err-respell-clause-line c = λ uses has.
    rw c.from_residual-in_err-respell.ensures (line_without_respell uses _ _ (c.in_err-respell.ensures uses has))

pub returns-in_err-jobs-clause-line : goal.returns-in_err-jobs-clause-line
returns-in_err-jobs-clause-line c = λ uses has. rw c.from_residual-in_err-jobs.ensures (line_without_jobs uses _ _ (c.in_err-jobs.ensures.jobs uses has))

pub returns-clause-line : goal.returns-clause-line
returns-clause-line c = λ uses has.
    let m = c.args.matches.now in
    let work = first_or reduce_table uses m (codes "work") has (named_by reduce_table (codes "work") refl) _ _ _ c.get_str-3.ensures c.unwrap_or.ensures in
    this_line uses (mode_of c.in_ok-mode.mode) c.in_ok-respell.respell c.in_ok-jobs.jobs (map (λ keep. keep.now) c.args.keeps.items)
    (protects_read c.args.protects) _ _ _ _ _ _
    (c.in_ok-files.ensures uses has)
    (c.get_str.ensures ∙ has.has.first (codes "journal") (named_by reduce_table (codes "journal") refl))
    (c.get_str-2.ensures ∙ has.has.first (codes "resume") (named_by reduce_table (codes "resume") refl)) work
    (c.in_ok-mode.ensures reduce_table uses reduce_chooses has)
    (c.in_ok-respell.ensures uses has)
    (c.in_ok-jobs.ensures.jobs uses has)
