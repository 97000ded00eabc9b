-- What is printed of a cause.
use Rattle.std.specs.Prelude.{ℕ, List, ◌++◌, codes}
use Rattle.std.specs.Fmt.{decimal}
use Rattle.cert_check.specs.declared.finding.Why.{Why}
use Rattle.cert_check.specs.declared.finding.Why.TheVariants.{Torn, OtherStart, NotLegal, NotCandidate, Unfinished, StartIsNo, OtherResult}

abbrev pub why_text : Why → List ℕ
why_text (Torn bytes) = codes "torn journal"
why_text OtherStart = codes "other start"
why_text (NotLegal event) = codes "event " ++ (decimal event ++ codes " is not legal")
why_text (NotCandidate number) = codes "record " ++ (decimal number ++ codes " is not a candidate")
why_text Unfinished = codes "unfinished"
why_text StartIsNo = codes "start is no"
why_text OtherResult = codes "other result"
