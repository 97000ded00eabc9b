use Rattle.std.proofs.Common.{sym}
use Rattle.cert_check.proofs.Numbered.{filled_found}
use Rattle.cert_check.proofs.asked.asked_record.Goals as goal

pub returns-in-Filled : goal.returns-in-Filled
returns-in-Filled g c = (
  c.in_ok-text.text.now,
  sym c.in_ok-text.ensures.text,
  filled_found c.args.table.now c.in_ok-text.text.now c.in-Filled.claim c.in-Filled.number c.in-Filled.verdict (sym c.in-Filled.ensures.found),
  sym c.in-Filled.ensures.verdict,
)
