use Rattle.std.proofs.Common.{◌≡◌, take}
use Rattle.cert_check.proofs.check.keep_texts.Given as goal

abbrev pub invariant-loop-keep : goal.invariant-loop-keep
invariant-loop-keep l = l.texts ≡ take l.keep-index l.keeps
