use Rattle.cert_check_texts.proofs.Members.{first_among}
use Rattle.cert_check_texts.proofs.reached.first_few.Goals as goal

pub returns : goal.returns
returns c = first_among 8 c.args.pairs.items c.sorted-few.result.items c.truncate.new.self.items c.truncate.ensures.items c.sorted-few.ensures.same
