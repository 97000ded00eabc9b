use Rattle.cert_check_texts.proofs.Members.{both_lists}
use Rattle.cert_check_texts.proofs.reached.united.Goals as goal

pub returns-clause-both : goal.returns-clause-both
returns-clause-both c =
    both_lists c.args.pairs.items c.args.others.now c.extend_from_slice.new.self.items _ c.in_ok-extend_from_slice.ensures.items c.sorted.ensures.same
