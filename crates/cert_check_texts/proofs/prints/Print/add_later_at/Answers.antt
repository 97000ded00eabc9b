use Rattle.std.proofs.Common.{◌≡◌, ℕ, List, true, get_or, length, ltb, ltb-true, sym}
use Rattle.std.specs.List.{Contains}
use Rattle.std.proofs.lemmas.Result.{on_ok_weaker}
use Rattle.cert_check_texts.proofs.Steps.{some_later}
use Rattle.cert_check_texts.proofs.prints.Print.add_later_at.Goals as goal

-- one that is read is there
read : (list : List ℕ) (place index : ℕ) → true ≡ ltb place (length list) → index ≡ get_or list place index → Contains list index
read list place index within is = (place, ltb-true place (length list) (sym within), sym is)

pub add_later-requires-clause-there : goal.add_later-requires-clause-there
add_later-requires-clause-there c =
    c.requires.there c.in-Some.index.now
    (read c.args.equal.now c.args.place c.in-Some.index.now c.in-Some.ensures.lookup.0 c.in-Some.ensures.lookup.1)

pub returns-in-Some : goal.returns-in-Some
returns-in-Some c =
    let at = read c.args.equal.now c.args.place c.in-Some.index.now c.in-Some.ensures.lookup.0 c.in-Some.ensures.lookup.1 in
    on_ok_weaker c.add_later.result
    (λ with spelling froms of among are. some_later c.args.self.now spelling froms c.args.from c.in-Some.index.now c.args.pairs.now.items
    c.add_later.new.pairs.items (of c.in-Some.index.now at).1 among are with)
    c.add_later.ensures
