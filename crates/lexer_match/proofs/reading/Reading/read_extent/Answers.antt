use Rattle.std.proofs.Common.{◌≡◌, ◌⊎◌, inl, ◌↔◌, [], ◌∷◌, List, ℕ, ◌-◌, ◌+◌, Vec, Global, length, refl, sym, ap, ◌∙◌, subst, false, arith}
use Rattle.std.specs.List.{Contains}
use Rattle.std.specs.Prelude.{encode_utf8_all}
use Rattle.std.specs.Str.Iter.{chars_rest}
use Rattle.lexer_match.specs.declared.dead.DeadSets.{DeadSets}
use Rattle.lexer_match.specs.declared.dead.SetAt.{SetAt}
use Rattle.lexer_match.specs.declared.state_set.StateSet.{StateSet}
use Rattle.lexer_match.specs.Dead.{AreDead}
use Rattle.lexer_match.specs.inner.Dead.{IsKnownDead, IsSetAt}
use Rattle.lexer_match.specs.StateSets.{ReadsFrom}
use Rattle.lexer_match.specs.inner.StateSets.{IsFollowed}
use Rattle.lexer_match.proofs.Best.{IsSoFar, bytes_left, fits_more, so_far_none}
use Rattle.lexer_match.proofs.Found.{in_some}
use Rattle.lexer_match.proofs.Living.{IsFlagged}
use Rattle.lexer_match.proofs.Outcomes.{IsAt, end_extent, end_stuck, known_extent, on_now, open_none, over_extent, over_stuck, read_more}
use Rattle.lexer_match.proofs.Traced.{ready_same, stuck_known, traced_both, traced_dead, traced_more}
use Rattle.lexer_match.proofs.reading.Reading.read_extent.Goals as goal

no_item : {A : Type 0} (p : SetAt) → Contains [] p → A
no_item p (i, inside, e) = absurd (omega (arith, inside))

in_same : (new old : List SetAt) (p : SetAt) → new ≡ old → Contains new p → Contains old p
in_same new old p e k = let Q : List SetAt → Type 0 = λ x. Contains x p in subst Q e k

pub loop-rest-init : goal.loop-rest-init
loop-rest-init c =
    let P : List ℕ → Type 0 = λ x. IsSoFar c.args.nfa.now c.args.alternative c.args.text.now c.begin.new.self.states.items x 0 0 in
    record {
      ready = record {
        current_size = c.in_ok-begin.ensures.size ∙ c.requires.ready.current_size;
        current_marked = c.in_ok-begin.ensures.marked;
        next_size = c.requires.ready.next_size;
        next_marked = c.requires.ready.next_marked;
      };
      followed = c.in_ok-begin.ensures.followed;
      dead = refl;
      traced = λ p k. no_item p (let Q : List SetAt → Type 0 = λ x. Contains x p in subst Q c.clear.ensures.items k);
      so_far =
          subst P (sym c.chars-rest.ensures.rest) (so_far_none c.args.nfa.now c.args.alternative c.args.text.now c.begin.new.self.states.items c.utf8.text
          c.in_ok-begin.ensures.reads);
    }

pub returns-then-is_over-clause-ready : goal.returns-then-is_over-clause-ready
returns-then-is_over-clause-ready c =
    ready_same (length c.args.nfa.now) c.loop-rest.self c.has_ended-ended.new.self c.has_ended-ended.ensures.current c.has_ended-ended.ensures.next
    c.loop-rest.invariant.ready

pub returns-then-is_over-clause-extent : goal.returns-then-is_over-clause-extent
returns-then-is_over-clause-extent c =
    let P = c.args.nfa.now in
    let a = c.args.alternative in
    let text = c.args.text.now in
    let states = c.loop-rest.self.current.states.items in
    let marks = c.loop-rest.self.current.marks.items in
    let flags = c.args.live.now in
    let rest = chars_rest c.loop-rest.rest in
    let read = c.loop-rest.read in
    let longest = c.loop-rest.longest in
    let s = c.loop-rest.invariant.so_far in
    let ended = c.has_ended-ended.result in
    let on = c.has_flagged-goes_on.result in
    let now = c.last_match-longest.result in
    let remaining = length text - read in
    let left : length rest ≡ remaining = omega (arith, bytes_left P a text states rest read longest s) in
    let count : read + remaining ≡ length text = omega (arith, bytes_left P a text states rest read longest s) in
    let F : StateSet → Type 0 = λ x. IsFlagged flags x.states.items on in
    let at : IsAt P a text states rest read longest marks flags ended on now = record {
      so_far = s;
      exact = c.loop-rest.invariant.ready.current_marked;
      followed = c.loop-rest.invariant.followed;
      live = c.requires.live;
      ends = c.has_ended-ended.ensures.ended;
      flagged = subst F c.has_ended-ended.ensures.current (record { some = c.has_flagged-goes_on.ensures.some; none = c.has_flagged-goes_on.ensures.none });
      longest_is = c.last_match-longest.ensures;
    } in
    over_extent P a text states rest read longest marks flags ended on now at remaining count (c.is_over.ensures.yes c.if-is_over.true)

pub returns-then-is_over-clause-traced : goal.returns-then-is_over-clause-traced
returns-then-is_over-clause-traced c =
    let P = c.args.nfa.now in
    let a = c.args.alternative in
    let text = c.args.text.now in
    let states = c.loop-rest.self.current.states.items in
    let marks = c.loop-rest.self.current.marks.items in
    let flags = c.args.live.now in
    let rest = chars_rest c.loop-rest.rest in
    let read = c.loop-rest.read in
    let longest = c.loop-rest.longest in
    let s = c.loop-rest.invariant.so_far in
    let ended = c.has_ended-ended.result in
    let on = c.has_flagged-goes_on.result in
    let now = c.last_match-longest.result in
    let remaining = length text - read in
    let left : length rest ≡ remaining = omega (arith, bytes_left P a text states rest read longest s) in
    let count : read + remaining ≡ length text = omega (arith, bytes_left P a text states rest read longest s) in
    let F : StateSet → Type 0 = λ x. IsFlagged flags x.states.items on in
    let at : IsAt P a text states rest read longest marks flags ended on now = record {
      so_far = s;
      exact = c.loop-rest.invariant.ready.current_marked;
      followed = c.loop-rest.invariant.followed;
      live = c.requires.live;
      ends = c.has_ended-ended.ensures.ended;
      flagged = subst F c.has_ended-ended.ensures.current (record { some = c.has_flagged-goes_on.ensures.some; none = c.has_flagged-goes_on.ensures.none });
      longest_is = c.last_match-longest.ensures;
    } in
    let cleared = c.has_ended-ended.new.self.trace.items in
    let both =
    traced_both P text states rest (encode_utf8_all s.done) c.loop-rest.self.trace.items cleared cleared ended remaining c.has_ended-ended.ensures.none
    c.has_ended-ended.ensures.same (λ p k. inl k) c.loop-rest.invariant.traced s.bytes left in
    λ whole ends p k. let (unended, t) =
    both p k in
    traced_dead P text states rest p t _ (over_stuck P a text states rest read longest marks flags ended on now at remaining count
    (c.is_over.ensures.yes c.if-is_over.true) unended) whole ends

pub returns-in-Some-clause-ready : goal.returns-in-Some-clause-ready
returns-in-Some-clause-ready c =
    ready_same (length c.args.nfa.now) c.loop-rest.self c.known_end.new.self (c.in_ok-known.ensures.current ∙ c.has_ended-ended.ensures.current)
    (c.in_ok-known.ensures.next ∙ c.has_ended-ended.ensures.next) c.loop-rest.invariant.ready

pub returns-in-Some-clause-extent : goal.returns-in-Some-clause-extent
returns-in-Some-clause-extent c =
    let P = c.args.nfa.now in
    let a = c.args.alternative in
    let text = c.args.text.now in
    let states = c.loop-rest.self.current.states.items in
    let marks = c.loop-rest.self.current.marks.items in
    let flags = c.args.live.now in
    let rest = chars_rest c.loop-rest.rest in
    let read = c.loop-rest.read in
    let longest = c.loop-rest.longest in
    let s = c.loop-rest.invariant.so_far in
    let ended = c.has_ended-ended.result in
    let on = c.has_flagged-goes_on.result in
    let now = c.last_match-longest.result in
    let remaining = length text - read in
    let left : length rest ≡ remaining = omega (arith, bytes_left P a text states rest read longest s) in
    let count : read + remaining ≡ length text = omega (arith, bytes_left P a text states rest read longest s) in
    let F : StateSet → Type 0 = λ x. IsFlagged flags x.states.items on in
    let at : IsAt P a text states rest read longest marks flags ended on now = record {
      so_far = s;
      exact = c.loop-rest.invariant.ready.current_marked;
      followed = c.loop-rest.invariant.followed;
      live = c.requires.live;
      ends = c.has_ended-ended.ensures.ended;
      flagged = subst F c.has_ended-ended.ensures.current (record { some = c.has_flagged-goes_on.ensures.some; none = c.has_flagged-goes_on.ensures.none });
      longest_is = c.last_match-longest.ensures;
    } in
    let D : DeadSets → Type 0 = λ x. AreDead P text x in
    let K : StateSet → Type 0 = λ x. (ended ≡ false) × IsKnownDead c.has_ended-ended.new.self.dead remaining x.states.items c.in-Some.seen in
    let (unended, is) =
    subst K c.has_ended-ended.ensures.current
    (in_some c.in_ok-known.known c.in-Some.seen (λ seen. (ended ≡ false)
    × IsKnownDead c.has_ended-ended.new.self.dead remaining c.has_ended-ended.new.self.current.states.items seen) c.in-Some.is c.in_ok-known.ensures.known) in
    let stuck =
    stuck_known P text states rest (encode_utf8_all s.done) c.has_ended-ended.new.self.dead remaining c.in-Some.seen s.bytes left
    (subst D (sym (c.has_ended-ended.ensures.dead ∙ c.loop-rest.invariant.dead)) c.requires.dead) is in
    known_extent P a text states rest read longest marks flags ended on now at c.in-Some.seen unended stuck

pub returns-in-Some-clause-traced : goal.returns-in-Some-clause-traced
returns-in-Some-clause-traced c =
    let P = c.args.nfa.now in
    let a = c.args.alternative in
    let text = c.args.text.now in
    let states = c.loop-rest.self.current.states.items in
    let marks = c.loop-rest.self.current.marks.items in
    let flags = c.args.live.now in
    let rest = chars_rest c.loop-rest.rest in
    let read = c.loop-rest.read in
    let longest = c.loop-rest.longest in
    let s = c.loop-rest.invariant.so_far in
    let ended = c.has_ended-ended.result in
    let on = c.has_flagged-goes_on.result in
    let now = c.last_match-longest.result in
    let remaining = length text - read in
    let left : length rest ≡ remaining = omega (arith, bytes_left P a text states rest read longest s) in
    let count : read + remaining ≡ length text = omega (arith, bytes_left P a text states rest read longest s) in
    let F : StateSet → Type 0 = λ x. IsFlagged flags x.states.items on in
    let at : IsAt P a text states rest read longest marks flags ended on now = record {
      so_far = s;
      exact = c.loop-rest.invariant.ready.current_marked;
      followed = c.loop-rest.invariant.followed;
      live = c.requires.live;
      ends = c.has_ended-ended.ensures.ended;
      flagged = subst F c.has_ended-ended.ensures.current (record { some = c.has_flagged-goes_on.ensures.some; none = c.has_flagged-goes_on.ensures.none });
      longest_is = c.last_match-longest.ensures;
    } in
    let before = c.loop-rest.self.trace.items in
    let cleared = c.has_ended-ended.new.self.trace.items in
    let L : StateSet → Type 0 =
    λ x. (p : SetAt) → Contains c.known_end.new.self.trace.items p → Contains cleared p ⊎ ((ended ≡ false) × IsSetAt remaining x.states.items p) in
    let both =
    traced_both P text states rest (encode_utf8_all s.done) before cleared c.known_end.new.self.trace.items ended remaining c.has_ended-ended.ensures.none
    c.has_ended-ended.ensures.same (subst L c.has_ended-ended.ensures.current c.in_ok-known.ensures.traced) c.loop-rest.invariant.traced s.bytes left in
    let D : DeadSets → Type 0 = λ x. AreDead P text x in
    let K : StateSet → Type 0 = λ x. (ended ≡ false) × IsKnownDead c.has_ended-ended.new.self.dead remaining x.states.items c.in-Some.seen in
    let (unended, is) = subst K c.has_ended-ended.ensures.current
    (in_some c.in_ok-known.known c.in-Some.seen
    (λ seen. (ended ≡ false) × IsKnownDead c.has_ended-ended.new.self.dead remaining c.has_ended-ended.new.self.current.states.items seen) c.in-Some.is
    c.in_ok-known.ensures.known) in
    let stuck = stuck_known P text states rest (encode_utf8_all s.done) c.has_ended-ended.new.self.dead remaining c.in-Some.seen s.bytes left
    (subst D (sym (c.has_ended-ended.ensures.dead ∙ c.loop-rest.invariant.dead)) c.requires.dead) is in
    λ whole ends p k. traced_dead P text states rest p (both p k).1 c.in-Some.seen stuck whole ends

pub returns-in_default-next-clause-ready : goal.returns-in_default-next-clause-ready
returns-in_default-next-clause-ready c =
    ready_same (length c.args.nfa.now) c.loop-rest.self c.known_end.new.self
    (c.in_ok-known.ensures.current ∙ c.has_ended-ended.ensures.current)
    (c.in_ok-known.ensures.next ∙ c.has_ended-ended.ensures.next) c.loop-rest.invariant.ready

pub returns-in_default-next-clause-extent : goal.returns-in_default-next-clause-extent
returns-in_default-next-clause-extent c =
    let P = c.args.nfa.now in
    let a = c.args.alternative in
    let text = c.args.text.now in
    let states = c.loop-rest.self.current.states.items in
    let marks = c.loop-rest.self.current.marks.items in
    let flags = c.args.live.now in
    let rest = chars_rest c.loop-rest.rest in
    let read = c.loop-rest.read in
    let longest = c.loop-rest.longest in
    let s = c.loop-rest.invariant.so_far in
    let ended = c.has_ended-ended.result in
    let on = c.has_flagged-goes_on.result in
    let now = c.last_match-longest.result in
    let remaining = length text - read in
    let left : length rest ≡ remaining = omega (arith, bytes_left P a text states rest read longest s) in
    let count : read + remaining ≡ length text = omega (arith, bytes_left P a text states rest read longest s) in
    let F : StateSet → Type 0 = λ x. IsFlagged flags x.states.items on in
    let at : IsAt P a text states rest read longest marks flags ended on now = record {
      so_far = s;
      exact = c.loop-rest.invariant.ready.current_marked;
      followed = c.loop-rest.invariant.followed;
      live = c.requires.live;
      ends = c.has_ended-ended.ensures.ended;
      flagged = subst F c.has_ended-ended.ensures.current (record { some = c.has_flagged-goes_on.ensures.some; none = c.has_flagged-goes_on.ensures.none });
      longest_is = c.last_match-longest.ensures;
    } in
    end_extent P a text states rest read longest marks flags ended on now at (c.is_over.ensures.goes_on c.if-is_over.false)
    (c.is_over.ensures.no c.if-is_over.false) c.in_default-next.ensures.steps.0.0

pub returns-in_default-next-clause-traced : goal.returns-in_default-next-clause-traced
returns-in_default-next-clause-traced c =
    let P = c.args.nfa.now in
    let a = c.args.alternative in
    let text = c.args.text.now in
    let states = c.loop-rest.self.current.states.items in
    let marks = c.loop-rest.self.current.marks.items in
    let flags = c.args.live.now in
    let rest = chars_rest c.loop-rest.rest in
    let read = c.loop-rest.read in
    let longest = c.loop-rest.longest in
    let s = c.loop-rest.invariant.so_far in
    let ended = c.has_ended-ended.result in
    let on = c.has_flagged-goes_on.result in
    let now = c.last_match-longest.result in
    let remaining = length text - read in
    let left : length rest ≡ remaining = omega (arith, bytes_left P a text states rest read longest s) in
    let count : read + remaining ≡ length text = omega (arith, bytes_left P a text states rest read longest s) in
    let F : StateSet → Type 0 = λ x. IsFlagged flags x.states.items on in
    let at : IsAt P a text states rest read longest marks flags ended on now = record {
      so_far = s;
      exact = c.loop-rest.invariant.ready.current_marked;
      followed = c.loop-rest.invariant.followed;
      live = c.requires.live;
      ends = c.has_ended-ended.ensures.ended;
      flagged = subst F c.has_ended-ended.ensures.current (record { some = c.has_flagged-goes_on.ensures.some; none = c.has_flagged-goes_on.ensures.none });
      longest_is = c.last_match-longest.ensures;
    } in
    let before = c.loop-rest.self.trace.items in
    let cleared = c.has_ended-ended.new.self.trace.items in
    let L : StateSet → Type 0 = λ x. (p : SetAt) → Contains c.known_end.new.self.trace.items p → Contains cleared p
    ⊎ ((ended ≡ false) × IsSetAt remaining x.states.items p) in
    let both = traced_both P text states rest
    (encode_utf8_all s.done) before cleared c.known_end.new.self.trace.items ended remaining c.has_ended-ended.ensures.none c.has_ended-ended.ensures.same
    (subst L c.has_ended-ended.ensures.current c.in_ok-known.ensures.traced) c.loop-rest.invariant.traced s.bytes left in
    λ whole ends p k. let (unended, t) =
    both p k in
    traced_dead P text states rest p t _ (end_stuck P a text states rest read longest marks flags ended on now at (c.is_over.ensures.goes_on c.if-is_over.false)
    (c.is_over.ensures.no c.if-is_over.false) c.in_default-next.ensures.steps.0.0 unended) whole ends

pub step-requires-clause-ready : goal.step-requires-clause-ready
step-requires-clause-ready c =
    ready_same (length c.args.nfa.now) c.loop-rest.self
    c.known_end.new.self (c.in_ok-known.ensures.current ∙ c.has_ended-ended.ensures.current)
    (c.in_ok-known.ensures.next ∙ c.has_ended-ended.ensures.next) c.loop-rest.invariant.ready

pub step-requires-clause-followed : goal.step-requires-clause-followed
step-requires-clause-followed c =
    let F : StateSet → Type 0 = λ x. IsFollowed c.args.nfa.now x.states.items in
    subst F (sym (c.in_ok-known.ensures.current ∙ c.has_ended-ended.ensures.current)) c.loop-rest.invariant.followed

pub loop-rest-preserved : goal.loop-rest-preserved
loop-rest-preserved c =
    let P = c.args.nfa.now in
    let a = c.args.alternative in
    let text = c.args.text.now in
    let states = c.loop-rest.self.current.states.items in
    let marks = c.loop-rest.self.current.marks.items in
    let flags = c.args.live.now in
    let rest = chars_rest c.loop-rest.rest in
    let read = c.loop-rest.read in
    let longest = c.loop-rest.longest in
    let s = c.loop-rest.invariant.so_far in
    let ended = c.has_ended-ended.result in
    let on = c.has_flagged-goes_on.result in
    let now = c.last_match-longest.result in
    let remaining = length text - read in
    let left : length rest ≡ remaining = omega (arith, bytes_left P a text states rest read longest s) in
    let count : read + remaining ≡ length text = omega (arith, bytes_left P a text states rest read longest s) in
    let F : StateSet → Type 0 = λ x. IsFlagged flags x.states.items on in
    let at : IsAt P a text states rest read longest marks flags ended on now = record {
      so_far = s;
      exact = c.loop-rest.invariant.ready.current_marked;
      followed = c.loop-rest.invariant.followed;
      live = c.requires.live;
      ends = c.has_ended-ended.ensures.ended;
      flagged = subst F c.has_ended-ended.ensures.current (record { some = c.has_flagged-goes_on.ensures.some; none = c.has_flagged-goes_on.ensures.none });
      longest_is = c.last_match-longest.ensures;
    } in
    let before = c.loop-rest.self.trace.items in
    let cleared = c.has_ended-ended.new.self.trace.items in
    let L : StateSet → Type 0 = λ x. (p : SetAt) → Contains c.known_end.new.self.trace.items p
    → Contains cleared p ⊎ ((ended ≡ false) × IsSetAt remaining x.states.items p) in
    let both = traced_both P text states rest (encode_utf8_all s.done) before cleared c.known_end.new.self.trace.items ended remaining
    c.has_ended-ended.ensures.none c.has_ended-ended.ensures.same
    (subst L c.has_ended-ended.ensures.current c.in_ok-known.ensures.traced) c.loop-rest.invariant.traced s.bytes left in
    let new = c.step.new.self.current.states.items in
    let R : StateSet → Type 0 = λ x. (w : List ℕ) → ReadsFrom P new w ↔ ReadsFrom P x.states.items (c.in-Some-next.c ∷ w) in
    let step = subst R (c.in_ok-known.ensures.current ∙ c.has_ended-ended.ensures.current) c.in_ok-step.ensures.reads in
    record {
      ready = c.in_ok-step.ensures.ready;
      followed = c.in_ok-step.ensures.followed;
      dead = c.in_ok-step.ensures.dead ∙ c.in_ok-known.ensures.dead ∙ c.has_ended-ended.ensures.dead ∙ c.loop-rest.invariant.dead;
      traced = λ p k.
          let (unended, t) =
          both p (in_same c.step.new.self.trace.items c.known_end.new.self.trace.items p
          (ap (λ (x : Vec SetAt Global). x.items) c.in_ok-step.ensures.trace) k) in
          traced_more P text states rest p t c.in-Some-next.c (chars_rest c.next.new.self) new s.utf8 c.in-Some-next.ensures.steps.0
          (open_none P a text states rest read longest marks flags ended on now at unended)
          (on_now P a text states rest read longest marks flags ended on now at (c.is_over.ensures.goes_on c.if-is_over.false)
          (c.is_over.ensures.no c.if-is_over.false)) step;
      so_far =
          read_more P a text states rest read longest marks flags ended on now at (c.is_over.ensures.goes_on c.if-is_over.false)
          (c.is_over.ensures.no c.if-is_over.false) c.in-Some-next.c
          (chars_rest c.next.new.self) new c.bytes_after-read.result c.in-Some-next.ensures.steps.0 c.bytes_after-read.ensures step;
    }

pub bytes_after-read-requires : goal.bytes_after-read-requires
bytes_after-read-requires c =
    let rest = chars_rest c.loop-rest.rest in
    let fits =
    fits_more c.args.nfa.now c.args.alternative c.args.text.now c.loop-rest.self.current.states.items rest c.loop-rest.read c.loop-rest.longest
    c.loop-rest.invariant.so_far c.in-Some-next.c (chars_rest c.next.new.self) c.in-Some-next.ensures.steps.0 in
    omega (arith, fits)
