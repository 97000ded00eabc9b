mod HeldLemmas
mod JoinedLemmas
