mod AnswerLemmas
mod OneFault
mod PairAnswerLemmas
