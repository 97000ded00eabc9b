mod PrintLemmas
mod PrintedSymbols
mod Rows
