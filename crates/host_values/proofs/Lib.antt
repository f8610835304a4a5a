mod Collected
mod Elements
mod LawLemmas
