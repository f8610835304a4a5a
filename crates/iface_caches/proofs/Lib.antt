mod Lists
mod Equal
mod Indexed
mod Agreeing
mod LawLemmas
mod WholeLemmas
