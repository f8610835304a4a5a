mod Slots
mod Acting
mod Anew
mod Reacting
mod Elims
mod Staying
mod Places
