mod Files
mod Names
mod Exporting
mod Stays
mod Sounds
mod Started
