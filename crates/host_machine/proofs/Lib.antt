mod Terms
mod Told
mod Lists
mod Others
mod Worked
