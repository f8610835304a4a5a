mod FirstFile
mod Consuming
