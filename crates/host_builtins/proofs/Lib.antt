mod Arguments
mod Pushing
mod Soundness
