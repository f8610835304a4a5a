mod Changing
mod KeptKinds
mod LiveHeaps
mod LiveRules
mod LiveSteps
mod WaitingRules
mod WaitingSteps
