mod Pairs
mod Loading
mod Finding
