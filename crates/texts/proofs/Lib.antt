mod Cuts
mod Facts
