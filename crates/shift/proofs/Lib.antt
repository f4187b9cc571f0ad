-- Lemmas that several proofs share.
mod Cuts
mod Keywords
mod Listed
mod Meaning
