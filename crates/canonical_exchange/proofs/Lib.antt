-- A tree does not depend on a register that its form does not read; so two instructions that are apart may be exchanged, and each register has the same tree.
pub mod Swap
