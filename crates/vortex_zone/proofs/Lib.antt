pub mod Pruning
