pub mod Alignments
