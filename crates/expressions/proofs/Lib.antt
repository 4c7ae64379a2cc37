mod Ranks
mod PackedTerms
mod PackedRanks
