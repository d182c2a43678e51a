mod LoneLemmas
