mod ShowLemmas
