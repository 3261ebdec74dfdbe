-- What the parts of the C face are read off. Assumes nothing.
use Rattle.words.proofs.Places.{places_none}
use Rattle.finder.proofs.Patterns.{pattern_no, part_length}
use Rattle.finder.proofs.Results.{log_back, prefix_back}

pub ruleset faces = (places_none, pattern_no, part_length, log_back, prefix_back)
