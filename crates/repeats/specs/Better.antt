-- What the greater of two patterns promises. Assumes nothing.
use Rattle.std.specs.Prelude.{◌≡◌, ◌⊎◌}
use Rattle.words.proofs.Tops.{Wins}
use Rattle.repeats.specs.declared.Found.{Found}

-- r is the one of a and b that wins: it is worth more, or as much and no longer
abbrev pub Better : Found → Found → Found → Type 0
Better a b r = ((r ≡ a) × Wins a.len a.count b.len b.count) ⊎ ((r ≡ b) × Wins b.len b.count a.len a.count)
