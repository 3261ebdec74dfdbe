-- A place lies within the plot. Assumes nothing.
use Rattle.std.proofs.Common.{ℕ, ◌*◌, ◌/◌, ◌<◌, ◌≤◌, le_of_lt, mul-le-mul_right}
use Rattle.std.proofs.Math.Nat.{div-le_of_le-mul}

pub part_of_width : (k n w : ℕ) → k < n → k * w / n ≤ w
part_of_width k n w h = div-le_of_le-mul n (mul-le-mul_right w (le_of_lt h))
