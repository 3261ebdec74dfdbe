-- Work arrays: zeros in every place, with room for every log that is judged, and what a table function leaves in one. Assumes nothing.
use Rattle.std.proofs.Common.{◌≡◌, List, ℕ, ◌+◌, ◌≤◌, arith, length, replicate}
use lib.ListN.{length-replicate, get_or-replicate}
use Rattle.words.specs.Tables.{Column, written}
use Rattle.words.specs.Refusals.{longest}
use Rattle.words.proofs.Tables.{Holds, written_holds}
use Rattle.cover.specs.Tree.{Blank}

pub work_holds : (f : Column) (x : List ℕ) {t : List ℕ} → length x ≤ longest → t ≡ written (f x) (length x) (replicate longest 0) → Holds f x t
work_holds f x h e = written_holds f x (replicate longest 0) (omega (arith, length-replicate {A = ℕ} longest 0)) e

-- the arrays for the tree of the cover table
pub work_blank : (x : List ℕ) → length x ≤ longest → Blank x (replicate (longest + 1) 0) (replicate (longest + 1) 0)
work_blank x h = record {
  ups = omega (arith, length-replicate {A = ℕ} (longest + 1) 0);
  counts = omega (arith, length-replicate {A = ℕ} (longest + 1) 0);
  root = get_or-replicate (longest + 1) 0 0 0 (omega arith);
  none = λ a l. get_or-replicate (longest + 1) a 0 0 (omega arith);
}
