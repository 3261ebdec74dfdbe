-- A middle part of a table, as the code cuts it: what is written there, seen in the whole table. Assumes nothing.
use Rattle.std.proofs.Common.{◌≡◌, ap, ◌∙◌, List, [], ◌++◌, append-nil, ℕ, ◌+◌, ◌-◌, ◌≤◌, arith, eqb, length, take, drop, drop_of_length-le}
use Rattle.words.specs.Words.{total}
use Rattle.words.specs.Tables.{Column, written, window, placed}
use Rattle.words.specs.Refusals.{longest}
use Rattle.words.proofs.Tables.{Room, length_window}

-- the part from a up to a + m
abbrev pub part : ℕ → ℕ → List ℕ → List ℕ
part a m l = take (a + m - a) (drop a l)

part_window : (a m : ℕ) (x : List ℕ) → part a m x ≡ window a m x
unfolding window
part_window a m x = let k : a + m - a ≡ m = omega arith in rw k

part_length : (a m : ℕ) (l : List ℕ) → a + m ≤ length l → length (part a m l) ≡ m
part_length a m l h = ap length (part_window a m l) ∙ length_window a m l h

pub part_room : (a m : ℕ) (x t : List ℕ) → length x ≤ longest → a + m ≤ length x → a + m ≤ length t → Room (part a m x) (part a m t)
part_room a m x t s h l = record { most = omega (arith, part_length a m x h); room = omega (arith, part_length a m x h, part_length a m t l) }

-- what stands in the whole table once y stands in the part
pub part_placed : (f : Column) (a m : ℕ) (x t : List ℕ) {y : List ℕ} → a + m ≤ length x → a + m ≤ length t
    → y ≡ written (f (part a m x)) (length (part a m x)) (part a m t)
    → take a t ++ (y ++ drop (a + m - a) (drop a t)) ≡ placed (f (window a m x)) a m t
unfolding placed written
part_placed f a m x t h l e =
    let k : a + m - a ≡ m = omega arith in
    let z : drop (length (part a m x)) (part a m t) ≡ [] = drop_of_length-le (part a m t) {i = length (part a m x)} (omega (arith, part_length a m x h, part_length a m t l)) in
    rw (e, z, append-nil, part_length a m x h, part_window a m x, k)

pub part_total : (a m : ℕ) (x : List ℕ) {r : ℕ} → r ≡ total eqb (part a m x) → r ≡ total eqb (window a m x)
part_total a m x e = e ∙ ap (total eqb) (part_window a m x)
