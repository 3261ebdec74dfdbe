-- What an answer in Rust stands for in the document: a refusal for its number, no refusal for 0. Assumes nothing.
use Rattle.std.specs.Prelude.{ℕ, Result, Ok, Err, cond, eqb}
use Rattle.refusals.specs.declared.Refusal.{Refusal}
use Rattle.refusals.specs.declared.Refusal.TheVariants.{Empty, Long, Place, Short, NoPattern, Version, File, Symbol}

-- the document's numbers
abbrev pub number_of : Refusal → ℕ
number_of Empty = 1
number_of Long = 2
number_of Place = 3
number_of Short = 4
number_of NoPattern = 5
number_of Version = 6
number_of File = 7
number_of Symbol = 8

-- the number of an answer: 0 where nothing is refused
abbrev pub number : {A : Type 0} → Result A Refusal → ℕ
number (Ok v) = 0
number (Err r) = number_of r

-- the document's answer: what is made of the value; where the call is refused, the refusal that carries its number
abbrev pub stands_for : {A B : Type 0} → (A → B) → (ℕ → B) → Result A Refusal → B
stands_for made refusal (Ok v) = made v
stands_for made refusal (Err r) = refusal (number_of r)

-- the refusal that a number stands for
unfoldable pub refusal_of : ℕ → Refusal
refusal_of k = cond (eqb k 1) Empty (cond (eqb k 2) Long (cond (eqb k 3) Place (cond (eqb k 4) Short (cond (eqb k 5) NoPattern (cond (eqb k 6) Version (cond (eqb k 7) File Symbol))))))

-- the answer in Rust of a call with this number: the value where it is 0, else the refusal that it stands for
unfoldable pub told : {A : Type 0} → ℕ → A → Result A Refusal
told code v = cond (eqb code 0) (Ok v) (Err (refusal_of code))
