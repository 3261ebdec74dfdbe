-- What the code finds of the lent tables is what the document says of them. Assumes nothing.
use Rattle.std.proofs.Common.{◌≡◌, ℕ, ltb, min, List, [], ◌∷◌, refl}
use Rattle.std.specs.List.{list_any}
use Rattle.words.specs.Refusals.{first_no, fewer, table_no}
use Rattle.words.proofs.Refusals.{fewer_least}

pub fewer_any : (rooms : List ℕ) (n : ℕ) → fewer rooms n ≡ list_any (λ r. ltb r n) rooms
unfolding fewer
fewer_any [] n = refl
fewer_any (r ∷ rs) n = rw (fewer_any rs n)

-- of two tables, r and s, the smaller decides: so of any number of them the smallest, one after the other
pub table_less : (n r s : ℕ) (rs : List ℕ) {m k : ℕ} → m ≡ min r s → k ≡ table_no n (m ∷ rs) → k ≡ table_no n (r ∷ s ∷ rs)
unfolding table_no first_no
table_less n r s rs d e = rw (fewer_least r s rs n, ← d) e
