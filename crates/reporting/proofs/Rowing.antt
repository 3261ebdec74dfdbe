-- The rows put one behind the other, and that they are those of the columns. Assumes nothing.
use Rattle.std.proofs.Common.{eqb, take_all, ◌≡◌, ℕ, zero, suc, ◌+◌, ◌*◌, ◌≤◌, ◌<◌, List, [], ◌∷◌, ◌++◌, map, length, get_or, refl, sym, ◌∙◌, ap, ap₂, arith, add-one, append_assoc, append-nil}
use Rattle.std.proofs.lemmas.List.{get_or-map, length-map}
use Rattle.std.specs.Borrow.{Bor}
use Rattle.words.specs.Tables.{Column}
use Rattle.words.specs.Words.{total}
use Rattle.words.proofs.Tables.{Holds}
use Rattle.lines.specs.Text.{bytes, decimal, field, tail, line, field_room, Page}
use Rattle.lines.proofs.Texts.{Listed, listed_room, listed_more, ListedHere}
use Rattle.reporting.specs.Texts.{table_lines, row_room, entries, row_line, row_lines, five, rows_text}

-- ---- `row`

length_entries : (ts : List (Bor (List ℕ))) (r : ℕ) → length (entries ts r) ≡ length ts
unfolding entries
length_entries ts r = length-map ts (λ t. get_or t.now r 0)

get_or_entries : (ts : List (Bor (List ℕ))) (r i : ℕ) (d : Bor (List ℕ)) → i < length ts → get_or (entries ts r) i 0 ≡ get_or (get_or ts i d).now r 0
unfolding entries
get_or_entries ts r i d h = get_or-map (λ (t : Bor (List ℕ)). get_or t.now r 0) ts i d 0 h

-- the entry of column i
module _ (ts : List (Bor (List ℕ))) (r : ℕ) {before after : Page} {i n : ℕ} (c : Listed (entries ts r) before after i) (d : Bor (List ℕ)) (e : n ≡ get_or (get_or ts i d).now r 0)
    (s : n < 65536) (h : i < length ts) where
  pub entry_room : length before.said + field_room * length ts ≤ before.room → length after.said + (1 + length (decimal n)) ≤ after.room
  entry_room l = listed_room c (e ∙ sym (get_or_entries ts r i d h)) s (rw length_entries h) (rw length_entries l)

  pub entry_more : {p : Page} → p.said ≡ after.said ++ field n → p.room ≡ after.room → Listed (entries ts r) before p (i + 1)
  entry_more f g = listed_more c (e ∙ sym (get_or_entries ts r i d h)) s (rw length_entries h) f g

-- the same in one buffer
module _ (ts : List (Bor (List ℕ))) (r : ℕ) {before after : Page} {i n : ℕ} (c : ListedHere (entries ts r) before after i) (d : Bor (List ℕ)) (e : n ≡ get_or (get_or ts i d).now r 0)
    (s : n < 65536) (h : i < length ts) where
  pub entry_here_more : {p : Page} → p.said ≡ after.said ++ field n → p.room ≡ after.room → p.buffer ≡ after.buffer → ListedHere (entries ts r) before p (i + 1)
  entry_here_more f g b = record { listed = entry_more ts r c.listed d e s h f g; buffer = b ∙ c.buffer }

-- the whole line
pub row_said : (a : List ℕ) (ts : List (Bor (List ℕ))) (r : ℕ) {b c : Page} {e : List ℕ} {i : ℕ} → Listed (entries ts r) b c i → length ts ≤ i → b.said ≡ a ++ decimal (r + 1)
    → e ≡ c.said ++ 10 ∷ [] → e ≡ a ++ line (decimal (r + 1)) (entries ts r)
unfolding line tail
row_said a ts r {i = i} d h p q = rw (q, d.said, p, take_all i (entries ts r) (rw length_entries h), append_assoc, append_assoc) refl

-- ---- `rows`

-- the first r rows are put
pub record Rowed (ts : List (Bor (List ℕ))) (before after : Page) (r : ℕ) : Type 0 where
  pub said : after.said ≡ before.said ++ table_lines ts r
  pub room : after.room ≡ before.room
  pub short : length after.said ≤ length before.said + row_room * r

pub rowed_none : (ts : List (Bor (List ℕ))) (p : Page) → Rowed ts p p 0
unfolding table_lines
rowed_none ts p = record { said = sym (append-nil p.said); room = refl; short = omega arith }

lines_more : (ts : List (Bor (List ℕ))) (r : ℕ) → table_lines ts (r + 1) ≡ table_lines ts r ++ line (decimal (r + 1)) (entries ts r)
unfolding table_lines
lines_more ts r = ap (λ (k : ℕ). table_lines ts k) (add-one r)

pub rowed_more : {ts : List (Bor (List ℕ))} {a b c : Page} {r : ℕ} → Rowed ts a b r → c.said ≡ b.said ++ line (decimal (r + 1)) (entries ts r) → c.room ≡ b.room
    → length c.said ≤ length b.said + row_room → Rowed ts a c (r + 1)
rowed_more d p e s = record {
  said = rw (p, d.said, append_assoc, lines_more) refl;
  room = e ∙ d.room;
  short = omega (arith, d.short);
}

-- the same in one buffer
pub record RowedHere (ts : List (Bor (List ℕ))) (before after : Page) (r : ℕ) : Type 0 where
  pub rowed : Rowed ts before after r
  pub buffer : after.buffer ≡ before.buffer

pub rowed_here_none : (ts : List (Bor (List ℕ))) (p : Page) → RowedHere ts p p 0
rowed_here_none ts p = record { rowed = rowed_none ts p; buffer = refl }

pub rowed_here_more : {ts : List (Bor (List ℕ))} {a b c : Page} {r : ℕ} → RowedHere ts a b r → c.said ≡ b.said ++ line (decimal (r + 1)) (entries ts r) → c.room ≡ b.room
    → c.buffer ≡ b.buffer → length c.said ≤ length b.said + row_room → RowedHere ts a c (r + 1)
rowed_here_more d p e k s = record { rowed = rowed_more d.rowed p e s; buffer = k ∙ d.buffer }

-- ---- the columns of a log

-- each table holds its column
abbrev pub Held : List Column → List ℕ → List (Bor (List ℕ)) → Type 0
Held [] x [] = Unit {0}
Held (f ∷ cs) x (t ∷ ts) = Holds f x t.now × Held cs x ts
Held _ x _ = ⊥

held_row : (cs : List Column) (x : List ℕ) (ts : List (Bor (List ℕ))) (r : ℕ) → Held cs x ts → r < length x → entries ts r ≡ map (λ f. f x r) cs
unfolding entries
held_row [] x [] r h l = refl
held_row [] x (t ∷ ts) r h l = absurd h
held_row (f ∷ cs) x [] r h l = absurd h
held_row (f ∷ cs) x (t ∷ ts) r h l = ap₂ ◌∷◌ (h.0.rows r l) (held_row cs x ts r h.1 l)

held_rows : (cs : List Column) (x : List ℕ) (ts : List (Bor (List ℕ))) (r : ℕ) → Held cs x ts → r ≤ length x → table_lines ts r ≡ row_lines cs x r
unfolding table_lines row_lines row_line
held_rows cs x ts zero h l = refl
held_rows cs x ts (suc r) h l = rw (held_rows cs x ts r h (omega arith), held_row cs x ts r h (omega arith)) refl

-- what `rows` puts of the columns of a log
pub rows_said : (cs : List Column) (a x : List ℕ) (ts : List (Bor (List ℕ))) {b : List ℕ} → b ≡ a ++ table_lines ts (length x) → Held cs x ts → b ≡ a ++ row_lines cs x (length x)
rows_said cs a x ts p h = rw (p, held_rows cs x ts (length x) h (omega arith)) refl

-- ---- `put`

pub total_said : (a x : List ℕ) (ts : List (Bor (List ℕ))) {b e : List ℕ} {n : ℕ} → b ≡ a ++ table_lines ts (length x) → Held five x ts → n ≡ total eqb x
    → e ≡ b ++ line (bytes "total") (n ∷ []) → e ≡ a ++ rows_text x
unfolding rows_text
total_said a x ts p h n q = rw (q, rows_said five a x ts p h, n, append_assoc) refl
