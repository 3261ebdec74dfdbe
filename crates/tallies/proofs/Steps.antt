-- What each way through the functions of a row comes to, on plain lists and numbers. Assumes nothing.
use Rattle.std.proofs.Common.{◌≡◌, refl, sym, ap, ◌∙◌, List, ⊎_elim, ℕ, ◌+◌, ◌-◌, ◌*◌, ◌≤◌, ◌<◌, min, not-suc-le-zero, lt_of_lt_of_le, arith, length, get_or, set, length-set, get_or-set_same, get_or-set_other, eqb, w16, Fits}
use lib.Seq.{set-get_or}
use Rattle.words.specs.Words.{cover, covered, used}
use Rattle.words.specs.Tables.{border_row, cover_row}
use Rattle.words.specs.Refusals.{longest}
use Rattle.words.proofs.Tables.{Room, Holds, Filled, Rows, rows_more, rows_under}
use Rattle.words.proofs.Tests.{eq_or_ne}
use Rattle.words.proofs.Borders.{border_lt, border_most}
use Rattle.words.proofs.Covers.{Covers, covers_border, cover_covers, cover_lt}
use Rattle.words.proofs.Counts.{covered_le}
use Rattle.words.proofs.Weighs.{heaviest, heaviest_row, heaviest_lt, heaviest_empty, heaviest_bare, heaviest_down, rest, rest_first, rest_next, rest_none, used_places}
use Rattle.words.proofs.Lossless.{Picked, picked_start, picked_next, picked_best, picked_count}
use Rattle.tallies.specs.declared.Pick.{Pick}
use Rattle.tallies.specs.Tallies.{most_weighed, Flags, Tallies, Round, Better, Judgement}
use Rattle.tallies.proofs.Tallies.{round_start, round_weighs, round_last, round_held, round_count, round_next, round_done}

-- the entry for the prefix of length q stands at row q - 1
chain_at : {x v : List ℕ} {j : ℕ} → Filled heaviest_row x v j → (q : ℕ) → 0 < q → q ≤ j → get_or v (q - 1) 0 ≡ heaviest x q
chain_at {x} k q h l = k.rows (q - 1) (omega arith) ∙ ap (heaviest x) (omega arith)

-- ---- `enter` and `tally`

module _ {x l h : List ℕ} {j : ℕ} (t : Tallies x l h j) (i : j < length x) where
  pub enter_round : (v : ℕ) → v ≡ j + 1 → cover_row x j ≡ 0 → Round x (set l j v) (set h j v) j (heaviest_row x j)
  enter_round v e z = round_start v (set h j v) t i (rw (length-set h j v) t.holds) (λ k n. get_or-set_other h j k v 0 n)
      (λ _. (e, get_or-set_same h j v 0 (omega (arith, t.holds)) ∙ e)) (λ n. absurd (n z))

  pub covered_round : (c : ℕ) → c ≡ cover_row x j → (c ≡ 0 → ⊥) → Round x (set l j 0) h j (heaviest_row x j)
  covered_round c e n = round_start 0 h t i t.holds (λ k _. refl) (λ z. absurd (n (e ∙ z))) (λ _. refl)

module _ {x l h : List ℕ} {j w : ℕ} (r : Round x l h j w) (p : 0 < w) (e c : ℕ) (el : e ≡ get_or l (w - 1) 0) (ec : c ≡ get_or h (w - 1) 0) where
  nz : w ≡ 0 → ⊥
  nz z = omega arith

  pub tally_early : e ≤ j + 1
  tally_early = omega (arith, el, round_last r nz)

  pub tally_small : length x ≤ longest → c + (j + 1) ≤ 65536
  tally_small s = omega (arith, ec, round_held r nz, r.inside)

  module _ (k : ℕ) (ek : k ≡ c + min w (j + 1 - e)) where
    grew : k ≡ get_or h (w - 1) 0 + min w (j + 1 - get_or l (w - 1) 0)
    grew = rw (← el, ← ec) ek

    pub tally_count : k ≡ covered eqb x (j + 1) w
    tally_count = round_count r nz k grew

    pub tally_fits : length x ≤ longest → Fits w16 k
    tally_fits s = omega (arith, tally_count, covered_le eqb x (j + 1) w, r.inside)

    pub tally_round : Round x (set l (w - 1) (j + 1)) (set h (w - 1) k) j (heaviest x w)
    tally_round = round_next r nz k grew (heaviest x w) (j + 1) refl refl

-- ---- `weigh`: b is the best of the weighed borders above w, and their number and what is left make up all of them, with the t of the rows before

pub record Way (x : List ℕ) (j t w : ℕ) (b : Pick) : Type 0 where
  pub picked : Picked x (j + 1) w b.best b.count
  pub number : b.total + length (rest x (j + 1) w) ≡ t + used eqb x (j + 1)

pub first_way : {x : List ℕ} {j w : ℕ} (t : ℕ) → w ≡ heaviest_row x j → Way x j t w (record { best = 0; count = 0; total = t })
unfolding used
first_way {x} {j} {w} t e = record { picked = picked_start w e; number = rw (e, rest_first x (j + 1)) }

module _ {x l h : List ℕ} {j w : ℕ} (r : Round x l h j w) (nz : w ≡ 0 → ⊥) where
  -- the next border is the row that w names, and it is shorter
  module _ {v : List ℕ} (k : Filled heaviest_row x v j) (p : ℕ) (e : p ≡ get_or v (w - 1) 0) where
    next : p ≡ heaviest x w
    next = e ∙ chain_at k w (omega arith) r.below

    pub next_falls : p < w
    next_falls = omega (arith, next, heaviest_lt x w (omega arith))

    pub next_round : {l' h' : List ℕ} → Round x l' h' j (heaviest x w) → Round x l' h' j p
    next_round q = rw next q

    pub next_way : {b b' : Pick} {n c : ℕ} → Way x j n w b → Better b w c b' → c ≡ covered eqb x (j + 1) w → Way x j n p b'
    next_way {c = c} y t ec =
        let u : length (rest x (j + 1) w) ≡ 1 + length (rest x (j + 1) (heaviest x w)) =
        ap length (rest_next x (j + 1) w (round_weighs r nz)) ∙ omega arith in record {
          picked = rw (next, t.best, t.count) (picked_next y.picked (round_weighs r nz) c ec);
          number = rw (next, t.total) (omega (arith, y.number));
        }

pub way_few : {x l h : List ℕ} {j t w : ℕ} {b : Pick} → Way x j t w b → Round x l h j w → length x ≤ longest → t ≤ most_weighed → b.total < 2 * most_weighed
way_few {x} {j = j} y r s m = omega (arith, y.number, used_places x (j + 1) (omega arith) (omega (arith, r.inside)))

pub way_done : {x : List ℕ} {j t w : ℕ} {b : Pick} → Way x j t w b → w ≡ 0 → Judgement x j t b
way_done {x} {j} y z = record {
  best = picked_best x (j + 1) (rw z at y.picked);
  count = picked_count x (j + 1) (rw z at y.picked);
  total = omega (arith, rw z at y.number, ap length (rest_none x (j + 1)));
}

-- ---- `alone`: where there is no border

module _ (x : List ℕ) (j : ℕ) (z : 0 ≡ border_row x j) where
  pub alone_cover : cover_row x j ≡ 0
  alone_cover = ⊎_elim
      (λ e. e)
      (λ (c : Covers eqb x (j + 1) (cover_row x j)). omega (arith, c.some, border_most eqb x (j + 1) (cover_row x j) (covers_border eqb x (cover_row x j) (j + 1) c (cover_lt eqb x (j + 1) (omega arith)))))
      (cover_covers eqb x (j + 1))

  alone_heaviest : 0 ≡ heaviest_row x j
  alone_heaviest = sym (heaviest_empty x (j + 1) (omega arith) (sym z))

  pub alone_tallies : {l h : List ℕ} → Round x l h j (heaviest_row x j) → Tallies x l h (j + 1)
  alone_tallies r = round_done (heaviest_row x j) r (sym alone_heaviest)

  pub alone_judged : (t : ℕ) → Judgement x j t (record { best = 0; count = 0; total = t })
  alone_judged t = way_done (first_way t alone_heaviest) refl

-- its entry of the chain stands there
pub alone_laid : (x v : List ℕ) (j b : ℕ) → b ≡ border_row x j → b ≡ 0 → get_or v j 0 ≡ cover_row x j → v ≡ set v j (heaviest_row x j)
alone_laid x v j b d n e =
    let z : 0 ≡ border_row x j = sym n ∙ d in
    sym (ap (set v j) (sym (alone_heaviest x j z) ∙ sym (e ∙ alone_cover x j z)) ∙ set-get_or v j 0)

-- ---- `heaviest`

module _ (x : List ℕ) (j b : ℕ) (e : b ≡ border_row x j) (some : 0 < b) where
  below : b ≤ j
  below = omega (arith, border_lt eqb x (j + 1) (omega arith))

  border_some : border_row x j ≡ 0 → ⊥
  border_some z = omega arith

  module _ {s : List ℕ} (k : Flags x s j) where
    pub in_last : j < length x → b - 1 < length s
    in_last h = omega (arith, below, k.room)

    pub flagged_border : (get_or s (b - 1) 0 ≡ 0 → ⊥) → b ≡ heaviest_row x j
    flagged_border n = ⊎_elim
        (λ (z : cover eqb x b ≡ 0). e ∙ sym (heaviest_bare x (j + 1) (omega arith) border_some (rw e at z)))
        (λ (c : cover eqb x b ≡ 0 → ⊥). absurd (n (k.covered b some below c)))
        (eq_or_ne (cover eqb x b) 0)

    covered_not : get_or s (b - 1) 0 ≡ 0 → cover eqb x (border_row x j) ≡ 0 → ⊥
    covered_not n z = omega (arith, k.bare b some below (rw e z))

    pub covered_border : {v : List ℕ} → Filled heaviest_row x v j → get_or s (b - 1) 0 ≡ 0 → (w : ℕ) → w ≡ get_or v (b - 1) 0 → w ≡ heaviest_row x j
    covered_border f n w q = q ∙ chain_at f b some below ∙ ap (heaviest x) e ∙ sym (heaviest_down x (j + 1) (omega arith) border_some (covered_not n))

  pub in_chain : {v : List ℕ} → Filled heaviest_row x v j → b - 1 < length v
  in_chain f = omega (arith, below, f.inside, f.room)

-- ---- `row`: the row's own entry of the chain is stored

pub chain_fits : (x : List ℕ) (j : ℕ) {w : ℕ} → w ≡ heaviest_row x j → j < length x → length x ≤ longest → Fits w16 w
chain_fits x j e h s = omega (arith, heaviest_lt x (j + 1) (omega arith))

-- the rows before it stay
pub chain_laid : {x : List ℕ} (v : List ℕ) (j w : ℕ) → Filled heaviest_row x v j → Filled heaviest_row x (set v j w) j
chain_laid v j w k = record {
  inside = k.inside;
  room = rw (length-set v j w) k.room;
  rows = λ r l. get_or-set_other v j r w 0 (λ z. omega arith) ∙ k.rows r l;
}

module _ (x : List ℕ) (j : ℕ) {w : ℕ} (e : w ≡ heaviest_row x j) where
  pub chain_set : (v : List ℕ) → set v j w ≡ set v j (heaviest_row x j)
  chain_set v = ap (set v j) e

  pub own_round : {l h : List ℕ} → Round x l h j (heaviest_row x j) → Round x l h j w
  own_round r = rw e r

-- ---- a loop over the rows

pub first_tallies : {x l h : List ℕ} → Room x l → Room x h → Tallies x l h 0
first_tallies a b = record {
  lasts = a.room;
  holds = b.room;
  each = λ n h l. absurd (not-suc-le-zero (lt_of_lt_of_le h l));
  none = λ n h l. absurd (not-suc-le-zero (lt_of_lt_of_le h l));
}

pub chain_more : {x v₀ v u : List ℕ} {j : ℕ} → Rows heaviest_row x v₀ v j → j < length x → u ≡ set v j (heaviest_row x j) → Rows heaviest_row x v₀ u (j + 1)
chain_more w h e = rw e (rows_more w h refl)

pub still_cover : {x v₀ v : List ℕ} {j : ℕ} → Rows heaviest_row x v₀ v j → Holds cover_row x v₀ → j < length x → get_or v j 0 ≡ cover_row x j
still_cover w k h = rows_under heaviest_row cover_row refl w k h
