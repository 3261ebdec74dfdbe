-- The list of covers, written from the longest down: the entries from `left` on are in place. Assumes nothing.
use Rattle.std.proofs.Common.{◌≡◌, refl, sym, ap, ◌∙◌, List, [], ◌∷◌, ◌++◌, ◌⊎◌, inr, ⊎_elim, ℕ, ◌+◌, ◌-◌, ◌≤◌, ◌<◌, arith, eqb, length, get_or, set, drop, length-set, length-append, length-drop, ext_get_or, get_or-set_same, get_or-set_other, get_or-append-add, get_or-drop}
use lib.ListN.{get_or-append}
use lib.Seq.{get_or_at}
use Rattle.words.specs.Words.{cover, cover_list}
use Rattle.words.specs.Tables.{cover_row}
use Rattle.words.proofs.Tests.{le_or_lt, eq_or_ne}
use Rattle.words.proofs.Tables.{Room, Holds}
use Rattle.words.proofs.Occurrences.{eqb_refl}
use Rattle.words.proofs.Covers.{Covers, covers_self, cover_lt}
use Rattle.words.proofs.CoverLists.{cover_list_le, up_to, up_to_all, up_to_none, up_to_next, up_to_length, up_to_covers}

-- q is 0, or a cover of x that the walk has come to
pub record Chained (x : List ℕ) (q : ℕ) : Type 0 where
  pub some : 0 < length x
  pub within : q ≤ length x
  pub covers : (q ≡ 0) ⊎ Covers eqb x (length x) q

pub chained_first : (x : List ℕ) → 0 < length x → Chained x (length x)
chained_first x h = record { some = h; within = omega arith; covers = inr (covers_self eqb x eqb_refl (length x) h) }

module _ {x : List ℕ} {q : ℕ} (w : Chained x q) (nz : q ≡ 0 → ⊥) where
  pub chained_covers : Covers eqb x (length x) q
  chained_covers = ⊎_elim (λ z. absurd (nz z)) (λ c. c) w.covers

  module _ {t : List ℕ} (h : Holds cover_row x t) (p : ℕ) (e : p ≡ get_or t (q - 1) 0) where
    pub is_cover : p ≡ cover eqb x q
    is_cover = e ∙ h.rows (q - 1) (omega (arith, w.within)) ∙ ap (cover eqb x) (omega arith)

    pub chained_falls : p < q
    chained_falls = omega (arith, is_cover, cover_lt eqb x q (omega arith))

    pub chained_next : Chained x p
    chained_next = record {
      some = w.some;
      within = omega (arith, chained_falls, w.within);
      covers = rw is_cover (up_to_covers x (length x) q chained_covers);
    }

  pub step_length : (p : ℕ) → p ≡ cover eqb x q → length (up_to x (length x) q) ≡ length (up_to x (length x) p) + 1
  step_length p e = rw e (up_to_length x (length x) q chained_covers)

-- ---- `chain_length`: k covers are passed, and those up to q are left

pub record Counted (x : List ℕ) (k q : ℕ) : Type 0 where
  pub chained : Chained x q
  pub number : k + length (up_to x (length x) q) ≡ length (cover_list eqb x)
  pub less : k + q ≤ length x

pub counted_first : (x : List ℕ) → 0 < length x → Counted x 0 (length x)
counted_first x h = record { chained = chained_first x h; number = omega (arith, ap length (up_to_all x)); less = omega arith }

module _ {x : List ℕ} {k q : ℕ} (w : Counted x k q) where
  module _ (nz : q ≡ 0 → ⊥) {t : List ℕ} (h : Holds cover_row x t) (p : ℕ) (e : p ≡ get_or t (q - 1) 0) where
    pub counted_falls : p < q
    counted_falls = chained_falls w.chained nz h p e

    pub counted_next : Counted x (k + 1) p
    counted_next = record {
      chained = chained_next w.chained nz h p e;
      number = omega (arith, w.number, step_length w.chained nz p (is_cover w.chained nz h p e));
      less = omega (arith, counted_falls, w.less);
    }

  pub counted_done : q ≡ 0 → k ≡ length (cover_list eqb x)
  counted_done z = omega (arith, w.number, ap (λ (r : ℕ). length (up_to x (length x) r)) z, ap length (up_to_none x (length x)))

-- ---- `write_chain`: of the list the entries from `left` on are written, and the first `left` are the covers up to q

pub record Placed (x t₀ t : List ℕ) (left q : ℕ) : Type 0 where
  pub chained : Chained x q
  pub number : left ≡ length (up_to x (length x) q)
  pub most : left ≤ length (cover_list eqb x)
  pub front : (r : ℕ) → r < left → get_or (cover_list eqb x) r 0 ≡ get_or (up_to x (length x) q) r 0
  pub room : length (cover_list eqb x) ≤ length t₀
  pub same : length t ≡ length t₀
  pub made : (r : ℕ) → left ≤ r → r < length (cover_list eqb x) → get_or t r 0 ≡ get_or (cover_list eqb x) r 0
  pub stays : (r : ℕ) → length (cover_list eqb x) ≤ r → get_or t r 0 ≡ get_or t₀ r 0

pub placed_first : {x t : List ℕ} {k : ℕ} → Room x t → 0 < length x → k ≡ length (cover_list eqb x) → Placed x t t k (length x)
placed_first {x} {t} {k} h s e = record {
  chained = chained_first x s;
  number = e ∙ ap length (up_to_all x);
  most = omega arith;
  front = λ r l. ap (λ (y : List ℕ). get_or y r 0) (up_to_all x);
  room = omega (arith, cover_list_le eqb x, h.room);
  same = refl;
  made = λ r l u. absurd (omega arith);
  stays = λ r l. refl;
}

module _ {x t₀ t : List ℕ} {left q : ℕ} (w : Placed x t₀ t left q) where
  module _ (some : 0 < left) where
    nz : q ≡ 0 → ⊥
    nz z = omega (arith, w.number, ap (λ (r : ℕ). length (up_to x (length x) r)) z, ap length (up_to_none x (length x)))

    pub placed_cover : 1 ≤ q
    placed_cover = omega (arith, nz)

    c : Covers eqb x (length x) q
    c = chained_covers w.chained nz

    module _ {s : List ℕ} (h : Holds cover_row x s) (p : ℕ) (e : p ≡ get_or s (q - 1) 0) where
      before : length (up_to x (length x) p) ≡ left - 1
      before = omega (arith, w.number, step_length w.chained nz p (is_cover w.chained nz h p e))

      split : up_to x (length x) q ≡ up_to x (length x) p ++ (q ∷ [])
      split = rw (is_cover w.chained nz h p e) (up_to_next x (length x) q c)

      pub placed_next : Placed x t₀ (set t (left - 1) q) (left - 1) p
      placed_next = record {
        chained = chained_next w.chained nz h p e;
        number = sym before;
        most = omega (arith, w.most);
        front = λ r l. w.front r (omega arith) ∙ ap (λ (y : List ℕ). get_or y r 0) split
            ∙ get_or-append (up_to x (length x) p) (q ∷ []) 0 r (omega (arith, before));
        room = w.room;
        same = length-set t (left - 1) q ∙ w.same;
        made = λ r l u. ⊎_elim
            (λ (z : r ≡ left - 1). rw z (get_or-set_same t (left - 1) q 0 (omega (arith, w.most, w.room, w.same))
            ∙ sym (w.front (left - 1) (omega arith) ∙ ap (λ (y : List ℕ). get_or y (left - 1) 0) split
            ∙ get_or_at (up_to x (length x) p) q [] 0 (left - 1) before)))
            (λ (ne : r ≡ left - 1 → ⊥). get_or-set_other t (left - 1) r q 0 ne ∙ w.made r (omega arith) u)
            (eq_or_ne r (left - 1));
        stays = λ r l. get_or-set_other t (left - 1) r q 0 (λ z. omega (arith, w.most)) ∙ w.stays r l;
      }

  pub placed_done : left ≤ 0 → t ≡ cover_list eqb x ++ drop (length (cover_list eqb x)) t₀
  placed_done n =
      let l : List ℕ = cover_list eqb x in
      ext_get_or 0 t (l ++ drop (length l) t₀) (w.same ∙ sym (simp (length-append, length-drop) (omega (arith, w.room)))) (λ r h. ⊎_elim
      (λ (g : length l ≤ r).
      let e : length l + (r - length l) ≡ r = omega arith in
      w.stays r g ∙ sym (rw e at (get_or-append-add l (drop (length l) t₀) (r - length l) 0) ∙ get_or-drop (length l) t₀ (r - length l) 0 ∙ ap (λ (k : ℕ). get_or t₀ k 0) e))
      (λ (g : r < length l). w.made r (omega arith) g ∙ sym (get_or-append l (drop (length l) t₀) 0 r g))
      (le_or_lt (length l) r))
