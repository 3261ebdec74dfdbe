-- The tree of covers: who lives covers a prefix from the period on and back; a node that dies, a jump over the dead, one length more. Assumes nothing.
use Rattle.std.proofs.Common.{Bool, true, false, ◌≡◌, refl, sym, ap, ◌∙◌, List, ◌⊎◌, inl, inr, ⊎_elim, ℕ, zero, suc, ◌+◌, ◌-◌, ◌≤◌, ◌<◌, eq-or-lt_of_le, le_refl, arith, length, get_or, set, length-set, get_or-set_same, get_or-set_other, eqb, eqb-true, eq-eqb}
use mathlib.Core.Bool.{and-eq-true_iff}
use Rattle.words.specs.Search.{how_many}
use Rattle.words.specs.Words.{border, cover}
use Rattle.words.proofs.Tests.{both_ways, not_passed, le_or_lt, eq_or_ne}
use Rattle.words.proofs.Search.{how_many_hit, how_many_miss, how_many_le, how_many_same, how_many_drop, how_many_some, some_how_many}
use Rattle.words.proofs.Occurrences.{eqb_refl}
use Rattle.words.proofs.Covers.{Covers, covers_self, covers_through, covers_nested, cover_covers, cover_proper, cover_lt, cover_most}
use Rattle.words.proofs.Periods.{period_covers, covers_period}
use Rattle.cover.specs.Tree.{Live, Jump, kid_test, Forest}
use Rattle.cover.proofs.Walk.{Walk, walk_none, walk_hit, walk_next}

module _ (x : List ℕ) where
  module _ (up : List ℕ) (a m : ℕ) where
    pub kid_true : kid_test x up a m ≡ true → Live up m × (cover eqb x m ≡ a)
    unfolding kid_test
    kid_true e =
        let both = (and-eq-true_iff (eqb (get_or up m 0) m) (eqb (cover eqb x m) a)).0 e in
        (eqb-true _ _ both.0, eqb-true _ _ both.1)

    pub true_kid : Live up m → cover eqb x m ≡ a → kid_test x up a m ≡ true
    unfolding kid_test
    true_kid l e = (and-eq-true_iff (eqb (get_or up m 0) m) (eqb (cover eqb x m) a)).1 (eq-eqb _ _ l, eq-eqb _ _ e)

  -- the parent, and that it is one
  pub parent_le : (m : ℕ) → cover eqb x m ≤ m
  parent_le m = ⊎_elim (λ (e : cover eqb x m ≡ 0). omega arith) (λ (c : Covers eqb x m (cover eqb x m)). c.most) (cover_covers eqb x m)

  pub parent_zero : cover eqb x 0 ≡ 0
  parent_zero = omega (arith, parent_le 0)

  parent_below : (m a : ℕ) → cover eqb x m ≡ a → 0 < a → a < m
  parent_below m a e h = ⊎_elim
      (λ (l : m ≤ 0). absurd (omega (arith, parent_le m)))
      (λ (l : 0 < m). omega (arith, cover_lt eqb x m l))
      (le_or_lt m 0)

-- ---- who lives covers a prefix from per on, and back

module _ {x up kids : List ℕ} {per j : ℕ} where
  module _ (f : Forest x up kids per j 0) where
    live_child : (q : ℕ) → 0 < q → q < per → q ≤ j → Live up q → (m : ℕ) × (m ≤ j) × (q < m) × Live up m × Covers eqb x m q
    live_child q h g l v =
        let c = f.held q h g l (λ z. omega arith) v in
        let k = how_many_some (kid_test x up q) (j + 1) (omega (arith, f.kid q (omega (arith, f.inside)))) in
        let w = kid_true x up q k.0 k.2 in
        (k.0, omega arith, parent_below x k.0 q w.1 h, w.0, rw w.1 at (cover_proper eqb x k.0 (omega arith)))

    live_covers : (n q : ℕ) → j - q ≤ n → 0 < q → q ≤ j → Live up q → (m : ℕ) × (per ≤ m) × (m ≤ j) × Covers eqb x m q
    live_covers zero q d h l v = ⊎_elim
        (λ (g : per ≤ q). (q, g, l, covers_self eqb x eqb_refl q h))
        (λ (g : q < per). absurd (omega (arith, live_child q h g l v)))
        (le_or_lt per q)
    live_covers (suc n) q d h l v =
        let ih = live_covers n in
        ⊎_elim
        (λ (g : per ≤ q). (q, g, l, covers_self eqb x eqb_refl q h))
        (λ (g : q < per).
        let k = live_child q h g l v in
        let r = ih k.0 (omega arith) (omega arith) k.1 k.3 in
        (r.0, r.1, r.2, covers_through x q k.0 r.0 k.4 r.3))
        (le_or_lt per q)

  module _ {e : ℕ} (f : Forest x up kids per j e) where
    covers_live : (n m q : ℕ) → m ≤ n → m ≤ j → Live up m → Covers eqb x m q → Live up q
    covers_live zero m q d u l c = absurd (omega arith)
    covers_live (suc n) m q d u l c = ⊎_elim
        (λ (z : q ≡ m). rw z l)
        (λ (g : q < m).
        let w = cover_most eqb x m q c g in
        let p = cover_proper eqb x m (omega arith) in
        covers_live n (cover eqb x m) q (omega (arith, cover_lt eqb x m (omega arith))) (omega arith) (f.climb m u l) (covers_nested x q (cover eqb x m) m c p w))
        (eq-or-lt_of_le c.most)

-- ---- the search for the longest proper cover of j + 1, from its border up the tree

module _ {x up kids : List ℕ} {per j q : ℕ} (f : Forest x up kids per j 0) (w : Walk x j q) (at : per ≡ j + 1 - border eqb x (j + 1)) where
  -- who lives is it
  pub find_hit : Live up q → q ≡ cover eqb x (j + 1)
  find_hit v = ⊎_elim
      (λ z. walk_none w z)
      (λ (c : Covers eqb x (border eqb x (j + 1)) q).
      let r = live_covers f j q (omega arith) c.some w.below v in
      walk_hit w (period_covers x q r.0 (j + 1) (omega arith) c r.3 (omega arith) (omega arith)))
      w.covers

  pub find_next : Walk x j (get_or up q 0)
  find_next =
      let u = f.jump q w.below in
      walk_next w (get_or up q 0) u.to (λ p a c l.
      let r = covers_period x p (j + 1) c l in
      u.most p a (covers_live f r.0 r.0 p (le_refl r.0) (omega arith) (f.young r.0 (omega arith) (omega arith)) r.3))

-- ---- q, dead or to die, names an ancestor g

module _ {x up kids : List ℕ} {per j e q g : ℕ} (f : Forest x up kids per j e) (qj : q ≤ j) (lt : g < q) where
  at_other : (m : ℕ) → (m ≡ q → ⊥) → get_or (set up q g) m 0 ≡ get_or up m 0
  at_other m ne = get_or-set_other up q m g 0 ne

  at_same : get_or (set up q g) q 0 ≡ g
  at_same = get_or-set_same up q g 0 (omega (arith, f.inside, f.ups))

  cut_live : (m : ℕ) → Live (set up q g) m → (m ≡ q → ⊥) × Live up m
  cut_live m l = ⊎_elim
      (λ (z : m ≡ q). absurd (omega (arith, rw z at l, at_same)))
      (λ (ne : m ≡ q → ⊥). (ne, sym (at_other m ne) ∙ l))
      (eq_or_ne m q)

  live_cut : (m : ℕ) → (m ≡ q → ⊥) → Live up m → Live (set up q g) m
  live_cut m ne l = at_other m ne ∙ l

  kid_cut : (a m : ℕ) → (m ≡ q → ⊥) → kid_test x up a m ≡ kid_test x (set up q g) a m
  kid_cut a m ne = both_ways (kid_test x up a m) (kid_test x (set up q g) a m)
      (λ t. let k = kid_true x up a m t in true_kid x (set up q g) a m (live_cut m ne k.0) k.1)
      (λ t. let k = kid_true x (set up q g) a m t in true_kid x up a m (cut_live m k.0).1 k.1)

  kid_gone : (a : ℕ) → kid_test x (set up q g) a q ≡ false
  kid_gone a = not_passed (kid_test x (set up q g) a q) (λ t. (cut_live q (kid_true x (set up q g) a q t).0).0 refl)

  module _ (lo : (g ≡ 0) ⊎ Covers eqb x q g) (hi : (p : ℕ) → Covers eqb x q p → p < q → Live up p → p ≤ g)
      (old : per ≤ q → ⊥) (lone : (m : ℕ) → m ≤ j → Live up m → cover eqb x m ≡ q → m ≡ q) where
    cut_jump : (m : ℕ) → m ≤ j → Jump x (set up q g) m (get_or (set up q g) m 0)
    cut_jump m u = ⊎_elim
        (λ (z : m ≡ q). rw (z, at_same) (record {
          to = lo;
          most = λ p c l. let k = cut_live p l in hi p c (lt_of_ne p c.most k.0) k.1;
        }))
        (λ (ne : m ≡ q → ⊥). rw (at_other m ne) (record {
          to = (f.jump m u).to;
          most = λ p c l. (f.jump m u).most p c (cut_live p l).1;
        }))
        (eq_or_ne m q)
      where
        lt_of_ne : (p : ℕ) → p ≤ q → (p ≡ q → ⊥) → p < q
        lt_of_ne p l ne = omega arith

    cut : (kids' : List ℕ) (e' : ℕ) → length x < length kids'
        → ((m : ℕ) → 0 < m → m < per → m ≤ j → (m ≡ e' → ⊥) → Live (set up q g) m → 0 < get_or kids' m 0)
        → ((a : ℕ) → a ≤ length x → get_or kids' a 0 ≡ how_many (kid_test x (set up q g) a) (j + 1)) → Forest x (set up q g) kids' per j e'
    cut kids' e' room held kid = record {
      some = f.some;
      inside = f.inside;
      ups = rw (length-set up q g) f.ups;
      counts = room;
      root = live_cut 0 (λ z. omega arith) f.root;
      young = λ m l u. live_cut m (λ z. old (omega arith)) (f.young m l u);
      climb = λ m u l.
          let k = cut_live m l in
          live_cut (cover eqb x m) (λ z. k.0 (lone m u k.1 z)) (f.climb m u k.1);
      held = held;
      jump = cut_jump;
      kid = kid;
    }

-- the dead q names what its ancestor in `up` names
module _ {x up kids : List ℕ} {per j e : ℕ} (f : Forest x up kids per j e) {q u g : ℕ} (qj : q ≤ j) (dead : u ≡ q → ⊥) (eu : u ≡ get_or up q 0) (eg : g ≡ get_or up u 0) where
  first : Jump x up q u
  first = rw eu (f.jump q qj)

  pub jump_below : u < q
  jump_below = ⊎_elim (λ (z : u ≡ 0). omega arith) (λ (c : Covers eqb x q u). omega (arith, c.most)) first.to

  second : Jump x up u g
  second = rw eg (f.jump u (omega (arith, jump_below)))

  pub jump_falls : g < q
  jump_falls = ⊎_elim (λ (z : g ≡ 0). omega (arith, jump_below)) (λ (c : Covers eqb x u g). omega (arith, c.most, jump_below)) second.to

  both : (g ≡ 0) ⊎ Covers eqb x q g
  both = ⊎_elim
      (λ (z : u ≡ 0). ⊎_elim (λ y. inl y) (λ (c : Covers eqb x u g). absurd (omega (arith, c.some, c.most))) second.to)
      (λ (d : Covers eqb x q u). ⊎_elim (λ y. inl y) (λ (c : Covers eqb x u g). inr (covers_through x g u q c d)) second.to)
      first.to

  most : (p : ℕ) → Covers eqb x q p → Live up p → p ≤ g
  most p c l = ⊎_elim
      (λ (z : u ≡ 0). absurd (omega (arith, c.some, first.most p c l)))
      (λ (d : Covers eqb x q u). second.most p (covers_nested x p u q c d (first.most p c l)) l)
      first.to

  pub find_short : Forest x (set up q g) kids per j e
  find_short =
      let lt = jump_falls in
      let gone : Live up q → ⊥ = λ l. dead (eu ∙ l) in
      cut f qj lt both (λ p c _ l. most p c l) (λ o. gone (f.young q o qj)) (λ m u l z. absurd (gone (rw z at (f.climb m u l)))) kids e f.counts
      (λ m h o u ne l. f.held m h o u ne (cut_live f qj lt m l).1)
      (λ a h. f.kid a h ∙ how_many_same (kid_test x up a) (kid_test x (set up q g) a) (j + 1) (λ m _. ⊎_elim
      (λ (z : m ≡ q). rw z (not_passed (kid_test x up a q) (λ t. gone (kid_true x up a q t).0) ∙ sym (kid_gone f qj lt a)))
      (λ (ne : m ≡ q → ⊥). kid_cut f qj lt a m ne)
      (eq_or_ne m q)))

-- ---- per goes up by one: q, which lives, and is below per, may have no child left

pub record Falling (x up kids : List ℕ) (per j q : ℕ) : Type 0 where
  pub forest : Forest x up kids per j q
  pub live : Live up q
  pub old : q < per
  pub below : q ≤ j

module _ {x up kids : List ℕ} {j : ℕ} where
  pub fall_start : (p : ℕ) → Forest x up kids p j 0 → p ≤ j → Falling x up kids (p + 1) j p
  fall_start p f h = record {
    forest = record {
      some = omega arith;
      inside = f.inside;
      ups = f.ups;
      counts = f.counts;
      root = f.root;
      young = λ m l u. f.young m (omega arith) u;
      climb = f.climb;
      held = λ m l o u ne v. f.held m l (omega arith) u (λ z. omega arith) v;
      jump = f.jump;
      kid = f.kid;
    };
    live = f.young p (le_refl p) h;
    old = omega arith;
    below = h;
  }

  module _ {per q : ℕ} (w : Falling x up kids per j q) where
    f : Forest x up kids per j q
    f = w.forest

    -- what lives is counted
    has_kid : (m a : ℕ) → m ≤ j → a ≤ length x → Live up m → cover eqb x m ≡ a → 0 < get_or kids a 0
    has_kid m a u h l e = omega (arith, f.kid a h, some_how_many (kid_test x up a) (j + 1) m (omega arith) (true_kid x up a m l e))

    pub fall_done : (get_or kids q 0 ≡ 0 → ⊥) → Forest x up kids per j 0
    fall_done nz = record {
      some = f.some;
      inside = f.inside;
      ups = f.ups;
      counts = f.counts;
      root = f.root;
      young = f.young;
      climb = f.climb;
      held = λ m l o u _ v. ⊎_elim (λ (z : m ≡ q). rw z (omega arith)) (λ ne. f.held m l o u ne v) (eq_or_ne m q);
      jump = f.jump;
      kid = f.kid;
    }

    module _ (none : get_or kids q 0 ≡ 0) where
      -- it is not the root, which is its own child
      pub fall_some : 0 < q
      fall_some = ⊎_elim
          (λ (l : q ≤ 0). omega (arith, has_kid q q w.below (omega arith) w.live (omega (arith, parent_le x q))))
          (λ l. l)
          (le_or_lt q 0)

      module _ (c : ℕ) (ec : c ≡ cover eqb x q) where
        pub fall_below : c < q
        fall_below = rw ec (cover_lt eqb x q fall_some)

        pub fall_counted : 0 < get_or kids c 0
        fall_counted = has_kid q c w.below (omega (arith, fall_below, w.below, f.inside)) w.live (sym ec)

        kid_fall : (v : ℕ) → v ≡ get_or kids c 0 - 1 → (a : ℕ) → a ≤ length x → get_or (set kids c v) a 0 ≡ how_many (kid_test x (set up q c) a) (j + 1)
        kid_fall v ev a h = ⊎_elim
            (λ (z : a ≡ c). rw (z, get_or-set_same kids c v 0 (omega (arith, f.counts))) (omega (
              arith,
              ev,
              f.kid c (omega arith),
              how_many_drop (kid_test x up c) (kid_test x (set up q c) c) (j + 1) q (omega (arith, w.below)) (true_kid x up c q w.live (sym ec))
                  (kid_gone f w.below fall_below c) (kid_cut f w.below fall_below c),
            )))
            (λ (ne : a ≡ c → ⊥). get_or-set_other kids c a v 0 ne ∙ f.kid a h ∙ how_many_same (kid_test x up a) (kid_test x (set up q c) a) (j + 1) (λ m _. ⊎_elim
            (λ (z : m ≡ q). rw z (not_passed (kid_test x up a q) (λ t. ne (sym (kid_true x up a q t).1 ∙ sym ec)) ∙ sym (kid_gone f w.below fall_below a)))
            (λ (nq : m ≡ q → ⊥). kid_cut f w.below fall_below a m nq)
            (eq_or_ne m q)))
            (eq_or_ne a c)

        pub fall_next : (v : ℕ) → v ≡ get_or kids c 0 - 1 → Falling x (set up q c) (set kids c v) per j c
        fall_next v ev = record {
          forest = cut f w.below fall_below
              (rw ec (cover_covers eqb x q))
              (λ p d l _. rw ec (cover_most eqb x q p d l))
              (λ o. omega (arith, w.old))
              (λ m u l z. absurd (omega (arith, has_kid m q u (omega (arith, w.below, f.inside)) l z)))
              (set kids c v) c
              (rw (length-set kids c v) f.counts)
              (λ m h o u ne l.
              let k = cut_live f w.below fall_below m l in
              rw (get_or-set_other kids c m v 0 ne) (f.held m h o u k.0 k.1))
              (kid_fall v ev);
          live = live_cut f w.below fall_below c (λ z. omega (arith, fall_below)) (rw ec (f.climb q w.below w.live));
          old = omega (arith, fall_below, w.old);
          below = omega (arith, fall_below, w.below);
        }

-- ---- one length more

pub forest_first : {x up kids : List ℕ} → length x < length up → length x < length kids → Live up 0 → get_or kids 0 0 ≡ 1
    → ((a : ℕ) → 0 < a → a ≤ length x → get_or kids a 0 ≡ 0) → Forest x up kids 1 0 0
unfolding how_many
forest_first {x} {up} {kids} hu hk root one none = record {
  some = omega arith;
  inside = omega arith;
  ups = hu;
  counts = hk;
  root = root;
  young = λ m l u. absurd (omega arith);
  climb = λ m u l. ⊎_elim (λ (z : m ≡ 0). rw (z, parent_zero x) root) (λ (g : m < 0). absurd (omega arith)) (eq-or-lt_of_le u);
  held = λ m l o u ne v. absurd (omega arith);
  jump = λ m u. ⊎_elim
      (λ (z : m ≡ 0). rw (z, root) (record { to = inl refl; most = λ p c l. c.most }))
      (λ (g : m < 0). absurd (omega arith))
      (eq-or-lt_of_le u);
  kid = λ a h. ⊎_elim
      (λ (z : a ≡ 0). rw (z, one, true_kid x up 0 0 root (parent_zero x)))
      (λ (ne : a ≡ 0 → ⊥). rw (none a (omega arith) h, not_passed (kid_test x up a 0) (λ t. ne (sym (kid_true x up a 0 t).1 ∙ parent_zero x))))
      (eq_or_ne a 0);
}

module _ {x up kids : List ℕ} {per j : ℕ} (f : Forest x up kids per j 0) (h : j < length x) (window : per ≤ j + 1) where
  pub count_fits : (q : ℕ) → q ≤ j → get_or kids q 0 ≤ length x
  count_fits q l = omega (arith, f.kid q (omega arith), how_many_le (kid_test x up q) (j + 1))

  module _ {u : ℕ} (eu : u ≡ j + 1) where
    new : Live (set up (j + 1) u) (j + 1)
    new = get_or-set_same up (j + 1) u 0 (omega (arith, f.ups)) ∙ eu

    kept : (m : ℕ) → m < j + 1 → get_or (set up (j + 1) u) m 0 ≡ get_or up m 0
    kept m l = get_or-set_other up (j + 1) m u 0 (λ z. omega arith)

    on : (m : ℕ) → m < j + 1 → Live up m → Live (set up (j + 1) u) m
    on m l v = kept m l ∙ v

    back : (m : ℕ) → m < j + 1 → Live (set up (j + 1) u) m → Live up m
    back m l v = sym (kept m l) ∙ v

    kid_kept : (a m : ℕ) → m < j + 1 → kid_test x (set up (j + 1) u) a m ≡ kid_test x up a m
    kid_kept a m l = both_ways (kid_test x (set up (j + 1) u) a m) (kid_test x up a m)
        (λ t. let k = kid_true x (set up (j + 1) u) a m t in true_kid x up a m (back m l k.0) k.1)
        (λ t. let k = kid_true x up a m t in true_kid x (set up (j + 1) u) a m (on m l k.0) k.1)

    module _ {q : ℕ} (eq : q ≡ cover eqb x (j + 1)) (live : Live up q) {v : ℕ} (ev : v ≡ get_or kids q 0 + 1) where
      low : q < j + 1
      low = rw eq (cover_lt eqb x (j + 1) (omega arith))

      more : get_or (set kids q v) q 0 ≡ v
      more = get_or-set_same kids q v 0 (omega (arith, low, f.counts))

      kid_grow : (a : ℕ) → a ≤ length x → get_or (set kids q v) a 0 ≡ how_many (kid_test x (set up (j + 1) u) a) (j + 1 + 1)
      kid_grow a l =
          let p : ℕ → Bool = kid_test x (set up (j + 1) u) a in
          let s = how_many_same p (kid_test x up a) (j + 1) (kid_kept a) in
          ⊎_elim
          (λ (z : a ≡ q). omega (arith, more, ap (λ (k : ℕ). get_or (set kids q v) k 0) z, ap (λ (k : ℕ). get_or kids k 0) z, f.kid a l, how_many_hit p (j + 1) (true_kid x (set up (j + 1) u) a (j + 1) new (sym eq ∙ sym z))))
          (λ (ne : a ≡ q → ⊥). omega (arith, get_or-set_other kids q a v 0 ne, f.kid a l, how_many_miss p (j + 1) (not_passed (p (j + 1)) (λ t. ne (sym (kid_true x (set up (j + 1) u) a (j + 1) t).1 ∙ sym eq)))))
          (eq_or_ne a q)

      pub tree_grow : Forest x (set up (j + 1) u) (set kids q v) per (j + 1) 0
      tree_grow = record {
        some = f.some;
        inside = omega arith;
        ups = rw (length-set up (j + 1) u) f.ups;
        counts = rw (length-set kids q v) f.counts;
        root = on 0 (omega arith) f.root;
        young = λ m l b. ⊎_elim (λ (z : m ≡ j + 1). rw z new) (λ (g : m < j + 1). on m g (f.young m l (omega arith))) (eq-or-lt_of_le b);
        climb = λ m b w. ⊎_elim
            (λ (z : m ≡ j + 1). rw (z, ← eq) (on q low live))
            (λ (g : m < j + 1). on (cover eqb x m) (omega (arith, parent_le x m)) (f.climb m (omega arith) (back m g w)))
            (eq-or-lt_of_le b);
        held = λ m l o b ne w.
            let k = f.held m l o (omega arith) ne (back m (omega arith) w) in
            ⊎_elim (λ (z : m ≡ q). rw (z, more) (omega arith)) (λ (nq : m ≡ q → ⊥). rw (get_or-set_other kids q m v 0 nq) k) (eq_or_ne m q);
        jump = λ m b. ⊎_elim
            (λ (z : m ≡ j + 1). rw (z, new) (record { to = inr (covers_self eqb x eqb_refl (j + 1) (omega arith)); most = λ p c _. c.most }))
            (λ (g : m < j + 1).
            let k = f.jump m (omega arith) in
            rw (kept m g) (record { to = k.to; most = λ p c w. k.most p c (back p (omega (arith, c.most)) w) }))
            (eq-or-lt_of_le b);
        kid = kid_grow;
      }
