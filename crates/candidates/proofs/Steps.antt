-- What each way through the functions of the candidates comes to, on plain lists and numbers. Assumes nothing.
use Rattle.std.proofs.Common.{◌≡◌, refl, sym, ap, ◌∙◌, List, ◌⊎◌, inl, inr, ⊎_elim, ℕ, ◌+◌, ◌-◌, ◌≤◌, ◌<◌, min, eq-or-lt_of_le, eq-zero-or-pos, arith, eqb, length, get_or, w16, w64, Fits}
use Rattle.words.specs.Words.{border, cover}
use Rattle.words.specs.Tables.{border_row, cover_row}
use Rattle.words.specs.Refusals.{longest}
use Rattle.words.proofs.Tests.{le_or_lt}
use Rattle.words.proofs.Tops.{Top, Under, wins_later, top_none, top_join}
use Rattle.words.proofs.Tables.{Holds, Filled}
use Rattle.words.proofs.Borders.{border_border, border_lt, border_most}
use Rattle.words.proofs.Counts.{covered_le, covered_stays}
use Rattle.words.proofs.Occurrences.{eqb_refl}
use Rattle.tallies.specs.Tallies.{Tally, Tallies}
use Rattle.repeats.specs.Repeats.{reached}
use Rattle.repeats.proofs.Repeating.{repeats_shorter, repeats_border}
use Rattle.repeats.proofs.Seeds.{repeats_reached}
use Rattle.repeats.proofs.Starts.{start, start_none, start_lt, start_is, start_most, start_border, start_inner, reached_count}
use Rattle.repeats.proofs.LeftSeeds.{Bare, seed_all}
use Rattle.candidates.specs.declared.Seed.{Seed}
use Rattle.candidates.specs.Candidates.{bare, bare_row, fall_row, Made, Sown, Far, Ready, Taken}
use Rattle.candidates.proofs.Bare.{bare_le, bare_bare, bare_most, bare_same, bare_some, bare_zero, bare_here, bare_before, fall_zero, fall_here, fall_before}

-- ---- `bare_at`

module _ {x c t : List ℕ} {r : ℕ} (hc : Holds cover_row x c) (f : Filled bare_row x t r) where
  pub bare_first : r ≡ 0 → 0 ≡ bare_row x r
  bare_first z = sym (ap (bare x) z ∙ bare_zero x)

  module _ (nz : r ≡ 0 → ⊥) where
    pub in_cover : r - 1 < length c
    in_cover = omega (arith, f.inside, hc.room)

    pub in_bare : r - 1 < length t
    in_bare = omega (arith, f.inside, f.room)

    is_cover : get_or c (r - 1) 0 ≡ cover eqb x r
    is_cover = hc.rows (r - 1) (omega (arith, f.inside)) ∙ ap (cover eqb x) (omega arith)

    pub bare_yes : get_or c (r - 1) 0 ≡ 0 → r ≡ bare_row x r
    bare_yes z = sym (bare_here x r (sym is_cover ∙ z))

    pub bare_no : (get_or c (r - 1) 0 ≡ 0 → ⊥) → (w : ℕ) → w ≡ get_or t (r - 1) 0 → w ≡ bare_row x r
    bare_no ne w e = e ∙ f.rows (r - 1) (omega arith) ∙ sym (bare_before x r (omega arith) (λ z. ne (is_cover ∙ z)))

-- ---- `fall_at`

module _ {x b s : List ℕ} {r q : ℕ} (hb : Holds border_row x b) (f : Filled fall_row x s r) (d : q ≡ bare_row x r) where
  pub fall_first : r ≡ 0 → 0 ≡ fall_row x r
  fall_first z = sym (ap (fall_row x) z ∙ fall_zero x)

  module _ (nz : r ≡ 0 → ⊥) where
    pub in_border : r - 1 < length b
    in_border = omega (arith, f.inside, hb.room)

    module _ (m : ℕ) (e : m ≡ get_or b (r - 1) 0) where
      is_border_lem : m ≡ border eqb x r
      is_border_lem = e ∙ hb.rows (r - 1) (omega (arith, f.inside)) ∙ ap (border eqb x) (omega arith)

      pub in_fall : m < length s
      in_fall = omega (arith, is_border_lem, border_lt eqb x r (omega arith), f.inside, f.room)

      pub fall_yes : m < q → m ≡ fall_row x r
      fall_yes l = is_border_lem ∙ sym (fall_here x r (omega arith) (omega (arith, is_border_lem, d)))

      pub fall_no : q ≤ m → (w : ℕ) → w ≡ get_or s m 0 → w ≡ fall_row x r
      fall_no l w g =
          g ∙ f.rows m (omega (arith, is_border_lem, border_lt eqb x r (omega arith))) ∙ ap (fall_row x) is_border_lem
          ∙ sym (fall_before x r (omega arith) (omega (arith, is_border_lem, d)))

-- both fit a table's entry
module _ (x : List ℕ) (r : ℕ) (h : r < length x) (s : length x ≤ longest) where
  pub bare_fits : {w : ℕ} → w ≡ bare_row x r → Fits w16 w
  bare_fits e = omega (arith, bare_le x r)

  fall_le : fall_row x r ≤ r
  fall_le = ⊎_elim
      (λ (z : r ≡ 0). omega (arith, ap (fall_row x) z, fall_zero x))
      (λ (l : 0 < r). omega (arith, start_lt eqb x r (bare x r) (bare_some x r l), bare_le x r))
      (eq-zero-or-pos r)

  pub fall_fits : {w : ℕ} → w ≡ fall_row x r → Fits w16 w
  fall_fits e = omega (arith, fall_le)

-- ---- `start_of`

module _ {x : List ℕ} {j q m : ℕ} (u : j < length x) (w : Ready x (j + 1) q m) where
  pub start_here : m < q → m ≡ start eqb x (j + 1) q
  start_here l = sym (start_is eqb x (j + 1) q m l w.border w.most)

  module _ {b t f : List ℕ} (d : Made x b t f) where
    pub start_in : m < length f
    start_in = omega (arith, w.border.below, d.falls.room)

    pub start_falls : q ≤ m → (k : ℕ) → k ≡ get_or f m 0 → k ≡ start eqb x (j + 1) q
    start_falls l k e =
        e ∙ d.falls.rows m (omega (arith, w.border.below)) ∙ ap (start eqb x m) (w.next l) ∙ sym (start_inner x (j + 1) m q w.border l)

-- ---- `weighed`

module _ {x l h : List ℕ} {j q : ℕ} (y : Tallies x l h (j + 1)) (b : Bare x (j + 1) 0 q) (u : j < length x) where
  pub in_held : q - 1 < length h
  in_held = omega (arith, b.2.proper, y.holds)

  pub in_last : q - 1 < length l
  in_last = omega (arith, b.2.proper, y.lasts)

  tally : Tally x q (j + 1) (get_or l (q - 1) 0) (get_or h (q - 1) 0)
  tally = y.each q b.0 (omega (arith, b.2.proper)) b.1

  is_reached : reached eqb x (j + 1) q ≡ get_or h (q - 1) 0 + min (start eqb x (j + 1) q) (j + 1 - get_or l (q - 1) 0)
  is_reached =
      let e : ℕ = get_or l (q - 1) 0 in
      let stays = covered_stays eqb x q e (j + 1) tally.within tally.last in
      let all = reached_count eqb x (j + 1) q e b.0 tally.from tally.within tally.occurs tally.last in
      omega (arith, tally.counts)

  module _ (c : ℕ) (ec : c ≡ get_or h (q - 1) 0) (m : ℕ) (em : m ≡ start eqb x (j + 1) q) where
    module _ {a t f : List ℕ} (d : Made x a t f) where
      pub weighed_fits : Fits w64 (c + m)
      weighed_fits = omega (arith, ec, em, tally.counts, tally.within, covered_le eqb x (get_or l (q - 1) 0) q, start_lt eqb x (j + 1) q b.0, b.2.proper, d.most)

      pub weighed_small : c + (j + 1) ≤ 65536
      weighed_small = omega (arith, ec, tally.counts, tally.within, covered_le eqb x (get_or l (q - 1) 0) q, d.most)

    module _ (s : Seed) where
      pub weighed_none : c + m < s.count → Taken s q (reached eqb x (j + 1) q) m s
      weighed_none g = inr (omega (arith, is_reached, ec, em), refl)

      module _ (e : ℕ) (el : e ≡ get_or l (q - 1) 0) where
        pub weighed_early : e ≤ j + 1
        weighed_early = omega (arith, el, tally.within)

        pub weighed_taken : (k : ℕ) → k ≡ c + min m (j + 1 - e) → {r : Seed} → Taken s q k m r → Taken s q (reached eqb x (j + 1) q) m r
        weighed_taken k ek o =
            let z : k ≡ reached eqb x (j + 1) q = omega (arith, is_reached, ek, el, ec, em) in
            rw z at o

-- ---- `best`: of the candidates longer than q the best is s, and q is the next one or 0

pub record Walk (x : List ℕ) (i q m : ℕ) (s : Seed) : Type 0 where
  pub ready : Ready x i q m
  pub next : (q ≡ 0) ⊎ Bare x i 0 q
  pub top : Top (Bare x i q) (reached eqb x i) s.len s.count
  pub starts : s.start ≡ start eqb x i s.len

module _ {x : List ℕ} {j far : ℕ} (f : Far x (j + 1) far) (u : j < length x) {c t g : List ℕ} (h : Made x c t g) where
  pub far_in : far < length t
  far_in = ⊎_elim (λ z. omega (arith, z, h.bares.room)) (λ r. omega (arith, r.proper, h.bares.room)) f.is

  module _ {b : ℕ} (eb : b ≡ border eqb x (j + 1)) (q : ℕ) (e : q ≡ get_or t far 0) where
    is_first : q ≡ bare x far
    is_first = e ∙ h.bares.rows far (⊎_elim (λ z. omega (arith, z)) (λ r. omega (arith, r.proper)) f.is)

    border_far : b ≤ far
    border_far = ⊎_elim
        (λ (z : b ≡ 0). omega arith)
        (λ (g : 0 < b). f.most b (repeats_border eqb x eqb_refl (j + 1) b g (rw eb (border_border eqb x (j + 1) (omega arith)))))
        (eq-zero-or-pos b)

    first_next : (q ≡ 0) ⊎ Bare x (j + 1) 0 q
    first_next = ⊎_elim
        (λ (z : q ≡ 0). inl z)
        (λ (g : 0 < q). ⊎_elim
        (λ z. absurd (omega (arith, z, is_first, bare_le x far)))
        (λ r. inr (g, rw is_first (bare_bare x far), repeats_shorter eqb x (j + 1) far q r g (omega (arith, is_first, bare_le x far))))
        f.is)
        (eq-zero-or-pos q)

    pub walk_first : {s : Seed} → s.len ≡ 0 → s.count ≡ 0 → s.start ≡ 0 → Walk x (j + 1) q b s
    walk_first zl zk zm = record {
      ready = record {
        border = rw eb (border_border eqb x (j + 1) (omega arith));
        most = λ k _ c. rw eb (border_most eqb x (j + 1) k c);
        next = λ u. bare_same x b far (omega (arith, is_first)) border_far ∙ sym is_first;
      };
      next = first_next;
      top = rw (zl, zk) (top_none (λ k r. omega (arith, r.0, is_first, bare_most x far k (f.most k r.2) r.1)));
      starts = rw (zm, zl) (sym (start_none eqb x (j + 1)));
    }

module _ {x : List ℕ} {j q m : ℕ} {s : Seed} (u : j < length x) (w : Walk x (j + 1) q m s) (nz : q ≡ 0 → ⊥) where
  pub walk_bare : Bare x (j + 1) 0 q
  walk_bare = ⊎_elim (λ z. absurd (nz z)) (λ b. b) w.next

  pub walk_some : 0 < q
  walk_some = walk_bare.0

  pub walk_ready : Ready x (j + 1) q m
  walk_ready = w.ready

  module _ {b v f : List ℕ} (hv : Made x b v f) where
    pub in_next : q - 1 < length v
    in_next = omega (arith, walk_bare.2.proper, hv.bares.room)

    module _ (p : ℕ) (ep : p ≡ get_or v (q - 1) 0) where
      is_next : p ≡ bare x (q - 1)
      is_next = ep ∙ hv.bares.rows (q - 1) (omega (arith, walk_bare.2.proper))

      pub walk_falls : p < q
      walk_falls = omega (arith, is_next, bare_le x (q - 1), walk_some)

      module _ (n : ℕ) (en : n ≡ start eqb x (j + 1) q) where
        ready_next : Ready x (j + 1) p n
        ready_next = record {
          border = rw en (start_border eqb x (j + 1) q (omega (arith, walk_bare.2.proper)));
          most = λ k g b. rw en (start_most eqb x (j + 1) q k (omega (arith, walk_falls)) b);
          next = λ g. bare_same x n (q - 1) (omega (arith, is_next)) (omega (arith, en, start_lt eqb x (j + 1) q walk_some)) ∙ sym is_next;
        }

        bare_next : (p ≡ 0) ⊎ Bare x (j + 1) 0 p
        bare_next = ⊎_elim
            (λ (z : p ≡ 0). inl z)
            (λ (g : 0 < p). inr (g, rw is_next (bare_bare x (q - 1)), repeats_shorter eqb x (j + 1) q p walk_bare.2 g (omega (arith, walk_falls))))
            (eq-zero-or-pos p)

        -- longer than the next candidate are q and what is longer than q
        under : (k : ℕ) → Bare x (j + 1) p k → Under (reached eqb x (j + 1)) q (reached eqb x (j + 1) q) k ⊎ Under (reached eqb x (j + 1)) s.len s.count k
        under k b = ⊎_elim
            (λ (g : k ≤ q). ⊎_elim
            (λ (z : k ≡ q). inl (rw z (omega arith), λ _. omega arith))
            (λ (g : k < q). absurd (omega (arith, b.0, is_next, bare_most x (q - 1) k (omega arith) b.1)))
            (eq-or-lt_of_le g))
            (λ (g : q < k). inr (w.top.most k (g, b.1, b.2), w.top.least k (g, b.1, b.2)))
            (le_or_lt k q)

        pub walk_next : {r : Seed} → Taken s q (reached eqb x (j + 1) q) n r → Walk x (j + 1) p n r
        walk_next {r} y = ⊎_elim
            (λ v. rw v.1 (record {
              ready = ready_next;
              next = bare_next;
              top = top_join (inr ((walk_falls, walk_bare.1, walk_bare.2), omega arith)) under (wins_later q _ w.top (λ k b. omega (arith, b.0)) (repeats_reached eqb x (j + 1) q walk_bare.2) v.0);
              starts = en;
            }))
            (λ v. rw v.1 (record {
              ready = ready_next;
              next = bare_next;
              top = top_join
                  (⊎_elim (λ z. inl z) (λ g. inr ((omega (arith, g.0.0, walk_falls), g.0.1, g.0.2), omega (arith, g.1))) w.top.is)
                  (λ k b. ⊎_elim (λ a. inr a) (λ a. inl a) (under k b))
                  (inl v.0);
              starts = w.starts;
            }))
            y

pub walk_done : {x : List ℕ} {i q m : ℕ} {s : Seed} → Walk x i q m s → q ≡ 0 → Sown x i s
walk_done {x} {i} w z = record { seed = seed_all x i (rw z at w.top); starts = w.starts }
