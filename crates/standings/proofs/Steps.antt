-- What each way through the functions of the standings comes to, on plain lists and numbers. Assumes nothing.
use Rattle.std.proofs.Common.{true, ◌≡◌, refl, sym, ap, ◌∙◌, List, inl, inr, ⊎_elim, ℕ, ◌+◌, ◌-◌, ◌≤◌, ◌<◌, max, arith, eqb, length, get_or, eq-eqb, w64, Fits}
use Rattle.std.specs.Ordering.{ord_max}
use Rattle.words.specs.Words.{border, covered}
use Rattle.words.proofs.Tests.{le_or_lt}
use Rattle.words.proofs.Occurrences.{eqb_refl}
use Rattle.words.proofs.Borders.{Border, border_lt, border_border, border_most}
use Rattle.words.proofs.Bests.{Nonempty, best_best}
use Rattle.words.proofs.Counts.{covered_le}
use Rattle.tallies.specs.declared.Pick.{Pick}
use Rattle.tallies.specs.Tallies.{Tally, Tallies, Judgement}
use Rattle.repeats.specs.declared.Found.{Found}
use Rattle.repeats.specs.Better.{Better}
use Rattle.repeats.proofs.Choices.{by_worth, greater_wins}
use Rattle.repeats.specs.Repeats.{reached}
use Rattle.repeats.proofs.Repeating.{Repeats, repeats_none, repeats_zero, repeats_wider, repeats_border, repeats_step}
use Rattle.repeats.proofs.LeftCovers.{LeftCover, left_stays, left_moves}
use Rattle.repeats.proofs.Seeds.{LeftSeed, reached_le}
use Rattle.repeats.proofs.Starts.{start, start_none, start_lt, start_whole, start_end, start_grows, start_ends}
use Rattle.repeats.proofs.LeftSeeds.{seed_rests, seed_moves, seed_goes_on, left_bare}
use Rattle.candidates.specs.declared.Seed.{Seed}
use Rattle.candidates.specs.Candidates.{Made, Sown, Far}
use Rattle.standings.specs.declared.Standing.{Standing}
use Rattle.standings.specs.Standings.{Goes, Ends, Ended, Turns, Stands, After}

-- ---- `start_after`

module _ (b : List ℕ) (s : Seed) (len : ℕ) where
  pub after_longer : len ≡ s.len → s.start + 1 < len → After b s len (s.start + 1)
  after_longer e l = inl (e, l, refl)

  module _ (r : ℕ) (d : r ≡ get_or b (len - 1) 0) where
    pub after_same : len ≤ s.start + 1 → After b s len r
    after_same l = inr (λ _. l, d)

    pub after_other : (len ≡ s.len → ⊥) → After b s len r
    after_other ne = inr (λ e. absurd (ne e), d)

-- ---- a row's border

module _ {x b t f : List ℕ} (h : Made x b t f) where
  pub border_at : (q : ℕ) → 0 < q → q ≤ length x → get_or b (q - 1) 0 ≡ border eqb x q
  border_at q s l = h.borders.rows (q - 1) (omega arith) ∙ ap (border eqb x) (omega arith)

-- ---- `on`

module _ {x : List ℕ} {j : ℕ} {s : Seed} {b : Found} (g : Goes x j s b) where
  seed_is : Repeats eqb x j s.len × (s.count ≡ reached eqb x j s.len)
  seed_is = ⊎_elim (λ z. absurd (g.some z.0)) (λ v. v) g.sown.seed.is

  pub start_small : {c t f : List ℕ} → Made x c t f → s.start < 65536
  start_small h = omega (arith, g.sown.starts, start_lt eqb x j s.len seed_is.0.some, seed_is.0.proper, g.ended.inside, h.most)

  pub more_fits : {c t f : List ℕ} → Made x c t f → Fits w64 (s.count + 1)
  more_fits h = omega (arith, seed_is.1, reached_le eqb x j s.len, g.ended.inside, h.most)

  some_readings : 0 < j
  some_readings = omega (arith, seed_is.0.proper)

  follows_start : eqb (get_or x (start eqb x j s.len) 0) (get_or x j 0) ≡ true
  follows_start = eq-eqb _ _ (ap (λ (k : ℕ). get_or x k 0) (sym g.sown.starts) ∙ g.follows)

  module _ {m r : Found} (el : m.len ≡ s.len) (ec : m.count ≡ s.count + 1) (er : r ≡ ord_max by_worth m b) where
    o : Better m b r
    o = greater_wins er

    on_seed : LeftSeed eqb x (j + 1) r.len r.count
    on_seed = ⊎_elim
        (λ w. rw (w.0, el, ec) (seed_goes_on eqb x eqb_refl g.sown.seed g.ended.best some_readings seed_is.0.some follows_start (rw (el, ec) at w.1)))
        (λ w. rw w.0 (seed_moves eqb x eqb_refl g.sown.seed g.ended.best (rw (el, ec) at w.1)))
        o

    on_count : s.count + 1 ≤ r.count
    on_count = ⊎_elim (λ w. rw (w.0, ec) (omega arith)) (λ w. rw w.0 (⊎_elim (λ u. omega (arith, u)) (λ u. omega (arith, u.0)) (rw (el, ec) at w.1))) o

    on_repeats : Repeats eqb x (j + 1) r.len
    on_repeats = ⊎_elim (λ z. absurd (omega (arith, z.1, on_count))) (λ v. v.0) on_seed.is

    pub on_some : 0 < r.len
    on_some = on_repeats.some

    pub on_within : {c t f : List ℕ} → Made x c t f → r.len ≤ length c
    on_within h = omega (arith, on_repeats.proper, g.ended.inside, h.borders.room)

    -- a pattern that does not go on with a longer start ends there
    on_ends : (r.len ≡ s.len → r.len ≤ s.start + 1) → Border eqb x (j + 1) r.len
    on_ends short = ⊎_elim
        (λ w. let e : r.len ≡ s.len = ap (λ (f : Found). f.len) w.0 ∙ el in
        rw e (start_ends eqb x j s.len some_readings seed_is.0.some follows_start (omega (arith, short e, g.sown.starts, start_lt eqb x j s.len seed_is.0.some))))
        (λ w. rw w.0 (⊎_elim
        (λ z. absurd (omega (arith, z.1, on_count, ap (λ (f : Found). f.count) w.0)))
        (λ v. v.0.1)
        g.ended.best.is))
        o

    pub on_sown : {c t f : List ℕ} → Made x c t f → (n : ℕ) → After c s r.len n → Sown x (j + 1) (record { len = r.len; count = r.count; start = n })
    on_sown h n a = record {
      seed = on_seed;
      starts = ⊎_elim
          (λ u. u.2 ∙ ap (λ (k : ℕ). k + 1) g.sown.starts
          ∙ sym (start_grows eqb x j s.len some_readings seed_is.0.some follows_start (omega (arith, g.sown.starts, u.0, u.1)))
          ∙ ap (start eqb x (j + 1)) (sym u.0))
          (λ u. u.1 ∙ border_at h r.len on_some (omega (arith, on_repeats.proper, g.ended.inside)) ∙ sym (start_end x (j + 1) r.len on_some (on_ends u.0)))
          a;
    }

-- ---- `next`

module _ {x : List ℕ} {j : ℕ} {s : Seed} {b : Found} (w : Sown x j s) (e : Ended x j b) where
  pub goes_inside : (s.len ≡ 0 → ⊥) → s.start < length x
  goes_inside nz = ⊎_elim
      (λ z. absurd (nz z.0))
      (λ v. omega (arith, w.starts, start_lt eqb x j s.len v.0.some, v.0.proper, e.inside))
      w.seed.is

  pub goes : (s.len ≡ 0 → ⊥) → get_or x s.start 0 ≡ get_or x j 0 → Goes x j s b
  goes nz f = record { sown = w; some = nz; follows = f; ended = e }

  pub count_fits : {c t f : List ℕ} → Made x c t f → Fits w64 (s.count + 1)
  count_fits h = ⊎_elim (λ z. omega (arith, z.1)) (λ v. omega (arith, v.1, reached_le eqb x j s.len, e.inside, h.most)) w.seed.is

  pub ends : s.count + 1 < b.count → Ends x j s b
  ends h = record { sown = w; ended = e; more = h }

-- ---- `ending`

module _ {x : List ℕ} {j : ℕ} {s : Seed} {b : Found} (w : Ends x j s b) where
  ends_here : Nonempty eqb x (j + 1) b.len
  ends_here = ⊎_elim (λ z. absurd (omega (arith, z.1, w.more))) (λ v. v.0) w.ended.best.is

  pub ends_some : 0 < b.len
  ends_some = ends_here.0

  module _ {c t f : List ℕ} (h : Made x c t f) where
    pub ends_within : b.len - 1 < length c
    ends_within = omega (arith, ends_here.1.below, w.ended.inside, h.borders.room)

    pub ends_sown : (n : ℕ) → n ≡ get_or c (b.len - 1) 0 → Sown x (j + 1) (record { len = b.len; count = b.count; start = n })
    ends_sown n d = record {
      seed = seed_moves eqb x eqb_refl w.sown.seed w.ended.best (inl w.more);
      starts = d ∙ border_at h b.len ends_some (omega (arith, ends_here.1.below, w.ended.inside)) ∙ sym (start_end x (j + 1) b.len ends_some ends_here.1);
    }

-- ---- `rest`

module _ {x c t f : List ℕ} (h : Made x c t f) {j : ℕ} {left : Found} {far : ℕ} (w : Turns x j left far) where
  pub border_in : j < length c
  border_in = omega (arith, w.inside, h.borders.room)

  module _ (b : ℕ) (eb : b ≡ get_or c j 0) where
    pub is_border_lem : b ≡ border eqb x (j + 1)
    is_border_lem = eb ∙ h.borders.rows j w.inside

    module _ (lt : b < left.len) {l k : List ℕ} (y : Tallies x l k (j + 1)) where
      covers_is : Repeats eqb x (j + 1) left.len × (left.count ≡ covered eqb x (j + 1) left.len)
      covers_is = ⊎_elim (λ z. absurd (omega (arith, z.0))) (λ v. v) w.cover.is

      pub left_fits : Fits w64 (left.count + b)
      left_fits = omega (arith, covers_is.1, covered_le eqb x (j + 1) left.len, is_border_lem, border_lt eqb x (j + 1) (omega arith), w.inside, h.most)

      pub rests_in : left.len - 1 < length l
      rests_in = omega (arith, covers_is.0.proper, w.inside, y.lasts)

      tally : Tally x left.len (j + 1) (get_or l (left.len - 1) 0) (get_or k (left.len - 1) 0)
      tally = y.each left.len (omega arith) (omega (arith, covers_is.0.proper)) (left_bare x (j + 1) w.cover (omega arith))

      module _ (e : ℕ) (ee : e ≡ get_or l (left.len - 1) 0) where
        pub rests_fits : Fits w64 (e + b)
        rests_fits = omega (arith, ee, tally.within, is_border_lem, border_lt eqb x (j + 1) (omega arith), w.inside, h.most)

        pub rests_sown : e + b ≤ j + 1 → Sown x (j + 1) (record { len = left.len; count = left.count + b; start = b })
        rests_sown u = record {
          seed = rw is_border_lem (seed_rests eqb x (omega arith) w.cover (omega (arith, is_border_lem)) (get_or l (left.len - 1) 0) tally.from (omega (arith, is_border_lem, ee)) tally.occurs tally.last);
          starts = is_border_lem ∙ sym (start_whole eqb x (j + 1) left.len (omega arith) (omega (arith, is_border_lem)));
        }

-- ---- `stand`

pub stand_in : {x c t f : List ℕ} {j : ℕ} → Made x c t f → j < length x → j < length c
stand_in h l = omega (arith, h.borders.room)

pub ended : {x : List ℕ} {j : ℕ} {p : Pick} → j < length x → Judgement x j 0 p → Ended x j (record { len = p.best; count = p.count })
ended {x} {j} h g = record { inside = h; best = rw (g.best, g.count) (best_best eqb x (j + 1)) }

module _ {x : List ℕ} {j : ℕ} {s : Standing} {b : Found} (w : Stands x j s) (e : Ended x j b) where
  next_left : {r : Found} → r ≡ ord_max by_worth s.left b → LeftCover eqb x (j + 1) r.len r.count
  next_left er = ⊎_elim
      (λ u. rw u.0 (left_stays eqb x eqb_refl w.left e.best u.1))
      (λ u. rw u.0 (left_moves eqb x eqb_refl w.left e.best u.1))
      (greater_wins er)

  next_far : (f : ℕ) → f ≡ border eqb x (j + 1) → Far x (j + 1) (max s.far f)
  next_far f d = record {
    is = ⊎_elim
        (λ (g : f ≤ s.far). let z : max s.far f ≡ s.far = omega arith in
        rw z (⊎_elim (λ y. inl y) (λ r. inr (repeats_wider eqb x (j + 1) j s.far (omega arith) r)) w.far.is))
        (λ (g : s.far < f). let z : max s.far f ≡ f = omega arith in
        rw z (inr (repeats_border eqb x eqb_refl (j + 1) f (omega arith) (rw d (border_border eqb x (j + 1) (omega arith))))))
        (le_or_lt f s.far);
    most = λ q r. ⊎_elim
        (λ y. omega (arith, d, border_most eqb x (j + 1) q y))
        (λ y. omega (arith, w.far.most q y.repeats))
        (repeats_step eqb x j q r);
  }

  pub turns : {c t f : List ℕ} → Made x c t f → {r : Found} → r ≡ ord_max by_worth s.left b → (m far : ℕ) → m ≡ get_or c j 0 → far ≡ max s.far m → Turns x j r far
  turns h o m far d u = record {
    inside = e.inside;
    cover = next_left o;
    longest = rw u (next_far m (d ∙ h.borders.rows j e.inside));
  }

pub stands_next : {x : List ℕ} {j : ℕ} {seed : Seed} {left : Found} {far : ℕ} → Sown x (j + 1) seed → Turns x j left far → Stands x (j + 1) (record { seed = seed; left = left; far = far })
stands_next s t = record { seed = s; left = t.cover; far = t.longest }

-- ---- before the first reading

pub stands_none : (x : List ℕ) {s : Standing} → s.seed.len ≡ 0 → s.seed.count ≡ 0 → s.seed.start ≡ 0 → s.left.len ≡ 0 → s.left.count ≡ 0 → s.far ≡ 0 → Stands x 0 s
stands_none x sl sk ss ll lk fz = record {
  seed = record { seed = rw (sl, sk) (repeats_zero eqb x 0 (reached eqb x 0) (omega arith)); starts = rw (ss, sl) (sym (start_none eqb x 0)) };
  left = rw (ll, lk) (repeats_zero eqb x 0 (covered eqb x 0) (omega arith));
  far = record { is = inl fz; most = λ q r. absurd (repeats_none eqb x 0 q (omega arith) r) };
}
