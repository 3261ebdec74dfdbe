-- What each way through the weighed list's functions comes to, on plain lists and numbers. Assumes nothing.
use Rattle.std.proofs.Common.{◌≡◌, refl, sym, ap, ◌∙◌, List, [], ◌∷◌, ◌++◌, append_assoc, append-nil, ◌⊎◌, inl, inr, ⊎_elim, ℕ, ◌+◌, ◌-◌, ◌≤◌, ◌<◌, add-one, arith, eqb, length, get_or, set, replicate, length-append}
use lib.Count.{count_leading_zeros, leading_top}
use Rattle.words.specs.Words.{border, cover, weighed, used, limit}
use Rattle.words.specs.Tables.{border_row, cover_row}
use Rattle.words.specs.Refusals.{longest}
use Rattle.words.specs.Answers.{weighed_places, places, listed}
use Rattle.words.proofs.Tables.{Holds}
use Rattle.words.proofs.Borders.{border_lt}
use Rattle.words.proofs.Places.{places_none, places_more}
use Rattle.words.proofs.Limits.{limit_is}
use Rattle.words.proofs.Weighs.{Weighs, weighs_outer, heaviest, heaviest_weighs, heaviest_lt, heaviest_empty, heaviest_bare, heaviest_down, rest, rest_first, rest_next, rest_none, used_places}

-- ---- `exponent`

module _ (i : ℕ) (h : 0 < i) (s : i ≤ longest) where
  pub exponent_limit : 63 - count_leading_zeros 64 i ≡ limit i
  exponent_limit =
      let t = leading_top 64 i h (omega arith) in
      let e : 63 - count_leading_zeros 64 i ≡ t.0 = omega (arith, t.1) in
      e ∙ sym (limit_is t.0 i t.2 (rw add-one t.3))

-- ---- `heaviest`: the longest weighed border of i is that of q

pub record Down (x : List ℕ) (i q : ℕ) : Type 0 where
  pub some : 0 < q
  pub within : q ≤ length x
  pub same : heaviest x i ≡ heaviest x q

module _ {x s t : List ℕ} {i q : ℕ} (d : Down x i q) (hb : Holds border_row x s) (hc : Holds cover_row x t) where
  pub down_inside : q - 1 < length s
  down_inside = omega (arith, d.some, d.within, hb.room)

  module _ (b : ℕ) (e : b ≡ get_or s (q - 1) 0) where
    is_border_lem : b ≡ border eqb x q
    is_border_lem = e ∙ hb.rows (q - 1) (omega (arith, d.some, d.within)) ∙ ap (border eqb x) (omega (arith, d.some))

    pub down_empty : b ≡ 0 → b ≡ heaviest x i
    down_empty z = z ∙ sym (d.same ∙ heaviest_empty x q d.some (sym is_border_lem ∙ z))

    module _ (nz : b ≡ 0 → ⊥) where
      pub down_falls : b < q
      down_falls = omega (arith, is_border_lem, border_lt eqb x q d.some)

      pub down_cover : b - 1 < length t
      down_cover = omega (arith, down_falls, d.within, hc.room)

      is_cover : get_or t (b - 1) 0 ≡ cover eqb x (border eqb x q)
      is_cover = hc.rows (b - 1) (omega (arith, down_falls, d.within)) ∙ ap (cover eqb x) (omega (arith, is_border_lem))

      pub down_bare : get_or t (b - 1) 0 ≡ 0 → b ≡ heaviest x i
      down_bare z = is_border_lem ∙ sym (d.same ∙ heaviest_bare x q d.some (λ n. nz (is_border_lem ∙ n)) (sym is_cover ∙ z))

      pub down_next : (get_or t (b - 1) 0 ≡ 0 → ⊥) → Down x i b
      down_next ne = record {
        some = omega arith;
        within = omega (arith, down_falls, d.within);
        same = d.same ∙ heaviest_down x q d.some (λ n. nz (is_border_lem ∙ n)) (λ n. ne (is_cover ∙ n)) ∙ ap (heaviest x) (sym is_border_lem);
      }

pub down_start : (x : List ℕ) (i : ℕ) → 0 < i → i ≤ length x → Down x i i
down_start x i h l = record { some = h; within = l; same = refl }

-- ---- `list`: lens has the first k weighed borders of x, and those from w on are left

pub record Listing (x lens : List ℕ) (k w : ℕ) : Type 0 where
  pub below : w < length x
  pub weighs : (w ≡ 0) ⊎ Weighs eqb x (length x) w
  pub seen : List ℕ
  pub all : seen ++ rest x (length x) w ≡ weighed eqb x (length x)
  pub number : length seen ≡ k
  pub few : k ≤ weighed_places
  pub made : lens ≡ places weighed_places 0 seen

module _ {x : List ℕ} (some : 0 < length x) (short : length x ≤ longest) where
  pub listing_start : (w : ℕ) → w ≡ heaviest x (length x) → Listing x (replicate weighed_places 0) 0 w
  listing_start w z = record {
    below = omega (arith, heaviest_lt x (length x) some);
    weighs = rw z (heaviest_weighs x (length x));
    seen = [];
    all = rw z (rest_first x (length x));
    number = refl;
    few = omega arith;
    made = sym (places_none weighed_places 0);
  }

  module _ {lens : List ℕ} {k w : ℕ} (g : Listing x lens k w) (nz : w ≡ 0 → ⊥) where
    weighs : Weighs eqb x (length x) w
    weighs = ⊎_elim (λ z. absurd (nz z)) (λ c. c) g.weighs

    pub listing_room : k < weighed_places
    unfolding used
    listing_room =
        omega (
          arith,
          g.number,
          used_places x (length x) some short,
          ap length g.all,
          length-append g.seen (rest x (length x) w),
          ap length (rest_next x (length x) w weighs),
        )

    module _ (p : ℕ) (next : p ≡ heaviest x w) where
      pub listing_falls : p < w
      listing_falls = omega (arith, next, heaviest_lt x w (omega arith))

      pub listing_next : Listing x (set lens k w) (k + 1) p
      listing_next = record {
        below = omega (arith, listing_falls, g.below);
        weighs = rw next (⊎_elim (λ z. inl z) (λ d. inr (weighs_outer x (length x) w (heaviest x w) weighs.border d)) (heaviest_weighs x w));
        seen = g.seen ++ (w ∷ []);
        all = append_assoc g.seen (w ∷ []) (rest x (length x) p)
            ∙ rw next (ap (λ (l : List ℕ). g.seen ++ l) (sym (rest_next x (length x) w weighs))) ∙ g.all;
        number = length-append g.seen (w ∷ []) ∙ omega (arith, g.number);
        few = omega (arith, listing_room);
        made = rw g.made (places_more weighed_places 0 g.seen k w g.number listing_room);
      }

-- and at the end all of them
module _ {x lens : List ℕ} {k w : ℕ} (g : Listing x lens k w) (z : w ≡ 0) where
  done : g.seen ≡ weighed eqb x (length x)
  done = sym (append-nil g.seen) ∙ ap (λ (l : List ℕ). g.seen ++ l) (sym (rest_none x (length x))) ∙ rw z at g.all

  pub listing_done : (m : ℕ) → m ≡ limit (length x)
      → record { number = 0; used = k; limit = m; lens = lens } ≡ listed 0 (weighed eqb x (length x)) (limit (length x))
  unfolding listed
  listing_done m e = rw (← done, g.number, ← g.made, e)
