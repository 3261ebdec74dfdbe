-- The order among patterns holds of every accepted log, and the list of covers is the chain that it makes. Assumes nothing.
use Rattle.std.proofs.Common.{◌≡◌, refl, ap, ◌∙◌, List, [], ◌∷◌, inl, inr, ⊎_elim, ℕ, ◌≤◌, ◌<◌, le_refl, eq-zero-or-pos, eq-or-lt_of_le, arith, eqb, length, get_or, take, drop}
use mathlib.Core.Path.{subst⁻¹}
use lib.Seq.{take-append_seam}
use Rattle.words.specs.Answers.{Yes}
use Rattle.words.specs.declared.Listed.{Listed}
use Rattle.words.specs.Words.{cover_list}
use Rattle.words.specs.Refusals.{log_no, table_no}
use Rattle.words.specs.Answers.{Outcome, outcome, rooms, cover_test_answer, cover_list_outcome}
use Rattle.words.proofs.Tests.{le_or_lt}
use Rattle.words.proofs.Listings.{Rising, listing_before}
use Rattle.words.proofs.Occurrences.{eqb_refl}
use Rattle.words.proofs.Covers.{covers_self, covers_antisym, covers_through, covers_nested}
use Rattle.words.proofs.CoverLists.{cover_list_entry, cover_list_place, cover_list_rises}
use Rattle.words.proofs.Refusals.{answer_yes, log_refused}
use Rattle.order.specs.Order.{Order, Chain, ChainList, Ordered, Chained, ListChained}
use Rattle.order.proofs.Answers.{yes_covers, covers_yes}

pub order : Ordered
order x z = record {
  self = λ i s h. covers_yes x i i z h (covers_self eqb x eqb_refl i s);
  antisym = λ q r a b. covers_antisym x q r (yes_covers x r q a).1 (yes_covers x q r b).1;
  through = λ q r i a b. let c = yes_covers x i r b in covers_yes x i q z c.0 (covers_through x q r i (yes_covers x r q a).1 c.1);
  nested = λ q r i a b h.
      let c = yes_covers x i r b in
      covers_yes x r q z (omega (arith, c.0, c.1.most)) (covers_nested x q r i (yes_covers x i q a).1 c.1 h);
}

-- ---- what follows from the four sentences alone

module _ (x : List ℕ) (o : Order x) (i : ℕ) where
  chain : Chain x i
  chain q r a b = ⊎_elim (λ h. inl (o.nested q r i a b h)) (λ h. inr (o.nested r q i b a (omega arith))) (le_or_lt q r)

  chain_list : (l : List ℕ) → Rising (λ q. cover_test_answer x i q ≡ Yes) l → ChainList x i l
  chain_list l s = record {
    all = s;
    before = λ j k a h. onto j k (omega arith) h;
    shortest = λ k m h c. o.through (get_or l 0 0) (get_or l k 0) m (onto 0 k (omega arith) h) c;
  }
    where
      rises : (j k : ℕ) → j ≤ k → k < length l → get_or l j 0 ≤ get_or l k 0
      rises j k a h = ⊎_elim
          (λ (e : j ≡ k). rw e (le_refl (get_or l k 0)))
          (λ (b : j < k). omega (arith, listing_before (λ a b. a < b) (λ a b c h l. omega arith) (λ q. cover_test_answer x i q ≡ Yes) l s j k b h))
          (eq-or-lt_of_le a)

      onto : (j k : ℕ) → j ≤ k → k < length l → cover_test_answer x (get_or l k 0) (get_or l j 0) ≡ Yes
      onto j k a h = o.nested (get_or l j 0) (get_or l k 0) i (s.only j (omega arith)) (s.only k h) (rises j k a h)

pub order_chain : Chained
order_chain x z = chain x (order x z)

-- ---- the list of covers, as the call leaves it

cover_chain : (x : List ℕ) → log_no (length x) ≡ 0 → ChainList x (length x) (cover_list eqb x)
cover_chain x z = chain_list x (order x z) (length x) (cover_list eqb x) record {
  only = λ k h. covers_yes x (length x) _ z (le_refl _) (cover_list_entry eqb x k h);
  all = λ q y. cover_list_place eqb x q (yes_covers x (length x) q y).1;
  order = cover_list_rises eqb x;
}

-- where the call is accepted, so is the log
table_log : (n : ℕ) (rs : List ℕ) → table_no n rs ≡ 0 → log_no n ≡ 0
unfolding table_no
table_log n rs z = ⊎_elim (λ h. h) (λ (h : 0 < log_no n). log_refused n _ _ refl (λ y. omega arith) ∙ z) (eq-zero-or-pos (log_no n))

pub order_list : ListChained
unfolding cover_list_outcome outcome rooms
order_list x t s a e z =
    let l = cover_list eqb x in
    let left : take a.used s ≡ l =
    ap (λ (o : Outcome Listed). take o.answer.used (get_or o.tables 0 [])) (e ∙ answer_yes (table_no (length x) (length t ∷ [])) _ _ z)
    ∙ take-append_seam l (drop (length l) t) in
    subst⁻¹ (ChainList x (length x)) left (cover_chain x (table_log (length x) _ z))
